-- The summary of a run is that of the verdicts that were shown.
use Rattle.std.proofs.Common.{◌≡◌, ℕ, List, ◌++◌, Option, None, Some, Result, Ok, Err, ap, ap₂, subst, ◌∙◌}
use Rattle.std.specs.Prelude.{IfOk, ◌≢◌}
use Rattle.std.specs.declared.alloc.AllocError.{AllocError}
use Rattle.std.specs.List.{flat_map}
use Rattle.std.specs.Io.KnownBytes.{Appends}
use Rattle.dia_dict.specs.Dictionary.{Dictionary}
use Rattle.dia_terms.specs.declared.Unknown.{Unknown}
use Rattle.dia_terms.specs.declared.Levels.{Levels}
use Rattle.dia_io.specs.declared.Input.{Input}
use Rattle.dia_io.specs.declared.Inputs.{Inputs}
use Rattle.dia_io.specs.declared.Exit.{Exit}
use Rattle.dia_io.specs.declared.Exit.TheVariants.{Bad}
use Rattle.dia_streams.specs.Lines.{recorded_lines}
use Rattle.dia_streams.proofs.LineNumbers.{without_numbers}
use Rattle.dia_captures.specs.Runs.{IsStreamSummed}
use Rattle.dia_run.specs.Texts.{IsDictionaryText}
use Rattle.dia_captures.specs.declared.summaries.Lines.{Lines}
use Rattle.dia_captures.specs.declared.summaries.Lines.TheVariants as lines
use Rattle.dia_captures.specs.declared.reasons.Met.{Met}
use Rattle.dia_captures.specs.declared.tally.Tally.{Tally}
use Rattle.dia_captures.specs.Counts.{HasCounted, Item, checked_items, refuted_items}
use Rattle.dia_captures.specs.Summaries.{AreInOrder, AreLinesSummed, IsCheckSummary, IsMade, IsRefuteSummary, IsStreamSummary, IsSummary, first_line, met_line, others_line}
use Rattle.dia_captures.specs.Verdicts.{IsLineChecked, IsLineRefuted, IsPieceChecked, checked_line, placed_line, refuted_line}

-- ---- none

pub unsummed : {C E T : Type 0} (sum : C → Option (Result T AllocError)) (exit_of : C → Exit) (r : Result C E) (P : T → Type 0) → IfOk r (λ x. exit_of x ≡ Bad)
    → IfOk r (λ x. exit_of x ≢ Bad → IsMade (sum x) P)
unsummed sum exit_of (Ok x) P bad = λ other. absurd (other bad)
unsummed sum exit_of (Err e) P bad = tt

-- ---- one

pub made_as : {T : Type 0} (now : Option (Result T AllocError)) (P Q : T → Type 0) → ((text : T) → P text → Q text) → IsMade now P → IsMade now Q
made_as None P Q f h = absurd h
made_as (Some (Err refused)) P Q f h = tt
made_as (Some (Ok text)) P Q f h = f text h

-- where no line has its number
without_number : {V : Type 0} (P : Input → V → Type 0) (recorded : V → List ℕ) (items_of : List V → List Item) (d : Dictionary) (l : Lines) (fed_old fed put_old put : Option (List ℕ)) (text : List ℕ)
    → AreLinesSummed P (recorded_lines (λ number verdict. recorded verdict)) items_of d l fed_old fed put_old put text → AreLinesSummed P (flat_map recorded) items_of d l fed_old fed put_old put text
without_number P recorded items_of d l fed_old fed put_old put text h = record {
  bytes = h.bytes;
  verdicts = h.verdicts;
  consumed = h.consumed;
  answered = h.answered;
  is_put = subst (Appends put_old put) (without_numbers recorded 1 h.verdicts) h.is_put;
  summary = h.summary;
}

module _ {T : Type 0} (text_of : T → List ℕ) (fed_old fed put_old put : Option (List ℕ)) (u : Unknown) (most : Levels) (inputs : Inputs) (a : Dictionary)
    (is_a : IsDictionaryText inputs.first a) (now : Option (Result T AllocError)) where
  pub check_summed : IsMade now (λ text. AreLinesSummed (IsLineChecked u most a) (recorded_lines (λ number verdict. checked_line a verdict)) checked_items a lines.Checked fed_old fed put_old put (text_of text))
      → IsMade now (λ text. IsCheckSummary u most inputs fed_old fed put_old put (text_of text))
  check_summed made = made_as now _ (λ text. IsCheckSummary u most inputs fed_old fed put_old put (text_of text))
      (λ text s. (a, is_a, without_number (IsLineChecked u most a) (checked_line a) checked_items a lines.Checked fed_old fed put_old put (text_of text) s)) made

  pub refute_summed : (b : Dictionary) → IsDictionaryText inputs.second b
      → IsMade now (λ text. AreLinesSummed (IsLineRefuted u most a b) (recorded_lines (λ number verdict. refuted_line verdict)) refuted_items a lines.Refuted fed_old fed put_old put (text_of text))
      → IsMade now (λ text. IsRefuteSummary u most inputs fed_old fed put_old put (text_of text))
  refute_summed b is_b made = made_as now _ (λ text. IsRefuteSummary u most inputs fed_old fed put_old put (text_of text))
      (λ text s. (a, b, is_a, is_b, without_number (IsLineRefuted u most a b) refuted_line refuted_items a lines.Refuted fed_old fed put_old put (text_of text) s)) made

  pub stream_summed : IsMade now (λ text. IsStreamSummed (IsPieceChecked u most a) (placed_line a) a fed_old fed put_old put (text_of text))
      → IsMade now (λ text. IsStreamSummary u most inputs fed_old fed put_old put (text_of text))
  stream_summed made = made_as now _ (λ text. IsStreamSummary u most inputs fed_old fed put_old put (text_of text))
      (λ text h. record {
        d = a;
        read = h.read;
        verdicts = h.verdicts;
        is_first = is_a;
        consumed = h.consumed;
        recorded = h.answered;
        is_put = h.is_put;
        summary = h.summary;
      }) made

-- ---- its text

pub summary_of : (d : Dictionary) (l : Lines) (tally : Tally) (items : List Item) (recorded : List Met) (a b c : List ℕ) → HasCounted tally items → tally.reasons.refused ≡ None
    → AreInOrder tally.reasons.kept.items recorded → a ≡ first_line l tally.yes tally.all → b ≡ a ++ flat_map (met_line d l) recorded
    → c ≡ b ++ others_line l tally.reasons.others → IsSummary d l items c
summary_of d l tally items recorded a b c h live order is_a is_b is_c =
    let (kept, others) = h.reasons live in record {
      recorded = recorded;
      in_order = subst (λ (ms : List Met). AreInOrder ms recorded) kept order;
      is = is_c ∙ ap₂ (λ (t o : List ℕ). t ++ o)
          (is_b ∙ ap (λ (t : List ℕ). t ++ flat_map (met_line d l) recorded) (is_a ∙ ap₂ (λ (those all : ℕ). first_line l those all) h.yes h.all))
          (ap (others_line l) others);
    }
