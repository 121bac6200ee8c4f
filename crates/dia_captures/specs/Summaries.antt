-- The summary of a run: how many messages are valid or refute, and the reasons of the others, how often and where first.
use Rattle.std.specs.Prelude.{◌≡◌, ℕ, ◌-◌, List, [], ◌++◌, length, Option, None, Some, Result, IfOk, IsSomeAnd, codes}
use Rattle.std.specs.List.{flat_map}
use Rattle.std.specs.List.Sorted.{IsPermutation, IsNonDecreasingBy, IsStableByKey}
use Rattle.std.specs.Ordering.{nat_cmp}
use Rattle.std.specs.Fmt.{decimal}
use Rattle.std.specs.Io.KnownBytes.{Appends, Consumes}
use Rattle.std.specs.declared.alloc.AllocError.{AllocError}
use Rattle.dia_dict.specs.Dictionary.{Dictionary}
use Rattle.dia_terms.specs.declared.Unknown.{Unknown}
use Rattle.dia_terms.specs.declared.Levels.{Levels}
use Rattle.dia_io.specs.declared.Input.{Input}
use Rattle.dia_io.specs.declared.Inputs.{Inputs}
use Rattle.dia_streams.specs.Lines.{IsAnswered}
use Rattle.dia_streams.specs.Streams.{IsStreamRecorded, StillGives}
use Rattle.dia_run.specs.Texts.{IsDictionaryText}
use Rattle.dia_check.specs.Reasons.{reason_word}
use Rattle.dia_run.specs.Verdict.{subject_text}
use Rattle.dia_captures.specs.declared.verdicts.Checked.{Checked}
use Rattle.dia_captures.specs.declared.verdicts.Flaw.{Flaw}
use Rattle.dia_captures.specs.declared.verdicts.Flaw.TheVariants as flaw
use Rattle.dia_captures.specs.declared.reasons.Seen.{Seen}
use Rattle.dia_captures.specs.declared.reasons.Met.{Met}
use Rattle.dia_captures.specs.declared.summaries.Lines.{Lines}
use Rattle.dia_captures.specs.declared.summaries.Lines.TheVariants as lines
use Rattle.dia_captures.specs.Counts.{Item, checked_items, counted, mets_of, most_counted, others_seen, placed_items, refuted_items, recorded_mets, yes_of}
use Rattle.dia_captures.specs.Verdicts.{IsLineChecked, IsLineRefuted, IsPieceChecked, checked_line, flaw_text, placed_line, refuted_line}

-- it was made, and this holds of it, unless memory was refused to it
abbrev pub IsMade : {T : Type 0} → Option (Result T AllocError) → (T → Type 0) → Type 0
IsMade summary P = IsSomeAnd summary (λ made. IfOk made P)

-- ---- the text

abbrev pub yes_words : Lines → List ℕ
yes_words lines.Checked = codes "lines valid"
yes_words lines.Refuted = codes "lines refute"
yes_words lines.Placed = codes "messages valid"

abbrev pub place_words : Lines → List ℕ
place_words lines.Checked = codes "in line"
place_words lines.Refuted = codes "in line"
place_words lines.Placed = codes "at byte"

-- a flaw without its place
abbrev pub reason_text : Dictionary → Flaw → List ℕ
reason_text d (flaw.Fault fault) = codes "fault " ++ decimal fault.code ++ codes " " ++ reason_word fault.reason ++ codes " " ++ subject_text d fault.subject
reason_text d flaw.Truncated = flaw_text d flaw.Truncated
reason_text d flaw.Trailing = flaw_text d flaw.Trailing
reason_text d flaw.TooLong = flaw_text d flaw.TooLong
reason_text d flaw.NotHexadecimal = flaw_text d flaw.NotHexadecimal

-- where it was met first, at the end of its line
abbrev pub first_text : Lines → ℕ → List ℕ
first_text lines first = codes ", first " ++ place_words lines ++ codes " " ++ decimal first ++ codes "\n"

abbrev pub met_line : Dictionary → Lines → Met → List ℕ
met_line d lines met = decimal met.seen.times ++ codes " x " ++ reason_text d met.flaw ++ first_text lines met.seen.first

abbrev pub others_line : Lines → Option Seen → List ℕ
others_line lines None = []
others_line lines (Some s) = decimal s.times ++ codes " x other reasons" ++ first_text lines s.first

abbrev pub first_line : Lines → (those all : ℕ) → List ℕ
first_line lines those all = decimal those ++ codes " of " ++ decimal all ++ codes " " ++ yes_words lines ++ codes "\n"

-- lower for what was met more often
abbrev pub rank : Met → ℕ
rank met = most_counted - met.seen.times

-- the most frequent first; of equally frequent ones the one that was met first
pub record AreInOrder (mets recorded : List Met) : Type 0 where
  pub all : IsPermutation mets recorded
  pub rises : IsNonDecreasingBy rank recorded
  pub stable : IsStableByKey rank nat_cmp mets recorded

-- the summary of what was counted
pub record IsSummary (d : Dictionary) (lines : Lines) (items : List Item) (text : List ℕ) : Type 0 where
  pub recorded : List Met
  pub in_order : AreInOrder (recorded_mets (mets_of items)) recorded
  pub is : text ≡ first_line lines (counted (yes_of items)) (counted (length items)) ++ flat_map (met_line d lines) recorded ++ others_line lines (others_seen (mets_of items))

-- ---- of the verdicts that were shown

-- the verdicts on the lines that were read, whose text was put. P says which verdict a line has
pub record AreLinesSummed {V : Type 0} (P : Input → V → Type 0) (recorded : List V → List ℕ) (items_of : List V → List Item) (d : Dictionary) (lines : Lines)
    (fed_old fed put_old put : Option (List ℕ)) (text : List ℕ) : Type 0 where
  pub bytes : List ℕ
  pub verdicts : List V
  pub consumed : Consumes fed_old fed bytes
  pub answered : IsAnswered P bytes verdicts
  pub is_put : Appends put_old put (recorded verdicts)
  pub summary : IsSummary d lines (items_of verdicts) text

abbrev pub IsCheckSummary : Unknown → Levels → Inputs → (fed_old fed put_old put : Option (List ℕ)) → List ℕ → Type 0
IsCheckSummary u most inputs fed_old fed put_old put text = (d : Dictionary) × IsDictionaryText inputs.first d
    × AreLinesSummed (IsLineChecked u most d) (flat_map (checked_line d)) checked_items d lines.Checked fed_old fed put_old put text

abbrev pub IsRefuteSummary : Unknown → Levels → Inputs → (fed_old fed put_old put : Option (List ℕ)) → List ℕ → Type 0
IsRefuteSummary u most inputs fed_old fed put_old put text = (a : Dictionary) × (b : Dictionary) × IsDictionaryText inputs.first a × IsDictionaryText inputs.second b
    × AreLinesSummed (IsLineRefuted u most a b) (flat_map refuted_line) refuted_items a lines.Refuted fed_old fed put_old put text

-- the verdicts on all messages of a stream
pub record IsStreamSummary (u : Unknown) (most : Levels) (inputs : Inputs) (fed_old fed put_old put : Option (List ℕ)) (text : List ℕ) : Type 0 where
  pub d : Dictionary
  pub read : List ℕ
  pub verdicts : List (ℕ × Checked)
  pub is_first : IsDictionaryText inputs.first d
  pub consumed : Consumes fed_old fed read
  pub recorded : (rest : List ℕ) → StillGives fed rest → IsStreamRecorded (IsPieceChecked u most d) (read ++ rest) verdicts
  pub is_put : Appends put_old put (flat_map (placed_line d) verdicts)
  pub summary : IsSummary d lines.Placed (placed_items verdicts) text
