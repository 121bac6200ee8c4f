-- Runs of which a dictionary is refused.
use Rattle.std.proofs.Common.{◌≡◌, ◌≢◌, ℕ, List, Option, Result, Ok, Err, refl, sym, subst, inl, inr}
use Rattle.std.specs.Prelude.{IfOk, IsErr, IsOk, string_bytes}
use Rattle.std.specs.List.{flat_map}
use Rattle.std.specs.Io.KnownBytes.{Appends}
use Rattle.std.proofs.lemmas.Bool.{false≢true}
use Rattle.dia_dict.specs.Dictionary.{Dictionary}
use Rattle.dia_terms.specs.declared.Unknown.{Unknown}
use Rattle.dia_terms.specs.declared.Levels.{Levels}
use Rattle.dia_io.specs.declared.Inputs.{Inputs}
use Rattle.dia_io.specs.declared.Exit.TheVariants as exits
use Rattle.dia_io.specs.Writing.{AppendsFront}
use Rattle.dia_streams.specs.declared.fault.LinesFault.{LinesFault}
use Rattle.dia_streams.specs.declared.fault.LinesFault.TheVariants as faults
use Rattle.dia_streams.specs.FeedToSink.{LinesAnswered}
use Rattle.dia_report.specs.declared.refusing.Refused.{Refused}
use Rattle.dia_report.specs.declared.reporting.Answered.{Answered}
use Rattle.dia_report.specs.declared.refusing.Refused.TheVariants.{Bad, NoMemory}
use Rattle.dia_report.specs.Refusals.{dictionary_line}
use Rattle.dia_run.specs.Texts.{line, IsDictionaryText, IsNoDictionaryText}
use Rattle.dia_report.specs.Refusals.{RecordsOf}
use Rattle.dia_run.specs.Report.{RecordsRefusal}
use Rattle.dia_run.proofs.RefusedInputs.{RecordsOf-map}
use Rattle.dia_captures.specs.declared.runs.Captured.{Captured}
use Rattle.dia_captures.specs.Lines.{MessageCommand, OfLine, text_of, AreLinesAnswered, IsFrontPut, refutations}
use Rattle.dia_run.specs.RefusedDictionaries.{RefusesFirst}
use Rattle.dia_captures.proofs.LinesOfMessages.{all_refused, front_refused, nothing_answered, nothing_put}

-- what holds of a refusal's text holds of the line that it is
pub records_line : (P : List ℕ → Type 0) (r : Refused) (a : Answered) → RecordsRefusal r a → P (string_bytes a.text) → RecordsOf (λ recorded. P (line recorded)) r
records_line P (Bad bad) a records h = subst P records.1.0 h
records_line P NoMemory a none h = absurd none

pub ends_badly : (r : Refused) (a : Answered) → RecordsRefusal r a → a.exit ≡ exits.Bad
ends_badly (Bad bad) a records = records.1.1
ends_badly NoMemory a none = absurd none

pub has_memory : (r : Refused) (a : Answered) → RecordsRefusal r a → r ≢ NoMemory
has_memory (Bad bad) a records = λ e. cc
has_memory NoMemory a none = absurd none

-- the first of two dictionaries is refused
pub first_records : (u : Unknown) (most : Levels) (inputs : Inputs) (r : Refused) → RecordsOf (RefusesFirst inputs) r → RecordsOf ((refutations u most).refuses inputs) r
first_records u most inputs r h = RecordsOf-map (RefusesFirst inputs) ((refutations u most).refuses inputs) r (λ recorded why. inl why) h

-- the second is
pub second_records : (u : Unknown) (most : Levels) (inputs : Inputs) (a : Dictionary) (r : Refused) → IsDictionaryText inputs.first a
    → RecordsOf (λ recorded. (why : List ℕ) × IsNoDictionaryText inputs.second why × (recorded ≡ dictionary_line 2 why)) r
    → RecordsOf ((refutations u most).refuses inputs) r
second_records u most inputs a r is_a h =
    RecordsOf-map (λ recorded. (why : List ℕ) × IsNoDictionaryText inputs.second why × (recorded ≡ dictionary_line 2 why)) ((refutations u most).refuses inputs) r
    (λ recorded why. inr (a, is_a, why)) h

module _ (command : MessageCommand) (inputs : Inputs) (fed old new : Option (List ℕ)) (why : Refused) where
  -- its line was put
  pub refusal_answered : (r : Result Captured LinesFault) → RecordsOf (command.refuses inputs) why → (why ≡ NoMemory → r ≡ Err faults.NoMemory)
      → IfOk r (λ x. x.reported.exit ≡ exits.Bad) → (IsOk r → RecordsOf (λ recorded. Appends old new (line recorded)) why)
      → IfOk r (λ x. AreLinesAnswered command inputs fed fed old new x.reported.exit)
  refusal_answered (Ok x) records memory bad is_put =
      all_refused command inputs fed old new why x.reported.exit (λ none. let e : Ok x ≡ Err faults.NoMemory = memory none in cc) records (is_put refl) bad
  refusal_answered (Err fault) records memory bad is_put = tt

  -- a beginning of it was put, or nothing
  pub refusal_front : (r : Result Captured LinesFault) → RecordsOf (command.refuses inputs) why → (why ≡ NoMemory → r ≡ Err faults.NoMemory)
      → (r ≡ Err faults.Device → RecordsOf (λ recorded. AppendsFront old new (line recorded)) why) → (r ≡ Err faults.NoMemory → new ≡ old)
      → r ≢ Err faults.Endless → IsErr r → IsFrontPut command inputs fed fed old new
  refusal_front (Ok x) records memory front nothing counted err = absurd (false≢true err)
  refusal_front (Err faults.Device) records memory front nothing counted err =
      front_refused command inputs fed old new why (λ none. let e : Err faults.Device ≡ Err faults.NoMemory = memory none in cc) records (front refl)
  refusal_front (Err faults.NoMemory) records memory front nothing counted err =
      subst (λ (p : Option (List ℕ)). IsFrontPut command inputs fed fed old p) (sym (nothing refl)) (nothing_put command inputs fed old)
  refusal_front (Err faults.Endless) records memory front nothing counted err = absurd (counted refl)

-- no memory for a dictionary
pub refusal_nothing : (command : MessageCommand) (inputs : Inputs) (fed old new : Option (List ℕ)) → new ≡ old → LinesAnswered (OfLine command inputs) (flat_map text_of) fed fed old new
refusal_nothing command inputs fed old new same =
    subst (λ (p : Option (List ℕ)). LinesAnswered (OfLine command inputs) (flat_map text_of) fed fed old p) (sym same) (nothing_answered command inputs fed old)
