-- `show` of a text that has a message a line: what it writes, and how it ends.
use Rattle.std.specs.Prelude.{◌≡◌, ℕ, ◌⊎◌, Bool, true, false, if◌then◌else◌, List, [], ◌++◌, Option, map, codes, string_bytes}
use Rattle.std.specs.Fmt.{decimal}
use Rattle.std.specs.List.{list_all}
use Rattle.std.specs.Io.KnownBytes.{Appends, Consumes}
use Rattle.dia_dict.specs.Dictionary.{Dictionary}
use Rattle.dia_dict.specs.declared.IndexedBook.{IndexedBook}
use Rattle.dia_io.specs.declared.Exit.{Exit}
use Rattle.dia_io.specs.declared.Exit.TheVariants.{Yes, No, Bad}
use Rattle.dia_io.specs.declared.Input.{Input}
use Rattle.dia_io.specs.declared.Inputs.{Inputs}
use Rattle.dia_io.specs.Writing.{AppendsFront}
use Rattle.dia_streams.specs.FeedToSink.{FrontAnswered}
use Rattle.dia_streams.specs.Lines.{IsAnswered, recorded_lines}
use Rattle.dia_report.specs.Refusals.{dictionary_line}
use Rattle.dia_run.specs.declared.commands.Outcome.{Outcome}
use Rattle.dia_run.specs.Outcome.{Refuses}
use Rattle.dia_run.specs.Texts.{line, IsDictionaryText, IsNoDictionaryText, IsMessageText, IsNoMessageText}
use Rattle.dia_show.specs.declared.lines.Opening.{Opening}
use Rattle.dia_show.specs.declared.lines.Opening.TheVariants.{Ready, Refused}
use Rattle.dia_show.specs.declared.reading.BadValues.{BadValues}
use Rattle.dia_show.specs.Listing.{Manner}
use Rattle.dia_show.specs.Outcome.{IsNamedOutcome, IsShown}
use Rattle.dia_show.specs.Report.{IsRecordedOfLines}
use Rattle.dia_show.specs.Words.{IsNoValuesText, IsValuesText, plain_words, values_line}

-- what `show` writes for one message, and how it ends
abbrev pub Answer : Type 0
Answer = List ℕ × Exit

abbrev pub answer_of : Outcome → Answer
answer_of outcome = (string_bytes outcome.text, outcome.exit)

-- the answer of `show` to these inputs, with the line as the message
abbrev pub OfLine : Bool → Inputs → Input → Answer → Type 0
OfLine names inputs message answer =
    IsNamedOutcome names (record { first = inputs.first; second = inputs.second; table = inputs.table; message = message }) answer.0 answer.1

-- a line with the number of the text's line, and what `show` writes for that
abbrev pub numbered : ℕ → Answer → List ℕ
numbered n answer = line (codes "line " ++ decimal n) ++ answer.0

abbrev pub is_yes : Exit → Bool
is_yes Yes = true
is_yes No = false
is_yes Bad = false

-- each was shown to its end
abbrev pub each_whole : List Answer → Bool
each_whole answers = list_all (λ (a : Answer). is_yes a.1) answers

-- the dictionary is refused with this line, or the words of values are
abbrev pub RefusesInputs : Inputs → List ℕ → Type 0
RefusesInputs inputs recorded = ((why : List ℕ) × IsNoDictionaryText inputs.first why × (recorded ≡ dictionary_line 1 why))
    ⊎ ((d : Dictionary) × (bad : BadValues) × IsDictionaryText inputs.first d × IsNoValuesText inputs.table bad × (recorded ≡ values_line bad))

-- the text for the lines of these bytes, and how it ends: what is written of each line, in order, with yes where each was shown to its
-- end; or one line of an input that is refused
pub data IsLinesOutcome (names : Bool) (inputs : Inputs) (bytes text : List ℕ) (exit : Exit) : Type 0 where
  shown : (answers : List Answer) → ((recorded : List ℕ) → ¬ RefusesInputs inputs recorded) → IsAnswered (OfLine names inputs) bytes answers
      → text ≡ recorded_lines numbered answers → exit ≡ (if each_whole answers then Yes else No) → IsLinesOutcome names inputs bytes text exit
  refused : (recorded : List ℕ) → RefusesInputs inputs recorded → Refuses recorded text exit → IsLinesOutcome names inputs bytes text exit

-- these bytes were read, and the text for their lines was put
pub record AreLinesShown (names : Bool) (inputs : Inputs) (fed_old fed put_old put : Option (List ℕ)) (exit : Exit) : Type 0 where
  pub bytes : List ℕ
  pub text : List ℕ
  pub consumed : Consumes fed_old fed bytes
  pub outcome : IsLinesOutcome names inputs bytes text exit
  pub is_put : Appends put_old put text

-- a beginning of the text was put
abbrev pub IsFrontShown : Bool → Inputs → (fed_old fed put_old put : Option (List ℕ)) → Type 0
IsFrontShown names inputs fed_old fed put_old put = FrontAnswered (OfLine names inputs) (recorded_lines numbered) fed_old fed put_old put
    ⊎ ((recorded : List ℕ) × RefusesInputs inputs recorded × Consumes fed_old fed [] × AppendsFront put_old put (line recorded))

-- ---- with a dictionary and words that were read

-- the answer to a line, in this manner
abbrev pub IsLineShown : Manner → Dictionary → Input → Answer → Type 0
IsLineShown m d message answer = ((bytes : List ℕ) × IsMessageText message bytes × IsShown m d bytes answer.0 answer.1)
    ⊎ ((recorded : List ℕ) × IsNoMessageText message recorded × Refuses recorded answer.0 answer.1)

-- these bytes were read, and each line has an outcome, whose text was put
pub record AreOutcomesListed (P : Input → Outcome → Type 0) (recorded : ℕ → Outcome → List ℕ) (fed_old fed put_old put : Option (List ℕ)) (exit : Exit) : Type 0 where
  pub bytes : List ℕ
  pub verdicts : List Outcome
  pub consumed : Consumes fed_old fed bytes
  pub answered : IsAnswered P bytes verdicts
  pub is_put : Appends put_old put (recorded_lines recorded verdicts)
  pub is_exit : exit ≡ (if each_whole (map answer_of verdicts) then Yes else No)

-- what was read before the lines: the dictionary and the words, or one of them is refused with this text
abbrev pub IsOpening : (IndexedBook → Dictionary) → Bool → Inputs → Opening → Type 0
IsOpening meaning names inputs (Ready manner first) =
    IsDictionaryText inputs.first (meaning first.value.book) × IsValuesText inputs.table (plain_words manner.value.words) × (manner.value.names ≡ names)
IsOpening meaning names inputs (Refused answered) = IsRecordedOfLines inputs answered.report (string_bytes answered.text) answered.exit
    × ((recorded : List ℕ) × RefusesInputs inputs recorded × Refuses recorded (string_bytes answered.text) answered.exit)
