-- What `show` writes with words of values and names, and how it ends.
use Rattle.std.specs.Prelude.{ℕ, Bool, List, Result, Ok, Err, string_bytes}
use Rattle.dia_io.specs.declared.Exit.{Exit}
use Rattle.dia_io.specs.declared.Exit.TheVariants.{Bad}
use Rattle.dia_io.specs.declared.Inputs.{Inputs}
use Rattle.dia_dict.specs.Dictionary.{Dictionary}
use Rattle.dia_report.specs.declared.refusing.Refused.{Refused}
use Rattle.dia_report.specs.Refusals.{RecordsOf, dictionary_line}
use Rattle.dia_run.specs.Outcome.{IsWritten, Refuses}
use Rattle.dia_run.specs.Texts.{line, IsDictionaryText, IsNoDictionaryText, IsMessageText, IsNoMessageText}
use Rattle.dia_show.specs.declared.reading.BadValues.{BadValues}
use Rattle.dia_show.specs.declared.reporting.Answered.{Answered}
use Rattle.dia_show.specs.Listing.{Manner, IsNamedRow}
use Rattle.dia_show.specs.Words.{Word, IsValuesText, IsNoValuesText, values_line}

-- a message in this manner: its lines; or it is refused
abbrev pub IsShown : Manner → Dictionary → List ℕ → List ℕ → Exit → Type 0
IsShown m d bytes text exit = IsWritten (IsNamedRow m) d bytes text exit

-- the inputs: the dictionary is judged first, then the words of values, then the message
pub data IsNamedOutcome (names : Bool) (inputs : Inputs) (text : List ℕ) (exit : Exit) : Type 0 where
  shown : (d : Dictionary) (words : List Word) (bytes : List ℕ) → IsDictionaryText inputs.first d → IsValuesText inputs.table words
      → IsMessageText inputs.message bytes → IsShown (record { words = words; names = names }) d bytes text exit → IsNamedOutcome names inputs text exit
  no_dictionary : (why : List ℕ) → IsNoDictionaryText inputs.first why → Refuses (dictionary_line 1 why) text exit
      → IsNamedOutcome names inputs text exit
  no_values : (d : Dictionary) (bad : BadValues) → IsDictionaryText inputs.first d → IsNoValuesText inputs.table bad
      → Refuses (values_line bad) text exit → IsNamedOutcome names inputs text exit
  no_message : (d : Dictionary) (words : List Word) (recorded : List ℕ) → IsDictionaryText inputs.first d → IsValuesText inputs.table words
      → IsNoMessageText inputs.message recorded → Refuses recorded text exit → IsNamedOutcome names inputs text exit

-- the answer has P, and so has the line of a refusal
abbrev pub Gives : (List ℕ → Exit → Type 0) → Result Answered Refused → Type 0
Gives P (Ok answered) = P (string_bytes answered.text) answered.exit
Gives P (Err why) = RecordsOf (λ recorded. P (line recorded) Bad) why
