-- What `make` writes for its inputs, and how it ends.
use Rattle.std.specs.Prelude.{◌≡◌, ℕ, Bool, true, false, List, ◌++◌, Ok, Err, codes}
use Rattle.std.specs.Fmt.{decimal}
use Rattle.dia_terms.specs.Limits.{max_message_text}
use Rattle.dia_io.specs.declared.Exit.{Exit}
use Rattle.dia_io.specs.declared.Exit.TheVariants.{Yes}
use Rattle.dia_io.specs.declared.Input.{Input}
use Rattle.dia_io.specs.declared.Inputs.{Inputs}
use Rattle.dia_io.specs.Inputs.{Holds, IsOver}
use Rattle.dia_dict.specs.Dictionary.{Dictionary}
use Rattle.dia_text.specs.Faults.{kind_word}
use Rattle.dia_text.specs.Made.{made_lines}
use Rattle.dia_run.specs.Outcome.{Refuses}
use Rattle.dia_report.specs.Refusals.{dictionary_line}
use Rattle.dia_run.specs.Texts.{IsDictionaryText, IsNoDictionaryText}
use Rattle.dia_show.specs.declared.reading.BadValues.{BadValues}
use Rattle.dia_show.specs.Words.{Word, IsValuesText, IsNoValuesText, values_line}
use Rattle.dia_make.specs.Numbered.{numbered}
use Rattle.dia_make.specs.declared.reporting.BadText.{BadText}
use Rattle.dia_make.specs.declared.reporting.BadText.TheVariants as bad

abbrev pub bad_text_words : BadText → List ℕ
bad_text_words bad.TooLong = codes "too long"
bad_text_words (bad.Fault f) = kind_word f.kind ++ codes " at line " ++ decimal f.line

-- the line, without its line feed
abbrev pub text_line : BadText → List ℕ
text_line why = codes "text: " ++ bad_text_words why

-- the lines that the text of an input makes with a dictionary. `read` is what is read in place of a text
abbrev pub MakesBy : (List ℕ → List ℕ) → Dictionary → Input → List ℕ → Type 0
MakesBy read d input made = (bytes : List ℕ) × Holds input max_message_text bytes × (made_lines d (read bytes) ≡ Ok made)

-- why it makes none
abbrev pub MakesNoneBy : (List ℕ → List ℕ) → Dictionary → Input → BadText → Type 0
MakesNoneBy read d input bad.TooLong = IsOver input max_message_text
MakesNoneBy read d input (bad.Fault f) = (bytes : List ℕ) × Holds input max_message_text bytes × (made_lines d (read bytes) ≡ Err f)

abbrev pub Makes : Dictionary → Input → List ℕ → Type 0
Makes = MakesBy (λ text. text)

abbrev pub MakesNone : Dictionary → Input → BadText → Type 0
MakesNone = MakesNoneBy (λ text. text)

-- the dictionary is judged first
pub data IsMakeOutcome (inputs : Inputs) (text : List ℕ) (exit : Exit) : Type 0 where
  made : (d : Dictionary) → IsDictionaryText inputs.first d → Makes d inputs.message text → exit ≡ Yes → IsMakeOutcome inputs text exit
  refused : (d : Dictionary) (why : BadText) → IsDictionaryText inputs.first d → MakesNone d inputs.message why
      → Refuses (text_line why) text exit → IsMakeOutcome inputs text exit
  no_dictionary : (why : List ℕ) → IsNoDictionaryText inputs.first why → Refuses (dictionary_line 1 why) text exit
      → IsMakeOutcome inputs text exit

-- with words of values: the dictionary is judged first, then the words, then the text, which is read with their numbers
pub data IsValuedOutcome (inputs : Inputs) (text : List ℕ) (exit : Exit) : Type 0 where
  made_with : (d : Dictionary) (words : List Word) → IsDictionaryText inputs.first d → IsValuesText inputs.table words
      → MakesBy (numbered words) d inputs.message text → exit ≡ Yes → IsValuedOutcome inputs text exit
  refused_with : (d : Dictionary) (words : List Word) (why : BadText) → IsDictionaryText inputs.first d → IsValuesText inputs.table words
      → MakesNoneBy (numbered words) d inputs.message why → Refuses (text_line why) text exit → IsValuedOutcome inputs text exit
  dictionary_is_none : (why : List ℕ) → IsNoDictionaryText inputs.first why → Refuses (dictionary_line 1 why) text exit
      → IsValuedOutcome inputs text exit
  values_are_none : (d : Dictionary) (bad : BadValues) → IsDictionaryText inputs.first d → IsNoValuesText inputs.table bad
      → Refuses (values_line bad) text exit → IsValuedOutcome inputs text exit

-- with words of values or without them
abbrev pub IsMade : Bool → Inputs → List ℕ → Exit → Type 0
IsMade false inputs text exit = IsMakeOutcome inputs text exit
IsMade true inputs text exit = IsValuedOutcome inputs text exit
