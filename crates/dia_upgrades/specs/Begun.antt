-- What is written where `breaking` doesn't come to its end.
use Rattle.std.specs.Prelude.{◌≡◌, ◌⊎◌, false, List, [], ◌++◌, ℕ}
use Rattle.dia_book.specs.Dictionary.{Dictionary}
use Rattle.dia_io.specs.declared.Exit.{Exit}
use Rattle.dia_io.specs.declared.Input.{Input}
use Rattle.dia_io.specs.declared.Inputs.{Inputs}
use Rattle.dia_run.specs.Texts.{IsDictionaryText}
use Rattle.dia_accepted.specs.Accepted.{PlainEntry}
use Rattle.dia_upgrades.specs.declared.asked.Asked.{Asked}
use Rattle.dia_upgrades.specs.Asking.{names_of}
use Rattle.dia_upgrades.specs.Lists.{IsListText}
use Rattle.dia_upgrades.specs.Outcome.{CanAsk, IsAnyListed, IsBreakingOutcome, sides_in}
use Rattle.dia_upgrades.specs.Places.{asked_places}
use Rattle.dia_upgrades.specs.Recorded.{AreRecorded, written}
use Rattle.dia_upgrades.specs.InWords.{in_words}
use Rattle.dia_upgrades.specs.Rows.{Row, left_of}
use Rattle.dia_upgrades.specs.Writing.{Writing}

-- nothing is written yet; or the lines that the list doesn't accept of the first commands, from the first on, up to the end of one of them
pub data IsBegun (w : Writing) (asked : Asked) (input : Input) (a b : Dictionary) (text : List ℕ) : Type 0 where
  nothing_yet : text ≡ [] → IsBegun w asked input a b text
  some_lines : (list : List PlainEntry) (places rest : List ℕ) (recorded apart first more : List Row) → IsListText input list → CanAsk asked a → asked.once ≡ false
      → asked_places a (names_of asked) ≡ places ++ rest → AreRecorded (sides_in asked a b) asked.messages asked.meaning places recorded apart
      → left_of list recorded ≡ first ++ more → text ≡ written w first → IsBegun w asked input a b text

-- such lines, or all that is written
abbrev pub IsBegunOrWhole : Writing → Asked → Input → Dictionary → Dictionary → List ℕ → Type 0
IsBegunOrWhole w asked input a b text = IsBegun w asked input a b text ⊎ ((exit : Exit) × IsAnyListed w asked input a b text exit)

-- ---- of the inputs, in words

-- nothing is written yet; or such lines of these dictionaries
pub data IsOutcomeBegun (asked : Asked) (inputs : Inputs) (text : List ℕ) : Type 0 where
  nothing : text ≡ [] → IsOutcomeBegun asked inputs text
  begun : (a b : Dictionary) → IsDictionaryText inputs.first a → IsDictionaryText inputs.second b → IsBegun in_words asked inputs.table a b text → IsOutcomeBegun asked inputs text

abbrev pub IsOutcomeBegunOrWhole : Asked → Inputs → List ℕ → Type 0
IsOutcomeBegunOrWhole asked inputs text = IsOutcomeBegun asked inputs text ⊎ ((exit : Exit) × IsBreakingOutcome asked inputs text exit)
