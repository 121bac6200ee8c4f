-- What `follow` writes for a dictionary and the lines of a connection, and how it ends.
use Rattle.std.specs.Prelude.{◌≡◌, ℕ, ◌⊎◌, Bool, true, false, List}
use Rattle.dia_io.specs.declared.Exit.{Exit}
use Rattle.dia_io.specs.declared.Input.{Input}
use Rattle.dia_dict.specs.Dictionary.{Dictionary}
use Rattle.dia_report.specs.Refusals.{dictionary_line}
use Rattle.dia_run.specs.Outcome.{Refuses}
use Rattle.dia_run.specs.Texts.{IsDictionaryText, IsNoDictionaryText}
use Rattle.dia_refused_json.specs.Recording.{IsDictionaryRefusal}
use Rattle.dia_follow_text.specs.declared.options.Options.{Options}
use Rattle.dia_follow_text.specs.Outcome.{IsFollowed}

-- the dictionary is refused
abbrev pub RefusesDictionary : Input → List ℕ → Type 0
RefusesDictionary input recorded = (why : List ℕ) × IsNoDictionaryText input why × (recorded ≡ dictionary_line 1 why)

abbrev pub IsDictionaryRefused : Bool → Input → List ℕ → Exit → Type 0
IsDictionaryRefused true input text exit = IsDictionaryRefusal (RefusesDictionary input) input text exit
IsDictionaryRefused false input text exit = (recorded : List ℕ) × RefusesDictionary input recorded × Refuses recorded text exit

-- what `follow` writes for this dictionary and these bytes, and the exit
abbrev pub IsFollowOutcome : Options → Input → List ℕ → List ℕ → Exit → Type 0
IsFollowOutcome options dictionary bytes text exit = ((d : Dictionary) × IsDictionaryText dictionary d × IsFollowed d options bytes text exit)
    ⊎ IsDictionaryRefused options.json dictionary text exit

-- these bytes have one answer and one exit
abbrev pub HasOneAnswer : Options → Input → List ℕ → Type 0
HasOneAnswer options dictionary bytes = (text other : List ℕ) (exit ending : Exit) → IsFollowOutcome options dictionary bytes text exit
    → IsFollowOutcome options dictionary bytes other ending → (text ≡ other) × (exit ≡ ending)
