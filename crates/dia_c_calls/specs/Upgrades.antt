-- What breaks where messages of one dictionary are read by another.
use Rattle.std.specs.Prelude.{◌≡◌, ◌≢◌, ◌<◌, ◌⊎◌, ◌/◌, ◌%◌, ◌==◌, ℕ, suc, min, nat_eq, Bool, List, [], if◌then◌else◌}
use Rattle.std.specs.Str.{IsUtf8}
use Rattle.std.specs.Str.Lines.{lines}
use Rattle.dia_terms.specs.declared.Sends.{Sends}
use Rattle.dia_terms.specs.declared.Sends.TheVariants as sends
use Rattle.dia_book.specs.Dictionary.{Dictionary}
use Rattle.dia_accepted.specs.Accepted.{PlainEntry, max_list}
use Rattle.dia_compat.specs.Proposed.{IsFirstUnknown}
use Rattle.dia_io.specs.declared.Input.{Input}
use Rattle.dia_io.specs.declared.Exit.{Exit}
use Rattle.dia_io.specs.declared.Exit.TheVariants.{Bad}
use Rattle.dia_io.specs.Inputs.{IsWhole}
use Rattle.dia_upgrades.specs.declared.Asked.{Asked}
use Rattle.dia_upgrades.specs.declared.Stale.TheVariants.{Ignored}
use Rattle.dia_upgrades.specs.declared.BadList.{BadList}
use Rattle.dia_upgrades.specs.declared.BadList.TheVariants as list
use Rattle.dia_upgrades.specs.Asking.{names_of}
use Rattle.dia_upgrades.specs.InWords.{in_words}
use Rattle.dia_upgrades.specs.Lists.{IsListText, IsNoListText}
use Rattle.dia_upgrades.specs.Outcome.{IsAnyListed, NothingBreaks, NothingDiffers, NothingElseBreaks}
use Rattle.dia_c_calls.specs.declared.opening.Problem.{Problem}
use Rattle.dia_c_calls.specs.declared.wanted.Wanted.{Wanted}
use Rattle.dia_c_calls.specs.Comparisons.{holds_of}
use Rattle.dia_c_calls.specs.Openings.{problem}
use Rattle.dia_c_calls.specs.Verdicts.{IsUnknownPolicy, policy_of}

-- ---- what is wanted, as numbers

abbrev pub IsSender : ℕ → Type 0
IsSender n = (n ≡ 0) ⊎ (n ≡ 1) ⊎ (n ≡ 2) ⊎ (n ≡ 3)

abbrev pub AreNumbers : ℕ → ℕ → ℕ → Type 0
AreNumbers sends unknown options = IsSender sends × IsUnknownPolicy unknown × (options < 8)

-- 1 sends what it knows, 2 what it lists, 3 what it lists or fills, and any other number all
abbrev pub sender_of : ℕ → Sends
sender_of n = if nat_eq n 1 then sends.Known else (if nat_eq n 2 then sends.Listed else (if nat_eq n 3 then sends.Filled else sends.Any))

-- the options are 1, 2 and 4, and are added up
abbrev pub has_option : ℕ → ℕ → Bool
has_option options option = options / option % 2 == 1

-- 1 is for messages, 2 for one line a cause, and 4 for meanings
abbrev pub wanted_of : ℕ → ℕ → ℕ → Wanted
wanted_of sends unknown options = record {
  sends = sender_of sends;
  unknown = policy_of unknown;
  messages = has_option options 1;
  once = has_option options 2;
  meaning = has_option options 4;
}

-- this is asked of the command: what is wanted, of the commands whose names are the lines of the text. No entry of the list is stale for it
pub record IsAskedBy (wanted : Wanted) (commands : List ℕ) (asked : Asked) : Type 0 where
  pub sends : asked.sends ≡ wanted.sends
  pub unknown : asked.unknown ≡ wanted.unknown
  pub messages : asked.messages ≡ wanted.messages
  pub once : asked.once ≡ wanted.once
  pub meaning : asked.meaning ≡ wanted.meaning
  pub stale : asked.stale ≡ Ignored
  pub names : names_of asked ≡ lines commands

-- ---- what is answered

-- nothing breaks, or nothing but what the list of accepted lines accepts; where meanings are wanted, nothing is read as another format,
-- or nothing but what the list accepts
abbrev pub IsSafe : Asked → Input → Dictionary → Dictionary → Type 0
IsSafe asked input a b = (NothingBreaks asked a b × NothingDiffers asked a b)
    ⊎ ((list : List PlainEntry) × IsListText input list × NothingElseBreaks asked list a b)

-- it writes this text, in words, which says what breaks, or that nothing does: then it is safe
pub record IsRecordedOf (asked : Asked) (input : Input) (a b : Dictionary) (text : List ℕ) (safe : ℕ) : Type 0 where
  pub exit : Exit
  pub listed : IsAnyListed in_words asked input a b text exit
  pub answered : exit ≢ Bad
  pub safe_is : safe ≡ holds_of exit
  pub says : safe ≡ 1 → IsSafe asked input a b

-- what `diacmd breaking` writes, of the commands of these names and with these accepted lines
pub record HasListed (a b : Dictionary) (wanted : Wanted) (commands accepted text : List ℕ) (safe : ℕ) : Type 0 where
  pub asked : Asked
  pub input : Input
  pub utf8 : IsUtf8 commands
  pub is_asked : IsAskedBy wanted commands asked
  pub is_list : IsWhole input max_list accepted
  pub recorded : IsRecordedOf asked input a b text safe

-- ---- what is refused

-- why a text is no list of accepted lines
abbrev pub list_problem : BadList → Problem
list_problem list.TooLong = problem 3 0 0
list_problem (list.NotText at) = problem 0 0 0
list_problem (list.Syntax n at) = problem 1 n 0
list_problem (list.Limit n) = problem 3 n 0

-- the number of a line by its place, as far as 32 bits have one
abbrev pub line_number : ℕ → ℕ
line_number place = min (suc place) 4294967295

-- the first name that no command has is on this line
abbrev pub IsLineOfUnknown : Dictionary → List (List ℕ) → ℕ → Type 0
IsLineOfUnknown d names line = (name : List ℕ) × (first : IsFirstUnknown d names name) × (line ≡ line_number first.place)

-- the list is none, or the commands of these names can't be asked for
pub data IsUnlisted (d : Dictionary) (input : Input) (names : List (List ℕ)) (p : Problem) : Type 0 where
  bad_list : (bad : BadList) → IsNoListText input bad → p ≡ list_problem bad → IsUnlisted d input names p
  no_commands : d.commands ≡ [] → p ≡ problem 30 0 0 → IsUnlisted d input names p
  no_command : (line : ℕ) → IsLineOfUnknown d names line → p ≡ problem 31 line 0 → IsUnlisted d input names p

-- so it is of these texts
pub data IsNotListed (d : Dictionary) (commands accepted : List ℕ) (p : Problem) : Type 0 where
  no_names : ¬ IsUtf8 commands → p ≡ problem 31 0 0 → IsNotListed d commands accepted p
  unlisted : (input : Input) → IsUtf8 commands → IsWhole input max_list accepted → IsUnlisted d input (lines commands) p → IsNotListed d commands accepted p
