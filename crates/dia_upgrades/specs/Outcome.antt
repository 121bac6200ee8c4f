-- What `breaking` writes for its inputs, and how it ends.
use Rattle.std.specs.Prelude.{◌≡◌, ◌≢◌, ◌⊎◌, ⊤, ℕ, Bool, true, false, if◌then◌else◌, List, [], ◌++◌, Some, Contains, filter, length, map, min, slice_get}
use Rattle.std.specs.Global.{Vec}
use Rattle.std.specs.List.{AllByRecursion, list_any}
use Rattle.dia_book.specs.Dictionary.{Dictionary, PlainDefinition, definitions}
use Rattle.dia_breaking_sites.specs.Selection.{AreValid}
use Rattle.dia_compat.specs.Closed.{NamesCommand}
use Rattle.dia_compat.specs.Proposed.{IsFirstUnknown}
use Rattle.dia_io.specs.declared.Input.{Input}
use Rattle.dia_io.specs.declared.Inputs.{Inputs}
use Rattle.dia_io.specs.declared.Exit.{Exit}
use Rattle.dia_io.specs.declared.Exit.TheVariants.{Yes, No, Bad}
use Rattle.dia_run.specs.Texts.{IsDictionaryText, IsNoDictionaryText, line}
use Rattle.dia_run.specs.Outcome.{IsPairOutcome}
use Rattle.dia_accepted.specs.Accepted.{PlainEntry, accepts, plain_entry, plain_recorded}
use Rattle.dia_accepted.specs.declared.Entry.{Entry}
use Rattle.dia_accepted.specs.declared.Recorded.{Recorded}
use Rattle.dia_breaking.specs.declared.line.Line.{Line}
use Rattle.dia_breaking.specs.declared.line.Site.{Site}
use Rattle.dia_breaking.specs.Free.{AreValidWhereFree}
use Rattle.dia_breaking.specs.Sides.{Sides, answer, sides}
use Rattle.dia_breaking.specs.TheLines.{HasTheLines}
use Rattle.dia_breaking.specs.TheMeanings.{AreMeaningsOf, AreMeant, AreTheMeanings, HoldsOfLevels, IsReadAsSent}
use Rattle.dia_upgrades.specs.declared.asked.Asked.{Asked}
use Rattle.dia_upgrades.specs.declared.asked.Stale.TheVariants.{Fails}
use Rattle.dia_upgrades.specs.declared.list.BadList.{BadList}
use Rattle.dia_upgrades.specs.declared.reporting.Counts.{Counts}
use Rattle.dia_upgrades.specs.declared.reporting.Findings.{Findings}
use Rattle.dia_upgrades.specs.declared.reporting.Findings.TheVariants as found
use Rattle.dia_upgrades.specs.Asking.{names_of, IsAskedFor, AreCommands}
use Rattle.dia_upgrades.specs.InWords.{in_words, nothing_breaks, nothing_differs, nothing_else_breaks, nothing_else_differs}
use Rattle.dia_upgrades.specs.Lists.{IsListText, IsNoListText}
use Rattle.dia_upgrades.specs.Places.{asked_places}
use Rattle.dia_upgrades.specs.Stale.{AreStale, failing}
use Rattle.dia_upgrades.specs.Recorded.{AreShortest, AreRecorded, answer_written, words_at}
use Rattle.dia_upgrades.specs.Rows.{Row, is_accepted, left_of, once_of, unused_of}
use Rattle.dia_upgrades.specs.Writing.{Writing, stale_text}

-- ---- what is claimed

-- of each command of A that is asked for, with its number among A's definitions
abbrev pub OfEach : Asked → Dictionary → (ℕ → Type 0) → Type 0
OfEach asked a P = (number : ℕ) (command : PlainDefinition) → slice_get (definitions a) number ≡ Some command → IsAskedFor a (names_of asked) command → P number

-- the command c has no meanings: in each message of it that A's side sends, B's side reads no AVP of a level as another format
pub record IsReadAlike (s : Sides) (c : ℕ) : Type 0 where
  pub sites : List Site
  pub no_meanings : ∥ AreTheMeanings s c sites [] ∥₁
  pub as_sent : ∥ HoldsOfLevels s (answer c sites []) (IsReadAsSent s) ∥₁

-- each message of it that A's side sends is valid under B
abbrev pub NothingBreaks : Asked → Dictionary → Dictionary → Type 0
NothingBreaks asked a b = OfEach asked a (λ number. ∥ AreValid a b asked.sends asked.unknown number ∥₁)

-- with `--meaning`: it has no AVP that B's side reads as another format
abbrev pub NothingDiffers : Asked → Dictionary → Dictionary → Type 0
NothingDiffers asked a b = asked.meaning ≡ true → OfEach asked a (IsReadAlike (sides a b asked.sends asked.unknown))

abbrev pub sides_in : Asked → Dictionary → Dictionary → Sides
sides_in asked a b = sides a b asked.sends asked.unknown

-- the list accepts the line
abbrev pub IsAcceptedBy : List PlainEntry → (Line → List ℕ) → Line → Type 0
IsAcceptedBy list words line = list_any (accepts (words line)) list ≡ true

-- the list accepts each line of the command c, and each message that A's side sends and that is free of these lines is valid under B;
-- with `--meaning` it accepts each meaning, too, and these are all
pub record IsAcceptedWhole (s : Sides) (meaning : Bool) (list : List PlainEntry) (c : ℕ) : Type 0 where
  pub lengths : List ℕ
  pub sites : List Site
  pub lines : List Line
  pub meanings : List Line
  pub are_shortest : AreShortest s.sender s.sends lengths
  pub are_lines : HasTheLines s (answer c sites lines)
  pub are_meanings : AreMeaningsOf s (answer c sites lines) meanings
  pub accepted : AllByRecursion (IsAcceptedBy list (words_at s lengths c sites)) lines
  pub meanings_accepted : meaning ≡ true → AllByRecursion (IsAcceptedBy list (words_at s lengths c sites)) meanings
  pub free : ∥ AreValidWhereFree s (answer c sites lines) ∥₁
  pub all_meant : ∥ HoldsOfLevels s (answer c sites lines) (AreMeant s meanings) ∥₁

-- so it is of each command
abbrev pub NothingElseBreaks : Asked → List PlainEntry → Dictionary → Dictionary → Type 0
NothingElseBreaks asked list a b = OfEach asked a (IsAcceptedWhole (sides_in asked a b) asked.meaning list)

-- ---- what is reported

-- these are the lines of the commands that are asked for, and these the ones of meanings that aren't
abbrev pub AreAllRecorded : Asked → Dictionary → Dictionary → List Row → List Row → Type 0
AreAllRecorded asked a b recorded apart = AreRecorded (sides_in asked a b) asked.messages asked.meaning (asked_places a (names_of asked)) recorded apart

-- it ends with this text
abbrev pub Records : List ℕ → List ℕ → Exit → Type 0
Records recorded text exit = (text ≡ recorded) × (exit ≡ Bad)

-- there are commands, and each name that is given is that of one
pub record CanAsk (asked : Asked) (a : Dictionary) : Type 0 where
  pub some : a.commands ≢ []
  pub known : AreCommands a (names_of asked)

-- so many are counted of n lines: no more than the greatest number of 64 bits
abbrev pub counted : ℕ → ℕ
counted n = min n 18446744073709551615

-- the lines that the list accepts
abbrev pub accepted_of : List PlainEntry → List Row → List Row
accepted_of list recorded = filter (is_accepted list) recorded

-- how much there is of all, where these lines are reported, and these entries are stale
abbrev pub counts_of : List PlainEntry → List Row → List PlainEntry → Counts
counts_of list recorded stale = record {
  lines = counted (length (left_of list recorded));
  causes = length (once_of (left_of list recorded));
  accepted = counted (length (accepted_of list recorded));
  stale = length stale;
}

-- what is written after the lines: the stale entries for which the answer is no, and how much there is of all
abbrev pub after_lines : Writing → Asked → List PlainEntry → List Row → List PlainEntry → List ℕ
after_lines w asked list recorded stale = stale_text w (failing asked.stale stale) ++ w.of_counts (counts_of list recorded stale)

-- what was found has which entries of the list accept none of these, and which of them are stale, how many of the first are left and how many accepted, their causes,
-- and the causes of the meanings that aren't asked for and that the list doesn't accept
pub record RecordsFound (list : List PlainEntry) (recorded apart : List Row) (stale : List PlainEntry) (is : Findings) : Type 0 where
  pub unused : Vec Entry
  pub stale_ones : Vec Entry
  pub lines : ℕ
  pub accepted : ℕ
  pub causes : Vec Recorded
  pub meanings : Vec Recorded
  pub is_listed : is ≡ found.Listed unused stale_ones lines accepted causes meanings
  pub unused_are : map plain_entry unused.items ≡ unused_of list (recorded ++ apart)
  pub stale_are : map plain_entry stale_ones.items ≡ stale
  pub lines_are : lines ≡ counted (length (left_of list recorded))
  pub accepted_are : accepted ≡ counted (length (accepted_of list recorded))
  pub causes_are : map plain_recorded causes.items ≡ once_of (left_of list recorded)
  pub meanings_are : map plain_recorded meanings.items ≡ once_of (left_of list apart)

-- the inputs can be asked for, and the list, the lines and the stale entries are these
pub record IsAnswerable (asked : Asked) (input : Input) (a b : Dictionary) (list : List PlainEntry) (recorded apart : List Row) (stale : List PlainEntry) (is : Findings) : Type 0 where
  pub list_is : IsListText input list
  pub can_ask : CanAsk asked a
  pub all_recorded : AreAllRecorded asked a b recorded apart
  pub are_stale : AreStale asked a b list recorded apart stale
  pub records : RecordsFound list recorded apart stale is

-- `breaking` of two dictionaries and a list: what is written, how it ends, and what was found
pub data IsListed (w : Writing) (asked : Asked) (input : Input) (a b : Dictionary) (text : List ℕ) (exit : Exit) (is : Findings) : Type 0 where
  nothing : (list : List PlainEntry) (apart : List Row) (stale : List PlainEntry) → IsAnswerable asked input a b list [] apart stale is → NothingBreaks asked a b → NothingDiffers asked a b
      → failing asked.stale stale ≡ [] → text ≡ w.of_nothing asked.meaning false ++ w.of_counts (counts_of list [] stale) → exit ≡ Yes → IsListed w asked input a b text exit is
  nothing_else : (list : List PlainEntry) (recorded apart : List Row) (stale : List PlainEntry) → IsAnswerable asked input a b list recorded apart stale is → left_of list recorded ≡ [] → recorded ≢ []
      → NothingElseBreaks asked list a b → failing asked.stale stale ≡ [] → text ≡ w.of_nothing asked.meaning true ++ w.of_counts (counts_of list recorded stale) → exit ≡ Yes
      → IsListed w asked input a b text exit is
  lines : (list : List PlainEntry) (recorded apart : List Row) (stale : List PlainEntry) → IsAnswerable asked input a b list recorded apart stale is
      → (left_of list recorded ≢ []) ⊎ (failing asked.stale stale ≢ [])
      → text ≡ answer_written w asked (left_of list recorded) ++ after_lines w asked list recorded stale → exit ≡ No → IsListed w asked input a b text exit is
  bad_list : (bad : BadList) → IsNoListText input bad → Records (w.of_bad_list input bad) text exit → is ≡ found.NoList bad → IsListed w asked input a b text exit is
  no_commands : (list : List PlainEntry) → IsListText input list → a.commands ≡ [] → Records w.of_no_commands text exit → is ≡ found.NoCommands
      → IsListed w asked input a b text exit is
  no_command : (list : List PlainEntry) (name : List ℕ) → IsListText input list → a.commands ≢ [] → IsFirstUnknown a (names_of asked) name
      → Records (w.of_no_command name) text exit → is ≡ found.NoCommand → IsListed w asked input a b text exit is

-- the same, whatever was found
abbrev pub IsAnyListed : Writing → Asked → Input → Dictionary → Dictionary → List ℕ → Exit → Type 0
IsAnyListed w asked input a b text exit = (is : Findings) × IsListed w asked input a b text exit is

-- what was found has so many lines
abbrev pub HasLines : Findings → ℕ → Type 0
HasLines is n = (unused : Vec Entry) × (stale : Vec Entry) × (accepted : ℕ) × (causes : Vec Recorded) × (meanings : Vec Recorded) × (is ≡ found.Listed unused stale n accepted causes meanings)

-- what was found has no lines
abbrev pub HasNoLines : Findings → Type 0
HasNoLines (found.Listed unused stale n accepted causes meanings) = ⊥
HasNoLines (found.NoList bad) = ⊤
HasNoLines found.NoCommands = ⊤
HasNoLines found.NoCommand = ⊤

-- so many lines are reported that the list doesn't accept
abbrev pub AreLeft : Asked → Input → Dictionary → Dictionary → ℕ → Type 0
AreLeft asked input a b n = (list : List PlainEntry) × (recorded : List Row) × (apart : List Row) × IsListText input list × AreAllRecorded asked a b recorded apart
    × (n ≡ counted (length (left_of list recorded)))

-- the list is refused, or the commands can't be asked for: so it ends
abbrev pub CannotAnswer : Asked → Input → Dictionary → Dictionary → Type 0
CannotAnswer asked input a b = (text : List ℕ) × (is : Findings) × IsListed in_words asked input a b text Bad is

-- `breaking` of the inputs, in words
abbrev pub IsBreakingOutcome : Asked → Inputs → List ℕ → Exit → Type 0
IsBreakingOutcome asked inputs text exit = IsPairOutcome (IsAnyListed in_words asked inputs.table) inputs text exit

-- ---- how it ends, in words

-- the inputs are the texts of these dictionaries and of this list, and the commands can be asked for
pub record AreRead (asked : Asked) (inputs : Inputs) (a b : Dictionary) (list : List PlainEntry) : Type 0 where
  pub first : IsDictionaryText inputs.first a
  pub second : IsDictionaryText inputs.second b
  pub list_is : IsListText inputs.table list
  pub can_ask : CanAsk asked a

-- what a no means: this is the text of the lines that the list doesn't accept, or of their causes, and of its stale entries, for which the answer is no; and there is one
abbrev pub IsUnsafeUpgrade : Asked → Inputs → List ℕ → Type 0
IsUnsafeUpgrade asked inputs text = (a : Dictionary) × (b : Dictionary) × (list : List PlainEntry) × (recorded : List Row) × (apart : List Row) × (stale : List PlainEntry) × AreRead asked inputs a b list
    × AreAllRecorded asked a b recorded apart × AreStale asked a b list recorded apart stale × ((left_of list recorded ≢ []) ⊎ (failing asked.stale stale ≢ []))
    × (text ≡ answer_written in_words asked (left_of list recorded) ++ stale_text in_words (failing asked.stale stale))

-- no entry is stale, where the answer is no for one
abbrev pub NoneIsStale : Asked → Dictionary → Dictionary → List PlainEntry → Type 0
NoneIsStale asked a b list = asked.stale ≡ Fails → (recorded : List Row) × (apart : List Row) × AreAllRecorded asked a b recorded apart × AreStale asked a b list recorded apart []

-- what a yes means: nothing breaks, or nothing but what the list accepts; with `--meaning` nothing is read as another format, either, or
-- nothing but what the list accepts; no entry of the list is stale; and what is written says which
pub data IsSafeUpgrade (asked : Asked) (inputs : Inputs) (text : List ℕ) : Type 0 where
  safe : (a b : Dictionary) (list : List PlainEntry) → AreRead asked inputs a b list → NothingBreaks asked a b → NothingDiffers asked a b → NoneIsStale asked a b list
      → text ≡ line (if asked.meaning then nothing_differs else nothing_breaks) → IsSafeUpgrade asked inputs text
  accepted : (a b : Dictionary) (list : List PlainEntry) → AreRead asked inputs a b list → NothingElseBreaks asked list a b → NoneIsStale asked a b list
      → text ≡ line (if asked.meaning then nothing_else_differs else nothing_else_breaks) → IsSafeUpgrade asked inputs text

-- the inputs are refused: one is no dictionary's text, or no list's; or the first has no commands, or none of a name that is given
pub data AreRefused (asked : Asked) (inputs : Inputs) : Type 0 where
  bad_first : (why : List ℕ) → IsNoDictionaryText inputs.first why → AreRefused asked inputs
  bad_second : (why : List ℕ) → IsNoDictionaryText inputs.second why → AreRefused asked inputs
  bad_accepted : (bad : BadList) → IsNoListText inputs.table bad → AreRefused asked inputs
  none_there : (a : Dictionary) → IsDictionaryText inputs.first a → a.commands ≡ [] → AreRefused asked inputs
  bad_name : (a : Dictionary) (name : List ℕ) → IsDictionaryText inputs.first a → Contains (names_of asked) name
      → ((command : PlainDefinition) → ¬ NamesCommand a name command) → AreRefused asked inputs
