-- What the program writes for its inputs, and how it ends.
use Rattle.std.specs.Prelude.{◌≡◌, ◌≢◌, ℕ, ◌<◌, ◌≤◌, Bool, true, false, List, ◌++◌, length, take, drop, slice_index, map, codes}
use Rattle.std.specs.Prelude.{string_bytes, Result, Ok, Err}
use Rattle.std.specs.List.{concat}
use Rattle.dia_dict.specs.Dictionary.{Dictionary}
use Rattle.dia_wire.specs.Number.{number}
use Rattle.dia_wire.specs.Wire.{BeginsMessage, IsMessageLength}
use Rattle.dia_ccf.specs.Plain.{PlainSource}
use Rattle.dia_ccf.specs.CanonicalText.{canonical}
use Rattle.dia_check.specs.declared.Unknown.{Unknown}
use Rattle.dia_check.specs.declared.Levels.{Levels}
use Rattle.dia_check.specs.declared.Selected.{Selected}
use Rattle.dia_check.specs.declared.Refusal.{Refusal}
use Rattle.dia_check.specs.Faults.{IsAnswer as IsChecked}
use Rattle.dia_valid.specs.Valid.{IsValid}
use Rattle.dia_compat.specs.declared.Answer.{Answer}
use Rattle.dia_compat.specs.TableText.{PlainTable}
use Rattle.dia_compat.specs.Closed.{IsTableAnswer as IsCompared}
use Rattle.dia_compat.specs.Proposed.{IsProposal, IsFirstUnknown}
use Rattle.dia_compat.specs.WrittenTable.{table_text}
use Rattle.dia_run.specs.declared.commands.Outcome.{Outcome}
use Rattle.dia_report.specs.declared.refusing.Refused.{Refused}
use Rattle.dia_io.specs.declared.Command.{Command}
use Rattle.dia_io.specs.declared.Command.TheVariants.{Show, Render, Check, Compare, Refute, Propose}
use Rattle.dia_io.specs.declared.Input.{Input}
use Rattle.dia_io.specs.declared.Inputs.{Inputs}
use Rattle.dia_io.specs.declared.Exit.{Exit}
use Rattle.dia_io.specs.declared.Exit.TheVariants.{Yes, No, Bad}
use Rattle.dia_report.specs.Refusals.{dictionary_line, RecordsOf}
use Rattle.dia_run.specs.Texts.{line, IsSourceText, IsNoSourceText, IsDictionaryText, IsNoDictionaryText}
use Rattle.dia_run.specs.Texts.{IsMessageText, IsNoMessageText}
use Rattle.dia_run.specs.Verdict.{IsVerdict}
use Rattle.dia_run.specs.Pairs.{IsTableText, IsNoTableText, IsAnswerText}
use Rattle.dia_run.specs.Listing.{IsPlainRow}
use Rattle.dia_run.specs.Rows.{AreMessageRows, AreWritten, Row}

-- an input is refused in one line
abbrev pub Refuses : List ℕ → List ℕ → Exit → Type 0
Refuses recorded text exit = (text ≡ line recorded) × (exit ≡ Bad)

-- a bad length ends the rows with No
abbrev pub listing_exit : Bool → Exit
listing_exit true = No
listing_exit false = Yes

-- a message whose rows are written as P says; or why it is none that can be shown
pub data IsWritten (P : Row → List ℕ → Type 0) (d : Dictionary) (bytes text : List ℕ) (exit : Exit) : Type 0 where
  listing : (rows : List Row) (texts : List (List ℕ)) (bad : Bool) → AreMessageRows d bytes rows bad → AreWritten P rows texts
      → text ≡ concat texts → exit ≡ listing_exit bad → IsWritten P d bytes text exit
  short : length bytes < 20 → Refuses (codes "message: short") text exit → IsWritten P d bytes text exit
  version : 20 ≤ length bytes → slice_index bytes 0 ≢ 1 → Refuses (codes "message: version") text exit → IsWritten P d bytes text exit
  bad_length : 20 ≤ length bytes → slice_index bytes 0 ≡ 1 → ¬ IsMessageLength (number (take 3 (drop 1 bytes)))
      → Refuses (codes "message: length") text exit → IsWritten P d bytes text exit
  truncated : (len : ℕ) → BeginsMessage bytes len → length bytes < len → Refuses (codes "message: truncated") text exit
      → IsWritten P d bytes text exit
  trailing : (len : ℕ) → BeginsMessage bytes len → len < length bytes → Refuses (codes "message: trailing") text exit
      → IsWritten P d bytes text exit

-- `show` of a message
abbrev pub IsMessageShown : Dictionary → List ℕ → List ℕ → Exit → Type 0
IsMessageShown d bytes text exit = IsWritten IsPlainRow d bytes text exit

-- a command of a dictionary and a message, where P says how it ends for them: the dictionary is judged first
pub data IsMessageOutcome (P : Dictionary → List ℕ → List ℕ → Exit → Type 0) (inputs : Inputs) (text : List ℕ)
    (exit : Exit) : Type 0 where
  ended : (d : Dictionary) (bytes : List ℕ) → IsDictionaryText inputs.first d → IsMessageText inputs.message bytes
      → P d bytes text exit → IsMessageOutcome P inputs text exit
  no_dictionary : (why : List ℕ) → IsNoDictionaryText inputs.first why → Refuses (dictionary_line 1 why) text exit
      → IsMessageOutcome P inputs text exit
  no_message : (d : Dictionary) (recorded : List ℕ) → IsDictionaryText inputs.first d → IsNoMessageText inputs.message recorded
      → Refuses recorded text exit → IsMessageOutcome P inputs text exit

-- `show` of the inputs
abbrev pub IsShowOutcome : Inputs → List ℕ → Exit → Type 0
IsShowOutcome inputs text exit = IsMessageOutcome IsMessageShown inputs text exit

-- the verdict on a message
abbrev pub IsJudged : Unknown → Levels → Dictionary → List ℕ → List ℕ → Exit → Type 0
IsJudged u most d bytes text exit = (answer : Result Selected Refusal) × IsChecked d u most bytes answer
    × IsVerdict d answer text exit

-- `check` of the inputs
abbrev pub IsCheckOutcome : Unknown → Levels → Inputs → List ℕ → Exit → Type 0
IsCheckOutcome u most inputs text exit = IsMessageOutcome (IsJudged u most) inputs text exit

-- `render` of the inputs
pub data IsRenderOutcome (inputs : Inputs) (text : List ℕ) (exit : Exit) : Type 0 where
  rendered : (source : PlainSource) → IsSourceText inputs.first source → text ≡ canonical source → exit ≡ Yes
      → IsRenderOutcome inputs text exit
  no_source : (why : List ℕ) → IsNoSourceText inputs.first why → Refuses (dictionary_line 1 why) text exit
      → IsRenderOutcome inputs text exit

-- a command of two dictionaries, where P says how it ends for them: the first is judged first, and both before what else P reads
pub data IsPairOutcome (P : Dictionary → Dictionary → List ℕ → Exit → Type 0) (inputs : Inputs) (text : List ℕ)
    (exit : Exit) : Type 0 where
  ended : (a b : Dictionary) → IsDictionaryText inputs.first a → IsDictionaryText inputs.second b → P a b text exit
      → IsPairOutcome P inputs text exit
  no_first : (why : List ℕ) → IsNoDictionaryText inputs.first why → Refuses (dictionary_line 1 why) text exit
      → IsPairOutcome P inputs text exit
  no_second : (a : Dictionary) (why : List ℕ) → IsDictionaryText inputs.first a → IsNoDictionaryText inputs.second why
      → Refuses (dictionary_line 2 why) text exit → IsPairOutcome P inputs text exit

-- `compare` of two dictionaries
pub data IsComparison (u : Unknown) (input : Input) (a b : Dictionary) (text : List ℕ) (exit : Exit) : Type 0 where
  compared : (table : PlainTable) (answer : Answer) → IsTableText input table → IsCompared a b u table answer
      → IsAnswerText table answer text exit → IsComparison u input a b text exit
  no_table : (recorded : List ℕ) → IsNoTableText input recorded → Refuses recorded text exit → IsComparison u input a b text exit

-- `compare` of the inputs
abbrev pub IsCompareOutcome : Unknown → Inputs → List ℕ → Exit → Type 0
IsCompareOutcome u inputs text exit = IsPairOutcome (IsComparison u inputs.table) inputs text exit

-- the message is valid under the first dictionary, and not under the second
abbrev pub IsRefuted : Unknown → Levels → Dictionary → Dictionary → List ℕ → Type 0
IsRefuted u most a b bytes = IsValid a u most bytes × ¬ IsValid b u most bytes

-- `refute` of two dictionaries
pub data IsRefutation (u : Unknown) (most : Levels) (input : Input) (a b : Dictionary) (text : List ℕ)
    (exit : Exit) : Type 0 where
  refutes : (bytes : List ℕ) → IsMessageText input bytes → IsRefuted u most a b bytes → text ≡ line (codes "refutes") → exit ≡ Yes
      → IsRefutation u most input a b text exit
  does_not : (bytes : List ℕ) → IsMessageText input bytes → ¬ IsRefuted u most a b bytes → text ≡ line (codes "does not refute")
      → exit ≡ No → IsRefutation u most input a b text exit
  no_message : (recorded : List ℕ) → IsNoMessageText input recorded → Refuses recorded text exit → IsRefutation u most input a b text exit

-- `refute` of the inputs
abbrev pub IsRefuteOutcome : Unknown → Levels → Inputs → List ℕ → Exit → Type 0
IsRefuteOutcome u most inputs text exit = IsPairOutcome (IsRefutation u most inputs.message) inputs text exit

-- what is reported of a name that is no command's
abbrev pub no_command_line : List ℕ → List ℕ
no_command_line name = codes "propose: no command " ++ name

-- `propose` of two dictionaries, for the named commands
pub data IsProposed (u : Unknown) (names : List (List ℕ)) (a b : Dictionary) (text : List ℕ) (exit : Exit) : Type 0 where
  proposed : (table : PlainTable) → IsProposal a b u names table → text ≡ table_text table → exit ≡ Yes
      → IsProposed u names a b text exit
  no_command : (name : List ℕ) → IsFirstUnknown a names name → Refuses (no_command_line name) text exit
      → IsProposed u names a b text exit

-- `propose` of the inputs
abbrev pub IsProposeOutcome : Unknown → List (List ℕ) → Inputs → List ℕ → Exit → Type 0
IsProposeOutcome u names inputs text exit = IsPairOutcome (IsProposed u names) inputs text exit

-- the text for a command and its inputs, and how the program ends
abbrev pub IsOutcome : Command → Inputs → List ℕ → Exit → Type 0
IsOutcome Show inputs text exit = IsShowOutcome inputs text exit
IsOutcome Render inputs text exit = IsRenderOutcome inputs text exit
IsOutcome (Check u most) inputs text exit = IsCheckOutcome u most inputs text exit
IsOutcome (Compare u) inputs text exit = IsCompareOutcome u inputs text exit
IsOutcome (Refute u most) inputs text exit = IsRefuteOutcome u most inputs text exit
IsOutcome (Propose u names) inputs text exit = IsProposeOutcome u (map (λ name. string_bytes name) names.items) inputs text exit

-- what was made holds: an outcome, or the line of a refusal
abbrev pub Ends : (List ℕ → Exit → Type 0) → Result Outcome Refused → Type 0
Ends P (Ok o) = P (string_bytes o.text) o.exit
Ends P (Err refused) = RecordsOf (λ recorded. P (line recorded) Bad) refused
