-- What `mask` writes for a dictionary and the lines of messages, and how it ends.
use Rattle.std.specs.Prelude.{◌≡◌, ◌⊎◌, ℕ, if◌then◌else◌, List, ◌++◌, Some, codes}
use Rattle.std.specs.List.{flat_map}
use Rattle.dia_io.specs.declared.Exit.{Exit}
use Rattle.dia_io.specs.declared.Exit.TheVariants.{Yes, No, Bad}
use Rattle.dia_io.specs.declared.Input.{Input}
use Rattle.dia_streams.specs.Lines.{IsAnswered}
use Rattle.dia_dict.specs.Dictionary.{Dictionary}
use Rattle.dia_report.specs.Refusals.{dictionary_line}
use Rattle.dia_run.specs.Outcome.{Refuses}
use Rattle.dia_run.specs.Texts.{IsDictionaryText, IsNoDictionaryText}
use Rattle.dia_mask.specs.declared.choice.Choice.{Choice}
use Rattle.dia_mask.specs.declared.words.Words.{Words}
use Rattle.dia_mask.specs.Words.{AreAllNumbers}
use Rattle.dia_mask_text.specs.declared.choosing.Why.{Why}
use Rattle.dia_mask_text.specs.declared.choosing.Why.TheVariants.{Missing, Fixed, Twice}
use Rattle.dia_mask_text.specs.Names.{IsChoice, Lists, first_refused}
use Rattle.dia_mask_text.specs.Lines.{IsLineMasked, MaskedLine, are_messages, line_text}

-- yes where each line spells bytes
abbrev pub exit_of : List MaskedLine → Exit
exit_of lines = if are_messages lines then Yes else No

-- each line with the data of exactly the masked AVPs replaced, by the numbers that words have: different words of one pattern have different numbers
pub record AreMasked (choice : Choice) (d : Dictionary) (bytes text : List ℕ) (exit : Exit) : Type 0 where
  pub words : Words
  pub lines : List MaskedLine
  pub numbers : AreAllNumbers words
  pub are_lines : IsAnswered (IsLineMasked choice words d) bytes lines
  pub is_text : text ≡ flat_map line_text lines
  pub is_exit : exit ≡ exit_of lines

-- the line of a name that is refused
abbrev pub name_line : List ℕ → Why → List ℕ
name_line name Missing = codes "mask: no AVP " ++ name ++ codes "\n"
name_line name Fixed = codes "mask: " ++ name ++ codes " can't be masked\n"
name_line name Twice = codes "mask: " ++ name ++ codes " in two lists\n"

-- a name of the options is refused, under the dictionary that is read before: the first one
abbrev pub IsRefusedName : Lists → Input → List ℕ → Why → Type 0
IsRefusedName lists dictionary name why = (d : Dictionary) × IsDictionaryText dictionary d × (first_refused lists d ≡ Some (name, why))

-- the dictionary is refused
abbrev pub RefusesDictionary : Input → List ℕ → Type 0
RefusesDictionary input recorded = (why : List ℕ) × IsNoDictionaryText input why × (recorded ≡ dictionary_line 1 why)

-- the dictionary, or a name of the options is refused, in one line
pub data IsRefusal (lists : Lists) (dictionary : Input) (text : List ℕ) (exit : Exit) : Type 0 where
  no_dictionary : (recorded : List ℕ) → RefusesDictionary dictionary recorded → Refuses recorded text exit → IsRefusal lists dictionary text exit
  bad_name : (name : List ℕ) (why : Why) → IsRefusedName lists dictionary name why → text ≡ name_line name why → exit ≡ Bad → IsRefusal lists dictionary text exit

-- what `mask` writes for this dictionary and these bytes, and the exit: where no name is refused, exactly the AVPs that the lists choose are masked
abbrev pub IsMaskOutcome : Lists → Input → (bytes text : List ℕ) → Exit → Type 0
IsMaskOutcome lists dictionary bytes text exit = ((d : Dictionary) × (choice : Choice) × IsDictionaryText dictionary d × IsChoice lists d choice × AreMasked choice d bytes text exit)
    ⊎ IsRefusal lists dictionary text exit
