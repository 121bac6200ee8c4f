-- What is written where `show` and `propose` answer as JSON, and how the program ends.
use Rattle.std.specs.Prelude.{◌≡◌, ℕ, ◌⊎◌, Bool, List, ◌++◌, codes}
use Rattle.std.specs.List.{flat_map}
use Rattle.serde_json.specs.Data.{Members, member, no_members, number, string, unsigned}
use Rattle.dia_dict.specs.Dictionary.{Dictionary}
use Rattle.dia_terms.specs.declared.Unknown.{Unknown}
use Rattle.dia_compat.specs.Proposed.{IsFirstUnknown, IsProposal}
use Rattle.dia_compat.specs.TableText.{PlainTable}
use Rattle.dia_io.specs.declared.Inputs.{Inputs}
use Rattle.dia_io.specs.declared.Exit.{Exit}
use Rattle.dia_io.specs.declared.Exit.TheVariants.{Bad, Yes}
use Rattle.dia_run.specs.Outcome.{IsShowOutcome}
use Rattle.dia_run.specs.Texts.{IsDictionaryText, IsMessageText}
use Rattle.dia_show.specs.Listing.{Manner}
use Rattle.dia_show.specs.Words.{Word, IsNoValuesText, IsValuesText}
use Rattle.dia_show.specs.declared.reading.BadValues.{BadValues}
use Rattle.dia_show.specs.declared.reading.BadValues.TheVariants as values
use Rattle.dia_json.specs.Messages.{RecordsMessage}
use Rattle.dia_refused_json.specs.Recording.{IsDictionaryRefusal, IsRefusal, RefusedDictionaries, RefusesAs}
use Rattle.dia_refused_json.specs.Members.{json_line, refused_members}

-- a text of words of values that is refused, and on which line
abbrev pub on_line : ℕ → Members
on_line n = member (codes "line") (number (unsigned n)) no_members

abbrev pub values_members : BadValues → Members
values_members values.TooLong = refused_members (codes "values") (codes "too long") no_members
values_members (values.NotText at) = refused_members (codes "values") (codes "not text") no_members
values_members (values.Syntax n) = refused_members (codes "values") (codes "syntax") (on_line n)
values_members (values.Duplicate n) = refused_members (codes "values") (codes "duplicate") (on_line n)
values_members (values.Limit n) = refused_members (codes "values") (codes "limit") (on_line n)

abbrev pub RecordsValues : BadValues → List ℕ → Exit → Type 0
RecordsValues bad text exit = (text ≡ json_line (values_members bad)) × (exit ≡ Bad)

-- the words of values are refused, after a dictionary was read
abbrev pub RefusesValues : Inputs → List ℕ → Exit → Type 0
RefusesValues inputs text exit =
    (d : Dictionary) × (bad : BadValues) × IsDictionaryText inputs.first d × IsNoValuesText inputs.table bad × RecordsValues bad text exit

-- with a dictionary, in a manner: the objects of the message, or it is refused
abbrev pub ShowsJson : Manner → Dictionary → Inputs → List ℕ → Exit → Type 0
ShowsJson m d inputs text exit = ((bytes : List ℕ) × IsMessageText inputs.message bytes × RecordsMessage m d bytes text exit)
    ⊎ IsRefusal (RefusesAs (IsShowOutcome inputs)) inputs.message text exit

-- `show`, with `--names` and the words of values: the objects of the message; or the dictionary, the words or the message are refused
abbrev pub IsShowJson : Bool → Inputs → List ℕ → Exit → Type 0
IsShowJson names inputs text exit =
    ((d : Dictionary) × (words : List Word) × IsDictionaryText inputs.first d × IsValuesText inputs.table words
    × ShowsJson (record { words = words; names = names }) d inputs text exit)
    ⊎ (IsDictionaryRefusal (RefusesAs (IsShowOutcome inputs)) inputs.first text exit ⊎ RefusesValues inputs text exit)

-- ---- `propose`

-- a line of a table
abbrev pub pair_members : List ℕ → List ℕ × List ℕ → Members
pair_members word p = member (codes "kind") (string word) (member (codes "first") (string p.0) (member (codes "second") (string p.1) no_members))

abbrev pub pair_json : List ℕ → List ℕ × List ℕ → List ℕ
pair_json word p = json_line (pair_members word p)

-- the pairs of a table, commands first
abbrev pub table_json : PlainTable → List ℕ
table_json t = flat_map (pair_json (codes "command")) t.commands ++ flat_map (pair_json (codes "avp")) t.avps

-- a name that is no command's
abbrev pub no_command_members : List ℕ → Members
no_command_members name = refused_members (codes "propose") (codes "no command") (member (codes "name") (string name) no_members)

-- the least table for the named commands, or the first name that the first dictionary doesn't have
abbrev pub RecordsProposal : Unknown → List (List ℕ) → Dictionary → Dictionary → List ℕ → Exit → Type 0
RecordsProposal u names a b text exit = ((table : PlainTable) × IsProposal a b u names table × (text ≡ table_json table) × (exit ≡ Yes))
    ⊎ ((name : List ℕ) × IsFirstUnknown a names name × (text ≡ json_line (no_command_members name)) × (exit ≡ Bad))

-- `propose` of the inputs
abbrev pub IsProposeJson : Unknown → List (List ℕ) → Inputs → List ℕ → Exit → Type 0
IsProposeJson u names inputs text exit =
    ((a : Dictionary) × (b : Dictionary) × IsDictionaryText inputs.first a × IsDictionaryText inputs.second b × RecordsProposal u names a b text exit)
    ⊎ RefusedDictionaries inputs text exit
