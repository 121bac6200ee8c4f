-- What is written of the places of AVPs, and how the command ends.
use Rattle.std.specs.Prelude.{◌≡◌, ℕ, Bool, true, false, List, ◌++◌, codes, flat_map, Some, None, Contains}
use Rattle.json.specs.Print.{quoted}
use Rattle.dia_io.specs.declared.Exit.{Exit}
use Rattle.dia_io.specs.declared.Exit.TheVariants as exits
use Rattle.dia_io.specs.declared.Inputs.{Inputs}
use Rattle.dia_wire.specs.declared.Key.{Key}
use Rattle.dia_dict.specs.Dictionary.{Dictionary}
use Rattle.dia_places.specs.declared.places.By.{By}
use Rattle.dia_places.specs.Asked.{AreKeysOf, IsFirstUnknown}
use Rattle.dia_places.specs.Paths.{ArePaths, IsPath, Path, rules_at}
use Rattle.dia_places.specs.Places.{by_of}
use Rattle.dia_report.specs.declared.bad_input.BadInput.{BadInput}
use Rattle.dia_report.specs.Refusals.{bad_input_text}
use Rattle.dia_run.specs.RefusedDictionaries.{RefusesFirst}
use Rattle.dia_run.specs.Texts.{line, IsDictionaryText}
use Rattle.dia_refused_json.specs.Recording.{refused_text}
use Rattle.dia_uses.specs.Lines.{lines_of}

-- the line where no AVP has a place
abbrev pub nowhere_text : Bool → List ℕ
nowhere_text true = line (codes "{\"verdict\":\"no place\"}")
nowhere_text false = line (codes "no place")

-- the line of a word that names no AVP
abbrev pub unknown_text : Bool → List ℕ → List ℕ
unknown_text true word = line (codes "{\"error\":\"uses\",\"kind\":\"no AVP\",\"name\":" ++ quoted word ++ codes "}")
unknown_text false word = line (codes "uses: no AVP " ++ word)

-- the lines of each AVP, in the order of the words
abbrev pub all_lines : Bool → Dictionary → List Path → List Key → List ℕ
all_lines json d paths keys = flat_map (lines_of json d paths) keys

-- no definition that a command reaches has a rule for one of the AVPs, or a wildcard that lets it in
abbrev pub HaveNoPlace : Dictionary → List Key → Type 0
HaveNoPlace d keys = (key : Key) (path : Path) → Contains keys key → IsPath d path → by_of (rules_at d path.def) key ≡ None

-- some definition that a command reaches has a rule for one of them, or lets it in by its wildcard
abbrev pub HaveSomePlace : Dictionary → List Key → Type 0
HaveSomePlace d keys = (key : Key) × (path : Path) × (by : By) × Contains keys key × IsPath d path × (by_of (rules_at d path.def) key ≡ Some by)

-- each word names an AVP, and these are the lines of all
abbrev pub AreLines : Bool → Dictionary → List Key → List ℕ → Type 0
AreLines json d keys text = (paths : List Path) × ArePaths d paths × (text ≡ all_lines json d paths keys)

-- the lines of the AVPs that the words name; the line where they have no place; or that of the first word that names none
abbrev pub IsUsesText : Bool → Dictionary → List (List ℕ) → Exit → List ℕ → Type 0
IsUsesText json d avps exits.Yes text = (keys : List Key) × AreKeysOf d avps keys × HaveSomePlace d keys × AreLines json d keys text
IsUsesText json d avps exits.No text = (keys : List Key) × AreKeysOf d avps keys × HaveNoPlace d keys × (text ≡ nowhere_text json)
IsUsesText json d avps exits.Bad text = (word : List ℕ) × IsFirstUnknown d avps word × (text ≡ unknown_text json word)

-- the dictionary is read and answered, or it is refused
pub data IsUsesOutcome (json : Bool) (avps : List (List ℕ)) (inputs : Inputs) (text : List ℕ) (exit : Exit) : Type 0 where
  answered : (d : Dictionary) → IsDictionaryText inputs.first d → IsUsesText json d avps exit text → IsUsesOutcome json avps inputs text exit
  refused : (bad : BadInput) → RefusesFirst inputs (bad_input_text bad) → text ≡ refused_text json inputs.first bad → exit ≡ exits.Bad
      → IsUsesOutcome json avps inputs text exit
