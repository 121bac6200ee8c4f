-- Where the dictionaries' texts have what a line of `breaking` is about, as members.
use Rattle.std.specs.Prelude.{ℕ, ◌-◌, List, [], ◌∷◌, ◌++◌, codes, length, slice_get, Option, Some}
use Rattle.std.specs.Option.{option_map_or}
use Rattle.dia_breaking.specs.LineParts.{PlainParts, PlainSubject}
use Rattle.dia_breaking.specs.LineParts as subjects
use Rattle.dia_breaking.specs.declared.LineReason.{LineReason}
use Rattle.dia_breaking.specs.declared.LineReason.TheVariants as reasons
use Rattle.dia_upgrades_json.specs.Fields.{Field, object_of}
use Rattle.dia_upgrades_json.specs.Members.{unsigned_field}
use Rattle.dia_breaking_places.specs.PartLists.{Parts}
use Rattle.dia_breaking_places.specs.Sought.{PlainMatter, first_place, second_place}
use Rattle.dia_breaking_places.specs.declared.MatterKind.{MatterKind}
use Rattle.dia_breaking_places.specs.declared.MatterKind.TheVariants.{Head, Rule, Avp}
use Rattle.dia_explain_places.specs.Places.{column_at, line_at}

-- a dictionary's text, and the parts that it says, with their places
pub record PlainSpelt : Type 0 where
  pub text : List ℕ
  pub parts : Parts

-- the texts of two dictionaries
pub record PlainTexts : Type 0 where
  pub first : PlainSpelt
  pub second : PlainSpelt

-- ---- what a line is about

abbrev pub kind_of : Option LineReason → MatterKind
kind_of (Some reasons.Command) = Head
kind_of (Some reasons.Application) = Head
kind_of (Some reasons.Proxiable) = Head
kind_of (Some reasons.Missing) = Rule
kind_of (Some reasons.TooMany) = Rule
kind_of (Some reasons.NotAllowed) = Rule
kind_of (Some reasons.Order) = Rule
kind_of other = Avp

abbrev pub subject_text : PlainSubject → List ℕ
subject_text subjects.Header = codes "-"
subject_text (subjects.Application app) = codes "-"
subject_text (subjects.Avp name) = name

abbrev pub matter_of : PlainParts → PlainMatter
matter_of parts = record {
  kind = kind_of parts.reason;
  command = parts.path.command;
  application = parts.path.application;
  group = slice_get parts.path.groups (length parts.path.groups - 1);
  subject = subject_text parts.subject;
}

-- ---- members

-- a place of a text: its line and its column
abbrev pub place_fields : List ℕ → ℕ → List Field
place_fields text at = unsigned_field (codes "line") (line_at text at) ++ unsigned_field (codes "column") (column_at text at)

abbrev pub spot_field : (name text : List ℕ) → Option ℕ → List Field
spot_field name text at = option_map_or (λ place. (name, object_of (place_fields text place)) ∷ []) at []

-- where A's text and B's have what the line is about
abbrev pub spot_fields : PlainTexts → PlainParts → List Field
spot_fields texts parts = spot_field (codes "a") texts.first.text (first_place texts.first.parts (matter_of parts))
    ++ spot_field (codes "b") texts.second.text (second_place texts.first.parts texts.second.parts (matter_of parts))
