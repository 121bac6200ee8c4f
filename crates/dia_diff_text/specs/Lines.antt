-- The lines, as text and as JSON (RFC 8259).
use Rattle.std.specs.Prelude.{◌≡◌, ℕ, Bool, true, false, ◌||◌, if◌then◌else◌, List, [], ◌∷◌, ◌++◌, Option, Some, None, codes}
use Rattle.std.specs.Str.{bytes_eq}
use Rattle.dia_book.specs.Dictionary.{Dictionary}
use Rattle.dia_differences.specs.declared.lines.Effects.{Effects}
use Rattle.dia_differences.specs.declared.lines.Line.{Line}
use Rattle.dia_differences.specs.declared.sides.Side.TheVariants as sides
use Rattle.dia_diff_text.specs.Parts.{IsSide, field_of, is_command, name_in, rule_field, subject_of}

-- what a line says
pub record LineParts : Type 0 where
  pub is_command : Bool
  pub name : List ℕ
  pub field : Option (List ℕ)
  pub first : Option (List ℕ)
  pub second : Option (List ℕ)
  pub there : Effects
  pub back : Effects

-- what one dictionary alone has is removed or added
abbrev pub sign_word : Option (List ℕ) → Option (List ℕ) → List ℕ
sign_word (Some first) None = codes "-"
sign_word None (Some second) = codes "+"
sign_word (Some first) (Some second) = codes "~"
sign_word None None = codes "~"

-- ---- as text

abbrev pub kind_word : Bool → List ℕ
kind_word true = codes "command"
kind_word false = codes "AVP"

abbrev pub field_words : Option (List ℕ) → List ℕ
field_words None = codes " "
field_words (Some field) = if bytes_eq field rule_field then codes ": " else codes ": " ++ field ++ codes " "

abbrev pub values_words : Option (List ℕ) → Option (List ℕ) → List ℕ
values_words None None = []
values_words (Some first) None = first
values_words None (Some second) = second
values_words (Some first) (Some second) = first ++ codes " -> " ++ second

-- what precedes the first effect, and another
abbrev pub before_effect : Bool → List ℕ
before_effect false = codes "; "
before_effect true = codes ", "

-- an effect, in each direction that has it
abbrev pub effect_words : (others : Bool) (word : List ℕ) (there back : Bool) → List ℕ
effect_words others word true true = before_effect others ++ word ++ codes " A to B, " ++ word ++ codes " B to A"
effect_words others word true false = before_effect others ++ word ++ codes " A to B"
effect_words others word false true = before_effect others ++ word ++ codes " B to A"
effect_words others word false false = []

abbrev pub effects_words : Effects → Effects → List ℕ
effects_words there back =
    effect_words false (codes "breaks") there.breaks back.breaks ++ effect_words (there.breaks || back.breaks) (codes "read as another format") there.other_format back.other_format
    ++ effect_words ((there.breaks || back.breaks) || (there.other_format || back.other_format)) (codes "ignored") there.ignored back.ignored

abbrev pub start_words : LineParts → List ℕ
start_words p = sign_word p.first p.second ++ codes " " ++ kind_word p.is_command ++ codes " " ++ p.name

abbrev pub text_line : LineParts → List ℕ
text_line p = start_words p ++ field_words p.field ++ values_words p.first p.second ++ (effects_words p.there p.back ++ codes "\n")

-- ---- as JSON

abbrev pub json_kind : Bool → List ℕ
json_kind true = codes "command"
json_kind false = codes "avp"

abbrev pub member_words : List ℕ → Option (List ℕ) → List ℕ
member_words name None = []
member_words name (Some value) = codes ",\"" ++ name ++ codes "\":\"" ++ value ++ codes "\""

abbrev pub json_directions : Bool → Bool → List ℕ
json_directions true true = codes "\"A to B\",\"B to A\""
json_directions true false = codes "\"A to B\""
json_directions false true = codes "\"B to A\""
json_directions false false = []

abbrev pub json_effect : List ℕ → Bool → Bool → List ℕ
json_effect name there back = codes ",\"" ++ name ++ codes "\":[" ++ json_directions there back ++ codes "]"

abbrev pub json_effects : Effects → Effects → List ℕ
json_effects there back =
    json_effect (codes "breaks") there.breaks back.breaks ++ json_effect (codes "other_format") there.other_format back.other_format ++ json_effect (codes "ignored") there.ignored back.ignored
    ++ codes "}\n"

abbrev pub json_start : LineParts → List ℕ
json_start p = codes "{\"sign\":\"" ++ sign_word p.first p.second ++ codes "\",\"kind\":\"" ++ json_kind p.is_command ++ codes "\",\"name\":\"" ++ p.name ++ codes "\""

abbrev pub json_line : LineParts → List ℕ
json_line p = json_start p ++ member_words (codes "field") p.field ++ member_words (codes "first") p.first ++ member_words (codes "second") p.second ++ json_effects p.there p.back

-- ---- of a line

abbrev pub written : Bool → LineParts → List ℕ
written true p = json_line p
written false p = text_line p

abbrev pub parts_by : Dictionary → Dictionary → Line → Option (List ℕ) → Option (List ℕ) → LineParts
parts_by a b line first second = record {
  is_command = is_command (subject_of line.what).1;
  name = name_in a b (subject_of line.what);
  field = field_of line.what;
  first = first;
  second = second;
  there = line.there;
  back = line.back;
}

-- its words in A and in B, and what comes of it
abbrev pub IsLineParts : Dictionary → Dictionary → Line → LineParts → Type 0
IsLineParts a b line p =
    IsSide a sides.First line.what p.first × IsSide b sides.Second line.what p.second × (p ≡ parts_by a b line p.first p.second)

abbrev pub IsLineText : Bool → Dictionary → Dictionary → Line → List ℕ → Type 0
IsLineText json a b line text = (p : LineParts) × IsLineParts a b line p × (text ≡ written json p)

-- the texts of lines, one after the other
abbrev pub AreTexts : Bool → Dictionary → Dictionary → List Line → List ℕ → Type 0
AreTexts json a b [] text = text ≡ []
AreTexts json a b (line ∷ lines) text = (first : List ℕ) × (rest : List ℕ) × IsLineText json a b line first × AreTexts json a b lines rest × (text ≡ first ++ rest)
