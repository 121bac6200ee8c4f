-- What the base protocol says of an AVP that a dictionary declares (RFC 6733 section 4.5): a finding where it isn't so.
use Rattle.std.specs.Prelude.{ℕ, nat_eq, Bool, true, false, not, ◌&&◌, if◌then◌else◌, List, [], ◌++◌, Option, option_and_then, option_to_list, position, slice_get}
use Rattle.std.specs.Option.{option_map_or}
use Rattle.dia_wire.specs.declared.Key.{Key}
use Rattle.dia_terms.specs.Formats.{format_word}
use Rattle.dia_terms.specs.Names.{same_bytes}
use Rattle.dia_terms.specs.declared.FormatName.{FormatName}
use Rattle.dia_terms.specs.declared.MRule.{MRule}
use Rattle.dia_terms.specs.declared.MRule.TheVariants.{Must, MustNot}
use Rattle.dia_data.specs.Plain.{name_of}
use Rattle.dia_book.specs.Dictionary.{Dictionary, DictEntry}
use Rattle.dia_lint.specs.declared.detail.Detail.{Detail}
use Rattle.dia_lint.specs.declared.detail.Detail.TheVariants as detail
use Rattle.dia_lint.specs.declared.finding.Finding.{Finding}
use Rattle.dia_lint.specs.declared.guidelines.base.Declared.{Declared}
use Rattle.dia_lint.specs.declared.finding.Place.TheVariants as place
use Rattle.dia_lint.specs.declared.finding.Subject.TheVariants as subject
use Rattle.dia_lint.specs.declared.rule.Rule.TheVariants as rule
use Rattle.dia_lint.specs.BaseTable.{BaseDeclared, base_rows}
use Rattle.dia_lint.specs.Guidelines.{only_if}

-- an AVP as it is declared
pub record PlainDeclared : Type 0 where
  pub key : Key
  pub name : List ℕ
  pub format : FormatName
  pub m : MRule

abbrev pub declared_of : DictEntry → PlainDeclared
declared_of x = record { key = x.key; name = x.name; format = name_of x.format; m = x.rule }

abbrev pub plain_declared : Declared → PlainDeclared
plain_declared own = record { key = own.key; name = own.name.now; format = own.format; m = own.m }

abbrev pub about_avp : ℕ → Detail → Finding
about_avp e what = record { rule = rule.BaseAvp; place = place.Avp e; subject = subject.Avp e; detail = what }

abbrev pub has_code : ℕ → BaseDeclared → Bool
has_code code row = nat_eq row.code code

abbrev pub has_name : List ℕ → BaseDeclared → Bool
has_name name row = same_bytes row.name name

-- M has to be set by one rule, and clear by the other
abbrev pub contradicts : MRule → MRule → Bool
contradicts Must MustNot = true
contradicts MustNot Must = true
contradicts own base = false

-- where the base protocol's AVP of the code, at this place of the table, has another name, another format, or the other M rule
abbrev pub other_name : ℕ → PlainDeclared → ℕ → BaseDeclared → Option Finding
other_name e own at row = only_if (not (same_bytes own.name row.name)) (about_avp e (detail.NameOf at))

abbrev pub other_format : ℕ → PlainDeclared → BaseDeclared → Option Finding
other_format e own row = only_if (not (same_bytes (format_word own.format) (format_word row.format))) (about_avp e (detail.Format own.format row.format))

abbrev pub other_m : ℕ → PlainDeclared → BaseDeclared → Option Finding
other_m e own row = only_if (contradicts own.m row.m) (about_avp e (detail.M own.m row.m))

abbrev pub row_lines : ℕ → PlainDeclared → ℕ → BaseDeclared → List Finding
row_lines e own at row = [] ++ option_to_list (other_name e own at row) ++ option_to_list (other_format e own row) ++ option_to_list (other_m e own row)

abbrev pub at_lines : ℕ → PlainDeclared → ℕ → List Finding
at_lines e own at = option_map_or (row_lines e own at) (slice_get base_rows at) []

-- of an AVP without a vendor whose code is one of the base protocol's
abbrev pub code_lines : ℕ → PlainDeclared → List Finding
code_lines e own = if nat_eq own.key.vendor 0 then option_map_or (at_lines e own) (position (has_code own.key.code) base_rows) [] else []

-- where the base protocol's AVP of the name, at this place of the table, has another code, or a vendor is given
abbrev pub code_differs : ℕ → PlainDeclared → ℕ → BaseDeclared → Option Finding
code_differs e own at row = only_if (not (nat_eq own.key.vendor 0 && nat_eq own.key.code row.code)) (about_avp e (detail.CodeOf own.key at))

abbrev pub other_code : ℕ → PlainDeclared → ℕ → Option Finding
other_code e own at = option_and_then (code_differs e own at) (slice_get base_rows at)

abbrev pub name_lines : ℕ → PlainDeclared → List Finding
name_lines e own = option_to_list (option_and_then (other_code e own) (position (has_name own.name) base_rows))

abbrev pub declared_lines : ℕ → PlainDeclared → List Finding
declared_lines e own = code_lines e own ++ name_lines e own

-- those of the entry at a place
abbrev pub base_lines : Dictionary → ℕ → List Finding
base_lines d e = option_map_or (λ x. declared_lines e (declared_of x)) (slice_get d.entries e) []
