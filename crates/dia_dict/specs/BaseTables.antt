-- What the rows of the base dictionary's tables mean.
use Rattle.std.specs.Prelude.{nat_lt, Bool, true, false, ◌&&◌, List, length, map, Option, Some, None, ℕ}
use Rattle.std.specs.List.{list_all}
use Rattle.std.specs.Option.{option_map, option_map_or}
use Rattle.dia_ccf.specs.declared.FormatName.{FormatName}
use Rattle.dia_ccf.specs.declared.FormatName.TheVariants.{Enumerated}
use Rattle.dia_terms.specs.declared.MRule.TheVariants.{Any}
use Rattle.dia_terms.specs.declared.RuleKind.{RuleKind}
use Rattle.dia_terms.specs.declared.RuleKind.TheVariants as kind
use Rattle.dia_ccf.specs.declared.Qual.{Qual}
use Rattle.dia_ccf.specs.Names.{is_name, is_number, is_range, is_head, fixed_first}
use Rattle.dia_ccf.specs.Plain.{PlainDecl, PlainRule, PlainDef}
use Rattle.dia_dict.specs.declared.base.tables.AvpRow.{AvpRow}
use Rattle.dia_dict.specs.declared.base.tables.DefRow.{DefRow}
use Rattle.dia_dict.specs.declared.base.tables.RuleRow.{RuleRow}
use Rattle.dia_dict.specs.declared.base.tables.RuleRow.TheVariants.{FixedAtMostOne, Required, RequiredMany, Optional, OptionalMany, SomeAvps, AnyAvps}
use Rattle.dia_dict.specs.Base.{times, any_number, one_or_more}

abbrev pub decl_of_row : AvpRow → PlainDecl
decl_of_row row = record { name = row.name.now; code = row.code; vendor = 0; format = row.format; values = option_map (λ ranges. ranges.now) row.values; rule = Any }

abbrev pub kind_of_row : RuleRow → RuleKind
kind_of_row (FixedAtMostOne name) = kind.Fixed
kind_of_row (Required name) = kind.Required
kind_of_row (RequiredMany name) = kind.Required
kind_of_row (Optional name) = kind.Optional
kind_of_row (OptionalMany name) = kind.Optional
kind_of_row SomeAvps = kind.Required
kind_of_row AnyAvps = kind.Optional

abbrev pub name_of_row : RuleRow → Option (List ℕ)
name_of_row (FixedAtMostOne name) = Some name.now
name_of_row (Required name) = Some name.now
name_of_row (RequiredMany name) = Some name.now
name_of_row (Optional name) = Some name.now
name_of_row (OptionalMany name) = Some name.now
name_of_row SomeAvps = None
name_of_row AnyAvps = None

abbrev pub qual_of_row : RuleRow → Option Qual
qual_of_row (FixedAtMostOne name) = times (Some 0) (Some 1)
qual_of_row (Required name) = None
qual_of_row (RequiredMany name) = one_or_more
qual_of_row (Optional name) = None
qual_of_row (OptionalMany name) = any_number
qual_of_row SomeAvps = one_or_more
qual_of_row AnyAvps = any_number

abbrev pub rule_of_row : RuleRow → PlainRule
rule_of_row row = record { kind = kind_of_row row; name = name_of_row row; qual = qual_of_row row }

abbrev pub def_of_row : DefRow → PlainDef
def_of_row row = record { name = row.name.now; head = row.head; rules = map rule_of_row row.rules.now }

-- ---- rows that a source may hold

abbrev pub is_values_row : FormatName → Option (List (ℕ × ℕ)) → Bool
is_values_row format None = true
is_values_row Enumerated (Some ranges) = nat_lt 0 (length ranges) && list_all is_range ranges
is_values_row format (Some ranges) = false

abbrev pub is_avp_row : AvpRow → Bool
is_avp_row row = is_name row.name.now && is_number row.code && is_values_row row.format (option_map (λ ranges. ranges.now) row.values)

abbrev pub is_rule_row : RuleRow → Bool
is_rule_row row = option_map_or is_name (name_of_row row) true

abbrev pub is_def_row : DefRow → Bool
is_def_row row = is_name row.name.now && is_head row.head && list_all is_rule_row row.rules.now && fixed_first (map kind_of_row row.rules.now)
