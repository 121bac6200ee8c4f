-- Names, and what else holds of each value of a source.
use Rattle.std.specs.Prelude.{ℕ, ◌+◌, nat_lt, nat_le, Bool, true, false, not, ◌&&◌, if◌then◌else◌, List, [], ◌∷◌, length, Option, Some, None, String, string_bytes}
use Rattle.std.specs.List.{list_all}
use Rattle.std.specs.Global.{Vec, Global}
pub use Rattle.dia_terms.specs.Names.{is_run_byte, same_bytes, is_name_run, is_name}
use Rattle.dia_ccf.specs.Limits.{max_number, max_command_code, max_value}
use Rattle.dia_terms.specs.declared.FormatName.{FormatName}
use Rattle.dia_terms.specs.declared.FormatName.TheVariants.{Enumerated}
use Rattle.dia_terms.specs.declared.RuleKind.{RuleKind}
use Rattle.dia_terms.specs.declared.RuleKind.TheVariants.{Fixed, Required, Optional}
use Rattle.dia_ccf.specs.declared.source.Head.{Head}
use Rattle.dia_ccf.specs.declared.source.Head.TheVariants.{Group, Command, Error}
use Rattle.dia_ccf.specs.declared.source.Qual.{Qual}

-- the wildcard has no name, and is no fixed rule
abbrev pub is_rule_name : RuleKind → Option (String Global) → Bool
is_rule_name kind (Some name) = is_name (string_bytes name)
is_rule_name Fixed None = false
is_rule_name kind None = true

abbrev pub is_number : ℕ → Bool
is_number n = nat_lt n (max_number + 1)

abbrev pub is_number_or_none : Option ℕ → Bool
is_number_or_none None = true
is_number_or_none (Some n) = is_number n

abbrev pub is_qualifier : Option Qual → Bool
is_qualifier None = true
is_qualifier (Some q) = is_number_or_none q.min && is_number_or_none q.max

abbrev pub is_range : ℕ × ℕ → Bool
is_range range = nat_le range.0 range.1 && nat_lt range.1 (max_value + 1)

-- a list follows only Enumerated, and is not empty
abbrev pub fits_values : FormatName → Option (Vec (ℕ × ℕ)) → Bool
fits_values format None = true
fits_values Enumerated (Some ranges) = nat_lt 0 (length ranges.items) && list_all is_range ranges.items
fits_values format (Some ranges) = false

abbrev pub is_head : Head → Bool
is_head (Group code vendor) = is_number code && is_number vendor
is_head (Command code request pxy app) = nat_lt code (max_command_code + 1) && is_number_or_none app
is_head (Error pxy) = true

abbrev pub is_fixed : RuleKind → Bool
is_fixed Fixed = true
is_fixed Required = false
is_fixed Optional = false

-- the fixed rules come first
abbrev pub fixed_first : List RuleKind → Bool
fixed_first [] = true
fixed_first (k ∷ ks) = if is_fixed k then fixed_first ks else list_all (λ j. not (is_fixed j)) ks

abbrev pub is_group : Head → Bool
is_group (Group code vendor) = true
is_group (Command code request pxy app) = false
is_group (Error pxy) = false
