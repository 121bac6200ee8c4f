-- The rules of a definition by its number, the rule of a key, and the wildcard (RFC 6733 section 3.2).
use Rattle.std.specs.Prelude.{ℕ, List, [], Option, Some, None, find, slice_get, ◌≡◌, Contains}
use Rattle.std.specs.Option.{option_map_or}
use Rattle.dia_wire.specs.declared.Key.{Key}
use Rattle.dia_book.specs.declared.DRule.{DRule}
use Rattle.dia_book.specs.Dictionary.{Dictionary, definitions, lists_key}
use Rattle.dia_valid.specs.Valid.{is_wildcard}

-- the rules of a definition by its number
abbrev pub rules_in : Dictionary → ℕ → List DRule
rules_in d def = option_map_or (λ x. x.rules) (slice_get (definitions d) def) []

abbrev pub rule_of : List DRule → Key → Option DRule
rule_of rules key = find (lists_key key) rules

abbrev pub wildcard_of : List DRule → Option DRule
wildcard_of rules = find is_wildcard rules

-- the rule of a key, and the wildcard
abbrev pub HasRule : List DRule → Key → DRule → Type 0
HasRule rules key r = Contains rules r × (r.key ≡ Some key)

abbrev pub IsListed : List DRule → Key → Type 0
IsListed rules key = (r : DRule) × HasRule rules key r

abbrev pub HasWildcard : List DRule → DRule → Type 0
HasWildcard rules w = Contains rules w × (w.key ≡ None)
