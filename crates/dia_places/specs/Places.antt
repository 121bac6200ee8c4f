-- By what a definition lets in the AVPs of a key.
use Rattle.std.specs.Prelude.{ℕ, Bool, not, is_some, if◌then◌else◌, List, Option, Some, None, find, option_and_then}
use Rattle.std.specs.Option.{option_map_or}
use Rattle.dia_wire.specs.declared.Key.{Key}
use Rattle.dia_book.specs.declared.definition.DRule.{DRule}
use Rattle.dia_book.specs.declared.definition.Slot.{Slot}
use Rattle.dia_book.specs.declared.definition.Slot.TheVariants as slots
use Rattle.dia_book.specs.Dictionary.{lists_key}
use Rattle.dia_places.specs.declared.places.By.{By}
use Rattle.dia_places.specs.declared.places.By.TheVariants as by
use Rattle.dia_places.specs.Paths.{allows}

abbrev pub is_wildcard : DRule → Bool
is_wildcard rule = not (is_some rule.key)

-- if AVPs may occur by the rule
abbrev pub if_allows : (DRule → By) → DRule → Option By
if_allows by rule = if allows rule then Some (by rule) else None

-- the rule that lists the key, or the wildcard if no rule does
abbrev pub by_of : List DRule → Key → Option By
by_of rules key = option_map_or (if_allows by.Rule) (find (lists_key key) rules) (option_and_then (if_allows by.Wildcard) (find is_wildcard rules))

-- the place of the rule that a slot has
abbrev pub place_of : Slot → Option ℕ
place_of (slots.Fixed i) = Some i
place_of (slots.Loose i) = Some i
place_of slots.Unlisted = None

abbrev pub rule_of : By → DRule
rule_of (by.Rule rule) = rule
rule_of (by.Wildcard rule) = rule
