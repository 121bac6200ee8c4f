-- The rules of known groups.
use Rattle.std.proofs.Common.{◌≡◌, ◌≢◌, ℕ, ◌-◌, ◌<◌, ◌≤◌, Bool, true, false, cond, List, length, take, Option, Some, None, refl, sym, ap, ◌∙◌}
use Rattle.std.specs.Prelude.{nat_le, nat_lt, option_and_then, slice_get, ◌&&◌}
use Rattle.std.specs.List.{filter_map}
use Rattle.std.specs.Option.{option_map}
use Rattle.std.proofs.lemmas.Bool.{le-leb, lt-ltb}
use Rattle.std.proofs.lemmas.Option.{none-some, same_Some, slice_get_within}
use Rattle.dia_wire.specs.declared.Key.{Key}
use Rattle.dia_wire.specs.Wire.{PlainAvp, avp_length, head_length}
use Rattle.dia_book.specs.declared.DRule.{DRule}
use Rattle.dia_book.specs.Dictionary.{DictEntry, Dictionary, PlainDefinition, definitions, entry_of, group_place}
use Rattle.dia_valid.specs.Valid.{group_at, known}
use Rattle.dia_valid.proofs.Entries.{entry_here, group_definition, group_of_entry, not_known}
use Rattle.dia_check.specs.declared.Reason.{Reason}
use Rattle.dia_check.specs.declared.Reason.TheVariants as reason
use Rattle.dia_check.specs.declared.Subject.{Subject}
use Rattle.dia_answer.specs.Failed.{PlainInside, PlainLevel, entered, may_have}

abbrev rules_in : Option DictEntry → Option (List DRule)
rules_in o = option_map (λ g. g.rules) (option_and_then (λ e. e.group) o)

pub known_rules : (d : Dictionary) (key : Key) (i n : ℕ) (def : PlainDefinition) (rules : List DRule) → Some i ≡ entry_of d key → Some n ≡ group_place d i → slice_get (definitions d) n ≡ Some def → rules ≡ def.rules
    → Some rules ≡ rules_in (known d key)
known_rules d key i n def rules is_entry is_group at same =
    let (e, at_entry, is_known) = entry_here d key i is_entry in
    let (g, has, here) = group_definition d i e at_entry n is_group in
    ap (λ (r : List DRule). Some r) (same ∙ ap (λ (x : PlainDefinition). x.rules) (same_Some def g (sym at ∙ here)))
    ∙ ap (λ (o : Option PlainDefinition). option_map (λ g. g.rules) o) (sym has) ∙ ap rules_in (sym is_known)

pub group_within : (d : Dictionary) (key : Key) (i n : ℕ) → Some i ≡ entry_of d key → Some n ≡ group_place d i → n < length (definitions d)
group_within d key i n is_entry is_group =
    let (e, at, is_known) = entry_here d key i is_entry in let (g, has, here) = group_definition d i e at n is_group in slice_get_within (definitions d) n g here
