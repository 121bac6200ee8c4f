-- The rules of the definition with an owner's number are the owner's.
use Rattle.std.proofs.Common.{◌≡◌, ℕ, ◌+◌, Bool, true, false, ltb, length, take, [], Option, Some, None, refl, sym, ap, ◌∙◌, cond}
use Rattle.std.specs.Prelude.{option_and_then, slice_get}
use Rattle.std.specs.List.{filter_map}
use Rattle.std.specs.Option.{option_map, option_map_or}
use Rattle.std.proofs.lemmas.Bool.{ltb-true, ltb-false}
use Rattle.std.proofs.lemmas.Option.{none-some, same_Some, slice_get_past}
use Rattle.dia_book.specs.Dictionary.{Dictionary, DictEntry, PlainDefinition, definitions, groups, group_place}
use Rattle.dia_book.proofs.NumberedGroups.{slice_get-append_right}
use Rattle.dia_valid.proofs.Entries.{group_definition, group_of_entry}
use Rattle.dia_valid.proofs.Members.{there_is}
use Rattle.dia_differences.specs.declared.owner.Owner.{Owner}
use Rattle.dia_differences.specs.declared.owner.Owner.TheVariants.{Avp, Command}
use Rattle.dia_differences.specs.Owners.{definition_of, owned, rules_of}

abbrev Known : Dictionary → Owner → ℕ → Type 0
Known d of n = (def : PlainDefinition) × (owned d of ≡ Some def) × (slice_get (definitions d) n ≡ Some def)

avp_known : (d : Dictionary) (i n : ℕ) (o : Option DictEntry) → slice_get d.entries i ≡ o → Some n ≡ group_place d i → Known d (Avp i) n
avp_known d i n None at is =
    absurd (none-some n (sym (is ∙ ap (λ (o : Option DictEntry). option_and_then (λ x. option_map (λ _. length (filter_map (λ (y : DictEntry). y.group) (take i d.entries))) x.group) o) at)))
avp_known d i n (Some e) at is =
    let (def, own, here) = group_definition d i e at n is in
    (def, ap (λ (o : Option DictEntry). option_and_then (λ x. x.group) o) at ∙ own, here)

command_known : (d : Dictionary) (i n : ℕ) (b : Bool) (o : Option PlainDefinition) → ltb i (length d.commands) ≡ b → slice_get d.commands i ≡ o
    → Some n ≡ cond b (Some (length (groups d) + i)) None → Known d (Command i) n
command_known d i n false o test at is = absurd (none-some n (sym is))
command_known d i n true None test at is = absurd (let (def, there) = there_is d.commands i (ltb-true i (length d.commands) test) in none-some def (sym at ∙ there))
command_known d i n true (Some def) test at is =
    let number : length (groups d) + i ≡ n = sym (same_Some n (length (groups d) + i) is) in
    (def, at, ap (slice_get (definitions d)) (sym number) ∙ slice_get-append_right (groups d) d.commands i ∙ at)

-- the definition with an owner's number is the owner's
pub known : (d : Dictionary) (of : Owner) (n : ℕ) → Some n ≡ definition_of d of → Known d of n
known d (Avp i) n is = avp_known d i n (slice_get d.entries i) refl is
known d (Command i) n is = command_known d i n (ltb i (length d.commands)) (slice_get d.commands i) refl refl is

pub rules_some : (d : Dictionary) (of : Owner) (n : ℕ) (x : PlainDefinition) → Some n ≡ definition_of d of → slice_get (definitions d) n ≡ Some x → x.rules ≡ rules_of d of
rules_some d of n x is at =
    let (def, own, here) = known d of n is in
    sym (ap (λ (o : Option PlainDefinition). option_map_or (λ (y : PlainDefinition). y.rules) o []) (own ∙ sym here ∙ at))

group_none : (o : Option PlainDefinition) (n : ℕ) → None ≡ option_map (λ _. n) o → o ≡ None
group_none None n h = refl
group_none (Some g) n h = absurd (none-some n h)

avp_none : (d : Dictionary) (i : ℕ) (o : Option DictEntry) → slice_get d.entries i ≡ o → None ≡ group_place d i → owned d (Avp i) ≡ None
avp_none d i None at is = ap (λ (o : Option DictEntry). option_and_then (λ x. x.group) o) at
avp_none d i (Some e) at is =
    ap (λ (o : Option DictEntry). option_and_then (λ x. x.group) o) at ∙ group_none e.group (length (filter_map (λ (y : DictEntry). y.group) (take i d.entries))) (is ∙ group_of_entry d i e at)

command_none : (d : Dictionary) (i : ℕ) (b : Bool) → ltb i (length d.commands) ≡ b → None ≡ cond b (Some (length (groups d) + i)) None → slice_get d.commands i ≡ None
command_none d i true test is = absurd (none-some (length (groups d) + i) is)
command_none d i false test is = slice_get_past d.commands i (ltb-false i (length d.commands) test)

none_owned : (d : Dictionary) (of : Owner) → None ≡ definition_of d of → owned d of ≡ None
none_owned d (Avp i) is = avp_none d i (slice_get d.entries i) refl is
none_owned d (Command i) is = command_none d i (ltb i (length d.commands)) refl is

pub rules_none : (d : Dictionary) (of : Owner) → None ≡ definition_of d of → [] ≡ rules_of d of
rules_none d of is = sym (ap (λ (o : Option PlainDefinition). option_map_or (λ (y : PlainDefinition). y.rules) o []) (none_owned d of is))
