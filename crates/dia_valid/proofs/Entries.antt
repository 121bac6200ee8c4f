-- What is at a place of a list, the entry of a key, and the definition of its group.
use Rattle.std.proofs.Common.{◌≡◌, ℕ, zero, suc, ◌<◌, ◌≤◌, Bool, true, List, [], ◌∷◌, length, take, get_or, Option, Some, None, refl, sym, ap, subst, ◌∙◌, arith, inl, inr}
use Rattle.std.specs.Prelude.{slice_get, position, option_and_then, All, ◌⊎◌}
use Rattle.std.specs.List.{filter_map, cons_option}
use Rattle.std.specs.Option.{option_map}
use Rattle.std.proofs.lemmas.List.Quantifiers.{position-Some}
use Rattle.std.proofs.lemmas.List.Sums.{length-filter, count_by-le-length}
use Rattle.std.proofs.lemmas.Option.{none-some, same_Some, slice_get-get_or, slice_get_cases, slice_get_within}
use Rattle.dia_wire.specs.declared.Key.{Key}
use Rattle.dia_book.specs.Keys.{same_key}
use Rattle.dia_book.specs.declared.DRule.{DRule}
use Rattle.dia_book.specs.Dictionary.{Dictionary, DictEntry, IsDictionary, PlainDefinition, AreRules, definitions, groups, entry_of, group_place, is_fixed}
use Rattle.dia_book.proofs.Lists.{position-within}
use Rattle.dia_book.proofs.NumberedGroups.{slice_get-append_left}
use Rattle.dia_valid.specs.Valid.{known, fixed_rules}

pub at_position : {X : Type 0} (p : X → Bool) (xs : List X) (i : ℕ) → position p xs ≡ Some i → (x : X) × (slice_get xs i ≡ Some x) × (p x ≡ true)
at_position {X} p xs i e = by (slice_get_cases xs i).1
  where
    by : ((x : X) × (i < length xs) × (slice_get xs i ≡ Some x) × (get_or xs i x ≡ x)) ⊎ ((length xs ≤ i) × (slice_get xs i ≡ None)) → (x : X) × (slice_get xs i ≡ Some x) × (p x ≡ true)
    by (inl (x, lt, at, got)) = (x, at, ap p (sym got) ∙ (position-Some p xs i x e).1)
    by (inr (le, none)) = absurd (omega (arith, le, position-within p xs i e))

pub all_at : {X : Type 0} (P : X → Type 0) (xs : List X) (i : ℕ) (x : X) → All P xs → slice_get xs i ≡ Some x → P x
all_at P xs i x all at = let within = slice_get_within xs i x at in subst P (same_Some (get_or xs i x) x (sym (slice_get-get_or xs i x within) ∙ at)) (all i x within)

pub fixed_few : (rules : List DRule) → length (fixed_rules rules) ≤ length rules
fixed_few rules = omega (arith, length-filter is_fixed rules, count_by-le-length is_fixed rules)

-- ---- entries and definitions

-- the entry with a key's place
pub entry_here : (d : Dictionary) (key : Key) (i : ℕ) → Some i ≡ entry_of d key → (e : DictEntry) × (slice_get d.entries i ≡ Some e) × (known d key ≡ Some e)
entry_here d key i is =
    let (e, at, same) = at_position (λ (e : DictEntry). same_key key e.key) d.entries i (sym is) in
    (e, at, ap (λ (o : Option ℕ). option_and_then (λ j. slice_get d.entries j) o) (sym is) ∙ at)

pub entry_within : (d : Dictionary) (key : Key) (i : ℕ) → Some i ≡ entry_of d key → i < length d.entries
entry_within d key i is = let (e, at, same) = entry_here d key i is in slice_get_within d.entries i e at

pub not_known : (d : Dictionary) (key : Key) → None ≡ entry_of d key → known d key ≡ None
not_known d key is = ap (λ (o : Option ℕ). option_and_then (λ j. slice_get d.entries j) o) (sym is)

-- as many groups precede a group as its number says
group_at_number : (es : List DictEntry) (i : ℕ) (e : DictEntry) (g : PlainDefinition) → slice_get es i ≡ Some e → e.group ≡ Some g
    → slice_get (filter_map (λ x. x.group) es) (length (filter_map (λ x. x.group) (take i es))) ≡ Some g
group_at_number [] i e g at is = absurd (none-some e at)
group_at_number (x ∷ es) zero e g at is = ap (λ (o : Option PlainDefinition). slice_get (cons_option o (filter_map (λ y. y.group) es)) 0) (ap (λ (y : DictEntry). y.group) (same_Some x e at) ∙ is)
group_at_number (x ∷ es) (suc i) e g at is = by x.group (group_at_number es i e g at is)
  where
    by : (o : Option PlainDefinition) → slice_get (filter_map (λ y. y.group) es) (length (filter_map (λ y. y.group) (take i es))) ≡ Some g
        → slice_get (cons_option o (filter_map (λ y. y.group) es)) (length (cons_option o (filter_map (λ y. y.group) (take i es)))) ≡ Some g
    by None h = h
    by (Some f) h = h

pub group_of_entry : (d : Dictionary) (i : ℕ) (e : DictEntry) → slice_get d.entries i ≡ Some e → group_place d i ≡ option_map (λ _. length (filter_map (λ y. y.group) (take i d.entries))) e.group
group_of_entry d i e at = ap (λ (o : Option DictEntry). option_and_then (λ x. option_map (λ _. length (filter_map (λ y. y.group) (take i d.entries))) x.group) o) at

-- a group's number is that of its definition
pub group_definition : (d : Dictionary) (i : ℕ) (e : DictEntry) → slice_get d.entries i ≡ Some e → (n : ℕ) → Some n ≡ group_place d i
    → (g : PlainDefinition) × (e.group ≡ Some g) × (slice_get (definitions d) n ≡ Some g)
group_definition d i e at n is = by e.group refl (is ∙ group_of_entry d i e at)
  where
    by : (o : Option PlainDefinition) → e.group ≡ o → Some n ≡ option_map (λ _. length (filter_map (λ y. y.group) (take i d.entries))) o
        → (g : PlainDefinition) × (e.group ≡ Some g) × (slice_get (definitions d) n ≡ Some g)
    by None none h = absurd (none-some n (sym h))
    by (Some g) some h =
        let number : length (filter_map (λ (y : DictEntry). y.group) (take i d.entries)) ≡ n = sym (same_Some n (length (filter_map (λ (y : DictEntry). y.group) (take i d.entries))) h) in
        let here : slice_get (groups d) n ≡ Some g = ap (λ (k : ℕ). slice_get (groups d) k) (sym number) ∙ group_at_number d.entries i e g at some in
        (g, some, slice_get-append_left (groups d) d.commands n (slice_get_within (groups d) n g here) ∙ here)

-- the definition of a recorded level has rules
pub kept_rules : (d : Dictionary) (i : ℕ) (def : PlainDefinition) → IsDictionary d → slice_get (definitions d) i ≡ Some def → AreRules def.rules
kept_rules d i def sound at = all_at (λ (x : PlainDefinition). AreRules x.rules) (definitions d) i def sound.rules at
