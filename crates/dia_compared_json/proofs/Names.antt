-- What has a name, among members that are gone through one by one.
use Rattle.std.proofs.Common.{◌≡◌, ◌∙◌, ℕ, zero, suc, ◌+◌, ◌<◌, ◌≤◌, Bool, true, false, cond, nat_lt, List, [], ◌∷◌, length, take, get_or, Option, Some, None, refl, sym, ap, ap₂, subst, arith}
use Rattle.std.specs.Prelude.{IfSome, not, position, slice_get, option_and_then}
use Rattle.std.specs.List.{list_any, prefix_len}
use Rattle.std.specs.Option.{option_map}
use Rattle.std.specs.Str.{bytes_eq}
use Rattle.std.proofs.lemmas.Bool.{lt-ltb, or_parts}
use Rattle.std.proofs.lemmas.List.{take_all}
use Rattle.std.proofs.lemmas.List.Quantifiers.{position-Some}
use Rattle.std.proofs.lemmas.Option.{none-some, same_Some, slice_get-get_or, slice_get_within}
use Rattle.dia_wire.specs.declared.Key.{Key}
use Rattle.dia_book.specs.Dictionary.{Dictionary, DictEntry, PlainDefinition, definitions, group_place}
use Rattle.dia_book.proofs.Lists.{position-within}
use Rattle.dia_book.proofs.Members.{list_any-none_at}
use Rattle.dia_compat.specs.PairTests.{command_named}
use Rattle.dia_compat.proofs.FilteredMembers.{none_more_at}
use Rattle.dia_compat.proofs.SetsOfNames.{get_none}
use Rattle.dia_compared_json.specs.Parts.{Side, avp_side}

-- so many fail the test before the first that passes it
fail_before : {X : Type 0} (p : X → Bool) (xs : List X) (i : ℕ) (x : X) → list_any p (take i xs) ≡ false → slice_get xs i ≡ Some x → p x ≡ true → prefix_len (λ y. not (p y)) xs ≡ i
fail_before p [] i x before at passes = absurd (none-some x at)
fail_before p (y ∷ ys) zero x before at passes = ap (λ (b : Bool). cond (not b) (1 + prefix_len (λ z. not (p z)) ys) 0) (ap p (same_Some y x at) ∙ passes)
fail_before p (y ∷ ys) (suc i) x before at passes =
    let parts = or_parts (p y) (list_any p (take i ys)) before in
    let one : 1 + i ≡ suc i = omega arith in
    ap (λ (b : Bool). cond (not b) (1 + prefix_len (λ z. not (p z)) ys) 0) parts.0 ∙ ap (λ (n : ℕ). 1 + n) (fail_before p ys i x parts.1 at passes) ∙ one

first_place : {X : Type 0} (p : X → Bool) (xs : List X) (i : ℕ) (x : X) → list_any p (take i xs) ≡ false → slice_get xs i ≡ Some x → p x ≡ true → position p xs ≡ Some i
first_place p xs i x before at passes =
    ap (λ (n : ℕ). cond (nat_lt n (length xs)) (Some n) None) (fail_before p xs i x before at passes)
    ∙ ap (λ (b : Bool). cond b (Some i) None) (lt-ltb i (length xs) (slice_get_within xs i x at))

pub no_place : {X : Type 0} (p : X → Bool) (xs : List X) → list_any p xs ≡ false → position p xs ≡ None
no_place {X} p [] none = refl
no_place {X} p (y ∷ ys) none = by (position p (y ∷ ys)) refl
  where
    by : (o : Option ℕ) → position p (y ∷ ys) ≡ o → o ≡ None
    by None e = refl
    by (Some k) e =
        let r = position-Some p (y ∷ ys) k y e in
        absurd (let f : true ≡ false = sym r.1 ∙ list_any-none_at p (y ∷ ys) none k (get_or (y ∷ ys) k y) (slice_get-get_or (y ∷ ys) k y r.0) in cc)

-- where no member among so many passes, and there are no more
pub none_named_at : {X : Type 0} (p : X → Bool) (xs : List X) (i : ℕ) → length xs ≤ i → list_any p (take i xs) ≡ false → position p xs ≡ None
none_named_at {X} p xs i all none = no_place p xs (subst (λ (ys : List X). list_any p ys ≡ false) (take_all i xs all) none)

-- ---- commands

pub command_found : (d : Dictionary) (name own : List ℕ) (i : ℕ) (x : PlainDefinition) (b : Bool) → list_any (λ (c : PlainDefinition). bytes_eq name c.name) (take i d.commands) ≡ false
    → slice_get d.commands i ≡ Some x → own ≡ x.name → b ≡ bytes_eq name own → b ≡ true → Some x ≡ option_and_then (slice_get d.commands) (command_named d name)
command_found d name own i x b before at is_own is_b holds =
    let passes : bytes_eq name x.name ≡ true = ap (bytes_eq name) (sym is_own) ∙ sym is_b ∙ holds in
    sym (ap (option_and_then (slice_get d.commands)) (first_place (λ (c : PlainDefinition). bytes_eq name c.name) d.commands i x before at passes) ∙ at)

-- ---- members of a list that have names

item_at : {X : Type 0} (xs : List X) (i : ℕ) → i < length xs → (x : X) × (slice_get xs i ≡ Some x)
item_at {X} xs i within = by (slice_get xs i) refl
  where
    by : (o : Option X) → slice_get xs i ≡ o → (x : X) × (slice_get xs i ≡ Some x)
    by None e = absurd (let z = get_none xs i e in omega (arith, within, z))
    by (Some x) e = (x, e)

named_at : {X : Type 0} (name : X → List ℕ) (xs : List X) (i j : ℕ) (own : List ℕ) → i < length xs → j ≡ i → IfSome (slice_get xs j) (λ x. own ≡ name x)
    → (x : X) × (slice_get xs i ≡ Some x) × (own ≡ name x)
named_at {X} name xs i j own within same h =
    let m = item_at xs i within in
    (m.0, m.1, subst (λ (o : Option X). IfSome o (λ x. own ≡ name x)) m.1 (subst (λ (k : ℕ). IfSome (slice_get xs k) (λ x. own ≡ name x)) same h))

pub named_found : {X : Type 0} (name : X → List ℕ) (xs : List X) (text own : List ℕ) (i j : ℕ) (b : Bool) → i < length xs → j ≡ i → IfSome (slice_get xs j) (λ x. own ≡ name x)
    → b ≡ bytes_eq text own → b ≡ true → list_any (λ x. bytes_eq text (name x)) (take i xs) ≡ false → Some j ≡ position (λ x. bytes_eq text (name x)) xs
named_found name xs text own i j b within same h is_b holds before =
    let m = named_at name xs i j own within same h in
    ap (λ (k : ℕ). Some k) same ∙ sym (first_place (λ x. bytes_eq text (name x)) xs i m.0 before m.1 (ap (bytes_eq text) (sym m.2) ∙ sym is_b ∙ holds))

pub none_named : {X : Type 0} (name : X → List ℕ) (xs : List X) (text own : List ℕ) (i j : ℕ) (b : Bool) → i < length xs → j ≡ i → IfSome (slice_get xs j) (λ x. own ≡ name x)
    → b ≡ bytes_eq text own → b ≡ false → list_any (λ x. bytes_eq text (name x)) (take i xs) ≡ false → list_any (λ x. bytes_eq text (name x)) (take (i + 1) xs) ≡ false
none_named name xs text own i j b within same h is_b fails before =
    let m = named_at name xs i j own within same h in
    none_more_at (λ x. bytes_eq text (name x)) xs i m.0 b m.1 (is_b ∙ ap (bytes_eq text) m.2) fails before

-- ---- an AVP of a dictionary

pub place_within : {X : Type 0} (p : X → Bool) (xs : List X) (o : Option ℕ) → o ≡ position p xs → IfSome o (λ i. i < length xs)
place_within p xs None e = tt
place_within p xs (Some i) e = position-within p xs i (sym e)

abbrev side : Dictionary → Option PlainDefinition → Option Key → Side
side d definition avp = record { dictionary = d; definition = definition; avp = avp }

pub avp_there : (d : Dictionary) (i : ℕ) (o : Option ℕ) (definition : Option PlainDefinition) (key : Key) → o ≡ Some i → IfSome o (λ e. e < length d.entries)
    → definition ≡ option_and_then (slice_get (definitions d)) (group_place d i) → IfSome (slice_get d.entries i) (λ e. key ≡ e.key) → side d definition (Some key) ≡ avp_side d o
avp_there d i o definition key is within is_definition is_key =
    let inside : i < length d.entries = subst (λ (x : Option ℕ). IfSome x (λ e. e < length d.entries)) is within in
    let m = item_at d.entries i inside in
    let own : key ≡ m.0.key = subst (λ (x : Option DictEntry). IfSome x (λ e. key ≡ e.key)) m.1 is_key in
    let avp : Some key ≡ option_map (λ (e : DictEntry). e.key) (slice_get d.entries i) = ap (λ (k : Key). Some k) own ∙ ap (option_map (λ (e : DictEntry). e.key)) (sym m.1) in
    ap₂ (λ (x : Option PlainDefinition) (y : Option Key). side d x y) is_definition avp ∙ ap (avp_side d) (sym is)
