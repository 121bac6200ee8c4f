-- The number of an entry's definition.
use Rattle.std.proofs.Common.{◌≡◌, ℕ, zero, suc, ◌<◌, List, [], ◌∷◌, length, take, Option, Some, None, refl, ap, ◌∙◌, sym}
use Rattle.std.specs.Prelude.{slice_get, IfSome, option_and_then}
use Rattle.std.specs.List.{filter_map, cons_option}
use Rattle.std.specs.Option.{option_map}
use Rattle.std.proofs.lemmas.Option.{none-some, same_Some, slice_get_within}
use Rattle.dia_book.specs.Dictionary.{Dictionary, DictEntry, PlainDefinition, groups, definitions, group_place}
use Rattle.dia_book.proofs.Members.{into_left}

mapped_at : {X Y : Type 0} (h : X → Option Y) (xs : List X) (i : ℕ) (x : X) (y : Y) → slice_get xs i ≡ Some x → h x ≡ Some y → slice_get (filter_map h xs) (length (filter_map h (take i xs))) ≡ Some y
mapped_at h [] i x y at e = absurd (none-some x at)
mapped_at {X} {Y} h (z ∷ xs) zero x y at e = ap (λ (o : Option Y). slice_get (cons_option o (filter_map h xs)) 0) (ap h (same_Some z x at) ∙ e)
mapped_at {X} {Y} h (z ∷ xs) (suc i) x y at e = by (h z) (mapped_at h xs i x y at e)
  where
    by : (o : Option Y) → slice_get (filter_map h xs) (length (filter_map h (take i xs))) ≡ Some y → slice_get (cons_option o (filter_map h xs))
        (length (cons_option o (filter_map h (take i xs)))) ≡ Some y
    by None k = k
    by (Some w) k = k

abbrev pub number_of : Dictionary → ℕ → ℕ
number_of d i = length (filter_map (λ (e : DictEntry). e.group) (take i d.entries))

numbered : (d : Dictionary) (i : ℕ) (e : DictEntry) → slice_get d.entries i ≡ Some e → group_place d i ≡ option_map (λ _. number_of d i) e.group
numbered d i e at = ap (λ (o : Option DictEntry). option_and_then (λ (x : DictEntry). option_map (λ _. number_of d i) x.group) o) at

pub group_there : (d : Dictionary) (i : ℕ) (e : DictEntry) (g : PlainDefinition) → slice_get d.entries i ≡ Some e → e.group ≡ Some g
    → (group_place d i ≡ Some (number_of d i)) × (slice_get (definitions d) (number_of d i) ≡ Some g)
group_there d i e g at is = (
  numbered d i e at ∙ ap (option_map (λ _. number_of d i)) is,
  into_left (groups d) d.commands (number_of d i) g (mapped_at (λ (x : DictEntry). x.group) d.entries i e g at is),
)

pub group_missing : (d : Dictionary) (i : ℕ) (e : DictEntry) → slice_get d.entries i ≡ Some e → e.group ≡ None → group_place d i ≡ None
group_missing d i e at is = numbered d i e at ∙ ap (option_map (λ _. number_of d i)) is

pub group_within : (d : Dictionary) (i : ℕ) → IfSome (group_place d i) (λ x. x < length (definitions d))
group_within d i = by (slice_get d.entries i) refl
  where
    of : (e : DictEntry) → slice_get d.entries i ≡ Some e → (o : Option PlainDefinition) → e.group ≡ o → IfSome (option_map (λ _. number_of d i) o) (λ x. x < length (definitions d))
    of e at None is = tt
    of e at (Some g) is = slice_get_within (definitions d) (number_of d i) g (group_there d i e g at is).1

    by : (o : Option DictEntry) → slice_get d.entries i ≡ o → IfSome (option_and_then (λ (x : DictEntry). option_map (λ _. number_of d i) x.group) o) (λ x. x < length (definitions d))
    by None at = tt
    by (Some e) at = of e at e.group refl

-- the number of an entry's group is that of its definition
pub group_number : (d : Dictionary) (i n : ℕ) (e : DictEntry) → slice_get d.entries i ≡ Some e → group_place d i ≡ Some n
    → (g : PlainDefinition) × (e.group ≡ Some g) × (slice_get (definitions d) n ≡ Some g)
group_number d i n e at is = by e.group refl
  where
    number : ℕ
    number = length (filter_map (λ (y : DictEntry). y.group) (take i d.entries))

    read : group_place d i ≡ option_map (λ _. number) e.group
    read = ap (λ (o : Option DictEntry). option_and_then (λ (x : DictEntry). option_map (λ _. number) x.group) o) at

    by : (o : Option PlainDefinition) → e.group ≡ o → (g : PlainDefinition) × (e.group ≡ Some g) × (slice_get (definitions d) n ≡ Some g)
    by None h = absurd (let f : None ≡ Some n = sym (read ∙ ap (λ (o : Option PlainDefinition). option_map (λ _. number) o) h) ∙ is in cc)
    by (Some g) h =
        let same : number ≡ n = same_Some number n (sym (read ∙ ap (λ (o : Option PlainDefinition). option_map (λ _. number) o) h) ∙ is) in
        (g, h, ap (slice_get (definitions d)) (sym same) ∙ into_left (groups d) d.commands number g (mapped_at (λ (x : DictEntry). x.group) d.entries i e g at h))
