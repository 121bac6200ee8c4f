-- Entries of a dictionary, and their groups.
use Rattle.std.proofs.Common.{◌≡◌, ℕ, ◌<◌, length, take, Option, Some, None, refl, ◌∙◌, arith, inl, inr}
use Rattle.std.specs.Prelude.{slice_get}
use Rattle.std.specs.List.{filter_map}
use Rattle.std.specs.Option.{option_map}
use Rattle.std.proofs.lemmas.Option.{none-some, slice_get_cases, slice_get_within}
use Rattle.dia_book.specs.Dictionary.{Dictionary, DictEntry, IsDictionary, PlainDefinition, definitions, group_place}
use Rattle.dia_valid.proofs.Entries.{group_definition, group_of_entry}

-- the entry at a place
pub at_place : (d : Dictionary) (i : ℕ) → i < length d.entries → (e : DictEntry) × (slice_get d.entries i ≡ Some e)
at_place d i within = elim (slice_get_cases d.entries i).1 [
  | inl h ↦ (h.0, h.2)
  | inr h ↦ (let past = h.0 in absurd (omega (arith, past, within)))
]

-- a group's number is that of its definition
pub group_here : (d : Dictionary) (i g : ℕ) (e : DictEntry) → IsDictionary d → slice_get d.entries i ≡ Some e → Some g ≡ group_place d i
    → (x : PlainDefinition) × (e.group ≡ Some x) × (slice_get (definitions d) g ≡ Some x)
group_here d i g e sound at is = group_definition d i e at g is

pub group_within : (d : Dictionary) (i g : ℕ) → IsDictionary d → i < length d.entries → Some g ≡ group_place d i → g < length (definitions d)
group_within d i g sound within is =
    let (e, at) = at_place d i within in
    let (x, some, here) = group_here d i g e sound at is in
    slice_get_within (definitions d) g x here

-- an entry without a number has no definition
pub no_group : (d : Dictionary) (i : ℕ) (e : DictEntry) → slice_get d.entries i ≡ Some e → None ≡ group_place d i → e.group ≡ None
no_group d i e at is = by e.group (is ∙ group_of_entry d i e at)
  where
    by : (o : Option PlainDefinition) → None ≡ option_map (λ _. length (filter_map (λ y. y.group) (take i d.entries))) o → o ≡ None
    by None h = refl
    by (Some x) h = absurd (none-some (length (filter_map (λ (y : DictEntry). y.group) (take i d.entries))) h)
