-- The names at places.
use Rattle.std.proofs.Common.{◌≡◌, ℕ, ◌<◌, ◌≤◌, List, [], length, Option, Some, sym, ap, subst, ◌∙◌}
use Rattle.std.specs.Prelude.{IfSome, slice_get}
use Rattle.std.specs.Option.{option_map_or}
use Rattle.std.proofs.lemmas.Option.{slice_get_past}
use Rattle.dia_book.specs.Dictionary.{DictEntry, PlainDefinition}
use Rattle.dia_valid.proofs.Members.{at_some, there_is}

pub no_avp : (xs : List DictEntry) (i : ℕ) → length xs ≤ i → [] ≡ option_map_or (λ e. e.name) (slice_get xs i) []
no_avp xs i past = sym (ap (λ (o : Option DictEntry). option_map_or (λ (e : DictEntry). e.name) o []) (slice_get_past xs i past))

pub no_command : (xs : List PlainDefinition) (i : ℕ) → length xs ≤ i → [] ≡ option_map_or (λ c. c.name) (slice_get xs i) []
no_command xs i past = sym (ap (λ (o : Option PlainDefinition). option_map_or (λ (c : PlainDefinition). c.name) o []) (slice_get_past xs i past))

pub avp_name : (xs : List DictEntry) (i j : ℕ) (name : List ℕ) → j ≡ i → i < length xs → IfSome (slice_get xs j) (λ e. name ≡ e.name) → name ≡ option_map_or (λ e. e.name) (slice_get xs i) []
avp_name xs i j name same within read =
    let (x, at) = there_is xs i within in
    at_some (λ (e : DictEntry). name ≡ e.name) (slice_get xs i) x (subst (λ (k : ℕ). IfSome (slice_get xs k) (λ (e : DictEntry). name ≡ e.name)) same read) at
    ∙ sym (ap (λ (o : Option DictEntry). option_map_or (λ (e : DictEntry). e.name) o []) at)

pub command_name : (xs : List PlainDefinition) (i : ℕ) (x : PlainDefinition) (name : List ℕ) → slice_get xs i ≡ Some x → name ≡ x.name → name ≡ option_map_or (λ c. c.name) (slice_get xs i) []
command_name xs i x name at is = is ∙ sym (ap (λ (o : Option PlainDefinition). option_map_or (λ (c : PlainDefinition). c.name) o []) at)
