-- P flags of headers, and the place at which the level of a command is read.
use Rattle.std.proofs.Common.{◌≡◌, ℕ, zero, suc, bit_and, Bool, true, false, Some, refl, sym, ap, subst, ◌∙◌, arith, inl, inr}
use Rattle.std.specs.Prelude.{◌⊎◌, slice_get}
use Rattle.std.proofs.lemmas.Option.{none-some, same_Some}
use Rattle.dia_wire.specs.Wire.{HasP}
use Rattle.dia_book.specs.declared.Pxy.{Pxy}
use Rattle.dia_book.specs.declared.Pxy.TheVariants as pxy
use Rattle.dia_book.specs.declared.DefHead.{DefHead}
use Rattle.dia_book.specs.declared.DefHead.TheVariants.{Group, Command, Error}
use Rattle.dia_book.specs.Dictionary.{Dictionary, PlainDefinition, definitions, selected}
use Rattle.dia_valid.specs.Valid.{PHolds, AllowsP}
use Rattle.dia_breaking.specs.declared.heads.Head.{Head}
use Rattle.dia_breaking.specs.declared.line.Place.{Place}
use Rattle.dia_breaking.specs.declared.line.Place.TheVariants as places
use Rattle.dia_breaking.specs.Free.{IsReadBy, HasThisP}
use Rattle.dia_breaking.specs.Headers.{head_in, allows, IsCommandPlace}

-- ---- P flags

pub is_set : (flags : ℕ) → HasP flags ⊎ (¬ HasP flags)
is_set flags = by (bit_and flags 64) refl
  where
    by : (n : ℕ) → bit_and flags 64 ≡ n → HasP flags ⊎ (¬ HasP flags)
    by zero e = inr (λ some. some e)
    by (suc n) e = inl (λ none. let f : suc n ≡ 0 = sym e ∙ none in omega (arith, f))

pub allows_holds : (p : Pxy) (set : Bool) (flags : ℕ) → HasThisP set flags → allows p set ≡ true → PHolds p flags
allows_holds pxy.Clear true flags has may = absurd (let f : false ≡ true = may in cc)
allows_holds pxy.Clear false flags has may = has
allows_holds pxy.Set true flags has may = has
allows_holds pxy.Set false flags has may = absurd (let f : false ≡ true = may in cc)
allows_holds pxy.Either set flags has may = tt

pub holds_allows : (p : Pxy) (set : Bool) (flags : ℕ) → HasThisP set flags → PHolds p flags → allows p set ≡ true
holds_allows pxy.Clear true flags has holds = absurd (holds has)
holds_allows pxy.Clear false flags has holds = refl
holds_allows pxy.Set true flags has holds = refl
holds_allows pxy.Set false flags has holds = absurd (has holds)
holds_allows pxy.Either set flags has holds = refl

pub head_allows : (h : DefHead) (head : Head) (flags : ℕ) → head_in h ≡ Some head → AllowsP h flags → PHolds head.p flags
head_allows (Group key) head flags is allowed = absurd allowed
head_allows (Command code class app p) head flags is allowed = subst (λ (q : Pxy). PHolds q flags) (ap (λ (h : Head). h.p) (same_Some _ head is)) allowed
head_allows (Error p) head flags is allowed = subst (λ (q : Pxy). PHolds q flags) (ap (λ (h : Head). h.p) (same_Some _ head is)) allowed

pub allows_head : (h : DefHead) (head : Head) (flags : ℕ) → head_in h ≡ Some head → PHolds head.p flags → AllowsP h flags
allows_head (Group key) head flags is holds = absurd (none-some head is)
allows_head (Command code class app p) head flags is holds = subst (λ (q : Pxy). PHolds q flags) (sym (ap (λ (h : Head). h.p) (same_Some _ head is))) holds
allows_head (Error p) head flags is holds = subst (λ (q : Pxy). PHolds q flags) (sym (ap (λ (h : Head). h.p) (same_Some _ head is))) holds

-- ---- the command

-- at the command's own place B's definition for the application reads the level
pub read_at : (da db : Dictionary) (c : ℕ) (x : PlainDefinition) (head : Head) (place : Place) (app number : ℕ) (other : PlainDefinition) → slice_get (definitions da) c ≡ Some x
    → head_in x.head ≡ Some head
    → IsCommandPlace app place → selected db head.code head.class app ≡ Some number → slice_get (definitions db) number ≡ Some other → IsReadBy da db c place x other
read_at da db c x head (places.Group key outer) app number other at is_head here select is = absurd here
read_at da db c x head (places.Command sent own is_recorded proxiable) app number other at is_head here select is =
    (at, (head, number, is_head, subst (λ (a : ℕ). selected db head.code head.class a ≡ Some number) (sym here) select, is))
