-- Maps of slots, one for each definition, and what a look-up in them finds.
use Rattle.std.proofs.Common.{◌≡◌, ℕ, ◌+◌, ◌<◌, List, [], ◌∷◌, ◌++◌, length, Option, Some, None, sym, ap, ◌∙◌, subst, arith, inl, inr, ⊎_elim, ◌⊎◌, zero, suc, refl, get_or, unwrap_or}
use Rattle.std.specs.Prelude.{slice_get, IfSome}
use Rattle.std.specs.List.{range_with_len}
use Rattle.std.proofs.Math.Logic.{∥∥₁_elim}
use Rattle.std.proofs.Props.{props}
use mathlib.Core.Sum.{⊎_set}
use Rattle.std.proofs.lemmas.Option.{slice_get_within, slice_get_read, same_Some, none-some}
use Rattle.std.proofs.lemmas.List.{length-append, length_push}
use Rattle.indexmap.specs.IndexMap.{get}
use Rattle.dia_wire.specs.declared.Key.{Key}
use Rattle.dia_book.specs.Dictionary.{PlainDefinition, plain_definition, definitions, slot_of}
use Rattle.dia_book.specs.Keys.{same_key}
use Rattle.dia_book.specs.declared.Definition.{Definition}
use Rattle.dia_book.specs.declared.Slot.{Slot}
use Rattle.dia_book.specs.declared.Slot.TheVariants.{Unlisted}
use Rattle.dia_dict.specs.PlainMeaning.{numbers}
use Rattle.dia_dict.specs.Indexed.{AreSlots, AreSlotsOfEach}
use Rattle.dia_dict.specs.declared.entry_list.Row.{Row}
use Rattle.dia_dict.specs.declared.key_map.KeyMap.{KeyMap}
use Rattle.dia_dict.proofs.Indexing.Places.{image_at}
use Rattle.dia_book.proofs.Members.{at_append}
use Rattle.dia_dict.proofs.BookRows.{held, definitions-held, length-definitions-held}

abbrev pub SlotMap : Type 0
SlotMap = KeyMap Slot

-- what is at a place of a list with one more member
at_last : {X : Type 0} (x y : X) (j : ℕ) → slice_get (x ∷ []) j ≡ Some y → (j ≡ 0) × (x ≡ y)
at_last x y zero e = (refl, same_Some x y e)
at_last x y (suc j) e = absurd (none-some y e)

at_push : {X : Type 0} (xs : List X) (x : X) (i : ℕ) (y : X) → slice_get (xs ++ x ∷ []) i ≡ Some y → (slice_get xs i ≡ Some y) ⊎ ((i ≡ length xs) × (x ≡ y))
at_push xs x i y at = ⊎_elim (λ a. inl a) (λ b. let l = at_last x y b.0 b.2 in inr ((let e : i ≡ length xs = omega (arith, b.1, l.0) in e), l.1)) (at_append xs (x ∷ []) i y at)

-- one definition and its map more
pub AreSlotsOfEach-more : (all : List SlotMap) (ds : List Definition) (slots : SlotMap) (d : Definition)
    → AreSlotsOfEach all ds → AreSlots slots d → AreSlotsOfEach (all ++ slots ∷ []) (ds ++ d ∷ [])
AreSlotsOfEach-more all ds slots d known own = (
  omega (arith, known.0, length_push all slots, length_push ds d),
  λ i t e at on. elim (at_push all slots i t at) [
    | inl a ↦ elim (at_push ds d i e on) [
      | inl b ↦ known.1 i t e a b
      | inr b ↦ absurd (omega (arith, b.0, known.0, slice_get_within all i t a))
    ]
    | inr a ↦ elim (at_push ds d i e on) [
      | inl b ↦ absurd (omega (arith, a.0, known.0, slice_get_within ds i e b))
      | inr b ↦ subst (λ (x : SlotMap). AreSlots x e) a.1 (subst (λ (y : Definition). AreSlots slots y) b.1 own)
    ]
  ],
)

pub AreSlotsOfEach-none : AreSlotsOfEach [] []
AreSlotsOfEach-none = (refl, λ i t e at on. absurd (none-some t at))

slot-prop : (a b : Slot) → IsProp (a ≡ b)
slot-prop a b = hlevel (props, ⊎_set)

-- ---- look-ups

-- the map with a definition's number is that definition's
module _ (rows : List Row) (groups commands : List Definition) (numbered : numbers rows ≡ range_with_len 0 (length groups))
    (all : List SlotMap) (slotted : ∥ AreSlotsOfEach all (groups ++ commands) ∥₁) where
  pub length-slots : length all ≡ length groups + length commands
  length-slots = ∥∥₁_elim slotted (hlevel props) (λ s. s.0) ∙ length-append groups commands

  -- and has the slots of its rules
  slots-at : (def : ℕ) (slots : SlotMap) (d : PlainDefinition) → slice_get all def ≡ Some slots → slice_get (definitions (held rows groups commands)) def ≡ Some d
      → (key : Key) → unwrap_or (get same_key slots.map key) Unlisted ≡ slot_of d.rules key
  slots-at def slots d at on key = ∥∥₁_elim slotted (slot-prop _ _) (λ s.
      let one = image_at plain_definition (slice_get (groups ++ commands) def) d (sym (definitions-held rows groups commands numbered def) ∙ on) in
      s.1 def slots one.0 at one.1 key ∙ ap (λ (p : PlainDefinition). slot_of p.rules key) one.2)

  -- as a look-up reads it
  pub slot-found : (def i : ℕ) (slots : SlotMap) → i ≡ def → def < length (definitions (held rows groups commands)) → slots ≡ get_or all i slots
      → (key : Key) → IfSome (slice_get (definitions (held rows groups commands)) def) (λ d. unwrap_or (get same_key slots.map key) Unlisted ≡ slot_of d.rules key)
  slot-found def i slots same within read key =
      let short : def < length all = omega (arith, within, length-slots, length-definitions-held rows groups commands numbered) in
      let at = slice_get_read all (length all) def slots refl short (subst (λ (k : ℕ). slots ≡ get_or all k slots) same read) in
      by (slice_get (definitions (held rows groups commands)) def) refl at
    where
      by : (o : Option PlainDefinition) → slice_get (definitions (held rows groups commands)) def ≡ o → slice_get all def ≡ Some slots
          → IfSome o (λ d. unwrap_or (get same_key slots.map key) Unlisted ≡ slot_of d.rules key)
      by None e at = tt
      by (Some d) e at = slots-at def slots d at e key
