-- Places order keys as ranks do.
use Rattle.std.proofs.Common.{◌≡◌, ℕ, suc, ◌<◌, Bool, true, false, List, [], ◌∷◌, length, Option, Some, None, refl, sym, ap, ◌∙◌, arith, inl, inr}
use Rattle.std.specs.Prelude.{◌⊎◌, position, slice_get, option_and_then, if◌then◌else◌}
use Rattle.std.specs.Option.{option_map_or}
use Rattle.dia_wire.specs.declared.Key.{Key}
use Rattle.dia_book.specs.Keys.{same_key}
use Rattle.dia_book.specs.declared.DRule.{DRule}
use Rattle.dia_book.specs.declared.Slot.TheVariants as slot
use Rattle.dia_book.specs.Dictionary.{AreRules, is_fixed, lists_key, slot_at, slot_of}
use Rattle.dia_book.proofs.SameKeys.{same_key-refl, same_key-true}
use Rattle.dia_book.proofs.LookUpsByName.{find-place}
use Rattle.dia_valid.specs.Valid.{fixed_rules, is_listed}
use Rattle.dia_valid.proofs.Entries.{at_position}
use Rattle.dia_valid.proofs.Members.{IsIn, in_at, in_contains, in_filter, into_filter}
use Rattle.dia_valid.proofs.RulesOfKeys.{is_listed_by}
use Rattle.dia_breaking_levels.specs.CountsAndRanks.{AreSound, rank}
use Rattle.dia_breaking_levels.specs.Places.{place_of, place}
use Rattle.dia_breaking_levels.proofs.CountsAndRanks.{rules_sound, one_rule}
use Rattle.dia_breaking_levels.proofs.KeysInPlace.{rank_rule, rank_other}
use Rattle.dia_breaking_levels.proofs.LeastLevels.{not_both}
use Rattle.dia_breaking_levels.proofs.LineBounds.{no_rule}

-- the place of a fixed rule, or after them all, as the rank is
abbrev pub Placing : List DRule → Key → Type 0
Placing rules k =
    ((place rules k ≡ rank (fixed_rules rules) k) × (rank (fixed_rules rules) k < length (fixed_rules rules))) ⊎
    ((place rules k ≡ length rules) × (rank (fixed_rules rules) k ≡ length (fixed_rules rules)))

rank_below : (rules : List DRule) (k : Key) (r : DRule) → IsIn r rules → r.key ≡ Some k → rank rules k < length rules
rank_below [] k r i e = absurd i
rank_below (s ∷ rules) k r (inl same) e = by (lists_key k s) refl
  where
    own : lists_key k s ≡ true
    own = ap (λ (t : DRule). lists_key k t) (sym same) ∙ ap (λ (o : Option Key). option_map_or (same_key k) o false) e ∙ same_key-refl k

    by : (b : Bool) → lists_key k s ≡ b → (if lists_key k s then 0 else suc (rank rules k)) < suc (length rules)
    by true f = let none : (if lists_key k s then 0 else suc (rank rules k)) ≡ 0 = ap (λ (b : Bool). if b then 0 else suc (rank rules k)) f in omega (arith, none)
    by false f = absurd (not_both (lists_key k s) own f)
rank_below (s ∷ rules) k r (inr i) e = by (lists_key k s) refl (rank_below rules k r i e)
  where
    by : (b : Bool) → lists_key k s ≡ b → rank rules k < length rules → (if lists_key k s then 0 else suc (rank rules k)) < suc (length rules)
    by true f ih = let none : (if lists_key k s then 0 else suc (rank rules k)) ≡ 0 = ap (λ (b : Bool). if b then 0 else suc (rank rules k)) f in omega (arith, none)
    by false f ih = let more : (if lists_key k s then 0 else suc (rank rules k)) ≡ suc (rank rules k) = ap (λ (b : Bool). if b then 0 else suc (rank rules k)) f in omega (arith, more, ih)

pub key_of : (k : Key) (o : Option Key) → option_map_or (same_key k) o false ≡ true → o ≡ Some k
key_of k None h = absurd (let f : false ≡ true = h in cc)
key_of k (Some q) h = ap (λ (x : Key). Some x) (sym (same_key-true k q h))

pub placing : (rules : List DRule) (k : Key) → AreRules rules → Placing rules k
placing rules k are = by (position (lists_key k) rules) refl
  where
    sound : AreSound rules
    sound = rules_sound rules are

    slot_is : (o : Option ℕ) → position (lists_key k) rules ≡ o → slot_of rules k ≡ option_map_or (slot_at rules) o slot.Unlisted
    slot_is o e = ap (λ (p : Option ℕ). option_map_or (slot_at rules) p slot.Unlisted) e

    of_rule : (i : ℕ) (r : DRule) (b : Bool) → is_fixed r ≡ b → position (lists_key k) rules ≡ Some i → slice_get rules i ≡ Some r → r.key ≡ Some k → Placing rules k
    of_rule i r true f p at e =
        let own = slot_is (Some i) p ∙ ap (λ (o : Option DRule). option_map_or (λ rule. if is_fixed rule then slot.Fixed i else slot.Loose i) o slot.Unlisted) at
        ∙ ap (λ (b : Bool). if b then slot.Fixed i else slot.Loose i) f in
        let there : place rules k ≡ i = ap (place_of (length rules)) own in
        let rank_is = rank_rule rules i r k are at f e in
        let below = rank_below (fixed_rules rules) k r (into_filter is_fixed rules r (in_at rules i r at) f) e in
        inl (omega (arith, there, rank_is), below)
    of_rule i r false f p at e =
        let own = slot_is (Some i) p ∙ ap (λ (o : Option DRule). option_map_or (λ rule. if is_fixed rule then slot.Fixed i else slot.Loose i) o slot.Unlisted) at
        ∙ ap (λ (b : Bool). if b then slot.Fixed i else slot.Loose i) f in
        let there : place rules k ≡ length rules = ap (place_of (length rules)) own in
        let rank_is = rank_other rules k (λ s has.
        let s_in = in_filter is_fixed rules s (in_contains (fixed_rules rules) s has.0) in
        let same : s ≡ r = one_rule rules s r sound s_in.0 (in_at rules i r at) (has.1 ∙ sym e) in
        not_both (is_fixed r) (ap is_fixed (sym same) ∙ s_in.1) f) in
        inr (there, rank_is)

    by : (o : Option ℕ) → position (lists_key k) rules ≡ o → Placing rules k
    by None p =
        let own = slot_is None p in
        let there : place rules k ≡ length rules = ap (place_of (length rules)) own in
        let none = no_rule rules k (find-place (lists_key k) rules ∙ ap (λ (q : Option ℕ). option_and_then (slice_get rules) q) p) in
        let rank_is = rank_other rules k (λ s has.
        let s_in = in_filter is_fixed rules s (in_contains (fixed_rules rules) s has.0) in
        not_both (is_listed rules k) (is_listed_by rules k s s_in.0 has.1) none) in
        inr (there, rank_is)
    by (Some i) p =
        let r = at_position (lists_key k) rules i p in
        of_rule i r.0 (is_fixed r.0) refl p r.1 (key_of k r.0.key r.2)
