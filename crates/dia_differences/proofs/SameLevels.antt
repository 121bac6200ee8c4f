-- Rules that are the same place the same keys.
use Rattle.std.proofs.Common.{◌≡◌, ℕ, zero, suc, Bool, true, false, cond, List, [], ◌∷◌, filter, Option, Some, None, refl, sym, ap, subst, ◌∙◌, inl, inr}
use Rattle.std.specs.Prelude.{◌⊎◌, if◌then◌else◌, not, IsTrue, count_by, slice_get}
use Rattle.std.specs.List.{list_any}
use Rattle.std.proofs.Math.Path.{fun_ext}
use Rattle.std.proofs.lemmas.Option.{none-some, same_Some}
use Rattle.dia_wire.specs.declared.Key.{Key}
use Rattle.dia_book.specs.declared.definition.DRule.{DRule}
use Rattle.dia_book.specs.Dictionary.{lists_key}
use Rattle.dia_book.specs.Rules.{is_fixed}
use Rattle.dia_valid.specs.Valid.{InBounds, MayBeLoose, Placed, Runs, counted, fixed_rules, has_wildcard, is_listed, is_wildcard, loose_rules}
use Rattle.dia_valid.proofs.Members.{IsIn, all_in, all_map, any_in, at_in, in_all, in_any, in_at, in_filter, into_filter}
use Rattle.dia_differences.specs.Same.{AreSameRules, HasRules}

-- ---- fixed rules

abbrev FixedAt : List DRule → List DRule → Type 0
FixedAt xs ys = (i : ℕ) (r : DRule) → slice_get xs i ≡ Some r → is_fixed r ≡ true → slice_get ys i ≡ Some r

fixed_at : (xs ys : List DRule) → HasRules xs ys → FixedAt xs ys
fixed_at xs ys has i r at fixed = let (j, there, same) = has i r at in ap (slice_get ys) (same fixed) ∙ there

no_fixed : (xs : List DRule) → FixedAt xs [] → fixed_rules xs ≡ []
no_fixed [] h = refl
no_fixed (x ∷ xs) h = by (is_fixed x) refl (no_fixed xs (λ i. h (suc i)))
  where
    by : (b : Bool) → is_fixed x ≡ b → fixed_rules xs ≡ [] → cond b (x ∷ fixed_rules xs) (fixed_rules xs) ≡ []
    by true e ih = absurd (none-some x (h 0 x refl e))
    by false e ih = ih

fixed_same : (xs ys : List DRule) → FixedAt xs ys → FixedAt ys xs → fixed_rules xs ≡ fixed_rules ys
fixed_same [] ys h k = sym (no_fixed ys k)
fixed_same (x ∷ xs) [] h k = no_fixed (x ∷ xs) h
fixed_same (x ∷ xs) (y ∷ ys) h k = by (is_fixed x) refl (is_fixed y) refl (fixed_same xs ys (λ i. h (suc i)) (λ i. k (suc i)))
  where
    by : (b : Bool) → is_fixed x ≡ b → (c : Bool) → is_fixed y ≡ c → fixed_rules xs ≡ fixed_rules ys
        → cond b (x ∷ fixed_rules xs) (fixed_rules xs) ≡ cond c (y ∷ fixed_rules ys) (fixed_rules ys)
    by true e true f ih = ap (λ (r : DRule). r ∷ fixed_rules xs) (sym (same_Some y x (h 0 x refl e))) ∙ ap (λ (rs : List DRule). y ∷ rs) ih
    by true e false f ih = absurd (let t : false ≡ true = sym f ∙ ap is_fixed (same_Some y x (h 0 x refl e)) ∙ e in cc)
    by false e true f ih = absurd (let t : false ≡ true = sym e ∙ ap is_fixed (same_Some x y (k 0 y refl f)) ∙ f in cc)
    by false e false f ih = ih

-- ---- members

member : (xs ys : List DRule) → HasRules xs ys → (r : DRule) → IsIn r xs → IsIn r ys
member xs ys has r i = let p = at_in xs r i in let (j, there, same) = has p.place r p.at in in_at ys j r there

loose_member : (xs ys : List DRule) → HasRules xs ys → (r : DRule) → IsIn r (loose_rules xs) → IsIn r (loose_rules ys)
loose_member xs ys has r i =
    let p = in_filter (λ (x : DRule). not (is_fixed x)) xs r i in
    into_filter (λ (x : DRule). not (is_fixed x)) ys r (member xs ys has r p.0) p.1

any_same : (p : DRule → Bool) (xs ys : List DRule) → ((r : DRule) → IsIn r xs → IsIn r ys) → ((r : DRule) → IsIn r ys → IsIn r xs) → list_any p xs ≡ list_any p ys
any_same p xs ys there back = by (list_any p xs) (list_any p ys) refl refl
  where
    by : (b c : Bool) → list_any p xs ≡ b → list_any p ys ≡ c → b ≡ c
    by true true e f = refl
    by false false e f = refl
    by true false e f = let (r, i, passes) = any_in p xs e in absurd (let t : true ≡ false = sym (in_any p ys r (there r i) passes) ∙ f in cc)
    by false true e f = let (r, i, passes) = any_in p ys f in absurd (let t : true ≡ false = sym (in_any p xs r (back r i) passes) ∙ e in cc)

-- ---- keys

module _ (xs ys : List DRule) (same : AreSameRules xs ys) where
  listed_same : (key : Key) → is_listed xs key ≡ is_listed ys key
  listed_same key = any_same (lists_key key) xs ys (member xs ys same.0) (member ys xs same.1)

  may_be_loose : (key : Key) → MayBeLoose xs key → MayBeLoose ys key
  may_be_loose key (inl h) = inl (subst IsTrue (any_same (lists_key key) (loose_rules xs) (loose_rules ys) (loose_member xs ys same.0) (loose_member ys xs same.1)) h)
  may_be_loose key (inr h) = inr (sym (listed_same key) ∙ h.0, subst IsTrue (any_same is_wildcard xs ys (member xs ys same.0) (member ys xs same.1)) h.1)

  counted_same : (rule : DRule) (keys : List Key) → counted xs rule keys ≡ counted ys rule keys
  counted_same rule keys =
      ap (λ (listed : Key → Bool). count_by (λ key. if is_wildcard rule then not (listed key) else lists_key key rule) keys) (fun_ext listed_same)

  pub placed_same : (keys : List Key) → Placed xs keys → Placed ys keys
  placed_same keys h = record {
    rest = h.rest;
    runs = subst (λ (fixed : List DRule). Runs fixed keys h.rest) (fixed_same xs ys (fixed_at xs ys same.0) (fixed_at ys xs same.1)) h.runs;
    loose = all_map (MayBeLoose xs) (MayBeLoose ys) may_be_loose h.rest h.loose;
    counts = all_in (λ rule. InBounds rule (counted ys rule h.rest)) (loose_rules ys) (λ r i.
        subst (InBounds r) (counted_same r h.rest) (in_all (λ rule. InBounds rule (counted xs rule h.rest)) r (loose_rules xs) h.counts (loose_member ys xs same.1 r i)));
  }
