-- Without a rule that says nothing a definition has the same parts, and so the same levels.
use Rattle.std.proofs.Common.{◌≡◌, ℕ, zero, suc, Bool, true, false, cond, List, [], ◌∷◌, ◌++◌, filter, take, drop, Option, Some, None, refl, sym, ap, subst, ◌∙◌, arith, inl, inr}
use Rattle.std.specs.Prelude.{◌⊎◌, ◌↔◌, nat_eq, nat_lt, not, ◌&&◌, ◌||◌, if◌then◌else◌, find, is_some, option_and_then, slice_get, IsSome}
use Rattle.std.specs.Option.{option_map_or}
use Rattle.std.specs.List.{remove}
use Rattle.std.proofs.lemmas.Bool.{and_from, and_parts, ltb-false, eq-eqb, not-true, not-false, or_parts, or_cases}
use Rattle.std.proofs.lemmas.List.Elements.{filter-append}
use Rattle.std.proofs.lemmas.Option.{none-some, same_Some}
use Rattle.dia_wire.specs.declared.Key.{Key}
use Rattle.dia_book.specs.declared.DRule.{DRule}
use Rattle.dia_book.specs.Dictionary.{AreRules, Dictionary, IsDictionary, PlainDefinition, definitions, is_fixed}
use Rattle.dia_valid.specs.Rules.{rules_in, wildcard_of}
use Rattle.dia_valid.specs.Valid.{Placed, is_wildcard}
use Rattle.dia_valid.proofs.Members.{IsIn, all_of, in_append, in_at, in_left, in_right}
use Rattle.dia_lint.specs.Guidelines.{lets_in}
use Rattle.dia_lint.specs.LevelParts.{Meets, Parts, is_any, is_first, is_needed, is_said, others_of, parts_of}
use Rattle.dia_lint.specs.OwnRules.{is_any_number, lets_others_in, why_nothing}
use Rattle.dia_lint.specs.declared.detail.Detail.{Detail}
use Rattle.dia_lint.proofs.LevelsOfParts.{placed_by_parts, same_wildcard}
use Rattle.dia_lint.proofs.SoundRules.{AreSound, cases, find_in, sound}

pub rules_sound : (d : Dictionary) (def : ℕ) → IsDictionary d → AreSound (rules_in d def)
rules_sound d def is = by (slice_get (definitions d) def) refl
  where
    by : (o : Option PlainDefinition) → slice_get (definitions d) def ≡ o → AreSound (option_map_or (λ x. x.rules) o [])
    by None at = record { one = λ a b ia ib same. absurd ia; keyed = λ r i fixed. absurd i; bounds = λ r i. absurd i }
    by (Some x) at = sound x.rules (all_of (λ (y : PlainDefinition). AreRules y.rules) (definitions d) x is.rules (in_at (definitions d) def x at))

-- ---- a list without one of its items

split_at : {X : Type 0} (xs : List X) (i : ℕ) (x : X) → slice_get xs i ≡ Some x → xs ≡ take i xs ++ x ∷ drop (suc i) xs
split_at [] i x at = absurd (none-some x at)
split_at (y ∷ xs) zero x at = ap (λ z. z ∷ xs) (same_Some y x at)
split_at (y ∷ xs) (suc i) x at = ap (λ zs. y ∷ zs) (split_at xs i x at)

module _ {X : Type 0} (p : X → Bool) (x : X) (fails : p x ≡ false) where
  find_without : (xs ys : List X) → find p (xs ++ ys) ≡ find p (xs ++ x ∷ ys)
  find_without [] ys = sym (ap (λ (b : Bool). cond b (Some x) (find p ys)) fails)
  find_without (z ∷ xs) ys = ap (λ (o : Option X). cond (p z) (Some z) o) (find_without xs ys)

  filter_without : (xs ys : List X) → filter p (xs ++ ys) ≡ filter p (xs ++ x ∷ ys)
  filter_without xs ys =
      filter-append p xs ys ∙ ap (λ (zs : List X). filter p xs ++ zs) (sym (ap (λ (b : Bool). cond b (x ∷ filter p ys) (filter p ys)) fails)) ∙ sym (filter-append p xs (x ∷ ys))

-- ---- why a rule says nothing

reasons : (a b c d : Bool) (x y : Detail) → IsSome (if a then None else if b then (if not c then Some x else None) else if d then Some y else None)
    → (a ≡ false) × (((b ≡ true) × (c ≡ false)) ⊎ ((b ≡ false) × (d ≡ true)))
reasons true b c d x y h = absurd (let e : false ≡ true = h in cc)
reasons false true true d x y h = absurd (let e : false ≡ true = h in cc)
reasons false true false d x y h = (refl, inl (refl, refl))
reasons false false c true x y h = (refl, inr (refl, refl))
reasons false false c false x y h = absurd (let e : false ≡ true = h in cc)

and_false : (a b : Bool) → b ≡ false → (a && b) ≡ false
and_false true b e = e
and_false false b e = refl

no_others : (o : Option DRule) → lets_others_in o ≡ false → option_and_then (λ w. if lets_in w then Some w else None) o ≡ None
no_others None e = refl
no_others (Some w) e = ap (λ (b : Bool). if b then Some w else None) e

-- a rule of which nothing is said, or which lets nothing in, is of no part
pub record IsOut (rules : List DRule) (r : DRule) : Type 0 where
  pub not_first : is_first r ≡ false
  pub not_any : is_any (others_of rules) r ≡ false
  pub wild : is_wildcard r ≡ true → lets_in r ≡ false

out_never : (rules : List DRule) (r : DRule) → lets_in r ≡ false → (is_wildcard r ≡ true) ⊎ (lets_others_in (wildcard_of rules) ≡ false) → IsOut rules r
out_never rules r never why = record {
  not_first = and_false (is_some r.key) (is_fixed r && lets_in r) (and_false (is_fixed r) (lets_in r) never);
  not_any = by why;
  wild = λ is. never;
}
  where
    by : (is_wildcard r ≡ true) ⊎ (lets_others_in (wildcard_of rules) ≡ false) → is_any (others_of rules) r ≡ false
    by (inl is) = ap (λ (b : Bool). b && (not (is_fixed r && lets_in r) && is_needed (others_of rules) r)) (not-true (is_some r.key) is)
    by (inr none) =
        let needed : is_needed (others_of rules) r ≡ false = ap (λ (o : Option DRule). is_needed o r) (no_others (wildcard_of rules) none) ∙ never in
        and_false (is_some r.key) (not (is_fixed r && lets_in r) && is_needed (others_of rules) r) (and_false (not (is_fixed r && lets_in r)) (is_needed (others_of rules) r) needed)

out_said : (rules : List DRule) (r : DRule) → nat_lt 0 r.min ≡ false → is_wildcard r ≡ false → lets_others_in (wildcard_of rules) ≡ true
    → option_map_or (is_any_number r) (wildcard_of rules) false ≡ true → IsOut rules r
out_said rules r least keyed lets any = by (wildcard_of rules) refl lets any
  where
    none_least : nat_eq r.min 0 ≡ true
    none_least = let le = ltb-false 0 r.min least in eq-eqb r.min 0 (omega (arith, le))

    by : (o : Option DRule) → wildcard_of rules ≡ o → lets_others_in o ≡ true → option_map_or (is_any_number r) o false ≡ true → IsOut rules r
    by None at lets any = absurd (let e : false ≡ true = any in cc)
    by (Some w) at lets any =
        let one = and_parts (not (is_fixed r)) (not (is_some r.max) && (nat_eq w.min 0 && not (is_some w.max))) any in
        let said : is_said r w ≡ true = and_from (not (is_fixed r)) (nat_eq r.min 0 && (not (is_some r.max) && (nat_eq w.min 0 && not (is_some w.max)))) one.0
        (and_from (nat_eq r.min 0) (not (is_some r.max) && (nat_eq w.min 0 && not (is_some w.max))) none_least one.1) in
        let of : others_of rules ≡ Some w = ap (option_and_then (λ (x : DRule). if lets_in x then Some x else None)) at ∙ ap (λ (b : Bool). if b then Some w else None) lets in
        let needed : is_needed (others_of rules) r ≡ false = ap (λ (o : Option DRule). is_needed o r) of ∙ ap (λ (b : Bool). not b) said in
        let loose = not-true (is_fixed r) one.0 in
        record {
          not_first = and_false (is_some r.key) (is_fixed r && lets_in r) (ap (λ (b : Bool). b && lets_in r) loose);
          not_any = and_false (is_some r.key) (not (is_fixed r && lets_in r) && is_needed (others_of rules) r) (and_false (not (is_fixed r && lets_in r)) (is_needed (others_of rules) r) needed);
          wild = λ is. absurd (let e : true ≡ false = sym is ∙ keyed in cc);
        }

out_of : (rules : List DRule) (r : DRule) → IsSome (why_nothing (wildcard_of rules) r) → IsOut rules r
out_of rules r h = by (reasons (nat_lt 0 r.min) (is_wildcard r || not (lets_others_in (wildcard_of rules))) (lets_in r) (option_map_or (is_any_number r) (wildcard_of rules) false) _ _ h)
  where
    either : (is_wildcard r ≡ true) ⊎ (not (lets_others_in (wildcard_of rules)) ≡ true) → (is_wildcard r ≡ true) ⊎ (lets_others_in (wildcard_of rules) ≡ false)
    either (inl is) = inl is
    either (inr none) = inr (not-true (lets_others_in (wildcard_of rules)) none)

    by : (nat_lt 0 r.min ≡ false) × ((((is_wildcard r || not (lets_others_in (wildcard_of rules))) ≡ true) × (lets_in r ≡ false))
        ⊎ (((is_wildcard r || not (lets_others_in (wildcard_of rules))) ≡ false) × (option_map_or (is_any_number r) (wildcard_of rules) false ≡ true))) → IsOut rules r
    by (least, inl (why, never)) = out_never rules r never (either (or_cases (is_wildcard r) (not (lets_others_in (wildcard_of rules))) why))
    by (least, inr (why, any)) =
        let parts = or_parts (is_wildcard r) (not (lets_others_in (wildcard_of rules))) why in
        out_said rules r least parts.0 (not-false (lets_others_in (wildcard_of rules)) parts.1) any

-- ---- the same parts

none_wild : (rules : List DRule) → ((w : DRule) → IsIn w rules → is_wildcard w ≡ true → lets_in w ≡ false) → others_of rules ≡ None
none_wild rules none = by (wildcard_of rules) refl
  where
    by : (o : Option DRule) → wildcard_of rules ≡ o → option_and_then (λ (w : DRule). if lets_in w then Some w else None) o ≡ None
    by None at = refl
    by (Some w) at = let there = find_in is_wildcard rules w at in ap (λ (b : Bool). if b then Some w else None) (none w there.0 there.1)

module _ (rules : List DRule) (s : AreSound rules) (i : ℕ) (r : DRule) (at : slice_get rules i ≡ Some r) (out : IsOut rules r) where
  whole : rules ≡ take i rules ++ r ∷ drop (suc i) rules
  whole = split_at rules i r at

  left : (x : DRule) → IsIn x (remove rules i) → IsIn x rules
  left x h = subst (IsIn x) (sym whole) (by (in_append (take i rules) (drop (suc i) rules) x h))
    where
      by : IsIn x (take i rules) ⊎ IsIn x (drop (suc i) rules) → IsIn x (take i rules ++ r ∷ drop (suc i) rules)
      by (inl h) = in_left (take i rules) (r ∷ drop (suc i) rules) x h
      by (inr h) = in_right (take i rules) (r ∷ drop (suc i) rules) x (inr h)

  left_sound : AreSound (remove rules i)
  left_sound = record {
    one = λ a b ia ib same. s.one a b (left a ia) (left b ib) same;
    keyed = λ x ix fixed. s.keyed x (left x ix) fixed;
    bounds = λ x ix. s.bounds x (left x ix);
  }

  same_others : others_of (remove rules i) ≡ others_of rules
  same_others = by (cases (is_wildcard r))
    where
      by : (is_wildcard r ≡ true) ⊎ (is_wildcard r ≡ false) → others_of (remove rules i) ≡ others_of rules
      by (inr keyed) = ap (option_and_then (λ (w : DRule). if lets_in w then Some w else None)) (find_without is_wildcard r keyed (take i rules) (drop (suc i) rules) ∙ ap (find is_wildcard)
          (sym whole))
      by (inl is) =
          let never = out.wild is in
          let of_all : (w : DRule) → IsIn w rules → is_wildcard w ≡ true → lets_in w ≡ false = λ w iw ww. ap lets_in (same_wildcard rules s w r iw ww (in_at rules i r at) is) ∙ never in
          none_wild (remove rules i) (λ w iw ww. of_all w (left w iw) ww) ∙ sym (none_wild rules of_all)

  same_filter : (p : DRule → Bool) → p r ≡ false → filter p (remove rules i) ≡ filter p rules
  same_filter p fails = filter_without p r fails (take i rules) (drop (suc i) rules) ∙ ap (filter p) (sym whole)

  same_parts : parts_of (remove rules i) ≡ parts_of rules
  same_parts =
      let firsts = same_filter is_first out.not_first in
      let anys : filter (is_any (others_of (remove rules i))) (remove rules i) ≡ filter (is_any (others_of rules)) rules =
      ap (λ (o : Option DRule). filter (is_any o) (remove rules i)) same_others ∙ same_filter (is_any (others_of rules)) out.not_any in
      λ j. record { firsts = firsts j; anys = anys j; others = same_others j }

  pub same_levels : (keys : List Key) → Placed (remove rules i) keys ↔ Placed rules keys
  same_levels keys =
      let whole_is = placed_by_parts rules s keys in
      let left_is = placed_by_parts (remove rules i) left_sound keys in (
        λ p. whole_is.1 (subst (λ (q : Parts). Meets q keys) same_parts (left_is.0 p)),
        λ p. left_is.1 (subst (λ (q : Parts). Meets q keys) (sym same_parts) (whole_is.0 p)),
      )

pub says_nothing_law : (d : Dictionary) (def i : ℕ) (r : DRule) → IsDictionary d → slice_get (rules_in d def) i ≡ Some r → IsSome (why_nothing (wildcard_of (rules_in d def)) r)
    → (keys : List Key) → Placed (remove (rules_in d def) i) keys ↔ Placed (rules_in d def) keys
says_nothing_law d def i r is at why keys = same_levels (rules_in d def) (rules_sound d def is) i r at (out_of (rules_in d def) r why) keys
