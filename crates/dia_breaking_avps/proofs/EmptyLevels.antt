-- Rules that ask for no AVP.
use Rattle.std.proofs.Common.{◌≡◌, ℕ, zero, suc, ◌≤◌, Bool, true, false, cond, List, [], ◌∷◌, length, All, Option, Some, None, refl, sym, ap, subst, arith}
use Rattle.std.specs.Prelude.{filter, not, IfSome}
use Rattle.std.specs.List.{AllByRecursion}
use Rattle.dia_wire.specs.declared.Key.{Key}
use Rattle.dia_book.specs.declared.DRule.{DRule}
use Rattle.dia_book.specs.Dictionary.{is_fixed}
use Rattle.dia_book.proofs.Members.{append-none}
use Rattle.dia_breaking_sites.proofs.Members.{all_map}
use Rattle.dia_valid.specs.Valid.{InBounds, Runs, Placed, counted, fixed_rules, loose_rules}
use Rattle.dia_breaking_avps.proofs.FirstAvps.{each}

abbrev AsksNone : DRule → Type 0
AsksNone rule = rule.min ≡ 0

none_in_bounds : (rule : DRule) → rule.min ≡ 0 → InBounds rule 0
none_in_bounds rule e = (omega (arith, e), by rule.max)
  where
    by : (o : Option ℕ) → IfSome o (λ max. 0 ≤ max)
    by None = tt
    by (Some n) = omega arith

kept : {X : Type 0} (P : X → Type 0) (p : X → Bool) (xs : List X) → AllByRecursion P xs → AllByRecursion P (filter p xs)
kept P p [] h = tt
kept P p (x ∷ xs) h = by (p x) (kept P p xs h.1)
  where
    by : (b : Bool) → AllByRecursion P (filter p xs) → AllByRecursion P (cond b (x ∷ filter p xs) (filter p xs))
    by true r = (h.0, r)
    by false r = r

both : {X : Type 0} (P : X → Type 0) (p : X → Bool) (xs : List X) → AllByRecursion P (filter p xs) → AllByRecursion P (filter (λ x. not (p x)) xs) → AllByRecursion P xs
both P p [] one other = tt
both P p (x ∷ xs) one other = by (p x) one other (both P p xs)
  where
    by : (b : Bool) → AllByRecursion P (cond b (x ∷ filter p xs) (filter p xs)) → AllByRecursion P (cond (not b) (x ∷ filter (λ y. not (p y)) xs) (filter (λ y. not (p y)) xs))
        → (AllByRecursion P (filter p xs) → AllByRecursion P (filter (λ y. not (p y)) xs) → AllByRecursion P xs) → AllByRecursion P (x ∷ xs)
    by true f g later = (f.0, later f.1 g)
    by false f g later = (g.0, later f g.1)

pub every : {X : Type 0} (P : X → Type 0) (xs : List X) → AllByRecursion P xs → All P xs
every P [] h k d lt = absurd (omega (arith, lt))
every P (x ∷ xs) h zero d lt = h.0
every P (x ∷ xs) h (suc k) d lt = every P xs h.1 k d (omega (arith, lt))

runs_none : (rules : List DRule) → AllByRecursion AsksNone rules → Runs rules [] []
runs_none [] h = refl
runs_none (r ∷ rules) h = ([], [], refl, tt, none_in_bounds r h.0, runs_none rules h.1)

runs_ask : (rules : List DRule) (rest : List Key) → Runs rules [] rest → (rest ≡ []) × AllByRecursion AsksNone rules
runs_ask [] rest h = (sym h, tt)
runs_ask (r ∷ rules) rest (run, after, parts, keys, bounds, later) =
    let none = append-none run after (sym parts) in
    let more = runs_ask rules rest (subst (λ (ks : List Key). Runs rules ks rest) none.1 later) in
    let low = bounds.0 in
    let size = ap length none.0 in
    (more.0, (omega (arith, low, size), more.1))

-- an empty level is as the rules say, where each has 0 for its least count
pub placed_none : (rules : List DRule) → All (λ rule. rule.min ≡ 0) rules → Placed rules []
placed_none rules all =
    let asks = each AsksNone rules all in
    record {
      rest = [];
      runs = runs_none (fixed_rules rules) (kept AsksNone is_fixed rules asks);
      loose = tt;
      counts = all_map AsksNone (λ rule. InBounds rule (counted rules rule [])) (loose_rules rules) none_in_bounds (kept AsksNone (λ r. not (is_fixed r)) rules asks);
    }

pub none_placed : (rules : List DRule) → Placed rules [] → All (λ rule. rule.min ≡ 0) rules
none_placed rules placed =
    let runs = runs_ask (fixed_rules rules) placed.rest placed.runs in
    let counts = subst (λ (rest : List Key). AllByRecursion (λ rule. InBounds rule (counted rules rule rest)) (loose_rules rules)) runs.0 placed.counts in
    let loose = all_map (λ rule. InBounds rule (counted rules rule [])) AsksNone (loose_rules rules) (λ rule h. let low = h.0 in let e : rule.min ≡ 0 = omega (arith, low) in e) counts in
    every AsksNone rules (both AsksNone is_fixed rules runs.1 loose)
