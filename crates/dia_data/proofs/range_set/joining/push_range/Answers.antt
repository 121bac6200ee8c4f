use Rattle.std.proofs.Common.{◌≡◌, ◌+◌, ◌<◌, ◌≤◌, List, ℕ, [], ◌∷◌, ◌++◌, ◌∙◌, max, sym, ap, subst, arith}
use Rattle.std.specs.Prelude.{All, ◌||◌}
use Rattle.std.specs.List.{list_any}
use Rattle.dia_data.specs.Ranges.{AreApart, covers}
use Rattle.dia_data.proofs.RangeSets.{AreApart-grown, AreApart-more, later_grown, any_grown}
use Rattle.dia_data.proofs.range_set.joining.push_range.Goals as goal

-- the range that was the last, and what replaces it
old_items : (c : goal.In_ok-push-in-Some) → c.args.ranges.now.items ≡ c.pop.new.self.items ++ (c.in-Some.first, c.in-Some.last) ∷ []
old_items c = c.in-Some.ensures.items

new_items : (c : goal.In_ok-push-in-Some) → c.push.new.self.items ≡ c.pop.new.self.items ++ (c.in-Some.first, max c.in-Some.last c.args.high) ∷ []
new_items c = c.in_ok-push-in-Some.ensures.items ∙ ap (λ (n : ℕ). c.pop.new.self.items ++ (c.in-Some.first, n) ∷ []) c.max.ensures

pub returns-in_ok-push-in-Some-clause-apart : goal.returns-in_ok-push-in-Some-clause-apart
returns-in_ok-push-in-Some-clause-apart c =
    subst AreApart (sym (new_items c)) (AreApart-grown c.pop.new.self.items c.in-Some.first c.in-Some.last c.args.high (subst AreApart (old_items c) c.requires.apart))

pub returns-in_ok-push-in-Some-clause-later : goal.returns-in_ok-push-in-Some-clause-later
returns-in_ok-push-in-Some-clause-later c =
    subst (All (λ r. r.0 ≤ c.args.low)) (sym (new_items c))
    (later_grown c.pop.new.self.items c.in-Some.first c.in-Some.last c.args.high c.args.low (subst (All (λ r. r.0 ≤ c.args.low)) (old_items c) c.requires.later))

pub returns-in_ok-push-in-Some-clause-both : goal.returns-in_ok-push-in-Some-clause-both
returns-in_ok-push-in-Some-clause-both c = λ n.
    let K = c.pop.new.self.items in
    let apart = subst AreApart (old_items c) c.requires.apart in
    let later = subst (All (λ r. r.0 ≤ c.args.low)) (old_items c) c.requires.later in
    let touch : c.args.low ≤ c.in-Some.last + 1 = omega (arith, c.saturating_add.ensures, c.if-low-saturating_add.true) in
    ap (list_any (covers n)) (new_items c) ∙ any_grown n K c.in-Some.first c.in-Some.last c.args.low c.args.high apart later touch c.requires.range
    ∙ ap (λ (rs : List (ℕ × ℕ)). list_any (covers n) rs || covers n (c.args.low, c.args.high)) (sym (old_items c))

pub returns-in_ok-push-in-Some-2-2-clause-apart : goal.returns-in_ok-push-in-Some-2-2-clause-apart
returns-in_ok-push-in-Some-2-2-clause-apart c =
    let K = c.pop.new.self.items in
    let r : ℕ × ℕ = (c.in-Some.first, c.in-Some.last) in
    let old : c.args.ranges.now.items ≡ K ++ r ∷ [] = c.in-Some.ensures.items in
    let new : c.push-in-Some-2-2.new.self.items ≡ (K ++ r ∷ []) ++ (c.args.low, c.args.high) ∷ [] = c.in_ok-push-in-Some-2-2.ensures.items
    ∙ ap (λ (rs : List (ℕ × ℕ)). rs ++ (c.args.low, c.args.high) ∷ []) c.in_ok-push-in-Some-2.ensures.items in
    let past : r.1 + 1 < c.args.low = omega (arith, c.saturating_add.ensures, c.if-low-saturating_add.false, c.ranges.low) in
    subst AreApart (sym new) (AreApart-more K r (c.args.low, c.args.high) (subst AreApart old c.requires.apart) c.requires.range past)
