use Rattle.std.proofs.Common.{ℕ, ◌<◌, List, sym, subst, arith}
use Rattle.std.specs.Prelude.{Contains}
use Rattle.std.specs.List.Sorted.{IsNonDecreasing}
use Rattle.std.proofs.lemmas.List.Sorted.{Contains-permutation, IsNonDecreasingBy-from_sort}
use Rattle.dia_lint.proofs.commands.unnamed_app.Goals as goal

pub first_gap-requires-clause-sorted : goal.first_gap-requires-clause-sorted
first_gap-requires-clause-sorted g c =
    subst IsNonDecreasing (sym c.deref.ensures.value) (IsNonDecreasingBy-from_sort (λ (n : ℕ). n) c.sort.new.self.items c.in_ok-sort.ensures.sorted)

pub returns : goal.returns
returns g c = λ i within named.
    let seen = c.loop-index.invariant.seen i c.first_gap.result (let end : i < c.loop-index.index = omega arith in end) named in
    let sorted = Contains-permutation c.loop-index.apps.items c.sort.new.self.items c.first_gap.result c.sort.ensures.permutation seen in
    c.first_gap.ensures (subst (λ (xs : List ℕ). Contains xs c.first_gap.result) (sym c.deref.ensures.value) sorted)
