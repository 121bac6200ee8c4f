use Rattle.std.proofs.Common.{ℕ, List, subst}
use Rattle.std.specs.Prelude.{Contains}
use Rattle.std.proofs.lemmas.List.Sorted.{Contains-permutation, IsPermutation-sym}
use Rattle.dia_breaking.proofs.LeastNumbers.{missing_before}
use Rattle.dia_breaking.proofs.keys.least_missing.Goals as goal

pub returns-clause-below : goal.returns-clause-below
returns-clause-below c = λ n less.
    let numbers = c.args.numbers.items in
    let sorted = c.in_ok-sorted.sorted.items in
    Contains-permutation sorted numbers n (IsPermutation-sym numbers sorted c.in_ok-sorted.ensures.same)
    (subst (λ (xs : List ℕ). Contains xs n) c.deref.ensures.value (c.least_beside.ensures.below n less))

pub returns-clause-missing : goal.returns-clause-missing
returns-clause-missing c =
    missing_before c.args.numbers.items c.in_ok-sorted.sorted.items c.deref.result.now c.least_beside.result c.in_ok-sorted.ensures.same c.deref.ensures.value c.least_beside.ensures.missing
