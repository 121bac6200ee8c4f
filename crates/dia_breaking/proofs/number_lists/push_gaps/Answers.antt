use Rattle.std.proofs.Common.{ℕ, ◌≤◌, Option, subst}
use Rattle.std.specs.Prelude.{IfSome}
use Rattle.dia_breaking.proofs.GapsInRanges.{walks_on, walks_out}
use Rattle.dia_breaking.proofs.number_lists.push_gaps.Goals as goal

pub loop-other-preserved : goal.loop-other-preserved
loop-other-preserved c =
    let inv = c.loop-other.invariant in
    record {
      first = subst (λ (next : Option ℕ). IfSome next (λ n. n ≤ c.args.high)) c.in-Some.is c.in_ok-next.ensures.within;
      same = walks_on c.args.found.now.items c.loop-other.found.items _ c.args.low c.loop-other.first c.args.high c.loop-other.other-index c.in_ok-next.field-0 c.in-Some.next _ c.args.others.now
          c.loop-other-test.true c.in-Some.is (c.in_ok-next.ensures.left _) inv.same;
    }

pub returns-in-None : goal.returns-in-None
returns-in-None c =
    walks_out c.args.found.now.items c.loop-other.found.items _ c.args.low c.loop-other.first c.args.high c.loop-other.other-index c.in_ok-next.field-0 _ c.args.others.now c.loop-other-test.true
    c.in-None.is (c.in_ok-next.ensures.left _) c.loop-other.invariant.same
