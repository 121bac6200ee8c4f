use Rattle.std.proofs.Common.{List, ℕ, arith, map, ap}
use Rattle.std.specs.Borrow.{Bor}
use Rattle.std.specs.List.{list_any}
use Rattle.std.proofs.lemmas.List.{length-map}
use Rattle.std.proofs.lemmas.Option.{slice_get_within}
use Rattle.dia_compat.specs.TableText.{plain_pair}
use Rattle.dia_compat.specs.PairTests.{is_pair, plain_names}
use Rattle.dia_compat.specs.FirstFailures.{PairTest}
use Rattle.dia_compat.proofs.SetsOfPairs.{one_pair_more, this_fails, this_passes, stood_before, is_old}
use Rattle.dia_compat.proofs.comparing.pairs.Comparison.first_among.Goals as goal
use Rattle.dia_compat.proofs.comparing.pairs.Comparison.first_among.Goals.{then-branch+in-None, else-branch}

pub returns-in-Some : goal.returns-in-Some
returns-in-Some g c =
    let P = PairTest c.args.self.now c.args.kind in
    this_fails P c.args.pairs.now c.loop-place.place c.index-pairs-place.result c.loop-place-test.true c.index-pairs-place.is c.loop-place.invariant.passed
    c.as_str-first.result.now c.as_str-second.result.now c.as_str-first.ensures.value c.as_str-second.ensures.value c.failed.result c.in-Some.test c.in-Some.is c.failed.ensures

pub loop-place-preserved : goal.loop-place-preserved
loop-place-preserved g c =
    let pairs = c.args.pairs.now in
    let i = c.loop-place.place in
    let p = c.index-pairs-place.result in
    record {
      seen = one_pair_more pairs c.loop-place.seen.keys c.insert.new.self.keys i (c.as_str-first.result, c.as_str-second.result) p
          c.loop-place-test.true c.index-pairs-place.is c.as_str-first.ensures.value c.as_str-second.ensures.value c.loop-place.invariant.seen c.in_ok-insert.ensures.keys;
      passed =
          let P = PairTest c.args.self.now c.args.kind in
          elim c.if-branch.branch [
            | then-branch+in-None w ↦ this_passes P pairs i p c.loop-place-test.true c.index-pairs-place.is c.loop-place.invariant.passed
                c.as_str-first.result.now c.as_str-second.result.now c.as_str-first.ensures.value c.as_str-second.ensures.value w.failed.result w.in-None.is w.failed.ensures
            | else-branch w ↦ stood_before P pairs i p c.loop-place-test.true c.index-pairs-place.is c.loop-place.invariant.passed
                c.as_str-first.result.now c.as_str-second.result.now c.as_str-first.ensures.value c.as_str-second.ensures.value
                (is_old c.loop-place.seen.keys (c.as_str-first.result, c.as_str-second.result)
                pairs i c.loop-place.invariant.seen c.in_ok-insert.field-0 c.in_ok-insert.ensures.added w.if-branch.false)
          ];
    }

pub loop-place-init : goal.loop-place-init
loop-place-init g c = record {
  seen = λ x y. ap (λ (keys : List (Bor (List ℕ) × Bor (List ℕ))). list_any (is_pair x y) (map plain_names keys)) c.requires;
  passed = λ k p t less at. absurd (omega (arith, less));
}

pub returns : goal.returns
returns g c = λ k p t at.
    let within = slice_get_within (map plain_pair c.args.pairs.now) k p at in
    c.loop-place.invariant.passed k p t (omega (arith, within, length-map c.args.pairs.now plain_pair, c.loop-place-test.false)) at
