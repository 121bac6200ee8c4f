use Rattle.std.proofs.Common.{get_or}
use Rattle.std.proofs.lemmas.Option.{slice_get-get_or}
use Rattle.std.specs.Prelude.{None}
use Rattle.dia_lint.proofs.TwiceFindings.{range_more}
use Rattle.dia_lint.proofs.twice.of_numbers.Goals as goal

pub loop-index-preserved : goal.loop-index-preserved
loop-index-preserved c =
    let numbers = c.args.numbers.now in
    let i = c.loop-index.index in
    range_more c.args.entry i numbers (get_or numbers i None) c.loop-index.found.items c.push.new.found.items c.twice_finding.result
    (slice_get-get_or numbers i None c.loop-index-test.true) c.twice_finding.ensures c.in_ok-push.ensures c.loop-index.invariant
