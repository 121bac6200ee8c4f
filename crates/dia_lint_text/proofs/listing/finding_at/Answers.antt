use Rattle.std.proofs.Common.{arith, sym}
use Rattle.std.proofs.lemmas.Option.{slice_get_past}
use Rattle.dia_lint.proofs.Places.{at_place}
use Rattle.dia_lint_text.proofs.listing.finding_at.Goals as goal

pub returns-in-Some : goal.returns-in-Some
returns-in-Some c =
    let there = c.in-Some.ensures.lookup in
    sym (at_place c.args.findings.now c.args.place c.in-Some.finding.now there.3.0 there.1)

pub returns-in-None : goal.returns-in-None
returns-in-None c = sym (slice_get_past c.args.findings.now c.args.place (omega (arith, c.in-None.ensures.lookup)))
