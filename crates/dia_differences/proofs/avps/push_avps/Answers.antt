use Rattle.std.proofs.Common.{length, arith}
use Rattle.dia_differences.specs.Partners.{paired}
use Rattle.dia_differences.specs.Lines.{AvpAt}
use Rattle.dia_differences.proofs.Chains.{adds_all, adds_first, adds_next}
use Rattle.dia_differences.proofs.avps.push_avps.Goals as goal

pub loop-first-init : goal.loop-first-init
loop-first-init g c = adds_first (AvpAt (g.A.Book.meaning c.args.a.now) (g.B.Book.meaning c.args.b.now) (paired c.args.partners.now)) c.args.lines.now.items

pub loop-first-preserved : goal.loop-first-preserved
loop-first-preserved g c = adds_next (AvpAt (g.A.Book.meaning c.args.a.now) (g.B.Book.meaning c.args.b.now) (paired c.args.partners.now)) c.loop-first.first c.args.lines.now.items c.loop-first.lines.items c.push_avp.new.lines.items c.loop-first.invariant c.in_ok-push_avp.ensures

pub returns : goal.returns
returns g c =
    adds_all (AvpAt (g.A.Book.meaning c.args.a.now) (g.B.Book.meaning c.args.b.now) (paired c.args.partners.now)) c.loop-first.first (length (g.A.Book.meaning c.args.a.now).entries) c.args.lines.now.items c.loop-first.lines.items (omega (arith, c.loop-first-test.false, c.entries-first-end.ensures.count)) c.loop-first.invariant
