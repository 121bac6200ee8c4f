use Rattle.std.proofs.Common.{length, arith}
use Rattle.dia_differences.specs.Lines.{AddedAvp, AddedAvpAt}
use Rattle.dia_differences.proofs.PartLines.{named_line}
use Rattle.dia_differences.proofs.Chains.{adds_all, adds_first, adds_next}
use Rattle.dia_differences.proofs.avps.push_added_avps.Goals as goal

pub loop-second-init : goal.loop-second-init
loop-second-init g c = adds_first (AddedAvpAt (g.B.Book.meaning c.args.b.now) c.args.count c.args.partners.now.avps.back.items) c.args.lines.now.items

pub loop-second-preserved : goal.loop-second-preserved
loop-second-preserved g c =
    adds_next (AddedAvpAt (g.B.Book.meaning c.args.b.now) c.args.count c.args.partners.now.avps.back.items) c.loop-second.second c.args.lines.now.items c.loop-second.lines.items c.push_added_avp.new.lines.items c.loop-second.invariant
    (named_line (AddedAvp (g.B.Book.meaning c.args.b.now) c.loop-second.second) c.args.partners.now.avps.back.items c.deref.result.now c.loop-second.second c.args.count c.partner.result c.loop-second.lines.items c.push_added_avp.new.lines.items c.deref.ensures.value c.partner.ensures c.in_ok-push_added_avp.ensures)

pub returns : goal.returns
returns g c =
    adds_all (AddedAvpAt (g.B.Book.meaning c.args.b.now) c.args.count c.args.partners.now.avps.back.items) c.loop-second.second (length (g.B.Book.meaning c.args.b.now).entries) c.args.lines.now.items c.loop-second.lines.items (omega (arith, c.loop-second-test.false, c.entries-second-end.ensures.count)) c.loop-second.invariant
