use Rattle.std.proofs.Common.{length, arith}
use Rattle.dia_differences.specs.Lines.{AddedCommand, AddedCommandAt}
use Rattle.dia_differences.proofs.PartLines.{named_line}
use Rattle.dia_differences.proofs.Chains.{adds_all, adds_first, adds_next}
use Rattle.dia_differences.proofs.commands.push_added_commands.Goals as goal

pub loop-second-init : goal.loop-second-init
loop-second-init g c = adds_first (AddedCommandAt (g.B.Book.meaning c.args.b.now) c.args.count c.args.partners.now.commands.back.items) c.args.lines.now.items

pub loop-second-preserved : goal.loop-second-preserved
loop-second-preserved g c =
    adds_next (AddedCommandAt (g.B.Book.meaning c.args.b.now) c.args.count c.args.partners.now.commands.back.items) c.loop-second.second c.args.lines.now.items c.loop-second.lines.items c.push_added_command.new.lines.items c.loop-second.invariant
    (named_line (AddedCommand (g.B.Book.meaning c.args.b.now) c.loop-second.second) c.args.partners.now.commands.back.items c.deref.result.now c.loop-second.second c.args.count c.partner.result c.loop-second.lines.items c.push_added_command.new.lines.items c.deref.ensures.value c.partner.ensures c.in_ok-push_added_command.ensures)

pub returns : goal.returns
returns g c =
    adds_all (AddedCommandAt (g.B.Book.meaning c.args.b.now) c.args.count c.args.partners.now.commands.back.items) c.loop-second.second (length (g.B.Book.meaning c.args.b.now).commands) c.args.lines.now.items c.loop-second.lines.items (omega (arith, c.loop-second-test.false, c.commands-second-end.ensures)) c.loop-second.invariant
