use Rattle.std.proofs.Common.{length, arith}
use Rattle.dia_differences.specs.Partners.{paired}
use Rattle.dia_differences.specs.Lines.{CommandAt}
use Rattle.dia_differences.proofs.Chains.{adds_all, adds_first, adds_next}
use Rattle.dia_differences.proofs.commands.push_commands.Goals as goal

pub loop-first-init : goal.loop-first-init
loop-first-init g c = adds_first (CommandAt (g.A.Book.meaning c.args.a.now) (g.B.Book.meaning c.args.b.now) (paired c.args.partners.now)) c.args.lines.now.items

pub loop-first-preserved : goal.loop-first-preserved
loop-first-preserved g c = adds_next (CommandAt (g.A.Book.meaning c.args.a.now) (g.B.Book.meaning c.args.b.now) (paired c.args.partners.now)) c.loop-first.first c.args.lines.now.items c.loop-first.lines.items c.push_command.new.lines.items c.loop-first.invariant c.in_ok-push_command.ensures

pub returns : goal.returns
returns g c =
    adds_all (CommandAt (g.A.Book.meaning c.args.a.now) (g.B.Book.meaning c.args.b.now) (paired c.args.partners.now)) c.loop-first.first (length (g.A.Book.meaning c.args.a.now).commands) c.args.lines.now.items c.loop-first.lines.items (omega (arith, c.loop-first-test.false, c.commands-first-end.ensures)) c.loop-first.invariant
