use Rattle.dia_lint.proofs.SameCommands.{command_more}
use Rattle.dia_lint.proofs.same_commands.command_findings.Goals as goal

pub loop-index-preserved : goal.loop-index-preserved
loop-index-preserved g c =
    command_more (g.B.Book.meaning c.args.book.now) c.loop-index.index c.command_at-def.result c.in_ok-other.other c.same_finding.result c.loop-index.found.items c.push.new.found.items
    c.command_at-def.ensures.number c.in_ok-other.ensures c.same_finding.ensures c.in_ok-push.ensures c.loop-index.invariant
