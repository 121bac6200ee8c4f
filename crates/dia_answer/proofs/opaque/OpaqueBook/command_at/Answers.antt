use Rattle.std.proofs.Common.{ap, ◌∙◌}
use Rattle.dia_answer.proofs.OctetsLookups.{low, groups_here}
use Rattle.dia_answer.proofs.opaque.OpaqueBook.command_at.Goals as goal

pub returns : goal.returns
returns g c = c.lowered.ensures ∙ ap (low c.args.self.now.hidden) c.command_at.ensures ∙ groups_here (g.B.Book.meaning c.args.self.now.book.now) c.args.self.now.hidden c.args.self.now.placed c.args.index
