use Rattle.std.proofs.Common.{arith}
use Rattle.dia_answer.proofs.OctetsLookups.{groups_few}
use Rattle.dia_answer.proofs.alone.Alone.the_command.Goals as goal

pub new-requires : goal.new-requires
new-requires g c = let d = g.B.Book.meaning c.args.self.now.book.now in omega (arith, c.args.self.now.counted, groups_few d (g.met.B.Book.sound c.args.self.now.book.now))
