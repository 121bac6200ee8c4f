use Rattle.std.proofs.Common.{arith, rules}
use Rattle.dia_answer.proofs.OneCommand.{alone_is_sound}
use Rattle.dia_answer.proofs.alone.Alone.new.Goals as goal

pub invariant_of-result-clause-counted : goal.invariant_of-result-clause-counted
invariant_of-result-clause-counted g c = omega (arith, c.index.ensures, c.command_at.ensures)

pub invariant_of-result-clause-named : goal.invariant_of-result-clause-named
invariant_of-result-clause-named g c = search rules

pub invariant_of-result-clause-sound : goal.invariant_of-result-clause-sound
invariant_of-result-clause-sound g c = ∣ alone_is_sound (g.B.Book.meaning c.args.book.now) (g.met.B.Book.sound c.args.book.now) c.requires ∣₁
