use Rattle.std.proofs.Common.{refl}
use Rattle.dia_answer.proofs.Octets.{opaque_is_sound}
use Rattle.dia_answer.proofs.opaque.Opaque.new.Goals as goal

pub invariant_of-result-clause-placed : goal.invariant_of-result-clause-placed
invariant_of-result-clause-placed g c = c.hidden_in.ensures

pub invariant_of-result-clause-sound : goal.invariant_of-result-clause-sound
invariant_of-result-clause-sound g c = ∣ opaque_is_sound (g.B.Book.meaning c.args.book.now) (g.met.B.Book.sound c.args.book.now) ∣₁

pub invariant_of-result-clause-any_bytes : goal.invariant_of-result-clause-any_bytes
invariant_of-result-clause-any_bytes g c = refl
