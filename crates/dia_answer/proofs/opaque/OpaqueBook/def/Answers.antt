use Rattle.std.proofs.Common.{arith, sym, ap, ◌∙◌}
use Rattle.std.specs.Prelude.{slice_get}
use Rattle.dia_book.specs.Dictionary.{definitions}
use Rattle.dia_answer.specs.Dictionaries.{opaque}
use Rattle.dia_answer.proofs.Octets.{opaque_is_sound}
use Rattle.dia_answer.proofs.OctetsLookups.{high_small, high_within, definition_here}
use Rattle.dia_answer.proofs.opaque.OpaqueBook.def.Goals as goal

pub raised-requires : goal.raised-requires
raised-requires g c = high_small (opaque (g.B.Book.meaning c.args.self.now.book.now)) (opaque_is_sound (g.B.Book.meaning c.args.self.now.book.now) (g.met.B.Book.sound c.args.self.now.book.now)) c.args.def c.requires

pub def-requires : goal.def-requires
def-requires g c = omega (arith, c.raised.ensures, high_within (g.B.Book.meaning c.args.self.now.book.now) c.args.self.now.hidden c.args.self.now.placed c.args.def c.requires)

pub returns : goal.returns
returns g c =
    definition_here (g.B.Book.meaning c.args.self.now.book.now) c.args.self.now.hidden c.args.self.now.placed c.args.def ∙ ap (slice_get (definitions (g.B.Book.meaning c.args.self.now.book.now))) (sym c.raised.ensures) ∙ c.def.ensures
