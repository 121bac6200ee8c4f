use Rattle.std.proofs.Common.{◌≡◌, Option, arith, sym, ap, ◌∙◌, subst}
use Rattle.std.specs.Prelude.{slice_get, IfSome}
use Rattle.dia_book.specs.Dictionary.{PlainDefinition, definitions, slot_of}
use Rattle.dia_answer.specs.Dictionaries.{opaque}
use Rattle.dia_answer.proofs.Octets.{opaque_is_sound}
use Rattle.dia_answer.proofs.OctetsLookups.{high_small, high_within, definition_here}
use Rattle.dia_answer.proofs.opaque.OpaqueBook.slot.Goals as goal

pub raised-requires : goal.raised-requires
raised-requires g c = high_small (opaque (g.B.Book.meaning c.args.self.now.book.now)) (opaque_is_sound (g.B.Book.meaning c.args.self.now.book.now) (g.met.B.Book.sound c.args.self.now.book.now)) c.args.def c.requires

pub slot-requires : goal.slot-requires
slot-requires g c = omega (arith, c.raised.ensures, high_within (g.B.Book.meaning c.args.self.now.book.now) c.args.self.now.hidden c.args.self.now.placed c.args.def c.requires)

pub returns : goal.returns
returns g c =
    subst (λ (o : Option PlainDefinition). IfSome o (λ (d : PlainDefinition). c.slot.result ≡ slot_of d.rules c.args.key))
    (ap (slice_get (definitions (g.B.Book.meaning c.args.self.now.book.now))) c.raised.ensures ∙ sym (definition_here (g.B.Book.meaning c.args.self.now.book.now) c.args.self.now.hidden c.args.self.now.placed c.args.def)) c.slot.ensures
