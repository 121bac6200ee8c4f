use Rattle.std.proofs.Common.{◌≡◌, ◌+◌, ◌-◌, ◌*◌, length, Some}
use Rattle.std.specs.Prelude.{slice_get}
use Rattle.dia_book.specs.Dictionary.{PlainDefinition, definitions}
use Rattle.dia_check.specs.Walks.{whole}
use Rattle.dia_faults.proofs.Bodies.{IsUnderWay}
use Rattle.dia_faults.proofs.listing.list_body.Given as goal

abbrev pub invariant-loop-avp : goal.invariant-loop-avp
invariant-loop-avp g l =
    let d = g.B.Book.meaning l.basis.book.now in
    (command : PlainDefinition) × (slice_get (definitions d) l.fn.def ≡ Some command)
    × IsUnderWay d (g.met.B.Book.sound l.basis.book.now) l.basis.unknown l.basis.levels (whole command.rules l.bytes) (length l.bytes) l.fn.found l.found l.counts.counts.entries l.outer.items l.rest

abbrev pub decreases-loop-avp : goal.decreases-loop-avp
decreases-loop-avp g l = 2 * (length l.bytes - (l.rest.end - length l.rest.bytes.now)) + length l.outer.items
