use Rattle.std.proofs.lemmas.Bool.{both_ways}
use Rattle.dia_check.proofs.AvpFaults.{group_data, leaf_data, too_deep, answer_at}
use Rattle.dia_check.proofs.admission.check_data.Goals as goal

pub returns-then-may_open : goal.returns-then-may_open
returns-then-may_open g c e at =
    group_data (g.B.Book.meaning c.args.basis.now.book.now) (g.met.B.Book.sound c.args.basis.now.book.now) c.args.basis.now.levels c.args.depth c.args.entry e at c.args.bytes.now c.in-Some.group
    (answer_at (g.B.Book.meaning c.args.basis.now.book.now) c.args.entry e _ c.args.bytes.now at c.format.ensures c.in-Fine.ensures) c.in-Some.ensures (c.may_open.ensures.0 c.if-may_open.true)

pub returns-else-may_open : goal.returns-else-may_open
returns-else-may_open g c e at =
    too_deep (g.B.Book.meaning c.args.basis.now.book.now) (g.met.B.Book.sound c.args.basis.now.book.now) c.args.basis.now.levels c.args.depth c.args.entry e at c.args.bytes.now c.in-Some.group
    (answer_at (g.B.Book.meaning c.args.basis.now.book.now) c.args.entry e _ c.args.bytes.now at c.format.ensures c.in-Fine.ensures) c.in-Some.ensures
    (λ may. both_ways c.may_open.result c.if-may_open.false (c.may_open.ensures.1 may))

pub returns-in_default : goal.returns-in_default
returns-in_default g c e at =
    leaf_data (g.B.Book.meaning c.args.basis.now.book.now) (g.met.B.Book.sound c.args.basis.now.book.now) c.args.basis.now.levels c.args.depth c.args.entry e at c.args.bytes.now
    (answer_at (g.B.Book.meaning c.args.basis.now.book.now) c.args.entry e _ c.args.bytes.now at c.format.ensures c.in-Fine.ensures) c.in_default.ensures
