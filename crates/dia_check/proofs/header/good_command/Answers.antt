use Rattle.std.proofs.Common.{refl}
use Rattle.std.proofs.lemmas.Bool.{both_ways}
use Rattle.dia_check.proofs.HeaderAnswers.{bad_bits, good, not_proxiable, no_command, no_application}
use Rattle.dia_check.proofs.header.good_command.Goals as goal

pub returns-then-not-has_good_bits-clause-answer : goal.returns-then-not-has_good_bits-clause-answer
returns-then-not-has_good_bits-clause-answer g c u most bytes sized is = rw c.simple_fault.ensures
    (bad_bits (g.B.Book.meaning c.args.book.now) (g.met.B.Book.sound c.args.book.now) u most bytes sized c.args.header.now is (c.if-not-has_good_bits.ensures.bad refl))

pub returns-then-allows_p-clause-answer : goal.returns-then-allows_p-clause-answer
returns-then-allows_p-clause-answer g c u most bytes sized is = good (g.B.Book.meaning c.args.book.now) (g.met.B.Book.sound c.args.book.now) u most bytes sized c.args.header.now is
    (c.if-not-has_good_bits.ensures.good refl) c.class_of-class.result c.class_of-class.ensures c.in-Some.def _ c.in-Some.ensures c.def.ensures (c.allows_p.ensures.0 c.if-allows_p.true)

pub returns-else-allows_p-clause-answer : goal.returns-else-allows_p-clause-answer
returns-else-allows_p-clause-answer g c u most bytes sized is =
    rw c.simple_fault-else-allows_p.ensures
    (not_proxiable (g.B.Book.meaning c.args.book.now) (g.met.B.Book.sound c.args.book.now) u most bytes sized c.args.header.now is
    (c.if-not-has_good_bits.ensures.good refl) c.class_of-class.result c.class_of-class.ensures c.in-Some.def _ c.in-Some.ensures c.def.ensures
    (λ allows. both_ways c.allows_p.result c.if-allows_p.false (c.allows_p.ensures.1 allows)))

pub returns-then-has_command-clause-answer : goal.returns-then-has_command-clause-answer
returns-then-has_command-clause-answer g c u most bytes sized is =
    rw c.simple_fault-then-has_command.ensures (no_application (g.B.Book.meaning c.args.book.now) (g.met.B.Book.sound c.args.book.now) u most bytes sized c.args.header.now is
    (c.if-not-has_good_bits.ensures.good refl) c.class_of-class.result c.class_of-class.ensures c.has_command.result c.has_command.ensures c.if-has_command.true c.in-None.ensures)

pub returns-else-has_command-clause-answer : goal.returns-else-has_command-clause-answer
returns-else-has_command-clause-answer g c u most bytes sized is =
    rw c.simple_fault-else-has_command.ensures (no_command (g.B.Book.meaning c.args.book.now) (g.met.B.Book.sound c.args.book.now) u most bytes sized c.args.header.now is
    (c.if-not-has_good_bits.ensures.good refl) c.class_of-class.result c.class_of-class.ensures c.has_command.result c.has_command.ensures c.if-has_command.false)
