use Rattle.dia_faults.proofs.Laws.{collected, first_is_recorded, none_is_valid}
use Rattle.dia_faults.proofs.faults.all_faults.Goals as goal

pub returns-clause-first : goal.returns-clause-first
returns-clause-first g c =
    let (all, are, adds) = c.in_ok-list_all.ensures.faults in
    first_is_recorded (g.B.Book.meaning c.args.book.now) (g.met.B.Book.sound c.args.book.now) c.args.unknown c.args.levels c.args.bytes.now c.args.most c.list_all.new.found.faults.items c.list_all.new.found.more all are
    (collected c.new-found.result c.list_all.new.found c.args.most all c.new-found.ensures.none c.new-found.ensures.most adds)

pub returns-clause-none : goal.returns-clause-none
returns-clause-none g c =
    let (all, are, adds) = c.in_ok-list_all.ensures.faults in
    none_is_valid (g.B.Book.meaning c.args.book.now) (g.met.B.Book.sound c.args.book.now) c.args.unknown c.args.levels c.args.bytes.now c.args.most c.list_all.new.found.faults.items c.list_all.new.found.more all are
    (collected c.new-found.result c.list_all.new.found c.args.most all c.new-found.ensures.none c.new-found.ensures.most adds)
