use Rattle.dia_upgrades.proofs.Outcomes.{left_in, none_where_refused}
use Rattle.dia_upgrades.proofs.counting.lines_left.Goals as goal

pub returns-in-Ok-clause-some : goal.returns-in-Ok-clause-some
returns-in-Ok-clause-some c =
    let (text, listed, put) = rw (c.deref.ensures, c.deref-2.ensures) at c.in-Ok.ensures.text in
    left_in c.args.asked c.args.input.now _ _ text c.in-Ok.listed.exit c.in-Ok.listed.found c.count_of.result listed c.count_of.ensures.some

pub returns-in-Ok-clause-none : goal.returns-in-Ok-clause-none
returns-in-Ok-clause-none c =
    let (text, listed, put) = rw (c.deref.ensures, c.deref-2.ensures) at c.in-Ok.ensures.text in
    none_where_refused c.args.asked c.args.input.now _ _ text c.in-Ok.listed.exit c.in-Ok.listed.found c.count_of.result listed c.count_of.ensures.some c.count_of.ensures.none
