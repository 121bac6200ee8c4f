use Rattle.std.proofs.Common.{arith, get_or}
use Rattle.std.proofs.lemmas.Option.{slice_get-get_or}
use Rattle.dia_breaking_ways.specs.declared.openings.Opening.{Opening}
use Rattle.dia_breaking_ways.proofs.WildLevels.{shut_more}
use Rattle.dia_breaking_ways.proofs.openings.first_open.Goals as goal

pub loop-opening-init : goal.loop-opening-init
loop-opening-init c = λ k o less. absurd (omega arith)

pub loop-opening-preserved : goal.loop-opening-preserved
loop-opening-preserved c =
    let openings = c.args.openings.now in
    let i = c.loop-opening.opening-index in
    let none : Opening = record { length = 0; level = 0 } in
    let at = slice_get-get_or openings i none (omega arith) in
    shut_more c.args.stages.now openings c.args.place i (get_or openings i none) c.loop-opening.invariant at (rw c.if-is_open.false at c.is_open.ensures)

pub returns-then-is_open : goal.returns-then-is_open
returns-then-is_open c =
    let i = c.loop-opening.opening-index in
    let none : Opening = record { length = 0; level = 0 } in
    (i, slice_get-get_or c.args.openings.now i none (omega arith), rw c.if-is_open.true at c.is_open.ensures, c.loop-opening.invariant)

pub returns : goal.returns
returns c = λ k o less. c.loop-opening.invariant k o (omega arith)
