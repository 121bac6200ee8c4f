use Rattle.std.proofs.Common.{take}
use Rattle.dia_answer.specs.Stocks.{IsFitOf}
use Rattle.dia_answer.proofs.Those.{HasTaken}
use Rattle.dia_answer.proofs.copies.push_fitting.Given as goal

abbrev pub invariant-loop-avp : goal.invariant-loop-avp
invariant-loop-avp g l =
    HasTaken (IsFitOf (g.B.Book.meaning l.judge.book.book.now) l.judge.unknown l.judge.levels l.wanted) l.most l.left (take l.avp-index l.request) l.initial.out.items l.out.items
