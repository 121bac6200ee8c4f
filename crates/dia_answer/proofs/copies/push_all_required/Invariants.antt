use Rattle.std.proofs.Common.{◌≡◌, List, ◌++◌, map, take}
use Rattle.dia_wire.specs.Wire.{PlainAvp}
use Rattle.dia_answer.specs.Stocks.{copied}
use Rattle.dia_answer.specs.Bodies.{AreRequiredAll}
use Rattle.dia_answer.specs.Helds.{plains}
use Rattle.dia_answer.proofs.copies.push_all_required.Given as goal

abbrev pub invariant-loop-rule : goal.invariant-loop-rule
invariant-loop-rule g l =
    (these : List PlainAvp) × AreRequiredAll (g.B.Book.meaning l.judge.book.book.now) l.judge.unknown l.judge.levels (plains l.request) (take l.rule-index l.rules) these
    × (plains l.out.items ≡ plains l.initial.out.items ++ map copied these)
