use Rattle.dia_valid.specs.Rules.{rules_in}
use Rattle.dia_breaking_levels.specs.declared.line.Reason.{Reason}
use Rattle.dia_breaking_levels.specs.LevelTests.{line_of}
use Rattle.dia_breaking_levels.proofs.LinesMore.{each_reason}
use Rattle.dia_breaking_levels.proofs.levels.all_lines.Goals as goal

pub returns : goal.returns
returns g c =
    let level = c.args.level.now in
    let a = rules_in (g.A.Book.meaning level.a.book.now) level.a.def in
    let b = rules_in (g.B.Book.meaning level.b.book.now) level.b.def in
    let line = λ (reason : Reason). line_of reason level.floor level.most (g.C.Costs.listed_length level.costs.now) (g.C.Costs.other_length level.costs.now) a b in
    each_reason line a b c.list-a.result.now c.list-b.result.now c.new.result.items c.in_ok-lines.lines.items c.in_ok-lines-2.lines.items c.in_ok-lines-3.lines.items c.in_ok-lines-4.lines.items
    c.in_ok-lines-5.lines.items c.with_lines-6.result c.list-a.ensures c.list-b.ensures c.new.ensures.items c.in_ok-lines.ensures c.in_ok-lines-2.ensures c.in_ok-lines-3.ensures
    c.in_ok-lines-4.ensures c.in_ok-lines-5.ensures c.with_lines-6.ensures
