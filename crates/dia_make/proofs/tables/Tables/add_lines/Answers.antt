use Rattle.std.proofs.Common.{arith, length, subst, take, ap, ◌≡◌}
use Rattle.std.specs.List.{flat_map}
use Rattle.std.specs.Str.Lines.{lines}
use Rattle.std.proofs.lemmas.List.{length_push, take_all}
use Rattle.std.proofs.lemmas.Iterator.Consumers.{YieldsList-end, YieldsList-turn}
use Rattle.std.proofs.lemmas.Iterator.Splits.{YieldsList-from_lines}
use Rattle.dia_show.specs.Words.{words_by}
use Rattle.dia_make.specs.Tables.{AreTablesOf}
use Rattle.dia_make.proofs.Looked.{lines_more}
use Rattle.dia_make.proofs.tables.Tables.add_lines.Goals as goal

pub loop-line-preserved : goal.loop-line-preserved
loop-line-preserved c =
    let ts = lines c.args.text.now in
    let k = length c.loop-line.yielded in
    let turn = YieldsList-turn (YieldsList-from_lines c.args.text.now cc) c.loop-line.yielded _ c.loop-line.yielded_by _ _ c.in-Some.line c.in-Some.is c.next.ensures.steps in
    let more = length_push c.loop-line.yielded c.in-Some.line in
    subst (AreTablesOf c.add_line.new.self) (lines_more ts k _ c.in-Some.line.now (omega (arith, more)) turn.0 turn.1) (c.in_ok-add_line.ensures _ c.loop-line.invariant)

pub returns : goal.returns
returns c =
    let ts = lines c.args.text.now in
    let ends = YieldsList-end (YieldsList-from_lines c.args.text.now cc) c.loop-line.yielded _ c.loop-line.yielded_by _ _ c.in-None.is c.next.ensures.steps in
    let all : take (length c.loop-line.yielded) ts ≡ ts = take_all (length c.loop-line.yielded) ts (omega (arith, ends.1)) in
    subst (AreTablesOf c.loop-line.self) (ap (flat_map words_by) all) c.loop-line.invariant
