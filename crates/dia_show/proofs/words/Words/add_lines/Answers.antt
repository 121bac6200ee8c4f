use Rattle.std.proofs.Common.{[], ap, arith, length, refl, sym, take, ◌≡◌, ◌∙◌}
use Rattle.std.specs.List.{flat_map}
use Rattle.std.specs.Str.Lines.{lines}
use Rattle.std.proofs.lemmas.List.{length_push, take_all}
use Rattle.std.proofs.lemmas.Iterator.Consumers.{YieldsList-end, YieldsList-turn}
use Rattle.std.proofs.lemmas.Iterator.Splits.{YieldsList-from_lines}
use Rattle.dia_show.specs.Words.{fault_from, plain_words, words_by}
use Rattle.dia_show.proofs.WordLists.{line_at, read_fault, read_more}
use Rattle.dia_show.proofs.words.Words.add_lines.Goals as goal

pub loop-line-preserved : goal.loop-line-preserved
loop-line-preserved c =
    let ts = lines c.args.text.now in
    let k = length c.loop-line.yielded in
    let turn = YieldsList-turn (YieldsList-from_lines c.args.text.now cc) c.loop-line.yielded _ c.loop-line.yielded_by _ _ c.in-Some.line c.in-Some.is c.next.ensures.steps in
    let at = line_at ts k c.in-Some.line.now turn.0 turn.1 in
    let more = length_push c.loop-line.yielded c.in-Some.line in
    read_more ts k _ c.loop-line.number _ c.in-Some.line.now (plain_words c.loop-line.self) (plain_words c.add.new.self) (omega (arith, more)) refl at c.loop-line.invariant c.in-Ok.ensures.added
    c.in-Ok.ensures.form

pub returns-in-Err-clause-fault : goal.returns-in-Err-clause-fault
returns-in-Err-clause-fault c = λ other.
    let ts = lines c.args.text.now in
    let k = length c.loop-line.yielded in
    let turn = YieldsList-turn (YieldsList-from_lines c.args.text.now cc) c.loop-line.yielded _ c.loop-line.yielded_by _ _ c.in-Some.line c.in-Some.is c.next.ensures.steps in
    let at = line_at ts k c.in-Some.line.now turn.0 turn.1 in
    read_fault ts k c.loop-line.number _ c.in-Some.line.now (plain_words c.loop-line.self) c.in-Err.fault refl at c.loop-line.invariant (c.in-Err.ensures.fault other)

pub returns-clause-words : goal.returns-clause-words
returns-clause-words c =
    let ts = lines c.args.text.now in
    let ends = YieldsList-end (YieldsList-from_lines c.args.text.now cc) c.loop-line.yielded _ c.loop-line.yielded_by _ _ c.in-None.is c.next.ensures.steps in
    let all : take (length c.loop-line.yielded) ts ≡ ts = take_all (length c.loop-line.yielded) ts (omega (arith, ends.1)) in
    c.loop-line.invariant.words_are ∙ ap (flat_map words_by) all

pub returns-clause-form : goal.returns-clause-form
returns-clause-form c =
    let ts = lines c.args.text.now in
    let ends = YieldsList-end (YieldsList-from_lines c.args.text.now cc) c.loop-line.yielded _ c.loop-line.yielded_by _ _ c.in-None.is c.next.ensures.steps in
    let all : take (length c.loop-line.yielded) ts ≡ ts = take_all (length c.loop-line.yielded) ts (omega (arith, ends.1)) in
    ap (fault_from 1 []) (sym all) ∙ c.loop-line.invariant.none
