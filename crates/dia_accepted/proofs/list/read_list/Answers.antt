use Rattle.std.proofs.Common.{arith, length, map, refl, subst, take, ◌≡◌}
use Rattle.std.specs.Str.Lines.{lines}
use Rattle.std.proofs.lemmas.List.{length_push, take_all}
use Rattle.std.proofs.lemmas.Iterator.Consumers.{YieldsList-end, YieldsList-turn}
use Rattle.std.proofs.lemmas.Iterator.Splits.{YieldsList-from_lines}
use Rattle.dia_accepted.specs.Accepted.{AreEntriesFrom, plain_entry}
use Rattle.dia_accepted.proofs.Lists.{line_at, read_fault, read_more}
use Rattle.dia_accepted.proofs.list.read_list.Goals as goal

pub loop-words-preserved : goal.loop-words-preserved
loop-words-preserved c =
    let ts = lines c.args.text.now in
    let k = length c.loop-words.yielded in
    let turn = YieldsList-turn (YieldsList-from_lines c.args.text.now cc) c.loop-words.yielded _ c.loop-words.yielded_by _ _ c.in-Some.words c.in-Some.is c.next.ensures.steps in
    let at = line_at ts k c.in-Some.words.now turn.0 turn.1 in
    let more = length_push c.loop-words.yielded c.in-Some.words in
    read_more ts k _ c.loop-words.line _ c.in-Some.words.now (map plain_entry c.loop-words.list.items) (map plain_entry c.add_line.new.list.items) (omega (arith, more)) refl at c.loop-words.invariant c.in-Ok.ensures.added

pub returns-in-Err-clause-fault : goal.returns-in-Err-clause-fault
returns-in-Err-clause-fault c = λ other.
    let ts = lines c.args.text.now in
    let k = length c.loop-words.yielded in
    let turn = YieldsList-turn (YieldsList-from_lines c.args.text.now cc) c.loop-words.yielded _ c.loop-words.yielded_by _ _ c.in-Some.words c.in-Some.is c.next.ensures.steps in
    let at = line_at ts k c.in-Some.words.now turn.0 turn.1 in
    read_fault c.args.text.now k c.loop-words.line _ c.in-Some.words.now (map plain_entry c.loop-words.list.items) c.in-Err.fault refl at c.loop-words.invariant (c.in-Err.ensures.fault other)

pub returns-clause-entries : goal.returns-clause-entries
returns-clause-entries c =
    let ts = lines c.args.text.now in
    let ends = YieldsList-end (YieldsList-from_lines c.args.text.now cc) c.loop-words.yielded _ c.loop-words.yielded_by _ _ c.in-None.is c.next.ensures.steps in
    let all : take (length c.loop-words.yielded) ts ≡ ts = take_all (length c.loop-words.yielded) ts (omega (arith, ends.1)) in
    subst (λ xs. AreEntriesFrom 1 xs (map plain_entry c.loop-words.list.items)) all c.loop-words.invariant.entries_are
