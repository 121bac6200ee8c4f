use Rattle.std.proofs.Common.{ap, arith, length, map, refl, sym, take, ◌≡◌, ◌∙◌}
use Rattle.std.specs.Str.Lines.{lines}
use Rattle.std.proofs.lemmas.List.{length_push, take_all}
use Rattle.std.proofs.lemmas.Iterator.Consumers.{YieldsList-end, YieldsList-turn}
use Rattle.std.proofs.lemmas.Iterator.Splits.{YieldsList-from_lines}
use Rattle.dia_accepted.specs.Accepted.{plain_entry}
use Rattle.dia_accepted.proofs.Lists.{line_at}
use Rattle.dia_lint_text.specs.Asking.{has_in}
use Rattle.dia_lint_text.specs.Lists.{entries_from, fault_from}
use Rattle.dia_lint_text.proofs.Entries.{read_fault, read_more}
use Rattle.dia_lint_text.proofs.accepted.read_lines.Goals as goal

pub loop-words-preserved : goal.loop-words-preserved
loop-words-preserved c =
    let ts = lines c.args.text.now in
    let k = length c.loop-words.yielded in
    let turn = YieldsList-turn (YieldsList-from_lines c.args.text.now cc) c.loop-words.yielded _ c.loop-words.yielded_by _ _ c.in-Some.words c.in-Some.is c.next.ensures.steps in
    let at = line_at ts k c.in-Some.words.now turn.0 turn.1 in
    let more = length_push c.loop-words.yielded c.in-Some.words in
    let none = c.line_fault.ensures.fault in
    read_more _ c.args.text.now ts k _ c.loop-words.line _ c.in-Some.words.now (map plain_entry c.loop-words.list.items) _ (omega (arith, more)) refl at c.loop-words.invariant
    c.in_ok-push_line-in-None-line_fault.ensures (sym none ∙ c.in-None-line_fault.is)

pub returns-in-Some-line_fault-clause-fault : goal.returns-in-Some-line_fault-clause-fault
returns-in-Some-line_fault-clause-fault c =
    let ts = lines c.args.text.now in
    let k = length c.loop-words.yielded in
    let turn = YieldsList-turn (YieldsList-from_lines c.args.text.now cc) c.loop-words.yielded _ c.loop-words.yielded_by _ _ c.in-Some.words c.in-Some.is c.next.ensures.steps in
    let at = line_at ts k c.in-Some.words.now turn.0 turn.1 in
    read_fault (has_in c.args.choice.now.chosen.items) c.args.text.now ts k c.loop-words.line _ c.in-Some.words.now (map plain_entry c.loop-words.list.items) c.in-Some-line_fault.bad refl at
    c.loop-words.invariant (sym c.in-Some-line_fault.ensures.fault)

pub returns-clause-entries : goal.returns-clause-entries
returns-clause-entries c =
    let ts = lines c.args.text.now in
    let ends = YieldsList-end (YieldsList-from_lines c.args.text.now cc) c.loop-words.yielded _ c.loop-words.yielded_by _ _ c.in-None.is c.next.ensures.steps in
    let all : take (length c.loop-words.yielded) ts ≡ ts = take_all (length c.loop-words.yielded) ts (omega (arith, ends.1)) in
    c.loop-words.invariant.entries_are ∙ ap (entries_from (has_in c.args.choice.now.chosen.items) 1) all

pub returns-clause-form : goal.returns-clause-form
returns-clause-form c =
    let ts = lines c.args.text.now in
    let ends = YieldsList-end (YieldsList-from_lines c.args.text.now cc) c.loop-words.yielded _ c.loop-words.yielded_by _ _ c.in-None.is c.next.ensures.steps in
    let all : take (length c.loop-words.yielded) ts ≡ ts = take_all (length c.loop-words.yielded) ts (omega (arith, ends.1)) in
    ap (fault_from c.args.text.now 1) (sym all) ∙ c.loop-words.invariant.none
