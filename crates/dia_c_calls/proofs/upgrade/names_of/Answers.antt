use Rattle.std.proofs.Common.{◌≡◌, arith, length, take, ◌∙◌}
use Rattle.std.specs.Str.Lines.{lines}
use Rattle.std.proofs.lemmas.List.{length_push, take_all}
use Rattle.std.proofs.lemmas.Iterator.Consumers.{YieldsList-end, YieldsList-turn}
use Rattle.std.proofs.lemmas.Iterator.Splits.{YieldsList-from_lines}
use Rattle.dia_c_calls.proofs.WhatBreaks.{one_name}
use Rattle.dia_c_calls.proofs.upgrade.names_of.Goals as goal

pub loop-name-preserved : goal.loop-name-preserved
loop-name-preserved c =
    let ts = lines c.args.text.now in
    let k = length c.loop-name.yielded in
    let turn = YieldsList-turn (YieldsList-from_lines c.args.text.now cc) c.loop-name.yielded _ c.loop-name.yielded_by _ _ c.in-Some.name c.in-Some.is c.next.ensures.steps in
    let more = length_push c.loop-name.yielded c.in-Some.name in
    one_name ts k _ c.in-Some.name.now _ _ _ (omega (arith, more)) turn.0 turn.1 c.in_ok-from_str.ensures.ok c.in_ok-push.ensures.items c.loop-name.invariant

pub returns : goal.returns
returns c =
    let ts = lines c.args.text.now in
    let ends = YieldsList-end (YieldsList-from_lines c.args.text.now cc) c.loop-name.yielded _ c.loop-name.yielded_by _ _ c.in-None.is c.next.ensures.steps in
    let all : take (length c.loop-name.yielded) ts ≡ ts = take_all (length c.loop-name.yielded) ts (omega (arith, ends.1)) in
    c.loop-name.invariant ∙ all
