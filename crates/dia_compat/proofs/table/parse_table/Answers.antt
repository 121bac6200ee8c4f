use Rattle.std.proofs.Common.{◌≡◌, ℕ, suc, List, [], ◌∷◌, ◌++◌, length, take, Err, ap, subst, ◌∙◌, arith}
use Rattle.std.specs.Str.Lines.{lines}
use Rattle.std.proofs.lemmas.List.{length_push, take_all}
use Rattle.std.proofs.lemmas.Iterator.Splits.{YieldsList-from_lines}
use Rattle.std.proofs.lemmas.Iterator.Consumers.{YieldsList-turn, YieldsList-end}
use Rattle.dia_compat.specs.TableText.{plain_table, IsTableOf}
use Rattle.dia_compat.proofs.TableLines.{line_at, table_more, syntax_fault, limit_fault, fault_is_no_table, one_table_of}
use Rattle.dia_compat.proofs.table.parse_table.Goals as goal

pub loop-line-preserved : goal.loop-line-preserved
loop-line-preserved c =
    let ts = lines c.args.text.now in
    let k = length c.loop-line.yielded in
    let turn = YieldsList-turn (YieldsList-from_lines c.args.text.now cc) c.loop-line.yielded _ c.loop-line.yielded_by _ _ c.in-Some.line c.in-Some.is c.next.ensures.steps in
    let at = line_at ts k c.in-Some.line.now turn.0 turn.1 in
    let more = length_push c.loop-line.yielded c.in-Some.line in
    let next : suc k ≡ length (c.loop-line.yielded ++ c.in-Some.line ∷ []) = omega arith in
    record {
      number = omega arith;
      read = subst (λ (n : ℕ). IsTableOf (take n ts) (plain_table c.add.new.self)) next
          (table_more ts k c.in-Some.line.now (plain_table c.loop-line.table) (plain_table c.add.new.self) at c.loop-line.invariant.read c.in-Ok.ensures.ok);
    }

pub returns-in-Err-Syntax-clause-fault : goal.returns-in-Err-Syntax-clause-fault
returns-in-Err-Syntax-clause-fault c = λ _.
    let ts = lines c.args.text.now in
    let k = length c.loop-line.yielded in
    let turn = YieldsList-turn (YieldsList-from_lines c.args.text.now cc) c.loop-line.yielded _ c.loop-line.yielded_by _ _ c.in-Some.line c.in-Some.is c.next.ensures.steps in
    let at = line_at ts k c.in-Some.line.now turn.0 turn.1 in
    let none = c.add.ensures.syntax (c.in-Err-Syntax.is ∙ ap (λ e. Err e) c.in-Err-Syntax.field-0-is) in
    (k, c.in-Some.line.now, omega arith, syntax_fault ts k c.in-Some.line.now (plain_table c.loop-line.table) at c.loop-line.invariant.read none, none)

pub returns-in-Err-Syntax-clause-only : goal.returns-in-Err-Syntax-clause-only
returns-in-Err-Syntax-clause-only c = λ table within is.
    let fault = returns-in-Err-Syntax-clause-fault c within in
    absurd (fault_is_no_table (lines c.args.text.now) fault.0 fault.1 table fault.3 is)

pub returns-in-Err-Limit-clause-fault : goal.returns-in-Err-Limit-clause-fault
returns-in-Err-Limit-clause-fault c = λ _.
    let ts = lines c.args.text.now in
    let k = length c.loop-line.yielded in
    let turn = YieldsList-turn (YieldsList-from_lines c.args.text.now cc) c.loop-line.yielded _ c.loop-line.yielded_by _ _ c.in-Some.line c.in-Some.is c.next.ensures.steps in
    let at = line_at ts k c.in-Some.line.now turn.0 turn.1 in
    let passes = c.add.ensures.limit (c.in-Err-Limit.is ∙ ap (λ e. Err e) c.in-Err-Limit.field-0-is) in
    (k, c.in-Some.line.now, omega arith, limit_fault ts k c.in-Some.line.now (plain_table c.loop-line.table) at c.loop-line.invariant.read passes, (passes.said, passes.is_line))

pub returns-in-Err-Limit-clause-only : goal.returns-in-Err-Limit-clause-only
returns-in-Err-Limit-clause-only c = λ table within is.
    let fault = returns-in-Err-Limit-clause-fault c within in
    absurd (fault_is_no_table (lines c.args.text.now) fault.0 fault.1 table fault.3 is)

pub returns-clause-found : goal.returns-clause-found
returns-clause-found c =
    let ts = lines c.args.text.now in
    let ends = YieldsList-end (YieldsList-from_lines c.args.text.now cc) c.loop-line.yielded _ c.loop-line.yielded_by _ _ c.in-None.is c.next.ensures.steps in
    let all : take (length c.loop-line.yielded) ts ≡ ts = take_all (length c.loop-line.yielded) ts (omega (arith, ends.1)) in
    subst (λ (xs : List (List ℕ)). IsTableOf xs (plain_table c.loop-line.table)) all c.loop-line.invariant.read

pub returns-clause-only : goal.returns-clause-only
returns-clause-only c = λ table within is. one_table_of (lines c.args.text.now) (plain_table c.loop-line.table) table (returns-clause-found c) is
