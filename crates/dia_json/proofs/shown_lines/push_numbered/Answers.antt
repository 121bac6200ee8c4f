use Rattle.std.proofs.Common.{ℕ, List, ◌++◌, ◌∙◌, ap, arith, length, string_bytes}
use Rattle.std.specs.List.{flat_map}
use Rattle.std.specs.Str.Lines.{lines}
use Rattle.std.proofs.lemmas.List.{length_push, take_all}
use Rattle.std.proofs.lemmas.Iterator.Consumers.{YieldsList-end, YieldsList-turn}
use Rattle.std.proofs.lemmas.Iterator.Splits.{YieldsList-from_lines}
use Rattle.dia_json.specs.ShownLines.{numbered_row}
use Rattle.dia_json.proofs.ShownLines.{row_added}
use Rattle.dia_json.proofs.shown_lines.push_numbered.Goals as goal

pub loop-row-preserved : goal.loop-row-preserved
loop-row-preserved c =
    let rows = lines c.args.objects.now in
    let turn = YieldsList-turn (YieldsList-from_lines c.args.objects.now cc) c.loop-row.yielded _ c.loop-row.yielded_by _ _ c.in-Some.row c.in-Some.is c.next.ensures.steps in
    row_added (numbered_row c.args.number) rows (length c.loop-row.yielded) _ c.in-Some.row.now (string_bytes c.args.text.now) _ _ turn.0 turn.1
    (omega (arith, length_push c.loop-row.yielded c.in-Some.row)) c.loop-row.invariant c.in_ok-push_row.ensures

pub returns : goal.returns
returns c =
    let rows = lines c.args.objects.now in
    let ends = YieldsList-end (YieldsList-from_lines c.args.objects.now cc) c.loop-row.yielded _ c.loop-row.yielded_by _ _ c.in-None.is c.next.ensures.steps in
    c.loop-row.invariant
    ∙ ap (λ (rs : List (List ℕ)). string_bytes c.args.text.now ++ flat_map (numbered_row c.args.number) rs) (take_all (length c.loop-row.yielded) rows (omega (arith, ends.1)))
