use Rattle.std.proofs.Common.{ℕ, List, map, Bor, arith}
use Rattle.std.proofs.lemmas.List.{length-map}
use Rattle.std.proofs.lemmas.Result.{err_from_is_err_and}
use Rattle.dia_text.specs.ValueParts.{part_bytes}
use Rattle.dia_text.proofs.LinesOfTexts.{front}
use Rattle.dia_text.proofs.PartsOfTexts.{read_nothing, read_more, read_failed, read_all}
use Rattle.dia_text.proofs.value_parts.push_parts.Goals as goal

pub loop-text-init : goal.loop-text-init
loop-text-init c = read_nothing (part_bytes c.args.part) (map (λ (x : Bor (List ℕ)). x.now) c.args.texts.now) c.args.out.now.items

pub loop-text-preserved : goal.loop-text-preserved
loop-text-preserved c =
    let i = c.loop-text.text-index in
    let (b, is_part, is_new) = c.in_ok-push_part.ensures in
    read_more (part_bytes c.args.part) (map (λ (x : Bor (List ℕ)). x.now) c.args.texts.now) i _ b _ _ _ (front c.args.texts.now i _ c.loop-text-test.true) c.loop-text.invariant is_part is_new

pub returns-in_err-push_part : goal.returns-in_err-push_part
returns-in_err-push_part c =
    let p = err_from_is_err_and c.from_residual.result c.from_residual.ensures.1 in
    let i = c.loop-text.text-index in
    rw (p.1, p.2) (read_failed (part_bytes c.args.part) (map (λ (x : Bor (List ℕ)). x.now) c.args.texts.now) i _ _ _ _ (front c.args.texts.now i _ c.loop-text-test.true) c.loop-text.invariant c.in_err-push_part.ensures)

pub returns : goal.returns
returns c =
    read_all (part_bytes c.args.part) (map (λ (x : Bor (List ℕ)). x.now) c.args.texts.now) c.loop-text.text-index _ _
    (omega (arith, c.loop-text-test.false, length-map c.args.texts.now (λ (x : Bor (List ℕ)). x.now))) c.loop-text.invariant
