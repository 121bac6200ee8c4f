use Rattle.std.proofs.Common.{◌≡◌, ◌∙◌, List, ℕ, Bor, length, ◌++◌, OnOk, ap, subst, arith}
use Rattle.std.proofs.lemmas.List.{length-map}
use Rattle.dia_text.specs.declared.fault.Fault.{Fault}
use Rattle.dia_text.specs.AllFaults.{AreCounted, end_faults}
use Rattle.dia_text.proofs.LinesOfTexts.{front}
use Rattle.dia_text.proofs.Counted.{judged_more, judged_all}
use Rattle.dia_text.proofs.faults.judge_lines.Goals as goal

pub loop-index-preserved : goal.loop-index-preserved
loop-index-preserved g c =
    let j = c.loop-index.invariant in
    judged_more _ _ c.loop-index.index _ _ _ _ _ _ _ _ _ _ _ j (front c.args.lines.now c.loop-index.index _ c.loop-index-test.true)
    (c.in_ok-take.ensures.at j.at j.is_at) (c.in_ok-take.ensures.faults j.at j.faults j.is_at j.counted)

pub returns : goal.returns
returns g c =
    let j = c.loop-index.invariant in
    let ends : length c.args.lines.now ≡ c.loop-index.index = omega (arith, c.loop-index-test.false, c.loop-index.auto.index-end) in
    let all = judged_all _ _ c.loop-index.index _ _ _ _ _ j (length-map c.args.lines.now (λ (x : Bor (List ℕ)). x.now) ∙ ends) in
    subst (λ (fs : List Fault). OnOk c.end.result (AreCounted fs c.end.new.found.first.items c.end.new.found.count))
    (ap (λ (n : ℕ). j.faults ++ end_faults n j.at) ends ∙ all) (c.end.ensures j.at j.faults j.is_at j.counted)
