use Rattle.std.proofs.Common.{◌≡◌, arith, ◌+◌, ◌∙◌, List, ℕ, Bor, Result, length, map, refl, ap, sym, subst}
use Rattle.std.proofs.lemmas.List.{length-map}
use Rattle.dia_text.specs.declared.fault.Fault.{Fault}
use Rattle.dia_text.specs.Made.{finished, IsMade}
use Rattle.dia_text.specs.Drafts.{no_level}
use Rattle.dia_text.proofs.Parts.{within_more}
use Rattle.dia_text.proofs.LinesOfTexts.{front, next_line, bad_line, last_line, misses_same}
use Rattle.dia_text.proofs.making.body_of.Goals as goal

pub loop-index-init : goal.loop-index-init
loop-index-init g c = (no_level, (c.new-out.ensures.items, c.new-groups.ensures.items), refl)

pub returns-in-Err-clause-made : goal.returns-in-Err-clause-made
returns-in-Err-clause-made g c =
    let inv = c.loop-index.invariant in
    rw c.placed.ensures.value (misses_same _ _ _ inv.2
    (bad_line _ _ _ c.loop-index.index _ inv.0 _ (front c.args.lines.now c.loop-index.index _ c.loop-index-test.true) (c.in-Err.ensures.taken inv.0 inv.1)))

pub loop-index-preserved : goal.loop-index-preserved
loop-index-preserved g c =
    let inv = c.loop-index.invariant in
    let a = c.in-Ok.ensures.taken inv.0 inv.1 in
    (a.0, a.2, sym (next_line _ _ _ c.loop-index.index _ inv.0 a.0 (front c.args.lines.now c.loop-index.index _ c.loop-index-test.true) a.1) ∙ inv.2)

pub returns-in-Err-clause-line : goal.returns-in-Err-clause-line
returns-in-Err-clause-line g c = within_more (c.loop-index.index + 1) _ _ (omega (arith, c.loop-index-test.true)) c.placed.ensures.line

pub returns-clause-made : goal.returns-clause-made
returns-clause-made g c =
    let inv = c.loop-index.invariant in
    let lines = c.args.lines.now in
    let header = c.args.header.now in
    let ends : length lines ≡ c.loop-index.index = omega (arith, c.loop-index-test.false, c.loop-index.auto.index-end) in
    let last = last_line c.args.named.now header (map (λ (x : Bor (List ℕ)). x.now) lines) c.loop-index.index inv.0 (length-map lines (λ (x : Bor (List ℕ)). x.now) ∙ ends) in
    subst (λ (read : Result (List ℕ) Fault). IsMade c.finish.result read) (ap (finished header inv.0.outer inv.0.bytes) ends ∙ sym last ∙ inv.2) (c.finish.ensures.made inv.0 inv.1)
