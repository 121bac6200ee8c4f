use Rattle.std.proofs.Common.{List, [], map, ap, ◌∙◌}
use Rattle.std.proofs.lemmas.List.{take_all}
use Rattle.dia_terms.specs.Names.{same_bytes}
use Rattle.dia_dict.specs.declared.findings.Part.{Part}
use Rattle.dia_dict.specs.Resolution.{placed, part_at, firsts}
use Rattle.dia_dict.proofs.FirstNamed.{parts-more}
use Rattle.dia_dict.proofs.resolving.parts.first_parts.Goals as goal

pub loop-index-preserved : goal.loop-index-preserved
loop-index-preserved g c =
    let item = c.index-items-index.result in
    parts-more g.T.Named.name (part_at c.args.kind) c.args.items.now c.loop-index.index item c.loop-index-test.true c.index-items-index.is
    _ c.loop-index.invariant _ c.name.result _ c.name.ensures (ap {B = Part × g.row.T.Denot} (λ (p : Part). (p, item)) c.at-part.ensures)
    (rw c.deref_mut.ensures.value at c.in_ok-note.ensures.kept)

pub returns : goal.returns
returns g c =
    c.loop-index.invariant
    ∙ ap (λ (xs : List g.row.T.Denot). map (λ (x : Part × g.row.T.Denot). (g.T.Named.name x.1, x))
    (firsts (λ (a b : Part × g.row.T.Denot). same_bytes (g.T.Named.name a.1) (g.T.Named.name b.1)) [] (placed (part_at c.args.kind) xs)))
    (take_all c.loop-index.index c.args.items.now c.loop-index-test.false)
