use Rattle.std.proofs.Common.{◌++◌, ℕ, List, [], ◌∷◌, None, map, ap, ◌∙◌}
use Rattle.std.specs.Prelude.{if◌then◌else◌}
use Rattle.std.proofs.lemmas.List.{take_all}
use Rattle.dia_ccf.specs.declared.source.Def.{Def}
use Rattle.dia_ccf.specs.Plain.{PlainDef, plain_def}
use Rattle.dia_dict.specs.declared.fault.DictKind.TheVariants.{Limit}
use Rattle.dia_dict.specs.Resolution.{wrong, finding, is_long, part_at, placed, too_many_rules}
use Rattle.dia_dict.specs.SourceChecks.{plain_finding}
use Rattle.dia_dict.proofs.Placing.{alone-more}
use Rattle.dia_dict.proofs.resolving.finding.limits.push_long.Goals as goal

pub loop-index-preserved : goal.loop-index-preserved
loop-index-preserved c =
    let named = c.of.ensures ∙ ap (λ (name : List ℕ). wrong Limit name []) c.deref.ensures in
    let recorded = c.at-finding.ensures ∙ (λ i. finding (named i) (c.at.ensures i) None) in
    alone-more is_long (λ (d : PlainDef). wrong Limit d.name []) (part_at c.args.kind) plain_def c.args.defs.now c.loop-index.index c.index-defs-index.result _ _ _
    c.loop-index-test.true c.index-defs-index.is c.loop-index.invariant
    (c.in_ok-push_if.ensures ∙ (λ i. map plain_finding c.loop-index.findings.items ++ (if c.is_long.ensures i then recorded i ∷ [] else [])))

pub returns : goal.returns
returns c =
    c.loop-index.invariant ∙ ap (λ (ds : List Def). map plain_finding c.args.findings.now.items ++ too_many_rules (placed (part_at c.args.kind) (map plain_def ds)))
    (take_all c.loop-index.index c.args.defs.now c.loop-index-test.false)
