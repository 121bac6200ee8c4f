use Rattle.std.proofs.Common.{◌++◌, List, [], map, ap, ◌∙◌}
use Rattle.std.proofs.lemmas.List.{take_all}
use Rattle.dia_ccf.specs.Plain.{PlainDecl, plain_source}
use Rattle.dia_dict.specs.declared.fault.DictKind.TheVariants.{NoGroupFormat}
use Rattle.dia_dict.specs.declared.findings.Part.{Part}
use Rattle.dia_dict.specs.Resolution.{PlainFinding, wrong, alone, lacks_group}
use Rattle.dia_dict.specs.SourceChecks.{plain_finding, placed_decl}
use Rattle.dia_dict.proofs.resolving.finding.entries.push_lacking.Goals as goal

pub returns : goal.returns
returns c =
    let names = c.args.names.now in
    let lacking : List (Part × PlainDecl) → List PlainFinding = alone (lacks_group (plain_source names.source.now)) (λ (d : PlainDecl). wrong NoGroupFormat d.name []) in
    c.loop-decl.invariant ∙ ap (λ (ds : List (Part × PlainDecl)). map plain_finding c.args.findings.now.items ++ lacking ds)
    (ap (map placed_decl) (take_all c.loop-decl.decl-index c.first_avps-decls.result.now c.loop-decl-test.false) ∙ c.first_avps-decls.ensures)
