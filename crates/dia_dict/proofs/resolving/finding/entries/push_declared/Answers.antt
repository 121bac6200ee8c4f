use Rattle.std.proofs.Common.{◌++◌, List, map, ap, ◌∙◌}
use Rattle.std.proofs.lemmas.List.{take_all}
use Rattle.dia_ccf.specs.Plain.{PlainDecl}
use Rattle.dia_dict.specs.declared.findings.Part.{Part}
use Rattle.dia_dict.specs.Resolution.{key_of_decl}
use Rattle.dia_dict.specs.SourceChecks.{PlacedDecl, placed_decl, keyed_key, recorded_key}
use Rattle.dia_dict.proofs.resolving.finding.entries.push_declared.Goals as goal

pub returns : goal.returns
returns c =
    c.loop-decl.invariant
    ∙ ap (λ (ds : List PlacedDecl). map keyed_key c.args.avps.now.items ++ map recorded_key (map (λ (d : Part × PlainDecl). (d.0, (d.1.name, key_of_decl d.1))) (map placed_decl ds)))
    (take_all c.loop-decl.decl-index c.args.decls.now c.loop-decl-test.false)
