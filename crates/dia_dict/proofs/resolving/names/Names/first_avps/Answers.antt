use Rattle.std.proofs.Common.{map, ap, ◌∙◌}
use Rattle.dia_ccf.specs.Plain.{PlainDecl, plain_source}
use Rattle.dia_dict.specs.declared.findings.Part.{Part}
use Rattle.dia_dict.specs.Resolution.{placed_avps}
use Rattle.dia_dict.specs.SourceChecks.{placed_decl}
use Rattle.dia_dict.proofs.FirstNamed.{values_first}
use Rattle.dia_dict.proofs.resolving.names.Names.first_avps.Goals as goal

pub returns : goal.returns
returns c =
    let names = c.args.self.now in
    ap (map placed_decl) (c.as_slice.ensures ∙ (rw c.deref.ensures at c.values.ensures.rest))
    ∙ values_first placed_decl (λ (d : Part × PlainDecl). d.1.name) (placed_avps (plain_source names.source.now)) names.avps.value.entries names.kept_avps
