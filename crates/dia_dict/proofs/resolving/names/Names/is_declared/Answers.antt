use Rattle.std.proofs.Common.{◌∙◌}
use Rattle.dia_ccf.specs.Plain.{PlainDecl, plain_source}
use Rattle.dia_dict.specs.declared.findings.Part.{Part}
use Rattle.dia_dict.specs.declared.findings.PartKind.TheVariants.{Declaration}
use Rattle.dia_dict.specs.Resolution.{part_at, placed_avps, names_decl}
use Rattle.dia_dict.specs.SourceChecks.{placed_decl}
use Rattle.dia_dict.proofs.FirstNamed.{any_first}
use Rattle.dia_dict.proofs.Placing.{any-placed}
use Rattle.dia_dict.proofs.resolving.names.Names.is_declared.Goals as goal

pub returns : goal.returns
returns c =
    let names = c.args.self.now in
    let s = plain_source names.source.now in
    (rw c.deref.ensures at c.contains_key.ensures)
    ∙ any_first placed_decl (λ (d : Part × PlainDecl). d.1.name) (placed_avps s) names.avps.value.entries names.kept_avps c.args.name.now
    ∙ any-placed (part_at Declaration) (names_decl c.args.name.now) s.avps
