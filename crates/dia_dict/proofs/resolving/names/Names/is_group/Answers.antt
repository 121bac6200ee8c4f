use Rattle.std.proofs.Common.{◌∙◌}
use Rattle.dia_ccf.specs.Plain.{PlainDef, plain_source}
use Rattle.dia_dict.specs.declared.findings.Part.{Part}
use Rattle.dia_dict.specs.declared.findings.PartKind.TheVariants.{Group}
use Rattle.dia_dict.specs.Resolution.{part_at, placed_groups, names_def}
use Rattle.dia_dict.specs.SourceChecks.{placed_def}
use Rattle.dia_dict.proofs.FirstNamed.{any_first}
use Rattle.dia_dict.proofs.Placing.{any-placed}
use Rattle.dia_dict.proofs.resolving.names.Names.is_group.Goals as goal

pub returns : goal.returns
returns c =
    let names = c.args.self.now in
    let s = plain_source names.source.now in
    (rw c.deref.ensures at c.contains_key.ensures)
    ∙ any_first placed_def (λ (d : Part × PlainDef). d.1.name) (placed_groups s) names.groups.value.entries names.kept_groups c.args.name.now
    ∙ any-placed (part_at Group) (names_def c.args.name.now) s.groups
