use Rattle.std.proofs.Common.{map, ap, ◌∙◌}
use Rattle.dia_ccf.specs.Plain.{PlainDef, plain_source}
use Rattle.dia_dict.specs.declared.findings.Part.{Part}
use Rattle.dia_dict.specs.Resolution.{placed_commands}
use Rattle.dia_dict.specs.SourceChecks.{placed_def}
use Rattle.dia_dict.proofs.FirstNamed.{values_first}
use Rattle.dia_dict.proofs.resolving.names.Names.first_commands.Goals as goal

pub returns : goal.returns
returns c =
    let names = c.args.self.now in
    ap (map placed_def) (c.as_slice.ensures ∙ (rw c.deref.ensures at c.values.ensures.rest))
    ∙ values_first placed_def (λ (d : Part × PlainDef). d.1.name) (placed_commands (plain_source names.source.now)) names.commands.value.entries names.kept_commands
