use Rattle.std.proofs.Common.{Option, ap, ◌∙◌}
use Rattle.std.specs.Option.{option_map}
use Rattle.dia_ccf.specs.Plain.{PlainDef, plain_source}
use Rattle.dia_dict.specs.declared.findings.Part.{Part}
use Rattle.dia_dict.specs.declared.findings.PartKind.TheVariants.{Group}
use Rattle.dia_dict.specs.Resolution.{part_at, placed_groups, names_def}
use Rattle.dia_dict.specs.SourceChecks.{placed_def}
use Rattle.dia_dict.proofs.FirstNamed.{found_first}
use Rattle.dia_dict.proofs.Placing.{find-placed}
use Rattle.dia_dict.proofs.resolving.names.Names.group.Goals as goal

abbrev unplaced : Option (Part × PlainDef) → Option PlainDef
unplaced d = option_map (λ x. x.1) d

pub returns-in-None : goal.returns-in-None
returns-in-None c =
    let names = c.args.self.now in
    let s = plain_source names.source.now in
    ap unplaced (ap (option_map placed_def) (rw c.deref.ensures at c.in-None.ensures.value)
    ∙ found_first placed_def (λ (d : Part × PlainDef). d.1.name) (placed_groups s) names.groups.value.entries names.kept_groups c.args.name.now)
    ∙ find-placed (part_at Group) (names_def c.args.name.now) s.groups

pub returns-in-Some : goal.returns-in-Some
returns-in-Some c =
    let names = c.args.self.now in
    let s = plain_source names.source.now in
    ap unplaced (ap (option_map placed_def) (rw c.deref.ensures at c.in-Some.ensures.value)
    ∙ found_first placed_def (λ (d : Part × PlainDef). d.1.name) (placed_groups s) names.groups.value.entries names.kept_groups c.args.name.now)
    ∙ find-placed (part_at Group) (names_def c.args.name.now) s.groups
