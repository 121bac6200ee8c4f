use Rattle.std.proofs.Common.{Option, ap, ◌∙◌}
use Rattle.std.specs.Option.{option_map}
use Rattle.dia_ccf.specs.Plain.{PlainDecl, plain_source}
use Rattle.dia_dict.specs.declared.findings.Part.{Part}
use Rattle.dia_dict.specs.declared.findings.PartKind.TheVariants.{Declaration}
use Rattle.dia_dict.specs.Resolution.{part_at, names_decl}
use Rattle.dia_dict.proofs.Placing.{find-placed}
use Rattle.dia_dict.proofs.resolving.names.Names.declaration.Goals as goal

abbrev unplaced : Option (Part × PlainDecl) → Option PlainDecl
unplaced d = option_map (λ x. x.1) d

pub returns-in-None : goal.returns-in-None
returns-in-None c =
    ap unplaced c.in-None.ensures
    ∙ find-placed (part_at Declaration) (names_decl c.args.name.now) (plain_source c.args.self.now.source.now).avps

pub returns-in-Some : goal.returns-in-Some
returns-in-Some c = ap unplaced c.in-Some.ensures ∙ find-placed (part_at Declaration) (names_decl c.args.name.now) (plain_source c.args.self.now.source.now).avps
