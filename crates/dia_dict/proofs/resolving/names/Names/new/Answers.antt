use Rattle.dia_ccf.specs.Plain.{PlainDecl, PlainDef, plain_decl, plain_def}
use Rattle.dia_dict.specs.declared.findings.PartKind.TheVariants.{Declaration, Group, Command}
use Rattle.dia_dict.specs.Resolution.{part_at}
use Rattle.dia_dict.specs.SourceChecks.{named_part}
use Rattle.dia_dict.proofs.FirstNamed.{firsts-moved}
use Rattle.dia_dict.proofs.resolving.names.Names.new.Goals as goal

pub invariant_of-result : goal.invariant_of-result
invariant_of-result c = record {
  kept_avps = firsts-moved plain_decl (λ (d : PlainDecl). d.name) (part_at Declaration) c.args.source.now.avps.items named_part c.in_ok-avps.avps.value.entries
      (rw c.deref.ensures.value at c.in_ok-avps.ensures);
  kept_groups = firsts-moved plain_def (λ (d : PlainDef). d.name) (part_at Group) c.args.source.now.groups.items named_part c.in_ok-groups.groups.value.entries
      (rw c.deref-2.ensures.value at c.in_ok-groups.ensures);
  kept_commands = firsts-moved plain_def (λ (d : PlainDef). d.name) (part_at Command) c.args.source.now.commands.items named_part c.in_ok-commands.commands.value.entries
      (rw c.deref-3.ensures.value at c.in_ok-commands.ensures);
}
