use Rattle.std.proofs.Common.{◌≡◌, ◌++◌, List, [], map, sym, ap, ◌∙◌, subst, OnOk}
use Rattle.std.proofs.lemmas.List.{append_assoc}
use Rattle.dia_ccf.specs.Plain.{PlainDef, plain_source}
use Rattle.dia_dict.specs.declared.fault.DictKind.TheVariants.{Limit}
use Rattle.dia_dict.specs.Resolution.{PlainFinding, wrong, is_long, too_many_rules, placed_groups, placed_commands}
use Rattle.dia_dict.specs.SourceChecks.{plain_finding}
use Rattle.dia_dict.proofs.Placing.{alone-append}
use Rattle.dia_dict.proofs.resolving.finding.limits.push_all_long.Goals as goal

pub returns : goal.returns
returns c =
    let s = plain_source c.args.source.now in
    let before = map plain_finding c.args.findings.now.items in
    let long_groups = too_many_rules (placed_groups s) in
    let long_commands = too_many_rules (placed_commands s) in
    subst (λ (fs : List PlainFinding). OnOk c.push_long-2.result (map plain_finding c.push_long-2.new.findings.items ≡ fs))
    (ap (λ (fs : List PlainFinding). fs ++ long_commands) (rw c.deref.ensures.value at c.in_ok-push_long.ensures) ∙ append_assoc before long_groups long_commands
    ∙ ap (λ (fs : List PlainFinding). before ++ fs) (sym (alone-append is_long (λ (d : PlainDef). wrong Limit d.name []) (placed_groups s) (placed_commands s))))
    (rw c.deref-2.ensures.value at c.push_long-2.ensures)
