use Rattle.std.proofs.Common.{◌≡◌, ◌++◌, ℕ, List, [], map, ap, ◌∙◌, subst, OnOk}
use Rattle.std.proofs.lemmas.List.{append_assoc}
use Rattle.dia_ccf.specs.Plain.{PlainDecl, PlainDef, plain_source, plain_decl, plain_def}
use Rattle.dia_terms.specs.Names.{same_bytes}
use Rattle.dia_dict.specs.declared.fault.DictKind.TheVariants.{DuplicateName}
use Rattle.dia_dict.specs.declared.findings.PartKind.TheVariants.{Declaration, Group, Command}
use Rattle.dia_dict.specs.Resolution.{PlainFinding, wrong, part_at, placed_avps, placed_groups, placed_commands, duplicate_avps, duplicate_defs}
use Rattle.dia_dict.specs.SourceChecks.{plain_finding}
use Rattle.dia_dict.proofs.RepeatsRecorded.{again-labels}
use Rattle.dia_dict.proofs.resolving.finding.repeated_names.push_names.Goals as goal

pub returns : goal.returns
returns c =
    let source = c.args.source.now in
    let s = plain_source source in
    let before = map plain_finding c.args.findings.now.items in
    let bad = λ (n : List ℕ). wrong DuplicateName n [] in
    let of_avps = duplicate_avps (placed_avps s) in
    let of_groups = duplicate_defs (placed_groups s) in
    let of_commands = duplicate_defs (placed_commands s) in
    let avps = again-labels plain_decl (λ (d : PlainDecl). d.name) same_bytes bad (part_at Declaration) source.avps.items in
    let groups = again-labels plain_def (λ (d : PlainDef). d.name) same_bytes bad (part_at Group) source.groups.items in
    let commands = again-labels plain_def (λ (d : PlainDef). d.name) same_bytes bad (part_at Command) source.commands.items in
    let first = (rw c.deref.ensures.value at c.in_ok-push_names_of.ensures) ∙ ap (λ (fs : List PlainFinding). before ++ fs) avps in
    let second = (rw c.deref-2.ensures.value at c.in_ok-push_names_of-2.ensures) ∙ (λ i. first i ++ groups i) in
    subst (λ (fs : List PlainFinding). OnOk c.push_names_of-3.result (map plain_finding c.push_names_of-3.new.findings.items ≡ fs))
    ((λ i. second i ++ commands i) ∙ ap (λ (fs : List PlainFinding). fs ++ of_commands) (append_assoc before of_avps of_groups)
    ∙ append_assoc before (of_avps ++ of_groups) of_commands)
    (rw c.deref-3.ensures.value at c.push_names_of-3.ensures)
