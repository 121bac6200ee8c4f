use Rattle.std.proofs.Common.{◌∙◌, codes}
use Rattle.std.proofs.lemmas.Result.{IfOk-weaker}
use Rattle.dia_upgrades_json.specs.Fields.{text_field}
use Rattle.dia_upgrades_json.proofs.Added.{both_added, from_nothing}
use Rattle.dia_upgrades_json.specs.Objects.{no_command_fields, no_commands_fields}
use Rattle.dia_upgrades_json.proofs.ending.no_command_line.Goals as goal

pub returns : goal.returns
returns c =
    let all = both_added no_commands_fields (text_field (codes "name") c.args.name.now) _ _ _ c.in_ok-push_refused.ensures c.in_ok-push_text.ensures in
    let fields = no_command_fields c.args.name.now in
    IfOk-weaker c.object_line.result _ _ (λ text is. is fields (c.as_str.ensures.value ∙ from_nothing _ _ fields c.new-fields.ensures.bytes all)) c.object_line.ensures
