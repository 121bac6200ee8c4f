use Rattle.std.proofs.Common.{◌∙◌}
use Rattle.std.proofs.lemmas.Result.{IfOk-weaker}
use Rattle.dia_upgrades_json.proofs.Added.{from_nothing}
use Rattle.dia_upgrades_json.specs.Objects.{no_commands_fields}
use Rattle.dia_upgrades_json.proofs.ending.no_commands_line.Goals as goal

pub returns : goal.returns
returns c =
    IfOk-weaker c.object_line.result _ _
    (λ text is. is no_commands_fields (c.as_str.ensures.value ∙ from_nothing _ _ no_commands_fields c.new-fields.ensures.bytes c.in_ok-push_refused.ensures)) c.object_line.ensures
