use Rattle.std.proofs.Common.{◌∙◌, ap}
use Rattle.std.proofs.lemmas.Result.{on_ok_weaker}
use Rattle.serde_json.specs.Written.{compact_text}
use Rattle.dia_upgrades_json.specs.Fields.{object_of}
use Rattle.dia_upgrades_json.specs.Keys.{key_in}
use Rattle.dia_upgrades_json.specs.Members.{avp_fields}
use Rattle.dia_upgrades_json.proofs.subjects.push_avp.Goals as goal

pub returns : goal.returns
returns c =
    let name = c.args.name.now in
    let names = c.args.names.now in
    let written = c.in_ok-avp.ensures ∙ ap (λ key. compact_text (object_of (avp_fields name key c.get-2.result))) c.get.ensures
    ∙ ap (λ key. compact_text (object_of (avp_fields name (key_in names.first name) key))) c.get-2.ensures in
    on_ok_weaker c.push_field.result (λ add. add (object_of (avp_fields name (key_in names.first name) (key_in names.second name))) (c.as_str.ensures.value ∙ written)) c.push_field.ensures
