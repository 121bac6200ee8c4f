use Rattle.std.proofs.Common.{◌∙◌, ◌++◌, ◌∷◌, [], codes}
use Rattle.serde_json.specs.Data.{array}
use Rattle.dia_breaking.specs.LineParts.{plain_path}
use Rattle.dia_upgrades_json.specs.Fields.{strings, text_field}
use Rattle.dia_upgrades_json.specs.LineObjects.{application_field, path_fields}
use Rattle.dia_upgrades_json.proofs.Added.{both_added, from_nothing}
use Rattle.dia_upgrades_json.proofs.paths.path_members.Goals as goal

pub returns : goal.returns
returns c =
    let path = plain_path c.args.path.now in
    let command = text_field (codes "command") path.command in
    let application = application_field path.application in
    let groups = array (strings path.groups) in
    let both = both_added command application _ _ _ c.in_ok-push_text.ensures c.in_ok-push_application.ensures in
    let named = c.as_str.ensures.value ∙ rw c.as_slice.ensures.value at c.in_ok-groups.ensures in
    from_nothing _ _ (path_fields path) c.new-fields.ensures.bytes (both_added (command ++ application) ((codes "path", groups) ∷ []) _ _ _ both (c.in_ok-push_field.ensures groups named))
