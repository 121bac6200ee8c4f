use Rattle.std.proofs.Common.{◌∙◌, ◌∷◌, [], codes}
use Rattle.dia_breaking.specs.LineParts.{plain_path}
use Rattle.dia_upgrades_json.specs.Fields.{object_of}
use Rattle.dia_upgrades_json.specs.LineObjects.{first_fields, path_fields}
use Rattle.dia_upgrades_json.specs.Members.{unsigned_field}
use Rattle.dia_upgrades_json.proofs.Added.{both_added, from_nothing}
use Rattle.dia_upgrades_json.proofs.paths.first_members.Goals as goal

pub returns : goal.returns
returns c =
    let path = plain_path c.args.path.now in
    let first = object_of (path_fields path) in
    let is_first = c.as_str-2.ensures.value ∙ c.in_ok-first.ensures (path_fields path) (c.as_str.ensures.value ∙ c.in_ok-members.ensures) in
    from_nothing _ _ (first_fields c.args.commands path) c.new-fields.ensures.bytes
    (both_added (unsigned_field (codes "commands") c.args.commands) ((codes "first", first) ∷ []) _ _ _ c.in_ok-push_unsigned.ensures (c.in_ok-push_field.ensures first is_first))
