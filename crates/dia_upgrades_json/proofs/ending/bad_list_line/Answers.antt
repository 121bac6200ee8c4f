use Rattle.std.proofs.Common.{◌∙◌, codes}
use Rattle.std.proofs.lemmas.Result.{IfOk-weaker}
use Rattle.dia_upgrades_json.proofs.Added.{both_added, from_nothing}
use Rattle.dia_upgrades_json.specs.Objects.{list_fields, list_kind, refused_fields, where_fields}
use Rattle.dia_upgrades_json.proofs.ending.bad_list_line.Goals as goal

pub returns : goal.returns
returns c =
    let refused = refused_fields (codes "accepted") (list_kind c.args.bad) in
    let all = both_added refused (where_fields c.args.list.now c.args.bad) _ _ _ (rw c.list_kind.ensures at c.in_ok-push_refused.ensures) c.in_ok-push_where.ensures in
    let fields = list_fields c.args.list.now c.args.bad in
    IfOk-weaker c.object_line.result _ _ (λ text is. is fields (c.as_str.ensures.value ∙ from_nothing _ _ fields c.new-fields.ensures.bytes all)) c.object_line.ensures
