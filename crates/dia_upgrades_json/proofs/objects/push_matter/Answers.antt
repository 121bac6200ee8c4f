use Rattle.std.proofs.Common.{◌++◌}
use Rattle.std.proofs.lemmas.Result.{on_ok_weaker}
use Rattle.dia_breaking.specs.LineParts.{plain_parts}
use Rattle.dia_upgrades_json.specs.Keys.{key_in}
use Rattle.dia_upgrades_json.specs.LineObjects.{detail_fields, header_field, reason_field, subject_field}
use Rattle.dia_upgrades_json.proofs.Added.{both_added}
use Rattle.dia_upgrades_json.proofs.objects.push_matter.Goals as goal

pub returns : goal.returns
returns c =
    let parts = plain_parts c.args.parts.now in
    let reason = reason_field parts.reason in
    let subject = subject_field (key_in c.args.names.now.first) (key_in c.args.names.now.second) parts.subject in
    let detail = detail_fields parts in
    let both = both_added reason subject _ _ _ c.in_ok-push_reason.ensures c.in_ok-push_subject.ensures in
    let three = both_added (reason ++ subject) detail _ _ _ both c.in_ok-push_detail.ensures in
    on_ok_weaker c.push_header.result (λ e. both_added (reason ++ subject ++ detail) (header_field parts.reason) _ _ _ three e) c.push_header.ensures
