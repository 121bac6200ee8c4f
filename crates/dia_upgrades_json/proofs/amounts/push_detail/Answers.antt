use Rattle.std.proofs.Common.{◌++◌, codes}
use Rattle.std.proofs.lemmas.Result.{on_ok_weaker}
use Rattle.dia_breaking.specs.LineParts.{plain_parts}
use Rattle.dia_upgrades_json.specs.LineObjects.{accepted_fields, sent_fields, text_if}
use Rattle.dia_upgrades_json.proofs.Added.{both_added}
use Rattle.dia_upgrades_json.proofs.amounts.push_detail.Goals as goal

pub returns : goal.returns
returns c =
    let parts = plain_parts c.args.parts.now in
    let sent = sent_fields parts.sent in
    let following = text_if (codes "behind") parts.following in
    let accepted = accepted_fields parts.accepted in
    let both = both_added sent following _ _ _ c.in_ok-push_sent.ensures c.in_ok-push_if.ensures in
    let three = both_added (sent ++ following) accepted _ _ _ both c.in_ok-push_accepted.ensures in
    on_ok_weaker c.push_read.result (λ e. both_added (sent ++ following ++ accepted) (text_if (codes "read") parts.read) _ _ _ three e) c.push_read.ensures
