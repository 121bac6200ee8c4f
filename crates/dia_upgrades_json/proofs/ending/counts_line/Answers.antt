use Rattle.std.proofs.Common.{◌∙◌, ◌++◌, codes}
use Rattle.std.proofs.lemmas.Result.{IfOk-weaker}
use Rattle.dia_upgrades_json.specs.Members.{unsigned_field}
use Rattle.dia_upgrades_json.proofs.Added.{both_added, from_nothing}
use Rattle.dia_upgrades_json.specs.Objects.{counts_fields}
use Rattle.dia_upgrades_json.proofs.ending.counts_line.Goals as goal

pub returns : goal.returns
returns c =
    let lines = unsigned_field (codes "lines") c.args.counts.lines in
    let causes = unsigned_field (codes "causes") c.args.counts.causes in
    let accepted = unsigned_field (codes "accepted") c.args.counts.accepted in
    let stale = unsigned_field (codes "stale") c.args.counts.stale in
    let both = both_added lines causes _ _ _ c.in_ok-push_unsigned.ensures c.in_ok-push_unsigned-2.ensures in
    let three = both_added (lines ++ causes) accepted _ _ _ both c.in_ok-push_unsigned-3.ensures in
    let all = both_added (lines ++ causes ++ accepted) stale _ _ _ three c.in_ok-push_unsigned-4.ensures in
    let fields = counts_fields c.args.counts.lines c.args.counts.causes c.args.counts.accepted c.args.counts.stale in
    IfOk-weaker c.object_line.result _ _ (λ text is. is fields (c.as_str.ensures.value ∙ from_nothing _ _ fields c.new-fields.ensures.bytes all)) c.object_line.ensures
