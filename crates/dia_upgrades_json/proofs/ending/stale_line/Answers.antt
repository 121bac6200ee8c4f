use Rattle.std.proofs.Common.{◌∙◌, codes}
use Rattle.std.specs.Prelude.{string_bytes}
use Rattle.std.proofs.lemmas.Result.{IfOk-weaker}
use Rattle.dia_accepted.specs.Accepted.{plain_entry}
use Rattle.dia_upgrades_json.specs.Fields.{text_field}
use Rattle.dia_upgrades_json.specs.Members.{unsigned_field}
use Rattle.dia_upgrades_json.proofs.Added.{both_added, from_nothing}
use Rattle.dia_upgrades_json.specs.Objects.{stale_fields}
use Rattle.dia_upgrades_json.proofs.ending.stale_line.Goals as goal

pub returns : goal.returns
returns c =
    let e = c.args.entry.now in
    let all = both_added (text_field (codes "stale") (string_bytes e.words)) (unsigned_field (codes "line") e.line) _ _ _ (rw c.as_str.ensures.value at c.in_ok-push_text.ensures) c.in_ok-push_unsigned.ensures in
    let fields = stale_fields (plain_entry e) in
    IfOk-weaker c.object_line.result _ _ (λ text is. is fields (c.as_str-2.ensures.value ∙ from_nothing _ _ fields c.new-fields.ensures.bytes all)) c.object_line.ensures
