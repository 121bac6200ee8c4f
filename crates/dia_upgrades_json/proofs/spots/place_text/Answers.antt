use Rattle.std.proofs.Common.{◌∙◌}
use Rattle.std.proofs.lemmas.Result.{IfOk-weaker}
use Rattle.dia_upgrades_json.proofs.Added.{from_nothing}
use Rattle.dia_upgrades_json.specs.Spots.{place_fields}
use Rattle.dia_breaking_places.specs.MarkedTexts.{text_in}
use Rattle.dia_upgrades_json.proofs.spots.place_text.Goals as goal

pub returns : goal.returns
returns c =
    let fields = place_fields (text_in c.args.marks.now) c.args.at in
    IfOk-weaker c.object_text.result _ _ (λ text is. is fields (c.as_str.ensures.value ∙ from_nothing _ _ fields c.new-fields.ensures.bytes c.in_ok-push_position.ensures)) c.object_text.ensures
