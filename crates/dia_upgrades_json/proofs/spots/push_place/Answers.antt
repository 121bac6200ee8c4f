use Rattle.std.proofs.Common.{◌∙◌}
use Rattle.std.proofs.lemmas.Result.{on_ok_weaker}
use Rattle.dia_upgrades_json.specs.Fields.{object_of}
use Rattle.dia_upgrades_json.specs.Spots.{place_fields}
use Rattle.dia_breaking_places.specs.MarkedTexts.{text_in}
use Rattle.dia_upgrades_json.proofs.spots.push_place.Goals as goal

pub returns : goal.returns
returns c =
    on_ok_weaker c.push_field.result (λ add. add (object_of (place_fields (text_in c.args.marks.now) c.args.at)) (c.as_str.ensures.value ∙ c.in_ok-place.ensures)) c.push_field.ensures
