use Rattle.std.proofs.Common.{◌∙◌, ◌++◌, ap, codes, List, ℕ, string_bytes}
use Rattle.std.specs.Option.{option_map}
use Rattle.std.proofs.lemmas.Result.{IfOk-weaker}
use Rattle.dia_breaking.specs.LineParts.{plain_parts}
use Rattle.dia_upgrades_json.specs.Keys.{key_in}
use Rattle.dia_upgrades_json.specs.SpotTexts.{both_in}
use Rattle.dia_upgrades_json.specs.Spots.{spot_fields}
use Rattle.dia_upgrades_json.specs.LineObjects.{fields_at, matter_fields, text_if, undecided_field}
use Rattle.dia_upgrades_json.specs.Fields.{text_field}
use Rattle.dia_upgrades_json.proofs.Added.{both_added, from_nothing}
use Rattle.dia_upgrades_json.proofs.objects.object_at.Goals as goal

pub returns : goal.returns
returns c =
    let parts = plain_parts c.args.parts.now in
    let first = key_in c.args.names.now.first in
    let second = key_in c.args.names.now.second in
    let message = option_map (λ digits. digits.now) c.args.message in
    let undecided = undecided_field parts.standing in
    let matter = matter_fields first second parts in
    IfOk-weaker c.object_text.result _ _
    (λ text is members are.
    let placed = c.in_ok-push_str.ensures.bytes ∙ ap (λ (t : List ℕ). string_bytes c.push_undecided.new.out ++ t) are in
    let both = both_added undecided members _ _ _ c.in_ok-push_undecided.ensures placed in
    let three = both_added (undecided ++ members) matter _ _ _ both c.in_ok-push_matter.ensures in
    let four = both_added (undecided ++ members ++ matter) (text_if (codes "message") message) _ _ _ three c.in_ok-push_if.ensures in
    let texts = both_in c.args.names.now.texts.value in
    let five = both_added (undecided ++ members ++ matter ++ text_if (codes "message") message) (spot_fields texts parts) _ _ _ four (rw c.deref.ensures at c.in_ok-push_spots.ensures) in
    let all =
    both_added (undecided ++ members ++ matter ++ text_if (codes "message") message ++ spot_fields texts parts) (text_field (codes "text") c.args.words.now) _ _ _ five c.in_ok-push_text.ensures in
    let fields = fields_at members first second texts parts c.args.words.now message in
    is fields (c.as_str.ensures.value ∙ from_nothing _ _ fields c.new-fields.ensures.bytes all))
    c.object_text.ensures
