use Rattle.std.proofs.Common.{◌∙◌, ◌++◌, ap, codes, string_bytes}
use Rattle.std.specs.Option.{option_or}
use Rattle.std.proofs.lemmas.Result.{on_ok_weaker}
use Rattle.dia_upgrades_json.proofs.Added.{both_added}
use Rattle.dia_upgrades_json.specs.Fields.{fields_text, text_field}
use Rattle.dia_upgrades_json.specs.Members.{known_fields, second_field}
use Rattle.dia_upgrades_json.proofs.subjects.push_avp_fields.Goals as goal

pub returns : goal.returns
returns c =
    let name = text_field (codes "name") c.args.name.now in
    let known = known_fields (option_or c.args.first c.args.second) in
    let other = second_field c.args.first c.args.second in
    let written = c.in_ok-push_known.ensures ∙ ap (λ key. string_bytes c.push_text.new.out ++ fields_text (known_fields key)) c.or.ensures in
    let both = both_added name known _ _ _ c.in_ok-push_text.ensures written in
    on_ok_weaker c.push_second.result (λ e. both_added (name ++ known) other _ _ _ both e) c.push_second.ensures
