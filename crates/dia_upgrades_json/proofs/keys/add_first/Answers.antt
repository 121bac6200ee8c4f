use Rattle.std.proofs.Common.{ap, ◌∙◌}
use Rattle.std.specs.BTreeMap.{get_by_text}
use Rattle.std.specs.Option.{is_some}
use Rattle.dia_breaking_places.proofs.Firsts.{added_first, none_of}
use Rattle.dia_upgrades_json.proofs.keys.add_first.Goals as goal

pub returns-in_ok-insert : goal.returns-in_ok-insert
returns-in_ok-insert c =
    let none = none_of _ (c.if-not-contains_key.ensures ∙ ap (λ text. is_some (get_by_text c.args.keys.now text)) c.as_str.ensures.value) in
    added_first c.args.text c.args.key c.args.keys.now c.insert.new.self none c.in_ok-insert.ensures.updates
