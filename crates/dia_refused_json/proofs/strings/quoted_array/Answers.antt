use Rattle.std.proofs.Common.{◌∙◌, List, ℕ, ap}
use Rattle.serde_json.specs.Written.{compact_text}
use Rattle.dia_refused_json.specs.Refusals.{strings}
use Rattle.dia_refused_json.proofs.Refusing.{array_recorded, parts_are}
use Rattle.dia_refused_json.proofs.strings.quoted_array.Goals as goal

pub returns-in_ok-push_str-in-len1-up : goal.returns-in_ok-push_str-in-len1-up
returns-in_ok-push_str-in-len1-up c =
    array_recorded _ _ _ _ _ _ c.in_ok-first-in-len1-up.ensures c.in_ok-text-in-len1-up.ensures.ok c.in_ok-push_others-in-len1-up.ensures c.in_ok-push_str-in-len1-up.ensures.bytes
    ∙ ap (λ (list : List (List ℕ)). compact_text (strings list)) (parts_are c.args.list.now _ c.in-len1-up.len_at_least)
