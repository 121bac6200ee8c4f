use Rattle.std.proofs.Common.{List, ℕ, ap, ◌∙◌}
use Rattle.std.proofs.lemmas.Result.{IfOk-weaker}
use Rattle.serde_json.specs.Written.{compact_text}
use Rattle.dia_refused_json.specs.Refusals.{strings}
use Rattle.dia_refused_json.proofs.Refusing.{expecting_recorded}
use Rattle.dia_refused_json.proofs.refusals.expecting_line.Goals as goal

pub returns : goal.returns
returns c =
    let items = c.in_ok-items.ensures ∙ ap (λ (list : List (List ℕ)). compact_text (strings list)) c.expected.ensures in
    IfOk-weaker c.format.result _ _
    (λ text is. expecting_recorded c.args.input.now _ _ _ c.args.line c.args.spelt.now c.args.at _ c.args.wanted c.in_ok-input.ensures c.place_of-column.ensures.column items is) c.format.ensures.ok
