use Rattle.std.proofs.Common.{◌∙◌, ◌++◌, ap, map}
use Rattle.std.proofs.lemmas.Result.{IfOk-weaker}
use Rattle.std.specs.List.{flat_map}
use Rattle.dia_compared_json.specs.Objects.{element}
use Rattle.dia_compared_json.specs.Parts.{failing_value}
use Rattle.dia_compared_json.proofs.failings.failings_text.Goals as goal

pub returns : goal.returns
returns g c =
    let values = map (failing_value c.args.a.now c.args.b.now) c.args.failings.now in
    IfOk-weaker c.array_text.result _ _
    (λ text is. is values (c.as_str.ensures.value ∙ c.in_ok-push_failings.ensures ∙ ap (λ t. t ++ flat_map element values) c.new-elements.ensures.bytes)) c.array_text.ensures
