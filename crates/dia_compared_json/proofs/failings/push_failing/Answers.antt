use Rattle.std.proofs.Common.{◌∙◌}
use Rattle.std.proofs.lemmas.Result.{on_ok_weaker}
use Rattle.dia_compared_json.specs.Parts.{failing_value}
use Rattle.dia_compared_json.proofs.failings.push_failing.Goals as goal

pub returns : goal.returns
returns g c = on_ok_weaker c.push_element.result (λ add. add (failing_value c.args.a.now c.args.b.now c.args.failing) (c.as_str.ensures.value ∙ c.in_ok-value.ensures)) c.push_element.ensures
