use Rattle.std.proofs.lemmas.Result.{IfOk-weaker}
use Rattle.dia_compat.specs.TableText.{plain_pair}
use Rattle.dia_compared_json.proofs.Texts.{failure_recorded}
use Rattle.dia_compared_json.proofs.failures.failed_text.Goals as goal

pub returns : goal.returns
returns c =
    IfOk-weaker c.format.result _ _
    (λ text is recorded are. failure_recorded c.args.kind (plain_pair c.args.pair.now) c.args.test recorded _ _ _ _ _ _ c.kind_word-kind.ensures c.test_word-test.ensures
    (rw c.as_str.ensures.value at c.in_ok-first.ensures) (rw c.as_str-2.ensures.value at c.in_ok-second.ensures) are is) c.format.ensures.ok
