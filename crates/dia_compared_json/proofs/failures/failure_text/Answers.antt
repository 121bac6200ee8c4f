use Rattle.std.proofs.Common.{◌∙◌, ap}
use Rattle.std.proofs.lemmas.Result.{IfOk-weaker}
use Rattle.dia_compat.specs.TableText.{plain_pair}
use Rattle.dia_compared_json.specs.Failures.{fails_of}
use Rattle.dia_compared_json.specs.Parts.{side_of}
use Rattle.dia_compared_json.proofs.Pairs.{fails_recorded}
use Rattle.dia_compared_json.proofs.failures.failure_text.Goals as goal

pub returns : goal.returns
returns g c =
    let a = g.A.Book.meaning c.args.a.now in
    let b = g.B.Book.meaning c.args.b.now in
    let recorded = fails_of a b c.args.kind (plain_pair c.args.pair.now) c.args.fails.now in
    let first = c.of-first.ensures ∙ ap (side_of a c.args.kind) c.as_str.ensures.value in
    let second = c.of-second.ensures ∙ ap (side_of b c.args.kind) c.as_str-2.ensures.value in
    IfOk-weaker c.failed_text.result _ _ (λ text is. is recorded (c.as_str-3.ensures.value ∙ fails_recorded _ _ _ _ c.args.fails.now _ first second c.in_ok-fails.ensures)) c.failed_text.ensures
