use Rattle.std.proofs.Common.{ap, ◌++◌, ◌∙◌}
use Rattle.std.proofs.lemmas.Result.{on_ok_weaker}
use Rattle.std.specs.Prelude.{string_bytes}
use Rattle.dia_accepted.specs.Causes.{once_words}
use Rattle.dia_breaking.specs.LineParts.{plain_parts}
use Rattle.dia_upgrades.proofs.ending.push_cause.Goals as goal

pub returns : goal.returns
returns g c =
    let w = g.W.LineWriter.writes c.args.writer.now in
    let words = c.as_str-2.ensures.value ∙ c.in_ok-words.ensures ∙ ap (once_words c.args.commands) c.as_str.ensures.value in
    on_ok_weaker c.write_cause.result
    (λ added. added ∙ (λ i. string_bytes c.args.text.now ++ w.of_cause c.args.commands (words i) (plain_parts c.args.first.now.parts) (c.digits_in-digits.ensures i))) c.write_cause.ensures
