use Rattle.std.proofs.Common.{◌≡◌, ℕ, length, drop, ap, ◌∙◌, arith}
use Rattle.std.proofs.lemmas.List.{length-take}
use Rattle.std.specs.Prelude.{◌==◌, not}
use Rattle.std.specs.List.{prefix_len}
use Rattle.dia_explain_places.proofs.SameLine.{same_line}
use Rattle.dia_explain_places.proofs.lines.line_from.Goals as goal

pub returns-clause-on_line : goal.returns-clause-on_line
returns-clause-on_line c k below =
    let size = ap length c.front-line.ensures ∙ length-take c.run_length-length.result c.back-rest.result.now in
    let most : c.run_length-length.result ≡ prefix_len (λ (n : ℕ). not (n == 10)) (drop c.args.from c.args.text.now)
    = c.run_length-length.ensures.count ∙ ap (prefix_len (λ (n : ℕ). not (n == 10))) c.back-rest.ensures in
    same_line c.args.text.now c.args.from k (omega (arith, size, most, c.without_return.ensures.within))
