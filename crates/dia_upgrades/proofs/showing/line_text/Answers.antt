use Rattle.std.proofs.Common.{◌∙◌, ap, sym}
use Rattle.dia_upgrades.specs.Recorded.{Says}
use Rattle.dia_upgrades.proofs.Endings.{one_added}
use Rattle.dia_upgrades.proofs.showing.line_text.Goals as goal

pub returns : goal.returns
returns g c = λ place says e same.
    let w = g.W.LineWriter.writes c.args.writer.now in
    let parts = c.in_ok-parts.ensures ∙ sym (ap (λ (s : Says). s.parts) e) in
    one_added _ _ _ c.new-text.ensures.bytes c.in_ok-write_line.ensures ∙ (λ i. w.of_line (sym same i) (parts i) (c.digits_in.ensures i))
