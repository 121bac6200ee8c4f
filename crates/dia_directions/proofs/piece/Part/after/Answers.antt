use Rattle.std.proofs.Common.{ap, ◌∙◌, drop, arith}
use Rattle.std.proofs.lemmas.List.{take_rest}
use Rattle.dia_directions.specs.Bytes.{bytes_of}
use Rattle.dia_directions.proofs.Parts.{bytes_of-drop}
use Rattle.dia_directions.proofs.piece.Part.after.Goals as goal

pub returns : goal.returns
returns c =
    let bytes = c.args.self.bytes.now in
    let captured = c.min-captured.result in
    let cut = c.saturating_sub-cut.result in
    ap (λ b. bytes_of b cut) (take_rest bytes captured)
    ∙ ap (λ k. bytes_of (drop captured bytes) k) (omega arith)
    ∙ bytes_of-drop bytes c.args.self.cut c.args.count captured (omega arith)
