use Rattle.std.proofs.Common.{refl, take, length, Ok, arith, ◌/◌}
use Rattle.std.proofs.lemmas.List.{length-take-le}
use Rattle.dia_run.proofs.HexTexts.{decoded}
use Rattle.dia_run.proofs.DecodedPieces.{spells, written}
use Rattle.dia_run.proofs.inputs.pieces.next_piece.Goals as goal

pub returns-in-Ok-clause-spells : goal.returns-in-Ok-clause-spells
returns-in-Ok-clause-spells c =
    spells c.args.text.now c.decode_to_slice.new.out _ (c.min-count.result / 2) c.min-count.result
    (decoded (take c.min-count.result c.args.text.now) c.decode_to_slice.new.out
    (written (take c.min-count.result c.args.text.now) c.decode_to_slice.new.out (length (take (c.min-count.result / 2) c.args.bytes.now)) (Ok tt) refl c.in-Ok.ensures.value))
    (let o = c.decode_to_slice.auto.out in omega (arith, o, length-take-le (c.min-count.result / 2) c.args.bytes.now (omega arith)))
