use Rattle.std.proofs.Common.{rules, refl}
use Rattle.std.specs.Prelude.{IsOk}
use Rattle.hex.specs.Hex.{decode_of}
use Rattle.dia_run.specs.Texts.{digits_of, not_hexadecimal}
use Rattle.dia_run.proofs.inputs.message.read_message.Goals as goal

pub returns-in-Err-clause-recorded : goal.returns-in-Err-clause-recorded
returns-in-Err-clause-recorded c =
    let bad : IsOk (decode_of (digits_of c.in_ok-text.text.now)) → ⊥ = search rules in
    rw c.from.ensures (not_hexadecimal c.in_ok-text.text.now c.in_ok-text.ensures.text bad refl)
