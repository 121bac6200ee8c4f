use Rattle.std.proofs.Common.{ℕ, take, arith}
use Rattle.dia_reading.specs.Messages.{IsSound}
use Rattle.dia_reading.proofs.Likely.{IfNone-always, is_sound, sound_avps, sound_like}
use Rattle.dia_reading.proofs.messages.sound_length.Goals.{else-length-bytes-via-then-length-bytes+else-are_avps, else-length-bytes-via-else-length-bytes}
use Rattle.dia_reading.proofs.messages.sound_length.Goals as goal

pub returns-in_err-length-clause-none : goal.returns-in_err-length-clause-none
returns-in_err-length-clause-none c = IfNone-always c.from_residual.result ((n : ℕ) → ¬ IsSound (take n c.args.bytes.now)) (λ n s. c.in_err-length.ensures.none _ (sound_like c.args.bytes.now n s))

pub returns-then-are_avps-clause-sound : goal.returns-then-are_avps-clause-sound
returns-then-are_avps-clause-sound c = is_sound c.args.bytes.now c.in_ok-length.length c.in_ok-length.ensures.some c.if-length-bytes.true (c.are_avps.ensures.0 c.if-are_avps.true)

pub returns-else-length-bytes-clause-none : goal.returns-else-length-bytes-clause-none
returns-else-length-bytes-clause-none c = λ n s.
    let found = sound_avps c.args.bytes.now c.in_ok-length.length n c.in_ok-length.ensures.some s in
    elim c.else-length-bytes.branch [
      | else-length-bytes-via-then-length-bytes+else-are_avps w ↦ let yes = w.are_avps.ensures.1 found.1 in absurd cc
      | else-length-bytes-via-else-length-bytes w ↦ absurd (omega (arith, found.0))
    ]
