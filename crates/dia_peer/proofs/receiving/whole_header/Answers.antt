use Rattle.std.proofs.Common.{◌≡◌, ◌≢◌, ℕ, ◌<◌, ◌≤◌, Err, List, length, take, drop, refl, sym, subst, ap, arith, ◌∙◌}
use Rattle.std.specs.Prelude.{slice_index}
use Rattle.dia_wire.specs.Number.{number}
use Rattle.dia_wire.specs.Wire.{IsMessageLength, BeginsMessage}
use Rattle.dia_wire.specs.declared.header.MessageFault.{MessageFault}
use Rattle.dia_wire.specs.declared.header.MessageFault.TheVariants.{Short, Version, Length, Truncated, Trailing}
use Rattle.dia_wire.proofs.OneHeader.{head_says}
use Rattle.dia_check.specs.Faults.{HasLength}
use Rattle.dia_peer.proofs.receiving.whole_header.Goals as goal

-- bytes with a fault are not as many as a Message Length
no_length : (b : List ℕ) (e : MessageFault) → (e ≡ Short → length b < 20) → (e ≡ Version → (20 ≤ length b) × (slice_index b 0 ≢ 1))
    → (e ≡ Length → (20 ≤ length b) × (slice_index b 0 ≡ 1) × ¬ IsMessageLength (number (take 3 (drop 1 b))))
    → (e ≡ Truncated → (n : ℕ) × BeginsMessage b n × (length b < n)) → (e ≡ Trailing → (n : ℕ) × BeginsMessage b n × (n < length b)) → ¬ HasLength b (length b)
no_length b Short short version long less more has = let few = short refl in let many = has.long in absurd (omega (arith, few, many))
no_length b Version short version long less more has = (version refl).1 has.version
no_length b Length short version long less more has = (long refl).2 (subst IsMessageLength has.is_length has.sound)
no_length b Truncated short version long less more has =
    let (n, (h, head, sound), few) = less refl in let same : length b ≡ n = has.is_length ∙ (head_says h n b head).2 in absurd (omega (arith, same, few))
no_length b Trailing short version long less more has =
    let (n, (h, head, sound), many) = more refl in let same : length b ≡ n = has.is_length ∙ (head_says h n b head).2 in absurd (omega (arith, same, many))

pub returns-in-Ok-clause-some : goal.returns-in-Ok-clause-some
returns-in-Ok-clause-some c =
    let b = c.args.bytes.now in let says = head_says c.in-Ok.header (length b) b c.in-Ok.ensures.head in
    (c.in-Ok.ensures.head, record { long = says.0; version = says.1; is_length = sym says.2; sound = c.in-Ok.ensures.long })

pub returns-in-Err-clause-none : goal.returns-in-Err-clause-none
returns-in-Err-clause-none c is =
    let recorded = c.in-Err.ensures in
    no_length c.args.bytes.now c.in-Err.field-0 (λ e. recorded.short.0 (ap Err e))
    (λ e. recorded.version.0 (ap Err e)) (λ e. recorded.length_fault.0 (ap Err e)) (λ e. recorded.truncated.0 (ap Err e)) (λ e. recorded.trailing.0 (ap Err e))
