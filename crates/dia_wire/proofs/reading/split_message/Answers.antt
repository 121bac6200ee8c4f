use Rattle.std.proofs.Common.{Err, sym, ap, arith}
use Rattle.dia_wire.specs.declared.header.MessageFault.TheVariants.{Truncated, Trailing}
use Rattle.dia_wire.proofs.OneMessage.{one_length, no_fault, recorded_of, not_truncated, not_trailing}
use Rattle.dia_wire.proofs.reading.split_message.Goals as goal

pub returns-in_err-header-clause-truncated : goal.returns-in_err-header-clause-truncated
returns-in_err-header-clause-truncated c = (
  λ is. absurd (not_truncated _ (sym (recorded_of _ _ Truncated c.from_residual.ensures.1 is))),
  λ (n, begins, less). absurd (no_fault _ n _ (λ e. c.in_err-header.ensures.short.0 (ap Err e))
      (λ e. c.in_err-header.ensures.version.0 (ap Err e)) (λ e. c.in_err-header.ensures.length_fault.0 (ap Err e)) begins),
)

pub returns-in_err-header-clause-trailing : goal.returns-in_err-header-clause-trailing
returns-in_err-header-clause-trailing c = (
  λ is. absurd (not_trailing _ (sym (recorded_of _ _ Trailing c.from_residual.ensures.1 is))),
  λ (n, begins, more). absurd (no_fault _ n _ (λ e. c.in_err-header.ensures.short.0 (ap Err e))
      (λ e. c.in_err-header.ensures.version.0 (ap Err e)) (λ e. c.in_err-header.ensures.length_fault.0 (ap Err e)) begins),
)

pub returns-then-bytes-length-clause-trailing : goal.returns-then-bytes-length-clause-trailing
returns-then-bytes-length-clause-trailing c = (
  λ is. absurd cc,
  λ (n, begins, more). let same = one_length _ _ _ n c.in_ok-header.ensures.head begins
      in absurd (omega (arith, same, more, c.if-bytes-length.true)),
)

pub returns-then-length-bytes-clause-truncated : goal.returns-then-length-bytes-clause-truncated
returns-then-length-bytes-clause-truncated c = (
  λ is. absurd cc,
  λ (n, begins, less). let same = one_length _ _ _ n c.in_ok-header.ensures.head begins
      in absurd (omega (arith, same, less, c.if-length-bytes.true)),
)

pub returns-clause-truncated : goal.returns-clause-truncated
returns-clause-truncated c = (λ is. absurd cc, λ (n, begins, less). let same = one_length _ _ _ n c.in_ok-header.ensures.head begins in absurd (omega (arith, same, less, c.if-bytes-length.false)))

pub returns-clause-trailing : goal.returns-clause-trailing
returns-clause-trailing c = (λ is. absurd cc, λ (n, begins, more). let same = one_length _ _ _ n c.in_ok-header.ensures.head begins in absurd (omega (arith, same, more, c.if-length-bytes.false)))
