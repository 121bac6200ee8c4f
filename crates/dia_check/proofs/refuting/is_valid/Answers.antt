use Rattle.dia_check.proofs.KindsOfRefusal.{no_want_fault, no_want_truncated, no_want_trailing}
use Rattle.dia_check.proofs.refuting.is_valid.Goals as goal

pub returns-in-Err-Fault : goal.returns-in-Err-Fault
returns-in-Err-Fault g c = ((λ h. absurd cc), (λ valid. absurd (no_want_fault _ _ c.in-Err-Fault.field-0-is (c.in-Err-Fault.ensures.valid valid.0 valid.1))))

pub returns-in-Err-Truncated : goal.returns-in-Err-Truncated
returns-in-Err-Truncated g c = ((λ h. absurd cc), (λ valid. absurd (no_want_truncated _ c.in-Err-Truncated.field-0-is (c.in-Err-Truncated.ensures.valid valid.0 valid.1))))

pub returns-in-Err-Trailing : goal.returns-in-Err-Trailing
returns-in-Err-Trailing g c = ((λ h. absurd cc), (λ valid. absurd (no_want_trailing _ c.in-Err-Trailing.field-0-is (c.in-Err-Trailing.ensures.valid valid.0 valid.1))))
