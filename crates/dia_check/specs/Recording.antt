-- The fault that is reported for what is wrong.
use Rattle.std.specs.Prelude.{ℕ}
use Rattle.dia_check.specs.declared.fault.Fault.{Fault}
use Rattle.dia_check.specs.declared.open_levels.Wrong.{Wrong}
use Rattle.dia_check.specs.Reasons.{code_of}

abbrev pub recorded : ℕ → Wrong → Fault
recorded place wrong = record { place = place; code = code_of wrong.reason; reason = wrong.reason; subject = wrong.subject }
