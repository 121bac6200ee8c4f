use Rattle.dia_differences.specs.Partners.{AreNone}
use Rattle.dia_differences.proofs.partners.nones.Given as goal

abbrev pub invariant-loop-place : goal.invariant-loop-place
invariant-loop-place l = AreNone l.made.items l.place
