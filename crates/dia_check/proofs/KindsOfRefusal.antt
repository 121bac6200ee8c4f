use Rattle.std.proofs.Common.{◌≡◌, sym, ◌∙◌}
use Rattle.dia_check.specs.declared.fault.Fault.{Fault}
use Rattle.dia_check.specs.declared.fault.Refusal.{Refusal}
use Rattle.dia_check.specs.declared.fault.Refusal.TheVariants as refusal

-- these refusals are not `NoMemory`
pub no_want_fault : (r : Refusal) (f : Fault) → r ≡ refusal.Fault f → r ≡ refusal.NoMemory → ⊥
no_want_fault r f h e = let k : refusal.Fault f ≡ refusal.NoMemory = sym h ∙ e in absurd cc

pub no_want_truncated : (r : Refusal) → r ≡ refusal.Truncated → r ≡ refusal.NoMemory → ⊥
no_want_truncated r h e = let k : refusal.Truncated ≡ refusal.NoMemory = sym h ∙ e in absurd cc

pub no_want_trailing : (r : Refusal) → r ≡ refusal.Trailing → r ≡ refusal.NoMemory → ⊥
no_want_trailing r h e = let k : refusal.Trailing ≡ refusal.NoMemory = sym h ∙ e in absurd cc
