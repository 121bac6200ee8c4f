-- What a check answers.
use Rattle.std.proofs.Common.{◌≢◌, ℕ, List, Result, Err, subst}
use Rattle.dia_dict.specs.Dictionary.{Dictionary}
use Rattle.dia_terms.specs.declared.Unknown.{Unknown}
use Rattle.dia_terms.specs.declared.Levels.{Levels}
use Rattle.dia_check.specs.declared.fault.Selected.{Selected}
use Rattle.dia_check.specs.declared.fault.Refusal.{Refusal}
use Rattle.dia_check.specs.declared.fault.Refusal.TheVariants as refusal
use Rattle.dia_check.specs.Faults.{IsAnswer}

-- a check doesn't answer that a stream is spent
pub is_live : (d : Dictionary) (u : Unknown) (most : Levels) (bytes : List ℕ) (answer : Result Selected Refusal) → IsAnswer d u most bytes answer → answer ≢ Err refusal.Spent
is_live d u most bytes answer h is = absurd (subst (IsAnswer d u most bytes) is h)
