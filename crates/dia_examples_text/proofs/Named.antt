-- The commands of verdicts.
use Rattle.std.proofs.Common.{◌≡◌, ◌<◌, length, Some, Result, Ok, sym, subst}
use Rattle.std.specs.Prelude.{IfOk}
use Rattle.std.proofs.lemmas.Option.{same_Some}
use Rattle.dia_dict.specs.Dictionary.{Dictionary, definitions}
use Rattle.dia_check.specs.declared.fault.Selected.{Selected}
use Rattle.dia_check.specs.declared.fault.Refusal.{Refusal}
use Rattle.dia_captures.specs.declared.verdicts.Checked.{Checked}
use Rattle.dia_captures.specs.declared.verdicts.Checked.TheVariants.{Valid, Wrong}
use Rattle.dia_captures.specs.Verdicts.{IsNamed, answer_of}

pub named_by : (d : Dictionary) (verdict : Checked) (answer : Result Selected Refusal) → answer_of verdict ≡ Some answer
    → IfOk answer (λ found. found.def < length (definitions d)) → IsNamed d verdict
named_by d (Valid found) answer is within =
    subst (λ (r : Result Selected Refusal). IfOk r (λ found. found.def < length (definitions d))) (sym (same_Some (Ok found) answer is)) within
named_by d (Wrong flaw) answer is within = tt
