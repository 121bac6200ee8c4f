-- The AVPs that a walk reaches are those that messages have.
use Rattle.std.proofs.Common.{◌≡◌, ◌∙◌, Bool, true, false, sym}
use Rattle.dia_book.specs.Dictionary.{Dictionary, IsDictionary}
use Rattle.dia_terms.specs.declared.Sends.{Sends}
use Rattle.dia_lint.specs.declared.reached.Reached.{Reached}
use Rattle.dia_lint.specs.Held.{AreHeld}
use Rattle.dia_lint.specs.WayLines.{IsReachedBy}
use Rattle.dia_lint.proofs.FoundLevels.{held_by_side}
use Rattle.dia_lint.proofs.WayTruths.{held_has}

both_ways : {X : Type 0} (b : Bool) → b ≡ true → b ≡ false → X
both_ways b e f = absurd (let bad : true ≡ false = sym e ∙ f in cc)

pub are_held : (d : Dictionary) (who : Sends) (r : Reached) → IsDictionary d → IsReachedBy d who r → AreHeld d who r.avps.items
are_held d who r is by = record {
  some = held_by_side d who r is by;
  none = λ e entry at lacks held. both_ways _ (held_has d who r is by e entry at held) lacks;
}
