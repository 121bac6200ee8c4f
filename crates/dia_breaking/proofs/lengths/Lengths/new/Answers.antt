use Rattle.std.proofs.Common.{ℕ, List, refl, subst}
use Rattle.dia_breaking.specs.Lengths.{AreExactlyOthers}
use Rattle.dia_breaking.proofs.KeptFloors.{floors_kept}
use Rattle.dia_breaking.proofs.lengths.Lengths.new.Goals as goal

pub invariant_of-result : goal.invariant_of-result
invariant_of-result g c = record {
  floors = ∣ floors_kept (g.A.Book.meaning c.args.book.now) c.args.sends c.in_ok-least.least c.in_ok-entries.entries.items c.in_ok-least.ensures.sends c.in_ok-least.ensures.floors
      c.in_ok-entries.ensures.1 ∣₁;
  exact = ∣ record { is_least = c.in_ok-least.ensures.least; are_lengths = c.in_ok-entries.ensures } ∣₁;
}

pub returns : goal.returns
returns g c =
    let da = g.A.Book.meaning c.args.book.now in
    let db = g.B.Book.meaning c.args.b.now in
    record {
      book = refl;
      sends = refl;
      least = c.in_ok-least.ensures.exact;
      entries = c.in_ok-entries.ensures;
      others = subst (λ (entries : List ℕ). AreExactlyOthers da db c.args.sends entries c.in_ok-others.others.items) c.deref.ensures.value c.in_ok-others.ensures;
    }
