use Rattle.std.proofs.Common.{[], refl, rules}
use Rattle.dia_check.proofs.stream.Stream.new.Goals as goal

pub invariant_of-result : goal.invariant_of-result
invariant_of-result g c = record {
  holds = ∣ (
    [],
    record {
      sound = g.met.B.Book.sound c.args.book.now;
      count = refl;
      wants = search rules;
      few = search rules;
      within = search rules;
      read = search rules;
    },
  ) ∣₁;
}
