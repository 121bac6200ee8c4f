use Rattle.std.proofs.Common.{refl, subst}
use Rattle.dia_terms.specs.declared.Sends.{Sends}
use Rattle.dia_breaking_shortest.specs.Floors.{AreFloors}
use Rattle.dia_breaking_shortest.specs.Lengths.{length_of}
use Rattle.dia_lint.specs.Costs.{AreOthers}
use Rattle.dia_lint.proofs.costs.Lengths.new.Goals as goal

pub others_of-requires : goal.others_of-requires
others_of-requires g c = c.in_ok-least.ensures.least.unknown

pub returns : goal.returns
returns g c =
    let d = g.B.Book.meaning c.args.book.now in
    let least = c.in_ok-least.least in
    let sends = c.in_ok-least.ensures.sends in
    record {
      book = refl;
      sends = sends;
      lengths = record {
        not_filled = c.requires;
        floors = subst (λ (s : Sends). AreFloors d c.args.sends (length_of d s least.lengths.items)) sends c.in_ok-least.ensures.floors;
        exact = c.in_ok-least.ensures.exact;
        spelled = c.in_ok-least.ensures.spelled;
        are_others = subst (λ (s : Sends). AreOthers d s least.lengths.items c.in_ok-others.others.items) sends c.in_ok-others.ensures;
      };
    }
