use Rattle.std.proofs.Common.{◌≤◌, length, drop}
use Rattle.std.specs.Prelude.{reverse}
use Rattle.dia_valid.specs.Rules.{rules_in}
use Rattle.dia_breaking_levels.specs.Exact.{AreOrderLines}
use Rattle.dia_breaking_levels.specs.Offers.{AreOffers, AreOfferedFrom, AreTrueFrom}
use Rattle.dia_breaking_levels.proofs.level.Level.lines_back.Given as goal

abbrev pub invariant-loop-left : goal.invariant-loop-left
invariant-loop-left g l =
    let a = rules_in (g.A.Book.meaning l.self.a.book.now) l.self.a.def in
    let b = rules_in (g.B.Book.meaning l.self.b.book.now) l.self.b.def in
    let listed = g.C.Costs.listed_length l.self.costs.now in
    let other = g.C.Costs.other_length l.self.costs.now in
    record {
      within : l.left ≤ length b;
      offers : AreOffers a l.offers;
      offered : AreOfferedFrom listed other a b l.fn.outer l.left l.offers;
      true_from : AreTrueFrom listed other a b l.fn.outer l.left l.offers;
      lines : AreOrderLines l.self.floor listed other a b l.fn.outer (drop l.left b) (reverse l.lines.items);
    }

abbrev pub decreases-loop-left : goal.decreases-loop-left
decreases-loop-left g l = l.left
