use Rattle.std.proofs.Common.{◌≡◌, true, length, take, Option}
use Rattle.dia_wire.specs.declared.Key.{Key}
use Rattle.dia_valid.specs.Valid.{is_listed}
use Rattle.dia_valid.specs.Rules.{rules_in}
use Rattle.dia_breaking_levels.specs.Offers.{AreOffers, AreLess, IsOffered, MayCome, AreTrueFrom}
use Rattle.dia_breaking_levels.specs.Places.{place}
use Rattle.dia_breaking_levels.proofs.level.Level.offer_all_last.Given as goal

abbrev pub invariant-loop-rule : goal.invariant-loop-rule
invariant-loop-rule g l =
    let a = rules_in (g.A.Book.meaning l.self.a.book.now) l.self.a.def in
    let b = rules_in (g.B.Book.meaning l.self.b.book.now) l.self.b.def in
    let listed = g.C.Costs.listed_length l.self.costs.now in
    let other = g.C.Costs.other_length l.self.costs.now in
    record {
      offers : AreOffers a l.offers;
      less : AreLess a l.offers l.fn.offers;
      offered : (x : Key) → is_listed (take l.rule-index l.rules) x ≡ true → place b x ≡ length b → IsOffered listed other a b l.offers x;
      true_still : (outer : Option Key) → AreTrueFrom listed other a b outer (length b) l.fn.offers → ((x : Key) → is_listed l.rules x ≡ true → MayCome a b outer x)
          → AreTrueFrom listed other a b outer (length b) l.offers;
    }
