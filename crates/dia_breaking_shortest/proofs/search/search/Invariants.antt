use Rattle.std.proofs.Common.{◌≡◌}
use Rattle.dia_breaking_shortest.specs.Passes.{AreKept, AreNoShorter, length_in}
use Rattle.dia_breaking_shortest.proofs.search.search.Given as goal

abbrev pub invariant-loop : goal.invariant-loop
invariant-loop g l = AreKept (g.B.Book.meaning l.book) l.least × (l.least.sends ≡ l.fn.least.sends) × AreNoShorter (length_in (g.B.Book.meaning l.book) l.least) l.settling.order.items
