use Rattle.std.proofs.Common.{List, ℕ}
use Rattle.std.specs.HashMap.{get_by}
use Rattle.std.specs.Str.{bytes_eq}
use Rattle.dia_names.proofs.Found.{AreFound}
use Rattle.dia_names.proofs.names.names_of.Given as goal

abbrev pub invariant-loop-index : goal.invariant-loop-index
invariant-loop-index g l = AreFound (g.A.Book.meaning l.a).entries l.index (λ (q : List ℕ). get_by (λ k. bytes_eq q k.now) l.names)
