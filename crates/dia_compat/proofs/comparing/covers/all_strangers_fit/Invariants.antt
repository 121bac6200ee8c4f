use Rattle.std.proofs.Common.{◌≡◌, true, take}
use Rattle.std.specs.List.{list_all}
use Rattle.dia_compat.specs.PairTests.{stranger_fits}
use Rattle.dia_compat.proofs.comparing.covers.all_strangers_fit.Given as goal

abbrev pub invariant-loop-index : goal.invariant-loop-index
invariant-loop-index g l = list_all (stranger_fits (g.A.Book.meaning l.a)) (take l.index (g.B.Book.meaning l.b).entries) ≡ true
