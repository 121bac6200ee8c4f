use Rattle.std.specs.Prelude.{take, All}
use Rattle.dia_breaking_avps.specs.Levels.{IsFamily}
use Rattle.dia_breaking_avps.proofs.addresses.entries_have_none.Given as goal

abbrev pub invariant-loop-index : goal.invariant-loop-index
invariant-loop-index g l = All (λ e. ¬ IsFamily e.key.code) (take l.index (g.A.Book.meaning l.a).entries)
