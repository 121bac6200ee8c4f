use Rattle.std.proofs.Common.{◌≡◌, take}
use Rattle.std.specs.List.{filter_map}
use Rattle.dia_book.specs.Dictionary.{DictEntry}
use Rattle.dia_compat.specs.declared.reasons.Failing.TheVariants.{Stranger}
use Rattle.dia_compat.specs.PairTests.{stranger_fits}
use Rattle.dia_compat.specs.Failings.{unless}
use Rattle.dia_compat.proofs.comparing.failing_wildcards.strangers.Given as goal

abbrev pub invariant-loop-index : goal.invariant-loop-index
invariant-loop-index g l =
    l.all.items ≡ filter_map (λ (e : DictEntry). unless (stranger_fits (g.A.Book.meaning l.a) e) (Stranger l.place e.key)) (take l.index (g.B.Book.meaning l.b).entries)
