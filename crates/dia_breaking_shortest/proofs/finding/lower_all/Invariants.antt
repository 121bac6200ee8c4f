use Rattle.std.proofs.Common.{◌≡◌, ◌<◌, ℕ, false}
use Rattle.dia_breaking_shortest.specs.Passes.{IsLess, IsSettled}
use Rattle.dia_breaking_shortest.proofs.finding.lower_all.Given as goal

abbrev pub invariant-loop-index : goal.invariant-loop-index
invariant-loop-index g l =
    IsLess (g.B.Book.meaning l.book) l.fn.least l.least l.changed × (l.changed ≡ false → (e : ℕ) → e < l.index → IsSettled (g.B.Book.meaning l.book) l.least l.order e)
