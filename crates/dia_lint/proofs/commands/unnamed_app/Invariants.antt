use Rattle.std.proofs.Common.{◌≡◌, ℕ, ◌+◌, ◌<◌, ◌≤◌, length, Some}
use Rattle.std.specs.Prelude.{Contains}
use Rattle.dia_book.specs.Dictionary.{groups}
use Rattle.dia_lint.specs.Pairs.{app_in}
use Rattle.dia_lint.proofs.commands.unnamed_app.Given as goal

abbrev pub invariant-loop-index : goal.invariant-loop-index
invariant-loop-index g l = record {
  few : length l.apps.items ≤ l.index;
  seen : (i a : ℕ) → i < l.index → app_in (g.B.Book.meaning l.book) (length (groups (g.B.Book.meaning l.book)) + i) ≡ Some a → Contains l.apps.items a;
}
