use Rattle.std.proofs.Common.{List, ℕ}
use Rattle.std.specs.HashMap.{get_by}
use Rattle.std.specs.Str.{bytes_eq}
use Rattle.dia_book.specs.Dictionary.{PlainDefinition}
use Rattle.dia_differences.proofs.FoundKeys.{IsFound}
use Rattle.dia_differences.proofs.partners.command_names.Given as goal

abbrev pub invariant-loop-index : goal.invariant-loop-index
invariant-loop-index g l = IsFound (λ (e : PlainDefinition). e.name) (g.B.Book.meaning l.book).commands (λ (q : List ℕ). get_by (λ k. bytes_eq q k.now) l.names) l.index
