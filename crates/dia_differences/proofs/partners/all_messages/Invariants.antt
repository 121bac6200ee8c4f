use Rattle.std.specs.HashMap.{get}
use Rattle.dia_book.specs.Dictionary.{PlainDefinition}
use Rattle.dia_differences.specs.Headers.{messages}
use Rattle.dia_differences.specs.Partners.{same_messages}
use Rattle.dia_differences.proofs.FoundKeys.{IsFound}
use Rattle.dia_differences.proofs.partners.all_messages.Given as goal

abbrev pub invariant-loop-index : goal.invariant-loop-index
invariant-loop-index g l = IsFound (λ (x : PlainDefinition). messages x.head) (g.B.Book.meaning l.book).commands (get same_messages l.found) l.index
