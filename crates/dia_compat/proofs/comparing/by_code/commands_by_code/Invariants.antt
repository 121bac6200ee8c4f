use Rattle.std.proofs.Common.{◌≡◌, ℕ, take, filter, nat_eq}
use Rattle.std.specs.Option.{option_map}
use Rattle.std.specs.HashMap.{get}
use Rattle.dia_book.specs.Dictionary.{PlainDefinition}
use Rattle.dia_compat.specs.CommandsByCode.{has_code, listed}
use Rattle.dia_compat.proofs.comparing.by_code.commands_by_code.Given as goal

abbrev pub invariant-loop-index : goal.invariant-loop-index
invariant-loop-index g l =
    (code : ℕ) → listed (option_map (λ v. v.items) (get nat_eq l.lists code)) ≡ filter (λ (c : PlainDefinition). has_code code c.head) (take l.index (g.B.Book.meaning l.book).commands)
