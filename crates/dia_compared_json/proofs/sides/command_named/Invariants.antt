use Rattle.std.proofs.Common.{◌≡◌, false, take}
use Rattle.std.specs.List.{list_any}
use Rattle.std.specs.Str.{bytes_eq}
use Rattle.dia_book.specs.Dictionary.{PlainDefinition}
use Rattle.dia_compared_json.proofs.sides.command_named.Given as goal

abbrev pub invariant-loop-index : goal.invariant-loop-index
invariant-loop-index g l = list_any (λ (c : PlainDefinition). bytes_eq l.name c.name) (take l.index (g.B.Book.meaning l.book).commands) ≡ false
