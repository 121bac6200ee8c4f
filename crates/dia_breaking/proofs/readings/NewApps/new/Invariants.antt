use Rattle.std.proofs.Common.{◌≡◌, ℕ, [], nat_eq, take, unwrap_or}
use Rattle.std.specs.List.{filter_map}
use Rattle.std.specs.Option.{option_map}
use Rattle.std.specs.HashMap.{get}
use Rattle.dia_book.specs.Dictionary.{PlainDefinition}
use Rattle.dia_breaking.specs.Readings.{new_app}
use Rattle.dia_breaking.proofs.readings.NewApps.new.Given as goal

abbrev pub invariant-loop-index : goal.invariant-loop-index
invariant-loop-index g l =
    (code : ℕ) → unwrap_or (option_map (λ v. v.items) (get nat_eq l.by_code code)) []
    ≡ filter_map (λ (c : PlainDefinition). new_app (g.A.Book.meaning l.a) code l.class c.head) (take l.index (g.B.Book.meaning l.b).commands)
