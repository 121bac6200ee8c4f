use Rattle.std.proofs.Common.{◌≡◌, true, take}
use Rattle.std.specs.List.{list_all}
use Rattle.std.specs.Prelude.{map}
use Rattle.std.specs.Borrow.{Bor}
use Rattle.dia_book.specs.declared.Definition.{Definition}
use Rattle.dia_book.specs.Dictionary.{plain_definition}
use Rattle.dia_compat.specs.PairTests.{plain_names, is_ready}
use Rattle.dia_compat.proofs.comparing.commands.all_beside.Given as goal

abbrev pub invariant-loop-other : goal.invariant-loop-other
invariant-loop-other g l =
    list_all (λ (d : Bor Definition). is_ready l.sides (map plain_names l.beside.keys) (plain_definition l.command) (plain_definition d.now)) (take l.other-index l.others) ≡ true
