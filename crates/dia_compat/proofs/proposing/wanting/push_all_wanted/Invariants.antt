use Rattle.std.proofs.Common.{take}
use Rattle.std.specs.List.{filter_map}
use Rattle.dia_book.specs.Dictionary.{plain_definition}
use Rattle.dia_compat.specs.WantedNames.{wanted_name, AddsPairs}
use Rattle.dia_compat.proofs.proposing.wanting.push_all_wanted.Given as goal

abbrev pub invariant-loop-other : goal.invariant-loop-other
invariant-loop-other g l =
    AddsPairs (plain_definition l.command) (filter_map (λ d. wanted_name l.sides l.command.head (plain_definition d.now)) (take l.other-index l.others)) l.fn.pairs.items l.pairs.items
