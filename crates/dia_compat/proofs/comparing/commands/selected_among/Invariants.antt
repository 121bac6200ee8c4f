use Rattle.std.proofs.Common.{◌≡◌, map, take}
use Rattle.dia_compat.specs.PairTests.{plain_names, is_selected}
use Rattle.dia_compat.proofs.comparing.commands.selected_among.Given as goal

abbrev pub invariant-loop-index : goal.invariant-loop-index
invariant-loop-index g l = l.all.items ≡ map (is_selected l.commands (map plain_names l.beside.keys)) (take l.index (g.A.Book.meaning l.a).commands)
