use Rattle.std.proofs.Common.{List, ◌++◌, length, map}
use Rattle.dia_directions.specs.Gaps.{GivesUp, PlainResumed, plain_resumed}
use Rattle.dia_directions.specs.Order.{Order}
use Rattle.dia_directions.specs.Reassemblies.{order_of}
use Rattle.dia_directions.proofs.reassembly.Reassembly.give_up.Given as goal

-- the parts so far and those of what waits still are those of all
abbrev pub invariant-loop-parts : goal.invariant-loop-parts
invariant-loop-parts l = (rest : List PlainResumed) (end : Order) → GivesUp (order_of l.self) rest end → GivesUp (order_of l.initial.self) (map plain_resumed l.parts.items ++ rest) end

abbrev pub decreases-loop-parts : goal.decreases-loop-parts
decreases-loop-parts l = length (order_of l.self).waiting
