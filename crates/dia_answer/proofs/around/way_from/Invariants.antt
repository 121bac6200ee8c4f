use Rattle.std.specs.Option.{option_map}
use Rattle.dia_answer.specs.Levels.{plain_level, plain_step, plain_way}
use Rattle.dia_answer.proofs.Ways.{HasFront, IsSoFar, bytes_left}
use Rattle.dia_answer.proofs.around.way_from.Given as goal

abbrev pub invariant-loop-next : goal.invariant-loop-next
invariant-loop-next g l = record {
  so_far : IsSoFar (g.B.Book.meaning l.book) (plain_level l.outer) (plain_way l.way.items) (option_map plain_step l.next);
  front : HasFront l.next;
}

abbrev pub decreases-loop-next : goal.decreases-loop-next
decreases-loop-next g l = bytes_left l.next
