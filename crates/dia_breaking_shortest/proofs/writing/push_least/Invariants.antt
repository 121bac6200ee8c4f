use Rattle.std.proofs.Common.{◌≡◌, ◌++◌, suc, vec_len}
use Rattle.dia_breaking_shortest.specs.Bytes.{avp_within}
use Rattle.dia_breaking_shortest.specs.Waiting.{bytes_waiting, steps_waiting}
use Rattle.dia_breaking_shortest.proofs.writing.push_least.Given as goal

abbrev pub invariant-loop-next : goal.invariant-loop-next
invariant-loop-next g l =
    l.out.items ++ bytes_waiting (g.B.Book.meaning l.book) l.least l.waiting.items
    ≡ l.fn.out.items ++ avp_within (g.B.Book.meaning l.book) l.least (suc (vec_len l.least.lengths)) l.fn.key

abbrev pub decreases-loop-next : goal.decreases-loop-next
decreases-loop-next g l = steps_waiting (g.B.Book.meaning l.book) l.least l.waiting.items
