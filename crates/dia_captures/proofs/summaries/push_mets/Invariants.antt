use Rattle.std.proofs.Common.{◌≡◌, ◌++◌, take, flat_map}
use Rattle.std.specs.Prelude.{string_bytes}
use Rattle.dia_captures.specs.Summaries.{met_line}
use Rattle.dia_captures.proofs.summaries.push_mets.Given as goal

abbrev pub invariant-loop-met : goal.invariant-loop-met
invariant-loop-met g l = string_bytes l.text ≡ string_bytes l.fn.text ++ flat_map (met_line (g.B.Book.meaning l.book) l.lines) (take l.met-index l.mets)
