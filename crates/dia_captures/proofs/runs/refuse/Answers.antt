use Rattle.std.specs.Io.KnownBytes.{Appends}
use Rattle.dia_io.specs.Writing.{AppendsFront}
use Rattle.dia_captures.proofs.RefusedRuns.{records_line, ends_badly, has_memory}
use Rattle.dia_captures.proofs.runs.refuse.Goals as goal

pub returns-in_err-put_all-clause-front : goal.returns-in_err-put_all-clause-front
returns-in_err-put_all-clause-front g c = λ _.
    records_line (AppendsFront (g.S.Sink.written c.args.sink.now) (g.S.Sink.written c.put_all.new.sink)) c.args.refused _
    c.in_ok-text.ensures.refused (rw c.as_bytes.ensures.value at c.put_all.ensures.front)

pub returns-in_err-put_all-clause-memory : goal.returns-in_err-put_all-clause-memory
returns-in_err-put_all-clause-memory g c = λ none. absurd (has_memory _ _ c.in_ok-text.ensures.refused none)

pub returns-clause-exit : goal.returns-clause-exit
returns-clause-exit g c = ends_badly _ _ c.in_ok-text.ensures.refused

pub returns-clause-put : goal.returns-clause-put
returns-clause-put g c = λ _.
    records_line (Appends (g.S.Sink.written c.args.sink.now) (g.S.Sink.written c.put_all.new.sink)) c.args.refused _
    c.in_ok-text.ensures.refused (rw c.as_bytes.ensures.value at c.in_ok-put_all.ensures.ok)

pub returns-clause-memory : goal.returns-clause-memory
returns-clause-memory g c = λ none. absurd (has_memory _ _ c.in_ok-text.ensures.refused none)
