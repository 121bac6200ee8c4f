use Rattle.dia_upgrades.proofs.command.refused.Goals as goal
use Rattle.std.proofs.Common.{subst, ◌∙◌}
use Rattle.dia_io.specs.Writing.{AppendsFront}

pub returns-in_err-put_all-clause-front : goal.returns-in_err-put_all-clause-front
returns-in_err-put_all-clause-front g c = λ _.
    subst (AppendsFront (g.S.Sink.written c.args.sink.now) (g.S.Sink.written c.put_all.new.sink)) (c.as_bytes.ensures.value ∙ c.in_ok-text.ensures.ok) c.put_all.ensures.front
