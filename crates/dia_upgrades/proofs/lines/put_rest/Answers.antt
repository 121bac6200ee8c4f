use Rattle.std.proofs.Common.{refl}
use Rattle.std.proofs.lemmas.Result.{err_from_is_err_and}
use Rattle.dia_upgrades.proofs.Commands.{failed_after}
use Rattle.dia_upgrades.proofs.lines.put_rest.Goals as goal

pub returns-in_err-put-in-Err-NoMemory-clause-front : goal.returns-in_err-put-in-Err-NoMemory-clause-front
returns-in_err-put-in-Err-NoMemory-clause-front g c =
    let p = err_from_is_err_and c.from_residual-in_err-put-in-Err-NoMemory.result c.from_residual-in_err-put-in-Err-NoMemory.ensures.1 in
    let none = rw c.in-Err-NoMemory.is at c.in-Err-NoMemory.field-0-is in
    rw (p.1, p.2, c.in-Err-NoMemory.is)
    (failed_after (Unit {0}) c.in-Err-NoMemory.field-0 (g.S.Sink.written c.args.sink.now) (g.S.Sink.written c.put-in-Err-NoMemory.new.sink) c.args.pending.now none
    (λ begun text is. c.in_err-put-in-Err-NoMemory.ensures.front refl begun text is))
