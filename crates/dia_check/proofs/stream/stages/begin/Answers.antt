use Rattle.std.proofs.Common.{length, subst, sym, ⊎_elim}
use Rattle.dia_check.specs.Streaming.{IsBegun}
use Rattle.dia_check.proofs.StreamMessages.{refused_whole}
use Rattle.dia_check.proofs.stream.stages.begin.Goals as goal

pub returns-in-Err : goal.returns-in-Err
returns-in-Err g c u most bytes sized head is_end =
    let d = g.B.Book.meaning c.args.book.now in
    let (answer, good) = c.in-Err.ensures u most bytes sized head is_end in
    ⊎_elim (λ x. subst (IsBegun d u most bytes c.begin_body.new.body) (sym x.1) (good x.0)) (λ x. subst (IsBegun d u most bytes c.begin_body.new.body)
    (sym x.1) (refused_whole d u most bytes 20 (length bytes) c.in-Err.refusal x.0 sized answer)) c.stopped.ensures
