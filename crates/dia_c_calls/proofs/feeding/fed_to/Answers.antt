use Rattle.std.proofs.Common.{◌++◌, take, subst, ◌∙◌}
use Rattle.std.proofs.Math.Logic.{∥∥₁_map}
use Rattle.dia_check.specs.Pauses.{HasPaused, IsPausedFor}
use Rattle.dia_check.specs.Streaming.{Takes}
use Rattle.dia_check.proofs.Pauses.{not_spent}
use Rattle.dia_c_calls.proofs.Recorded.{if_ok, on_err, on_ok}
use Rattle.dia_c_calls.proofs.feeding.fed_to.Goals as goal

pub returns-clause-taken : goal.returns-clause-taken
returns-clause-taken g c d u most bytes paused same =
    let occurs = c.resume-stream.ensures.occurs d u most bytes paused same in
    if_ok {Q = λ progress. Takes bytes c.args.piece.now progress × HasPaused c.pause.result d u most (bytes ++ take progress.taken c.args.piece.now)} c.feed-answer.result
    (λ progress h. let t = h d u most bytes occurs in (t.0, c.pause.ensures.paused d u most (bytes ++ take progress.taken c.args.piece.now) t.1)) c.feed-answer.ensures.taken

pub returns-clause-no_memory : goal.returns-clause-no_memory
returns-clause-no_memory g c is d u most bytes paused same = c.feed-answer.ensures.no_memory is d u most bytes (c.resume-stream.ensures.occurs d u most bytes paused same)

pub returns-clause-never : goal.returns-clause-never
returns-clause-never g c d u most bytes paused same is =
    let occurs = c.resume-stream.ensures.occurs d u most bytes paused same in
    not_spent d u most bytes _ _ occurs.taken.read (c.feed-answer.ensures.spent.0 is)

pub returns-clause-fits : goal.returns-clause-fits
returns-clause-fits g c = ∥∥₁_map c.pause.ensures.fits (λ x. subst (λ d. IsPausedFor d c.pause.result) (c.feed-answer.ensures.dictionary ∙ c.resume-stream.ensures.dictionary) x)

pub returns-clause-spent : goal.returns-clause-spent
returns-clause-spent g c = (
  λ is. c.resume-stream.ensures.spent.0 (c.feed-answer.ensures.spent.0 is),
  λ was. c.feed-answer.ensures.spent.1 (c.resume-stream.ensures.spent.1 was),
)

pub returns-clause-goes_on : goal.returns-clause-goes_on
returns-clause-goes_on g c = on_ok c.feed-answer.result (λ is_open was. is_open (c.pause.ensures.spent.0 was)) c.feed-answer.ensures.goes_on

pub returns-clause-err : goal.returns-clause-err
returns-clause-err g c = on_err c.feed-answer.result (λ spent. c.pause.ensures.spent.1 spent) c.feed-answer.ensures.err
