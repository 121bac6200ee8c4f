use Rattle.std.proofs.Common.{◌++◌, take, ap, ◌∙◌}
use Rattle.dia_dict.specs.contracts.indexed_book.IndexedBookBook.TheImpl.{ghosts}
use Rattle.dia_check.specs.Pauses.{HasPaused}
use Rattle.dia_check.specs.Streaming.{Takes}
use Rattle.dia_c_calls.specs.Feedings.{ChecksBy}
use Rattle.dia_c_calls.proofs.Recorded.{if_ok}
use Rattle.dia_c_calls.proofs.feeding.Feeding.fed.Goals as goal

pub returns-clause-taken : goal.returns-clause-taken
returns-clause-taken c d u most bytes feeds =
    if_ok {Q = λ progress. Takes bytes c.args.piece.now progress × (ChecksBy c.args.self d u most × HasPaused c.fed_to-paused.result.0 d u most (bytes ++ take progress.taken c.args.piece.now))} c.fed_to-paused.result.1
    (λ progress t. (t.0, (feeds.0, t.1))) (c.fed_to-paused.ensures.taken d u most bytes feeds.1 (ap ghosts.meaning c.deref.ensures ∙ feeds.0.0))

pub returns-clause-no_memory : goal.returns-clause-no_memory
returns-clause-no_memory c is d u most bytes feeds = c.fed_to-paused.ensures.no_memory is d u most bytes feeds.1 (ap ghosts.meaning c.deref.ensures ∙ feeds.0.0)

pub returns-clause-never : goal.returns-clause-never
returns-clause-never c d u most bytes feeds = c.fed_to-paused.ensures.never d u most bytes feeds.1 (ap ghosts.meaning c.deref.ensures ∙ feeds.0.0)
