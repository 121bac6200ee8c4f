use Rattle.std.proofs.Common.{ap, ◌∙◌}
use Rattle.dia_dict.specs.contracts.indexed_book.IndexedBookBook.TheImpl.{ghosts}
use Rattle.dia_c_calls.proofs.feeding.Feeding.counted.Goals as goal

pub returns-clause-levels : goal.returns-clause-levels
returns-clause-levels c d u most bytes feeds = c.levels_of-paused.ensures.levels d u most bytes feeds.1 (ap ghosts.meaning c.deref.ensures ∙ feeds.0.0)

pub returns-clause-kept : goal.returns-clause-kept
returns-clause-kept c d u most bytes feeds = (feeds.0, c.levels_of-paused.ensures.kept d u most bytes feeds.1 (ap ghosts.meaning c.deref.ensures ∙ feeds.0.0))
