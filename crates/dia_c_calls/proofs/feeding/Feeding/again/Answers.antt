use Rattle.std.proofs.Common.{ap, ◌∙◌}
use Rattle.dia_dict.specs.contracts.indexed_book.IndexedBookBook.TheImpl.{ghosts}
use Rattle.dia_c_calls.proofs.FedStreams.{begins_for}
use Rattle.dia_c_calls.proofs.feeding.Feeding.again.Goals as goal

pub returns-clause-begins : goal.returns-clause-begins
returns-clause-begins c d u most by = begins_for c.new.result _ _ _ _ _ _ c.new.ensures.begins by.0 by.1 by.2

pub returns-clause-answer : goal.returns-clause-answer
returns-clause-answer c d u most bytes feeds = c.finish_of-answer.ensures.answer d u most bytes feeds.1 (ap ghosts.meaning c.deref.ensures ∙ feeds.0.0)
