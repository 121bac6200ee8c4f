use Rattle.std.proofs.Common.{◌∙◌, sym}
use Rattle.dia_answer.specs.Dictionaries.{grouped_failed}
use Rattle.dia_answer.proofs.OctetsLookups.{entries_many}
use Rattle.dia_answer.proofs.opaque.OpaqueBook.entries.Goals as goal

pub returns : goal.returns
returns g c = let d = g.B.Book.meaning c.args.self.now.book.now in record { count = c.entries.ensures.count ∙ sym (entries_many d (grouped_failed d)) }
