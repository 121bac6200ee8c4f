use Rattle.std.proofs.Common.{◌∙◌, sym}
use Rattle.dia_answer.specs.Dictionaries.{grouped_failed}
use Rattle.dia_answer.proofs.OctetsLookups.{entry_same}
use Rattle.dia_answer.proofs.opaque.OpaqueBook.avp.Goals as goal

pub returns : goal.returns
returns g c = let d = g.B.Book.meaning c.args.self.now.book.now in c.avp.ensures ∙ sym (entry_same d (grouped_failed d) c.args.key)
