use Rattle.std.proofs.Common.{arith}
use Rattle.dia_answer.specs.Dictionaries.{grouped_failed}
use Rattle.dia_answer.proofs.OctetsLookups.{entries_many}
use Rattle.dia_answer.proofs.opaque.OpaqueBook.entry_at.Goals as goal

pub entry_at-requires : goal.entry_at-requires
entry_at-requires g c = let d = g.B.Book.meaning c.args.self.now.book.now in omega (arith, c.requires, entries_many d (grouped_failed d))
