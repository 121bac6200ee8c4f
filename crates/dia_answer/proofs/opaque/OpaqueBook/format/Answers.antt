use Rattle.std.proofs.Common.{arith, sym, ◌∙◌}
use Rattle.dia_answer.specs.Dictionaries.{grouped_failed}
use Rattle.dia_answer.proofs.OctetsLookups.{entries_many, hidden_format, other_format}
use Rattle.dia_answer.proofs.opaque.OpaqueBook.format.Goals as goal

pub format-requires : goal.format-requires
format-requires g c = let d = g.B.Book.meaning c.args.self.now.book.now in omega (arith, c.requires, entries_many d (grouped_failed d))

pub returns-then-hides : goal.returns-then-hides
returns-then-hides g c = hidden_format (g.B.Book.meaning c.args.self.now.book.now) c.args.self.now.hidden c.args.self.now.placed c.args.entry (sym c.hides.ensures ∙ c.if-hides.true) _ c.args.self.now.any_bytes

pub returns-else-hides : goal.returns-else-hides
returns-else-hides g c = other_format (g.B.Book.meaning c.args.self.now.book.now) c.args.self.now.hidden c.args.self.now.placed c.args.entry (sym c.hides.ensures ∙ c.if-hides.false) _ c.format.ensures
