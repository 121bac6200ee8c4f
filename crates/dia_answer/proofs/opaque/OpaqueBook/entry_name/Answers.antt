use Rattle.std.proofs.Common.{arith}
use Rattle.dia_book.specs.Dictionary.{DictEntry}
use Rattle.dia_answer.specs.Dictionaries.{grouped_failed}
use Rattle.dia_answer.proofs.Octets.{from_name}
use Rattle.dia_answer.proofs.OctetsLookups.{entries_many, same_field}
use Rattle.dia_answer.proofs.opaque.OpaqueBook.entry_name.Goals as goal

pub entry_name-requires : goal.entry_name-requires
entry_name-requires g c = let d = g.B.Book.meaning c.args.self.now.book.now in omega (arith, c.requires, entries_many d (grouped_failed d))

pub returns : goal.returns
returns g c = same_field (λ (e : DictEntry). e.name) from_name (g.B.Book.meaning c.args.self.now.book.now) c.args.entry c.entry_name.result.now c.entry_name.ensures
