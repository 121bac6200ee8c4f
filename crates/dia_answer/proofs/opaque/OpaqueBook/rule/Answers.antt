use Rattle.std.proofs.Common.{arith}
use Rattle.dia_book.specs.Dictionary.{DictEntry}
use Rattle.dia_answer.specs.Dictionaries.{grouped_failed}
use Rattle.dia_answer.proofs.Octets.{from_rule}
use Rattle.dia_answer.proofs.OctetsLookups.{entries_many, same_field}
use Rattle.dia_answer.proofs.opaque.OpaqueBook.rule.Goals as goal

pub rule-requires : goal.rule-requires
rule-requires g c = let d = g.B.Book.meaning c.args.self.now.book.now in omega (arith, c.requires, entries_many d (grouped_failed d))

pub returns : goal.returns
returns g c = same_field (λ (e : DictEntry). e.rule) from_rule (g.B.Book.meaning c.args.self.now.book.now) c.args.entry c.rule.result c.rule.ensures
