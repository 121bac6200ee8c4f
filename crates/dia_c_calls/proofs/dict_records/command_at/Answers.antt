use Rattle.dia_book.specs.Dictionary.{plain_definition}
use Rattle.dia_c_calls.proofs.DictParts.{command_there}
use Rattle.dia_c_calls.proofs.dict_records.command_at.Goals as goal

pub returns-clause-some : goal.returns-clause-some
returns-clause-some g c = (
  plain_definition c.def.result.now,
  command_there (g.B.Book.meaning c.args.book.now) c.args.index _ (rw c.command_at-place.ensures at c.def.ensures),
  rw c.command_at-place.ensures at c.command_record.ensures,
)
