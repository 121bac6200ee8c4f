use Rattle.std.proofs.Common.{arith}
use Rattle.dia_data.specs.Plain.{plain_format}
use Rattle.dia_c_calls.proofs.DictParts.{avp_there}
use Rattle.dia_c_calls.proofs.dict_records.avp_at.Goals as goal

pub returns-clause-some : goal.returns-clause-some
returns-clause-some g c =
    rw (c.format_number.ensures, c.name.ensures, c.mandatory_number.ensures)
    (avp_there (g.B.Book.meaning c.args.book.now) c.args.index c.entry_key-key.result c.entry_name.result.now (plain_format c.format.result.now) c.rule.result _ _
    (omega (arith, c.if-index-entries.false, c.entries.ensures.count)) (rw c.entry_at-entry.ensures at c.entry_key-key.ensures) (rw c.entry_at-entry.ensures at c.entry_name.ensures)
    (rw c.entry_at-entry.ensures at c.format.ensures) (rw c.entry_at-entry.ensures at c.rule.ensures) c.cut_name-name_count.ensures.recorded.0 c.cut_name-name_count.ensures.bytes)
