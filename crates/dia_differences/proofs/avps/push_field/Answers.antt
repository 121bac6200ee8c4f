use Rattle.std.proofs.lemmas.Result.{on_ok_weaker}
use Rattle.dia_differences.proofs.Fields.{field_line}
use Rattle.dia_differences.proofs.avps.push_field.Goals as goal

pub returns : goal.returns
returns g c =
    on_ok_weaker c.push_unless.result
    (field_line (g.A.Book.meaning c.args.a.now) (g.B.Book.meaning c.args.b.now) c.args.field c.args.first c.args.second c.entry_at.result c.entry_at-2.result c.is_same-same.result c.args.lines.now.items c.push_unless.new.lines.items c.entry_at.ensures
    c.entry_at-2.ensures c.is_same-same.ensures)
    c.push_unless.ensures
