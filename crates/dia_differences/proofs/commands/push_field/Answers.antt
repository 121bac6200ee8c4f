use Rattle.std.proofs.lemmas.Result.{on_ok_weaker}
use Rattle.dia_book.specs.Dictionary.{plain_definition}
use Rattle.dia_differences.proofs.Fields.{head_line}
use Rattle.dia_differences.proofs.commands.push_field.Goals as goal

pub returns : goal.returns
returns g c =
    on_ok_weaker c.push_unless.result
    (head_line (g.A.Book.meaning c.args.a.now) (g.B.Book.meaning c.args.b.now) c.args.field c.args.first c.args.second c.command_at.result c.command_at-2.result (plain_definition c.def-own.result.now) (plain_definition c.def-other.result.now) c.is_same.result
    c.args.lines.now.items c.push_unless.new.lines.items c.command_at.ensures c.def-own.ensures c.command_at-2.ensures c.def-other.ensures c.is_same.ensures)
    c.push_unless.ensures
