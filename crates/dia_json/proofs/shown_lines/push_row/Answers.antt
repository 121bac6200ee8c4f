use Rattle.std.proofs.lemmas.Result.{on_ok_weaker}
use Rattle.dia_json.proofs.ShownLines.{row_recorded}
use Rattle.dia_json.proofs.shown_lines.push_row.Goals as goal

pub returns : goal.returns
returns c = on_ok_weaker c.writeln.result (λ e. row_recorded c.args.number c.args.row.now _ _ _ c.members_of-members.ensures e) c.writeln.ensures.bytes
