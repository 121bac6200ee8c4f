use Rattle.dia_diff.proofs.Answers.{by_dictionaries}
use Rattle.dia_diff.proofs.command.text_by.Goals as goal

pub returns : goal.returns
returns g c =
    by_dictionaries c.args.asked.sends c.args.asked.unknown c.args.asked.json c.args.inputs.now (g.A.Book.meaning c.args.a.now) (g.B.Book.meaning c.args.b.now) c.differences.result
    c.requires.first c.requires.second c.differences.ensures
