use Rattle.std.proofs.Common.{map, string_bytes, String}
use Rattle.std.specs.Global.{Global}
use Rattle.dia_uses.proofs.Answers.{by_dictionary}
use Rattle.dia_uses.proofs.command.text_by.Goals as goal

pub returns : goal.returns
returns g c =
    by_dictionary c.args.json (map (λ (avp : String Global). string_bytes avp) c.args.avps.now) c.args.inputs.now (g.B.Book.meaning c.args.book.now) c.answer.result c.requires c.answer.ensures
