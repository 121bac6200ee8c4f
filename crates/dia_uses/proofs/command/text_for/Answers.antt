use Rattle.std.proofs.Common.{map, string_bytes, String}
use Rattle.std.specs.Global.{Global}
use Rattle.dia_uses.proofs.Answers.{bad_dictionary}
use Rattle.dia_uses.proofs.command.text_for.Goals as goal

pub returns-in-Err-Bad : goal.returns-in-Err-Bad
returns-in-Err-Bad c =
    bad_dictionary c.args.json (map (λ (avp : String Global). string_bytes avp) c.args.avps.now) c.args.inputs.now _ _ (rw c.in-Err-Bad.field-0-is at c.in-Err-Bad.ensures.recorded)
    c.refuse_as.ensures.text c.refuse_as.ensures.exit
