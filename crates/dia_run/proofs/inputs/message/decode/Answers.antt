use Rattle.std.proofs.Common.{sym, ap, ◌∙◌}
use Rattle.hex.specs.Hex.{decode_of}
use Rattle.dia_run.proofs.HexTexts.{decoded}
use Rattle.dia_run.proofs.inputs.message.decode.Goals as goal

pub returns-in-Ok-clause-ok : goal.returns-in-Ok-clause-ok
returns-in-Ok-clause-ok c = sym (ap decode_of c.without_white_end.ensures) ∙ decoded c.without_white_end.result.now _ c.in-Ok.ensures.ok
