use Rattle.std.proofs.Common.{◌∙◌}
use Rattle.dia_upgrades.proofs.list.read_accepted.Goals as goal

pub returns-in-Err-clause-bad : goal.returns-in-Err-clause-bad
returns-in-Err-clause-bad c =
    (c.in-Some.bytes.now, c.in-Some.ensures.some, c.in-Err.ensures.cases.0, c.valid_up_to-at.ensures ∙ c.in-Err.ensures.valid_len)
