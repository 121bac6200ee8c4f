use Rattle.std.proofs.Common.{map, ◌∙◌}
use Rattle.std.proofs.lemmas.Result.{IfOk-weaker}
use Rattle.dia_accepted.specs.Accepted.{plain_entry}
use Rattle.dia_accepted.proofs.Sets.{about_by}
use Rattle.dia_accepted.proofs.choosing.about.Goals as goal

pub returns : goal.returns
returns c = IfOk-weaker c.about_known.result _ _ (λ entries is. is ∙ about_by c.args.names.now c.is_empty.result c.in_ok-known.known.entries c.is_empty.ensures c.in_ok-known.ensures (map plain_entry c.args.list.now)) c.about_known.ensures
