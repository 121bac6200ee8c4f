use Rattle.std.proofs.Common.{map}
use Rattle.std.proofs.lemmas.Result.{IfOk-weaker}
use Rattle.dia_accepted.specs.Accepted.{plain_entry}
use Rattle.dia_accepted.proofs.Sets.{unused_by}
use Rattle.dia_accepted.proofs.accepting.Accepting.unused.Goals as goal

pub returns : goal.returns
returns c = IfOk-weaker c.unmarked.result _ _ (λ entries is list recorded seen. unused_by c.args.self.now list recorded (map plain_entry entries.items) is seen) c.unmarked.ensures
