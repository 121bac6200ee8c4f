use Rattle.std.proofs.lemmas.Result.{on_ok_weaker}
use Rattle.dia_compat.specs.TableText.{plain_pair}
use Rattle.dia_json.proofs.Pairs.{pair_recorded}
use Rattle.dia_json.proofs.proposing.push_pair.Goals as goal

pub returns : goal.returns
returns c =
    on_ok_weaker c.write.result
    (λ e. pair_recorded c.args.kind.now (plain_pair c.args.pair.now) _ _ _ _ _ c.in_ok-kind.ensures (rw c.as_str.ensures.value at c.in_ok-first.ensures)
    (rw c.as_str-2.ensures.value at c.in_ok-second.ensures) e) c.write.ensures.bytes
