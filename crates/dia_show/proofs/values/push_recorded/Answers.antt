use Rattle.std.specs.Prelude.{string_bytes}
use Rattle.std.proofs.lemmas.Result.{on_ok_weaker}
use Rattle.dia_show.specs.Manners.{plain_manner_of}
use Rattle.dia_show.proofs.KnownAvps.{recorded_added}
use Rattle.dia_show.proofs.values.push_recorded.Goals as goal

pub returns : goal.returns
returns c =
    on_ok_weaker c.push_date.result
    (recorded_added (plain_manner_of c.args.manner.now) c.args.name.now _ _ (string_bytes c.in_ok-value.value) _ _ _ _ c.in_ok-value.ensures (rw c.as_str.ensures.value at c.in_ok-push_str.ensures.bytes)
    (rw c.as_str-2.ensures.value at c.in_ok-push_word.ensures)) c.push_date.ensures
