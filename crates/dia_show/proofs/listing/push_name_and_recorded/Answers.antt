use Rattle.std.proofs.lemmas.Result.{on_ok_weaker}
use Rattle.dia_data.specs.Plain.{plain_format}
use Rattle.dia_show.specs.Manners.{plain_manner_of}
use Rattle.dia_show.proofs.DateTexts.{last_pushed}
use Rattle.dia_show.proofs.KnownAvps.{recorded_after}
use Rattle.dia_show.proofs.listing.push_name_and_recorded.Goals as goal

pub returns : goal.returns
unfolding lib.Utf8.encode
returns c =
    on_ok_weaker c.push-2.result
    (λ e. recorded_after (plain_manner_of c.args.manner.now) c.args.name.now (plain_format c.args.format.now) c.args.bytes.now _ _ _ _ _ c.in_ok-push_str.ensures.bytes c.in_ok-push.ensures.bytes
    c.in_ok-push_recorded.ensures e) (last_pushed _ _ _ _ c.push-2.ensures.bytes)
