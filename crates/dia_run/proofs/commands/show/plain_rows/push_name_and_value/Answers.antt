use Rattle.dia_data.specs.Plain.{plain_format}
use Rattle.dia_run.proofs.KnownAvps.{value_after}
use Rattle.dia_run.proofs.commands.show.plain_rows.push_name_and_value.Goals as goal

pub returns : goal.returns
unfolding lib.Utf8.encode
returns c =
    value_after c.args.name.now (plain_format c.args.format.now) c.args.bytes.now _ _ _ _ _ c.push-2.result c.in_ok-push_str.ensures.bytes c.in_ok-push.ensures.bytes c.in_ok-push_value.ensures
    c.push-2.ensures.bytes
