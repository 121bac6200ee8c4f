use Rattle.std.proofs.Common.{sym, ◌∙◌}
use Rattle.std.proofs.lemmas.Result.{on_ok_weaker}
use Rattle.dia_data.specs.Plain.{plain_format}
use Rattle.dia_data.proofs.ShownValues.{number_of_all}
use Rattle.dia_show.proofs.KnownAvps.{date_noted, four_bytes}
use Rattle.dia_show.proofs.values.push_date.Goals as goal

pub returns-in_ok-push_str : goal.returns-in_ok-push_str
returns-in_ok-push_str c =
    let bytes = c.args.bytes.now in
    let format = plain_format c.args.format.now in
    let has = sym c.has_date.ensures ∙ c.if-has_date.true in
    let is_number = c.read_u32.ensures ∙ number_of_all 4 bytes (four_bytes c.args.names format bytes has) in
    on_ok_weaker c.push_time.result (date_noted c.args.names format bytes _ _ _ c.read_u32.result has c.in_ok-push_str.ensures.bytes is_number) c.push_time.ensures
