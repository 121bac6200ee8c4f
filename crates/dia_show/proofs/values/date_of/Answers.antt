use Rattle.std.proofs.Common.{sym, ◌∙◌}
use Rattle.dia_data.specs.Plain.{plain_format}
use Rattle.dia_data.proofs.ShownValues.{number_of_all}
use Rattle.dia_show.proofs.KnownAvps.{date_found, four_bytes}
use Rattle.dia_show.proofs.values.date_of.Goals as goal

pub returns-in_ok-push_time : goal.returns-in_ok-push_time
returns-in_ok-push_time c =
    let bytes = c.args.bytes.now in
    let format = plain_format c.args.format.now in
    let has = sym c.has_date.ensures ∙ c.if-has_date.true in
    let is_number = c.read_u32.ensures ∙ number_of_all 4 bytes (four_bytes c.args.names format bytes has) in
    date_found c.args.names format bytes _ _ c.read_u32.result has c.new-date.ensures.bytes is_number c.in_ok-push_time.ensures
