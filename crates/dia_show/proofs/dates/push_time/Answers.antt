use Rattle.std.proofs.Common.{ap, ◌∙◌}
use Rattle.std.specs.Prelude.{string_bytes}
use Rattle.dia_show.specs.Dates.{seconds_of}
use Rattle.dia_show.proofs.DateTexts.{time_added}
use Rattle.dia_show.proofs.dates.push_time.Goals as goal

pub returns : goal.returns
returns c =
    let date = c.date_of-date.result in
    time_added c.args.number c.seconds_of-seconds.result date.year date.month date.day (string_bytes c.args.text.now) _ _ c.push_clock.result
    (c.seconds_of-seconds.ensures.seconds ∙ ap seconds_of c.from.ensures) c.date_of-date.ensures c.in_ok-push_date.ensures c.push_clock.ensures
