use Rattle.std.proofs.Common.{codes}
use Rattle.std.specs.Fmt.{decimal}
use Rattle.std.specs.Prelude.{string_bytes}
use Rattle.std.proofs.lemmas.Result.{on_ok_weaker}
use Rattle.dia_show.specs.Dates.{two_digits}
use Rattle.dia_show.proofs.DateTexts.{date_joined}
use Rattle.dia_show.proofs.dates.push_date.Goals as goal

pub returns : goal.returns
returns c =
    let date = c.args.date in
    on_ok_weaker c.push_part-2.result
    (date_joined (string_bytes c.args.text.now) _ _ _ (decimal date.year) (codes "-") (two_digits date.month) (two_digits date.day) c.in_ok-push_decimal.ensures c.in_ok-push_part.ensures)
    c.push_part-2.ensures
