use Rattle.std.proofs.Common.{◌/◌, ◌%◌, codes}
use Rattle.std.specs.Prelude.{string_bytes}
use Rattle.std.proofs.lemmas.Result.{on_ok_weaker}
use Rattle.dia_show.specs.Dates.{two_digits}
use Rattle.dia_show.proofs.DateTexts.{clock_joined, last_pushed}
use Rattle.dia_show.proofs.dates.push_clock.Goals as goal

pub returns : goal.returns
returns c =
    let n = c.args.seconds in
    on_ok_weaker c.push_str.result
    (clock_joined (string_bytes c.args.text.now) _ _ _ _ (codes "T") (two_digits (n / 3600)) (codes ":") (two_digits (n / 60 % 60)) (two_digits (n % 60)) (codes "Z")
    c.in_ok-push_part.ensures c.in_ok-push_part-2.ensures c.in_ok-push_part-3.ensures)
    (last_pushed _ _ _ _ c.push_str.ensures.bytes)
