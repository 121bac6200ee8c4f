use Rattle.std.proofs.Common.{rules, ◌∙◌}
use Rattle.dia_show.specs.Words.{HasFault}
use Rattle.dia_show.proofs.reading.read_values.Goals as goal

pub returns-in_ok-bad_by-in-Err-read_words-clause-bad : goal.returns-in_ok-bad_by-in-Err-read_words-clause-bad
returns-in_ok-bad_by-in-Err-read_words-clause-bad c =
    let known = c.in_ok-bad_by-in-Err-read_words.ensures in
    let has : HasFault c.args.input.now c.in-Err-read_words.fault = (c.in-Ok.text.now, search rules, search rules, c.in-Err-read_words.ensures.fault known.0) in known.1 c.args.input.now has

pub returns-in-Err-clause-bad : goal.returns-in-Err-clause-bad
returns-in-Err-clause-bad c =
    (c.in-Some.bytes.now, c.in-Some.ensures.some, c.in-Err.ensures.cases.0, c.valid_up_to-at.ensures ∙ c.in-Err.ensures.valid_len)
