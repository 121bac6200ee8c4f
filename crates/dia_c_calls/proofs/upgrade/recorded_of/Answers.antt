use Rattle.dia_upgrades.specs.InWords.{in_words}
use Rattle.dia_upgrades.specs.Outcome.{IsListed}
use Rattle.dia_c_calls.proofs.WhatBreaks.{all_written}
use Rattle.dia_c_calls.proofs.upgrade.recorded_of.Goals as goal

pub returns-in-Ok : goal.returns-in-Ok
returns-in-Ok g c =
    let (text, listed, written) = c.in-Ok.ensures.text in
    all_written (λ t. IsListed in_words c.args.asked c.args.list.now (g.A.Book.meaning c.args.a.now) (g.B.Book.meaning c.args.b.now) t c.in-Ok.field-0.exit c.in-Ok.field-0.found)
    c.new-sink.result.bytes.items c.breaking_of.new.sink.bytes.items text c.new-sink.ensures.written written listed
