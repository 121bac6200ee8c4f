use Rattle.std.proofs.Common.{◌<◌, length, arith}
use Rattle.dia_compat.specs.PairTests.{stranger_fits}
use Rattle.dia_compat.proofs.FilteredMembers.{all_more, all_stops}
use Rattle.dia_compat.proofs.comparing.covers.all_strangers_fit.Goals as goal

pub returns-then-not-stranger_fits : goal.returns-then-not-stranger_fits
returns-then-not-stranger_fits g c =
    let entries = (g.B.Book.meaning c.args.b.now).entries in
    let within : c.loop-index.index < length entries = omega (arith, c.loop-index-test.true, c.entries-index-end.ensures.count) in
    all_stops (stranger_fits (g.A.Book.meaning c.args.a.now)) entries
    c.loop-index.index c.entry_at.result c.stranger_fits.result within c.entry_at.ensures c.stranger_fits.ensures c.if-not-stranger_fits.true

pub loop-index-preserved : goal.loop-index-preserved
loop-index-preserved g c =
    let entries = (g.B.Book.meaning c.args.b.now).entries in
    let within : c.loop-index.index < length entries = omega (arith, c.loop-index-test.true, c.entries-index-end.ensures.count) in
    all_more (stranger_fits (g.A.Book.meaning c.args.a.now)) entries
    c.loop-index.index c.entry_at.result c.stranger_fits.result within c.entry_at.ensures c.stranger_fits.ensures c.if-not-stranger_fits.false
    c.loop-index.invariant
