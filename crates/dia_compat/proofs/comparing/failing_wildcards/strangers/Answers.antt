use Rattle.std.proofs.Common.{List, ap, ◌∙◌, ◌<◌, length, arith}
use Rattle.std.specs.List.{filter_map}
use Rattle.std.proofs.lemmas.List.{take_all}
use Rattle.dia_book.specs.Dictionary.{DictEntry}
use Rattle.dia_compat.specs.Failings.{unless}
use Rattle.dia_compat.specs.declared.reasons.Failing.TheVariants.{Stranger}
use Rattle.dia_compat.specs.PairTests.{stranger_fits}
use Rattle.dia_compat.proofs.ListsOfFailings.{stranger_more}
use Rattle.dia_compat.proofs.comparing.failing_wildcards.strangers.Goals as goal

pub loop-index-preserved : goal.loop-index-preserved
loop-index-preserved g c =
    let entries = (g.B.Book.meaning c.args.b.now).entries in
    let i = c.loop-index.index in
    let within : i < length entries = omega (arith, c.loop-index-test.true, c.entries-index-end.ensures.count) in
    stranger_more (stranger_fits (g.A.Book.meaning c.args.a.now)) (Stranger c.args.place) entries i c.entry_at-entry.result c.stranger_fits-fits.result c.entry_key-key.result
    c.loop-index.all.items c.push_unless.new.all.items within c.entry_at-entry.ensures c.stranger_fits-fits.ensures c.entry_key-key.ensures c.loop-index.invariant c.in_ok-push_unless.ensures

pub returns : goal.returns
returns g c =
    let entries = (g.B.Book.meaning c.args.b.now).entries in
    c.loop-index.invariant
    ∙ ap (λ (es : List DictEntry). filter_map (λ (e : DictEntry). unless (stranger_fits (g.A.Book.meaning c.args.a.now) e) (Stranger c.args.place e.key)) es)
    (take_all c.loop-index.index entries (omega (arith, c.loop-index-test.false, c.entries-index-end.ensures.count)))
