use Rattle.std.proofs.Common.{◌∙◌, ◌<◌, length, map, arith}
use Rattle.std.proofs.lemmas.List.{take_all, length-map}
use Rattle.dia_book.specs.Dictionary.{DictEntry}
use Rattle.dia_compat.proofs.SetsOfNames.{one_more, distinct_names, read_at}
use Rattle.dia_compat.proofs.comparing.named_book.names_of_avps.Goals as goal

pub loop-index-preserved : goal.loop-index-preserved
loop-index-preserved g c =
    let entries = (g.B.Book.meaning c.args.book.now).entries in
    let name = λ (e : DictEntry). e.name in
    let i = c.loop-index.index in
    let within : i < length entries = omega (arith, c.loop-index-test.true, c.entries-index-end.ensures.count) in
    one_more (map name entries) c.loop-index.names.value.keys c.insert.new.self.keys i c.entry_name.result
    (distinct_names name entries (g.met.B.Book.sound c.args.book.now).distinct_names)
    (read_at name entries i c.entry_at.result c.entry_name.result.now within c.entry_at.ensures c.entry_name.ensures)
    c.loop-index.invariant (rw c.deref_mut.ensures.value at c.in_ok-insert.ensures.keys)

pub returns : goal.returns
returns g c =
    let entries = (g.B.Book.meaning c.args.book.now).entries in
    let name = λ (e : DictEntry). e.name in
    c.loop-index.invariant
    ∙ take_all c.loop-index.index (map name entries) (omega (arith, length-map entries name, c.loop-index-test.false, c.entries-index-end.ensures.count))
