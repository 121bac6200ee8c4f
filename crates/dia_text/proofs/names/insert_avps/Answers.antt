use Rattle.std.proofs.Common.{◌<◌, length, map, ap, sym, ◌∙◌, arith, Some, ℕ, List}
use Rattle.dia_book.specs.Dictionary.{DictEntry}
use Rattle.dia_text.proofs.SetsOfNames.{one_more, distinct_names, read_at}
use Rattle.dia_text.proofs.names.insert_avps.Goals as goal

pub loop-index-preserved : goal.loop-index-preserved
loop-index-preserved g c =
    let entries = (g.B.Book.meaning c.args.book.now).entries in
    let name = λ (e : DictEntry). e.name in
    let i = c.loop-index.index in
    let within : i < length entries = omega (arith, c.loop-index-test.true, c.entries-index-end.ensures.count) in
    one_more (map name entries) c.loop-index.names.keys c.insert.new.self.keys i c.as_bytes.result
    (distinct_names name entries (g.met.B.Book.sound c.args.book.now).distinct_names)
    (read_at name entries i c.entry_at.result c.entry_name.result.now within c.entry_at.ensures c.entry_name.ensures ∙ ap (λ (y : List ℕ). Some y) (sym c.as_bytes.ensures.value))
    c.loop-index.invariant c.in_ok-insert.ensures.keys
