use Rattle.std.proofs.Common.{◌<◌, ◌≤◌, length, sym, arith}
use Rattle.std.specs.Str.{bytes_eq}
use Rattle.dia_book.specs.Dictionary.{DictEntry}
use Rattle.dia_compared_json.proofs.Names.{named_found, none_named, none_named_at}
use Rattle.dia_compared_json.proofs.sides.entry_named.Goals as goal

pub returns-then-is_named : goal.returns-then-is_named
returns-then-is_named g c =
    let entries = (g.B.Book.meaning c.args.book.now).entries in
    let within : c.loop-index.index < length entries = omega (arith, c.loop-index-test.true, c.entries-index-end.ensures.count) in
    named_found (λ (e : DictEntry). e.name) entries c.args.name.now _ c.loop-index.index c.entry_at-entry.result c.is_named.result within c.entry_at-entry.ensures c.entry_name.ensures
    c.is_named.ensures c.if-is_named.true c.loop-index.invariant

pub loop-index-preserved : goal.loop-index-preserved
loop-index-preserved g c =
    let entries = (g.B.Book.meaning c.args.book.now).entries in
    let within : c.loop-index.index < length entries = omega (arith, c.loop-index-test.true, c.entries-index-end.ensures.count) in
    none_named (λ (e : DictEntry). e.name) entries c.args.name.now _ c.loop-index.index c.entry_at-entry.result c.is_named.result within c.entry_at-entry.ensures c.entry_name.ensures
    c.is_named.ensures c.if-is_named.false c.loop-index.invariant

pub returns : goal.returns
returns g c =
    let entries = (g.B.Book.meaning c.args.book.now).entries in
    let all : length entries ≤ c.loop-index.index = omega (arith, c.loop-index-test.false, c.entries-index-end.ensures.count) in
    sym (none_named_at (λ (e : DictEntry). bytes_eq c.args.name.now e.name) entries c.loop-index.index all c.loop-index.invariant)
