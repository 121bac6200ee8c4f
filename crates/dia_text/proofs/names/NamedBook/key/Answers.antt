use Rattle.std.proofs.Common.{length, ◌<◌, ap, sym, ◌∙◌, arith}
use Rattle.std.specs.Option.{option_map}
use Rattle.dia_book.specs.Dictionary.{Dictionary, DictEntry}
use Rattle.dia_book.proofs.LookUpsByName.{length_by_name}
use Rattle.dia_text.specs.Keys.{entry_named}
use Rattle.dia_text.proofs.SetsOfNames.{found_at, read_of}
use Rattle.dia_text.proofs.names.NamedBook.key.Goals as goal

pub entry_at-requires : goal.entry_at-requires
entry_at-requires g c =
    let named = c.self.inside in
    let long = length_by_name (λ (e : DictEntry). e.name) (g.B.Book.meaning named.book.now).entries named.names.value.avps.keys c.self.invariant.0 in
    omega (arith, (rw c.deref.ensures at c.in_ok-place.ensures.within), long)

pub entry_key-requires : goal.entry_key-requires
entry_key-requires g c =
    let named = c.self.inside in
    let long = length_by_name (λ (e : DictEntry). e.name) (g.B.Book.meaning named.book.now).entries named.names.value.avps.keys c.self.invariant.0 in
    omega (arith, (rw c.deref.ensures at c.in_ok-place.ensures.within), long, c.entry_at.ensures)

pub returns-in_err-place : goal.returns-in_err-place
returns-in_err-place g c =
    let named = c.self.inside in
    let found = found_at (λ (e : DictEntry). e.name) (g.B.Book.meaning named.book.now).entries named.names.value.avps.keys c.args.name.now _ c.self.invariant.0
    (rw c.deref.ensures at c.in_err-place.ensures.index) in
    c.from_residual.ensures ∙ sym (ap (option_map (λ (e : DictEntry). e.key)) found)
    ∙ ap (λ (d : Dictionary). option_map (λ (e : DictEntry). e.key) (entry_named d c.args.name.now)) c.self.view_is

pub returns : goal.returns
returns g c =
    let named = c.self.inside in
    let entries = (g.B.Book.meaning named.book.now).entries in
    let found = found_at (λ (e : DictEntry). e.name) entries named.names.value.avps.keys c.args.name.now _ c.self.invariant.0
    (rw c.deref.ensures at c.in_ok-place.ensures.index) in
    let long = length_by_name (λ (e : DictEntry). e.name) entries named.names.value.avps.keys c.self.invariant.0 in
    let within : c.in_ok-place.place < length entries = omega (arith, (rw c.deref.ensures at c.in_ok-place.ensures.within), long) in
    read_of (λ (e : DictEntry). e.key) entries c.in_ok-place.place c.entry_at.result c.entry_key.result within c.entry_at.ensures c.entry_key.ensures
    ∙ sym (ap (option_map (λ (e : DictEntry). e.key)) found)
    ∙ ap (λ (d : Dictionary). option_map (λ (e : DictEntry). e.key) (entry_named d c.args.name.now)) c.self.view_is
