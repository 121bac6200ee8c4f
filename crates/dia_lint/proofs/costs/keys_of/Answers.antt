use Rattle.std.proofs.Common.{◌≡◌, ◌<◌, List, [], ◌∷◌, ◌++◌, length, map, ap, ◌∙◌, arith}
use Rattle.std.specs.Prelude.{slice_get}
use Rattle.std.proofs.lemmas.List.{take_all}
use Rattle.dia_wire.specs.declared.Key.{Key}
use Rattle.dia_book.specs.Dictionary.{DictEntry}
use Rattle.dia_valid.proofs.Members.{there_is, at_some}
use Rattle.dia_lint.proofs.Fillers.{one_key_more}
use Rattle.dia_lint.proofs.costs.keys_of.Goals as goal

pub returns : goal.returns
returns g c =
    let entries = (g.B.Book.meaning c.args.book.now).entries in
    c.loop-index.invariant ∙ ap (map (λ (e : DictEntry). e.key)) (take_all c.loop-index.index entries (omega (arith, c.loop-index-test.false, c.entries-index-end.ensures.count)))

pub loop-index-preserved : goal.loop-index-preserved
loop-index-preserved g c =
    let d = g.B.Book.meaning c.args.book.now in
    let i = c.loop-index.index in
    let within : i < length d.entries = omega (arith, c.loop-index-test.true, c.entries-index-end.ensures.count) in
    let x = there_is d.entries i within in
    let key = at_some (λ (e : DictEntry). c.entry_key.result ≡ e.key) (slice_get d.entries c.entry_at.result) x.0 c.entry_key.ensures (ap (slice_get d.entries) c.entry_at.ensures ∙ x.1) in
    c.in_ok-push.ensures.items ∙ ap (λ (xs : List Key). xs ++ c.entry_key.result ∷ []) c.loop-index.invariant ∙ one_key_more d.entries i x.0 c.entry_key.result x.1 key
