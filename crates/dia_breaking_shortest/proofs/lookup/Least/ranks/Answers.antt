use Rattle.std.proofs.Common.{◌≡◌, ◌<◌, ℕ, List, [], ◌∷◌, ◌++◌, length, ap, ◌∙◌, arith}
use Rattle.std.specs.Prelude.{slice_get}
use Rattle.dia_wire.specs.declared.Key.{Key}
use Rattle.dia_book.specs.Dictionary.{DictEntry}
use Rattle.dia_valid.proofs.Members.{there_is, at_some}
use Rattle.dia_breaking_shortest.specs.declared.order.Ranked.{Ranked}
use Rattle.dia_breaking_shortest.specs.Lengths.{length_of}
use Rattle.dia_breaking_shortest.proofs.LeafLengths.{one_rank_more}
use Rattle.dia_breaking_shortest.proofs.lookup.Least.ranks.Goals as goal

pub loop-index-preserved : goal.loop-index-preserved
loop-index-preserved g c =
    let d = g.B.Book.meaning c.args.book.now in
    let f : Key → ℕ = length_of d c.args.self.now.sends c.args.self.now.lengths.items in
    let i = c.loop-index.index in
    let within : i < length d.entries = omega (arith, c.loop-index-test.true, c.entries-index-end.ensures.count) in
    let x = there_is d.entries i within in
    let key = at_some (λ (e : DictEntry). c.entry_key-key.result ≡ e.key) (slice_get d.entries c.entry_at.result) x.0 c.entry_key-key.ensures (ap (slice_get d.entries) c.entry_at.ensures ∙ x.1) in
    let own : Ranked = record { key = c.entry_key-key.result; length = c.key.result } in
    c.in_ok-push.ensures.items ∙ ap (λ (xs : List Ranked). xs ++ own ∷ []) c.loop-index.invariant ∙ one_rank_more f d.entries i x.0 c.entry_key-key.result c.key.result x.1 key c.key.ensures
