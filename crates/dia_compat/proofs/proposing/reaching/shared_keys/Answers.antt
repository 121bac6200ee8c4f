use Rattle.std.proofs.Common.{filter, ◌<◌, List, [], ◌∷◌, ◌++◌, length, map, sym, ap, ◌∙◌, arith, Option, ℕ}
use Rattle.std.proofs.lemmas.List.{take_all, length-map}
use Rattle.std.specs.Prelude.{is_some}
use Rattle.dia_book.specs.Dictionary.{Dictionary, DictEntry, entry_of}
use Rattle.dia_wire.specs.declared.Key.{Key}
use Rattle.dia_compat.proofs.SetsOfNames.{read_at}
use Rattle.dia_compat.proofs.FilteredMembers.{kept, left_out}
use Rattle.dia_compat.proofs.proposing.reaching.shared_keys.Goals as goal
use Rattle.dia_compat.proofs.proposing.reaching.shared_keys.Goals.{then-is_some+in_ok-push, else-is_some}

pub loop-index-preserved : goal.loop-index-preserved
loop-index-preserved g c =
    let db = g.B.Book.meaning c.second-b.result.now in
    let entries = (g.A.Book.meaning c.first-a.result.now).entries in
    let keys = map (λ (e : DictEntry). e.key) entries in
    let test = λ (key : Key). is_some (entry_of db key) in
    let i = c.loop-index.index in
    let key = c.entry_key-key.result in
    let within : i < length entries = omega (arith, c.loop-index-test.true, c.entries-index-end.ensures.count) in
    let at = read_at (λ (e : DictEntry). e.key) entries i c.entry_at.result key within c.entry_at.ensures c.entry_key-key.ensures in
    let is = ap (λ (o : Option ℕ). is_some o) (sym c.avp.ensures) ∙ sym c.is_some.ensures in
    elim c.if-is_some.branch [
      | then-is_some+in_ok-push w ↦
          ap (λ v. v.items) w.keys-is ∙ w.in_ok-push.ensures.items ∙ ap (λ (xs : List Key). xs ++ key ∷ []) c.loop-index.invariant ∙ sym (kept test keys i key at (is ∙ w.if-is_some.true))
      | else-is_some w ↦ ap (λ v. v.items) w.keys-is ∙ c.loop-index.invariant ∙ sym (left_out test keys i key at (is ∙ w.if-is_some.false))
    ]

pub returns : goal.returns
returns g c =
    let db = g.B.Book.meaning c.second-b.result.now in
    let entries = (g.A.Book.meaning c.first-a.result.now).entries in
    let key_of = λ (e : DictEntry). e.key in
    let keys = map key_of entries in
    let sides = c.args.sides.now in
    c.loop-index.invariant ∙ ap (λ (ks : List Key). filter (λ (key : Key). is_some (entry_of db key)) ks)
    (take_all c.loop-index.index keys (omega (arith, length-map entries key_of, c.loop-index-test.false, c.entries-index-end.ensures.count)))
    ∙ ap (λ (x : Dictionary). filter (λ (key : Key). is_some (entry_of x key)) keys) c.second-b.ensures.meaning
    ∙ ap (λ (x : Dictionary). filter (λ (key : Key). is_some (entry_of sides.second key)) (map key_of x.entries)) c.first-a.ensures.meaning
