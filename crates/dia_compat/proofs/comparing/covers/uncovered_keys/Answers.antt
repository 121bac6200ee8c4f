use Rattle.std.proofs.Common.{filter, ◌<◌, List, [], ◌∷◌, ◌++◌, length, map, sym, ap, ◌∙◌, arith}
use Rattle.std.proofs.lemmas.List.{take_all, length-map}
use Rattle.std.specs.Prelude.{not, ◌||◌}
use Rattle.dia_book.specs.Dictionary.{Dictionary, DictEntry}
use Rattle.dia_wire.specs.declared.Key.{Key}
use Rattle.dia_compat.specs.Tests.{holds_key}
use Rattle.dia_compat.specs.PairTests.{is_alone}
use Rattle.dia_compat.proofs.SetsOfNames.{read_at}
use Rattle.dia_compat.proofs.FilteredMembers.{kept, left_out}
use Rattle.dia_compat.proofs.comparing.covers.uncovered_keys.Goals as goal
use Rattle.dia_compat.proofs.comparing.covers.uncovered_keys.Goals.{then-not-is_covered+in_ok-push, else-not-is_covered}

pub loop-index-preserved : goal.loop-index-preserved
loop-index-preserved g c =
    let entries = (g.A.Book.meaning c.first-a.result.now).entries in
    let keys = map (λ (e : DictEntry). e.key) entries in
    let test = λ (key : Key). not (holds_key c.args.paired.now.keys key || is_alone c.args.sides.now key) in
    let i = c.loop-index.index in
    let key = c.entry_key-key.result in
    let within : i < length entries = omega (arith, c.loop-index-test.true, c.entries-index-end.ensures.count) in
    let at = read_at (λ (e : DictEntry). e.key) entries i c.entry_at.result key within c.entry_at.ensures c.entry_key-key.ensures in
    elim c.if-not-is_covered.branch [
      | then-not-is_covered+in_ok-push w ↦
          ap (λ v. v.items) w.keys-is ∙ w.in_ok-push.ensures.items ∙ ap (λ (xs : List Key). xs ++ key ∷ []) c.loop-index.invariant
          ∙ sym (kept test keys i key at (ap not (sym c.is_covered.ensures ∙ w.if-not-is_covered.true)))
      | else-not-is_covered w ↦
          ap (λ v. v.items) w.keys-is ∙ c.loop-index.invariant ∙ sym (left_out test keys i key at (ap not (sym c.is_covered.ensures ∙ w.if-not-is_covered.false)))
    ]

pub returns : goal.returns
returns g c =
    let entries = (g.A.Book.meaning c.first-a.result.now).entries in
    let key_of = λ (e : DictEntry). e.key in
    let test = λ (key : Key). not (holds_key c.args.paired.now.keys key || is_alone c.args.sides.now key) in
    c.loop-index.invariant ∙ ap (λ (ks : List Key). filter test ks)
    (take_all c.loop-index.index (map key_of entries) (omega (arith, length-map entries key_of, c.loop-index-test.false, c.entries-index-end.ensures.count)))
    ∙ ap (λ (x : Dictionary). filter test (map key_of x.entries)) c.first-a.ensures.meaning
