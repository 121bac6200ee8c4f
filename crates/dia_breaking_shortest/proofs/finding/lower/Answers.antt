use Rattle.std.proofs.Common.{◌≡◌, ◌≤◌, ℕ, Option, Some, sym, ap, subst, ◌∙◌}
use Rattle.std.specs.Prelude.{slice_get, IfSome}
use Rattle.dia_book.specs.Dictionary.{group_place}
use Rattle.dia_valid.specs.Rules.{rules_in}
use Rattle.dia_breaking_shortest.specs.declared.order.Ranked.{Ranked}
use Rattle.dia_breaking_shortest.specs.Lengths.{filler_length, group_length}
use Rattle.dia_breaking_shortest.specs.Passes.{length_in, IsLess}
use Rattle.dia_breaking_shortest.proofs.AboveLengths.{no_leaf, takes_no_more}
use Rattle.dia_breaking_shortest.proofs.LessLengths.{lowered, group_heads, settled_by}
use Rattle.dia_breaking_shortest.proofs.finding.lower.Goals as goal

pub returns-in-Some-clause-less : goal.returns-in-Some-clause-less
returns-in-Some-clause-less g c =
    let d = g.B.Book.meaning c.args.book.now in
    let place : group_place d c.args.index ≡ Some c.in-Some.def = ap (group_place d) (sym c.entry_at-entry.ensures) ∙ sym c.group_of.ensures.place ∙ c.in-Some.is in
    let key_is : IfSome (slice_get d.entries c.args.index) (λ e. c.entry_key.result ≡ e.key) =
    subst (λ (i : ℕ). IfSome (slice_get d.entries i) (λ e. c.entry_key.result ≡ e.key)) c.entry_at-entry.ensures c.entry_key.ensures in
    let value = c.group-length.ensures ∙ ap (λ (o : Option Ranked). group_length (length_in d c.args.least.now) (filler_length o) c.entry_key.result (rules_in d c.in-Some.def))
    c.filler-filler.ensures in
    lowered d c.args.least.now c.improve.new.least c.args.index c.group-length.result c.improve.result c.requires.whole c.requires.within c.improve.ensures.sends c.improve.ensures.unknown
    c.improve.ensures.lengths
    (subst (λ (n : ℕ). 8 ≤ n) (sym c.group-length.ensures) (group_heads (length_in d c.args.least.now) (filler_length c.filler-filler.result) c.entry_key.result (rules_in d c.in-Some.def)))
    c.improve.ensures.test
    (λ entry at none. no_leaf d c.args.index c.in-Some.def entry place at none)
    (takes_no_more d c.args.least.now c.args.order.now c.args.index c.in-Some.def c.group-length.result c.entry_key.result c.requires.ranks place key_is value)

pub returns-in-Some-clause-settled : goal.returns-in-Some-clause-settled
returns-in-Some-clause-settled g c = λ none.
    let d = g.B.Book.meaning c.args.book.now in
    let less = returns-in-Some-clause-less g c in
    settled_by d c.args.least.now c.improve.new.least c.args.order.now c.args.index c.in-Some.def c.group-length.result c.entry_key.result
    (subst (IsLess d c.args.least.now c.improve.new.least) none less)
    (ap (group_place d) (sym c.entry_at-entry.ensures) ∙ sym c.group_of.ensures.place ∙ c.in-Some.is)
    (subst (λ (i : ℕ). IfSome (slice_get d.entries i) (λ e. c.entry_key.result ≡ e.key)) c.entry_at-entry.ensures c.entry_key.ensures)
    (c.group-length.ensures ∙ ap (λ (o : Option Ranked). group_length (length_in d c.args.least.now) (filler_length o) c.entry_key.result (rules_in d c.in-Some.def)) c.filler-filler.ensures)
    (sym none ∙ c.improve.ensures.test)
