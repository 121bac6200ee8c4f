use Rattle.std.proofs.Common.{sym, ap, ◌∙◌}
use Rattle.std.specs.Prelude.{slice_get, option_and_then}
use Rattle.dia_book.specs.declared.Slot.{Slot}
use Rattle.dia_valid.specs.Rules.{rules_in}
use Rattle.dia_valid.proofs.RulesOfKeys.{place_in, rule_at}
use Rattle.dia_lint.proofs.books.rule_of.Goals as goal

pub returns-in-Fixed : goal.returns-in-Fixed
returns-in-Fixed g c =
    let d = g.B.Book.meaning c.args.book.now in
    let def = c.args.def in
    c.rule_at.ensures ∙ ap (λ xs. slice_get xs c.in-Fixed.index) c.rules_of-rules.ensures ∙ ap (λ (s : Slot). option_and_then (slice_get (rules_in d def)) (place_in s)) (sym c.in-Fixed.is)
    ∙ rule_at d def c.args.key c.slot.result c.slot.ensures

pub returns-in-Loose : goal.returns-in-Loose
returns-in-Loose g c =
    let d = g.B.Book.meaning c.args.book.now in
    let def = c.args.def in
    c.rule_at-in-Loose.ensures ∙ ap (λ xs. slice_get xs c.in-Loose.index) c.rules_of-rules.ensures ∙ ap (λ (s : Slot). option_and_then (slice_get (rules_in d def)) (place_in s)) (sym c.in-Loose.is)
    ∙ rule_at d def c.args.key c.slot.result c.slot.ensures

pub returns-in-Unlisted : goal.returns-in-Unlisted
returns-in-Unlisted g c =
    let d = g.B.Book.meaning c.args.book.now in
    let def = c.args.def in
    ap (λ (s : Slot). option_and_then (slice_get (rules_in d def)) (place_in s)) (sym c.in-Unlisted.is) ∙ rule_at d def c.args.key c.slot.result c.slot.ensures
