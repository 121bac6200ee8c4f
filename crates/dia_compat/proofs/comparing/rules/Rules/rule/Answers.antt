use Rattle.std.proofs.Common.{List, sym, ap, ◌∙◌}
use Rattle.std.specs.Prelude.{slice_get, option_and_then}
use Rattle.dia_book.specs.declared.DRule.{DRule}
use Rattle.dia_book.specs.declared.Slot.{Slot}
use Rattle.dia_valid.specs.Rules.{rules_in, rule_of}
use Rattle.dia_valid.proofs.RulesOfKeys.{place_in, rule_at}
use Rattle.dia_compat.proofs.comparing.rules.Rules.rule.Goals as goal

pub returns-in-Fixed : goal.returns-in-Fixed
returns-in-Fixed g c =
    let d = g.B.Book.meaning c.self.inside.book.now in
    let def = c.self.inside.def in
    c.rule_at.ensures ∙ ap (λ xs. slice_get xs c.in-Fixed.index) (c.list-rules.ensures ∙ sym c.self.view_is)
    ∙ ap (λ (s : Slot). option_and_then (slice_get (rules_in d def)) (place_in s)) (sym c.in-Fixed.is)
    ∙ rule_at d def c.args.key c.slot.result c.slot.ensures ∙ ap (λ (rules : List DRule). rule_of rules c.args.key) c.self.view_is

pub returns-in-Loose : goal.returns-in-Loose
returns-in-Loose g c =
    let d = g.B.Book.meaning c.self.inside.book.now in
    let def = c.self.inside.def in
    c.rule_at-in-Loose.ensures ∙ ap (λ xs. slice_get xs c.in-Loose.index) (c.list-rules.ensures ∙ sym c.self.view_is)
    ∙ ap (λ (s : Slot). option_and_then (slice_get (rules_in d def)) (place_in s)) (sym c.in-Loose.is)
    ∙ rule_at d def c.args.key c.slot.result c.slot.ensures ∙ ap (λ (rules : List DRule). rule_of rules c.args.key) c.self.view_is

pub returns-in-Unlisted : goal.returns-in-Unlisted
returns-in-Unlisted g c =
    let d = g.B.Book.meaning c.self.inside.book.now in
    let def = c.self.inside.def in
    ap (λ (s : Slot). option_and_then (slice_get (rules_in d def)) (place_in s)) (sym c.in-Unlisted.is)
    ∙ rule_at d def c.args.key c.slot.result c.slot.ensures ∙ ap (λ (rules : List DRule). rule_of rules c.args.key) c.self.view_is
