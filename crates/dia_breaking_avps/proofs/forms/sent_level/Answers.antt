use Rattle.std.proofs.Common.{◌≡◌, List, sym, subst, ap, ◌∙◌}
use Rattle.std.proofs.lemmas.Option.{same_Some}
use Rattle.dia_data.specs.Plain.{plain_format}
use Rattle.dia_book.specs.declared.DRule.{DRule}
use Rattle.dia_book.specs.Dictionary.{PlainDefinition, plain_definition}
use Rattle.dia_breaking_avps.specs.Answers.{IsLevelAsLeaf}
use Rattle.dia_breaking_avps.proofs.Readings.{level_as_its_leaf, level_as_level}
use Rattle.dia_breaking_avps.proofs.forms.sent_level.Goals as goal

pub returns-in-Some : goal.returns-in-Some
returns-in-Some g c x e at_x at =
    level_as_level (g.B.Book.meaning c.args.b.now) c.args.group c.args.entry c.in-Some.other e (g.met.B.Book.sound c.args.b.now) at (sym c.in-Some.is ∙ c.group.ensures)

pub returns-in-None : goal.returns-in-None
returns-in-None g c x e at_x at =
    let da = g.A.Book.meaning c.args.a.now in
    let read : c.deref.result.now ≡ x.rules = c.deref.ensures.value ∙ ap (λ (y : PlainDefinition). y.rules) (same_Some (plain_definition c.def.result.now) x (sym c.def.ensures ∙ at_x)) in
    level_as_its_leaf da (g.B.Book.meaning c.args.b.now) c.args.sends c.args.group c.args.entry x.rules e (plain_format c.format.result.now) c.level_as_leaf.result at (sym c.in-None.is ∙ c.group.ensures) c.format.ensures
    (subst (λ (rs : List DRule). IsLevelAsLeaf da c.args.sends rs (plain_format c.format.result.now) c.level_as_leaf.result) read c.level_as_leaf.ensures)
