use Rattle.std.proofs.Common.{List, Option, sym, ap, subst, ◌∙◌}
use Rattle.std.specs.Prelude.{slice_get}
use Rattle.dia_breaking.specs.declared.line.Site.{Site}
use Rattle.dia_breaking.specs.Messages.{IsInnermost}
use Rattle.dia_breaking.specs.Upgrades.{sides_of, stock_of}
use Rattle.dia_breaking.proofs.Lists.{when_ok}
use Rattle.dia_breaking.proofs.upgrade.Upgrade.innermost.Goals as goal

pub returns-in-Some : goal.returns-in-Some
returns-in-Some g c =
    let up = c.args.self.now in
    let at = ap (λ (xs : List Site). slice_get xs c.args.line.now.site) (sym c.deref.ensures.value) ∙ sym c.site_at.ensures ∙ c.in-Some.is in
    when_ok _ _ c.showing_level.result
    (λ bytes shows. subst (λ (site : Option Site). IsInnermost (sides_of up) (stock_of up) c.args.breaks.now.command c.args.line.now.cause site bytes.items) (sym at) shows) c.showing_level.ensures

pub returns-in-None : goal.returns-in-None
returns-in-None g c =
    let up = c.args.self.now in
    let at = ap (λ (xs : List Site). slice_get xs c.args.line.now.site) (sym c.deref.ensures.value) ∙ sym c.site_at.ensures ∙ c.in-None.is in
    subst (λ (site : Option Site). IsInnermost (sides_of up) (stock_of up) c.args.breaks.now.command c.args.line.now.cause site c.new.result.items) (sym at) c.new.ensures.items
