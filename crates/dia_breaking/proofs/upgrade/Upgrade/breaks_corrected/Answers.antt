use Rattle.std.proofs.Common.{List, sym, ap, ◌∙◌}
use Rattle.std.specs.Prelude.{slice_get}
use Rattle.dia_breaking.specs.declared.line.Site.{Site}
use Rattle.dia_breaking.specs.Upgrades.{sides_of}
use Rattle.dia_breaking.proofs.Lists.{when_ok}
use Rattle.dia_breaking.proofs.OnceCorrected.{after_header, after_none, after_place, no_some}
use Rattle.dia_breaking.proofs.upgrade.Upgrade.breaks_corrected.Goals as goal

pub returns-then-is_of_header : goal.returns-then-is_of_header
returns-then-is_of_header g c =
    after_header (sides_of c.args.self.now) c.args.breaks.now.command c.args.breaks.now.sites.items c.args.line.now c.args.bytes.now (sym c.is_of_header.ensures ∙ c.if-is_of_header.true)

pub returns-in_default : goal.returns-in_default
returns-in_default g c =
    let at = ap (λ (xs : List Site). slice_get xs 0) (sym (c.deref.ensures.value ∙ c.in_ok-path.ensures)) ∙ sym c.first_of.ensures ∙ no_some c.first_of.result c.in_default.not-Some in
    after_none (sides_of c.args.self.now) c.args.breaks.now.command c.args.breaks.now.sites.items c.args.line.now c.args.bytes.now (sym c.is_of_header.ensures ∙ c.if-is_of_header.false) at

pub returns : goal.returns
returns g c =
    let at = ap (λ (xs : List Site). slice_get xs 0) (sym (c.deref.ensures.value ∙ c.in_ok-path.ensures)) ∙ sym c.first_of.ensures ∙ c.in-Some.is in
    when_ok _ _ c.breaks_at.result (λ b shown. after_place (sides_of c.args.self.now) c.args.breaks.now.command c.args.breaks.now.sites.items c.args.line.now c.args.bytes.now
    (sym c.is_of_header.ensures ∙ c.if-is_of_header.false) c.in-Some.site at b shown) c.breaks_at.ensures
