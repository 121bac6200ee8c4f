use Rattle.std.proofs.Common.{◌≡◌, true, false, sym, ◌∙◌}
use Rattle.dia_breaking.specs.declared.line.Standing.TheVariants.{Unchecked}
use Rattle.dia_breaking.specs.Upgrades.{sides_of, stock_of}
use Rattle.dia_breaking.proofs.Standings.{where_broken, where_no_message, where_unbroken, where_unchecked}
use Rattle.dia_breaking.proofs.upgrade.Upgrade.standing.Goals as goal

pub returns-then-has_no_message-clause-exactly : goal.returns-then-has_no_message-clause-exactly
returns-then-has_no_message-clause-exactly g c =
    where_no_message (sides_of c.args.self.now) (stock_of c.args.self.now) c.args.breaks.now.command c.args.breaks.now.sites.items c.args.left c.args.line.now
    (sym c.has_no_message.ensures ∙ c.if-has_no_message.true)

pub returns-then-not-is_checked-clause-exactly : goal.returns-then-not-is_checked-clause-exactly
returns-then-not-is_checked-clause-exactly g c =
    where_unchecked (sides_of c.args.self.now) (stock_of c.args.self.now) c.args.breaks.now.command c.args.breaks.now.sites.items c.args.left c.args.line.now Unchecked (λ e. absurd cc)
    (sym c.is_checked.ensures ∙ c.if-not-is_checked.true)

pub returns-then-branch-clause-confirmed : goal.returns-then-branch-clause-confirmed
returns-then-branch-clause-confirmed g c = λ is. let (bytes, recorded) = c.in_ok-is_broken.ensures.0 c.if-branch.true in (bytes, recorded.confirmed)

pub returns-then-branch-clause-corrected : goal.returns-then-branch-clause-corrected
returns-then-branch-clause-corrected g c = λ is. let (bytes, recorded) = c.in_ok-is_broken.ensures.0 c.if-branch.true in (bytes, recorded.confirmed, recorded.following)

pub returns-then-branch-clause-exactly : goal.returns-then-branch-clause-exactly
returns-then-branch-clause-exactly g c =
    where_broken (sides_of c.args.self.now) (stock_of c.args.self.now) c.args.breaks.now.command c.args.breaks.now.sites.items c.args.left c.args.line.now
    (sym c.is_checked.ensures ∙ c.if-not-is_checked.false) (c.in_ok-is_broken.ensures.0 c.if-branch.true)

pub returns-else-branch-clause-exactly : goal.returns-else-branch-clause-exactly
returns-else-branch-clause-exactly g c =
    where_unbroken (sides_of c.args.self.now) (stock_of c.args.self.now) c.args.breaks.now.command c.args.breaks.now.sites.items c.args.left c.args.line.now
    (λ broken. absurd (let e : false ≡ true = sym c.if-branch.false ∙ c.in_ok-is_broken.ensures.1 broken in cc))
