use Rattle.std.proofs.Common.{◌≡◌, ℕ, true, false, List, sym, subst, ◌∙◌}
use Rattle.dia_breaking.specs.Confirmed.{IsConfirmed}
use Rattle.dia_breaking.specs.Messages.{IsLineMessage}
use Rattle.dia_breaking.specs.Corrected.{BreaksAfter}
use Rattle.dia_breaking.specs.RecordedMessages.{BreaksAsRecorded}
use Rattle.dia_breaking.specs.Upgrades.{sides_of, stock_of}
use Rattle.dia_breaking.proofs.OneMessage.{one_message}
use Rattle.dia_breaking.proofs.upgrade.Upgrade.confirmed_message.Goals as goal

pub breaks_as_recorded-requires : goal.breaks_as_recorded-requires
breaks_as_recorded-requires g c =
    let up = c.args.self.now in
    subst (λ (xs : List ℕ). IsLineMessage (sides_of up) (stock_of up) c.args.breaks.now.command c.args.breaks.now.sites.items c.args.line.now xs) (sym c.deref.ensures.value) c.in_ok-bytes.ensures

pub returns-then-branch-clause-recorded : goal.returns-then-branch-clause-recorded
returns-then-branch-clause-recorded g c =
    let up = c.args.self.now in
    subst (λ (xs : List ℕ). BreaksAsRecorded (sides_of up) (stock_of up) c.args.breaks.now.command c.args.breaks.now.sites.items c.args.line.now xs) c.deref.ensures.value
    (c.in_ok-breaks_as_recorded.ensures.0 c.if-branch.true)

pub returns-then-branch-clause-confirmed : goal.returns-then-branch-clause-confirmed
returns-then-branch-clause-confirmed g c =
    subst (λ (xs : List ℕ). IsConfirmed (sides_of c.args.self.now) xs c.args.breaks.now.command) c.deref.ensures.value (c.in_ok-breaks_as_recorded.ensures.0 c.if-branch.true).confirmed

pub returns-then-branch-clause-corrected : goal.returns-then-branch-clause-corrected
returns-then-branch-clause-corrected g c =
    subst (λ (xs : List ℕ). BreaksAfter (sides_of c.args.self.now) c.args.breaks.now.command c.args.breaks.now.sites.items c.args.line.now xs) c.deref.ensures.value
    (c.in_ok-breaks_as_recorded.ensures.0 c.if-branch.true).following

pub returns-else-branch-clause-none : goal.returns-else-branch-clause-none
returns-else-branch-clause-none g c = λ found.
    let up = c.args.self.now in
    let (other, its) = found in
    let same = one_message (sides_of up) (stock_of up) c.args.breaks.now.command c.args.breaks.now.sites.items c.args.line.now other c.in_ok-bytes.bytes.items its.message c.in_ok-bytes.ensures
    ∙ sym c.deref.ensures.value in
    absurd (let e : false ≡ true = sym c.if-branch.false ∙ c.in_ok-breaks_as_recorded.ensures.1
    (subst (λ (xs : List ℕ). BreaksAsRecorded (sides_of up) (stock_of up) c.args.breaks.now.command c.args.breaks.now.sites.items c.args.line.now xs) same its) in cc)
