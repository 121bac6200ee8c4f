use Rattle.std.proofs.Common.{ℕ, List, sym, subst, ◌∙◌}
use Rattle.dia_breaking.specs.Messages.{IsLineMessage}
use Rattle.dia_breaking.specs.RecordedMessages.{BreaksAsRecorded}
use Rattle.dia_breaking.specs.Upgrades.{sides_of, stock_of}
use Rattle.dia_breaking.proofs.Lists.{when_ok}
use Rattle.dia_breaking.proofs.OneMessage.{one_message}
use Rattle.dia_breaking.proofs.upgrade.Upgrade.is_broken.Goals as goal

pub breaks_as_recorded-requires : goal.breaks_as_recorded-requires
breaks_as_recorded-requires g c =
    let up = c.args.self.now in
    subst (λ (xs : List ℕ). IsLineMessage (sides_of up) (stock_of up) c.args.breaks.now.command c.args.breaks.now.sites.items c.args.line.now xs) (sym c.deref.ensures.value) c.in_ok-message.ensures

pub returns : goal.returns
returns g c =
    let up = c.args.self.now in
    let same = λ (other : List ℕ) (recorded : BreaksAsRecorded (sides_of up) (stock_of up) c.args.breaks.now.command c.args.breaks.now.sites.items c.args.line.now other).
    one_message (sides_of up) (stock_of up) c.args.breaks.now.command c.args.breaks.now.sites.items c.args.line.now other c.in_ok-message.message.items recorded.message c.in_ok-message.ensures
    ∙ sym c.deref.ensures.value in
    when_ok _ _ c.breaks_as_recorded.result (λ yes iff. (
      (λ is. (c.deref.result.now, iff.0 is)),
      (λ found. let (other, recorded) = found in iff.1
          (subst (λ (xs : List ℕ). BreaksAsRecorded (sides_of up) (stock_of up) c.args.breaks.now.command c.args.breaks.now.sites.items c.args.line.now xs) (same other recorded) recorded)),
    )) c.breaks_as_recorded.ensures
