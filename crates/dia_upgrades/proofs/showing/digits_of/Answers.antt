use Rattle.std.proofs.Common.{Some, Bool, ap, subst, sym, ◌∙◌}
use Rattle.dia_breaking.specs.Upgrades.{sides_of, stock_of}
use Rattle.dia_breaking.proofs.MessageBytes.{message_bytes}
use Rattle.dia_upgrades.specs.Recorded.{IsAfter, message_line}
use Rattle.dia_upgrades.specs.UnderWay.{IsMessageIn, digits_text}
use Rattle.dia_upgrades.proofs.showing.digits_of.Goals as goal

pub returns-in_ok-digits : goal.returns-in_ok-digits
returns-in_ok-digits g c =
    let up = c.args.upgrade.now in
    let is = IsMessageIn up c.args.breaks.now c.args.line.now in
    let small = message_bytes (sides_of up) (stock_of up) c.args.breaks.now.command c.args.breaks.now.sites.items c.args.line.now c.in_ok-message.message.items c.in_ok-message.ensures in
    let has = sym c.if-has_message.true ∙ c.has_message.ensures in
    let text = c.in_ok-digits.ensures ∙ ap message_line c.deref.ensures.value in
    subst (λ (b : Bool). IsAfter is b (digits_text (Some c.in_ok-digits.digits))) has (c.in_ok-message.message.items, small, c.in_ok-message.ensures, text)
