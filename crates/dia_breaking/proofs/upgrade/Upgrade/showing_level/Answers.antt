use Rattle.dia_breaking.specs.Upgrades.{sides_of, stock_of}
use Rattle.dia_breaking.proofs.Lists.{when_ok}
use Rattle.dia_breaking.proofs.Nested.{showing_none, showing_some}
use Rattle.dia_breaking.proofs.upgrade.Upgrade.showing_level.Goals as goal

pub returns-in-Some : goal.returns-in-Some
returns-in-Some g c =
    let up = c.args.self.now in
    when_ok _ _ c.level_round.result (λ bytes is. showing_some (sides_of up) (stock_of up) c.args.command c.args.cause.now c.args.place c.in_ok-found.found c.in-Some.shown bytes.items
    c.in_ok-found.ensures c.in-Some.is is) c.level_round.ensures

pub returns-in-None : goal.returns-in-None
returns-in-None g c =
    let up = c.args.self.now in
    when_ok _ _ c.level_alone.result (λ bytes is. showing_none (sides_of up) (stock_of up) c.args.command c.args.cause.now c.args.place c.in_ok-found.found bytes.items
    c.in_ok-found.ensures c.in-None.is is) c.level_alone.ensures
