use Rattle.dia_breaking.specs.Upgrades.{sides_of, stock_of}
use Rattle.dia_breaking.proofs.Nested.{alone_none, alone_some}
use Rattle.dia_breaking.proofs.OnceCorrected.{no_some}
use Rattle.dia_breaking.proofs.upgrade.Upgrade.level_alone.Goals as goal

pub returns-in_default : goal.returns-in_default
returns-in_default g c =
    let up = c.args.self.now in
    alone_none (sides_of up) (stock_of up) c.args.command c.args.cause.now c.args.place c.sent_definition.result c.new.result.items c.sent_definition.ensures.number
    (no_some c.sent_definition.result c.in_default.not-Some) c.new.ensures.items

pub returns : goal.returns
returns g c =
    let up = c.args.self.now in
    alone_some (sides_of up) (stock_of up) c.args.command c.args.cause.now c.args.place c.sent_definition.result c.in-Some.def c.in_ok-parts.parts.items c.new-out.result.items
    c.push_parts.new.out.items c.as_slice.result.now c.sent_definition.ensures.number c.in-Some.is c.in_ok-parts.ensures c.new-out.ensures.items c.as_slice.ensures.value c.in_ok-push_parts.ensures
