use Rattle.dia_breaking.specs.Upgrades.{sides_of, stock_of}
use Rattle.dia_breaking.proofs.Nested.{message_written}
use Rattle.dia_breaking.proofs.upgrade.Upgrade.message_for.Goals as goal

pub returns : goal.returns
returns g c =
    let up = c.args.self.now in
    message_written (sides_of up) (stock_of up) c.args.breaks.now.command c.args.breaks.now.sites.items c.args.line.now c.args.head.now c.in_ok-inner.inner.items c.as_slice-level.result.now
    c.new-out.result.items c.push_header.new.out.items c.push_levels.new.out.items c.in_ok-path.path.items c.as_slice-sites.result.now c.first_of.result c.in_ok-inner.ensures c.in_ok-path.ensures
    c.as_slice-sites.ensures.value c.as_slice-level.ensures.value c.first_of.ensures c.new-out.ensures.items c.in_ok-push_header.ensures c.in_ok-push_levels.ensures
