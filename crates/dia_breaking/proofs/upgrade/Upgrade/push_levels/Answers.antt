use Rattle.std.proofs.Common.{◌∙◌}
use Rattle.dia_breaking.specs.Upgrades.{sides_of, stock_of}
use Rattle.dia_breaking.proofs.Nested.{path_written}
use Rattle.dia_breaking.proofs.upgrade.Upgrade.push_levels.Goals as goal

pub returns : goal.returns
returns g c =
    let up = c.args.self.now in
    path_written (sides_of up) (stock_of up) c.args.command c.args.size c.args.path.now c.args.inner.now c.args.out.now.items c.push_fronts.new.out.items c.extend_from_slice.new.self.items
    c.push_parts.new.out.items c.push_fronts.new.following.items c.as_slice.result.now c.new-following.result.items c.new-following.ensures.items c.in_ok-push_fronts.ensures.fronts
    c.in_ok-push_fronts.ensures.rests c.in_ok-extend_from_slice.ensures.items (c.as_slice.ensures.value ∙ c.reverse.ensures.items) c.in_ok-push_parts.ensures
