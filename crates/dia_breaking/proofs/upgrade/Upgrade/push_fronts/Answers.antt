use Rattle.std.proofs.Common.{◌≤◌, length, reverse, arith}
use Rattle.dia_breaking.specs.Upgrades.{sides_of, stock_of}
use Rattle.dia_breaking.proofs.Fronts.{front_all, front_more, rest_all, rest_more}
use Rattle.dia_breaking.proofs.upgrade.Upgrade.push_fronts.Goals as goal

pub loop-site-preserved : goal.loop-site-preserved
loop-site-preserved g c =
    let s = sides_of c.args.self.now in
    let k = stock_of c.args.self.now in
    let path = c.args.path.now in
    let i = c.loop-site.site-index in
    let inv = c.loop-site.invariant in
    record {
      fronts = front_more s k c.args.command path c.args.size c.loop-site.outer c.loop-site.out.items _ _ i _ c.loop-site-test.true c.in_ok-push_front.ensures.front inv.fronts;
      rests = rest_more s k c.args.command path c.loop-site.outer (reverse c.loop-site.following.items) _ _ i _ c.loop-site-test.true c.in_ok-push_front.ensures.rest inv.rests;
    }

pub returns : goal.returns
returns g c =
    let s = sides_of c.args.self.now in
    let k = stock_of c.args.self.now in
    let path = c.args.path.now in
    let i = c.loop-site.site-index in
    let inv = c.loop-site.invariant in
    let past : length path ≤ i = omega (arith, c.loop-site-test.false) in
    record {
      fronts = front_all s k c.args.command path c.args.size c.loop-site.outer c.loop-site.out.items _ i past inv.fronts;
      rests = rest_all s k c.args.command path c.loop-site.outer (reverse c.loop-site.following.items) _ i past inv.rests;
    }
