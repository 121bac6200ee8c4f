use Rattle.std.proofs.Common.{refl}
use Rattle.std.specs.Prelude.{find}
use Rattle.std.proofs.lemmas.Result.{IfOk-weaker}
use Rattle.dia_valid.specs.Rules.{rules_in}
use Rattle.dia_breaking_levels.specs.LevelTests.{price, is_outside, lines_of}
use Rattle.dia_breaking_levels.proofs.CountsAndRanks.{rules_sound}
use Rattle.dia_breaking_levels.proofs.EachLine.{each_line, with_orders}
use Rattle.dia_breaking_levels.proofs.FloorFacts.{is_floor, floor_is, lines_exact, counts_kept}
use Rattle.dia_breaking_levels.proofs.OfferedKeys.{orders_shown}
use Rattle.dia_breaking_levels.proofs.OrderLines.{late_shown}
use Rattle.dia_breaking_levels.proofs.levels.level_lines.Goals as goal

pub returns : goal.returns
returns g c =
    let listed = g.C.Costs.listed_length c.args.costs.now in
    let other = g.C.Costs.other_length c.args.costs.now in
    let others = g.C.Costs.other_keys c.args.costs.now in
    let a = rules_in (g.A.Book.meaning c.args.a.now) c.args.a_def in
    let b = rules_in (g.B.Book.meaning c.args.b.now) c.args.b_def in
    let f = c.floor_of-floor.result in
    let facts = c.floor_of-floor.ensures in
    let most = c.in_ok-most.most in
    let are_a = c.both_sound.ensures.first in
    let are_b = c.both_sound.ensures.second in
    let floor = is_floor f listed other others a b facts.base facts.inner facts.second facts.outer facts.needed c.requires.shortest in
    let outer = find (is_outside a b) others in
    let counts = lines_of f most listed other a b in
    record {
      complete = IfOk-weaker c.lines_at.result _ _
          (λ all has. with_orders (price listed other a) a b counts counts all.items refl (counts_kept f listed other a b outer counts all.items has)
          (each_line f most listed other a b (rules_sound a are_a) (rules_sound b are_b) floor facts.wild facts.lets_in c.in_ok-most.ensures.least)
          (late_shown f listed other others a b are_a are_b floor facts.wild c.requires.shortest all.items (orders_shown f listed other a b outer counts all.items has))) c.lines_at.ensures;
      exact = IfOk-weaker c.lines_at.result _ _
          (λ all has. lines_exact f most listed other others a b outer counts all.items
          (floor_is f listed other others a b facts.base facts.inner facts.first facts.second facts.outer facts.needed facts.wild facts.lets_in) c.in_ok-most.ensures.least c.in_ok-most.ensures.none
          refl refl has) c.lines_at.ensures;
    }
