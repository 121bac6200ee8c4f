-- The lines that two definitions have report all that breaks in their levels.
use Rattle.std.proofs.Common.{ℕ, List, refl}
use Rattle.std.specs.Prelude.{find}
use Rattle.dia_wire.specs.declared.Key.{Key}
use Rattle.dia_book.specs.declared.DRule.{DRule}
use Rattle.dia_book.specs.Dictionary.{AreRules}
use Rattle.dia_breaking_levels.specs.declared.line.Line.{Line}
use Rattle.dia_breaking_levels.specs.Exact.{AreLevelLines, HasOrderLines, floor_between}
use Rattle.dia_breaking_levels.specs.Levels.{FirstIsShortest, HasEachLine}
use Rattle.dia_breaking_levels.specs.LevelTests.{price, is_outside, lines_of}
use Rattle.dia_breaking_levels.proofs.CountsAndRanks.{rules_sound}
use Rattle.dia_breaking_levels.proofs.EachLine.{each_line, with_orders}
use Rattle.dia_breaking_levels.proofs.FloorFacts.{is_floor, counts_kept}
use Rattle.dia_breaking_levels.proofs.OfferedKeys.{orders_shown}
use Rattle.dia_breaking_levels.proofs.OrderLines.{late_shown}

pub exact_each : (listed other : Key → ℕ) (others : List Key) (a b : List DRule) (lines : List Line) → AreRules a → AreRules b → FirstIsShortest other others a b
    → AreLevelLines listed other others a b lines → HasEachLine (price listed other a) a b lines
exact_each listed other others a b lines are_a are_b shortest (counts, orders, is, (most, is_most, long, counts_are), orders_are) =
    let f = floor_between listed other others a b in
    let outer = find (is_outside a b) others in
    let floor = is_floor f listed other others a b refl refl refl refl refl shortest in
    let has : HasOrderLines f listed other a b outer counts lines = (orders, is, orders_are) in
    with_orders (price listed other a) a b (lines_of f most listed other a b) counts lines counts_are (counts_kept f listed other a b outer counts lines has)
    (each_line f most listed other a b (rules_sound a are_a) (rules_sound b are_b) floor refl refl is_most)
    (late_shown f listed other others a b are_a are_b floor refl shortest lines (orders_shown f listed other a b outer counts lines has))
