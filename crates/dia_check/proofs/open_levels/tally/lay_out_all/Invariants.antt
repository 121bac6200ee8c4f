use Rattle.std.proofs.Common.{◌≡◌}
use Rattle.std.specs.Prelude.{drop, take, vec_capacity}
use Rattle.dia_check.proofs.LaidOutTallies.{AreLaidOutFrom}
use Rattle.dia_check.proofs.open_levels.tally.lay_out_all.Given as goal

abbrev pub invariant-loop-rule : goal.invariant-loop-rule
invariant-loop-rule l = record {
  front : take l.base l.tallies.items ≡ take l.base l.fn.tallies.items;
  laid_out : AreLaidOutFrom (drop l.base l.fn.tallies.items) (drop l.base l.tallies.items) l.many l.rule l.left;
  room : vec_capacity l.tallies ≡ vec_capacity l.fn.tallies;
}
