use Rattle.std.proofs.Common.{◌≡◌, ◌++◌}
use Rattle.std.specs.Prelude.{vec_len, vec_capacity, ◌+◌}
use Rattle.dia_check.specs.Tallies.{unmet}
use Rattle.dia_check.proofs.open_levels.tally.lay_out.Given as goal

abbrev pub invariant-loop-rule : goal.invariant-loop-rule
invariant-loop-rule l = record {
  laid_out : l.tallies.items ≡ l.initial.tallies.items ++ unmet 0 l.rule;
  many : vec_len l.tallies ≡ vec_len l.initial.tallies + l.rule;
  room : vec_capacity l.tallies ≡ vec_capacity l.initial.tallies;
}
