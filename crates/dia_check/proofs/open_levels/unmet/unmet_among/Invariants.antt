use Rattle.std.proofs.Common.{◌≡◌, ◌<◌, ◌≤◌, ℕ, Some, drop}
use Rattle.std.specs.Prelude.{slice_get}
use Rattle.dia_book.specs.declared.DRule.{DRule}
use Rattle.dia_check.specs.OpenLevels.{AreMet}
use Rattle.dia_check.specs.Tallies.{count_in}
use Rattle.dia_check.proofs.open_levels.unmet.unmet_among.Given as goal

abbrev pub invariant-loop-met : goal.invariant-loop-met
invariant-loop-met l = record {
  following : l.from ≤ l.place;
  inside : l.place < l.to;
  wanted : (rule : DRule) → slice_get l.rules l.place ≡ Some rule → 1 ≤ rule.min;
  met : AreMet l.rules l.tally l.from l.place;
  same : (i : ℕ) → l.place ≤ i → count_in (drop l.met-index l.met-items) i ≡ count_in l.tally i;
}
