use Rattle.std.proofs.Common.{◌≡◌, rules}
use Rattle.std.proofs.lemmas.Fn.{always_returns_same}
use Rattle.std.proofs.lemmas.List.Sorted.{IsNonDecreasingBy-from_sort_by_key}
use Rattle.dia_captures.specs.Summaries.{rank}
use Rattle.dia_captures.proofs.summaries.put_in_order.Goals as goal

pub returns : goal.returns
returns c = record {
  all = c.sort_by_key.ensures.permutation;
  rises = IsNonDecreasingBy-from_sort_by_key rank _ c.in_ok-sort_by_key.ensures.sorted (λ a r q k. search rules);
  stable = c.sort_by_key.ensures.stable rank (always_returns_same _ (λ a r. r ≡ rank a.0.now) _ (λ a r q k. search rules));
}
