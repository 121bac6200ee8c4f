use Rattle.std.proofs.Common.{◌≡◌, ◌++◌, List, ℕ, rules, subst}
use Rattle.std.specs.Prelude.{OnOk}
use Rattle.std.proofs.Math.Dec.{ltb}
use Rattle.std.proofs.lemmas.List.Sorted.{IsPartitionPoint-from_clause, IsPartitionedBy-ltb}
use Rattle.dia_data.proofs.RangeSets.{first_to, ends_rise}
use Rattle.dia_breaking.proofs.GapsInRanges.{skipped_rest}
use Rattle.dia_breaking.proofs.number_lists.push_without.Goals as goal

pub returns : goal.returns
returns c =
    let others = c.args.others.now in
    let low = c.args.low in
    let place = c.partition_point-place.result in
    let parted = IsPartitionedBy-ltb (λ r. r.1) others low (ends_rise others c.requires.others) in
    let point = IsPartitionPoint-from_clause (λ r. ltb r.1 low) others place c.partition_point-place.ensures.partitioned parted (λ a r q k. search rules) in
    subst (λ (g : List (ℕ × ℕ)). OnOk c.push_gaps.result (c.push_gaps.new.found.items ≡ c.args.found.now.items ++ g)) (skipped_rest place low c.args.high others (first_to others place low point).before) c.push_gaps.ensures
