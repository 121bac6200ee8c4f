use Rattle.std.proofs.Common.{length, get_or, arith, rules}
use Rattle.std.proofs.Math.Dec.{ltb}
use Rattle.std.proofs.lemmas.Bool.{le-leb, leb-true, ltb-true}
use Rattle.std.proofs.lemmas.List.Sorted.{IsPartitionPoint-from_clause, IsPartitionedBy-ltb}
use Rattle.dia_data.proofs.RangeSets.{first_to, ends_rise, in_set_iff}
use Rattle.dia_data.proofs.range_set.searching.holds.Goals as goal

pub returns-then-place-ranges : goal.returns-then-place-ranges
returns-then-place-ranges c =
    let ranges = c.args.ranges.now in
    let n = c.args.number in
    let place = c.partition_point-place.result in
    let parted = IsPartitionedBy-ltb (λ r. r.1) ranges n (ends_rise ranges c.requires) in
    let point = IsPartitionPoint-from_clause (λ r. ltb r.1 n) ranges place c.partition_point-place.ensures.partitioned parted (λ a r q k. search rules) in
    let iff = in_set_iff ranges place n c.requires (first_to ranges place n point) in
    (λ t. iff.1 (c.if-place-ranges.true, leb-true (get_or ranges place (0, 0)).0 n t), λ a. le-leb (get_or ranges place (0, 0)).0 n (iff.0 a).1)

pub returns-else-place-ranges : goal.returns-else-place-ranges
returns-else-place-ranges c =
    let ranges = c.args.ranges.now in
    let n = c.args.number in
    let place = c.partition_point-place.result in
    let parted = IsPartitionedBy-ltb (λ r. r.1) ranges n (ends_rise ranges c.requires) in
    let point = IsPartitionPoint-from_clause (λ r. ltb r.1 n) ranges place c.partition_point-place.ensures.partitioned parted (λ a r q k. search rules) in
    let iff = in_set_iff ranges place n c.requires (first_to ranges place n point) in
    (λ t. absurd (omega (arith, ltb-true place (length ranges) t, c.if-place-ranges.false)), λ a. absurd (omega (arith, (iff.0 a).0, c.if-place-ranges.false)))
