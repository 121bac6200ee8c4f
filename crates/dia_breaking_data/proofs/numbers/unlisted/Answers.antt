use Rattle.std.proofs.Common.{◌<◌, length, arith, rules}
use Rattle.std.proofs.Math.Dec.{ltb}
use Rattle.std.proofs.lemmas.List.Sorted.{IsPartitionPoint-from_clause, IsPartitionedBy-ltb}
use Rattle.dia_data.proofs.RangeSets.{first_to, ends_rise, in_set_iff}
use Rattle.dia_breaking_data.proofs.RangesOfNumbers.{past_end}
use Rattle.dia_breaking_data.proofs.numbers.unlisted.Goals as goal

pub returns-then-place-ranges-clause-some : goal.returns-then-place-ranges-clause-some
returns-then-place-ranges-clause-some c =
    let ranges = c.args.ranges.now in
    let low = c.args.low in
    let place = c.partition_point-place.result in
    let parted = IsPartitionedBy-ltb (λ r. r.1) ranges low (ends_rise ranges c.requires.apart) in
    let point = IsPartitionPoint-from_clause (λ r. ltb r.1 low) ranges place c.partition_point-place.ensures.partitioned parted (λ a r q k. search rules) in
    let iff = in_set_iff ranges place low c.requires.apart (first_to ranges place low point) in
    ((omega arith, c.requires.some), λ any. omega (arith, c.if-place-ranges.true, (iff.0 any).0))

pub returns-then-low-first-clause-some : goal.returns-then-low-first-clause-some
returns-then-low-first-clause-some c =
    let ranges = c.args.ranges.now in
    let low = c.args.low in
    let place = c.partition_point-place.result in
    let parted = IsPartitionedBy-ltb (λ r. r.1) ranges low (ends_rise ranges c.requires.apart) in
    let point = IsPartitionPoint-from_clause (λ r. ltb r.1 low) ranges place c.partition_point-place.ensures.partitioned parted (λ a r q k. search rules) in
    let iff = in_set_iff ranges place low c.requires.apart (first_to ranges place low point) in
    ((omega arith, c.requires.some), λ any. omega (arith, c.if-low-first.true, (iff.0 any).1))

pub returns-then-last-high-clause-some : goal.returns-then-last-high-clause-some
returns-then-last-high-clause-some c =
    let ranges = c.args.ranges.now in
    let low = c.args.low in
    let place = c.partition_point-place.result in
    let parted = IsPartitionedBy-ltb (λ r. r.1) ranges low (ends_rise ranges c.requires.apart) in
    let point = IsPartitionPoint-from_clause (λ r. ltb r.1 low) ranges place c.partition_point-place.ensures.partitioned parted (λ a r q k. search rules) in
    let first = first_to ranges place low point in
    let short : place < length ranges = omega arith in
    ((omega (arith, first.there short), omega (arith, c.if-last-high.true)), past_end ranges place (0, 0) c.requires.apart short)
