use Rattle.std.proofs.Common.{length, ◌-◌, sym, rules}
use Rattle.std.proofs.Math.Dec.{ltb}
use Rattle.std.proofs.lemmas.List.Sorted.{IsPartitionPoint-from_clause, IsPartitionedBy-ltb}
use Rattle.dia_check.proofs.Tallies.{place_end, place_here, place_parted, rising_sorted}
use Rattle.dia_check.proofs.open_levels.tally.place_of.Goals as goal

pub returns-in-Some : goal.returns-in-Some
returns-in-Some c = place_end c.args.tally.now c.args.rule c.in-Some.last.now c.requires (sym c.in-Some.ensures.value) c.if-last-rule.true

pub returns-in-Some-2 : goal.returns-in-Some-2
returns-in-Some-2 c = place_here c.args.tally.now c.args.rule (length c.args.tally.now - 1) c.in-Some.last.now c.requires (sym c.in-Some.ensures.value) c.if-last-rule-2.true

pub returns-in_default : goal.returns-in_default
returns-in_default c =
    let tally = c.args.tally.now in
    let rule = c.args.rule in
    let parted = IsPartitionedBy-ltb (λ m. m.rule) tally rule (rising_sorted 0 tally c.requires) in
    let point = IsPartitionPoint-from_clause (λ m. ltb m.rule rule) tally c.partition_point.result c.partition_point.ensures.partitioned parted (λ a r q k. search rules) in
    place_parted tally rule c.partition_point.result c.requires c.partition_point.ensures.bound point
