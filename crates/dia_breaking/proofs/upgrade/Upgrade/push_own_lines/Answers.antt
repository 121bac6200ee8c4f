use Rattle.std.proofs.Common.{[], arith}
use Rattle.std.specs.Prelude.{slice_get}
use Rattle.std.specs.Option.{option_map_or}
use Rattle.dia_breaking.specs.Listing.{reached_line}
use Rattle.dia_breaking.proofs.RecordedLists.{adds_none, adds_part, adds_each}
use Rattle.dia_breaking.proofs.upgrade.Upgrade.push_own_lines.Goals as goal

pub loop-place-init : goal.loop-place-init
loop-place-init g c = record { recorded = adds_none c.args.lines.now.items; formats = λ have all. all; unchecked = λ all. all }

pub loop-place-preserved : goal.loop-place-preserved
loop-place-preserved g c = record {
  recorded = adds_part (λ k. option_map_or (reached_line c.args.kind c.args.numbers.first c.args.numbers.count c.args.reached.now k) (slice_get c.args.self.now.own.items k) []) c.loop-place.place _ _ _
      c.loop-place.invariant.recorded c.in_ok-push_own_at.ensures.recorded;
  formats = λ have all. c.in_ok-push_own_at.ensures.formats have (c.loop-place.invariant.formats have all);
  unchecked = λ all. c.in_ok-push_own_at.ensures.unchecked (c.loop-place.invariant.unchecked all);
}

pub returns : goal.returns
returns g c = record {
  recorded = adds_each (reached_line c.args.kind c.args.numbers.first c.args.numbers.count c.args.reached.now) c.args.self.now.own.items c.loop-place.place _ _ (omega arith) c.loop-place.invariant.recorded;
  formats = c.loop-place.invariant.formats;
  unchecked = c.loop-place.invariant.unchecked;
}
