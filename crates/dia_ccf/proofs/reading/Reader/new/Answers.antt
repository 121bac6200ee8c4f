use Rattle.std.proofs.Common.{arith, refl}
use Rattle.dia_ccf.proofs.reading.Reader.new.Goals as goal

pub invariant_of-result : goal.invariant_of-result
invariant_of-result c =
    let ahead = c.look-at.ensures in
    record {
      small = c.requires;
      within = ahead.within.2;
      long = ahead.within.1;
      few = omega arith;
      reached = omega arith;
      counted = ahead.same;
      rest = ahead.rest;
      placed = ahead.placed;
      begins = ahead.begins;
      wants = refl;
      before = refl;
      before_that = refl;
    }
