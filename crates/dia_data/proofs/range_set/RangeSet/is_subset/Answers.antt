use Rattle.std.proofs.Common.{sym}
use Rattle.dia_data.proofs.range_set.RangeSet.is_subset.Goals as goal

pub returns : goal.returns
returns c = rw (sym c.deref.ensures.value, sym c.deref-2.ensures.value) c.is_subset.ensures
