use Rattle.std.proofs.Common.{◌≡◌, Some, ap}
use Rattle.std.specs.Option.{option_map}
use Rattle.dia_data.specs.Plain.{ranges_of}
use Rattle.dia_data.proofs.RangeSets.{values_below}
use Rattle.dia_data.proofs.values.Values.is_below.Goals as goal

pub returns-in-Some-Some : goal.returns-in-Some-Some
returns-in-Some-Some c =
    let f = c.in-Some-Some.f in
    let g = c.in-Some-Some.g in
    let first : ranges_of c.args.self.now ≡ Some f.written.items = ap (option_map (λ l. l.written.items)) c.in-Some-Some.is-0 in
    let second : ranges_of c.args.other.now ≡ Some g.written.items = ap (option_map (λ l. l.written.items)) c.in-Some-Some.is-1 in
    rw (first, second) (values_below f.numbers.ranges.items f.written.items g.numbers.ranges.items g.written.items c.is_subset.result f.same g.same c.is_subset.ensures)
