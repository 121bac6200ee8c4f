use Rattle.std.proofs.Common.{◌≡◌, Some, ap}
use Rattle.std.specs.Option.{option_map}
use Rattle.dia_data.specs.Plain.{ranges_of}
use Rattle.dia_data.proofs.RangeSets.{same_any}
use Rattle.dia_data.proofs.values.Values.contains.Goals as goal

pub returns-in-Some : goal.returns-in-Some
returns-in-Some c =
    let list = c.in-Some.listed in
    let is : ranges_of c.args.self.now ≡ Some list.written.items = ap (option_map (λ l. l.written.items)) c.in-Some.is in
    let same = same_any list.numbers.ranges.items list.written.items list.same c.args.number in
    rw is (λ t. same.0 (c.contains.ensures.0 t), λ a. c.contains.ensures.1 (same.1 a))
