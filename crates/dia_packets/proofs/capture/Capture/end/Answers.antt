use Rattle.std.proofs.Common.{List, ℕ, [], subst, sym}
use Rattle.dia_packets.specs.UnderWay.{AreFrom, IsPart, end_of}
use Rattle.dia_packets.proofs.UnderWayRead.{at_end}
use Rattle.dia_packets.proofs.capture.Capture.end.Goals as goal

pub returns : goal.returns
returns c = λ kind read found u.
    at_end kind c.args.self.now read found (end_of c.end.result) u
    (subst (λ (b : List ℕ). AreFrom c.args.self.now.position b [] (end_of c.end.result)) c.as_slice.ensures.value
    (c.end.ensures (subst (λ (b : List ℕ). IsPart c.args.self.now.position.state b) (sym c.as_slice.ensures.value) u.is_part)))
