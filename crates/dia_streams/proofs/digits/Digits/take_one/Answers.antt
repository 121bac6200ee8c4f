use Rattle.std.proofs.Common.{sym, refl}
use Rattle.dia_streams.proofs.DigitsTaken.{Takes-digit, Takes-not}
use Rattle.dia_streams.proofs.digits.Digits.take_one.Goals as goal

pub returns-in_ok-add-in-Some : goal.returns-in_ok-add-in-Some
returns-in_ok-add-in-Some c =
    let (more, grows, added) = c.in_ok-add-in-Some.ensures in
    Takes-digit c.args.self.now.half c.add.new.self.half c.args.self.now.bytes.items c.add.new.self.bytes.items more c.args.byte c.in-Some.value
    (sym c.in-Some.ensures.value) grows added

pub returns-in-None : goal.returns-in-None
returns-in-None c = Takes-not c.is_white.result c.args.self.now.half c.args.self.now.half c.args.self.now.bytes.items c.args.byte (sym c.in-None.ensures.value) c.is_white.ensures refl
