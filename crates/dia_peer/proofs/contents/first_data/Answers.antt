use Rattle.std.proofs.Common.{sym, subst, arith}
use Rattle.dia_wire.specs.Wire.{SpellsAll}
use Rattle.dia_peer.proofs.FirstData.{none_in_short}
use Rattle.dia_peer.proofs.RecordedApplications.{rest_of}
use Rattle.dia_peer.proofs.contents.first_data.Goals as goal

pub returns-then-length-lt-HEADER_LENGTH : goal.returns-then-length-lt-HEADER_LENGTH
returns-then-length-lt-HEADER_LENGTH c avps all = let few = c.if-length-lt-HEADER_LENGTH.true in none_in_short c.args.code avps c.args.message.now (omega (arith, few)) all

pub returns : goal.returns
returns c avps all = c.first_in.ensures avps (subst (SpellsAll avps) (sym (rest_of c.args.message.now)) all)
