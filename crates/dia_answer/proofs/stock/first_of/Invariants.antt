use Rattle.std.proofs.Common.{◌≡◌, None, take}
use Rattle.std.specs.Prelude.{find}
use Rattle.dia_wire.specs.Wire.{key_of}
use Rattle.dia_book.specs.Keys.{same_key}
use Rattle.dia_answer.specs.Helds.{plains}
use Rattle.dia_answer.proofs.stock.first_of.Given as goal

abbrev pub invariant-loop-avp : goal.invariant-loop-avp
invariant-loop-avp l = find (λ v. same_key (key_of v) l.wanted) (plains (take l.avp-index l.avps)) ≡ None
