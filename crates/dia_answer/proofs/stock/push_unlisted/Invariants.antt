use Rattle.std.proofs.Common.{◌≡◌, ◌++◌, not, take}
use Rattle.std.specs.Prelude.{filter}
use Rattle.dia_wire.specs.Wire.{key_of}
use Rattle.dia_valid.specs.Valid.{is_listed}
use Rattle.dia_answer.specs.Helds.{plains}
use Rattle.dia_answer.proofs.stock.push_unlisted.Given as goal

abbrev pub invariant-loop-avp : goal.invariant-loop-avp
invariant-loop-avp l = plains l.out.items ≡ plains l.initial.out.items ++ filter (λ v. not (is_listed l.rules (key_of v))) (plains (take l.avp-index l.avps))
