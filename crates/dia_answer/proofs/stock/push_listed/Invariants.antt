use Rattle.std.proofs.Common.{◌≡◌, ◌++◌, take}
use Rattle.std.specs.Prelude.{filter}
use Rattle.dia_wire.specs.Wire.{key_of}
use Rattle.dia_book.specs.Dictionary.{lists_key}
use Rattle.dia_answer.specs.Helds.{plains}
use Rattle.dia_answer.proofs.stock.push_listed.Given as goal

abbrev pub invariant-loop-avp : goal.invariant-loop-avp
invariant-loop-avp l = plains l.out.items ≡ plains l.initial.out.items ++ filter (λ v. lists_key (key_of v) l.rule) (plains (take l.avp-index l.avps))
