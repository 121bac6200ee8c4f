use Rattle.std.proofs.Common.{◌≡◌, ◌++◌, take}
use Rattle.std.specs.Prelude.{filter, flat_map}
use Rattle.dia_wire.specs.Wire.{key_of}
use Rattle.dia_book.specs.Dictionary.{lists_key}
use Rattle.dia_answer.specs.Helds.{plains}
use Rattle.dia_answer.proofs.stock.Stock.in_order.Given as goal

abbrev pub invariant-loop-rule : goal.invariant-loop-rule
invariant-loop-rule l = plains l.avps.items ≡ flat_map (λ rule. filter (λ v. lists_key (key_of v) rule) (plains l.self.few.items ++ plains l.self.proxies.items)) (take l.rule-index l.rules)
