use Rattle.std.proofs.Common.{◌≡◌, ◌+◌, ◌++◌, drop, length}
use Rattle.std.specs.Option.{option_map}
use Rattle.dia_wire.specs.Wire.{plain_avp}
use Rattle.dia_answer.specs.Failed.{heads_length, nested, shown_bytes}
use Rattle.dia_answer.specs.Levels.{plain_way}
use Rattle.dia_answer.proofs.failed.wrapped.Given as goal

abbrev pub invariant-loop-step : goal.invariant-loop-step
invariant-loop-step l = l.length + heads_length (plain_way (drop l.step-index l.groups)) ≡ length (shown_bytes (option_map plain_avp l.shown)) + heads_length (plain_way l.groups)

abbrev pub invariant-loop-step-2 : goal.invariant-loop-step-2
invariant-loop-step-2 l = record {
  left : l.length ≡ length (nested (plain_way (drop l.step-index l.groups)) (shown_bytes (option_map plain_avp l.shown)));
  so_far : nested (plain_way l.groups) (shown_bytes (option_map plain_avp l.shown)) ≡ l.out.items ++ nested (plain_way (drop l.step-index l.groups)) (shown_bytes (option_map plain_avp l.shown));
}
