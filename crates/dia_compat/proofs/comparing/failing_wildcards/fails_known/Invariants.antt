use Rattle.std.proofs.Common.{◌≡◌, take}
use Rattle.std.specs.List.{filter_map}
use Rattle.dia_wire.specs.declared.Key.{Key}
use Rattle.dia_valid.specs.Valid.{is_listed}
use Rattle.dia_compat.specs.declared.reasons.Failing.TheVariants.{LetIn}
use Rattle.dia_compat.specs.Failings.{unless}
use Rattle.dia_compat.proofs.comparing.failing_wildcards.fails_known.Given as goal

abbrev pub invariant-loop-key : goal.invariant-loop-key
invariant-loop-key g l = l.all.items ≡ filter_map (λ (key : Key). unless (is_listed l.a key) (LetIn l.place key)) (take l.key-index l.keys)
