use Rattle.std.proofs.Common.{◌≡◌, flat_map}
use Rattle.std.specs.Prelude.{string_bytes}
use Rattle.dia_lint_text.specs.Lists.{dotted_char}
use Rattle.dia_lint_text.proofs.accepted.dotted.Given as goal

abbrev pub invariant-loop-c : goal.invariant-loop-c
invariant-loop-c l = string_bytes l.out ≡ flat_map dotted_char l.yielded
