use Rattle.std.proofs.Common.{◌≡◌, true, take}
use Rattle.std.specs.List.{list_all}
use Rattle.dia_ccf.specs.Names.{is_run_byte}
use Rattle.dia_ccf.proofs.lexer.is_run.Given as goal

abbrev pub invariant-loop-b : goal.invariant-loop-b
invariant-loop-b l = list_all is_run_byte (take l.b-index l.bytes) ≡ true
