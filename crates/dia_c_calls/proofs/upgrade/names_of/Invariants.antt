use Rattle.std.proofs.Common.{◌≡◌, length, map, take, string_bytes, String}
use Rattle.std.specs.Global.{Global}
use Rattle.std.specs.Str.Lines.{lines}
use Rattle.dia_c_calls.proofs.upgrade.names_of.Given as goal

abbrev pub invariant-loop-name : goal.invariant-loop-name
invariant-loop-name l = map (λ (name : String Global). string_bytes name) l.names.items ≡ take (length l.yielded) (lines l.text)
