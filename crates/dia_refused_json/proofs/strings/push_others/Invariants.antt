use Rattle.std.proofs.Common.{◌≡◌, ◌++◌, List, ℕ, map, string_bytes, take, flat_map}
use Rattle.std.specs.Borrow.{Bor}
use Rattle.dia_refused_json.specs.Refusals.{another}
use Rattle.dia_refused_json.proofs.strings.push_others.Given as goal

abbrev pub invariant-loop-other : goal.invariant-loop-other
invariant-loop-other l = string_bytes l.text ≡ string_bytes l.fn.text ++ flat_map another (map (λ (string : Bor (List ℕ)). string.now) (take l.other-index l.others))
