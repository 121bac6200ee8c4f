use Rattle.std.proofs.Common.{◌≡◌, ℕ, List, map, drop, Bor}
use Rattle.dia_text.specs.Made.{message_from}
use Rattle.dia_text.proofs.making.header_from.Given as goal

abbrev pub invariant-loop-index : goal.invariant-loop-index
invariant-loop-index g l =
    message_from l.named l.index (drop l.index (map (λ (x : Bor (List ℕ)). x.now) l.lines)) ≡ message_from l.named 0 (map (λ (x : Bor (List ℕ)). x.now) l.lines)
