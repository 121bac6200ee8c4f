use Rattle.std.proofs.Common.{◌≡◌, ◌==◌, ℕ, List, ◌++◌, map, length, Bor}
use Rattle.std.specs.List.{slice_split}
use Rattle.dia_text.proofs.splitting.split.Given as goal

abbrev pub invariant-loop-part : goal.invariant-loop-part
invariant-loop-part l = map (λ (x : Bor (List ℕ)). x.now) l.found.items ++ slice_split (λ b. b == l.byte) l.rest ≡ slice_split (λ b. b == l.byte) l.fn.text

abbrev pub decreases-loop-part : goal.decreases-loop-part
decreases-loop-part l = length l.rest
