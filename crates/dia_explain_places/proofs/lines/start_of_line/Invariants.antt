use Rattle.std.proofs.Common.{◌≡◌, ℕ, ◌<◌}
use Rattle.dia_explain_places.specs.Places.{line_at}
use Rattle.dia_explain_places.proofs.lines.start_of_line.Given as goal

abbrev pub invariant-loop-index : goal.invariant-loop-index
invariant-loop-index l = (l.line ≡ line_at l.text l.index) × ((k : ℕ) → k < l.index → ¬ (line_at l.text k ≡ l.wanted))
