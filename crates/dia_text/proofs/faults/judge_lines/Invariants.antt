use Rattle.std.proofs.Common.{ℕ, List, map, Bor}
use Rattle.dia_text.proofs.Counted.{IsJudged}
use Rattle.dia_text.proofs.faults.judge_lines.Given as goal

abbrev pub invariant-loop-index : goal.invariant-loop-index
invariant-loop-index g l =
    IsJudged l.named (map (λ (x : Bor (List ℕ)). x.now) l.lines) l.index l.under.has_header l.under.out.items l.under.groups.items l.found.first.items l.found.count
