use Rattle.std.proofs.Common.{◌≡◌, ℕ, List, map, drop, Bor}
use Rattle.dia_text.specs.Drafts.{Level, Occurs}
use Rattle.dia_text.specs.Made.{body_from}
use Rattle.dia_text.specs.Drafts.{no_level}
use Rattle.dia_text.proofs.making.body_of.Given as goal

abbrev pub invariant-loop-index : goal.invariant-loop-index
invariant-loop-index g l =
    (level : Level) × Occurs level.outer level.bytes l.out.items l.groups.items
    × (body_from l.named l.header l.index (drop l.index (map (λ (x : Bor (List ℕ)). x.now) l.lines)) level
    ≡ body_from l.named l.header l.fn.at (drop l.fn.at (map (λ (x : Bor (List ℕ)). x.now) l.lines)) no_level)
