use Rattle.std.proofs.Common.{◌≡◌, take}
use Rattle.dia_breaking_levels.specs.LevelTests.{base_length}
use Rattle.dia_breaking_shortest.specs.Lengths.{length_of}
use Rattle.dia_breaking_shortest.proofs.lookup.Least.level_length.Given as goal

abbrev pub invariant-loop-rule : goal.invariant-loop-rule
invariant-loop-rule g l = l.sum ≡ base_length (length_of (g.B.Book.meaning l.book) l.self.sends l.self.lengths.items) l.filler (take l.rule-index l.rules)
