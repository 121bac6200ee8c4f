use Rattle.std.proofs.Common.{◌≡◌, ◌≤◌, ◌-◌, List, ◌++◌, take, drop, length}
use Rattle.std.specs.List.{flat_map}
use Rattle.dia_show.specs.Words.{Word}
use Rattle.dia_make.specs.Numbered.{numbered, numbered_piece, pieces}
use Rattle.dia_make.specs.Tables.{AreTablesOf}
use Rattle.dia_make.proofs.numbered.numbered.Given as goal

abbrev pub invariant-loop-index : goal.invariant-loop-index
invariant-loop-index l = (l.start ≤ l.index) × (l.index ≤ length l.text)
    × ((words : List Word) → AreTablesOf l.tables words
    → l.made.items ++ flat_map (numbered_piece words) (pieces (take (l.index - l.start) (drop l.start l.text)) l.quoted (drop l.index l.text)) ≡ numbered words l.text)
