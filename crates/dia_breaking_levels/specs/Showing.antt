-- The level that is written for a line shows it (RFC 6733 section 3.2).
use Rattle.std.specs.Prelude.{ℕ, ◌<◌, List, [], ◌∷◌, ◌++◌, Contains}
use Rattle.dia_wire.specs.declared.Key.{Key}
use Rattle.dia_book.specs.declared.DRule.{DRule}
use Rattle.dia_book.specs.Dictionary.{AreRules}
use Rattle.dia_breaking_levels.specs.declared.line.Line.{Line}
use Rattle.dia_breaking_levels.specs.declared.line.Part.{Part}
use Rattle.dia_breaking_levels.specs.Chosen.{IsLineLevel, reads_between}
use Rattle.dia_breaking_levels.specs.Exact.{AreLevelLines}
use Rattle.dia_breaking_levels.specs.LeastLevels.{copies}
use Rattle.dia_breaking_levels.specs.LevelTests.{price, too_long}
use Rattle.dia_breaking_levels.specs.Levels.{ShowsAt}

-- the keys of the AVPs of parts, in their order
abbrev pub part_keys : List Part → List Key
part_keys [] = []
part_keys (part ∷ parts) = copies part.count part.key ++ part_keys parts

-- no AVP has the length 0
abbrev pub HaveLengths : (Key → ℕ) → Type 0
HaveLengths length = (key : Key) → 0 < length key

-- the level that is written for a line of two definitions breaks the rules of the second for the line's reason, at its key
abbrev pub LinesAreShown : Type 0
LinesAreShown = (listed other : Key → ℕ) (keys : List Key) (a b : List DRule) (lines : List Line) (line : Line) (parts : List Part)
    → AreRules a → AreRules b → HaveLengths listed → HaveLengths other → AreLevelLines listed other keys a b lines → Contains lines line
    → IsLineLevel (reads_between a b listed other keys) line parts → ShowsAt a b (part_keys parts) line.reason line.key

-- and messages have room for each of its AVPs
abbrev pub LinesHaveRoom : Type 0
LinesHaveRoom = (listed other : Key → ℕ) (keys : List Key) (a b : List DRule) (lines : List Line) (line : Line) (parts : List Part)
    → AreRules a → AreRules b → HaveLengths listed → HaveLengths other → AreLevelLines listed other keys a b lines → Contains lines line
    → IsLineLevel (reads_between a b listed other keys) line parts → (key : Key) → Contains (part_keys parts) key → price listed other a key < too_long
