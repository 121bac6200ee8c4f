-- What holds of the levels of definitions (RFC 6733 section 3.2).
use Rattle.std.specs.Prelude.{◌≡◌, ◌⊎◌, ◌↔◌, ℕ, ◌≤◌, List, Contains}
use Rattle.dia_wire.specs.declared.Key.{Key}
use Rattle.dia_book.specs.declared.DRule.{DRule}
use Rattle.dia_book.specs.Dictionary.{Dictionary, PlainDefinition, IsDictionary, AreRules, definitions}
use Rattle.dia_valid.specs.Valid.{Placed}
use Rattle.dia_breaking_levels.specs.CountsAndRanks.{AreSound, AreInPlace}
use Rattle.dia_breaking_levels.specs.Breaches.{Breach}
use Rattle.dia_breaking_levels.specs.LeastLevels.{total, plan, IsFiller, IsCheapest}
use Rattle.dia_breaking_levels.specs.LevelTests.{price, length_once}
use Rattle.dia_breaking_levels.specs.Levels.{OtherIsShortest, IsWithinAllWith}
use Rattle.dia_breaking_levels.specs.declared.line.Line.{Line}
use Rattle.dia_breaking_levels.specs.Exact.{AreLevelLines}

-- the rules of a dictionary's definitions are sound
abbrev pub DefinitionsAreSound : Type 0
DefinitionsAreSound = (d : Dictionary) (def : PlainDefinition) → IsDictionary d → Contains (definitions d) def → AreSound def.rules

-- keys are as rules say just where they come as often as these say, and in the order of the fixed ones
abbrev pub PlacedIsInPlace : Type 0
PlacedIsInPlace = (rules : List DRule) (keys : List Key) → AreSound rules → Placed rules keys ↔ AreInPlace rules keys

-- keys are as rules say, or they break them in one of six ways
abbrev pub PlacedOrBreach : Type 0
PlacedOrBreach = (rules : List DRule) (keys : List Key) → AreSound rules → Placed rules keys ⊎ Breach rules keys

-- and not both
abbrev pub BreachIsUnplaced : Type 0
BreachIsUnplaced = (rules : List DRule) (keys : List Key) → AreSound rules → Breach rules keys → Placed rules keys → ⊥

-- each rule's key as often as its min, and the filler for the wildcard, are as the rules say
abbrev pub PlanIsPlaced : Type 0
PlanIsPlaced = (rules : List DRule) (filler : Key) → AreRules rules → IsFiller 0 rules filler → Placed rules (plan filler rules)

-- and no keys that do cost less, whatever keys cost
abbrev pub PlanIsLeast : Type 0
PlanIsLeast =
    (rules : List DRule) (filler : Key) (cost : Key → ℕ) (keys : List Key) → AreSound rules → Placed rules keys → IsCheapest 0 cost filler rules keys → total cost (plan filler rules) ≤ total cost keys

-- no level of a definition that has a key is shorter than what is computed
abbrev pub OnceIsLeast : Type 0
OnceIsLeast = (listed other : Key → ℕ) (others : List Key) (rules : List DRule) (key : Key) → AreRules rules → OtherIsShortest other others rules
    → IsWithinAllWith (price listed other rules) rules key (length_once listed other others rules key)

-- two lists that are the lines of the same definitions, over the same lengths, are one list
abbrev pub LinesAreOne : Type 0
LinesAreOne = (listed other : Key → ℕ) (keys : List Key) (a b : List DRule) (first second : List Line)
    → AreLevelLines listed other keys a b first → AreLevelLines listed other keys a b second → first ≡ second
