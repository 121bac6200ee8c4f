-- The levels of one definition that break the rules of another, and the lines that they show (RFC 6733 section 3.2).
use Rattle.std.specs.Prelude.{◌≡◌, ◌⊎◌, ℕ, ◌<◌, ◌≤◌, false, List, Option, Some, None, find, Contains}
use Rattle.std.specs.Option.{option_map_or}
use Rattle.dia_wire.specs.declared.Key.{Key}
use Rattle.dia_book.specs.declared.DRule.{DRule}
use Rattle.dia_valid.specs.Valid.{Placed, fixed_rules, is_listed, has_wildcard}
use Rattle.dia_valid.specs.Rules.{HasRule, HasWildcard}
use Rattle.dia_breaking_levels.specs.declared.line.Line.{Line}
use Rattle.dia_breaking_levels.specs.declared.line.Reason.{Reason}
use Rattle.dia_breaking_levels.specs.declared.line.Reason.TheVariants.{Missing, TooMany, NotAllowed, NotAllowedOther, MissingOthers, TooManyOthers, Order}
use Rattle.dia_breaking_levels.specs.CountsAndRanks.{times, strangers}
use Rattle.dia_breaking_levels.specs.Breaches.{IsLate}
use Rattle.dia_breaking_levels.specs.LeastLevels.{total}
use Rattle.dia_breaking_levels.specs.LevelTests.{too_long, is_outside, least_filler}

-- the keys of a level of the first definition break the rules of the second for this reason, at this key
abbrev pub ShowsAt : List DRule → List DRule → List Key → Reason → Option Key → Type 0
ShowsAt a b keys Missing (Some key) = (rule : DRule) × HasRule b key rule × (times key keys < rule.min)
ShowsAt a b keys TooMany (Some key) = (rule : DRule) × (max : ℕ) × HasRule b key rule × (rule.max ≡ Some max) × (max < times key keys)
ShowsAt a b keys NotAllowed (Some key) = Contains keys key × (is_listed b key ≡ false) × (has_wildcard b ≡ false)
ShowsAt a b keys NotAllowedOther None = (key : Key) × Contains keys key × (is_listed a key ≡ false) × (is_listed b key ≡ false) × (has_wildcard b ≡ false)
ShowsAt a b keys MissingOthers None = (wild : DRule) × HasWildcard b wild × (strangers b keys < wild.min)
ShowsAt a b keys TooManyOthers None = (wild : DRule) × (max : ℕ) × HasWildcard b wild × (wild.max ≡ Some max) × (max < strangers b keys)
ShowsAt a b keys Order (Some key) = (late : IsLate (fixed_rules b) keys) × (late.y ≡ key)
ShowsAt a b keys reason key = ⊥

-- the keys show the line, and their level is no shorter than it says
abbrev pub Shows : (Key → ℕ) → List DRule → List DRule → List Key → Line → Type 0
Shows length a b keys line = ShowsAt a b keys line.reason line.key × (line.length ≤ total length keys)

-- each level of the first definition that a message has room for is placed by the second, or shows a line
abbrev pub HasEachLine : (Key → ℕ) → List DRule → List DRule → List Line → Type 0
HasEachLine length a b lines = (keys : List Key) → Placed a keys → total length keys < too_long → Placed b keys ⊎ ((line : Line) × Contains lines line × Shows length a b keys line)

-- of the keys that the definition does not list the first is one of a shortest AVP
abbrev pub OtherIsShortest : (Key → ℕ) → List Key → List DRule → Type 0
OtherIsShortest other keys a = (key : Key) → is_listed a key ≡ false → least_filler other keys a ≤ other key

-- no level of the definition is shorter
abbrev pub IsWithinAll : (Key → ℕ) → List DRule → ℕ → Type 0
IsWithinAll length a n = (keys : List Key) → Placed a keys → n ≤ total length keys

-- none that has the key is shorter
abbrev pub IsWithinAllWith : (Key → ℕ) → List DRule → Key → ℕ → Type 0
IsWithinAllWith length a key n = (keys : List Key) → Placed a keys → Contains keys key → n ≤ total length keys

-- of the keys that neither definition lists the first is one of a shortest AVP
abbrev pub FirstIsShortest : (Key → ℕ) → List Key → List DRule → List DRule → Type 0
FirstIsShortest other keys a b = (key : Key) → is_listed a key ≡ false → is_listed b key ≡ false → option_map_or other (find (is_outside a b) keys) too_long ≤ other key
