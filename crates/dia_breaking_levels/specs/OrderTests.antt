-- Two keys in an order that one definition allows and another does not, and the least level with both (RFC 6733 section 3.2).
use Rattle.std.specs.Prelude.{ℕ, ◌+◌, ◌-◌, min, nat_le, nat_lt, Bool, ◌&&◌, ◌==◌, if◌then◌else◌, List, Option, Some, None}
use Rattle.dia_wire.specs.declared.Key.{Key}
use Rattle.dia_book.specs.declared.DRule.{DRule}
use Rattle.dia_valid.specs.Rules.{rule_of}
use Rattle.dia_breaking_levels.specs.declared.floor.Floor.{Floor}
use Rattle.dia_breaking_levels.specs.Places.{place}
use Rattle.dia_breaking_levels.specs.LevelTests.{too_long, capped, has_room, swapped, many, filler}

-- the first definition lets x precede y, and the second wants y first
abbrev pub is_turned : List DRule → List DRule → Key → Key → Bool
is_turned a b y x = nat_le (place a x) (place a y) && nat_lt (place b y) (place b x)

-- what one AVP of a key takes beyond the least level, where a rule lists it, and else what one by the wildcard takes
abbrev pub beyond : (Key → ℕ) → (Key → ℕ) → Key → Option DRule → ℕ
beyond listed other key None = capped (other key)
beyond listed other key (Some rule) = if has_room 1 rule.max then many (1 - rule.min) (listed key) else too_long

-- how many of the AVPs come by the wildcard
abbrev pub by_wild : Option DRule → ℕ
by_wild None = 1
by_wild (Some rule) = 0

-- the least level with n certain AVPs by the wildcard, and with others: together they are so long
abbrev pub with_others : ℕ → ℕ → ℕ → ℕ → Option DRule → ℕ
with_others base filler n length None = if n == 0 then swapped base 0 length else too_long
with_others base filler n length (Some wild) = if has_room n wild.max then swapped base (many (min n wild.min) filler) length else too_long

-- the least level with both keys
abbrev pub pair_length : Floor → (Key → ℕ) → (Key → ℕ) → List DRule → Key → Key → ℕ
pair_length f listed other a y x =
    with_others f.base (filler f) (by_wild (rule_of a x) + by_wild (rule_of a y)) (capped (beyond listed other x (rule_of a x) + beyond listed other y (rule_of a y))) f.wild
