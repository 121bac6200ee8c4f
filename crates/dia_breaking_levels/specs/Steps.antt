-- Steps from the least level to ones with more AVPs that the other definition does not list.
use Rattle.std.specs.Prelude.{◌≡◌, ℕ, ◌+◌, ◌-◌, ◌*◌, ◌≤◌, min, if◌then◌else◌, ◌==◌, List, [], ◌∷◌, Option, Some, None, IsPermutation, option_and_then, fold, flat_map, sum_by}
use Rattle.std.specs.Option.{option_map_or}
use Rattle.dia_wire.specs.declared.Key.{Key}
use Rattle.dia_book.specs.declared.DRule.{DRule}
use Rattle.dia_valid.specs.Valid.{is_listed}
use Rattle.dia_breaking_levels.specs.declared.steps.Step.{Step}
use Rattle.dia_valid.specs.Rules.{wildcard_of}
use Rattle.dia_breaking_levels.specs.declared.floor.Floor.{Floor}
use Rattle.dia_breaking_levels.specs.Strangers.{needed}
use Rattle.dia_breaking_levels.specs.LevelTests.{too_long, capped, many, filler, swapped}

-- how many more than its min a rule allows, or as many as are wanted
abbrev pub room_above : ℕ → DRule → ℕ
room_above wanted rule = option_map_or (λ max. max - rule.min) rule.max wanted

-- one more AVP of a key that the other does not list; by the wildcard one in the place of a shorter one, or one more
abbrev pub steps_of : (Key → ℕ) → ℕ → ℕ → List DRule → ℕ → DRule → List Step
steps_of listed filler outer b wanted rule = option_map_or
    (λ key. if is_listed b key then [] else record { length = listed key; count = room_above wanted rule } ∷ [])
    rule.key
    (record { length = outer - filler; count = rule.min } ∷ record { length = outer; count = room_above wanted rule } ∷ [])

abbrev pub steps : (Key → ℕ) → ℕ → ℕ → List DRule → ℕ → List DRule → List Step
steps listed filler outer b wanted a = flat_map (steps_of listed filler outer b wanted) a

-- how many AVPs are still wanted, and the length of those taken
abbrev pub take_step : ℕ × ℕ → Step → ℕ × ℕ
take_step taken step = (taken.0 - step.count, capped (taken.1 + many (min taken.0 step.count) step.length))

-- the length of the wanted AVPs, from the first step on
abbrev pub length_taken : ℕ × ℕ → ℕ
length_taken taken = if taken.0 == 0 then taken.1 else too_long

abbrev pub taken : ℕ → List Step → ℕ
taken wanted steps = length_taken (fold take_step (wanted, 0) steps)

-- what the steps save that are shorter than t
abbrev pub saved : ℕ → List Step → ℕ
saved t steps = sum_by (λ step. (t - step.length) * step.count) steps

-- no choice of steps for so many AVPs is shorter: at a price t for each AVP that is wanted, none does better
abbrev pub IsLeastTaken : ℕ → List Step → ℕ → Type 0
IsLeastTaken wanted steps n = (t : ℕ) × (n + saved t steps ≤ t * wanted)

-- the steps in some order, taken from the first on, are as long as this
abbrev pub IsTakenInOrder : ℕ → List Step → ℕ → Type 0
IsTakenInOrder wanted steps n = (order : List Step) × IsPermutation steps order × (n ≡ taken wanted order)

-- the greatest count of the wildcard
abbrev pub greatest : List DRule → Option ℕ
greatest rules = option_and_then (λ w. w.max) (wildcard_of rules)

-- no level of the first definition has more than so many AVPs that the second does not list, and is shorter; one is as long, if a
-- message has room for it
abbrev pub IsLeastOver : (Key → ℕ) → Floor → List DRule → List DRule → ℕ → ℕ → Type 0
IsLeastOver listed f a b max n = (c : ℕ) × (n ≡ swapped f.base 0 c) × IsLeastTaken (max + 1 - needed b a) (steps listed (filler f) f.outer b (max + 1 - needed b a) a) c
    × IsTakenInOrder (max + 1 - needed b a) (steps listed (filler f) f.outer b (max + 1 - needed b a) a) c

-- none has one AVP more by the second's wildcard than it allows, and is shorter
abbrev pub IsLeastMost : (Key → ℕ) → Floor → List DRule → List DRule → ℕ → Type 0
IsLeastMost listed f a b n = (max : ℕ) → greatest b ≡ Some max → IsLeastOver listed f a b max n

-- where the second's wildcard has no greatest count, or there is none, no level has too many by it
abbrev pub IsLongUnbounded : List DRule → ℕ → Type 0
IsLongUnbounded b n = greatest b ≡ None → n ≡ too_long
