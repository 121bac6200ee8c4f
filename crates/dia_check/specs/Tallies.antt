-- The tally of a level: how often its rules were met, in the order of the rules. A rule that isn't recorded was not met.
use Rattle.std.specs.Prelude.{◌≡◌, ℕ, zero, suc, ◌+◌, ◌<◌, ◌≤◌, ◌==◌, if◌then◌else◌, List, [], ◌∷◌, length, take, drop, slice_get, Some}
use Rattle.std.specs.List.{AllByRecursion}
use Rattle.dia_check.specs.declared.open_levels.tally.Met.{Met}

-- how often a rule was met
abbrev pub count_in : List Met → ℕ → ℕ
count_in [] rule = 0
count_in (m ∷ tally) rule = if m.rule == rule then m.count else count_in tally rule

-- a rule that was not met
abbrev pub never : ℕ → Met
never rule = record { rule = rule; count = 0 }

-- so many rules that were not met, from one on
abbrev pub unmet : ℕ → ℕ → List Met
unmet from zero = []
unmet from (suc many) = never from ∷ unmet (from + 1) many

-- the rules rise, from a number on
abbrev pub AreRising : ℕ → List Met → Type 0
AreRising from [] = Unit {0}
AreRising from (m ∷ tally) = (from ≤ m.rule) × AreRising (m.rule + 1) tally

abbrev pub AreBelow : ℕ → List Met → Type 0
AreBelow to tally = AllByRecursion (λ m. m.rule < to) tally

-- the place after the rules before a rule
pub record IsPlaceOf (tally : List Met) (rule place : ℕ) : Type 0 where
  pub within : place ≤ length tally
  pub before : AreBelow rule (take place tally)
  pub following : AreRising rule (drop place tally)

-- there is room for a tally of so many rules, of which this is one, in a list that holds the tally from a place on
pub record HasPlaceFor (tallies : List Met) (capacity base many rule : ℕ) : Type 0 where
  pub low : base ≤ length tallies
  pub rising : AreRising 0 (drop base tallies)
  pub below : AreBelow many (drop base tallies)
  pub one : rule < many
  pub few : many ≤ 1024
  pub room : base + many ≤ capacity

-- the rule is recorded at a place of the list, and the tally records the same counts as before
pub record IsRecorded (old new : List Met) (base many rule place : ℕ) : Type 0 where
  pub following : ℕ
  pub is_place : place ≡ base + following
  pub front : take base new ≡ take base old
  pub rising : AreRising 0 (drop base new)
  pub below : AreBelow many (drop base new)
  pub counts : (j : ℕ) → count_in (drop base new) j ≡ count_in (drop base old) j
  pub place_of : IsPlaceOf (drop base new) rule following
  pub recorded : Met
  pub at : slice_get (drop base new) following ≡ Some recorded
  pub same : recorded.rule ≡ rule
