-- What is looked up for the tests of a table's pairs, and the first test that one fails.
use Rattle.std.specs.Prelude.{◌≡◌, ℕ, ◌+◌, ◌<◌, ◌⊎◌, Bool, List, length, Option, Some, None, slice_get, MatchOption}
use Rattle.std.specs.Option.{option_map_or}
use Rattle.dia_book.specs.Dictionary.{Dictionary, DictEntry, IsDictionary, groups, group_place}
use Rattle.dia_compat.specs.declared.checking.Answer.{Answer}
use Rattle.dia_compat.specs.declared.checking.PairKind.{PairKind}
use Rattle.dia_compat.specs.declared.checking.PairKind.TheVariants as kind
use Rattle.dia_compat.specs.declared.checking.Test.{Test}
use Rattle.dia_compat.specs.declared.checking.Test.TheVariants.{N10}
use Rattle.dia_compat.specs.Sides.{Compared}
use Rattle.dia_compat.specs.Closed.{CommandTest, AvpTest, AvpPair, IsTableAnswer, test_number}
use Rattle.dia_compat.specs.PairTests.{NamePair, entry_named, command_named, all_selected, failed_commands, failed_groups}

-- all tests are passed, or this is the first that isn't
abbrev pub IsFirstFailed : (Test → Type 0) → Option Test → Type 0
IsFirstFailed P None = (t : Test) → P t
IsFirstFailed P (Some t) = (¬ P t) × ((s : Test) → test_number s < test_number t → P s)

abbrev pub PairTest : Compared → PairKind → NamePair → Test → Type 0
PairTest c kind.Command p test = CommandTest c.sides.first c.sides.second c.table c.sides.unknown test p
PairTest c kind.Avp p test = AvpTest c.sides.first c.sides.second c.table c.sides.unknown test p

abbrev pub IsAnswerOf : Compared → Answer → Type 0
IsAnswerOf c answer = IsTableAnswer c.sides.first c.sides.second c.sides.unknown c.table answer

-- these are the two dictionaries, and of each command of the first what the table has for it
pub record IsLookedUp (c : Compared) (a b : Dictionary) (selected : List Bool) : Type 0 where
  pub first_is : a ≡ c.sides.first
  pub second_is : b ≡ c.sides.second
  pub first_sound : IsDictionary c.sides.first
  pub second_sound : IsDictionary c.sides.second
  pub selected_are : selected ≡ all_selected c

abbrev pub failed_command : Compared → NamePair → Option Test
failed_command c p =
    option_map_or (λ i. option_map_or (λ j. failed_commands c (length (groups c.sides.first) + i) (length (groups c.sides.second) + j))
    (command_named c.sides.second p.1) (Some N10)) (command_named c.sides.first p.0) (Some N10)

-- of the entries at two places
abbrev pub FailsEntries : Compared → ℕ → ℕ → Option Test → Type 0
FailsEntries c i j found = (e f : DictEntry) → slice_get c.sides.first.entries i ≡ Some e → slice_get c.sides.second.entries j ≡ Some f
    → (AvpPair e f × (found ≡ failed_groups c (group_place c.sides.first i) (group_place c.sides.second j))) ⊎ ((¬ AvpPair e f) × (found ≡ Some N10))

abbrev pub FailsAvp : Compared → NamePair → Option Test → Type 0
FailsAvp c p found =
    MatchOption (entry_named c.sides.first p.0) (found ≡ Some N10) (λ i. MatchOption (entry_named c.sides.second p.1) (found ≡ Some N10) (λ j. FailsEntries c i j found))

-- ---- the first pair that fails

-- the pair at the place is the first of these that fails a test, and this is the first test that it fails
pub record IsFirstPair (P : NamePair → Test → Type 0) (pairs : List NamePair) (place : ℕ) (test : Test) : Type 0 where
  pub pair : NamePair
  pub at : slice_get pairs place ≡ Some pair
  pub fails : IsFirstFailed (P pair) (Some test)
  pub before : (k : ℕ) (p : NamePair) (t : Test) → k < place → slice_get pairs k ≡ Some p → P p t

abbrev pub IsFound : (NamePair → Test → Type 0) → List NamePair → Option (ℕ × Test) → Type 0
IsFound P pairs found = MatchOption found ((k : ℕ) (p : NamePair) (t : Test) → slice_get pairs k ≡ Some p → P p t) (λ f. IsFirstPair P pairs f.0 f.1)
