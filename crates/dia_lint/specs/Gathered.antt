-- What findings are added, and the definitions whose least levels no message has room for, one after the other.
use Rattle.std.specs.Prelude.{◌≡◌, ℕ, zero, suc, ◌+◌, nat_le, true, false, if◌then◌else◌, List, [], ◌∷◌, ◌++◌, Bool, Option, Some, None, IfSome}
use Rattle.std.specs.List.{filter_map}
use Rattle.std.specs.Option.{option_map_or}
use Rattle.dia_book.specs.Dictionary.{Dictionary, group_place}
use Rattle.dia_breaking_levels.specs.LevelTests.{too_long}
use Rattle.dia_breaking_shortest.specs.Lengths.{entry_length}
use Rattle.dia_lint.specs.declared.finding.Finding.{Finding}
use Rattle.dia_lint.specs.declared.finding.Subject.{Subject}
use Rattle.dia_lint.specs.declared.rule.Rule.{Rule}
use Rattle.dia_lint.specs.declared.rule.Rule.TheVariants.{NeverHeld, NeverListed, NeverStands}
use Rattle.dia_lint.specs.Exact.{AreOfMessages, is_no_level, is_no_message, is_of_messages, reported}

-- n parts, one after the other
abbrev pub gathered : {X : Type 0} → (ℕ → List X) → ℕ → List X
gathered part zero = []
gathered part (suc n) = gathered part n ++ part n

-- of the commands, whose numbers begin with the first
abbrev pub long_command : (ℕ → ℕ) → ℕ → ℕ → List ℕ
long_command level first i = if nat_le too_long (level (first + i)) then (first + i) ∷ [] else []

abbrev pub long_commands : (ℕ → ℕ) → ℕ → ℕ → List ℕ
long_commands level first n = gathered (long_command level first) n

-- of the groups, by their entries
abbrev pub long_group : Dictionary → List ℕ → ℕ → List ℕ
long_group d lengths e = option_map_or (λ def. if nat_le too_long (entry_length lengths e) then def ∷ [] else []) (group_place d e) []

abbrev pub long_groups : Dictionary → List ℕ → ℕ → List ℕ
long_groups d lengths n = gathered (long_group d lengths) n

-- a rule about what messages have
abbrev pub is_of_ways : Rule → Bool
is_of_ways NeverStands = true
is_of_ways NeverHeld = true
is_of_ways NeverListed = true
is_of_ways rule = false

-- a rule, and what it is reported of
abbrev pub reports : Rule → Subject → Rule × Subject
reports rule subject = (rule, subject)

abbrev pub way_of : Finding → Option (Rule × Subject)
way_of x = if is_of_ways x.rule then Some (reports x.rule x.subject) else None

-- what findings of such rules report, in their order
abbrev pub ways_in : List Finding → List (Rule × Subject)
ways_in found = filter_map way_of found

-- findings of the rules about levels are added for these definitions, and of those about what messages have for these subjects, and
-- none but of rules about messages
pub record Adds (messages levels : List ℕ) (ways : List (Rule × Subject)) (old new : List Finding) : Type 0 where
  pub of_messages : reported is_no_message new ≡ reported is_no_message old ++ messages
  pub of_levels : reported is_no_level new ≡ reported is_no_level old ++ levels
  pub of_ways : ways_in new ≡ ways_in old ++ ways
  pub rules : AreOfMessages old → AreOfMessages new
