-- What is wrong with where and how often the AVPs of a level stand (RFC 6733 section 3.2), all of it; each rule is reported once.
use Rattle.std.specs.Prelude.{◌≡◌, ℕ, zero, suc, ◌-◌, List, [], ◌∷◌, ◌++◌, length, Option, Some, None, slice_get, nat_lt, if◌then◌else◌}
use Rattle.dia_wire.specs.declared.Key.{Key}
use Rattle.dia_book.specs.declared.DRule.{DRule}
use Rattle.dia_valid.specs.Valid.{fixed_rules}
use Rattle.dia_valid.specs.LongestRuns.{met, IsAt}
use Rattle.dia_check.specs.declared.fault.Reason.TheVariants as reason
use Rattle.dia_check.specs.declared.fault.Subject.TheVariants.{Avp}
use Rattle.dia_check.specs.declared.open_levels.Wrong.{Wrong}
use Rattle.dia_check.specs.Faults.{subject_of}
use Rattle.dia_check.specs.OpenLevels.{IsNotAllowed}

-- the rule's AVP is missing
abbrev pub missing : DRule → Wrong
missing rule = record { reason = reason.Missing; subject = subject_of rule.key }

-- the rule with this number, where it is met less often than its min
abbrev pub missing_at : (ℕ → DRule → ℕ) → ℕ → Option DRule → List Wrong
missing_at count i None = []
missing_at count i (Some rule) = if nat_lt (count i rule) rule.min then missing rule ∷ [] else []

-- so of n rules from a number on
abbrev pub missing_from : (ℕ → DRule → ℕ) → List DRule → (i n : ℕ) → List Wrong
missing_from count rules i zero = []
missing_from count rules i (suc n) = missing_at count i (slice_get rules i) ++ missing_from count rules (suc i) n

-- the rules from one number up to another that the keys meet too seldom
abbrev pub missing_between : List DRule → List Key → (from to : ℕ) → List Wrong
missing_between rules keys from to = missing_from (met rules keys) rules from (to - from)

-- one key more: the count of a rule becomes greater than its max
abbrev pub IsOneTooMany : List DRule → List Key → Key → Type 0
IsOneTooMany rules keys key = (i : ℕ) × (rule : DRule) × (max : ℕ) × (slice_get rules i ≡ Some rule) × (rule.max ≡ Some max)
    × (met rules keys i rule ≡ max) × (met rules (keys ++ key ∷ []) i rule ≡ suc max)

-- what is wrong with a key in the run or the loose part that it leads to
pub data IsMisput (rules : List DRule) (keys : List Key) (key : Key) : List Wrong → Type 0 where
  fine : ¬ IsNotAllowed rules keys key → ¬ IsOneTooMany rules keys key → IsMisput rules keys key []
  not_allowed : IsNotAllowed rules keys key → IsMisput rules keys key (record { reason = reason.NotAllowed; subject = Avp key } ∷ [])
  too_many : ¬ IsNotAllowed rules keys key → IsOneTooMany rules keys key → IsMisput rules keys key (record { reason = reason.TooMany; subject = Avp key } ∷ [])

-- the rules say this of a key behind others: the fixed rules whose runs end there and are too short, and what is wrong with the key
pub record ArePlaced (rules : List DRule) (keys : List Key) (key : Key) (wrongs : List Wrong) : Type 0 where
  pub from : ℕ
  pub to : ℕ
  pub is_from : IsAt (fixed_rules rules) from keys
  pub is_to : IsAt (fixed_rules rules) to (keys ++ key ∷ [])
  pub misput : List Wrong
  pub is_misput : IsMisput rules keys key misput
  pub parts : wrongs ≡ missing_between rules keys from to ++ misput

-- and this of the end of a level with these keys: the rules that are met too seldom, unless their run ended at an AVP
pub record AreMissingAtEnd (rules : List DRule) (keys : List Key) (wrongs : List Wrong) : Type 0 where
  pub from : ℕ
  pub is_from : IsAt (fixed_rules rules) from keys
  pub parts : wrongs ≡ missing_between rules keys from (length rules)
