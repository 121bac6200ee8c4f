-- What is kept of a level that is being judged.
use Rattle.std.specs.Prelude.{◌≡◌, ℕ, ◌+◌, ◌*◌, List, map, Option, Some, None, MatchOption, nat_eq, slice_get, unwrap_or}
use Rattle.std.specs.Map.{lookup}
use Rattle.dia_wire.specs.declared.Key.{Key}
use Rattle.dia_wire.specs.Wire.{PlainAvp, key_of}
use Rattle.dia_book.specs.declared.DRule.{DRule}
use Rattle.dia_book.specs.Dictionary.{Dictionary, PlainDefinition, definitions}
use Rattle.dia_valid.specs.Valid.{fixed_rules}
use Rattle.dia_valid.specs.LongestRuns.{met, IsAt}
use Rattle.dia_terms.specs.declared.Levels.{Levels}
use Rattle.dia_check.specs.Walks.{Rest}
use Rattle.dia_faults.specs.Levels.{IsOpened}

-- what is counted of a rule of the level that begins at a place
abbrev pub count_of : List (ℕ × ℕ) → ℕ → ℕ → ℕ
count_of entries start rule = unwrap_or (lookup (nat_eq (start * 1024 + rule)) entries) 0

-- the counts are those of the keys, which end in a run
pub record IsCounted (entries : List (ℕ × ℕ)) (start run : ℕ) (rules : List DRule) (keys : List Key) : Type 0 where
  pub ends : IsAt (fixed_rules rules) run keys
  pub counted : (i : ℕ) (rule : DRule) → slice_get rules i ≡ Some rule → count_of entries start i ≡ met rules keys i rule

-- the definition with this number has these rules
pub record HasRules (d : Dictionary) (def : ℕ) (rules : List DRule) : Type 0 where
  pub definition : PlainDefinition
  pub is_definition : slice_get (definitions d) def ≡ Some definition
  pub is_rules : definition.rules ≡ rules

-- the keys of a level up to where its rest begins
abbrev pub rest_keys : Rest → List Key
rest_keys s = map key_of s.earlier

-- the data of the AVP is a level of the definition with this number, or none to judge
abbrev pub IsOpenedAs : Dictionary → Levels → ℕ → PlainAvp → Option ℕ → Type 0
IsOpenedAs d most depth v o = MatchOption o (IsOpened d most depth v None)
    (λ n. (g : PlainDefinition) × (slice_get (definitions d) n ≡ Some g) × IsOpened d most depth v (Some g))
