-- What a checker records of the levels that are open: the run that each is in, and its tally.
use Rattle.std.specs.Prelude.{◌≡◌, ◌≢◌, ℕ, suc, ◌+◌, ◌<◌, ◌≤◌, ◌⊎◌, ◌==◌, if◌then◌else◌, false, List, [], ◌∷◌, ◌++◌, length, Option, Some, None, slice_get, slice_index, IsTrue, vec_capacity}
use Rattle.dia_wire.specs.declared.Key.{Key}
use Rattle.dia_book.specs.declared.DRule.{DRule}
use Rattle.dia_book.specs.Dictionary.{Dictionary, PlainDefinition, definitions}
use Rattle.dia_check.specs.declared.fault.Reason.{Reason}
use Rattle.dia_check.specs.declared.fault.Reason.TheVariants as reason
use Rattle.dia_check.specs.declared.fault.Subject.{Subject}
use Rattle.dia_check.specs.declared.fault.Subject.TheVariants.{Avp}
use Rattle.dia_check.specs.declared.open_levels.OpenLevel.{OpenLevel}
use Rattle.dia_check.specs.declared.open_levels.OpenLevels.{OpenLevels}
use Rattle.dia_check.specs.declared.open_levels.Wrong.{Wrong}
use Rattle.dia_check.specs.declared.open_levels.tally.Met.{Met}
use Rattle.dia_check.specs.Tallies.{count_in, AreRising, AreBelow}
use Rattle.dia_valid.specs.Valid.{fixed_rules, is_listed, has_wildcard}
use Rattle.dia_valid.specs.LongestRuns.{runs, run_end, loose_start, met, IsAt}
use Rattle.dia_check.specs.Faults.{subject_of, IsFirstShort, IsFirstMissing}
use Rattle.dia_check.specs.Reasons.{row_of}

-- ---- what is wrong with a key after others, by the rules of their level

-- the loose part has a fixed key, or an unlisted one where there is no wildcard
abbrev pub IsNotAllowed : List DRule → List Key → Key → Type 0
IsNotAllowed rules keys key =
    (loose_start rules (keys ++ key ∷ []) ≤ length keys)
    × (IsTrue (is_listed (fixed_rules rules) key) ⊎ ((is_listed rules key ≡ false) × (has_wildcard rules ≡ false)))

-- after these keys, the key isn't where or as often as the rules say
pub data IsMisplaced (rules : List DRule) (keys : List Key) (key : Key) : Reason → Subject → Type 0 where
  missing : (i : ℕ) (rule : DRule) → IsFirstShort rules (keys ++ key ∷ []) i rule → run_end rules i (keys ++ key ∷ []) ≡ length keys
      → IsMisplaced rules keys key reason.Missing (subject_of rule.key)
  not_allowed : IsNotAllowed rules keys key → IsMisplaced rules keys key reason.NotAllowed (Avp key)
  too_many : (i : ℕ) (rule : DRule) (max : ℕ) → slice_get rules i ≡ Some rule → rule.max ≡ Some max → met rules keys i rule ≡ max
      → met rules (keys ++ key ∷ []) i rule ≡ suc max → IsMisplaced rules keys key reason.TooMany (Avp key)

pub record IsFirstMisplaced (rules : List DRule) (keys : List Key) (key : Key) (wrong : Wrong) : Type 0 where
  pub misplaced : IsMisplaced rules keys key wrong.reason wrong.subject
  pub none_sooner : (r : Reason) (s : Subject) → IsMisplaced rules keys key r s → row_of wrong.reason ≤ row_of r

-- nothing is wrong with the key
abbrev pub IsWellPlaced : List DRule → List Key → Key → Type 0
IsWellPlaced rules keys key = (r : Reason) (s : Subject) → ¬ IsMisplaced rules keys key r s

-- at the end of a level each rule is met, or the first that is not is reported
abbrev pub IsMetAtEnd : List DRule → List Key → Type 0
IsMetAtEnd rules keys = (i : ℕ) (rule : DRule) → ¬ IsFirstMissing rules keys i rule

abbrev pub IsMissingAtEnd : List DRule → List Key → Wrong → Type 0
IsMissingAtEnd rules keys wrong =
    (i : ℕ) × (rule : DRule) × IsFirstMissing rules keys i rule × (wrong.reason ≡ reason.Missing) × (wrong.subject ≡ subject_of rule.key)

-- ---- one level

-- the rules from one place up to another are met often enough
abbrev pub AreMet : List DRule → List Met → ℕ → ℕ → Type 0
AreMet rules tally from to = (i : ℕ) (rule : DRule) → from ≤ i → i < to → slice_get rules i ≡ Some rule → rule.min ≤ count_in tally i

-- the first rule from one place up to another that is not
pub record IsFirstUnmet (rules : List DRule) (tally : List Met) (from to i : ℕ) : Type 0 where
  pub from_here : from ≤ i
  pub inside : i < to
  pub rule : DRule
  pub is_rule : slice_get rules i ≡ Some rule
  pub unmet : count_in tally i < rule.min
  pub met_before : AreMet rules tally from i

-- the counts are those of the keys; and the rules before the run are met
pub record IsCounted (rules : List DRule) (keys : List Key) (level : OpenLevel) (tally : List Met) : Type 0 where
  pub run : IsAt (fixed_rules rules) level.run keys
  pub rising : AreRising 0 tally
  pub below : AreBelow (length rules) tally
  pub counted : (i : ℕ) (rule : DRule) → slice_get rules i ≡ Some rule → count_in tally i ≡ met rules keys i rule
  pub met_before : AreMet rules tally 0 level.run
  pub done_within : level.done ≤ length rules
  pub done : AreMet rules tally 0 level.done

-- where one key more leads: into the run of a fixed rule or past all the runs, and to the rule that counts it
pub record Leads (rules : List DRule) (keys : List Key) (key : Key) (old run : ℕ) (rule : Option ℕ) : Type 0 where
  pub at : IsAt (fixed_rules rules) run (keys ++ key ∷ [])
  pub within : (run ≤ length (fixed_rules rules)) × (old ≤ length (fixed_rules rules))
  pub same_runs : (i : ℕ) → i < run → slice_index (runs (fixed_rules rules) (keys ++ key ∷ [])) i ≡ slice_index (runs (fixed_rules rules) keys) i
  pub passed : (i : ℕ) → old ≤ i → i < run → run_end rules i (keys ++ key ∷ []) ≡ length keys
  pub not_passed : (i : ℕ) → run ≤ i → i < length (fixed_rules rules) → run_end rules i (keys ++ key ∷ []) ≢ length keys
  pub counts : (i : ℕ) → rule ≡ Some i
      → (i < length rules) × (¬ IsNotAllowed rules keys key)
      × ((j : ℕ) (other : DRule) → slice_get rules j ≡ Some other → met rules (keys ++ key ∷ []) j other ≡ met rules keys j other + (if j == i then 1 else 0))
  pub counts_none : rule ≡ None
      → IsNotAllowed rules keys key × ((j : ℕ) (other : DRule) → slice_get rules j ≡ Some other → met rules (keys ++ key ∷ []) j other ≡ met rules keys j other)

-- one key more leads to a rule that counts it, and the rules that are passed are met
abbrev pub IsLed : List DRule → List Key → Key → List Met → (old run rule : ℕ) → Type 0
IsLed rules keys key tally old run rule = Leads rules keys key old run (Some rule) × AreMet rules tally old run

-- one key more is met: nothing is wrong with it, and it is counted
pub record IsMet (rules : List DRule) (keys : List Key) (key : Key) (level : OpenLevel) (tally : List Met) : Type 0 where
  pub none_wrong : IsWellPlaced rules keys key
  pub counted : IsCounted rules (keys ++ key ∷ []) level tally

-- ---- all levels

-- a level by its rules, its end, and the keys of its AVPs so far
pub record SoFar : Type 0 where
  pub rules : List DRule
  pub end : ℕ
  pub keys : List Key

abbrev pub begun : List DRule → ℕ → SoFar
begun rules end = record { rules = rules; end = end; keys = [] }

-- one key more can be counted
abbrev pub HasRoom : SoFar → Type 0
HasRoom level = length level.keys < 4294967295

abbrev pub and_key : SoFar → Key → SoFar
and_key level key = record { rules = level.rules; end = level.end; keys = level.keys ++ key ∷ [] }

-- what is recorded of a level: its definition's number, its end, and its tally
pub record IsKept (defs : List PlainDefinition) (kept : OpenLevel) (tally : List Met) (level : SoFar) : Type 0 where
  pub definition : PlainDefinition
  pub is_definition : slice_get defs kept.def ≡ Some definition
  pub is_rules : definition.rules ≡ level.rules
  pub is_end : kept.end ≡ level.end
  pub counted : IsCounted level.rules level.keys kept tally

-- the levels, the outermost first, with their tallies one after the other from a place on
abbrev pub AreKept : List PlainDefinition → ℕ → List OpenLevel → List Met → List SoFar → Type 0
AreKept defs base [] tallies [] = tallies ≡ []
AreKept defs base [] tallies (level ∷ levels) = ⊥
AreKept defs base (kept ∷ others) tallies [] = ⊥
AreKept defs base (kept ∷ others) tallies (level ∷ levels) =
    (mine : List Met) × (rest : List Met) × (tallies ≡ mine ++ rest) × (kept.base ≡ base) × IsKept defs kept mine level × AreKept defs (base + length mine) others rest levels

-- there is room for the tally of a level in which each rule is met, and for that of each level round it
abbrev pub HasTallyRoom : ℕ → OpenLevel → SoFar → Type 0
HasTallyRoom capacity kept level = kept.base + length level.rules ≤ capacity

abbrev pub HaveTallyRoom : ℕ → List OpenLevel → List SoFar → Type 0
HaveTallyRoom capacity [] [] = Unit {0}
HaveTallyRoom capacity [] (level ∷ levels) = ⊥
HaveTallyRoom capacity (kept ∷ others) [] = ⊥
HaveTallyRoom capacity (kept ∷ others) (level ∷ levels) = HasTallyRoom capacity kept level × HaveTallyRoom capacity others levels

-- the open levels: those round the innermost, the outermost first, and the innermost
pub record AreOpen (defs : List PlainDefinition) (open_levels : OpenLevels) (outer : List SoFar) (level : SoFar) : Type 0 where
  pub before : List Met
  pub mine : List Met
  pub parts : open_levels.tallies.items ≡ before ++ mine
  pub are_outer : AreKept defs 0 open_levels.outer.items before outer
  pub base : open_levels.innermost.base ≡ length before
  pub innermost : IsKept defs open_levels.innermost mine level
  pub outer_room : HaveTallyRoom (vec_capacity open_levels.tallies) open_levels.outer.items outer
  pub room : HasTallyRoom (vec_capacity open_levels.tallies) open_levels.innermost level

-- the open levels have their definitions in this dictionary
abbrev pub AreOpenUnder : Dictionary → OpenLevels → List SoFar → SoFar → Type 0
AreOpenUnder d open_levels outer level = AreOpen (definitions d) open_levels outer level
