-- Which AVPs a proposal has reached, and which of their groups are still to be gone through.
use Rattle.std.specs.Prelude.{◌≡◌, ℕ, ◌+◌, ◌≤◌, ◌⊎◌, Bool, true, not, if◌then◌else◌, List, [], ◌∷◌, ◌++◌, length, count_by, Some, Contains}
use Rattle.std.specs.List.{list_any}
use Rattle.dia_wire.specs.declared.Key.{Key}
use Rattle.dia_book.specs.Keys.{same_key}
use Rattle.dia_book.specs.declared.DRule.{DRule}
use Rattle.dia_book.specs.Dictionary.{Dictionary, DictEntry, PlainDefinition}
use Rattle.dia_valid.specs.Valid.{known}
use Rattle.dia_compat.specs.declared.proposing.reaching.Reached.{Reached}
use Rattle.dia_compat.specs.Sides.{Sides}
use Rattle.dia_compat.specs.Below.{IsAboveZero, IsKnown}
use Rattle.dia_valid.specs.Rules.{HasRule, IsListed, HasWildcard}
use Rattle.dia_compat.specs.Closed.{BothGrouped}

-- it has reached the AVP with this key
abbrev pub has : Reached → Key → Bool
has r key = list_any (same_key key) r.keys.keys

abbrev pub Waits : Reached → Key → Type 0
Waits r key = Contains r.waiting.items key

abbrev pub IsShared : Sides → Key → Type 0
IsShared sides key = IsKnown sides.first key × IsKnown sides.second key

abbrev pub IsAllowedBy : DRule → Key → Type 0
IsAllowedBy rule key = (rule.key ≡ Some key) × IsAboveZero rule.max

-- a rule for the key lets it in
abbrev pub IsAllowed : List DRule → Key → Type 0
IsAllowed rules key = (r : DRule) × HasRule rules key r × IsAboveZero r.max

-- the wildcard lets the key in
abbrev pub IsOpenTo : List DRule → Key → Type 0
IsOpenTo rules key = ((w : DRule) × HasWildcard rules w × IsAboveZero w.max) × (¬ IsListed rules key)

-- a definition of A lets in the key, which both know
abbrev pub Admits : List DRule → Key → Type 0
Admits rules key = IsAllowed rules key ⊎ IsOpenTo rules key

abbrev pub Wants : Sides → List DRule → Key → Type 0
Wants sides rules key = Admits rules key × IsShared sides key

-- this key is there now, and waits if it is new
pub record Inserts (key : Key) (old new : Reached) : Type 0 where
  pub keys : (other : Key) → has new other ≡ (if same_key key other then true else has old other)
  pub waiting : new.waiting.items ≡ (if has old key then old.waiting.items else old.waiting.items ++ key ∷ [])
  pub rest : new.rest.items ≡ old.rest.items

-- how many AVPs of A it has not reached, and how many wait
abbrev pub potential : Dictionary → Reached → ℕ
potential da r = count_by (λ e. not (has r e.key)) da.entries + length r.waiting.items

-- it has reached some keys that have P, which now wait
pub record Grew (da : Dictionary) (P : (Key → Type 0)) (old new : Reached) : Type 0 where
  pub grows : (key : Key) → has old key ≡ true → has new key ≡ true
  pub only : (key : Key) → has new key ≡ true → (has old key ≡ true) ⊎ P key
  pub still : (key : Key) → Waits old key → Waits new key
  pub waits : (key : Key) → Waits new key → Waits old key ⊎ (has new key ≡ true)
  pub queued : (key : Key) → has new key ≡ true → (has old key ≡ true) ⊎ Waits new key
  pub nearer : potential da new ≤ potential da old

-- a key that both know is still among the rest, unless it is there now
abbrev pub KeepsRest : Sides → Reached → Reached → Type 0
KeepsRest sides old new = (key : Key) → IsShared sides key → Contains old.rest.items key → (has new key ≡ true) ⊎ Contains new.rest.items key

-- the key is there now, if both know it
pub record ComesTo (sides : Sides) (key : Key) (old new : Reached) : Type 0 where
  pub grew : Grew sides.first (λ other. (other ≡ key) × IsShared sides other) old new
  pub there : IsShared sides key → has new key ≡ true
  pub rest : KeepsRest sides old new

-- all keys with P that both know are there now
pub record ComesToAll (sides : Sides) (P : (Key → Type 0)) (old new : Reached) : Type 0 where
  pub grew : Grew sides.first (λ key. P key × IsShared sides key) old new
  pub there : (key : Key) → P key → IsShared sides key → has new key ≡ true
  pub rest : KeepsRest sides old new

-- each key that both know was reached, or is one of the rest
abbrev pub AreRest : Sides → Reached → Type 0
AreRest sides r = (key : Key) → IsShared sides key → (has r key ≡ true) ⊎ Contains r.rest.items key

-- the key is there now, where the rules don't list it and both know it, and is one of the rest where they list it
pub record Sorts (sides : Sides) (rules : List DRule) (key : Key) (old new : Reached) : Type 0 where
  pub comes : ComesToAll sides (λ other. (other ≡ key) × ¬ IsListed rules other) old new
  pub left : IsShared sides key → (has new key ≡ true) ⊎ Contains new.rest.items key

-- what follows from the keys that it had reached
pub data Follows (sides : Sides) (roots : Reached) : Key → Type 0 where
  root : (key : Key) → has roots key ≡ true → Follows sides roots key
  in_group : (outer key : Key) (e f : DictEntry) (group : PlainDefinition) → Follows sides roots outer → known sides.first outer ≡ Some e → known sides.second outer ≡ Some f
      → BothGrouped e f → e.group ≡ Some group → Wants sides group.rules key → Follows sides roots key

-- the group of A's AVP of this key, where B's is Grouped too
pub record IsSharedGroup (sides : Sides) (key : Key) (group : PlainDefinition) : Type 0 where
  pub e : DictEntry
  pub f : DictEntry
  pub at_a : known sides.first key ≡ Some e
  pub at_b : known sides.second key ≡ Some f
  pub both : BothGrouped e f
  pub is_group : e.group ≡ Some group

-- each key that it has reached waits, and each that waits is one
pub record AllWait (r : Reached) : Type 0 where
  pub each : (key : Key) → has r key ≡ true → Waits r key
  pub only : (key : Key) → Waits r key → has r key ≡ true
