-- The least table of pairs that the definitions of some commands ask for.
use Rattle.std.specs.Prelude.{◌≡◌, ℕ, ◌<◌, ◌⊎◌, ◌↔◌, List, [], ◌∷◌, ◌++◌, map, Some, Contains, slice_get, take, string_bytes, ⊤}
use Rattle.dia_wire.specs.declared.Key.{Key}
use Rattle.dia_book.specs.declared.DRule.{DRule}
use Rattle.dia_book.specs.Dictionary.{Dictionary, DictEntry, PlainDefinition}
use Rattle.dia_terms.specs.declared.Unknown.{Unknown}
use Rattle.dia_valid.specs.Valid.{known}
use Rattle.dia_compat.specs.declared.proposing.ProposeFault.{ProposeFault}
use Rattle.dia_compat.specs.declared.proposing.ProposeFault.TheVariants.{UnknownCommand, NoMemory}
use Rattle.dia_compat.specs.TableText.{PlainTable}
use Rattle.dia_compat.specs.Below.{IsAboveZero, IsCoveredAlone, IsKnown}
use Rattle.dia_valid.specs.Rules.{HasRule, IsListed, HasWildcard}
use Rattle.dia_compat.specs.Closed.{NamesEntry, NamesCommand, IsWanted, BothGrouped, IsClosed}

-- a definition of A wants a pair for a key that B knows
pub record WantsPair (da db : Dictionary) (u : Unknown) (rules : List DRule) (key : Key) : Type 0 where
  pub wanted : ((r : DRule) × HasRule rules key r × IsAboveZero r.max) ⊎ ((w : DRule) × HasWildcard rules w × IsAboveZero w.max × IsKnown da key × (¬ IsListed rules key))
  pub not_alone : ¬ IsCoveredAlone da db u key
  pub known_too : IsKnown db key

-- the keys of the least set of pairs: those that the commands want, and those that the groups of the set want
pub data IsProposed (da db : Dictionary) (u : Unknown) (commands : List (List ℕ × List ℕ)) : Key → Type 0 where
  by_command : (p : List ℕ × List ℕ) (c : PlainDefinition) (key : Key) → Contains commands p → NamesCommand da p.0 c → WantsPair da db u c.rules key → IsProposed da db u commands key
  by_group : (outer key : Key) (e f : DictEntry) (group : PlainDefinition) → IsProposed da db u commands outer → known da outer ≡ Some e → known db outer ≡ Some f
      → BothGrouped e f → e.group ≡ Some group → WantsPair da db u group.rules key → IsProposed da db u commands key

-- the names of the definitions of B paired with a command, in B's order; the command's own name alone where there is none
pub record AreBeside (da db : Dictionary) (c : PlainDefinition) (names : List (List ℕ)) : Type 0 where
  pub each : (d : PlainDefinition) → IsWanted da db c d → Contains names d.name
  pub only : (name : List ℕ) → Contains names name → ((d : PlainDefinition) × IsWanted da db c d × (d.name ≡ name)) ⊎ ((d : PlainDefinition) → ¬ IsWanted da db c d)
  pub alone : ((d : PlainDefinition) → ¬ IsWanted da db c d) → names ≡ c.name ∷ []
  pub in_order : (i j k l : ℕ) (d e : PlainDefinition) → i < j → slice_get names i ≡ Some d.name
      → slice_get names j ≡ Some e.name → slice_get db.commands k ≡ Some d → slice_get db.commands l ≡ Some e → k < l

-- the pairs of the named commands, each at its first mention
abbrev pub AreCommandPairs : Dictionary → Dictionary → List (List ℕ) → List (List ℕ) → List (List ℕ × List ℕ) → Type 0
AreCommandPairs da db earlier [] pairs = pairs ≡ []
AreCommandPairs da db earlier (name ∷ names) pairs =
    (Contains earlier name × AreCommandPairs da db earlier names pairs)
    ⊎ ((¬ Contains earlier name) × (c : PlainDefinition) × (beside : List (List ℕ)) × (rest : List (List ℕ × List ℕ)) × NamesCommand da name c × AreBeside da db c beside
    × (pairs ≡ map (λ b. (name, b)) beside ++ rest) × AreCommandPairs da db (earlier ++ name ∷ []) names rest)

-- the AVP pairs of these keys, in A's order of entries
pub record AreAvpPairs (da db : Dictionary) (wanted : Key → Type 0) (pairs : List (List ℕ × List ℕ)) : Type 0 where
  pub each : (p : List ℕ × List ℕ) → Contains pairs p ↔ ((e f : DictEntry) × NamesEntry da p.0 e × NamesEntry db p.1 f × (e.key ≡ f.key) × wanted e.key)
  pub in_order : (i j k l : ℕ) (p q : List ℕ × List ℕ) (e f : DictEntry) → i < j → slice_get pairs i ≡ Some p → slice_get pairs j ≡ Some q
      → slice_get da.entries k ≡ Some e → slice_get da.entries l ≡ Some f → e.name ≡ p.0 → f.name ≡ q.0 → k < l

-- the table for the named commands of A
pub record IsProposal (da db : Dictionary) (u : Unknown) (names : List (List ℕ)) (table : PlainTable) : Type 0 where
  pub commands : AreCommandPairs da db [] names table.commands
  pub avps : AreAvpPairs da db (IsProposed da db u table.commands) table.avps

-- the table has a pair for each of the names
abbrev pub ListsAll : List (List ℕ) → PlainTable → Type 0
ListsAll names table = (name : List ℕ) → Contains names name → (p : List ℕ × List ℕ) × Contains table.commands p × (p.0 ≡ name)

-- each pair of the one is in the other
pub record IsPartOf (table other : PlainTable) : Type 0 where
  pub commands : (p : List ℕ × List ℕ) → Contains table.commands p → Contains other.commands p
  pub avps : (p : List ℕ × List ℕ) → Contains table.avps p → Contains other.avps p

-- it lists the names; and where some table that does is closed, it is closed, and all of it is in that table
pub record IsLeast (da db : Dictionary) (u : Unknown) (names : List (List ℕ)) (table : PlainTable) : Type 0 where
  pub lists : ListsAll names table
  pub least : (other : PlainTable) → ListsAll names other → IsClosed da db u other → IsClosed da db u table × IsPartOf table other

-- the first name that A has no command of
pub record IsFirstUnknown (da : Dictionary) (names : List (List ℕ)) (name : List ℕ) : Type 0 where
  pub place : ℕ
  pub is_name : slice_get names place ≡ Some name
  pub unknown : (c : PlainDefinition) → ¬ NamesCommand da name c
  pub before : (other : List ℕ) → Contains (take place names) other → (c : PlainDefinition) × NamesCommand da other c

abbrev pub IsRefusal : Dictionary → List (List ℕ) → ProposeFault → Type 0
IsRefusal da names (UnknownCommand name) = IsFirstUnknown da names (string_bytes name)
IsRefusal da names NoMemory = ⊤
