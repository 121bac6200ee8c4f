-- The commands that were named so far, and what was reached from them.
use Rattle.std.specs.Prelude.{◌≡◌, ℕ, ◌⊎◌, if◌then◌else◌, true, List, [], ◌∷◌, ◌++◌, map, Option, Some, None, Contains, slice_get}
use Rattle.std.specs.Option.{option_map, option_map_or}
use Rattle.dia_wire.specs.declared.Key.{Key}
use Rattle.dia_book.specs.Dictionary.{Dictionary, DictEntry, PlainDefinition}
use Rattle.dia_valid.specs.Valid.{known}
use Rattle.dia_compat.specs.declared.proposing.naming.NamedCommands.{NamedCommands}
use Rattle.dia_compat.specs.declared.proposing.reaching.Reached.{Reached}
use Rattle.dia_compat.specs.Sides.{Sides}
use Rattle.dia_compat.specs.TableText.{plain_pair}
use Rattle.dia_compat.specs.Closed.{NamesCommand}
use Rattle.dia_compat.specs.Proposed.{AreCommandPairs}
use Rattle.dia_compat.specs.ReachedKeys.{has, Admits, Wants, ComesToAll, AllWait, AreRest}
use Rattle.dia_compat.specs.WantedNames.{names_beside}

-- the pair of an AVP of A, if it was reached and B knows its key
abbrev pub shared_pair : Dictionary → Reached → DictEntry → Option (List ℕ × List ℕ)
shared_pair db r e = if has r e.key then option_map (λ f. (e.name, f.name)) (known db e.key) else None

-- what one command more adds: nothing where it was named before
pub record Same (old new : NamedCommands) : Type 0 where
  pub places : new.places.keys ≡ old.places.keys
  pub pairs : map plain_pair new.pairs.items ≡ map plain_pair old.pairs.items
  pub reached : new.reached ≡ old.reached

pub record Adds (sides : Sides) (place : ℕ) (c : PlainDefinition) (old new : NamedCommands) : Type 0 where
  pub places : new.places.keys ≡ old.places.keys ++ place ∷ []
  pub pairs : map plain_pair new.pairs.items ≡ map plain_pair old.pairs.items ++ map (λ name. (c.name, name)) (names_beside sides c)
  pub reached : ComesToAll sides (Admits c.rules) old.reached new.reached

abbrev pub AddsOnce : Sides → ℕ → PlainDefinition → NamedCommands → NamedCommands → Type 0
AddsOnce sides place c old new = (Contains old.places.keys place × Same old new) ⊎ ((¬ Contains old.places.keys place) × Adds sides place c old new)

-- the name of the command at a place
abbrev pub name_at : Dictionary → ℕ → List ℕ
name_at d place = option_map_or (λ c. c.name) (slice_get d.commands place) []

-- the keys that were reached are those that the commands of the pairs want, and all of them wait
pub record AreRoots (sides : Sides) (pairs : List (List ℕ × List ℕ)) (r : Reached) : Type 0 where
  pub each : (key : Key) → has r key ≡ true → (p : List ℕ × List ℕ) × (c : PlainDefinition) × Contains pairs p × NamesCommand sides.first p.0 c × Wants sides c.rules key
  pub all : (p : List ℕ × List ℕ) (c : PlainDefinition) (key : Key) → Contains pairs p → NamesCommand sides.first p.0 c → Wants sides c.rules key → has r key ≡ true
  pub wait : AllWait r
  pub rest : AreRest sides r

-- names that were gone through, and what is still to come
pub record NamedSoFar (sides : Sides) (gone left : List (List ℕ)) (named : NamedCommands) : Type 0 where
  pub owed : (more : List (List ℕ × List ℕ)) → AreCommandPairs sides.first sides.second (map (name_at sides.first) named.places.keys) left more → AreCommandPairs sides.first sides.second [] (gone ++ left) (map plain_pair named.pairs.items ++ more)
  pub roots : AreRoots sides (map plain_pair named.pairs.items) named.reached
  pub within : (place : ℕ) → Contains named.places.keys place → (c : PlainDefinition) × (slice_get sides.first.commands place ≡ Some c)
  pub listed : (p : List ℕ × List ℕ) → Contains (map plain_pair named.pairs.items) p → Contains (map (name_at sides.first) named.places.keys) p.0
  pub known : (name : List ℕ) → Contains gone name → (c : PlainDefinition) × NamesCommand sides.first name c
