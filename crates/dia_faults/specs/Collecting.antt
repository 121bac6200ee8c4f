-- Faults as they are collected: as many as were asked for, and whether there are more.
use Rattle.std.specs.Prelude.{◌≡◌, ℕ, Bool, List, ◌++◌, length, take, nat_lt}
use Rattle.dia_check.specs.declared.fault.Fault.{Fault}
use Rattle.dia_faults.specs.declared.collector.Collector.{Collector}

-- these are the first of all
pub record AreFirst (most : ℕ) (all firsts : List Fault) (more : Bool) : Type 0 where
  pub are_first : firsts ≡ take most all
  pub is_more : more ≡ nat_lt most (length all)

abbrev pub Holds : Collector → List Fault → Type 0
Holds c all = AreFirst c.most all c.faults.items c.more

-- these faults more are collected
pub record Adds (old new : Collector) (added : List Fault) : Type 0 where
  pub same_most : new.most ≡ old.most
  pub holds : (all : List Fault) → Holds old all → Holds new (all ++ added)
