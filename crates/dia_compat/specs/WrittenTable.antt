-- The text of a table as it is written: a line for each pair, commands first.
use Rattle.std.specs.Prelude.{ℕ, IsTrue, List, [], ◌∷◌, ◌++◌, codes}
use Rattle.std.specs.List.{flat_map, AllByRecursion}
use Rattle.dia_compat.specs.TableText.{PlainTable, is_name_run, IsWithinLimits}

-- the line of a pair, without its end
abbrev pub pair_text : List ℕ → List ℕ × List ℕ → List ℕ
pair_text word p = word ++ codes " " ++ p.0 ++ codes " = " ++ p.1

abbrev pub pair_lines : List ℕ → List (List ℕ × List ℕ) → List ℕ
pair_lines word pairs = flat_map (λ p. pair_text word p ++ 10 ∷ []) pairs

abbrev pub table_text : PlainTable → List ℕ
table_text t = pair_lines (codes "command") t.commands ++ pair_lines (codes "avp") t.avps

abbrev pub AreNames : List ℕ × List ℕ → Type 0
AreNames p = IsTrue (is_name_run p.0) × IsTrue (is_name_run p.1)

-- some text says the table: its names are names, and it is within the limits
pub record IsWritable (t : PlainTable) : Type 0 where
  pub commands : AllByRecursion AreNames t.commands
  pub avps : AllByRecursion AreNames t.avps
  pub limits : IsWithinLimits t
