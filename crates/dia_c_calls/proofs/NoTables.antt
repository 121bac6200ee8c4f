-- The fault of a table's text is its problem.
use Rattle.std.proofs.Common.{◌≡◌, ◌≢◌, ℕ, ◌<◌, ◌≤◌, List, length, inl, inr, ap, ◌∙◌}
use Rattle.std.specs.Str.{IsUtf8}
use Rattle.std.proofs.lemmas.Bool.{cases_lt}
use Rattle.dia_compat.specs.declared.TableFault.{TableFault}
use Rattle.dia_compat.specs.declared.TableFault.TheVariants as table
use Rattle.dia_compat.specs.TableText.{IsTableFault, max_table}
use Rattle.dia_c_calls.specs.declared.opening.Problem.{Problem}
use Rattle.dia_c_calls.specs.Comparisons.{IsNoTable, table_problem}

pub has_fault : (text : List ℕ) (fault : TableFault) (p : Problem) → IsUtf8 text → (max_table < length text → fault ≡ table.Limit 0)
    → (length text ≤ max_table → IsTableFault text fault) → fault ≢ table.NoMemory → p ≡ table_problem fault → IsNoTable text p
has_fault text fault p utf8 long short live is =
    elim (cases_lt max_table (length text)) [
      | inl more ↦ IsNoTable.too_long utf8 more (is ∙ ap table_problem (long more))
      | inr within ↦ IsNoTable.fault fault utf8 within (short within) live is
    ]
