-- Two dictionaries compared by the text of a table of pairs.
use Rattle.std.specs.Prelude.{◌≡◌, ◌≢◌, ◌<◌, ◌≤◌, ◌==◌, if◌then◌else◌, ℕ, List, length}
use Rattle.std.specs.Str.{IsUtf8}
use Rattle.dia_terms.specs.declared.Unknown.{Unknown}
use Rattle.dia_book.specs.Dictionary.{Dictionary}
use Rattle.dia_compat.specs.declared.Answer.{Answer}
use Rattle.dia_compat.specs.declared.TableFault.{TableFault}
use Rattle.dia_compat.specs.declared.TableFault.TheVariants as table
use Rattle.dia_compat.specs.TableText.{PlainTable, IsTable, IsTableFault, max_table}
use Rattle.dia_compat.specs.Closed.{IsIncluded, IsTableAnswer}
use Rattle.dia_explain_places.specs.Tables.{limit_place, syntax_place}
use Rattle.dia_io.specs.declared.Exit.{Exit}
use Rattle.dia_io.specs.declared.Exit.TheVariants.{Yes, No, Bad}
use Rattle.dia_run.specs.Pairs.{IsAnswerText}
use Rattle.dia_c_calls.specs.declared.opening.Problem.{Problem}
use Rattle.dia_c_calls.specs.Openings.{problem}

-- the line of the answer for a table, which is that of `diacmd compare`. Where it is `yes`, each valid message of a command that
-- the table lists is valid under the second dictionary
abbrev pub IsComparedBy : Dictionary → Dictionary → Unknown → PlainTable → List ℕ → Exit → Type 0
IsComparedBy a b u t line exit = (answer : Answer) × IsTableAnswer a b u t answer × IsAnswerText t answer line exit × (exit ≡ Yes → IsIncluded a b u t)

-- the same for the text of a table
abbrev pub IsCompared : Dictionary → Dictionary → Unknown → List ℕ → List ℕ → Exit → Type 0
IsCompared a b u text line exit = IsUtf8 text × (t : PlainTable) × IsTable text t × IsComparedBy a b u t line exit

-- whether the answer is yes
abbrev pub holds_of : Exit → ℕ
holds_of Yes = 1
holds_of No = 0
holds_of Bad = 0

abbrev pub HasCompared : Dictionary → Dictionary → Unknown → List ℕ → List ℕ → ℕ → Type 0
HasCompared a b u text line holds = (exit : Exit) × IsCompared a b u text line exit × (holds ≡ holds_of exit)

abbrev pub table_problem : TableFault → Problem
table_problem (table.Syntax n) = problem 1 n 0
table_problem (table.Limit n) = problem 3 n 0
table_problem table.NoMemory = problem 0 0 0

-- the text is no table, and this is why
pub data IsNoTable (text : List ℕ) (p : Problem) : Type 0 where
  not_text : ¬ IsUtf8 text → p ≡ problem 0 0 0 → IsNoTable text p
  too_long : IsUtf8 text → max_table < length text → p ≡ problem 3 0 0 → IsNoTable text p
  fault : (f : TableFault) → IsUtf8 text → length text ≤ max_table → IsTableFault text f → f ≢ table.NoMemory → p ≡ table_problem f → IsNoTable text p

-- where the text of a table is refused, by the kind and the line that are delivered: 1 is of its syntax, 3 of a limit
abbrev pub table_place : List ℕ → ℕ → ℕ → ℕ
table_place text kind n = if kind == 1 then syntax_place text n else (if kind == 3 then limit_place text n else 0)
