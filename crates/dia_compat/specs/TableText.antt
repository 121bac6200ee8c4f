-- The text of a table of pairs (our profile).
use Rattle.std.specs.Prelude.{◌≡◌, ℕ, suc, ◌+◌, ◌<◌, ◌≤◌, ◌⊎◌, ◌==◌, ◌||◌, Bool, IsTrue, List, [], ◌∷◌, ◌++◌}
use Rattle.std.specs.Prelude.{length, map, take, Option, Some, None, option_to_list, codes, string_bytes, String, slice_get, ⊤}
use Rattle.std.specs.List.{filter_map, list_all, AllByRecursion}
use Rattle.std.specs.Global.{Global}
use Rattle.std.specs.Str.Lines.{lines}
pub use Rattle.dia_terms.specs.Limits.{max_table}
pub use Rattle.dia_terms.specs.Limits.{max_name}
pub use Rattle.dia_terms.specs.Names.{is_run_byte, is_name_run}
pub use Rattle.dia_valid.specs.Inclusion.{PlainTable}
use Rattle.dia_compat.specs.declared.table.Table.{Table}
use Rattle.dia_compat.specs.declared.table.TableFault.{TableFault}
use Rattle.dia_compat.specs.declared.table.TableFault.TheVariants as fault

abbrev pub plain_pair : String Global × String Global → List ℕ × List ℕ
plain_pair p = (string_bytes p.0, string_bytes p.1)

abbrev pub plain_table : Table → PlainTable
plain_table t = record { commands = map plain_pair t.commands.items; avps = map plain_pair t.avps.items }

-- the most pairs of a table
abbrev pub most_pairs : ℕ
most_pairs = 65536

-- what a line may hold
pub data Line : Type 0 where
  Blank : Line
  Command : (a b : List ℕ) → Line
  Avp : (a b : List ℕ) → Line

abbrev pub is_blank : ℕ → Bool
is_blank c = c == 32 || c == 9

abbrev pub IsSpace : List ℕ → Type 0
IsSpace bytes = IsTrue (list_all is_blank bytes)

abbrev pub IsGap : List ℕ → Type 0
IsGap bytes = (0 < length bytes) × IsSpace bytes

-- white space, and a comment if there is one
abbrev pub IsTail : List ℕ → Type 0
IsTail bytes = (space : List ℕ) × (comment : List ℕ) × IsSpace space × (bytes ≡ space ++ comment) × ((comment ≡ []) ⊎ ((rest : List ℕ) × (comment ≡ 59 ∷ rest)))

-- `word A = B`, where the names may have any length
pub record IsPair (word a b line : List ℕ) : Type 0 where
  pub front : List ℕ
  pub first : List ℕ
  pub second : List ℕ
  pub third : List ℕ
  pub tail : List ℕ
  pub parts : line ≡ front ++ word ++ first ++ a ++ second ++ codes "=" ++ third ++ b ++ tail
  pub is_front : IsSpace front
  pub gaps : IsGap first × IsGap second × IsGap third
  pub is_tail : IsTail tail
  pub names : IsTrue (is_name_run a) × IsTrue (is_name_run b)

abbrev pub IsLine : Line → List ℕ → Type 0
IsLine Blank bytes = IsTail bytes
IsLine (Command a b) bytes = IsPair (codes "command") a b bytes
IsLine (Avp a b) bytes = IsPair (codes "avp") a b bytes

abbrev pub command_pair : Line → Option (List ℕ × List ℕ)
command_pair Blank = None
command_pair (Command a b) = Some (a, b)
command_pair (Avp a b) = None

abbrev pub avp_pair : Line → Option (List ℕ × List ℕ)
avp_pair Blank = None
avp_pair (Command a b) = None
avp_pair (Avp a b) = Some (a, b)

abbrev pub table_of : List Line → PlainTable
table_of ls = record { commands = filter_map command_pair ls; avps = filter_map avp_pair ls }

-- what one more line adds to a table
abbrev pub with_line : PlainTable → Line → PlainTable
with_line t l = record { commands = t.commands ++ option_to_list (command_pair l); avps = t.avps ++ option_to_list (avp_pair l) }

abbrev pub AreLines : List Line → List (List ℕ) → Type 0
AreLines [] [] = ⊤
AreLines (l ∷ ls) (t ∷ ts) = IsLine l t × AreLines ls ts
AreLines ls ts = ⊥

abbrev pub HasShortNames : List ℕ × List ℕ → Type 0
HasShortNames p = (length p.0 ≤ max_name) × (length p.1 ≤ max_name)

abbrev pub IsWithinLimits : PlainTable → Type 0
IsWithinLimits t = (length t.commands + length t.avps ≤ most_pairs) × AllByRecursion HasShortNames t.commands × AllByRecursion HasShortNames t.avps

-- the lines are those of the table, within the limits
abbrev pub IsTableOf : List (List ℕ) → PlainTable → Type 0
IsTableOf ts table = (ls : List Line) × AreLines ls ts × (table ≡ table_of ls) × IsWithinLimits table

abbrev pub IsTable : List ℕ → PlainTable → Type 0
IsTable text table = IsTableOf (lines text) table

-- line k, from 0, is the first with which the lines so far are no table
pub record IsFirstFault (ts : List (List ℕ)) (k : ℕ) (line : List ℕ) : Type 0 where
  pub is_line : slice_get ts k ≡ Some line
  pub before : (table : PlainTable) × IsTableOf (take k ts) table
  pub here : (table : PlainTable) → ¬ IsTableOf (take (suc k) ts) table

abbrev pub HasForm : List ℕ → Type 0
HasForm line = (l : Line) × IsLine l line

abbrev pub IsTableFault : List ℕ → TableFault → Type 0
IsTableFault text (fault.Syntax n) = (k : ℕ) × (line : List ℕ) × (n ≡ suc k) × IsFirstFault (lines text) k line × (¬ HasForm line)
IsTableFault text (fault.Limit n) = (k : ℕ) × (line : List ℕ) × (n ≡ suc k) × IsFirstFault (lines text) k line × HasForm line
IsTableFault text fault.NoMemory = ⊤
