-- The lines of a table's text as the program reads them.
use Rattle.std.specs.Prelude.{◌≡◌, ℕ, ◌+◌, ◌<◌, List, length}
use Rattle.dia_compat.specs.declared.table.line.Line.{Line as ReadLine}
use Rattle.dia_compat.specs.declared.table.line.Line.TheVariants as lines
use Rattle.dia_compat.specs.TableText.{PlainTable, Line, Blank, Command, Avp, with_line, IsLine, HasShortNames, IsWithinLimits, most_pairs}

-- a line that was read, as a plain value
abbrev pub shown : ReadLine → Line
shown lines.Blank = Blank
shown (lines.Command a b) = Command a.now b.now
shown (lines.Avp a b) = Avp a.now b.now

-- one pair more, of these names, is within the limits
abbrev pub HasRoom : PlainTable → List ℕ × List ℕ → Type 0
HasRoom t p = (length t.commands + length t.avps < most_pairs) × HasShortNames p

-- the line's pair, if it has one, is within the limits and follows those before
pub record Adds (line : List ℕ) (old new : PlainTable) : Type 0 where
  pub said : Line
  pub is_line : IsLine said line
  pub added : new ≡ with_line old said
  pub limits : IsWithinLimits new

-- the line's pair is one too many, or has a name that is too long
pub record PassesLimit (line : List ℕ) (old : PlainTable) : Type 0 where
  pub said : Line
  pub is_line : IsLine said line
  pub passed : ¬ IsWithinLimits (with_line old said)
