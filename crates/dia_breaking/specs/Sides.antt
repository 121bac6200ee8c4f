-- The two sides of an upgrade, and what is reported of a command.
use Rattle.std.specs.Prelude.{ℕ, List}
use Rattle.dia_book.specs.Dictionary.{Dictionary}
use Rattle.dia_terms.specs.declared.Sends.{Sends}
use Rattle.dia_terms.specs.declared.Unknown.{Unknown}
use Rattle.dia_breaking.specs.declared.line.Breaks.{Breaks}
use Rattle.dia_breaking.specs.declared.line.Line.{Line}
use Rattle.dia_breaking.specs.declared.line.Site.{Site}

-- the dictionaries of both sides, what the side of the first sends, and what that of the second does with AVPs that it doesn't
-- know
pub record Sides : Type 0 where
  pub sender : Dictionary
  pub receiver : Dictionary
  pub sends : Sends
  pub unknown : Unknown

abbrev pub sides : Dictionary → Dictionary → Sends → Unknown → Sides
sides da db who u = record { sender = da; receiver = db; sends = who; unknown = u }

-- the sites and the lines of a command
pub record Answer : Type 0 where
  pub command : ℕ
  pub sites : List Site
  pub lines : List Line

abbrev pub answer : ℕ → List Site → List Line → Answer
answer c sites lines = record { command = c; sites = sites; lines = lines }

abbrev pub answer_of : Breaks → Answer
answer_of breaks = answer breaks.command breaks.sites.items breaks.lines.items
