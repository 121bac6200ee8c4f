-- Lines with their marks.
use Rattle.std.specs.Prelude.{◌≡◌, false, List}
use Rattle.std.specs.List.{AllByRecursion}
use Rattle.dia_book.specs.Dictionary.{Dictionary}
use Rattle.dia_terms.specs.declared.Sends.{Sends}
use Rattle.dia_terms.specs.declared.Unknown.{Unknown}
use Rattle.dia_breaking.specs.Sides.{sides}
use Rattle.dia_differences.specs.declared.lines.Effects.{Effects}
use Rattle.dia_differences.specs.declared.lines.Line.{Line}
use Rattle.dia_differences.specs.declared.lines.What.{What}
use Rattle.dia_differences.specs.declared.sides.Side.TheVariants.{First, Second}
use Rattle.dia_differences.specs.Partners.{matches_of}
use Rattle.dia_diff.specs.Marks.{AllAreRead, AreMarks, whats}
use Rattle.dia_diff.specs.Origins.{Route}

-- messages that A's side sends
abbrev pub there_from : Dictionary → Dictionary → Sends → Unknown → Route
there_from a b sends unknown = record { between = sides a b sends unknown; side = First; commands = (matches_of a b).commands }

-- messages that B's side sends
abbrev pub back_from : Dictionary → Dictionary → Sends → Unknown → Route
back_from a b sends unknown = record { between = sides b a sends unknown; side = Second; commands = (matches_of a b).commands_back }

abbrev pub with_marks : (What → Effects) → (What → Effects) → Line → Line
with_marks there back line = record { what = line.what; there = there line.what; back = back line.what }

-- each line says `breaks A to B` exactly if a line of `breaking` for A's side comes from its difference, `read as another format A to
-- B` exactly if a line `meaning` does, and `ignored A to B` exactly if AVPs that A's side sends are ignored by it; likewise from B to
-- A. Where no line says that it breaks messages, each message that the side sends is valid for the other
pub record AreMarkedLines (a b : Dictionary) (sends : Sends) (unknown : Unknown) (lines : List Line) : Type 0 where
  pub effects_there : What → Effects
  pub effects_back : What → Effects
  pub there : AreMarks (there_from a b sends unknown) (whats lines) effects_there
  pub back : AreMarks (back_from a b sends unknown) (whats lines) effects_back
  pub marks : AllByRecursion (λ line. (line.there ≡ effects_there line.what) × (line.back ≡ effects_back line.what)) lines
  pub unbroken_there : AllByRecursion (λ line. line.there.breaks ≡ false) lines → AllAreRead (sides a b sends unknown)
  pub unbroken_back : AllByRecursion (λ line. line.back.breaks ≡ false) lines → AllAreRead (sides b a sends unknown)
