-- Where nothing is marked, nothing breaks.
use Rattle.std.specs.Prelude.{◌≡◌, ℕ, Bool, false, List, [], All}
use Rattle.std.specs.List.{AllByRecursion, list_any}
use Rattle.dia_breaking.specs.Free.{AllAreValid}
use Rattle.dia_breaking.specs.Sides.{Sides}
use Rattle.dia_differences.specs.declared.lines.Effects.{Effects}
use Rattle.dia_differences.specs.declared.lines.What.{What}
use Rattle.dia_diff.specs.declared.subjects.Subject.{Subject}
use Rattle.dia_diff.specs.Marks.{AllAreRead, AreFound, AreMarks, breaks_by, ignores_by, is_other_by}
use Rattle.dia_diff.specs.Origins.{Found, Route}

-- without lines each message of the command that the sender sends is valid for the receiver
abbrev pub IsValidIfNone : Sides → Found → Type 0
IsValidIfNone s f = f.answer.lines ≡ [] → ∥ AllAreValid s f.answer.command ∥₁

-- what comes of the differences for the first commands, of so many
pub record MarksFound (there : Subject → Bool) (r : Route) (count : ℕ) (effects : What → Effects) : Type 0 where
  pub founds : List Found
  pub are_found : AreFound r.between count founds
  pub valid : All (IsValidIfNone r.between) founds
  pub breaks : (w : What) → (effects w).breaks ≡ list_any (breaks_by there r w) founds
  pub other_format : (w : What) → (effects w).other_format ≡ list_any (is_other_by there r w) founds
  pub ignored : (w : What) → (effects w).ignored ≡ list_any (ignores_by there r w) founds

-- the same of all commands, and where none of some differences breaks messages, each one that the sender sends is valid for the
-- receiver
pub record AreSoundMarks (r : Route) (ws : List What) (effects : What → Effects) : Type 0 where
  pub marks : AreMarks r ws effects
  pub unbroken : (ws ≡ [] → ⊥) → AllByRecursion (λ w. (effects w).breaks ≡ false) ws → AllAreRead r.between
