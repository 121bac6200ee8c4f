-- Lines whose messages were checked: the very message that is written for a line breaks as the line reports.
use Rattle.std.specs.Prelude.{◌≡◌, ◌↔◌, ⊤, ℕ, ◌+◌, true, List, [], ◌∷◌, length}
use Rattle.dia_wire.specs.Lengths.{header_length}
use Rattle.dia_breaking.specs.declared.line.Line.{Line}
use Rattle.dia_breaking.specs.declared.line.Site.{Site}
use Rattle.dia_breaking.specs.declared.line.Standing.{Standing}
use Rattle.dia_breaking.specs.declared.line.Standing.TheVariants.{Confirmed}
use Rattle.dia_breaking.specs.Confirmed.{IsConfirmed, is_checked, left_following}
use Rattle.dia_breaking.specs.Corrected.{BreaksAfter}
use Rattle.dia_breaking.specs.Messages.{IsLineMessage, Stock}
use Rattle.dia_breaking.specs.Sides.{Sides}

-- the bytes are the message of the line, and have the reported length; A's side sends it, and B's side refuses it, and, unless
-- the line is about the header, refuses it also once its header is fixed
pub record BreaksAsRecorded (s : Sides) (k : Stock) (c : ℕ) (sites : List Site) (line : Line) (bytes : List ℕ) : Type 0 where
  pub message : IsLineMessage s k c sites line bytes
  pub size : length bytes ≡ header_length + line.length
  pub confirmed : IsConfirmed s bytes c
  pub following : BreaksAfter s c sites line bytes

-- the message of the line breaks so
abbrev pub IsBroken : Sides → Stock → ℕ → List Site → Line → Type 0
IsBroken s k c sites line = (bytes : List ℕ) × BreaksAsRecorded s k c sites line bytes

-- a line is confirmed exactly where its message is checked, and breaks so
abbrev pub IsConfirmedWhere : Sides → Stock → ℕ → List Site → ℕ → Line → Standing → Type 0
IsConfirmedWhere s k c sites left line standing = (standing ≡ Confirmed) ↔ ((is_checked left line ≡ true) × IsBroken s k c sites line)

-- so it is with each line, from the first on
abbrev pub AreConfirmedWhere : Sides → Stock → ℕ → List Site → ℕ → List Line → Type 0
AreConfirmedWhere s k c sites left [] = ⊤
AreConfirmedWhere s k c sites left (line ∷ lines) =
    IsConfirmedWhere s k c sites left line line.standing × AreConfirmedWhere s k c sites (left_following left line) lines
