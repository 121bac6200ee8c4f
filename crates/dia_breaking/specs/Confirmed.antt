-- What two checks of a message show: one under the sender's dictionary, one under the receiver's.
use Rattle.std.specs.Prelude.{◌≡◌, ◌≢◌, ⊤, ℕ, ◌-◌, nat_le, Bool, true, false, not, ◌&&◌, if◌then◌else◌, List, [], ◌∷◌, All, Some, Contains, slice_get}
use Rattle.dia_book.specs.Dictionary.{Dictionary, PlainDefinition, definitions}
use Rattle.dia_terms.specs.declared.Levels.TheVariants as levels
use Rattle.dia_terms.specs.declared.Sends.{Sends}
use Rattle.dia_terms.specs.declared.Sends.TheVariants.{Any, Known, Filled, Listed}
use Rattle.dia_valid.specs.Valid.{IsValid, IsValidOf}
use Rattle.dia_breaking_sites.specs.Sent.{own_policy, Breaks}
use Rattle.dia_valid.specs.Inclusion.{PlainTable, IsIncluded}
use Rattle.dia_breaking.specs.declared.line.Cause.{Cause}
use Rattle.dia_breaking.specs.declared.line.Cause.TheVariants as causes
use Rattle.dia_breaking.specs.declared.line.Line.{Line}
use Rattle.dia_breaking.specs.Sides.{Sides, sides}
use Rattle.dia_breaking.specs.declared.line.Standing.{Standing}
use Rattle.dia_breaking.specs.declared.line.Standing.TheVariants.{Confirmed, Unchecked, Undecided}

abbrev pub IsConfirmedBy : Sends → Sides → List ℕ → ℕ → Type 0
IsConfirmedBy Any s bytes c = Breaks s.sender s.receiver Any s.unknown bytes c
IsConfirmedBy Known s bytes c = Breaks s.sender s.receiver Known s.unknown bytes c
IsConfirmedBy Filled s bytes c = IsValidOf s.sender (own_policy Filled) levels.Any bytes c × (¬ IsValid s.receiver s.unknown levels.Any bytes)
IsConfirmedBy Listed s bytes c = IsValidOf s.sender (own_policy Listed) levels.Any bytes c × (¬ IsValid s.receiver s.unknown levels.Any bytes)

-- the message is valid for the sender, as one of the command c, and not for the receiver. Where AVPs have to be listed, it is only
-- known to be valid for a sender that sends what it knows
abbrev pub IsConfirmed : Sides → List ℕ → ℕ → Type 0
IsConfirmed s bytes c = IsConfirmedBy s.sends s bytes c

-- each line that is reported as confirmed has such a message
abbrev pub EachConfirmedBreaks : Sides → ℕ → List Line → Type 0
EachConfirmedBreaks s c lines = All (λ line. line.standing ≡ Confirmed → (bytes : List ℕ) × IsConfirmed s bytes c) lines

-- what a line reports, whatever its status: its site, and what breaks
abbrev pub recorded_of : Line → ℕ × Cause
recorded_of line = (line.site, line.cause)

-- none of the lines is reported as confirmed
abbrev pub NoneConfirmed : List Line → Type 0
NoneConfirmed lines = All (λ line. ¬ (line.standing ≡ Confirmed)) lines

-- ---- which messages are checked

-- the most bytes of a message that is checked
abbrev pub most_checked : ℕ
most_checked = 1048576

-- the most bytes of all messages of all commands that are checked
abbrev pub most_checked_together : ℕ
most_checked_together = 67108864

-- no message is known that breaks so
abbrev pub has_no_message : Cause → Bool
has_no_message (causes.LevelAsLeaf key) = true
has_no_message cause = false

-- the line's message is checked, where so many bytes are left for this line and those after it
abbrev pub is_checked : ℕ → Line → Bool
is_checked left line = not (has_no_message line.cause) && (nat_le line.length most_checked && nat_le line.length left)

-- how many bytes are left for the lines after it
abbrev pub left_following : ℕ → Line → ℕ
left_following left line = if is_checked left line then left - line.length else left

-- how many bytes are left after all of these
abbrev pub left_after : ℕ → List Line → ℕ
left_after left [] = left
left_after left (line ∷ lines) = left_after (left_following left line) lines

-- a line without message is undecided; one whose message is checked has been; and one whose message is too long hasn't
pub record IsStandingOf (left : ℕ) (line : Line) (standing : Standing) : Type 0 where
  pub undecided : has_no_message line.cause ≡ true → standing ≡ Undecided
  pub checked : is_checked left line ≡ true → standing ≢ Unchecked
  pub too_long : has_no_message line.cause ≡ false → is_checked left line ≡ false → standing ≡ Unchecked

-- so it is with each line, from the first on
abbrev pub HaveStandings : ℕ → List Line → Type 0
HaveStandings left [] = ⊤
HaveStandings left (line ∷ lines) = IsStandingOf left line line.standing × HaveStandings (left_following left line) lines

-- ---- a command that a table lists

-- the table has a pair of the command c
abbrev pub ListsCommand : Dictionary → PlainTable → ℕ → Type 0
ListsCommand da table c = (command : PlainDefinition) × (pair : List ℕ × List ℕ) × (slice_get (definitions da) c ≡ Some command) × Contains table.commands pair × (command.name ≡ pair.0)

-- where a table shows inclusion, with the sender's own policy for unknown AVPs on both sides, no message breaks a command that it
-- lists
abbrev pub IncludedBreakNothing : Type 0
IncludedBreakNothing = (da db : Dictionary) (who : Sends) (table : PlainTable) (c : ℕ) (bytes : List ℕ) → IsIncluded da db (own_policy who) table → ListsCommand da table c
    → ¬ IsConfirmed (sides da db who (own_policy who)) bytes c

-- and no line of such a command is reported as confirmed
abbrev pub IncludedHaveNoLines : Type 0
IncludedHaveNoLines = (da db : Dictionary) (who : Sends) (table : PlainTable) (c : ℕ) (lines : List Line) → IsIncluded da db (own_policy who) table → ListsCommand da table c
    → EachConfirmedBreaks (sides da db who (own_policy who)) c lines → NoneConfirmed lines
