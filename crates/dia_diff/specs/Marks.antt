-- Which differences break messages, and which let AVPs be read as another format, or be ignored.
use Rattle.std.specs.Prelude.{◌≡◌, ℕ, ◌+◌, zero, suc, Bool, true, List, [], ◌∷◌, ◌++◌, length, map, All, Option, Some, None, IfSome, IsSome, find}
use Rattle.std.specs.List.{flat_map, list_any}
use Rattle.dia_book.specs.Dictionary.{groups}
use Rattle.dia_terms.specs.declared.Levels.TheVariants as levels
use Rattle.dia_valid.specs.Valid.{IsValid}
use Rattle.dia_breaking_sites.specs.Sent.{IsSent}
use Rattle.dia_breaking.specs.Sides.{Sides}
use Rattle.dia_breaking.specs.TheLines.{HasTheLines}
use Rattle.dia_breaking.specs.TheMeanings.{AreMeaningsOf}
use Rattle.dia_breaking.specs.Words.{head_at}
use Rattle.dia_breaking.specs.declared.line.Line.{Line as Breach}
use Rattle.dia_differences.specs.declared.lines.Effects.{Effects}
use Rattle.dia_differences.specs.declared.lines.Line.{Line}
use Rattle.dia_differences.specs.declared.lines.What.{What}
use Rattle.dia_diff.specs.declared.origins.Origin.{Origin}
use Rattle.dia_diff.specs.declared.subjects.Subject.{Subject}
use Rattle.dia_diff.specs.Candidates.{candidates}
use Rattle.dia_diff.specs.Ignored.{ignored}
use Rattle.dia_diff.specs.Origins.{Found, Route, origin}
use Rattle.dia_diff.specs.Subjects.{same_subject, subjects}

-- what lines are about
abbrev pub whats : List Line → List What
whats lines = map (λ line. line.what) lines

-- ---- one line of `breaking`

-- the list has the subject
abbrev pub has : List Subject → Subject → Bool
has list q = list_any (λ k. same_subject k q) list

-- some difference is about it
abbrev pub is_there : List What → Subject → Bool
is_there ws q = has (flat_map subjects ws) q

-- the difference is about a subject of the list; without a list each is meant
abbrev pub is_of : Option (List Subject) → What → Bool
is_of None w = true
is_of (Some list) w = list_any (has list) (subjects w)

-- the difference is about a subject of the first list that has one that is there; where none has, each is meant
abbrev pub is_meant : (Subject → Bool) → List (List Subject) → What → Bool
is_meant there lists w = is_of (find (list_any there) lists) w

-- what is about this comes from the difference
abbrev pub is_from : (Subject → Bool) → Route → What → Origin → Bool
is_from there r w about = is_meant there (candidates r about) w

abbrev pub comes_from : (Subject → Bool) → Route → Found → What → Breach → Bool
comes_from there r f w breach = is_from there r w (origin r f breach)

-- ---- one command

-- some line of `breaking` comes from the difference
abbrev pub breaks_by : (Subject → Bool) → Route → What → Found → Bool
breaks_by there r w f = list_any (comes_from there r f w) f.answer.lines

-- some line `meaning` of `breaking --meaning` does
abbrev pub is_other_by : (Subject → Bool) → Route → What → Found → Bool
is_other_by there r w f = list_any (comes_from there r f w) f.meanings

-- AVPs are ignored by the difference
abbrev pub ignores_by : (Subject → Bool) → Route → What → Found → Bool
ignores_by there r w f = list_any (is_from there r w) (ignored r f)

-- ---- all lines of `breaking`

-- these are the lines of `breaking --meaning` for a command of the sender
pub record IsFound (s : Sides) (f : Found) : Type 0 where
  pub command : f.answer.command ≡ length (groups s.sender) + f.place
  pub head : IfSome (head_at s.sender f.answer.command) (λ own. (f.code ≡ own.code) × (f.class ≡ own.class))
  pub lines : IsSome (head_at s.sender f.answer.command) → HasTheLines s f.answer
  pub meanings : IsSome (head_at s.sender f.answer.command) → AreMeaningsOf s f.answer f.meanings

-- the places below a number
abbrev pub places_below : ℕ → List ℕ
places_below zero = []
places_below (suc n) = places_below n ++ n ∷ []

-- these are those of the first commands, of so many
pub record AreFound (s : Sides) (count : ℕ) (founds : List Found) : Type 0 where
  pub places : map (λ f. f.place) founds ≡ places_below count
  pub each : All (IsFound s) founds

-- what comes of each difference: messages break, AVPs are read as another format, or AVPs are ignored, of some command
pub record AreMarks (r : Route) (ws : List What) (effects : What → Effects) : Type 0 where
  pub founds : List Found
  pub are_found : AreFound r.between (length r.between.sender.commands) founds
  pub breaks : (w : What) → (effects w).breaks ≡ list_any (breaks_by (is_there ws) r w) founds
  pub other_format : (w : What) → (effects w).other_format ≡ list_any (is_other_by (is_there ws) r w) founds
  pub ignored : (w : What) → (effects w).ignored ≡ list_any (ignores_by (is_there ws) r w) founds

-- ---- where nothing is marked

-- each message that the sender sends is valid for the receiver
abbrev pub AllAreRead : Sides → Type 0
AllAreRead s = (bytes : List ℕ) (c : ℕ) → IsSent s.sender s.sends bytes c → ∥ IsValid s.receiver s.unknown levels.Any bytes ∥₁
