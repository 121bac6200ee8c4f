-- The verdict of a message that comes in pieces.
use Rattle.std.specs.Prelude.{◌≡◌, ℕ, ◌++◌, List, [], drop, length, take, if◌then◌else◌, Option, None, Some, Result}
use Rattle.dia_book.specs.Dictionary.{Dictionary}
use Rattle.dia_terms.specs.declared.Unknown.{Unknown}
use Rattle.dia_terms.specs.declared.Levels.{Levels}
use Rattle.dia_check.specs.declared.Progress.{Progress}
use Rattle.dia_check.specs.declared.Refusal.{Refusal}
use Rattle.dia_check.specs.declared.Selected.{Selected}
use Rattle.dia_check.specs.Faults.{IsAnswer}
use Rattle.dia_check.specs.Pauses.{WasSpent}
use Rattle.dia_check.specs.Streaming.{CountsLevels, OpensLevel, Takes, taken_of}
use Rattle.dia_c_calls.specs.declared.held.Held.{Held}
use Rattle.dia_c_calls.specs.declared.held.Held.TheVariants.{Dict, Text, Faults, Peer, Stream, Nothing}
use Rattle.dia_c_calls.specs.declared.streams.Fed.{Fed}
use Rattle.dia_c_calls.specs.declared.verdict.Verdict.{Verdict}
use Rattle.dia_c_calls.specs.Held.{Denotes, IsCheckedBy}
use Rattle.dia_c_calls.specs.Verdicts.{IsVerdict}

-- whatever message is held: this holds of its dictionary, its policy, its limit, and its bytes so far
abbrev pub OfMessage : Option Held → (Dictionary → Unknown → Levels → List ℕ → Type 0) → Type 0
OfMessage held P = (d : Dictionary) (u : Unknown) (most : Levels) (bytes : List ℕ) → Denotes held d u most bytes → P d u most bytes

abbrev pub fed_of : Progress → Fed
fed_of progress = record { taken = progress.taken; done = if progress.done then 1 else 0 }

-- the front of the piece that belongs to the message was taken, and the message has these bytes more
abbrev pub HasFed : Option Held → Option Held → List ℕ → Fed → Type 0
HasFed old new piece fed = (progress : Progress) × (fed ≡ fed_of progress) × OfMessage old
    (λ d u most bytes. Takes bytes piece progress × Denotes new d u most (bytes ++ take progress.taken piece))

-- a level begins in what belongs to the message
abbrev pub OpensIn : Option Held → List ℕ → Type 0
OpensIn held piece = OfMessage held (λ d u most bytes. OpensLevel d most bytes (drop (length bytes) (taken_of (bytes ++ piece))))

-- the verdict is that of the answer of a check of the bytes so far
abbrev pub HasFinished : Option Held → Verdict → Type 0
HasFinished held verdict = OfMessage held (λ d u most bytes. (answer : Result Selected Refusal) × IsAnswer d u most bytes answer × IsVerdict answer verdict)

-- so many levels are open
abbrev pub HasLevels : Option Held → ℕ → Type 0
HasLevels held n = OfMessage held (λ d u most bytes. CountsLevels d u most bytes n)

-- it denotes what it denoted
abbrev pub IsKept : Option Held → Option Held → Type 0
IsKept old new = OfMessage old (λ d u most bytes. Denotes new d u most bytes)

-- a message is checked by what checked the one before it
abbrev pub IsCheckedAlike : Option Held → Option Held → Type 0
IsCheckedAlike old new = (d : Dictionary) (u : Unknown) (most : Levels) → IsCheckedBy old d u most → IsCheckedBy new d u most

-- nothing came yet of the message, which is checked by what checked the one before it
abbrev pub BeginsAgain : Option Held → Option Held → Type 0
BeginsAgain old new = (d : Dictionary) (u : Unknown) (most : Levels) → IsCheckedBy old d u most → Denotes new d u most []

-- it is a message to which memory was refused
abbrev pub IsSpent : Option Held → Type 0
IsSpent None = ⊥
IsSpent (Some (Dict owner room)) = ⊥
IsSpent (Some (Text text)) = ⊥
IsSpent (Some (Faults faults)) = ⊥
IsSpent (Some (Peer peer)) = ⊥
IsSpent (Some (Stream feeding)) = WasSpent feeding.paused
IsSpent (Some Nothing) = ⊥

-- it denotes no message
abbrev pub DenotesNone : Option Held → Type 0
DenotesNone held = (d : Dictionary) (u : Unknown) (most : Levels) (bytes : List ℕ) → ¬ Denotes held d u most bytes
