-- A text that is fed to a stream, a piece at a time.
use Rattle.std.specs.Prelude.{◌≡◌, ◌<◌, ◌↔◌, ◌⊎◌, ℕ, Bool, List, length, Result, Ok, Err, codes, IsTrue}
use Rattle.dia_dict.specs.declared.Book.{Ghosts}
use Rattle.dia_dict.specs.Dictionary.{Dictionary}
use Rattle.dia_check.specs.declared.Unknown.{Unknown}
use Rattle.dia_check.specs.declared.Levels.{Levels}
use Rattle.dia_check.specs.declared.Selected.{Selected}
use Rattle.dia_check.specs.declared.Refusal.{Refusal}
use Rattle.dia_check.specs.declared.Refusal.TheVariants as refusal
use Rattle.dia_check.specs.declared.Reason.TheVariants as reason
use Rattle.dia_check.specs.declared.Stream.{Stream}
use Rattle.dia_check.specs.Streaming.{taken_of}
use Rattle.dia_check.specs.Streams.{Denotes}
use Rattle.dia_run.specs.Texts.{SpellsNone}

-- of these bytes a stream took those of the message, and this says whether others follow them
pub record WasFed {B : Type 0} {ghosts : Ghosts B} (meaning : B → Dictionary) (s : Stream B ghosts)
    (d : Dictionary) (u : Unknown) (most : Levels) (bytes : List ℕ) (trailing : Bool) : Type 0 where
  pub occurs : Denotes meaning s d u most (taken_of bytes)
  pub follow : IsTrue trailing ↔ (length (taken_of bytes) < length bytes)

-- the text spells no bytes, and this is reported
abbrev pub IsNoHexadecimal : List ℕ → List ℕ → Type 0
IsNoHexadecimal text recorded = SpellsNone text × (recorded ≡ codes "message: not hexadecimal")

-- the version or Message Length is at fault, so that it isn't known where the message ends
abbrev pub IsEndless : Result Selected Refusal → Type 0
IsEndless (Ok found) = ⊥
IsEndless (Err (refusal.Fault f)) = (f.reason ≡ reason.Version) ⊎ (f.reason ≡ reason.Length)
IsEndless (Err refusal.Truncated) = ⊥
IsEndless (Err refusal.Trailing) = ⊥
IsEndless (Err refusal.NoMemory) = ⊥
IsEndless (Err refusal.Spent) = ⊥
