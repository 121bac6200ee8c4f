-- What `mask` writes of a line.
use Rattle.std.specs.Prelude.{◌≡◌, ℕ, ◌==◌, Bool, List, ◌++◌, Result, Ok, Err, is_ok, codes}
use Rattle.std.specs.List.{list_all}
use Rattle.hex.specs.Hex.{encode_lower}
use Rattle.dia_io.specs.declared.Input.{Input}
use Rattle.dia_streams.specs.declared.answered.Answered.{Answered as Lines}
use Rattle.dia_streams.specs.LinesUnderWay.{Ends, Reads}
use Rattle.dia_dict.specs.Dictionary.{Dictionary}
use Rattle.dia_run.specs.Texts.{IsMessageText, IsNoMessageText}
use Rattle.dia_mask.specs.declared.choice.Choice.{Choice}
use Rattle.dia_mask.specs.declared.words.Words.{Words}
use Rattle.dia_mask.specs.Masked.{IsMessageMasked}
use Rattle.dia_mask.specs.Replaced.{Numbering}
use Rattle.dia_mask.specs.Texts.{Agrees}
use Rattle.dia_mask_text.specs.declared.answering.Answered.{Answered}
use Rattle.dia_mask_text.specs.declared.spelling.Unread.{Unread}
use Rattle.dia_mask_text.specs.declared.spelling.Unread.TheVariants.{TooLong, NotHexadecimal}

-- what `check` says of a line that spells no bytes
abbrev pub why : Unread → List ℕ
why TooLong = codes "message: too long"
why NotHexadecimal = codes "message: not hexadecimal"

-- the bytes that take the place of those of a line, or why it spells none
abbrev pub MaskedLine : Type 0
MaskedLine = Result (List ℕ) Unread

abbrev pub line_text : MaskedLine → List ℕ
line_text (Ok new) = encode_lower new ++ codes "\n"
line_text (Err unread) = why unread ++ codes "\n"

-- the data of exactly the masked AVPs are replaced, by the numbers that words have
abbrev pub IsMaskedBy : Choice → Words → Dictionary → (bytes new : List ℕ) → Type 0
IsMaskedBy choice words d bytes new = (numbers : Numbering) → Agrees words numbers → IsMessageMasked choice numbers d bytes new

abbrev pub IsLineMasked : Choice → Words → Dictionary → Input → MaskedLine → Type 0
IsLineMasked choice words d line (Ok new) = (bytes : List ℕ) × IsMessageText line bytes × IsMaskedBy choice words d bytes new
IsLineMasked choice words d line (Err unread) = IsNoMessageText line (why unread)

-- each line spells bytes
abbrev pub are_messages : List MaskedLine → Bool
are_messages lines = list_all is_ok lines

-- ---- line after line

abbrev pub lines_of : Answered → Lines
lines_of now = record { line = now.line; count = now.count; space = now.space; text = now.text }

abbrev pub numbered_text : ℕ → MaskedLine → List ℕ
numbered_text number line = line_text line

-- so many lines spell no bytes, up to the greatest number: none exactly if each spells bytes
abbrev pub Counts : ℕ → List MaskedLine → Type 0
Counts unread lines = (unread == 0) ≡ are_messages lines

-- these bytes were read, and the lines that ended in them were masked; so many lines spelled no bytes before, and so many do now
abbrev pub ReadsMasked : Choice → Words → Dictionary → (old new : Answered) → (before now : ℕ) → List ℕ → List MaskedLine → Type 0
ReadsMasked choice words d old new before now bytes lines =
    Reads (IsLineMasked choice words d) numbered_text Counts (lines_of old) (lines_of new) before now bytes lines

-- the end was read
abbrev pub EndsMasked : Choice → Words → Dictionary → (old new : Answered) → (before now : ℕ) → List MaskedLine → Type 0
EndsMasked choice words d old new before now lines =
    Ends (IsLineMasked choice words d) numbered_text Counts (lines_of old) (lines_of new) before now lines
