-- What a departure or a note says of bytes whose header can't be read (RFC 6733 section 3).
use Rattle.std.specs.Prelude.{ℕ, List, [], ◌∷◌, ◌++◌, length, codes}
use Rattle.std.specs.Fmt.{decimal}
use Rattle.dia_wire.specs.Lengths.{header_length}
use Rattle.dia_wire.specs.Number.{number}
use Rattle.dia_follow.specs.declared.Reason.{Reason}
use Rattle.dia_follow.specs.declared.Reason.TheVariants as reason

-- the version
abbrev pub first_byte : List ℕ → ℕ
first_byte [] = 0
first_byte (b ∷ bs) = b

-- the Message Length, of four bytes and more
abbrev pub message_length : List ℕ → ℕ
message_length (version ∷ high ∷ middle ∷ low ∷ bytes) = number (high ∷ middle ∷ low ∷ [])
message_length bytes = 0

abbrev pub header_text : ℕ → List ℕ
header_text count = decimal count ++ codes " of " ++ decimal header_length ++ codes " bytes of the header"

-- `verdict` is what `check` reports
abbrev pub unread_text : List ℕ → List ℕ → Reason → List ℕ
unread_text bytes verdict reason.Version = decimal (first_byte bytes) ++ codes " for 1"
unread_text bytes verdict reason.Length = decimal (message_length bytes)
unread_text bytes verdict reason.Invalid = verdict
unread_text bytes verdict r = header_text (length bytes)
