-- The header of a message, as a record of C.
use Rattle.std.specs.Prelude.{◌≡◌, ℕ, List, take}
use Rattle.dia_wire.specs.declared.Header.{Header}
use Rattle.dia_wire.specs.Wire.{IsHead, IsMessageLength}
use Rattle.dia_c_calls.specs.declared.heads.MessageHead.{MessageHead}

-- a header with this Message Length
abbrev pub head_record : Header → ℕ → MessageHead
head_record h len = record { length = len; flags = h.flags; code = h.code; app = h.app; hop = h.hop; e2e = h.e2e }

-- the bytes begin with this header of a message (RFC 6733 section 3)
abbrev pub BeginsWithHead : List ℕ → MessageHead → Type 0
BeginsWithHead bytes recorded = (h : Header) × (len : ℕ) × IsHead h len (take 20 bytes) × IsMessageLength len × (recorded ≡ head_record h len)
