-- A request: its header and its AVPs (RFC 6733 section 3).
use Rattle.std.specs.Prelude.{◌≡◌, ℕ, ◌<◌, ◌≤◌, List, [], ◌++◌, length, take, drop, slice_index, ⊤}
use Rattle.std.specs.List.{AllByRecursion}
use Rattle.dia_wire.specs.declared.Header.{Header}
use Rattle.dia_wire.specs.Lengths.{header_length}
use Rattle.dia_wire.specs.Number.{number}
use Rattle.dia_wire.specs.Wire.{PlainAvp, SpellsAll, BeginsWithNone}
use Rattle.dia_check.specs.declared.Reason.{Reason}
use Rattle.dia_check.specs.declared.Reason.TheVariants as reason

-- each is a byte
abbrev pub AreBytes : List ℕ → Type 0
AreBytes bytes = AllByRecursion (λ byte. byte < 256) bytes

-- the fields of a header as version 1 has them, whatever the version and the Message Length of the bytes are
pub record IsRequestHead (h : Header) (bytes : List ℕ) : Type 0 where
  pub long : header_length ≤ length bytes
  pub flags : h.flags ≡ slice_index bytes 4
  pub code : h.code ≡ number (take 3 (drop 5 bytes))
  pub app : h.app ≡ number (take 4 (drop 8 bytes))
  pub hop : h.hop ≡ number (take 4 (drop 12 bytes))
  pub e2e : h.e2e ≡ number (take 4 (drop 16 bytes))

-- the AVPs of a level, up to a place where none begins
pub record AreFront (avps : List PlainAvp) (level : List ℕ) : Type 0 where
  pub front : List ℕ
  pub rest : List ℕ
  pub parts : level ≡ front ++ rest
  pub spelled : SpellsAll avps front
  pub none : BeginsWithNone rest

-- those of a request; with a wrong version or Message Length it has no bounds, so none of its AVPs is read
abbrev pub AreRequestAvps : Reason → List PlainAvp → List ℕ → Type 0
AreRequestAvps reason.Version avps bytes = avps ≡ []
AreRequestAvps reason.Length avps bytes = avps ≡ []
AreRequestAvps r avps bytes = AreFront avps (drop header_length bytes)

-- a fault of the header
abbrev pub IsOfHeader : Reason → Type 0
IsOfHeader reason.Version = ⊤
IsOfHeader reason.Length = ⊤
IsOfHeader reason.Bits = ⊤
IsOfHeader reason.Command = ⊤
IsOfHeader reason.Application = ⊤
IsOfHeader reason.Proxiable = ⊤
IsOfHeader r = ⊥
