-- Messages back to back, as hexadecimal text with white space anywhere, and the verdicts on them.
use Rattle.std.specs.Prelude.{◌≡◌, ℕ, ◌+◌, ◌*◌, ◌<◌, ◌≤◌, ◌⊎◌, ⊤, List, [], ◌∷◌, ◌++◌, Option, None, Some, length, take}
use Rattle.std.specs.List.{flat_map}
use Rattle.std.specs.Io.KnownBytes.{Appends, Consumes}
pub use Rattle.dia_terms.specs.Texts.{is_white, digits_of}
use Rattle.hex.specs.Hex.{hex_digit_value}
use Rattle.dia_wire.specs.Wire.{BeginsMessage}
use Rattle.dia_io.specs.Writing.{AppendsFront}
use Rattle.dia_streams.specs.FeedToSink.{Sees}

-- ---- the bytes of a text

-- two digits spell a byte
abbrev pub IsPair : (high low byte : ℕ) → Type 0
IsPair high low byte = (a : ℕ) × (b : ℕ) × (hex_digit_value high ≡ Some a) × (hex_digit_value low ≡ Some b) × (byte ≡ a * 16 + b)

-- the digits spell the bytes, a pair each
abbrev pub AreSpelled : (digits bytes : List ℕ) → Type 0
AreSpelled [] [] = ⊤
AreSpelled [] (byte ∷ bytes) = ⊥
AreSpelled (high ∷ []) bytes = ⊥
AreSpelled (high ∷ low ∷ digits) [] = ⊥
AreSpelled (high ∷ low ∷ digits) (byte ∷ bytes) = IsPair high low byte × AreSpelled digits bytes

-- no pair of digits is at the front
abbrev pub BeginsNoPair : List ℕ → Type 0
BeginsNoPair [] = ⊤
BeginsNoPair (high ∷ []) = ⊤
BeginsNoPair (high ∷ low ∷ rest) = (byte : ℕ) → ¬ IsPair high low byte

-- the pairs of digits at the front of the text spell these bytes; the rest, without white space, begins with no pair
pub record Spells (text bytes left : List ℕ) : Type 0 where
  pub digits : List ℕ
  pub parts : digits_of text ≡ digits ++ left
  pub spelled : AreSpelled digits bytes
  pub stops : BeginsNoPair left

-- ---- messages

-- as many bytes as the Message Length at their front says
abbrev pub IsMessage : List ℕ → Type 0
IsMessage bytes = BeginsMessage bytes (length bytes)

-- less than a whole message, or nothing
abbrev pub IsPart : List ℕ → Type 0
IsPart bytes = (length bytes < 20) ⊎ ((n : ℕ) × BeginsMessage bytes n × (length bytes < n))

-- a header with a bad version or Message Length at the front: it isn't known where the next message begins
abbrev pub IsEndless : List ℕ → Type 0
IsEndless bytes = (20 ≤ length bytes) × ((n : ℕ) → ¬ BeginsMessage bytes n)

-- ---- verdicts. P says which verdict the bytes of a message have, or a message that isn't hexadecimal. Each verdict follows
-- the place where its message begins

-- the verdicts on whole messages, the first of them at a place
pub data AreRecorded {V : Type 0} (P : Option (List ℕ) → V → Type 0) : (at : ℕ) (bytes : List ℕ) → List (ℕ × V) → Type 0 where
  none : {at : ℕ} → AreRecorded P at [] []
  message : {at : ℕ} {bytes : List ℕ} {verdicts : List (ℕ × V)} (first rest : List ℕ) (verdict : V) (others : List (ℕ × V))
      → IsMessage first → P (Some first) verdict → AreRecorded P (at + length first) rest others
      → bytes ≡ first ++ rest → verdicts ≡ (at, verdict) ∷ others → AreRecorded P at bytes verdicts

-- the verdict on what follows them, at a place: a part of a message, a bad header, or digits that spell nothing
pub data IsEndRecorded {V : Type 0} (P : Option (List ℕ) → V → Type 0) (at : ℕ) (bytes left : List ℕ) (verdicts : List (ℕ × V)) : Type 0 where
  nothing : bytes ≡ [] → left ≡ [] → verdicts ≡ [] → IsEndRecorded P at bytes left verdicts
  part : (verdict : V) → 0 < length bytes → IsPart bytes → left ≡ [] → P (Some bytes) verdict → verdicts ≡ (at, verdict) ∷ []
      → IsEndRecorded P at bytes left verdicts
  endless : (verdict : V) → IsEndless bytes → P (Some (take 20 bytes)) verdict → verdicts ≡ (at, verdict) ∷ [] → IsEndRecorded P at bytes left verdicts
  no_digits : (verdict : V) → IsPart bytes → 0 < length left → P None verdict → verdicts ≡ (at, verdict) ∷ [] → IsEndRecorded P at bytes left verdicts

-- the verdicts on a whole stream
pub record IsStreamRecorded {V : Type 0} (P : Option (List ℕ) → V → Type 0) (stream : List ℕ) (verdicts : List (ℕ × V)) : Type 0 where
  pub bytes : List ℕ
  pub left : List ℕ
  pub whole : List ℕ
  pub rest : List ℕ
  pub earlier : List (ℕ × V)
  pub last : List (ℕ × V)
  pub spells : Spells stream bytes left
  pub parts : bytes ≡ whole ++ rest
  pub recorded : AreRecorded P 0 whole earlier
  pub end_recorded : IsEndRecorded P (length whole) rest left last
  pub are : verdicts ≡ earlier ++ last

-- the verdicts on whole messages at the front of a stream, of which more may come
pub record IsFrontRecorded {V : Type 0} (P : Option (List ℕ) → V → Type 0) (stream : List ℕ) (verdicts : List (ℕ × V)) : Type 0 where
  pub digits : List ℕ
  pub left : List ℕ
  pub whole : List ℕ
  pub rest : List ℕ
  pub parts : digits_of stream ≡ digits ++ left
  pub spelled : AreSpelled digits (whole ++ rest)
  pub recorded : AreRecorded P 0 whole verdicts

-- ---- from a feed into a sink. `text` has the line of a verdict

-- places of messages are counted up to this number of bytes
abbrev pub most_places : ℕ
most_places = 18446744073709551615

-- the feed still gives this, where that is known
abbrev pub StillGives : Option (List ℕ) → List ℕ → Type 0
StillGives None rest = rest ≡ []
StillGives (Some all) rest = rest ≡ all

-- the lines of all that the feed gives were put, though not all may have been read
pub record AllRecorded {V W : Type 0} (P : Option (List ℕ) → V → Type 0) (text : ℕ × V → List ℕ) (saw : W → List (ℕ × V) → Type 0)
    (fed_old fed put_old put : Option (List ℕ)) (watch_old watch : W) : Type 0 where
  pub read : List ℕ
  pub verdicts : List (ℕ × V)
  pub consumed : Consumes fed_old fed read
  pub recorded : (rest : List ℕ) → StillGives fed rest → IsStreamRecorded P (read ++ rest) verdicts
  pub is_put : Appends put_old put (flat_map text verdicts)
  pub seen : Sees saw watch_old watch verdicts

-- the lines of whole messages at the front of what was read were put, and nothing else
pub record WholeRecorded {V : Type 0} (P : Option (List ℕ) → V → Type 0) (text : ℕ × V → List ℕ) (fed_old fed put_old put : Option (List ℕ)) : Type 0 where
  pub read : List ℕ
  pub verdicts : List (ℕ × V)
  pub consumed : Consumes fed_old fed read
  pub recorded : IsFrontRecorded P read verdicts
  pub is_put : Appends put_old put (flat_map text verdicts)

-- what was put is a prefix of the lines: of whole messages at the front of what was read, or of all
pub record SomeRecorded {V : Type 0} (P : Option (List ℕ) → V → Type 0) (text : ℕ × V → List ℕ) (fed_old fed put_old put : Option (List ℕ)) : Type 0 where
  pub read : List ℕ
  pub verdicts : List (ℕ × V)
  pub consumed : Consumes fed_old fed read
  pub recorded : IsFrontRecorded P read verdicts ⊎ ((rest : List ℕ) → StillGives fed rest → IsStreamRecorded P (read ++ rest) verdicts)
  pub is_put : AppendsFront put_old put (flat_map text verdicts)

-- bytes have one verdict
abbrev pub BytesHaveOneVerdict : {V : Type 0} → (Option (List ℕ) → V → Type 0) → Type 0
BytesHaveOneVerdict {V} P = (bytes : Option (List ℕ)) (verdict other : V) → P bytes verdict → P bytes other → verdict ≡ other

-- a stream has one list of verdicts
abbrev pub StreamHasOneAnswer : {V : Type 0} → (Option (List ℕ) → V → Type 0) → Type 0
StreamHasOneAnswer {V} P = (stream : List ℕ) (verdicts others : List (ℕ × V)) → IsStreamRecorded P stream verdicts → IsStreamRecorded P stream others → verdicts ≡ others
