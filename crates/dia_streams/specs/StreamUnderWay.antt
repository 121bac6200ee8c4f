-- A stream of which a front was read.
use Rattle.std.specs.Prelude.{◌≡◌, ℕ, ◌⊎◌, ◌<◌, ◌≤◌, Bool, true, false, List, [], ◌∷◌, ◌++◌, Option, None, Some, unwrap_or, length, string_bytes}
use Rattle.std.specs.List.{flat_map}
use Rattle.std.specs.Io.KnownBytes.{Appends, Consumes}
use Rattle.hex.specs.Hex.{hex_digit_value}
use Rattle.dia_streams.specs.FeedToSink.{Sees}
use Rattle.dia_streams.specs.declared.recorded.Recorded.{Recorded}
use Rattle.dia_streams.specs.declared.streamed.Streamed.{Streamed}
use Rattle.dia_streams.specs.Streams.{AreRecorded, IsEndless, IsPart, IsStreamRecorded, AreSpelled, BeginsNoPair, digits_of}

-- ---- digits

-- the value of a digit; 255 of another character
abbrev pub value_or_none : ℕ → ℕ
value_or_none c = unwrap_or (hex_digit_value c) 255

-- the value of a digit whose pair isn't whole, and that digit
abbrev pub IsHalf : Option ℕ → List ℕ → Type 0
IsHalf None left = left ≡ []
IsHalf (Some value) left = (digit : ℕ) × (left ≡ digit ∷ []) × (hex_digit_value digit ≡ Some value)

-- these digits spell the bytes, but for a half of a pair
pub record AreDigits (half : Option ℕ) (read bytes : List ℕ) : Type 0 where
  pub digits : List ℕ
  pub left : List ℕ
  pub parts : read ≡ digits ++ left
  pub spelled : AreSpelled digits bytes
  pub is_half : IsHalf half left

-- the digits spell the bytes up to a character that is none, whatever follows
pub record AreStopped (read bytes : List ℕ) : Type 0 where
  pub digits : List ℕ
  pub left : List ℕ
  pub parts : read ≡ digits ++ left
  pub spelled : AreSpelled digits bytes
  pub some : 0 < length left
  pub stops : (more : List ℕ) → BeginsNoPair (left ++ more)

abbrev pub AreTaken : Bool → Option ℕ → (read bytes : List ℕ) → Type 0
AreTaken true half read bytes = AreDigits half read bytes
AreTaken false half read bytes = AreStopped read bytes

-- more characters were taken, up to one that is no digit
pub record Takes (good : Bool) (half_old half : Option ℕ) (bytes_old bytes text : List ℕ) : Type 0 where
  pub more : List ℕ
  pub grows : bytes ≡ bytes_old ++ more
  pub taken : (read before : List ℕ) → AreDigits half_old read before → AreTaken good half (read ++ digits_of text) (before ++ more)

-- ---- verdicts

-- these are the verdicts on whole messages that were reported
pub record HasRecorded {V : Type 0} (P : Option (List ℕ) → V → Type 0) (now : Recorded) (whole : List ℕ) (verdicts : List (ℕ × V)) : Type 0 where
  pub recorded : AreRecorded P 0 whole verdicts
  pub at : now.at ≡ length whole

-- a verdict was reported and seen, on what begins at the place
pub record Adds {V W : Type 0} (text : ℕ × V → List ℕ) (saw : W → List (ℕ × V) → Type 0) (old now : Recorded) (watch_old watch : W) (verdict : V) : Type 0 where
  pub line : string_bytes now.text ≡ string_bytes old.text ++ text (old.at, verdict)
  pub at : now.at ≡ old.at
  pub seen : Sees saw watch_old watch ((old.at, verdict) ∷ [])

-- no whole message is at the front
abbrev pub BeginsNone : List ℕ → Type 0
BeginsNone bytes = IsPart bytes ⊎ IsEndless bytes

-- the whole messages at the front of the bytes were reported
pub record RecordsWhole {V W : Type 0} (P : Option (List ℕ) → V → Type 0) (text : ℕ × V → List ℕ) (saw : W → List (ℕ × V) → Type 0)
    (old now : Recorded) (watch_old watch : W) (bytes rest : List ℕ) : Type 0 where
  pub whole : List ℕ
  pub verdicts : List (ℕ × V)
  pub parts : bytes ≡ whole ++ rest
  pub lines : string_bytes now.text ≡ string_bytes old.text ++ flat_map text verdicts
  pub seen : Sees saw watch_old watch verdicts
  pub recorded : (before : List ℕ) (earlier : List (ℕ × V)) → HasRecorded P old before earlier → HasRecorded P now (before ++ whole) (earlier ++ verdicts)

-- ---- streams

-- these characters were read: the whole messages that they spell have these verdicts, and a part of a message is left
pub record IsUnderWay {V : Type 0} (P : Option (List ℕ) → V → Type 0) (now : Streamed) (read : List ℕ) (verdicts : List (ℕ × V)) : Type 0 where
  pub whole : List ℕ
  pub digits : AreDigits now.digits.half (digits_of read) (whole ++ now.digits.bytes.items)
  pub is_part : IsPart now.digits.bytes.items
  pub recorded : HasRecorded P now.recorded whole verdicts

-- all was reported, whatever follows
abbrev pub IsOver : {V : Type 0} → (Option (List ℕ) → V → Type 0) → List ℕ → List (ℕ × V) → Type 0
IsOver P read verdicts = (rest : List ℕ) → IsStreamRecorded P (read ++ rest) verdicts

abbrev pub Goes : {V : Type 0} → (Option (List ℕ) → V → Type 0) → Bool → Streamed → List ℕ → List (ℕ × V) → Type 0
Goes P true now read verdicts = IsUnderWay P now read verdicts
Goes P false now read verdicts = IsOver P read verdicts

-- a piece was read, and these verdicts were reported and seen
pub record Reads {V W : Type 0} (P : Option (List ℕ) → V → Type 0) (text : ℕ × V → List ℕ) (saw : W → List (ℕ × V) → Type 0)
    (goes_on : Bool) (old now : Streamed) (watch_old watch : W) (piece : List ℕ) : Type 0 where
  pub verdicts : List (ℕ × V)
  pub lines : string_bytes now.recorded.text ≡ string_bytes old.recorded.text ++ flat_map text verdicts
  pub seen : Sees saw watch_old watch verdicts
  pub reads : (read : List ℕ) (earlier : List (ℕ × V)) → IsUnderWay P old read earlier → Goes P goes_on now (read ++ piece) (earlier ++ verdicts)

-- the end was read, and these verdicts were reported and seen
pub record Ends {V W : Type 0} (P : Option (List ℕ) → V → Type 0) (text : ℕ × V → List ℕ) (saw : W → List (ℕ × V) → Type 0)
    (old now : Streamed) (watch_old watch : W) : Type 0 where
  pub verdicts : List (ℕ × V)
  pub lines : string_bytes now.recorded.text ≡ string_bytes old.recorded.text ++ flat_map text verdicts
  pub seen : Sees saw watch_old watch verdicts
  pub ends : (read : List ℕ) (earlier : List (ℕ × V)) → IsUnderWay P old read earlier → IsStreamRecorded P read (earlier ++ verdicts)

-- so many pieces were read from the feed and reported into the sink
pub record AreRead {V W : Type 0} (P : Option (List ℕ) → V → Type 0) (text : ℕ × V → List ℕ) (saw : W → List (ℕ × V) → Type 0)
    (fed_old fed put_old put : Option (List ℕ)) (watch_old watch : W) (now : Streamed) (pieces : ℕ) : Type 0 where
  pub read : List ℕ
  pub verdicts : List (ℕ × V)
  pub consumed : Consumes fed_old fed read
  pub under_way : IsUnderWay P now read verdicts
  pub is_put : Appends put_old put (flat_map text verdicts)
  pub seen : Sees saw watch_old watch verdicts
  pub nothing : string_bytes now.recorded.text ≡ []
  pub counted : pieces ≤ length read
