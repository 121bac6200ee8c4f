-- AVPs that break nothing by themselves.
use Rattle.std.specs.Prelude.{◌≡◌, ℕ, ◌<◌, List, length, Contains}
use Rattle.dia_wire.specs.declared.Key.{Key}
use Rattle.dia_wire.specs.Wire.{PlainAvp, key_of}
use Rattle.dia_book.specs.declared.DRule.{DRule}
use Rattle.dia_book.specs.Dictionary.{Dictionary}
use Rattle.dia_terms.specs.declared.Unknown.{Unknown}
use Rattle.dia_terms.specs.declared.sends.Sends.{Sends}
use Rattle.dia_breaking_sites.specs.Sent.{AreBytes, IsSentAvp}
use Rattle.dia_breaking_sites.specs.Sites.{FitsAlone, IsLevelOf}
use Rattle.dia_breaking_data.specs.declared.short_data.Witness.{Witness}
use Rattle.dia_breaking_data.specs.Shortest.{witness_bytes}
use Rattle.dia_breaking_avps.specs.declared.breaking.DataBreak.TheVariants.{Data, EightBytes}
use Rattle.dia_breaking_avps.specs.Breaks.{IsDataBreak}
use Rattle.dia_breaking_avps.specs.Sent.{IsAcceptedData, IsSentData}

-- each AVP of the key that A's side sends fits B by itself
abbrev pub FitKeyAlone : Dictionary → Dictionary → Sends → Unknown → Key → Type 0
FitKeyAlone da db who u key = (v : PlainAvp) → key_of v ≡ key → AreBytes v.bytes → IsSentAvp da who v → FitsAlone da db u v

-- data that are sent are accepted where they are shorter than the shortest that break
abbrev pub ShorterDataAreAccepted : Type 0
ShorterDataAreAccepted = (da db : Dictionary) (who : Sends) (u : Unknown) (key : Key) (found : Witness) (bytes : List ℕ) → IsDataBreak da db who u key (Data found)
    → IsSentData da who key bytes → length bytes < length (witness_bytes found) → IsAcceptedData db u key bytes

-- levels that B reads as leaves of eight bytes are accepted where they have fewer than 12, and aren't empty
abbrev pub ShortLevelsAreAccepted : Type 0
ShortLevelsAreAccepted = (da db : Dictionary) (who : Sends) (u : Unknown) (key : Key) (bytes : List ℕ) → IsDataBreak da db who u key EightBytes
    → IsSentData da who key bytes → 0 < length bytes → length bytes < 12 → IsAcceptedData db u key bytes

-- so each AVP of a level does, where this holds of its key
abbrev pub KeysFitAlone : Type 0
KeysFitAlone = (da db : Dictionary) (who : Sends) (u : Unknown) (rules : List DRule) (room : ℕ) (avps : List PlainAvp) (v : PlainAvp) → IsLevelOf da who rules room avps → Contains avps v
    → FitKeyAlone da db who u (key_of v) → FitsAlone da db u v
