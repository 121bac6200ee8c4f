-- The data that takes the place of an AVP's, by the numbers of its words (our profile).
use Rattle.std.specs.Prelude.{◌≡◌, ◌⊎◌, ◌↔◌, ℕ, ◌+◌, ◌-◌, ◌==◌, nat_lt, if◌then◌else◌, min, List, [], ◌∷◌, ◌++◌, length, take, drop, replicate, slice_get, unwrap_or, Option, Some, None, is_some, chars, encode_utf8_all, IsUtf8}
use Rattle.std.specs.List.{filter_map}
use Rattle.std.specs.Int.{to_be_bytes, w64}
use Rattle.std.specs.Str.{IsValidUpTo}
use Rattle.dia_data.specs.Leaf.{IsLeaf, IsLeafAnswer}
use Rattle.dia_data.specs.declared.accept.Leaf.{Leaf}
use Rattle.dia_data.specs.Plain.{PlainFormat, AnyBytes, FourBytes, EightBytes, Grouped, Address, Utf8String, DiameterIdentity, DiameterUri, Enumerated, OctetString, IpFilterRule, QosFilterRule}
use Rattle.dia_mask.specs.declared.kinds.Kind.{Kind}
use Rattle.dia_mask.specs.declared.ways.Way.{Way}
use Rattle.dia_mask.specs.declared.ways.Way.TheVariants as ways
use Rattle.dia_mask.specs.Kinds.{kind_of, word_at}

-- the numbers of the words of texts, and of bytes
pub record Numbering : Type 0 where
  pub texts : List ℕ → ℕ
  pub bytes : List ℕ → ℕ

-- ---- texts

abbrev pub kinds_of : List ℕ → List Kind
kinds_of word = filter_map kind_of word

abbrev pub new_word : Numbering → List ℕ → List ℕ
new_word numbers word = word_at (kinds_of word) (numbers.texts word)

-- what takes the place of a text behind a word that is under way; a character that is part of no word stays
abbrev pub new_text : Numbering → (word text : List ℕ) → List ℕ
new_text numbers word [] = new_word numbers word
new_text numbers word (c ∷ cs) = if is_some (kind_of c) then new_text numbers (word ++ c ∷ []) cs else new_word numbers word ++ c ∷ new_text numbers [] cs

-- the same of UTF-8
abbrev pub new_utf8 : Numbering → List ℕ → List ℕ
new_utf8 numbers bytes = encode_utf8_all (new_text numbers [] (chars bytes))

-- ---- bytes

-- a number in network byte order, the last bytes of so many
abbrev pub byte_word : ℕ → ℕ → List ℕ
byte_word size n = if nat_lt size 8 then drop (8 - size) (to_be_bytes w64 n) else replicate (size - 8) 0 ++ to_be_bytes w64 n

abbrev pub new_bytes : Numbering → List ℕ → List ℕ
new_bytes numbers bytes = if length bytes == 0 then [] else byte_word (length bytes) (numbers.bytes bytes)

-- ---- data

-- how the data of a format are replaced: as text, or, where the format doesn't accept them, by so many of this byte; as the text of a rule;
-- as an address, as bytes, or not at all
abbrev pub way : PlainFormat → Way
way (AnyBytes OctetString) = ways.Bytes
way (AnyBytes IpFilterRule) = ways.Rule
way (AnyBytes QosFilterRule) = ways.Rule
way (FourBytes name) = ways.Bytes
way (EightBytes name) = ways.Bytes
way Grouped = ways.Left
way Address = ways.Address
way Utf8String = ways.Text 255
way DiameterIdentity = ways.Text 32
way DiameterUri = ways.Text 120
way (Enumerated None) = ways.Bytes
way (Enumerated (Some ranges)) = ways.Left

-- the text of a URI begins behind `aaa://` or `aaas://`
abbrev pub behind_slashes : List ℕ → ℕ
behind_slashes bytes = min (length bytes) (if unwrap_or (slice_get bytes 3) 0 == 58 then 6 else 7)

abbrev pub text_start : PlainFormat → List ℕ → ℕ
text_start (AnyBytes name) bytes = 0
text_start (FourBytes name) bytes = 0
text_start (EightBytes name) bytes = 0
text_start Grouped bytes = 0
text_start Address bytes = 0
text_start Utf8String bytes = 0
text_start DiameterIdentity bytes = 0
text_start DiameterUri bytes = behind_slashes bytes
text_start (Enumerated ranges) bytes = 0

-- the text that a format accepts, or so many of a byte
abbrev pub IsText : Numbering → PlainFormat → ℕ → (bytes new : List ℕ) → Type 0
IsText numbers format refused bytes new = (IsLeaf format bytes × (new ≡ take (text_start format bytes) bytes ++ new_utf8 numbers (drop (text_start format bytes) bytes)))
    ⊎ ((¬ IsLeaf format bytes) × (new ≡ replicate (length bytes) refused))

-- the text of a rule, in which a byte with which no character begins becomes ff
pub data IsRule (numbers : Numbering) : List ℕ → List ℕ → Type 0 where
  whole : {bytes new : List ℕ} → IsUtf8 bytes → new ≡ new_utf8 numbers bytes → IsRule numbers bytes new
  broken : {bytes new : List ℕ} (at : ℕ) (more : List ℕ) → IsValidUpTo bytes at → IsRule numbers (drop (at + 1) bytes) more
      → new ≡ new_utf8 numbers (take at bytes) ++ 255 ∷ more → IsRule numbers bytes new

abbrev pub IsByWay : Numbering → PlainFormat → Way → (bytes new : List ℕ) → Type 0
IsByWay numbers format (ways.Text refused) bytes new = IsText numbers format refused bytes new
IsByWay numbers format ways.Rule bytes new = IsRule numbers bytes new
IsByWay numbers format ways.Address bytes new = new ≡ take 2 bytes ++ new_bytes numbers (drop 2 bytes)
IsByWay numbers format ways.Bytes bytes new = new ≡ new_bytes numbers bytes
IsByWay numbers format ways.Left bytes new = new ≡ bytes

-- ... and of an AVP that the dictionary doesn't know
abbrev pub IsNewData : Numbering → Option PlainFormat → (bytes new : List ℕ) → Type 0
IsNewData numbers None bytes new = new ≡ new_bytes numbers bytes
IsNewData numbers (Some format) bytes new = IsByWay numbers format (way format) bytes new

-- the format says the same of other data of this length, where there is a format
abbrev pub IsSameSaid : Option PlainFormat → (bytes other : List ℕ) → Type 0
IsSameSaid None bytes other = length other ≡ length bytes
IsSameSaid (Some format) bytes other = (length other ≡ length bytes) × ((says : Leaf) → IsLeafAnswer says format bytes ↔ IsLeafAnswer says format other)

-- data of this format are replaced as text
abbrev pub IsTextWay : PlainFormat → Type 0
IsTextWay format = (refused : ℕ) × (way format ≡ ways.Text refused)

-- a text that its format accepts, behind what stays of it
pub record IsAccepted (format : PlainFormat) (bytes before after : List ℕ) : Type 0 where
  pub leaf : IsLeaf format bytes
  pub front : before ≡ take (text_start format bytes) bytes
  pub text : after ≡ drop (text_start format bytes) bytes

-- a text that isn't UTF-8: what precedes the first byte with which no character begins, and what follows it
pub record IsBroken (bytes before after : List ℕ) : Type 0 where
  pub at : ℕ
  pub valid : IsValidUpTo bytes at
  pub front : before ≡ take at bytes
  pub rest : after ≡ drop (at + 1) bytes
