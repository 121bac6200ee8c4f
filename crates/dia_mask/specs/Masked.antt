-- A message with the data of some AVPs replaced (RFC 6733 sections 3, 4.1 and 4.4; which and by what is our profile).
use Rattle.std.specs.Prelude.{◌≡◌, ◌≢◌, ℕ, ◌-◌, ◌<◌, ◌≤◌, ◌⊎◌, min, Bool, true, false, List, ◌++◌, length, take, drop, replicate}
use Rattle.std.specs.Prelude.{Option, Some, None, slice_index}
use Rattle.std.specs.Option.{option_map}
use Rattle.dia_wire.specs.Number.{number}
use Rattle.dia_wire.specs.Wire.{PlainAvp, key_of, head_length, BeginsMessage, BeginsWith, BeginsWithNone, IsMessageLength}
use Rattle.dia_data.specs.Plain.{PlainFormat}
use Rattle.dia_book.specs.Dictionary.{Dictionary, PlainDefinition, entry_of}
use Rattle.dia_valid.specs.Valid.{group_at, known}
use Rattle.dia_mask.specs.declared.choice.Choice.{Choice}
use Rattle.dia_mask.specs.Choosing.{masks}
use Rattle.dia_mask.specs.Replaced.{IsNewData, Numbering}

-- an AVP is masked
abbrev pub is_masked : Choice → Dictionary → PlainAvp → Bool
is_masked choice d v = masks choice (entry_of d (key_of v))

-- ---- AVPs

abbrev pub zeros : ℕ → List ℕ
zeros n = replicate n 0

-- the head and the padding of an AVP at the front of a level
pub record IsAround (v : PlainAvp) (level rest head padding : List ℕ) : Type 0 where
  pub parts : level ≡ head ++ (v.bytes ++ (padding ++ rest))
  pub head_long : length head ≡ head_length v.vendor

-- the format of an AVP that the dictionary knows
abbrev pub format_at : Dictionary → PlainAvp → Option PlainFormat
format_at d v = option_map (λ e. e.format) (known d (key_of v))

-- the data and the padding of an AVP that is no known group stay, or others take the place of the data, and the padding is zero
abbrev pub IsLeafMasked : Numbering → Bool → Option PlainFormat → (bytes padding new : List ℕ) → Type 0
IsLeafMasked numbers false format bytes padding new = new ≡ bytes ++ padding
IsLeafMasked numbers true format bytes padding new = (other : List ℕ) × IsNewData numbers format bytes other × (new ≡ other ++ zeros (length padding))

-- where no AVP begins: 8 bytes stay, and zero follows; of fewer bytes all are zero
pub data IsNoAvpMasked (level new : List ℕ) : Type 0 where
  head : 8 ≤ length level → new ≡ take 8 level ++ zeros (length level - 8) → IsNoAvpMasked level new
  short : length level < 8 → new ≡ zeros (length level) → IsNoAvpMasked level new

-- a level, in which the data of exactly the masked AVPs are replaced, by the numbers of their words, and the members of the groups that the dictionary knows are masked, too
pub data IsMasked (choice : Choice) (numbers : Numbering) (d : Dictionary) : List ℕ → List ℕ → Type 0 where
  no_avp : {level new : List ℕ} → (length level ≡ 0) ⊎ BeginsWithNone level → IsNoAvpMasked level new → IsMasked choice numbers d level new
  leaf : {level new : List ℕ} (v : PlainAvp) (rest head padding data_and_padding more : List ℕ) → BeginsWith v level rest → IsAround v level rest head padding
      → group_at d v ≡ None → IsLeafMasked numbers (is_masked choice d v) (format_at d v) v.bytes padding data_and_padding → IsMasked choice numbers d rest more
      → new ≡ head ++ (data_and_padding ++ more) → IsMasked choice numbers d level new
  group : {level new : List ℕ} (v : PlainAvp) (rest head padding members more : List ℕ) (g : PlainDefinition) → BeginsWith v level rest → IsAround v level rest head padding
      → group_at d v ≡ Some g → IsMasked choice numbers d v.bytes members → IsMasked choice numbers d rest more
      → new ≡ head ++ (members ++ (padding ++ more)) → IsMasked choice numbers d level new

-- ---- messages

-- what there is of the body of a message, and what follows its Message Length
abbrev pub body_of : List ℕ → ℕ → List ℕ
body_of bytes n = take (min (length bytes) n - 20) (drop 20 bytes)

-- the bytes of a message, which may be cut, or followed by others
pub data IsMessageMasked (choice : Choice) (numbers : Numbering) (d : Dictionary) (bytes new : List ℕ) : Type 0 where
  message : (n : ℕ) (body : List ℕ) → BeginsMessage bytes n → IsMasked choice numbers d (body_of bytes n) body
      → new ≡ take 20 bytes ++ (body ++ zeros (length bytes - min (length bytes) n)) → IsMessageMasked choice numbers d bytes new
  bad_header : 20 ≤ length bytes → (slice_index bytes 0 ≢ 1) ⊎ (¬ IsMessageLength (number (take 3 (drop 1 bytes))))
      → new ≡ take 20 bytes ++ zeros (length bytes - 20) → IsMessageMasked choice numbers d bytes new
  no_header : length bytes < 20 → new ≡ bytes → IsMessageMasked choice numbers d bytes new

-- bytes that P allows were added
abbrev pub Adds : (List ℕ → Type 0) → List ℕ → List ℕ → Type 0
Adds P old new = (added : List ℕ) × P added × (new ≡ old ++ added)
