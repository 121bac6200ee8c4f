-- What a state of reading says of the bytes that it has been fed.
use Rattle.std.specs.Prelude.{◌≡◌, ◌≢◌, ℕ, ◌<◌, ◌↔◌, ◌⊎◌, List, ◌++◌, length, take, All, IsTrue}
use Rattle.std.specs.Str.{IsUtf8, StartsWithNoChar}
use Rattle.dia_data.specs.Plain.{PlainFormat, plain_format, Utf8String, DiameterIdentity, DiameterUri}
use Rattle.dia_data.specs.declared.leaf_state.LeafState.{LeafState}
use Rattle.dia_data.specs.declared.leaf_state.SeenData.{SeenData}
use Rattle.dia_data.specs.declared.leaf_state.Seen.{Seen}
use Rattle.dia_data.specs.declared.leaf_state.Seen.TheVariants.{Nothing, Graphic, Characters}
use Rattle.dia_data.specs.declared.seen_text.Text.{Text}
use Rattle.dia_data.specs.declared.seen_text.Text.TheVariants.{Open, Broken}
use Rattle.dia_data.specs.Leaf.{IsGraphic}
use Rattle.dia_data.specs.Front.{front_bytes, front_length}

-- the bytes are whole characters, and then these few, which no character begins
pub record IsOpen (pending bytes : List ℕ) : Type 0 where
  pub whole : List ℕ
  pub parts : bytes ≡ whole ++ pending
  pub text : IsUtf8 whole
  pub short : length pending < 4
  pub unfinished : StartsWithNoChar pending

-- what a state says of the bytes of a text; where it is broken, no more bytes make them a text
abbrev pub IsSeenOfText : Text → List ℕ → Type 0
IsSeenOfText (Open pending) bytes = IsOpen (front_bytes pending) bytes
IsSeenOfText Broken bytes = (more : List ℕ) → ¬ IsUtf8 (bytes ++ more)

-- what is recorded of all bytes of a format: nothing, whether they are all graphic, or what they are as a text
abbrev pub IsSeen : Seen → PlainFormat → List ℕ → Type 0
IsSeen Nothing kind bytes = (kind ≢ Utf8String) × (kind ≢ DiameterIdentity) × (kind ≢ DiameterUri)
IsSeen (Graphic graphic) kind bytes = ((kind ≡ DiameterIdentity) ⊎ (kind ≡ DiameterUri)) × (IsTrue graphic ↔ All IsGraphic bytes)
IsSeen (Characters text) kind bytes = (kind ≡ Utf8String) × IsSeenOfText text bytes

-- the state has been fed these bytes, in whatever pieces
pub record DenotesData (state : LeafState) (kind : PlainFormat) (bytes : List ℕ) : Type 0 where
  pub format : plain_format state.format.now ≡ kind
  pub front : front_bytes state.front ≡ take front_length bytes
  pub seen : IsSeen state.seen kind bytes

-- this has been seen of data of a format
pub record HasSeenData (state : SeenData) (kind : PlainFormat) (bytes : List ℕ) : Type 0 where
  pub front : front_bytes state.front ≡ take front_length bytes
  pub seen : IsSeen state.seen kind bytes
