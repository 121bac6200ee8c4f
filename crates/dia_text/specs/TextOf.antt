-- The text of a message: a line of its header, a line of each AVP, and between braces those of a group's members.
use Rattle.std.specs.Prelude.{◌≡◌, ◌≢◌, ℕ, ◌<◌, ◌≤◌, Bool, true, false, List, [], ◌∷◌, ◌++◌, length, take, drop, slice_index, Option, Some, ⊤}
use Rattle.std.specs.List.{flat_map}
use Rattle.dia_wire.specs.declared.Header.{Header}
use Rattle.dia_wire.specs.Lengths.{header_length}
use Rattle.dia_wire.specs.declared.MessageFault.{MessageFault}
use Rattle.dia_wire.specs.declared.MessageFault.TheVariants as fault
use Rattle.dia_wire.specs.Number.{number}
use Rattle.dia_wire.specs.Wire.{PlainAvp, avp_length, Spells, SpellsAll, IsHead, IsMessageLength, BeginsMessage}
use Rattle.dia_data.specs.Plain.{PlainFormat, Grouped}
use Rattle.dia_book.specs.Dictionary.{Dictionary}
use Rattle.dia_text.specs.declared.writing.NotWritten.{NotWritten}
use Rattle.dia_text.specs.declared.writing.NotWritten.TheVariants.{Message, Avps, NoMemory}
use Rattle.dia_text.specs.Keys.{format_at}
use Rattle.dia_text.specs.LineTexts.{code_at, IsValueWord, IsWordOf, leaf_line, open_line, close_line, header_line}

-- the bytes are AVPs, one after the other, to their end
abbrev pub AreAvps : List ℕ → Type 0
AreAvps bytes = (vs : List PlainAvp) × SpellsAll vs bytes

-- a group whose members can be read
abbrev pub IsOpened : Dictionary → PlainAvp → Type 0
IsOpened d v = (format_at d (code_at v) ≡ Some Grouped) × AreAvps v.bytes

-- what follows the data of an AVP that these bytes spell
abbrev pub after_data : PlainAvp → List ℕ → List ℕ
after_data v front = drop (avp_length v) front

-- the lines of a level of AVPs
pub data IsLevelText (d : Dictionary) : List ℕ → List (List ℕ) → Type 0 where
  end : {level : List ℕ} {lines : List (List ℕ)} → level ≡ [] → lines ≡ [] → IsLevelText d level lines
  leaf : {level : List ℕ} {lines : List (List ℕ)} (v : PlainAvp) (front rest word : List ℕ) (more : List (List ℕ))
      → Spells v front → level ≡ front ++ rest → ¬ IsOpened d v → IsWordOf d v word
      → IsLevelText d rest more → lines ≡ leaf_line d v word (after_data v front) ∷ more → IsLevelText d level lines
  group : {level : List ℕ} {lines : List (List ℕ)} (v : PlainAvp) (front rest : List ℕ) (members more : List (List ℕ))
      → Spells v front → level ≡ front ++ rest → IsOpened d v
      → IsLevelText d v.bytes members → IsLevelText d rest more
      → lines ≡ open_line d v ∷ (members ++ (close_line ∷ more)) → IsLevelText d level lines

-- a line with its line feed
abbrev pub fed : List ℕ → List ℕ
fed line = line ++ (10 ∷ [])

pub record IsTextOf (d : Dictionary) (message text : List ℕ) : Type 0 where
  pub header : Header
  pub lines : List (List ℕ)
  pub is_head : IsHead header (length message) (take header_length message)
  pub is_body : IsLevelText d (drop header_length message) lines
  pub is_text : text ≡ flat_map fed (header_line d header ∷ lines)

-- why bytes are no message (RFC 6733 section 3)
abbrev pub IsNoMessage : MessageFault → List ℕ → Type 0
IsNoMessage fault.Short bytes = length bytes < header_length
IsNoMessage fault.Version bytes = (header_length ≤ length bytes) × (slice_index bytes 0 ≢ 1)
IsNoMessage fault.Length bytes = (header_length ≤ length bytes) × (slice_index bytes 0 ≡ 1) × ¬ IsMessageLength (number (take 3 (drop 1 bytes)))
IsNoMessage fault.Truncated bytes = (n : ℕ) × BeginsMessage bytes n × (length bytes < n)
IsNoMessage fault.Trailing bytes = (n : ℕ) × BeginsMessage bytes n × (n < length bytes)

-- why bytes have no text, unless memory was refused
abbrev pub HasNoText : NotWritten → List ℕ → Type 0
HasNoText (Message why) bytes = IsNoMessage why bytes
HasNoText Avps bytes = BeginsMessage bytes (length bytes) × ¬ AreAvps (drop header_length bytes)
HasNoText NoMemory bytes = ⊤

-- ---- what the program adds

-- the bytes after the data, where the level begins with the AVP
abbrev pub AfterData : PlainAvp → List ℕ → List ℕ → List ℕ → Type 0
AfterData v level rest pad = (front : List ℕ) → Spells v front → level ≡ front ++ rest → pad ≡ after_data v front

-- the word of data was added
abbrev pub AddsValueWord : Option PlainFormat → List ℕ → List ℕ → List ℕ → Type 0
AddsValueWord format bytes old new = (word : List ℕ) × IsValueWord format bytes word × (new ≡ old ++ word)

-- the line of an AVP with its data was added
abbrev pub AddsLeaf : Dictionary → PlainAvp → List ℕ → List ℕ → List ℕ → Type 0
AddsLeaf d v pad old new = (word : List ℕ) × IsWordOf d v word × (new ≡ old ++ fed (leaf_line d v word pad))

-- the line of an AVP was added, and it says whether it opens a group
abbrev pub AddsAvp : Dictionary → PlainAvp → List ℕ → List ℕ → List ℕ → Bool → Type 0
AddsAvp d v pad old new true = IsOpened d v × (new ≡ old ++ fed (open_line d v))
AddsAvp d v pad old new false = ¬ IsOpened d v × AddsLeaf d v pad old new

-- the lines of a level were added
abbrev pub AddsLevel : Dictionary → List ℕ → List ℕ → List ℕ → Type 0
AddsLevel d level old new = (lines : List (List ℕ)) × IsLevelText d level lines × (new ≡ old ++ flat_map fed lines)

-- the level isn't AVPs to its end, unless memory was refused
abbrev pub HasNoLines : NotWritten → List ℕ → Type 0
HasNoLines (Message why) level = ⊥
HasNoLines Avps level = ¬ AreAvps level
HasNoLines NoMemory level = ⊤
