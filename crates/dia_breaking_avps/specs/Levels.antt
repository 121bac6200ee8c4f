-- Levels of AVPs that are read as leaves (RFC 6733 sections 4.1 to 4.4).
use Rattle.std.specs.Prelude.{◌≡◌, ℕ, ◌<◌, ◌≤◌, List, [], All, Contains, IsTrue, MatchOption, ⊤}
use Rattle.dia_wire.specs.declared.Key.{Key}
use Rattle.dia_wire.specs.Wire.{PlainAvp, SpellsAll, avp_length}
use Rattle.dia_data.specs.Plain.{PlainFormat, EightBytes, Address, Utf8String}
use Rattle.dia_data.specs.Leaf.{IsLeaf}
use Rattle.dia_book.specs.declared.DRule.{DRule}
use Rattle.dia_book.specs.Dictionary.{Dictionary}
use Rattle.dia_terms.specs.declared.sends.Sends.{Sends}
use Rattle.dia_terms.specs.declared.sends.Sends.TheVariants.{Any, Known, Filled, Listed}
use Rattle.dia_breaking_sites.specs.Sent.{is_open}

-- the least AVP Length whose three bytes are all graphic, as those of a DiameterIdentity are: 0x212121
abbrev pub graphic_length : ℕ
graphic_length = 2171169

-- the level is empty, or an AVP in it, or in a level within, is shorter than that
pub data IsOrdinary : List PlainAvp → Type 0 where
  empty : IsOrdinary []
  short : (avps : List PlainAvp) (v : PlainAvp) → Contains avps v → avp_length v < graphic_length → IsOrdinary avps
  inside : (avps : List PlainAvp) (v : PlainAvp) (inner : List PlainAvp) → Contains avps v → SpellsAll inner v.bytes → IsOrdinary inner → IsOrdinary avps

-- no such level is data of the format
abbrev pub RefusesOrdinaryLevels : PlainFormat → Type 0
RefusesOrdinaryLevels format = (avps : List PlainAvp) (bytes : List ℕ) → SpellsAll avps bytes → IsOrdinary avps → ¬ IsLeaf format bytes

-- ---- leaves of eight bytes

-- the data of the format are those of eight bytes
abbrev pub HasEightBytes : PlainFormat → Type 0
HasEightBytes (EightBytes name) = ⊤
HasEightBytes format = ⊥

-- ---- Addresses

-- an empty level is as the rules say
abbrev pub AskForNone : List DRule → Type 0
AskForNone rules = All (λ rule. rule.min ≡ 0) rules

-- the least code whose first two bytes are 1, the family of IPv4: 0x00010000
abbrev pub first_family : ℕ
first_family = 65536

-- the least code after those whose first two bytes are 2, the family of IPv6: 0x00030000
abbrev pub past_families : ℕ
past_families = 196608

-- the first two bytes of the code are 1 or 2: read as an Address, such an AVP begins one of IPv4 or IPv6, of 6 or of 18 bytes
-- (section 4.3.1). No level has as many
abbrev pub IsFamily : ℕ → Type 0
IsFamily code = (first_family ≤ code) × (code < past_families)

-- nor has an AVP that none of the rules lists such a code, as the dictionary's side sends it
abbrev pub OthersHaveNone : Dictionary → Sends → List DRule → Type 0
OthersHaveNone d Any rules = ⊥
OthersHaveNone d Known rules = All (λ e. ¬ IsFamily e.key.code) d.entries
OthersHaveNone d Filled rules = IsTrue (is_open Filled rules) → All (λ e. ¬ IsFamily e.key.code) d.entries
OthersHaveNone d Listed rules = ⊤

abbrev pub HasNoFamily : Key → Type 0
HasNoFamily key = ¬ IsFamily key.code

-- no rule lists such a code, and no wildcard lets one in
abbrev pub HaveNoFamilies : Dictionary → Sends → List DRule → Type 0
HaveNoFamilies d who rules = All (λ rule. MatchOption rule.key (OthersHaveNone d who rules) HasNoFamily) rules

-- each level of the rules is an Address: it isn't empty, and begins with no such code
abbrev pub AreAddresses : Dictionary → Sends → List DRule → Type 0
AreAddresses d who rules = (¬ AskForNone rules) × HaveNoFamilies d who rules

-- ---- both

-- a least level of the rules is no data of the format: no ordinary level is; or the format is Address, and the level empty
abbrev pub RefusesLeastLevel : List DRule → PlainFormat → Type 0
RefusesLeastLevel rules Address = AskForNone rules
RefusesLeastLevel rules format = RefusesOrdinaryLevels format

-- some levels may be data of the format, and others not
abbrev pub IsUndecided : Dictionary → Sends → List DRule → PlainFormat → Type 0
IsUndecided d who rules Address = (¬ AskForNone rules) × (¬ HaveNoFamilies d who rules)
IsUndecided d who rules Utf8String = ⊤
IsUndecided d who rules format = ⊥
