-- What holds of all that a side sends.
use Rattle.std.specs.Prelude.{◌≡◌, ℕ, ◌+◌, ◌<◌, ◌≤◌, List, [], Contains, drop, length, map, Some, None}
use Rattle.std.specs.List.{AllByRecursion}
use Rattle.dia_wire.specs.declared.Key.{Key}
use Rattle.dia_wire.specs.Lengths.{header_length, three_bytes}
use Rattle.dia_wire.specs.Wire.{PlainAvp, Spells, SpellsAll, key_of, padded_length}
use Rattle.dia_data.specs.Leaf.{IsLeaf}
use Rattle.dia_book.specs.declared.DRule.{DRule}
use Rattle.dia_book.specs.Dictionary.{Dictionary, DictEntry, PlainDefinition, IsDictionary}
use Rattle.dia_valid.specs.Valid.{known}
use Rattle.dia_terms.specs.declared.Sends.{Sends}
use Rattle.dia_terms.specs.declared.Sends.TheVariants.{Any}
use Rattle.dia_breaking_sites.specs.Sent.{IsSent, IsSentAvp, StandAsSent, AreBytes}
use Rattle.dia_breaking_levels.specs.LevelTests.{too_long}
use Rattle.dia_breaking_shortest.specs.declared.lookup.Least.{Least}
use Rattle.dia_breaking_shortest.specs.Bytes.{least_avp}
use Rattle.dia_breaking_shortest.specs.Exact.{AreExact, AreSpellable}
use Rattle.dia_breaking_shortest.specs.Floors.{AreFloors, IsAttained, IsSpellable, padded, shortest_head, total}
use Rattle.dia_breaking_shortest.specs.Least.{IsLeastOf}
use Rattle.dia_breaking_shortest.specs.Lengths.{length_of}

-- no AVP that is sent is shorter than its key's floor
abbrev pub NoAvpIsShorter : Type 0
NoAvpIsShorter = (d : Dictionary) (sends : Sends) (floor : Key → ℕ) → AreFloors d sends floor → (v : PlainAvp) → AreBytes v.bytes → IsSentAvp d sends v
    → floor (key_of v) ≤ padded_length v

-- no message that is sent is shorter than its header and the floors of its keys
abbrev pub NoMessageIsShorter : Type 0
NoMessageIsShorter = (d : Dictionary) (sends : Sends) (floor : Key → ℕ) → AreFloors d sends floor → (bytes : List ℕ) (c : ℕ) (sent : IsSent d sends bytes c)
    → header_length + total floor (map key_of sent.avps) ≤ length bytes

-- a leaf is attained by any data of its format, an AVP that is unknown by none, and a group by any AVPs that are attained and are
-- as its rules say
abbrev pub LeafIsAttained : Type 0
LeafIsAttained = (d : Dictionary) (sends : Sends) (key : Key) (entry : DictEntry) (bytes : List ℕ) → IsSpellable key → known d key ≡ Some entry → entry.group ≡ None → IsLeaf entry.format bytes
    → shortest_head key + length bytes < three_bytes → IsAttained d sends key (padded (shortest_head key + length bytes))

abbrev pub UnknownIsAttained : Type 0
UnknownIsAttained = (d : Dictionary) (key : Key) → IsSpellable key → known d key ≡ None → IsAttained d Any key (padded (shortest_head key))

abbrev pub GroupIsAttained : Type 0
GroupIsAttained = (d : Dictionary) (sends : Sends) (cost : Key → ℕ) (key : Key) (entry : DictEntry) (group : PlainDefinition) (keys : List Key) → IsSpellable key → known d key ≡ Some entry
    → entry.group ≡ Some group → StandAsSent sends group.rules keys → AllByRecursion (λ k. IsAttained d sends k (cost k)) keys
    → shortest_head key + total cost keys < three_bytes → IsAttained d sends key (padded (shortest_head key + total cost keys))

-- the equations of the least lengths have one solution
abbrev pub LengthsAreOne : Type 0
LengthsAreOne = (d : Dictionary) (sends : Sends) (xs ys : List ℕ) → AreExact d sends xs → AreExact d sends ys → xs ≡ ys

-- and each length of it is attained, but for the one that means none
abbrev pub LengthIsAttained : Type 0
LengthIsAttained = (d : Dictionary) (sends : Sends) (lengths : List ℕ) → IsDictionary d → AreSpellable d → AreExact d sends lengths
    → (key : Key) → IsSpellable key → length_of d sends lengths key < too_long → IsAttained d sends key (length_of d sends lengths key)

-- what shortest AVPs are made of makes one of each key, and its numbers are bytes
abbrev pub LeastAvpsAreOne : Type 0
LeastAvpsAreOne = (d : Dictionary) (who : Sends) (least other : Least) → IsLeastOf d who least → IsLeastOf d who other → (key : Key) → least_avp d least key ≡ least_avp d other key

abbrev pub LeastAvpsAreBytes : Type 0
LeastAvpsAreBytes = (d : Dictionary) (least : Least) (key : Key) → AreBytes (least_avp d least key)

-- the bytes of a shortest AVP that a message has room for spell one AVP, of its key and of the length that is computed
pub record IsOneAvp (key : Key) (n : ℕ) (bytes : List ℕ) : Type 0 where
  pub avp : PlainAvp
  pub is_key : key_of avp ≡ key
  pub spells : Spells avp bytes
  pub size : length bytes ≡ n

abbrev pub LeastAvpsAreSpelled : Type 0
LeastAvpsAreSpelled = (d : Dictionary) (who : Sends) (least : Least) → IsLeastOf d who least → (key : Key) → IsSpellable key → length_of d who least.lengths.items key < too_long
    → IsOneAvp key (length_of d who least.lengths.items key) (least_avp d least key)

-- the bytes spell an AVP of the key of this length, whose data are a level: they spell AVPs, and there are none where the rules
-- ask for none
pub record IsOneGroup (rules : List DRule) (key : Key) (n : ℕ) (bytes : List ℕ) : Type 0 where
  pub avp : PlainAvp
  pub avps : List PlainAvp
  pub is_key : IsSpellable key → key_of avp ≡ key
  pub spells : Spells avp bytes
  pub level : SpellsAll avps avp.bytes
  pub following : drop (shortest_head key) bytes ≡ avp.bytes
  pub sum : shortest_head key + length avp.bytes ≡ n
  pub empty : ((r : DRule) → Contains rules r → r.min ≡ 0) → avp.bytes ≡ []

-- so does a group's shortest AVP that a message has room for
abbrev pub LeastLevelsAreSpelled : Type 0
LeastLevelsAreSpelled = (d : Dictionary) (who : Sends) (least : Least) → IsLeastOf d who least → (key : Key) (entry : DictEntry) (group : PlainDefinition) → known d key ≡ Some entry
    → entry.group ≡ Some group → length_of d who least.lengths.items key < too_long
    → IsOneGroup group.rules key (length_of d who least.lengths.items key) (least_avp d least key)
