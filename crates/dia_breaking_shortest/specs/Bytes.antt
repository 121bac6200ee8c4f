-- The bytes of the shortest AVPs that a side sends (RFC 6733 sections 3.2, 4.1 and 4.4).
use Rattle.std.specs.Prelude.{ℕ, zero, suc, ◌+◌, Bool, true, false, ◌==◌, nat_lt, if◌then◌else◌, List, [], ◌∷◌, ◌++◌, length, drop, Option, is_some, slice_get, vec_len}
use Rattle.std.specs.List.{flat_map}
use Rattle.std.specs.Option.{option_map, option_map_or, option_or}
use Rattle.std.specs.Int.{w32, w64, to_be_bytes}
use Rattle.dia_wire.specs.declared.Key.{Key}
use Rattle.dia_wire.specs.Written.{padding}
use Rattle.dia_breaking_data.specs.Shortest.{witness_bytes}
use Rattle.dia_book.specs.declared.MRule.{MRule}
use Rattle.dia_book.specs.declared.MRule.TheVariants.{Must, MustNot, Any}
use Rattle.dia_book.specs.declared.DRule.{DRule}
use Rattle.dia_book.specs.Dictionary.{Dictionary, entry_of, group_place}
use Rattle.dia_valid.specs.Rules.{rules_in}
use Rattle.dia_breaking_levels.specs.declared.line.Part.{Part}
use Rattle.dia_breaking_levels.specs.LevelTests.{too_long}
use Rattle.dia_breaking_shortest.specs.declared.lookup.Least.{Least}
use Rattle.dia_breaking_shortest.specs.Floors.{shortest_head}
use Rattle.dia_breaking_shortest.specs.Kept.{kept_at}
use Rattle.dia_breaking_shortest.specs.Lengths.{entry_length}

-- ---- one AVP (section 4.1)

-- V where there is a vendor, and M
abbrev pub avp_flags : ℕ → Bool → ℕ
avp_flags vendor m = if vendor == 0 then (if m then 64 else 0) else (if m then 192 else 128)

-- a Length has three bytes
abbrev pub length_bytes : ℕ → List ℕ
length_bytes n = drop 5 (to_be_bytes w64 n)

-- no Vendor-ID for the vendor 0
abbrev pub vendor_bytes : ℕ → List ℕ
vendor_bytes vendor = if vendor == 0 then [] else to_be_bytes w32 vendor

abbrev pub head_bytes : Key → Bool → ℕ → List ℕ
head_bytes key m size = to_be_bytes w32 key.code ++ (avp_flags key.vendor m ∷ length_bytes size) ++ vendor_bytes key.vendor

-- with these data, and zero bytes up to a multiple of four
abbrev pub avp_bytes : Key → Bool → List ℕ → List ℕ
avp_bytes key m bytes = head_bytes key m (shortest_head key + length bytes) ++ bytes ++ padding (length bytes)

-- ---- AVPs of one key in a row

-- these bytes so many times
abbrev pub repeated : ℕ → List ℕ → List ℕ
repeated zero bytes = []
repeated (suc n) bytes = bytes ++ repeated n bytes

-- each part's AVP as often as it says, where the AVP of a key has these bytes
abbrev pub parts_bytes : (Key → List ℕ) → List Part → List ℕ
parts_bytes avp parts = flat_map (λ part. repeated part.count (avp part.key)) parts

abbrev pub part_of : Key → ℕ → Part
part_of key n = record { key = key; count = n }

-- ---- shortest AVPs

abbrev pub demands_m : MRule → Bool
demands_m Must = true
demands_m MustNot = false
demands_m Any = false

-- M is set only where the dictionary demands it
abbrev pub needs_m : Dictionary → ℕ → Bool
needs_m d e = option_map_or (λ entry. demands_m entry.rule) (slice_get d.entries e) false

abbrev pub leaf_bytes : Key → Bool → Option (List ℕ) → List ℕ
leaf_bytes key m bytes = option_map_or (avp_bytes key m) bytes []

-- the head of a group, and a whole leaf
abbrev pub entry_front : Dictionary → Least → Key → ℕ → List ℕ
entry_front d least key e = if is_some (group_place d e)
    then head_bytes key (needs_m d e) (entry_length least.lengths.items e)
    else leaf_bytes key (needs_m d e) (option_map witness_bytes (kept_at least.leaf_data.items e))

-- of a key that the dictionary doesn't know a head without data
abbrev pub front_bytes : Dictionary → Least → Key → List ℕ
front_bytes d least key = option_map_or (entry_front d least key) (entry_of d key) (head_bytes key false (shortest_head key))

-- a rule's key as often as its least count, and for the wildcard the filler
abbrev pub rule_parts : Option Key → DRule → List Part
rule_parts filler rule = if rule.min == 0 then [] else option_map_or (λ key. part_of key rule.min ∷ []) (option_or rule.key filler) []

-- those of a group's rules, in their order
abbrev pub entry_parts : Dictionary → Least → ℕ → List Part
entry_parts d least e = option_map_or (λ def. flat_map (rule_parts (kept_at least.fillers.items e)) (rules_in d def)) (group_place d e) []

abbrev pub inner_parts : Dictionary → Least → Key → List Part
inner_parts d least key = option_map_or (entry_parts d least) (entry_of d key) []

-- with fewer than n levels of groups in it
abbrev pub avp_within : Dictionary → Least → ℕ → Key → List ℕ
avp_within d least zero key = []
avp_within d least (suc n) key = front_bytes d least key ++ parts_bytes (avp_within d least n) (inner_parts d least key)

-- a message has room for an AVP of the key
abbrev pub is_short : Dictionary → Least → Key → Bool
is_short d least key = option_map_or (λ e. nat_lt (entry_length least.lengths.items e) too_long) (entry_of d key) true

-- the bytes of a shortest AVP of the key; none where no message has room for one. No group contains itself there, so there are no
-- more levels than the dictionary has entries
abbrev pub least_avp : Dictionary → Least → Key → List ℕ
least_avp d least key = if is_short d least key then avp_within d least (suc (vec_len least.lengths)) key else []
