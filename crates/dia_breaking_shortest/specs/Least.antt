-- What shortest AVPs are made of: each dictionary and what its side sends determine it (RFC 6733 sections 3.2, 4.1 and 4.4).
use Rattle.std.specs.Prelude.{◌≡◌, ℕ, ◌<◌, ◌≤◌, List, length, Option, Some, None, option_and_then, slice_get}
use Rattle.std.specs.Option.{option_map}
use Rattle.dia_wire.specs.declared.Key.{Key}
use Rattle.dia_breaking_data.specs.declared.short_data.Witness.{Witness}
use Rattle.dia_breaking_data.specs.Shortest.{witness_bytes}
use Rattle.dia_breaking_data.specs.TheData.{the_data}
use Rattle.dia_book.specs.Dictionary.{Dictionary, DictEntry, entry_of, group_place}
use Rattle.dia_terms.specs.declared.Sends.{Sends}
use Rattle.dia_valid.specs.Rules.{rules_in}
use Rattle.dia_breaking_shortest.specs.declared.lookup.Least.{Least}
use Rattle.dia_breaking_shortest.specs.declared.order.Ranked.{Ranked}
use Rattle.dia_breaking_shortest.specs.Exact.{AreExact}
use Rattle.dia_breaking_shortest.specs.Kept.{kept_at}
use Rattle.dia_breaking_shortest.specs.Lengths.{IsOrder, filler_of, length_of}

-- of the keys without vendor that the dictionary doesn't know that with the least code
pub record IsFirstUnknown (d : Dictionary) (key : Key) : Type 0 where
  pub unknown : entry_of d key ≡ None
  pub vendor : key.vendor ≡ 0
  pub least : (other : Key) → entry_of d other ≡ None → other.vendor ≡ 0 → key.code ≤ other.code

-- the key that a group's wildcard's least count is met with: the unknown one, or the first in this order that the group doesn't
-- list
abbrev pub entry_filler : Dictionary → Sends → Key → List Ranked → ℕ → Option Key
entry_filler d who unknown order e = option_and_then (λ def. option_map (λ r. r.key) (filler_of who unknown order (rules_in d def))) (group_place d e)

-- for each entry, in the order of their lengths
pub record AreFillers (d : Dictionary) (who : Sends) (unknown : Key) (lengths : List ℕ) (fillers : List (Option Key)) : Type 0 where
  pub order : List Ranked
  pub is_order : IsOrder (length_of d who lengths) d.entries order
  pub each : (e : ℕ) → e < length d.entries → kept_at fillers e ≡ entry_filler d who unknown order e

-- for each entry the shortest data of its format; a group has none
abbrev pub AreTheData : Dictionary → List (Option Witness) → Type 0
AreTheData d found = (e : ℕ) (entry : DictEntry) → slice_get d.entries e ≡ Some entry → option_map witness_bytes (kept_at found e) ≡ the_data entry.format

pub record IsLeastOf (d : Dictionary) (who : Sends) (least : Least) : Type 0 where
  pub sends : least.sends ≡ who
  pub unknown : IsFirstUnknown d least.unknown
  pub lengths : AreExact d who least.lengths.items
  pub fillers : AreFillers d who least.unknown least.lengths.items least.fillers.items
  pub leaf_data : AreTheData d least.leaf_data.items
