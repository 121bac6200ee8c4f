-- What is kept of levels: where they are, the M flags of AVPs, and the greatest counts in one level.
use Rattle.std.specs.Prelude.{◌≡◌, ℕ, max, Bool, false, not, ◌||◌, ◌&&◌, if◌then◌else◌, List, [], ◌∷◌, count_by, unwrap_or}
use Rattle.std.specs.List.{list_any}
use Rattle.indexmap.specs.IndexMap.{get}
use Rattle.indexmap.specs.IndexSet.{contains}
use Rattle.dia_wire.specs.declared.Key.{Key}
use Rattle.dia_wire.specs.Wire.{PlainAvp, key_of}
use Rattle.dia_book.specs.Keys.{same_key}
use Rattle.dia_learn.specs.declared.place.Place.{Place}
use Rattle.dia_learn.specs.declared.seen.Flags.{Flags}
use Rattle.dia_learn.specs.declared.seen.Seen.{Seen}
use Rattle.dia_learn.specs.Levels.{PlainLevel, same_place, same_spot, has_m}

-- ---- what levels have

-- some level is at this place
abbrev pub has_level : List PlainLevel → Place → Bool
has_level ls w = list_any (λ l. same_place l.place w) ls

-- how many AVPs of the key there are
abbrev pub count_of : Key → List PlainAvp → ℕ
count_of k avps = count_by (λ v. same_key (key_of v) k) avps

-- the greatest count of the key in a level at the place, 0 where there is none
abbrev pub greatest : List PlainLevel → Place → Key → ℕ
greatest [] w k = 0
greatest (l ∷ ls) w k = if same_place l.place w then max (count_of k l.avps) (greatest ls w k) else greatest ls w k

-- some AVP of the key in some level has M set, and some has it clear
abbrev pub has_set : List PlainLevel → Key → Bool
has_set ls k = list_any (λ l. list_any (λ v. same_key (key_of v) k && has_m v.flags) l.avps) ls

abbrev pub has_clear : List PlainLevel → Key → Bool
has_clear ls k = list_any (λ l. list_any (λ v. same_key (key_of v) k && not (has_m v.flags)) l.avps) ls

-- ---- what is kept

abbrev pub is_in : Seen → Place → Bool
is_in seen w = contains same_place seen.places w

abbrev pub most_of : Seen → Place → Key → ℕ
most_of seen w k = unwrap_or (get same_spot seen.most (record { place = w; key = k })) 0

abbrev pub no_flags : Flags
no_flags = record { set = false; clear = false }

abbrev pub flags_of : Seen → Key → Flags
flags_of seen k = unwrap_or (get same_key seen.flags k) no_flags

-- the flags with that of one more AVP
abbrev pub with_flag : Bool → Flags → Flags
with_flag set flags = record { set = flags.set || set; clear = flags.clear || not set }

-- this is kept of the levels
pub record IsKept (ls : List PlainLevel) (seen : Seen) : Type 0 where
  pub places : (w : Place) → is_in seen w ≡ has_level ls w
  pub most : (w : Place) (k : Key) → most_of seen w k ≡ greatest ls w k
  pub set : (k : Key) → (flags_of seen k).set ≡ has_set ls k
  pub clear : (k : Key) → (flags_of seen k).clear ≡ has_clear ls k
