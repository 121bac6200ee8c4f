-- What a dictionary text of messages is made of: facts about their levels, with places and unknown AVPs in order.
use Rattle.std.specs.Prelude.{◌≡◌, ℕ, nat_lt, Bool, not, ◌||◌, ◌&&◌, List, is_some}
use Rattle.std.specs.List.{list_any}
use Rattle.std.specs.List.Sorted.{IsStrictlySortedBy}
use Rattle.std.specs.BTreeMap.{is_at}
use Rattle.std.specs.Ordering.{nat_cmp, ordering_then}
use Rattle.std.specs.declared.cmp.Ordering.{Ordering}
use Rattle.dia_wire.specs.declared.Key.{Key}
use Rattle.dia_book.specs.Dictionary.{Dictionary, entry_of}
use Rattle.dia_learn.specs.declared.place.Place.{Place}
use Rattle.dia_learn.specs.Levels.{PlainLevel}
use Rattle.dia_learn.specs.Kept.{greatest, has_clear, has_level, has_set}

-- by the first number, then by the second
abbrev pub pairs_cmp : ℕ × ℕ → ℕ × ℕ → Ordering
pairs_cmp p q = ordering_then (nat_cmp p.0 q.0) (nat_cmp p.1 q.1)

-- a place as the number of its definition and its Application-ID, an AVP's key as its vendor and its code
abbrev pub place_of : ℕ × ℕ → Place
place_of p = record { def = p.0; app = p.1 }

abbrev pub key_of_pair : ℕ × ℕ → Key
key_of_pair p = record { code = p.1; vendor = p.0 }

-- these pairs are those that have this, each once and in order
pub record AreThose (has : ℕ × ℕ → Bool) (pairs : List (ℕ × ℕ)) : Type 0 where
  pub order : IsStrictlySortedBy pairs_cmp pairs
  pub all : (q : ℕ × ℕ) → list_any (is_at (pairs_cmp q)) pairs ≡ has q

-- what messages have: the greatest count of a key in a level of a place; AVPs of a key with M set, and with M clear; errors
-- with P set, and with P clear; where there are levels; and the AVPs that the dictionary doesn't know
pub record PlainFacts : Type 0 where
  pub most : Place → Key → ℕ
  pub set : Key → Bool
  pub clear : Key → Bool
  pub proxied : Bool
  pub direct : Bool
  pub places : List (ℕ × ℕ)
  pub unknown : List (ℕ × ℕ)

-- some AVP has the key
abbrev pub is_seen : PlainFacts → Key → Bool
is_seen f k = f.set k || f.clear k

-- some level of the place has an AVP of the key
abbrev pub is_in_levels : PlainFacts → Place → Key → Bool
is_in_levels f w k = nat_lt 0 (f.most w k)

abbrev pub is_unknown : Dictionary → Key → Bool
is_unknown d k = not (is_some (entry_of d k))

-- these are the facts about these levels, and about errors whose P flags are these
pub record AreFacts (d : Dictionary) (ls : List PlainLevel) (flags : List Bool) (f : PlainFacts) : Type 0 where
  pub most : (w : Place) (k : Key) → f.most w k ≡ greatest ls w k
  pub set : (k : Key) → f.set k ≡ has_set ls k
  pub clear : (k : Key) → f.clear k ≡ has_clear ls k
  pub proxied : f.proxied ≡ list_any (λ p. p) flags
  pub direct : f.direct ≡ list_any not flags
  pub places : AreThose (λ q. has_level ls (place_of q)) f.places
  pub unknown : AreThose (λ q. is_seen f (key_of_pair q) && is_unknown d (key_of_pair q)) f.unknown
