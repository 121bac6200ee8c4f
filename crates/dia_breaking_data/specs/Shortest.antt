-- The shortest data of a format, and the shortest that one format accepts and another doesn't (RFC 6733 sections 4.2 and 4.3).
use Rattle.std.specs.Prelude.{ℕ, ◌<◌, ◌≤◌, List, [], ◌∷◌, length, take, ⊤}
use Rattle.dia_data.specs.Plain.{PlainFormat}
use Rattle.dia_data.specs.Leaf.{IsLeaf}
use Rattle.dia_breaking_data.specs.declared.short_data.Witness.{Witness}

-- the bytes that a value holds
abbrev pub witness_bytes : Witness → List ℕ
witness_bytes witness = take witness.count witness.bytes

-- each is a byte
abbrev pub AreBytes : List ℕ → Type 0
AreBytes [] = ⊤
AreBytes (b ∷ bs) = (b < 256) × AreBytes bs

-- the bytes are of the first format and not of the second, and no shorter ones are
pub record IsShortest (f g : PlainFormat) (bytes : List ℕ) : Type 0 where
  pub are_bytes : AreBytes bytes
  pub sent : IsLeaf f bytes
  pub refused : ¬ IsLeaf g bytes
  pub least : (other : List ℕ) → IsLeaf f other → ¬ IsLeaf g other → length bytes ≤ length other

-- the bytes are of the format, and no shorter ones are
pub record IsShortestLeaf (f : PlainFormat) (bytes : List ℕ) : Type 0 where
  pub are_bytes : AreBytes bytes
  pub leaf : IsLeaf f bytes
  pub least : (other : List ℕ) → IsLeaf f other → length bytes ≤ length other
