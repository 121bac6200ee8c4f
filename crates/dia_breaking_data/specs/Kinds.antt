-- The formats by what data they accept.
use Rattle.std.specs.Prelude.{◌≡◌, ℕ, ◌≤◌, ◌↔◌, ◌⊎◌, ◌/◌, ◌%◌, List, [], ◌∷◌, length, Option, Some, None, Any, ⊤}
use Rattle.std.specs.Str.{IsUtf8}
use Rattle.dia_data.specs.Number.{number}
use Rattle.dia_data.specs.Ranges.{AreApart}
use Rattle.dia_data.specs.Plain.{PlainFormat}
use Rattle.dia_data.specs.Leaf.{IsLeaf, IsAddress, IsIdentity, IsUri, IsWithin}
use Rattle.dia_breaking_data.specs.Shortest.{AreBytes}
use Rattle.dia_breaking_data.specs.declared.kinds.Kind.{Kind as RustKind}
use Rattle.dia_breaking_data.specs.declared.kinds.Kind.TheVariants as kinds

-- any data, any 4 bytes, any 8 bytes, no leaf, and the other formats by themselves; an Enumerated format with its ranges
pub data Kind : Type 0 where
  Octets : Kind
  Four : Kind
  Eight : Kind
  Level : Kind
  Host : Kind
  Text : Kind
  Identity : Kind
  Link : Kind
  Listed : (ranges : List (ℕ × ℕ)) → Kind

-- the kind that a Rust value names
abbrev pub shown : RustKind → Kind
shown kinds.Octets = Octets
shown kinds.Four = Four
shown kinds.Eight = Eight
shown kinds.Level = Level
shown kinds.Host = Host
shown kinds.Text = Text
shown kinds.Identity = Identity
shown kinds.Link = Link
shown (kinds.Listed ranges) = Listed ranges.now

-- the data is one that the kind accepts
abbrev pub IsOf : Kind → List ℕ → Type 0
IsOf Octets bytes = ⊤
IsOf Four bytes = length bytes ≡ 4
IsOf Eight bytes = length bytes ≡ 8
IsOf Level bytes = ⊥
IsOf Host bytes = IsAddress bytes
IsOf Text bytes = IsUtf8 bytes
IsOf Identity bytes = IsIdentity bytes
IsOf Link bytes = IsUri bytes
IsOf (Listed ranges) bytes = (length bytes ≡ 4) × Any (IsWithin (number bytes)) ranges

-- the kind accepts the leaves of the format
abbrev pub IsKindOf : Kind → PlainFormat → Type 0
IsKindOf kind format = (bytes : List ℕ) → IsLeaf format bytes ↔ IsOf kind bytes

-- the ranges, if the kind has some, are in order, and neither overlap nor touch
abbrev pub IsApart : Kind → Type 0
IsApart (Listed ranges) = AreApart ranges
IsApart kind = ⊤

-- the number in 4 bytes, in network byte order
abbrev pub four_bytes : ℕ → List ℕ
four_bytes n = n / 256 / 256 / 256 ∷ n / 256 / 256 % 256 ∷ n / 256 % 256 ∷ n % 256 ∷ []

-- the first of some data that the format doesn't accept, or none where it accepts each
abbrev pub IsFirstRefused : PlainFormat → List (List ℕ) → Option (List ℕ) → Type 0
IsFirstRefused format [] found = found ≡ None
IsFirstRefused format (bytes ∷ rest) found = ((¬ IsLeaf format bytes) × (found ≡ Some bytes)) ⊎ (IsLeaf format bytes × IsFirstRefused format rest found)

-- shortest data of the first kind that is none of the second
pub record IsShortestOf (f g : Kind) (bytes : List ℕ) : Type 0 where
  pub are_bytes : AreBytes bytes
  pub sent : IsOf f bytes
  pub refused : ¬ IsOf g bytes
  pub least : (other : List ℕ) → IsOf f other → ¬ IsOf g other → length bytes ≤ length other

-- such data, or none where all data of the first kind is of the second
abbrev pub IsWitness : Kind → Kind → Option (List ℕ) → Type 0
IsWitness f g None = (bytes : List ℕ) → AreBytes bytes → IsOf f bytes → IsOf g bytes
IsWitness f g (Some bytes) = IsShortestOf f g bytes
