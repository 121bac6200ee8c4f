-- Which format accepts all that another accepts.
use Rattle.std.specs.Prelude.{◌≡◌, ◌≢◌, ℕ, ◌⊎◌, Any, IsSome, IsNone, List, Option, ⊤}
use Rattle.dia_data.specs.Plain.{PlainFormat, AnyBytes, FourBytes, OctetString, Integer32, Grouped, Utf8String, DiameterIdentity, DiameterUri, Enumerated}
use Rattle.dia_data.specs.Leaf.{IsLeaf, IsListed, IsWithin}

-- no list, or each number of the first list's ranges is in some range of the second
abbrev pub ValuesBelow : Option (List (ℕ × ℕ)) → Option (List (ℕ × ℕ)) → Type 0
ValuesBelow v w = IsNone w ⊎ (IsSome v × ((n : ℕ) → IsListed v n → IsListed w n))

-- which format is below another (our profile): its data are included then (`IsDataIncluded`), but Time isn't below Unsigned32
abbrev pub FormatBelow : PlainFormat → PlainFormat → Type 0
FormatBelow f (AnyBytes OctetString) = ⊤
FormatBelow (Enumerated v) (Enumerated w) = ValuesBelow v w
FormatBelow (Enumerated v) (FourBytes Integer32) = ⊤
FormatBelow DiameterIdentity Utf8String = ⊤
FormatBelow DiameterUri Utf8String = ⊤
FormatBelow Grouped Grouped = ⊥
FormatBelow f g = f ≡ g

-- each leaf of the first format is one of the second, or the first is Grouped and the second is OctetString
abbrev pub IsDataIncluded : PlainFormat → PlainFormat → Type 0
IsDataIncluded f g = ((f ≢ Grouped) × ((bytes : List ℕ) → IsLeaf f bytes → IsLeaf g bytes)) ⊎ ((f ≡ Grouped) × (g ≡ AnyBytes OctetString))

-- each number of some range of the first list is in some range of the second
abbrev pub RangesBelow : List (ℕ × ℕ) → List (ℕ × ℕ) → Type 0
RangesBelow v w = (n : ℕ) → Any (IsWithin n) v → Any (IsWithin n) w
