-- Each leaf of a format below another is a leaf of that.
use Rattle.std.proofs.Common.{ℕ, List, length, All, subst, arith, inl, inr, refl}
use Rattle.std.specs.Prelude.{IsNone, IfSome, Any, Option, Some, None}
use Rattle.std.proofs.lemmas.Bool.{cases_lt}
use Rattle.std.proofs.lemmas.List.{get_or_past}
use Rattle.std.specs.Str.{IsUtf8}
use Rattle.std.proofs.lemmas.Str.{IsUtf8-from_ascii}
use Rattle.dia_data.specs.Plain.{PlainFormat, AnyBytes, FourBytes, OctetString, Integer32, Grouped, Utf8String, DiameterIdentity, DiameterUri, Enumerated}
use Rattle.dia_data.specs.Number.{number}
use Rattle.dia_data.specs.Leaf.{IsLeaf, IsGraphic, IsListed, IsWithin}
use Rattle.dia_data.specs.Below.{FormatBelow, IsDataIncluded, ValuesBelow}

graphic_text : (bytes : List ℕ) → All IsGraphic bytes → IsUtf8 bytes
graphic_text bytes all = IsUtf8-from_ascii bytes (λ i. elim (cases_lt i (length bytes)) [
  | inl within ↦ (let graphic = all i 0 within in omega (arith, graphic.1))
  | inr past ↦ rw (get_or_past bytes i 0 past) (omega arith)
])

if_none : {X : Type 0} (P : X → Type 0) (o : Option X) → IsNone o → IfSome o P
if_none P None none = tt
if_none P (Some x) none = absurd cc

listed_below : (v w : Option (List (ℕ × ℕ))) (n : ℕ) → ValuesBelow v w → IsListed v n → IsListed w n
listed_below v w n (inl none) listed = if_none (λ rs. Any (IsWithin n) rs) w none
listed_below v w n (inr each) listed = each.1 n listed

-- the leaves of a format below another
pub leaf_below : (f g : PlainFormat) → FormatBelow f g → (bytes : List ℕ) → IsLeaf f bytes → IsLeaf g bytes
leaf_below f (AnyBytes OctetString) h bytes leaf = tt
leaf_below (Enumerated v) (Enumerated w) h bytes leaf = (leaf.0, listed_below v w (number bytes) h leaf.1)
leaf_below (Enumerated v) (FourBytes Integer32) h bytes leaf = leaf.0
leaf_below DiameterIdentity Utf8String h bytes leaf = graphic_text bytes leaf.1
leaf_below DiameterUri Utf8String h bytes leaf = graphic_text bytes leaf.1
leaf_below Grouped Grouped h bytes leaf = leaf
leaf_below f g h bytes leaf = subst (λ (x : PlainFormat). IsLeaf x bytes) h leaf

pub included : (f g : PlainFormat) → FormatBelow f g → IsDataIncluded f g
included Grouped (AnyBytes OctetString) h = inr (refl, refl)
included Grouped Grouped h = absurd h
included Grouped g h = absurd (cc)
included f g h = inl (λ e. absurd (cc), leaf_below f g h)
