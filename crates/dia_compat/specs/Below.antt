-- When what is where one definition says is where another says.
use Rattle.std.specs.Prelude.{◌≡◌, ◌≢◌, ℕ, ◌<◌, ◌≤◌, ◌⊎◌, List, [], ◌∷◌, Option, Some, None, IsSome, IfSome, ⊤}
use Rattle.dia_wire.specs.declared.Key.{Key}
use Rattle.dia_data.specs.Plain.{AnyBytes, OctetString}
use Rattle.dia_book.specs.declared.MRule.TheVariants.{Must, MustNot}
use Rattle.dia_book.specs.declared.DRule.{DRule}
use Rattle.dia_book.specs.Dictionary.{Dictionary, DictEntry}
use Rattle.dia_terms.specs.declared.Unknown.{Unknown}
use Rattle.dia_terms.specs.declared.Unknown.TheVariants.{Kept}
use Rattle.dia_valid.specs.Valid.{known, fixed_rules}
use Rattle.dia_compat.specs.declared.checking.Test.{Test}
use Rattle.dia_compat.specs.declared.checking.Test.TheVariants.{N1, N2, N3, N4, N5, N6, N7, N8, N9, N10}
use Rattle.dia_valid.specs.Rules.{HasRule, IsListed, HasWildcard}

-- the bounds of one rule lie within those of another
abbrev pub MaxWithin : Option ℕ → Option ℕ → Type 0
MaxWithin max None = ⊤
MaxWithin None (Some n) = ⊥
MaxWithin (Some m) (Some n) = m ≤ n

abbrev pub Within : DRule → DRule → Type 0
Within a b = (b.min ≤ a.min) × MaxWithin a.max b.max

-- the max is none or above 0
abbrev pub IsAboveZero : Option ℕ → Type 0
IsAboveZero max = IfSome max (λ n. 0 < n)

-- an AVP of this key that fits in a has its M flag clear, and b accepts it as an unknown one
abbrev pub IsCoveredAlone : Dictionary → Dictionary → Unknown → Key → Type 0
IsCoveredAlone a b u key = (u ≡ Kept) × (known b key ≡ None) × (e : DictEntry) × (known a key ≡ Some e) × (e.rule ≡ MustNot)

-- the key is one of a pair, or needs none
abbrev pub IsCovered : Dictionary → Dictionary → Unknown → (Key → Type 0) → Key → Type 0
IsCovered a b u paired key = paired key ⊎ IsCoveredAlone a b u key

-- the second's fixed rules are the first ones of the first's
abbrev pub FixedWithin : List DRule → List DRule → Type 0
FixedWithin rules [] = ⊤
FixedWithin [] (s ∷ others) = ⊥
FixedWithin (r ∷ rules) (s ∷ others) = (r.key ≡ s.key) × Within r s × FixedWithin rules others

abbrev pub IsKnown : Dictionary → Key → Type 0
IsKnown d key = IsSome (known d key)

-- a wildcard of the first lets every known key in that its definition does not list, and every unknown one
pub record WildcardCovered (da db : Dictionary) (u : Unknown) (paired : (Key → Type 0)) (a : List DRule) : Type 0 where
  pub known_keys : (key : Key) → IsKnown da key → ¬ IsListed a key → IsCovered da db u paired key
  pub new_keys : u ≡ Kept → (key : Key) (e : DictEntry) → known db key ≡ Some e → ¬ IsKnown da key → (e.format ≡ AnyBytes OctetString) × (e.rule ≢ Must)

-- one test of two definitions. The tenth is of their pair
abbrev pub Passes : Test → Dictionary → Dictionary → Unknown → (Key → Type 0) → List DRule → List DRule → Type 0
Passes N1 da db u paired a b = FixedWithin (fixed_rules a) (fixed_rules b)
Passes N2 da db u paired a b = (key : Key) (r s : DRule) → HasRule a key r → HasRule b key s → Within r s
Passes N3 da db u paired a b = (key : Key) (r : DRule) → HasRule a key r → IsAboveZero r.max → ¬ IsListed b key → (w : DRule) × HasWildcard b w
Passes N4 da db u paired a b = (key : Key) (r : DRule) → HasRule a key r → IsAboveZero r.max → IsCovered da db u paired key
Passes N5 da db u paired a b = (key : Key) (s : DRule) → HasRule b key s → ¬ IsListed a key → (s.min ≡ 0)
    × ((w : DRule) → HasWildcard a w → (u ≡ Kept) ⊎ IsKnown da key → MaxWithin w.max s.max)
Passes N6 da db u paired a b = (v : DRule) → HasWildcard a v → (w : DRule) × HasWildcard b w
Passes N7 da db u paired a b = (w : DRule) (max : ℕ) → HasWildcard b w → w.max ≡ Some max
    → ((key : Key) (r : DRule) → HasRule a key r → IsAboveZero r.max → IsListed b key) × ((v : DRule) → HasWildcard a v → MaxWithin v.max (Some max))
Passes N8 da db u paired a b = (w : DRule) → HasWildcard b w → 0 < w.min → ((v : DRule) × HasWildcard a v × (w.min ≤ v.min)) × ((key : Key) → IsListed b key → IsListed a key)
Passes N9 da db u paired a b = (v : DRule) → HasWildcard a v → IsAboveZero v.max → WildcardCovered da db u paired a
Passes N10 da db u paired a b = ⊤

-- what is where a says is where b says
abbrev pub DefBelow : Dictionary → Dictionary → Unknown → (Key → Type 0) → List DRule → List DRule → Type 0
DefBelow da db u paired a b = (test : Test) → Passes test da db u paired a b
