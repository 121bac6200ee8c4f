-- What is said of levels that are read as leaves, by the kind of their format.
use Rattle.std.proofs.Common.{◌≡◌, ℕ, Bool, true, false, List, ap, inl, inr, ◌⊎◌}
use Rattle.dia_data.specs.declared.FormatKind.{FormatKind}
use Rattle.dia_data.specs.declared.FormatKind.TheVariants as kind
use Rattle.dia_data.specs.declared.Reading.{Reading}
use Rattle.dia_data.specs.Leaf.{IsLeaf}
use Rattle.dia_data.specs.Plain.{PlainFormat, AnyBytes, FourBytes, EightBytes, Grouped, Address, Utf8String, DiameterIdentity, DiameterUri, Enumerated, kind_of}
use Rattle.dia_book.specs.declared.DRule.{DRule}
use Rattle.dia_breaking_avps.specs.Levels.{HasEightBytes, RefusesLeastLevel}
use Rattle.dia_breaking_avps.proofs.FirstAvps.{four_refuses, identity_refuses, uri_refuses}

pub any_leaf : (f : PlainFormat) → kind_of f ≡ kind.AnyBytes → (bytes : List ℕ) → IsLeaf f bytes
any_leaf (AnyBytes name) e bytes = tt
any_leaf f e bytes = absurd cc

pub eight_leaf : (f : PlainFormat) (r : Reading) → kind_of f ≡ kind.EightBytes r → HasEightBytes f
eight_leaf (EightBytes name) r e = tt
eight_leaf f r e = absurd cc

-- the kinds of which no data is a least level
abbrev pub is_of_others : FormatKind → Bool
is_of_others kind.AnyBytes = false
is_of_others (kind.EightBytes r) = false
is_of_others kind.Address = false
is_of_others kind.Utf8String = false
is_of_others k = true

pub one_of_others : (k : FormatKind)
    → ((r : Reading) × (k ≡ kind.FourBytes r)) ⊎ ((k ≡ kind.Grouped) ⊎ ((k ≡ kind.DiameterIdentity) ⊎ ((k ≡ kind.DiameterUri) ⊎ (k ≡ kind.Enumerated))))
    → is_of_others k ≡ true
one_of_others k (inl (r, e)) = ap is_of_others e
one_of_others k (inr (inl e)) = ap is_of_others e
one_of_others k (inr (inr (inl e))) = ap is_of_others e
one_of_others k (inr (inr (inr (inl e)))) = ap is_of_others e
one_of_others k (inr (inr (inr (inr e)))) = ap is_of_others e

pub others_refuse : (rules : List DRule) (f : PlainFormat) → is_of_others (kind_of f) ≡ true → RefusesLeastLevel rules f
others_refuse rules (FourBytes name) e = four_refuses (FourBytes name) (λ bytes leaf. leaf)
others_refuse rules Grouped e = λ avps bytes spelled ordinary leaf. leaf
others_refuse rules DiameterIdentity e = identity_refuses
others_refuse rules DiameterUri e = uri_refuses
others_refuse rules (Enumerated ranges) e = four_refuses (Enumerated ranges) (λ bytes leaf. leaf.0)
others_refuse rules f e = absurd cc
