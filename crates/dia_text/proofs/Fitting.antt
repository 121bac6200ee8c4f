-- AVPs that fit with some number of levels fit with more.
use Rattle.std.proofs.Common.{ℕ, zero, suc, ◌+◌, ◌≤◌, List, [], ◌∷◌, Option, Some, None, arith}
use Rattle.std.specs.Prelude.{MatchOption}
use Rattle.std.specs.List.{AllByRecursion}
use Rattle.dia_wire.specs.Wire.{PlainAvp, key_of}
use Rattle.dia_data.specs.Leaf.{IsLeaf}
use Rattle.dia_book.specs.declared.DRule.{DRule}
use Rattle.dia_book.specs.Dictionary.{Dictionary, DictEntry, PlainDefinition}
use Rattle.dia_terms.specs.declared.Unknown.{Unknown}
use Rattle.dia_valid.specs.Valid.{known, MHolds, IsAccepted, IsLevel, Fits}

pub all_map : {X : Type 0} (P Q : X → Type 0) (xs : List X) → ((x : X) → P x → Q x) → AllByRecursion P xs → AllByRecursion Q xs
all_map P Q [] f h = tt
all_map P Q (x ∷ xs) f (h, all) = (f x h, all_map P Q xs f all)

-- the AVP is as this entry says, where P says which data a group may have
abbrev Body : Unknown → (List DRule → List ℕ → Type 0) → PlainAvp → Option DictEntry → Type 0
Body u P v o = MatchOption o (IsAccepted u v.flags) (λ e. MHolds e.rule v.flags × MatchOption e.group (IsLeaf e.format v.bytes) (λ group. P group.rules v.bytes))

data_more : (P Q : List DRule → List ℕ → Type 0) (bytes : List ℕ) (X : Type 0) (o : Option PlainDefinition) → ((rules : List DRule) → P rules bytes → Q rules bytes)
    → MatchOption o X (λ group. P group.rules bytes) → MatchOption o X (λ group. Q group.rules bytes)
data_more P Q bytes X None f h = h
data_more P Q bytes X (Some group) f h = f group.rules h

body_more : (u : Unknown) (P Q : List DRule → List ℕ → Type 0) (v : PlainAvp) (o : Option DictEntry) → ((rules : List DRule) → P rules v.bytes → Q rules v.bytes) → Body u P v o → Body u Q v o
body_more u P Q v None f h = h
body_more u P Q v (Some e) f h = (h.0, data_more P Q v.bytes (IsLeaf e.format v.bytes) e.group f h.1)

pub fits_more : (d : Dictionary) (u : Unknown) (n m : ℕ) (v : PlainAvp) → n ≤ m → Fits d u n v → Fits d u m v
fits_more d u zero zero v le h = h
fits_more d u zero (suc m) v le h = body_more u (λ rules bytes. ⊥) (IsLevel (Fits d u m)) v (known d (key_of v)) (λ rules bad. absurd bad) h
fits_more d u (suc n) zero v le h = absurd (omega (arith, le))
fits_more d u (suc n) (suc m) v le h = body_more u (IsLevel (Fits d u n)) (IsLevel (Fits d u m)) v (known d (key_of v))
    (λ rules lv. (lv.0, lv.1, lv.2, all_map (Fits d u n) (Fits d u m) lv.0 (λ w k. fits_more d u n m w (omega (arith, le)) k) lv.3)) h

-- one AVP more
pub all_fit : (d : Dictionary) (u : Unknown) (n m : ℕ) (v : PlainAvp) (vs : List PlainAvp) → Fits d u n v → AllByRecursion (Fits d u m) vs → AllByRecursion (Fits d u (n + m)) (v ∷ vs)
all_fit d u n m v vs h all = (fits_more d u n (n + m) v (omega arith) h, all_map (Fits d u m) (Fits d u (n + m)) vs (λ w k. fits_more d u m (n + m) w (omega arith) k) all)
