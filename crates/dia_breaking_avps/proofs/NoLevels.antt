-- Shortest data of a format that is no level.
use Rattle.std.proofs.Common.{◌≡◌, ℕ, zero, suc, ◌<◌, ◌≤◌, List, [], ◌∷◌, length, map, All, refl, sym, ap, subst, arith, inl, inr, length-append}
use Rattle.std.specs.Prelude.{◌⊎◌, codes}
use Rattle.std.specs.List.{AllByRecursion}
use Rattle.std.proofs.lemmas.Str.{IsUtf8-nil}
use Rattle.dia_wire.specs.Wire.{PlainAvp, key_of, SpellsAll}
use Rattle.dia_data.specs.Plain.{PlainFormat, AnyBytes, FourBytes, EightBytes, Grouped, Address, Utf8String, DiameterIdentity, DiameterUri, Enumerated}
use Rattle.dia_data.specs.Leaf.{IsAddress, IsGraphic, IsIdentity, IsLeaf, IsUri, NamesScheme}
use Rattle.dia_data.proofs.FormatsBelow.{leaf_below}
use Rattle.dia_book.specs.declared.DRule.{DRule}
use Rattle.dia_book.specs.Dictionary.{Dictionary}
use Rattle.dia_terms.specs.declared.Unknown.{Unknown}
use Rattle.dia_valid.specs.Valid.{Fits, IsLevel, Placed}
use Rattle.dia_breaking_sites.specs.Sent.{AreBytes}
use Rattle.dia_breaking_data.specs.Shortest.{IsShortestLeaf, AreBytes as AreWitnessBytes}
use Rattle.dia_breaking_avps.specs.Sent.{IsShortestRefused}
use Rattle.dia_breaking_avps.proofs.EmptyLevels.{placed_none, none_placed}
use Rattle.dia_breaking_avps.proofs.FirstAvps.{level_long, no_zeros, some_long}

pub bytes_of : (bytes : List ℕ) → AreWitnessBytes bytes → AreBytes bytes
bytes_of [] h = tt
bytes_of (b ∷ bytes) h = (h.0, bytes_of bytes h.1)

pub of_bytes : (bytes : List ℕ) → AreBytes bytes → AreWitnessBytes bytes
of_bytes [] h = tt
of_bytes (b ∷ bytes) h = (h.0, of_bytes bytes h.1)

-- ---- shortest data of a format

pub no_family : IsAddress (0 ∷ 0 ∷ [])
no_family = record {
  family = 0 ∷ 0 ∷ [];
  rest = [];
  parts = refl;
  width = refl;
  ipv4 = λ e. let p : 0 ≡ 1 = e in absurd (omega (arith, p));
  ipv6 = λ e. let p : 0 ≡ 2 = e in absurd (omega (arith, p));
}

graphic : (bytes : List ℕ) → AllByRecursion IsGraphic bytes → All IsGraphic bytes
graphic [] h k d lt = absurd (omega (arith, lt))
graphic (b ∷ bytes) h zero d lt = h.0
graphic (b ∷ bytes) h (suc k) d lt = graphic bytes h.1 k d (omega (arith, lt))

letter : IsGraphic 97
letter = (omega arith, omega arith)

pub one_letter : IsIdentity (97 ∷ [])
one_letter = (omega arith, graphic (97 ∷ []) (letter, tt))

abbrev pub least_uri : List ℕ
least_uri = 97 ∷ 97 ∷ 97 ∷ 58 ∷ 47 ∷ 47 ∷ 97 ∷ []

names_scheme : NamesScheme (codes "aaa://") least_uri
names_scheme = record {
  front = 97 ∷ 97 ∷ 97 ∷ 58 ∷ 47 ∷ 47 ∷ [];
  rest = 97 ∷ [];
  parts = refl;
  spelled = refl;
  more = omega arith;
}

pub is_uri : IsUri least_uri
is_uri = (inl names_scheme, graphic least_uri (letter, (letter, (letter, ((omega arith, omega arith), ((omega arith, omega arith), ((omega arith, omega arith), (letter, tt))))))))

less_of : (n : ℕ) → n ≤ 8 → ¬ (n ≡ 8) → n < 8
less_of n le other = omega (arith, le, other)

below : (w : List ℕ) (n : ℕ) → length w ≤ n → n < 8 → length w < 8
below w n le less = omega (arith, le, less)

-- shortest data has less than 8 bytes, or any 8 bytes are data of the format
short_or_eight : (f : PlainFormat) (w : List ℕ) → IsShortestLeaf f w → (length w < 8) ⊎ ((bytes : List ℕ) → length bytes ≡ 8 → IsLeaf f bytes)
short_or_eight (AnyBytes name) w s = inl (below w 0 (s.least [] tt) (omega arith))
short_or_eight (FourBytes name) w s = let four : length w ≡ 4 = s.leaf in inl (omega (arith, four))
short_or_eight (EightBytes name) w s = inr (λ bytes e. e)
short_or_eight Grouped w s = absurd s.leaf
short_or_eight Address w s = inl (below w 2 (s.least (0 ∷ 0 ∷ []) no_family) (omega arith))
short_or_eight Utf8String w s = inl (below w 0 (s.least [] IsUtf8-nil) (omega arith))
short_or_eight DiameterIdentity w s = inl (below w 1 (s.least (97 ∷ []) one_letter) (omega arith))
short_or_eight DiameterUri w s = inl (below w 7 (s.least least_uri is_uri) (omega arith))
short_or_eight (Enumerated ranges) w s = let four : length w ≡ 4 = s.leaf.0 in inl (omega (arith, four))

-- a format of no data is one of a letter
letter_too : (f : PlainFormat) → IsLeaf f [] → IsLeaf f (97 ∷ [])
letter_too (AnyBytes name) h = tt
letter_too (FourBytes name) h = absurd (let e : 0 ≡ 4 = h in omega (arith, e))
letter_too (EightBytes name) h = absurd (let e : 0 ≡ 8 = h in omega (arith, e))
letter_too Grouped h = absurd h
letter_too Address h = absurd (let e = ap length h.parts in omega (arith, e, length-append h.family h.rest, h.width))
letter_too Utf8String h = leaf_below DiameterIdentity Utf8String tt (97 ∷ []) one_letter
letter_too DiameterIdentity h = absurd (let some = h.0 in omega (arith, some))
letter_too DiameterUri h = absurd (no_uri h)
  where
    some : (scheme : List ℕ) → NamesScheme scheme [] → ⊥
    some scheme n = let e = ap length n.parts in let more = n.more in omega (arith, e, length-append n.front n.rest, more)

    no_uri : IsUri [] → ⊥
    no_uri (inl n, all) = some _ n
    no_uri (inr n, all) = some _ n
letter_too (Enumerated ranges) h = absurd (let e : 0 ≡ 4 = h.0 in omega (arith, e))

-- ---- levels

abbrev pub eight_zeros : List ℕ
eight_zeros = 0 ∷ 0 ∷ 0 ∷ 0 ∷ 0 ∷ 0 ∷ 0 ∷ 0 ∷ []

module _ (d : Dictionary) (u : Unknown) (rules : List DRule) where
  abbrev pub IsItsLevel : List ℕ → Type 0
  IsItsLevel bytes = (n : ℕ) × IsLevel (Fits d u n) rules bytes

  pub empty_level : All (λ rule. rule.min ≡ 0) rules → IsItsLevel []
  empty_level all = (0, ([], refl, placed_none rules all, tt))

  no_avps : (avps : List PlainAvp) → SpellsAll avps [] → avps ≡ []
  no_avps [] h = refl
  no_avps (v ∷ avps) h = absurd (let long = some_long v avps [] h in omega (arith, long))

  pub not_empty : ¬ All (λ rule. rule.min ≡ 0) rules → ¬ IsItsLevel []
  not_empty other (n, (avps, spelled, placed, fit)) = other (none_placed rules (subst (λ (vs : List PlainAvp). Placed rules (map key_of vs)) (no_avps avps spelled) placed))

  pub not_short : (bytes : List ℕ) → 0 < length bytes → length bytes < 8 → ¬ IsItsLevel bytes
  not_short bytes some less (n, (avps, spelled, placed, fit)) = elim (level_long avps bytes spelled) [
    | inl e ↦ (let none = ap length e in omega (arith, none, some))
    | inr long ↦ omega (arith, long, less)
  ]

  pub not_zeros : ¬ IsItsLevel eight_zeros
  not_zeros (n, (avps, spelled, placed, fit)) = no_zeros avps eight_zeros spelled (omega arith) (refl, (refl, (refl, (refl, (refl, (refl, (refl, (refl, tt))))))))

  -- ---- the answers

  module _ (f : PlainFormat) (w : List ℕ) (s : IsShortestLeaf f w) where
    no_byte : length w ≡ 0 → w ≡ []
    no_byte e = by w e
      where
        by : (bytes : List ℕ) → length bytes ≡ 0 → bytes ≡ []
        by [] h = refl
        by (b ∷ bytes) h = absurd (omega (arith, h))

    pub of_letter : length w ≡ 0 → All (λ rule. rule.min ≡ 0) rules → IsShortestRefused (IsLeaf f) IsItsLevel (97 ∷ [])
    of_letter e all = record {
      are_bytes = (omega arith, tt);
      sent = letter_too f (subst (IsLeaf f) (no_byte e) s.leaf);
      refused = not_short (97 ∷ []) (omega arith) (omega arith);
      least = λ other sent refused. some other refused;
    }
      where
        some : (other : List ℕ) → ¬ IsItsLevel other → 1 ≤ length other
        some [] refused = absurd (refused (empty_level all))
        some (b ∷ bytes) refused = omega arith

    pub of_eight : length w ≡ 8 → IsShortestRefused (IsLeaf f) IsItsLevel eight_zeros
    of_eight e = record {
      are_bytes = (omega arith, (omega arith, (omega arith, (omega arith, (omega arith, (omega arith, (omega arith, (omega arith, tt))))))));
      sent = elim (short_or_eight f w s) [ inl less ↦ absurd (omega (arith, e, less)) | inr any ↦ any eight_zeros refl ];
      refused = not_zeros;
      least = λ other sent refused. let le = s.least other sent in omega (arith, le, e);
    }

    pub of_none : length w ≡ 0 → ¬ All (λ rule. rule.min ≡ 0) rules → IsShortestRefused (IsLeaf f) IsItsLevel w
    of_none e asks = record {
      are_bytes = bytes_of w s.are_bytes;
      sent = s.leaf;
      refused = subst (λ (bytes : List ℕ). ¬ IsItsLevel bytes) (sym (no_byte e)) (not_empty asks);
      least = λ other sent refused. s.least other sent;
    }

    pub of_short : 0 < length w → ¬ (length w ≡ 8) → IsShortestRefused (IsLeaf f) IsItsLevel w
    of_short some other = record {
      are_bytes = bytes_of w s.are_bytes;
      sent = s.leaf;
      refused = not_short w some (by (short_or_eight f w s));
      least = λ bytes sent refused. s.least bytes sent;
    }
      where
        by : (length w < 8) ⊎ ((bytes : List ℕ) → length bytes ≡ 8 → IsLeaf f bytes) → length w < 8
        by (inl less) = less
        by (inr any) = let le = s.least eight_zeros (any eight_zeros refl) in less_of (length w) le other
