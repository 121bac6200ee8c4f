-- Data that is not other than its format says is as it says.
use Rattle.std.proofs.Common.{◌≡◌, ℕ, ◌+◌, ◌≤◌, Bool, true, false, List, [], ◌∷◌, length, map, take, drop, get_or, Option, Some, None, refl, sym, ap, ◌∙◌, arith, inl, inr, ⊎_elim, codes}
use Rattle.std.specs.Prelude.{nat_lt, ◌⊎◌, All, Any}
use Rattle.std.specs.List.{list_any}
use Rattle.std.specs.Str.{IsUtf8, is_utf8}
use Rattle.std.specs.Char.{to_ascii_lowercase}
use Rattle.std.proofs.lemmas.Str.{IsUtf8-from_is_utf8, is_utf8-from_IsUtf8}
use Rattle.std.proofs.lemmas.Bool.{ltb-false, ltb-true, both_ways}
use Rattle.std.proofs.lemmas.List.{length-append, length-map, length-take, length-drop, take_at, drop_at, take-append-drop}
use Rattle.std.proofs.lemmas.List.Folds.{Any-from_list_any, list_any-from_Any}
use Rattle.dia_data.specs.Number.{number}
use Rattle.dia_data.specs.Plain.{PlainFormat, AnyBytes, FourBytes, EightBytes, Grouped, Address, Utf8String, DiameterIdentity, DiameterUri, Enumerated}
use Rattle.dia_data.specs.Leaf.{IsLeaf, IsAddress, IsIdentity, IsGraphic, IsUri, NamesScheme, IsListed, IsWithin}
use Rattle.dia_check.proofs.OneAnswer.{one_number}

le_stable : (n m : ℕ) → ¬ ¬ (n ≤ m) → n ≤ m
le_stable n m h = by (nat_lt m n) refl
  where
    by : (b : Bool) → nat_lt m n ≡ b → n ≤ m
    by true e = let lt = ltb-true m n e in absurd (h (λ le. omega (arith, le, lt)))
    by false e = ltb-false m n e

-- ---- addresses

address_stable : (bytes : List ℕ) → ¬ ¬ IsAddress bytes → IsAddress bytes
address_stable bytes h =
    let long : 2 ≤ length bytes = le_stable 2 (length bytes) (λ short. h (λ a. let e : length bytes ≡ length a.family + length a.rest = ap length a.parts ∙ length-append a.family a.rest in
    let w = a.width in short (omega (arith, e, w)))) in
    record {
      family = take 2 bytes;
      rest = drop 2 bytes;
      parts = sym (take-append-drop 2 bytes);
      width = omega (arith, length-take 2 bytes, long);
      ipv4 = λ is. one_number (length (drop 2 bytes)) 4 (λ other. h (λ a. other (ap length (following a) ∙ a.ipv4 (ap number (sym (front a)) ∙ is))));
      ipv6 = λ is. one_number (length (drop 2 bytes)) 16 (λ other. h (λ a. other (ap length (following a) ∙ a.ipv6 (ap number (sym (front a)) ∙ is))));
    }
  where
    front : (a : IsAddress bytes) → take 2 bytes ≡ a.family
    front a = ap (take 2) a.parts ∙ take_at a.family a.rest 2 a.width

    following : (a : IsAddress bytes) → drop 2 bytes ≡ a.rest
    following a = ap (drop 2) a.parts ∙ drop_at a.family a.rest 2 a.width

-- ---- graphic bytes

graphic_stable : (bytes : List ℕ) → ¬ ¬ All IsGraphic bytes → All IsGraphic bytes
graphic_stable bytes h = λ k d lt.
    (le_stable 33 (get_or bytes k d) (λ other. h (λ all. other (all k d lt).0)), le_stable (get_or bytes k d) 126 (λ other. h (λ all. other (all k d lt).1)))

identity_stable : (bytes : List ℕ) → ¬ ¬ IsIdentity bytes → IsIdentity bytes
identity_stable bytes h = (le_stable 1 (length bytes) (λ other. h (λ i. other i.0)), graphic_stable bytes (λ other. h (λ i. other i.1)))

-- ---- schemes

tails : (x y : ℕ) (xs ys : List ℕ) → (x ∷ xs) ≡ (y ∷ ys) → (x ≡ y) × (xs ≡ ys)
tails x y xs ys e = (ap (λ (l : List ℕ). get_or l 0 0) e, ap (drop 1) e)

pub one_list : (xs ys : List ℕ) → (xs ≡ ys) ⊎ (¬ (xs ≡ ys))
one_list [] [] = inl refl
one_list [] (y ∷ ys) = inr (λ e. let p = ap length e in omega (arith, p))
one_list (x ∷ xs) [] = inr (λ e. let p = ap length e in omega (arith, p))
one_list (x ∷ xs) (y ∷ ys) = by (nat_lt x y) (nat_lt y x) refl refl (one_list xs ys)
  where
    by : (b c : Bool) → nat_lt x y ≡ b → nat_lt y x ≡ c → (xs ≡ ys) ⊎ (¬ (xs ≡ ys)) → ((x ∷ xs) ≡ (y ∷ ys)) ⊎ (¬ ((x ∷ xs) ≡ (y ∷ ys)))
    by true c e f rest = let lt = ltb-true x y e in inr (λ g. let p = (tails x y xs ys g).0 in omega (arith, p, lt))
    by false true e f rest = let lt = ltb-true y x f in inr (λ g. let p = (tails x y xs ys g).0 in omega (arith, p, lt))
    by false false e f (inr other) = inr (λ g. other (tails x y xs ys g).1)
    by false false e f (inl same) =
        let le = ltb-false x y e in let ge = ltb-false y x f in let one : x ≡ y = omega (arith, le, ge) in
        inl (ap (λ (n : ℕ). n ∷ xs) one ∙ ap (λ (t : List ℕ). y ∷ t) same)

names_or_not : (scheme bytes : List ℕ) → NamesScheme scheme bytes ⊎ (¬ NamesScheme scheme bytes)
names_or_not scheme bytes = by (one_list (map to_ascii_lowercase (take (length scheme) bytes)) (map to_ascii_lowercase scheme)) (nat_lt (length scheme) (length bytes)) refl
  where
    size : (n : NamesScheme scheme bytes) → length n.front ≡ length scheme
    size n = sym (length-map n.front to_ascii_lowercase) ∙ ap length n.spelled ∙ length-map scheme to_ascii_lowercase

    by : ((map to_ascii_lowercase (take (length scheme) bytes) ≡ map to_ascii_lowercase scheme) ⊎ (¬ (map to_ascii_lowercase (take (length scheme) bytes) ≡ map to_ascii_lowercase scheme)))
        → (b : Bool) → nat_lt (length scheme) (length bytes) ≡ b
        → NamesScheme scheme bytes ⊎ (¬ NamesScheme scheme bytes)
    by (inl e) true f =
        let lt = ltb-true (length scheme) (length bytes) f in
        inl (record {
          front = take (length scheme) bytes;
          rest = drop (length scheme) bytes;
          parts = sym (take-append-drop (length scheme) bytes);
          spelled = e;
          more = omega (arith, lt, length-drop (length scheme) bytes);
        })
    by (inl e) false f =
        let le = ltb-false (length scheme) (length bytes) f in
        inr (λ n. let all : length bytes ≡ length n.front + length n.rest = ap length n.parts ∙ length-append n.front n.rest in let more = n.more in omega (arith, le, all, size n, more))
    by (inr other) b f = inr (λ n. other (ap (map to_ascii_lowercase) (ap (take (length scheme)) n.parts ∙ take_at n.front n.rest (length scheme) (size n)) ∙ n.spelled))

uri_stable : (bytes : List ℕ) → ¬ ¬ IsUri bytes → IsUri bytes
uri_stable bytes h = (by (names_or_not (codes "aaa://") bytes) (names_or_not (codes "aaas://") bytes), graphic_stable bytes (λ other. h (λ u. other u.1)))
  where
    by : (NamesScheme (codes "aaa://") bytes ⊎ (¬ NamesScheme (codes "aaa://") bytes)) → (NamesScheme (codes "aaas://") bytes ⊎ (¬ NamesScheme (codes "aaas://") bytes))
        → NamesScheme (codes "aaa://") bytes ⊎ NamesScheme (codes "aaas://") bytes
    by (inl a) b = inl a
    by (inr a) (inl b) = inr b
    by (inr a) (inr b) = absurd (h (λ u. ⊎_elim a b u.0))

-- ---- ranges

abbrev within : ℕ → ℕ × ℕ → Bool
within n range = elim (nat_lt n range.0) [ true ↦ false | false ↦ elim (nat_lt range.1 n) [ true ↦ false | false ↦ true ] ]

within_is : (n : ℕ) (range : ℕ × ℕ) → within n range ≡ true → IsWithin n range
within_is n range h = by (nat_lt n range.0) (nat_lt range.1 n) refl refl h
  where
    by : (b c : Bool) → nat_lt n range.0 ≡ b → nat_lt range.1 n ≡ c → elim b [ true ↦ false | false ↦ elim c [ true ↦ false | false ↦ true ] ] ≡ true → IsWithin n range
    by true c e f g = absurd (let p : false ≡ true = g in cc)
    by false true e f g = absurd (let p : false ≡ true = g in cc)
    by false false e f g = (ltb-false n range.0 e, ltb-false range.1 n f)

is_within : (n : ℕ) (range : ℕ × ℕ) → IsWithin n range → within n range ≡ true
is_within n range h = by (nat_lt n range.0) (nat_lt range.1 n) refl refl
  where
    by : (b c : Bool) → nat_lt n range.0 ≡ b → nat_lt range.1 n ≡ c → elim b [ true ↦ false | false ↦ elim c [ true ↦ false | false ↦ true ] ] ≡ true
    by true c e f = let lt = ltb-true n range.0 e in let le = h.0 in absurd (omega (arith, lt, le))
    by false true e f = let lt = ltb-true range.1 n f in let le = h.1 in absurd (omega (arith, lt, le))
    by false false e f = refl

any_stable : (n : ℕ) (rs : List (ℕ × ℕ)) → ¬ ¬ Any (IsWithin n) rs → Any (IsWithin n) rs
any_stable n rs h = by (list_any (within n) rs) refl
  where
    by : (b : Bool) → list_any (within n) rs ≡ b → Any (IsWithin n) rs
    by true e = let a = Any-from_list_any (within n) rs e in (a.0, a.1, a.2, a.3, within_is n a.1 a.4)
    by false e = absurd (h (λ a. both_ways (list_any (within n) rs) e (list_any-from_Any (within n) rs (a.0, a.1, a.2, a.3, is_within n a.1 a.4))))

listed_stable : (ranges : Option (List (ℕ × ℕ))) (n : ℕ) → ¬ ¬ IsListed ranges n → IsListed ranges n
listed_stable None n h = tt
listed_stable (Some rs) n h = any_stable n rs h

text_stable : (bytes : List ℕ) → ¬ ¬ IsUtf8 bytes → IsUtf8 bytes
text_stable bytes h = by (is_utf8 bytes) refl
  where
    by : (b : Bool) → is_utf8 bytes ≡ b → IsUtf8 bytes
    by true e = IsUtf8-from_is_utf8 bytes e
    by false e = absurd (h (λ u. both_ways (is_utf8 bytes) e (is_utf8-from_IsUtf8 bytes u)))

-- ---- formats

leaf_stable : (f : PlainFormat) (bytes : List ℕ) → ¬ ¬ IsLeaf f bytes → IsLeaf f bytes
leaf_stable (AnyBytes name) bytes h = tt
leaf_stable (FourBytes name) bytes h = one_number (length bytes) 4 h
leaf_stable (EightBytes name) bytes h = one_number (length bytes) 8 h
leaf_stable Grouped bytes h = h (λ x. x)
leaf_stable Address bytes h = address_stable bytes h
leaf_stable Utf8String bytes h = text_stable bytes h
leaf_stable DiameterIdentity bytes h = identity_stable bytes h
leaf_stable DiameterUri bytes h = uri_stable bytes h
leaf_stable (Enumerated ranges) bytes h = (one_number (length bytes) 4 (λ other. h (λ l. other l.0)), listed_stable ranges (number bytes) (λ other. h (λ l. other l.1)))

abbrev grouped : PlainFormat → ℕ
grouped Grouped = 1
grouped f = 0

is_grouped : (f : PlainFormat) → (f ≡ Grouped) ⊎ (grouped f ≡ 0)
is_grouped Grouped = inl refl
is_grouped f = inr refl

-- a leaf of the format, or a level
pub leaf_or_level : (f : PlainFormat) (bytes : List ℕ) → ¬ ¬ (IsLeaf f bytes ⊎ (f ≡ Grouped)) → IsLeaf f bytes ⊎ (f ≡ Grouped)
leaf_or_level f bytes h = ⊎_elim (λ e. inr e) (λ zero_is. inl
    (leaf_stable f bytes (λ other. h (λ x. ⊎_elim other (λ e. let p : grouped f ≡ 1 = ap grouped e in omega (arith, p, zero_is)) x)))) (is_grouped f)
