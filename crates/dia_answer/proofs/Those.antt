-- AVPs that are picked out of a list as it is gone through.
use Rattle.std.proofs.Common.{◌≡◌, ℕ, ◌+◌, ◌-◌, ◌<◌, ◌≤◌, Bool, true, false, cond, List, [], ◌∷◌, ◌++◌, length, map, take, drop, get_or, Some, None, inl, inr, refl, sym, ap, subst, ◌∙◌, append_assoc, append-nil, arith}
use Rattle.std.specs.Prelude.{filter, find}
use Rattle.std.proofs.lemmas.List.Elements.{filter-append}
use Rattle.std.proofs.lemmas.List.{map-append, take_more, take-append-drop, length-append}
use Rattle.dia_wire.specs.Wire.{PlainAvp}
use Rattle.dia_answer.specs.declared.held.Held.{Held}
use Rattle.dia_answer.specs.Stocks.{copied}
use Rattle.dia_answer.specs.Bodies.{AreThose, AreFirst}
use Rattle.dia_answer.specs.Helds.{plain_held, plains}

pub those_more : (P : PlainAvp → Type 0) (avps these : List PlainAvp) (v : PlainAvp) → AreThose P avps these → P v → AreThose P (avps ++ v ∷ []) (these ++ v ∷ [])
those_more P [] these v h p = inl ([], p, ap (λ (xs : List PlainAvp). xs ++ v ∷ []) h, refl)
those_more P (w ∷ avps) these v (inl (others, q, parts, rest)) p = inl (others ++ v ∷ [], q, ap (λ (xs : List PlainAvp). xs ++ v ∷ []) parts, those_more P avps others v rest p)
those_more P (w ∷ avps) these v (inr (other, rest)) p = inr (other, those_more P avps these v rest p)

pub those_same : (P : PlainAvp → Type 0) (avps these : List PlainAvp) (v : PlainAvp) → AreThose P avps these → ¬ P v → AreThose P (avps ++ v ∷ []) these
those_same P [] these v h other = inr (other, h)
those_same P (w ∷ avps) these v (inl (others, q, parts, rest)) other = inl (others, q, parts, those_same P avps others v rest other)
those_same P (w ∷ avps) these v (inr (not_it, rest)) other = inr (not_it, those_same P avps these v rest other)

-- no more of them than of the list
pub those-le : (P : PlainAvp → Type 0) (avps these : List PlainAvp) → AreThose P avps these → length these ≤ length avps
those-le P [] these h = omega (arith, ap length h)
those-le P (w ∷ avps) these (inl (others, q, parts, rest)) = omega (arith, ap length parts, those-le P avps others rest)
those-le P (w ∷ avps) these (inr (not_it, rest)) = omega (arith, those-le P avps these rest)

-- where there are as many as are wanted at most, they are those of the whole list
pub first_all : (P : PlainAvp → Type 0) (avps these : List PlainAvp) → AreFirst P (length avps) avps these → AreThose P avps these
first_all P avps these f = by f.rest refl
  where
    by : (rest : List PlainAvp) → f.rest ≡ rest → AreThose P avps these
    by [] e = subst (λ (vs : List PlainAvp). AreThose P vs these) (sym (f.parts ∙ ap (λ (x : List PlainAvp). f.front ++ x) e ∙ append-nil f.front)) f.those
    by (v ∷ rest) e =
        let few : length these < length avps = omega (arith, those-le P f.front these f.those, ap length f.parts, length-append f.front f.rest, ap length e) in
        absurd (let none : v ∷ rest ≡ [] = sym e ∙ f.all few in cc)

-- a list that is gone through has these so far, and room for more
pub record HasTaken (P : PlainAvp → Type 0) (most left : ℕ) (avps before out : List Held) : Type 0 where
  pub these : List PlainAvp
  pub those : AreThose P (plains avps) these
  pub added : plains out ≡ plains before ++ map copied these
  pub room : length these + left ≡ most

one_more : (avps : List Held) (i : ℕ) (v : Held) → i < length avps → v ≡ get_or avps i v → plains (take (i + 1) avps) ≡ plains (take i avps) ++ plain_held v ∷ []
one_more avps i v within is =
    ap plains (take_more avps i v within) ∙ map-append plain_held (take i avps) (get_or avps i v ∷ []) ∙ ap (λ (w : Held). plains (take i avps) ++ plain_held w ∷ []) (sym is)

pub taken_none : (P : PlainAvp → Type 0) (most : ℕ) (avps out : List Held) → HasTaken P most most (take 0 avps) out out
taken_none P most avps out = record { these = []; those = refl; added = sym (append-nil (plains out)); room = omega arith }

pub taken_more : (P : PlainAvp → Type 0) (most left i : ℕ) (avps before out new : List Held) (v w : Held) → HasTaken P most left (take i avps) before out → i < length avps → v ≡ get_or avps i v → P (plain_held v)
    → 0 < left → plain_held w ≡ copied (plain_held v) → new ≡ out ++ w ∷ [] → HasTaken P most (left - 1) (take (i + 1) avps) before new
taken_more P most left i avps before out new v w h within is fits some is_copy is_new = record {
  these = h.these ++ plain_held v ∷ [];
  those = subst (λ (vs : List PlainAvp). AreThose P vs (h.these ++ plain_held v ∷ [])) (sym (one_more avps i v within is)) (those_more P (plains (take i avps)) h.these (plain_held v) h.those fits);
  added = ap plains is_new ∙ map-append plain_held out (w ∷ []) ∙ ap (λ (vs : List PlainAvp). vs ++ plain_held w ∷ []) h.added
      ∙ append_assoc (plains before) (map copied h.these) (plain_held w ∷ [])
      ∙ ap (λ (x : PlainAvp). plains before ++ (map copied h.these ++ x ∷ [])) is_copy
      ∙ ap (λ (vs : List PlainAvp). plains before ++ vs) (sym (map-append copied h.these (plain_held v ∷ [])));
  room = omega (arith, h.room, length-append h.these (plain_held v ∷ []), some);
}

pub taken_same : (P : PlainAvp → Type 0) (most left i : ℕ) (avps before out : List Held) (v : Held) → HasTaken P most left (take i avps) before out → i < length avps → v ≡ get_or avps i v → ¬ P (plain_held v)
    → HasTaken P most left (take (i + 1) avps) before out
taken_same P most left i avps before out v h within is other = record {
  these = h.these;
  those = subst (λ (vs : List PlainAvp). AreThose P vs h.these) (sym (one_more avps i v within is)) (those_same P (plains (take i avps)) h.these (plain_held v) h.those other);
  added = h.added;
  room = h.room;
}

-- the list ends, or as many as are wanted were found
pub taken_enough : (P : PlainAvp → Type 0) (most left i : ℕ) (avps before out : List Held) → HasTaken P most left (take i avps) before out → left ≡ 0
    → (these : List PlainAvp) × AreFirst P most (plains avps) these × (plains out ≡ plains before ++ map copied these)
taken_enough P most left i avps before out h none = (
  h.these,
  record {
    front = plains (take i avps);
    rest = plains (drop i avps);
    parts = ap plains (sym (take-append-drop i avps)) ∙ map-append plain_held (take i avps) (drop i avps);
    those = h.those;
    most = omega (arith, h.room);
    all = λ few. absurd (omega (arith, few, h.room, none));
  },
  h.added,
)

pub taken_all : (P : PlainAvp → Type 0) (most left : ℕ) (avps before out : List Held) → HasTaken P most left avps before out
    → (these : List PlainAvp) × AreFirst P most (plains avps) these × (plains out ≡ plains before ++ map copied these)
taken_all P most left avps before out h =
    (h.these, record { front = plains avps; rest = []; parts = sym (append-nil (plains avps)); those = h.those; most = omega (arith, h.room); all = λ few. refl }, h.added)

-- ---- the first of a key

pub find_after : {X : Type 0} (p : X → Bool) (xs ys : List X) → find p xs ≡ None → find p (xs ++ ys) ≡ find p ys
find_after p [] ys h = refl
find_after p (x ∷ xs) ys h = by (p x) h (find_after p xs ys)
  where
    by : (b : Bool) → cond b (Some x) (find p xs) ≡ None → (find p xs ≡ None → find p (xs ++ ys) ≡ find p ys) → cond b (Some x) (find p (xs ++ ys)) ≡ find p ys
    by true e ih = absurd cc
    by false e ih = ih e

pub find_more : (p : PlainAvp → Bool) (avps : List Held) (i : ℕ) (v : Held) → find p (plains (take i avps)) ≡ None → i < length avps → v ≡ get_or avps i v → p (plain_held v) ≡ false
    → find p (plains (take (i + 1) avps)) ≡ None
find_more p avps i v none within is other =
    ap (find p) (one_more avps i v within is) ∙ find_after p (plains (take i avps)) (plain_held v ∷ []) none ∙ ap (λ (b : Bool). cond b (Some (plain_held v)) None) other

pub find_here : (p : PlainAvp → Bool) (avps : List Held) (i : ℕ) (v : Held) → find p (plains (take i avps)) ≡ None → i < length avps → v ≡ get_or avps i v → p (plain_held v) ≡ true
    → Some (plain_held v) ≡ find p (plains avps)
find_here p avps i v none within is this = sym (
    ap (λ (vs : List Held). find p (plains vs)) (sym (take-append-drop (i + 1) avps)) ∙ ap (find p) (map-append plain_held (take (i + 1) avps) (drop (i + 1) avps) ∙ ap (λ (vs : List PlainAvp). vs ++ plains (drop (i + 1) avps)) (one_more avps i v within is)
    ∙ append_assoc (plains (take i avps)) (plain_held v ∷ []) (plains (drop (i + 1) avps)))
    ∙ find_after p (plains (take i avps)) (plain_held v ∷ plains (drop (i + 1) avps)) none ∙ ap (λ (b : Bool). cond b (Some (plain_held v)) (find p (plains (drop (i + 1) avps)))) this
    )

-- ---- those that pass a test

pub filter_more : (p : PlainAvp → Bool) (avps : List Held) (i : ℕ) (v : Held) (before out new : List PlainAvp) (b : Bool) → out ≡ before ++ filter p (plains (take i avps)) → i < length avps → v ≡ get_or avps i v
    → b ≡ p (plain_held v) → new ≡ out ++ cond b (plain_held v ∷ []) [] → new ≡ before ++ filter p (plains (take (i + 1) avps))
filter_more p avps i v before out new b so_far within is is_test is_new =
    is_new ∙ ap (λ (vs : List PlainAvp). vs ++ cond b (plain_held v ∷ []) []) so_far ∙ append_assoc before (filter p (plains (take i avps))) (cond b (plain_held v ∷ []) [])
    ∙ ap (λ (c : Bool). before ++ (filter p (plains (take i avps)) ++ cond c (plain_held v ∷ []) [])) is_test
    ∙ ap (λ (vs : List PlainAvp). before ++ vs) (sym (ap (filter p) (one_more avps i v within is) ∙ filter-append p (plains (take i avps)) (plain_held v ∷ [])))
