-- Pairs of names that are put into a set one by one.
use Rattle.std.proofs.Common.{◌≡◌, ℕ, ◌+◌, ◌<◌, Bool, true, false, cond, List, [], ◌∷◌, ◌++◌, length, map, take, get_or, Option, Some, None, refl, sym, ap, subst, ◌∙◌, arith, inl, inr, Bor}
use Rattle.std.specs.Prelude.{◌&&◌, ◌||◌, not, slice_get, string_bytes, String}
use Rattle.std.specs.Global.{Global}
use Rattle.std.specs.List.{list_any}
use Rattle.std.specs.Option.{option_map}
use Rattle.std.specs.Str.{bytes_eq}
use Rattle.std.proofs.lemmas.Bool.{and_parts, cases_lt}
use Rattle.std.proofs.lemmas.List.{map-append, take_more}
use Rattle.std.proofs.lemmas.List.Folds.{list_any-append}
use Rattle.std.proofs.lemmas.Option.{same_Some, slice_get-get_or}
use Rattle.std.proofs.lemmas.Slice.Eq.{bytes_eq-Decides}
use Rattle.indexmap.specs.IndexSet.{insert_key}
use Rattle.dia_book.proofs.Lists.{list_any-map}
use Rattle.dia_book.proofs.Members.{at_map, into_map}
use Rattle.dia_compat.specs.declared.checking.Test.{Test}
use Rattle.dia_compat.specs.TableText.{plain_pair}
use Rattle.dia_compat.specs.PairTests.{NamePair, plain_names, is_pair}
use Rattle.dia_compat.specs.FirstFailures.{IsFirstFailed, IsFirstPair}
use Rattle.dia_valid.proofs.Members.{any_in, at_in}
use Rattle.dia_compat.proofs.SetsOfNames.{taken_at}

abbrev pub Texts : Type 0
Texts = Bor (List ℕ) × Bor (List ℕ)

abbrev pub same_texts : Texts → Texts → Bool
same_texts k l = is_pair k.0.now k.1.now (plain_names l)

or_true : (b : Bool) → (b || true) ≡ true
or_true true = refl
or_true false = refl

or_false : (b : Bool) → (b || false) ≡ b
or_false true = refl
or_false false = refl

-- a key more, or one that is there
inserted : (keys : List Texts) (k : Texts) (x y : List ℕ) → list_any (is_pair x y) (map plain_names (insert_key same_texts keys k)) ≡
    (list_any (is_pair x y) (map plain_names keys) || is_pair x y (plain_names k))
inserted keys k x y = by (list_any (same_texts k) keys) refl
  where
    there : list_any (same_texts k) keys ≡ true → (b : Bool) → is_pair x y (plain_names k) ≡ b → list_any (is_pair x y) (map plain_names keys) ≡ (list_any (is_pair x y) (map plain_names keys) || b)
    there e false f = sym (or_false (list_any (is_pair x y) (map plain_names keys)))
    there e true f =
        let p = and_parts (bytes_eq x k.0.now) (bytes_eq y k.1.now) f in
        let first : x ≡ k.0.now = (bytes_eq-Decides x k.0.now).0 p.0 in
        let second : y ≡ k.1.now = (bytes_eq-Decides y k.1.now).0 p.1 in
        list_any-map plain_names (is_pair x y) keys ∙ ap (λ (z : List ℕ). list_any (λ (l : Texts). is_pair z y (plain_names l)) keys) first
        ∙ ap (λ (z : List ℕ). list_any (λ (l : Texts). is_pair k.0.now z (plain_names l)) keys) second ∙ e ∙ sym (or_true (list_any (is_pair x y) (map plain_names keys)))

    by : (b : Bool) → list_any (same_texts k) keys ≡ b
        → list_any (is_pair x y) (map plain_names (cond b keys (keys ++ k ∷ []))) ≡ (list_any (is_pair x y) (map plain_names keys) || is_pair x y (plain_names k))
    by true e = there e (is_pair x y (plain_names k)) refl
    by false e = ap (list_any (is_pair x y)) (map-append plain_names keys (k ∷ [])) ∙ list_any-append (is_pair x y) (map plain_names keys) (plain_names k ∷ [])
        ∙ ap (λ (b : Bool). list_any (is_pair x y) (map plain_names keys) || b) (or_false (is_pair x y (plain_names k)))

pub one_pair_more : (pairs : List (String Global × String Global)) (keys more : List Texts) (i : ℕ) (k : Texts) (p : String Global × String Global) → i < length pairs → p ≡ get_or pairs i p
    → k.0.now ≡ string_bytes p.0 → k.1.now ≡ string_bytes p.1 → ((x y : List ℕ) → list_any (is_pair x y) (map plain_names keys) ≡ list_any (is_pair x y) (map plain_pair (take i pairs)))
    → more ≡ insert_key same_texts keys k → (x y : List ℕ) → list_any (is_pair x y) (map plain_names more) ≡ list_any (is_pair x y) (map plain_pair (take (i + 1) pairs))
one_pair_more pairs keys more i k p within item first second before made x y =
    ap (λ (ks : List Texts). list_any (is_pair x y) (map plain_names ks)) made ∙ inserted keys k x y
    ∙ ap (λ (b : Bool). b || is_pair x y (plain_names k)) (before x y)
    ∙ ap (λ (b : Bool). list_any (is_pair x y) (map plain_pair (take i pairs)) || b)
    (ap (λ (z : List ℕ). bytes_eq x z && bytes_eq y k.1.now) first ∙ ap (λ (z : List ℕ). bytes_eq x (string_bytes p.0) && bytes_eq y z) second ∙ sym (or_false (is_pair x y (plain_pair p))))
    ∙ sym (list_any-append (is_pair x y) (map plain_pair (take i pairs)) (plain_pair p ∷ []))
    ∙ ap (list_any (is_pair x y)) (sym (map-append plain_pair (take i pairs) (p ∷ [])))
    ∙ ap (λ (ps : List (String Global × String Global)). list_any (is_pair x y) (map plain_pair ps))
    (ap (λ (z : String Global × String Global). take i pairs ++ z ∷ []) item ∙ sym (take_more pairs i p within))

-- one pair more that has a test or not
pub any_more : (test : NamePair → Bool) (pairs : List (String Global × String Global)) (i : ℕ) (p : String Global × String Global) → i < length pairs → p ≡ get_or pairs i p
    → list_any test (map plain_pair (take (i + 1) pairs)) ≡ (list_any test (map plain_pair (take i pairs)) || test (plain_pair p))
any_more test pairs i p within item =
    ap (λ (ps : List (String Global × String Global)). list_any test (map plain_pair ps))
    (take_more pairs i p within ∙ ap (λ (z : String Global × String Global). take i pairs ++ z ∷ []) (sym item))
    ∙ ap (list_any test) (map-append plain_pair (take i pairs) (p ∷ []))
    ∙ list_any-append test (map plain_pair (take i pairs)) (plain_pair p ∷ [])
    ∙ ap (λ (b : Bool). list_any test (map plain_pair (take i pairs)) || b) (or_false (test (plain_pair p)))

-- ---- pairs that were gone through

pub named_pair : (P : NamePair → Type 0) (p : String Global × String Global) (x y : List ℕ) → x ≡ string_bytes p.0 → y ≡ string_bytes p.1 → P (x, y) → P (plain_pair p)
named_pair P p x y e f h = subst (λ (z : List ℕ). P (string_bytes p.0, z)) f (subst (λ (z : List ℕ). P (z, y)) e h)

pair_at : (pairs : List (String Global × String Global)) (i : ℕ) (p : String Global × String Global) → i < length pairs → p ≡ get_or pairs i p
    → slice_get (map plain_pair pairs) i ≡ Some (plain_pair p)
pair_at pairs i p within item = into_map plain_pair pairs i p (slice_get-get_or pairs i p within ∙ ap (λ (z : String Global × String Global). Some z) (sym item))

module _ (P : NamePair → Test → Type 0) (pairs : List (String Global × String Global)) (i : ℕ) (p : String Global × String Global) (within : i < length pairs) (item : p ≡ get_or pairs i p)
    (before : (k : ℕ) (q : NamePair) (t : Test) → k < i → slice_get (map plain_pair pairs) k ≡ Some q → P q t) where
  -- one pair more passes
  pub one_more_passes : ((t : Test) → P (plain_pair p) t) → (k : ℕ) (q : NamePair) (t : Test) → k < i + 1 → slice_get (map plain_pair pairs) k ≡ Some q → P q t
  one_more_passes all k q t lt at =
      elim (cases_lt k i) [
        | inl less ↦ before k q t less at
        | inr other ↦ (
            let same : k ≡ i = omega (arith, lt, other) in
            let here : q ≡ plain_pair p = same_Some q (plain_pair p) (sym at ∙ ap (slice_get (map plain_pair pairs)) same ∙ pair_at pairs i p within item) in
            subst (λ (z : NamePair). P z t) (sym here) (all t))
      ]

  module _ (x y : List ℕ) (first : x ≡ string_bytes p.0) (second : y ≡ string_bytes p.1) where
    pub this_fails : (o : Option Test) (t : Test) → o ≡ Some t → IsFirstFailed (P (x, y)) o → IsFirstPair P (map plain_pair pairs) i t
    this_fails o t e h = record {
      pair = plain_pair p;
      at = pair_at pairs i p within item;
      fails = named_pair (λ (z : NamePair). IsFirstFailed (P z) (Some t)) p x y first second (subst (IsFirstFailed (P (x, y))) e h);
      before = before;
    }

    pub this_passes : (o : Option Test) → o ≡ None → IsFirstFailed (P (x, y)) o → (k : ℕ) (q : NamePair) (t : Test) → k < i + 1 → slice_get (map plain_pair pairs) k ≡ Some q → P q t
    this_passes o e h = one_more_passes (named_pair (λ (z : NamePair). (t : Test) → P z t) p x y first second (subst (IsFirstFailed (P (x, y))) e h))

    -- a pair that occurred before passes as it did
    pub stood_before : list_any (is_pair x y) (map plain_pair (take i pairs)) ≡ true → (k : ℕ) (q : NamePair) (t : Test) → k < i + 1 → slice_get (map plain_pair pairs) k ≡ Some q → P q t
    stood_before h =
        let r = any_in (is_pair x y) (map plain_pair (take i pairs)) h in
        let j = at_in (map plain_pair (take i pairs)) r.0 r.1 in
        let m = at_map plain_pair (take i pairs) j.place r.0 j.at in
        let earlier = taken_at i j.place pairs m.0 m.1 in
        let parts = and_parts (bytes_eq x r.0.0) (bytes_eq y r.0.1) r.2 in
        let one : x ≡ r.0.0 = (bytes_eq-Decides x r.0.0).0 parts.0 in
        let two : y ≡ r.0.1 = (bytes_eq-Decides y r.0.1).0 parts.1 in
        let at : slice_get (map plain_pair pairs) j.place ≡ Some r.0 = into_map plain_pair pairs j.place m.0 earlier.1 ∙ ap (λ (z : NamePair). Some z) m.2 in
        one_more_passes (λ t. subst (λ (z : List ℕ). P (string_bytes p.0, z) t) (sym two ∙ second) (subst (λ (z : List ℕ). P (z, r.0.1) t) (sym one ∙ first) (before j.place r.0 t earlier.0 at)))

-- a pair that isn't new is among those before
pub is_old : (keys : List Texts) (k : Texts) (pairs : List (String Global × String Global)) (i : ℕ)
    → ((x y : List ℕ) → list_any (is_pair x y) (map plain_names keys) ≡ list_any (is_pair x y) (map plain_pair (take i pairs)))
    → (b : Bool) → b ≡ not (list_any (same_texts k) keys) → b ≡ false → list_any (is_pair k.0.now k.1.now) (map plain_pair (take i pairs)) ≡ true
is_old keys k pairs i seen b e f = sym (seen k.0.now k.1.now) ∙ list_any-map plain_names (is_pair k.0.now k.1.now) keys ∙ by (list_any (same_texts k) keys) (sym e ∙ f)
  where
    by : (c : Bool) → not c ≡ false → c ≡ true
    by true g = refl
    by false g = absurd (let w : true ≡ false = g in cc)

-- the names of the pair at a place
pub names_there : (pairs : List (String Global × String Global)) (i : ℕ) (p : String Global × String Global) (a b : Bor (List ℕ)) → slice_get pairs i ≡ Some p
    → a.now ≡ string_bytes p.0 → b.now ≡ string_bytes p.1 → Some (plain_names (a, b)) ≡ option_map plain_pair (slice_get pairs i)
names_there pairs i p a b at first second =
    ap (λ (x : List ℕ). Some (x, b.now)) first ∙ ap (λ (y : List ℕ). Some (string_bytes p.0, y)) second
    ∙ ap (λ (o : Option (String Global × String Global)). option_map plain_pair o) (sym at)

pub no_names_there : (pairs : List (String Global × String Global)) (i : ℕ) → slice_get pairs i ≡ None → None ≡ option_map plain_pair (slice_get pairs i)
no_names_there pairs i past = ap (λ (o : Option (String Global × String Global)). option_map plain_pair o) (sym past)
