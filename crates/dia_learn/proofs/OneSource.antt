-- What is learnt depends on which levels there are alone.
use Rattle.std.proofs.Common.{◌≡◌, ◌≤◌, Bool, true, false, cond, List, [], ◌∷◌, refl, sym, ap, ◌∙◌, arith, inl, inr}
use Rattle.std.specs.Prelude.{◌||◌, ◌&&◌, not, max}
use Rattle.std.specs.List.{list_any}
use Rattle.std.proofs.Math.Nat.{le-max_left, le-max_right, max-le}
use Rattle.dia_wire.specs.declared.Key.{Key}
use Rattle.dia_wire.specs.Wire.{PlainAvp, key_of}
use Rattle.dia_book.specs.Keys.{same_key}
use Rattle.dia_book.specs.Dictionary.{Dictionary}
use Rattle.dia_ccf.specs.Plain.{PlainSource}
use Rattle.dia_valid.proofs.Members.{IsIn, any_in, contains_in, in_any, in_contains}
use Rattle.dia_learn.specs.declared.place.Place.{Place}
use Rattle.dia_learn.specs.Levels.{PlainLevel, has_m, same_place}
use Rattle.dia_learn.specs.Kept.{count_of, greatest, has_level}
use Rattle.dia_learn.specs.Facts.{AreFacts, PlainFacts, is_seen, is_unknown, key_of_pair, place_of}
use Rattle.dia_learn.specs.Learnt.{HaveSame, IsLearnt, learnt_source}
use Rattle.dia_learn.proofs.Pairs.{one_list}

abbrev AreAmong : {X : Type 0} → List X → List X → Type 0
AreAmong {X} xs ys = (x : X) → IsIn x xs → IsIn x ys

among : {X : Type 0} (xs ys : List X) → HaveSame xs ys → AreAmong xs ys
among xs ys same x i = in_contains ys x ((same x).0 (contains_in xs x i))

among_back : {X : Type 0} (xs ys : List X) → HaveSame xs ys → AreAmong ys xs
among_back xs ys same x i = in_contains xs x ((same x).1 (contains_in ys x i))

-- ---- some member has something

any_among : {X : Type 0} (p : X → Bool) (xs ys : List X) → AreAmong xs ys → list_any p xs ≡ true → list_any p ys ≡ true
any_among p xs ys all e = let (x, i, passes) = any_in p xs e in in_any p ys x (all x i) passes

same_bool : (a b : Bool) → (a ≡ true → b ≡ true) → (b ≡ true → a ≡ true) → a ≡ b
same_bool true b to from = sym (to refl)
same_bool false true to from = from refl
same_bool false false to from = refl

any_same : {X : Type 0} (p : X → Bool) (xs ys : List X) → HaveSame xs ys → list_any p xs ≡ list_any p ys
any_same p xs ys same = same_bool (list_any p xs) (list_any p ys) (any_among p xs ys (among xs ys same)) (any_among p ys xs (among_back xs ys same))

-- ---- the greatest count

one_below : (w : Place) (k : Key) (ls : List PlainLevel) (l : PlainLevel) → IsIn l ls → same_place l.place w ≡ true → count_of k l.avps ≤ greatest ls w k
one_below w k [] l i here = absurd i
one_below w k (m ∷ ls) l (inl e) here = by (same_place m.place w) (sym (ap (λ (x : PlainLevel). same_place x.place w) e) ∙ here)
  where
    by : (b : Bool) → b ≡ true → count_of k l.avps ≤ cond b (max (count_of k m.avps) (greatest ls w k)) (greatest ls w k)
    by true t =
        let a = le-max_left (count_of k m.avps) (greatest ls w k) in
        let same : count_of k l.avps ≡ count_of k m.avps = ap (λ (x : PlainLevel). count_of k x.avps) e in
        omega (arith, a, same)
    by false t = absurd (let f : false ≡ true = t in cc)
one_below w k (m ∷ ls) l (inr i) here = by (same_place m.place w) (one_below w k ls l i here)
  where
    by : (b : Bool) → count_of k l.avps ≤ greatest ls w k → count_of k l.avps ≤ cond b (max (count_of k m.avps) (greatest ls w k)) (greatest ls w k)
    by true low = let a = le-max_right (count_of k m.avps) (greatest ls w k) in omega (arith, a, low)
    by false low = low

all_below : (w : Place) (k : Key) (ls more : List PlainLevel) → AreAmong ls more → greatest ls w k ≤ greatest more w k
all_below w k [] more all = omega arith
all_below w k (l ∷ ls) more all = by (same_place l.place w) (λ e. one_below w k more l (all l (inl refl)) e) (all_below w k ls more (λ x i. all x (inr i)))
  where
    by : (b : Bool) → (b ≡ true → count_of k l.avps ≤ greatest more w k) → greatest ls w k ≤ greatest more w k
        → cond b (max (count_of k l.avps) (greatest ls w k)) (greatest ls w k) ≤ greatest more w k
    by true low rest = max-le (low refl) rest
    by false low rest = rest

greatest_same : (w : Place) (k : Key) (ls more : List PlainLevel) → HaveSame ls more → greatest ls w k ≡ greatest more w k
greatest_same w k ls more same =
    let a = all_below w k ls more (among ls more same) in
    let b = all_below w k more ls (among_back ls more same) in
    omega (arith, a, b)

-- ---- the facts, and the source

module _ (d : Dictionary) (ls more : List PlainLevel) (flags others : List Bool) (f g : PlainFacts) (levels : HaveSame ls more) (errors : HaveSame flags others)
    (a : AreFacts d ls flags f) (b : AreFacts d more others g) where
  same_most : (w : Place) (k : Key) → f.most w k ≡ g.most w k
  same_most w k = a.most w k ∙ greatest_same w k ls more levels ∙ sym (b.most w k)

  same_set : (k : Key) → f.set k ≡ g.set k
  same_set k = a.set k ∙ any_same (λ (l : PlainLevel). list_any (λ (v : PlainAvp). same_key (key_of v) k && has_m v.flags) l.avps) ls more levels ∙ sym (b.set k)

  same_clear : (k : Key) → f.clear k ≡ g.clear k
  same_clear k = a.clear k ∙ any_same (λ (l : PlainLevel). list_any (λ (v : PlainAvp). same_key (key_of v) k && not (has_m v.flags)) l.avps) ls more levels ∙ sym (b.clear k)

  same_places : f.places ≡ g.places
  same_places = one_list (λ q. has_level ls (place_of q)) (λ q. has_level more (place_of q)) f.places g.places
      (λ q. any_same (λ (l : PlainLevel). same_place l.place (place_of q)) ls more levels) a.places b.places

  same_unknown : f.unknown ≡ g.unknown
  same_unknown = one_list (λ q. is_seen f (key_of_pair q) && is_unknown d (key_of_pair q)) (λ q. is_seen g (key_of_pair q) && is_unknown d (key_of_pair q)) f.unknown g.unknown
      (λ q i. (same_set (key_of_pair q) i || same_clear (key_of_pair q) i) && is_unknown d (key_of_pair q)) a.unknown b.unknown

  same_proxied : f.proxied ≡ g.proxied
  same_proxied = a.proxied ∙ any_same (λ (p : Bool). p) flags others errors ∙ sym b.proxied

  same_direct : f.direct ≡ g.direct
  same_direct = a.direct ∙ any_same not flags others errors ∙ sym b.direct

  same_facts : f ≡ g
  same_facts = λ i. record {
    most = λ w k. same_most w k i;
    set = λ k. same_set k i;
    clear = λ k. same_clear k i;
    proxied = same_proxied i;
    direct = same_direct i;
    places = same_places i;
    unknown = same_unknown i;
  }

pub one_source : (s : PlainSource) (d : Dictionary) (ls more : List PlainLevel) (flags others : List Bool) (made again : PlainSource)
    → HaveSame ls more → HaveSame flags others → IsLearnt s d ls flags made → IsLearnt s d more others again → made ≡ again
one_source s d ls more flags others made again levels errors (f, a, is) (g, b, also) =
    is ∙ ap (learnt_source s d) (same_facts d ls more flags others f g levels errors a b) ∙ sym also
