-- The first of some data that a format does not accept is shortest.
use Rattle.std.proofs.Common.{Bor, ◌≡◌, ℕ, zero, suc, ◌+◌, ◌<◌, ◌≤◌, List, [], ◌∷◌, length, get_or, Option, Some, None, refl, sym, ap, subst, ◌∙◌, arith, inl, inr, ◌⊎◌}
use Rattle.std.specs.Prelude.{◌↔◌, Bool, false, true, IsTrue, map, ⊤, IfSome}
use Rattle.std.proofs.lemmas.Bool.{cases_lt}
use Rattle.std.proofs.lemmas.List.{get_or-map, length-map}
use Rattle.std.proofs.lemmas.Str.{IsUtf8-nil}
use Rattle.dia_data.specs.Plain.{PlainFormat}
use Rattle.dia_data.specs.Leaf.{IsLeaf}
use Rattle.dia_breaking_data.specs.Shortest.{AreBytes, witness_bytes}
use Rattle.dia_breaking_data.specs.declared.short_data.Witness.{Witness}
use Rattle.dia_breaking_data.specs.declared.kinds.Kind.{Kind as RustKind}
use Rattle.dia_breaking_data.specs.declared.kinds.Kind.TheVariants as kinds
use Rattle.dia_breaking_data.specs.Kinds.{shown, Kind, Octets, Four, Eight, Level, Host, Text, Identity, Link, Listed, IsWitness, IsFirstRefused, IsKindOf, IsOf, four_bytes}
use Rattle.dia_breaking_data.proofs.DataOfKinds.{IsEasy, answers, Answer, of_kinds, floor, shortest_of, from_test, host_zero, no_family, identity_a, link_a}

-- ---- the first of a list, by its places

pub refused_at : (f : PlainFormat) (cs : List (List ℕ)) (k : ℕ) → k < length cs → ((j : ℕ) → j < k → IsLeaf f (get_or cs j [])) → ¬ IsLeaf f (get_or cs k [])
    → IsFirstRefused f cs (Some (get_or cs k []))
refused_at f [] k lt before n = absurd (omega (arith, lt))
refused_at f (c ∷ cs) zero lt before n = inl (n, refl)
refused_at f (c ∷ cs) (suc k) lt before n = inr (before 0 (omega arith), refused_at f cs k (omega (arith, lt)) (λ j less. before (suc j) (omega (arith, less))) n)

pub none_refused : (f : PlainFormat) (cs : List (List ℕ)) → ((j : ℕ) → j < length cs → IsLeaf f (get_or cs j [])) → IsFirstRefused f cs None
none_refused f [] each = refl
none_refused f (c ∷ cs) each = inr (each 0 (omega arith), none_refused f cs (λ j less. each (suc j) (omega (arith, less))))

-- ---- data to try

abbrev pub candidates : Kind → List (List ℕ)
candidates Octets = [] ∷ (255 ∷ []) ∷ []
candidates Four = (0 ∷ 0 ∷ 0 ∷ 0 ∷ []) ∷ (255 ∷ 255 ∷ 255 ∷ 255 ∷ []) ∷ (0 ∷ 1 ∷ 0 ∷ 0 ∷ []) ∷ []
candidates Eight = (0 ∷ 0 ∷ 0 ∷ 0 ∷ 0 ∷ 0 ∷ 0 ∷ 0 ∷ []) ∷ (255 ∷ 255 ∷ 255 ∷ 255 ∷ 255 ∷ 255 ∷ 255 ∷ 255 ∷ []) ∷ (0 ∷ 1 ∷ 0 ∷ 0 ∷ 0 ∷ 0 ∷ 0 ∷ 0 ∷ []) ∷ []
candidates Level = []
candidates Host = (0 ∷ 0 ∷ []) ∷ (255 ∷ 255 ∷ []) ∷ []
candidates Text = [] ∷ []
candidates Identity = (97 ∷ []) ∷ []
candidates Link = (97 ∷ 97 ∷ 97 ∷ 58 ∷ 47 ∷ 47 ∷ 97 ∷ []) ∷ []
candidates (Listed ranges) = []

abbrev IsAmong : List ℕ → List (List ℕ) → Type 0
IsAmong b [] = ⊥
IsAmong b (c ∷ cs) = (b ≡ c) ⊎ IsAmong b cs

abbrev AreOf : Kind → List (List ℕ) → Type 0
AreOf g [] = ⊤
AreOf g (c ∷ cs) = IsOf g c × AreOf g cs

-- what the table has is tried
among : (f g : Kind) → IsEasy f g → IfSome (of_kinds f g) (λ b. IsAmong b (candidates f))
among f Octets p = tt
among Level g p = tt
among Octets Text p = inr (inl refl)
among Octets g p = inl refl
among Text Text p = tt
among Text g p = inl refl
among Four Four p = tt
among Four Text p = inr (inl refl)
among Four Host p = inr (inr (inl refl))
among Four (Listed ranges) p = absurd p
among Four g p = inl refl
among Eight Eight p = tt
among Eight Text p = inr (inl refl)
among Eight Host p = inr (inr (inl refl))
among Eight g p = inl refl
among Host Host p = tt
among Host Text p = inr (inl refl)
among Host g p = inl refl
among Identity Identity p = tt
among Identity Text p = tt
among Identity g p = inl refl
among Link Link p = tt
among Link Identity p = tt
among Link Text p = tt
among Link Host p = tt
among Link g p = inl refl
among (Listed ranges) g p = absurd p

of_each : (g : Kind) (b : List ℕ) (cs : List (List ℕ)) → IsAmong b cs → AreOf g cs → IsOf g b
of_each g b [] is all = absurd is
of_each g b (c ∷ cs) (inl e) all = subst (IsOf g) (sym e) all.0
of_each g b (c ∷ cs) (inr is) all = of_each g b cs is all.1

-- where each is accepted, all data are
included : (f g : Kind) → IsEasy f g → AreOf g (candidates f) → IsWitness f g None
included f g p all = by (of_kinds f g) (answers f g p) (among f g p)
  where
    by : (o : Option (List ℕ)) → Answer f g o → IfSome o (λ b. IsAmong b (candidates f)) → IsWitness f g None
    by None a is = λ bytes are h. a bytes h
    by (Some b) a is = absurd (a.refused (of_each g b (candidates f) is all))

-- ---- the first that is refused

abbrev AreFit : Kind → List (List ℕ) → Type 0
AreFit f [] = ⊤
AreFit f (c ∷ cs) = (AreBytes c × IsOf f c × (length c ≡ floor f)) × AreFit f cs

first_of : (f g : Kind) (format : PlainFormat) (cs : List (List ℕ)) (found : Option (List ℕ)) → IsKindOf g format → AreFit f cs → (AreOf g cs → IsWitness f g None) → IsFirstRefused format cs found
    → IsWitness f g found
first_of f g format [] found is fit none e = subst (IsWitness f g) (sym e) (none tt)
first_of f g format (c ∷ cs) found is fit none (inl h) = subst (IsWitness f g) (sym h.1) (shortest_of f g c fit.0.0 fit.0.1 (λ k. h.0 ((is c).1 k)) fit.0.2)
first_of f g format (c ∷ cs) found is fit none (inr h) = first_of f g format cs found is fit.1 (λ all. none ((is c).0 h.0, all)) h.1

abbrev IsOneLength : Kind → Type 0
IsOneLength Octets = ⊥
IsOneLength (Listed ranges) = ⊥
IsOneLength f = ⊤

fit : (f : Kind) → IsOneLength f → AreFit f (candidates f)
fit Octets p = absurd p
fit Four p = ((from_test (0 ∷ 0 ∷ 0 ∷ 0 ∷ []) refl, refl, refl), ((from_test (255 ∷ 255 ∷ 255 ∷ 255 ∷ []) refl, refl, refl), ((from_test (0 ∷ 1 ∷ 0 ∷ 0 ∷ []) refl, refl, refl), tt)))
fit Eight p = (
  (from_test (0 ∷ 0 ∷ 0 ∷ 0 ∷ 0 ∷ 0 ∷ 0 ∷ 0 ∷ []) refl, refl, refl),
  ((from_test (255 ∷ 255 ∷ 255 ∷ 255 ∷ 255 ∷ 255 ∷ 255 ∷ 255 ∷ []) refl, refl, refl), ((from_test (0 ∷ 1 ∷ 0 ∷ 0 ∷ 0 ∷ 0 ∷ 0 ∷ 0 ∷ []) refl, refl, refl), tt)),
)
fit Level p = tt
fit Host p = ((from_test (0 ∷ 0 ∷ []) refl, host_zero, refl), ((from_test (255 ∷ 255 ∷ []) refl, no_family 255 255 [] (omega arith), refl), tt))
fit Text p = ((tt, IsUtf8-nil, refl), tt)
fit Identity p = ((from_test (97 ∷ []) refl, identity_a, refl), tt)
fit Link p = ((from_test (97 ∷ 97 ∷ 97 ∷ 58 ∷ 47 ∷ 47 ∷ 97 ∷ []) refl, link_a, refl), tt)
fit (Listed ranges) p = absurd p

-- the first of any data
first_of_octets : (g : Kind) (format : PlainFormat) (found : Option (List ℕ)) → IsKindOf g format → IsFirstRefused format (candidates Octets) found → IsWitness Octets g found
first_of_octets g format found is (inl h) = subst (IsWitness Octets g) (sym h.1) (shortest_of Octets g [] tt tt (λ k. h.0 ((is []).1 k)) refl)
first_of_octets g format found is (inr (empty, inl h)) = subst (IsWitness Octets g) (sym h.1) (record {
  are_bytes = (omega arith, tt);
  sent = tt;
  refused = λ k. h.0 ((is (255 ∷ [])).1 k);
  least = λ other sent n. long other n;
})
  where
    long : (other : List ℕ) → ¬ IsOf g other → 1 ≤ length other
    long [] n = absurd (n ((is []).0 empty))
    long (b ∷ bs) n = omega arith
first_of_octets g format found is (inr (empty, inr (one, e))) = subst (IsWitness Octets g) (sym e) (included Octets g tt ((is []).0 empty, ((is (255 ∷ [])).0 one, tt)))

pub first_answer : (f g : Kind) (format : PlainFormat) (found : Option (List ℕ)) → IsEasy f g → IsKindOf g format → IsFirstRefused format (candidates f) found → IsWitness f g found
first_answer Octets g format found p is h = first_of_octets g format found is h
first_answer (Listed ranges) g format found p is h = absurd p
first_answer Four g format found p is h = first_of Four g format (candidates Four) found is (fit Four tt) (included Four g p) h
first_answer Eight g format found p is h = first_of Eight g format (candidates Eight) found is (fit Eight tt) (included Eight g p) h
first_answer Level g format found p is h = first_of Level g format (candidates Level) found is (fit Level tt) (included Level g p) h
first_answer Host g format found p is h = first_of Host g format (candidates Host) found is (fit Host tt) (included Host g p) h
first_answer Text g format found p is h = first_of Text g format (candidates Text) found is (fit Text tt) (included Text g p) h
first_answer Identity g format found p is h = first_of Identity g format (candidates Identity) found is (fit Identity tt) (included Identity g p) h
first_answer Link g format found p is h = first_of Link g format (candidates Link) found is (fit Link tt) (included Link g p) h

-- ---- as a Rust value is tried

pub easy_four : (k : RustKind) → ((ranges : Bor (List (ℕ × ℕ))) → k ≡ kinds.Listed ranges → ⊥) → IsEasy Four (shown k)
easy_four (kinds.Listed ranges) other = absurd (other ranges refl)
easy_four k other = tt

pub two : (a b c d : List ℕ) → a ≡ c → b ≡ d → a ∷ b ∷ [] ≡ c ∷ d ∷ []
two a b c d e f = ap (λ (x : List ℕ). x ∷ b ∷ []) e ∙ ap (λ (x : List ℕ). c ∷ x ∷ []) f

pub three : (a b c x y z : List ℕ) → a ≡ x → b ≡ y → c ≡ z → a ∷ b ∷ c ∷ [] ≡ x ∷ y ∷ z ∷ []
three a b c x y z e f g = ap (λ (v : List ℕ). v ∷ b ∷ c ∷ []) e ∙ ap (λ (v : List ℕ). x ∷ v ∷ c ∷ []) f ∙ ap (λ (v : List ℕ). x ∷ y ∷ v ∷ []) g

-- the data that were tried are those of the kind
pub tried : (f g k : Kind) (format : PlainFormat) (cs : List (List ℕ)) (found : Option (List ℕ)) → k ≡ f → IsEasy f g → IsKindOf g format → cs ≡ candidates f → IsFirstRefused format cs found
    → IsWitness k g found
tried f g k format cs found kind p is e h =
    subst (λ (l : Kind). IsWitness l g found) (sym kind) (first_answer f g format found p is (subst (λ (ds : List (List ℕ)). IsFirstRefused format ds found) e h))

-- ---- one test after the other

not_from : (b : Bool) (P : Type 0) → IsTrue b ↔ P → b ≡ false → ¬ P
not_from true P is e p = absurd (let f : true ≡ false = e in cc)
not_from false P is e p = absurd (let f : false ≡ true = is.1 p in cc)

holds_from : (b : Bool) (P : Type 0) → IsTrue b ↔ P → b ≡ true → P
holds_from true P is e = is.0 refl
holds_from false P is e = absurd (let f : false ≡ true = e in cc)

pub refused_bytes : (f : PlainFormat) (bytes four : List ℕ) (b : Bool) → bytes ≡ four → IsTrue b ↔ IsLeaf f bytes → b ≡ false → ¬ IsLeaf f four
refused_bytes f bytes four b same is e = subst (λ (x : List ℕ). ¬ IsLeaf f x) same (not_from b (IsLeaf f bytes) is e)

accepted_bytes : (f : PlainFormat) (bytes four : List ℕ) (b : Bool) → bytes ≡ four → IsTrue b ↔ IsLeaf f bytes → b ≡ true → IsLeaf f four
accepted_bytes f bytes four b same is e = subst (IsLeaf f) same (holds_from b (IsLeaf f bytes) is e)

-- the numbers up to one, and it
pub one_more : (f : PlainFormat) (low number : ℕ) (bytes : List ℕ) (b : Bool) → bytes ≡ four_bytes number → IsTrue b ↔ IsLeaf f bytes → b ≡ true
    → ((n : ℕ) → low ≤ n → n < number → IsLeaf f (four_bytes n)) → (n : ℕ) → low ≤ n → n < number + 1 → IsLeaf f (four_bytes n)
one_more f low number bytes b same is e before n from below = elim (cases_lt n number) [
  | inl less ↦ before n from less
  | inr past ↦ subst (λ (m : ℕ). IsLeaf f (four_bytes m)) (let at : number ≡ n = omega (arith, past, below) in at) (accepted_bytes f bytes (four_bytes number) b same is e)
]

pub tried_off : (f : PlainFormat) (xs : List Witness) (i : ℕ) (w : Witness) (bytes : List ℕ) (b : Bool) → i < length xs → w ≡ get_or xs i w → bytes ≡ witness_bytes w
    → ((j : ℕ) → j < i → IsLeaf f (get_or (map witness_bytes xs) j [])) → IsTrue b ↔ IsLeaf f bytes → b ≡ false → IsFirstRefused f (map witness_bytes xs) (Some (witness_bytes w))
tried_off f xs i w bytes b lt at same before is e =
    let here : get_or (map witness_bytes xs) i [] ≡ witness_bytes w = get_or-map witness_bytes xs i w [] lt ∙ ap witness_bytes (sym at) in
    let n : ¬ IsLeaf f (get_or (map witness_bytes xs) i []) = subst (λ (x : List ℕ). ¬ IsLeaf f x) (sym here) (refused_bytes f bytes (witness_bytes w) b same is e) in
    subst (λ (x : List ℕ). IsFirstRefused f (map witness_bytes xs) (Some x)) here (refused_at f (map witness_bytes xs) i (omega (arith, lt, length-map xs witness_bytes)) before n)

pub tried_on : (f : PlainFormat) (xs : List Witness) (i : ℕ) (w : Witness) (bytes : List ℕ) (b : Bool) → i < length xs → w ≡ get_or xs i w → bytes ≡ witness_bytes w
    → ((j : ℕ) → j < i → IsLeaf f (get_or (map witness_bytes xs) j [])) → IsTrue b ↔ IsLeaf f bytes → b ≡ true → (j : ℕ) → j < i + 1 → IsLeaf f (get_or (map witness_bytes xs) j [])
tried_on f xs i w bytes b lt at same before is e j below = elim (cases_lt j i) [
  | inl less ↦ before j less
  | inr past ↦ (
      let here : get_or (map witness_bytes xs) i [] ≡ witness_bytes w = get_or-map witness_bytes xs i w [] lt ∙ ap witness_bytes (sym at) in
      let same_place : i ≡ j = omega (arith, past, below) in
      subst (λ (k : ℕ). IsLeaf f (get_or (map witness_bytes xs) k [])) same_place (subst (IsLeaf f) (sym here) (accepted_bytes f bytes (witness_bytes w) b same is e)))
]

pub tried_all : (f : PlainFormat) (xs : List Witness) (i : ℕ) → length xs ≤ i → ((j : ℕ) → j < i → IsLeaf f (get_or (map witness_bytes xs) j [])) → IsFirstRefused f (map witness_bytes xs) None
tried_all f xs i past before = none_refused f (map witness_bytes xs) (λ j lt. before j (omega (arith, lt, past, length-map xs witness_bytes)))
