-- A dictionary has one list of paths.
use Rattle.std.proofs.Common.{◌≡◌, ℕ, zero, suc, ◌<◌, ◌≤◌, List, [], ◌∷◌, length, Option, Some, None, refl, sym, ap, subst, ◌∙◌, arith, inl, inr}
use Rattle.std.specs.Prelude.{◌⊎◌, slice_get}
use Rattle.std.proofs.lemmas.Bool.{cases_lt}
use Rattle.std.proofs.lemmas.Option.{none-some, same_Some, slice_get_within}
use Rattle.dia_book.specs.Dictionary.{Dictionary}
use Rattle.dia_valid.proofs.Members.{there_is}
use Rattle.dia_breaking_ways.proofs.OneWalk.{same_lists}
use Rattle.dia_places.specs.Paths.{ArePaths, IsBefore, LeadInto, LeadsTo, Path}

-- paths of one length to one definition
abbrev IsAlike : Path → Path → Type 0
IsAlike p q = (length p.around ≡ length q.around) × (p.def ≡ q.def)

alike_back : (p q : Path) → IsAlike p q → IsAlike q p
alike_back p q h = (sym h.0, sym h.1)

alike_on : (p q r : Path) → IsAlike p q → IsAlike q r → IsAlike p r
alike_on p q r h k = (h.0 ∙ k.0, h.1 ∙ k.1)

apart : (p q : Path) → IsBefore p q → IsAlike p q → ⊥
apart p q (inl less) (even, same) = omega arith
apart p q (inr (equal, less)) (even, same) = omega arith

no_cycle : (p q r s : Path) → IsBefore p q → IsAlike q r → IsBefore r s → IsAlike s p → ⊥
no_cycle p q r s (inl a) (b, c) (inl e) (f, g) = omega arith
no_cycle p q r s (inl a) (b, c) (inr (e, e')) (f, g) = omega arith
no_cycle p q r s (inr (a, a')) (b, c) (inl e) (f, g) = omega arith
no_cycle p q r s (inr (a, a')) (b, c) (inr (e, e')) (f, g) = omega arith

-- the path of the other list to the same definition
record Counterpart (Q : List Path) (p : Path) : Type 0 where
  place : ℕ
  path : Path
  at : slice_get Q place ≡ Some path
  alike : IsAlike path p

counterpart : (d : Dictionary) (P Q : List Path) → ArePaths d P → ArePaths d Q → (i : ℕ) (p : Path) → slice_get P i ≡ Some p → Counterpart Q p
counterpart d P Q ps qs i p at =
    let own = ps.each i p at in
    let found = qs.all p own.0 in
    let other = qs.each found.0 found.1 found.2 in
    let le : length found.1.around ≤ length p.around = other.1 p own.0 (sym found.3) in
    let ge : length p.around ≤ length found.1.around = own.1 found.1 other.0 found.3 in
    record { place = found.0; path = found.1; at = found.2; alike = (omega arith, found.3) }

-- the first n are alike
abbrev AgreeTo : ℕ → List Path → List Path → Type 0
AgreeTo n P Q = (i : ℕ) (p : Path) → i < n → slice_get P i ≡ Some p → (q : Path) × (slice_get Q i ≡ Some q) × IsAlike q p

one_more : (d : Dictionary) (P Q : List Path) → ArePaths d P → ArePaths d Q → (n : ℕ) → AgreeTo n P Q → AgreeTo n Q P → (p : Path) → slice_get P n ≡ Some p
    → (q : Path) × (slice_get Q n ≡ Some q) × IsAlike q p
one_more d P Q ps qs n ih back p at = by (counterpart d P Q ps qs n p at)
  where
    -- it is no later
    later : (found : Counterpart Q p) → n < found.place → ⊥
    later found lt = into (there_is Q n (let inside = slice_get_within Q found.place found.path found.at in omega arith))
      where
        into : (q : Path) × (slice_get Q n ≡ Some q) → ⊥
        into (q, here) = cases (counterpart d Q P qs ps n q here)
          where
            before : IsBefore q found.path
            before = qs.ordered n found.place q found.path lt here found.at

            cases : Counterpart P q → ⊥
            cases own = pick (cases_lt own.place n) (cases_lt n own.place)
              where
                pick : (own.place < n) ⊎ (n ≤ own.place) → (n < own.place) ⊎ (own.place ≤ n) → ⊥
                pick (inl less) w =
                    let r = ih own.place own.path less own.at in
                    apart r.0 q (qs.ordered own.place n r.0 q less r.1 here) (alike_on r.0 own.path q r.2 own.alike)
                pick (inr ge) (inl more) = no_cycle p own.path q found.path (ps.ordered n own.place p own.path more at own.at) own.alike before found.alike
                pick (inr ge) (inr le) =
                    let same : own.place ≡ n = omega arith in
                    let e : own.path ≡ p = same_Some own.path p (sym own.at ∙ ap (slice_get P) same ∙ at) in
                    apart q found.path before (alike_back found.path q (alike_on found.path p q found.alike (subst (λ (x : Path). IsAlike x q) e own.alike)))

    by : Counterpart Q p → (q : Path) × (slice_get Q n ≡ Some q) × IsAlike q p
    by found = pick (cases_lt found.place n) (cases_lt n found.place)
      where
        pick : (found.place < n) ⊎ (n ≤ found.place) → (n < found.place) ⊎ (found.place ≤ n) → (q : Path) × (slice_get Q n ≡ Some q) × IsAlike q p
        pick (inl less) w =
            let r = back found.place found.path less found.at in
            absurd (apart r.0 p (ps.ordered found.place n r.0 p less r.1 at) (alike_on r.0 found.path p r.2 found.alike))
        pick (inr ge) (inl more) = absurd (later found more)
        pick (inr ge) (inr le) =
            let same : found.place ≡ n = omega arith in
            (found.path, ap (slice_get Q) (sym same) ∙ found.at, found.alike)

next : (d : Dictionary) (P Q : List Path) → ArePaths d P → ArePaths d Q → (n : ℕ) → AgreeTo n P Q → AgreeTo n Q P → AgreeTo (suc n) P Q
next d P Q ps qs n ih back i p lt at = by (cases_lt i n)
  where
    by : (i < n) ⊎ (n ≤ i) → (q : Path) × (slice_get Q i ≡ Some q) × IsAlike q p
    by (inl less) = ih i p less at
    by (inr ge) =
        let same : i ≡ n = omega arith in
        let r = one_more d P Q ps qs n ih back p (ap (slice_get P) (sym same) ∙ at) in
        (r.0, ap (slice_get Q) same ∙ r.1, r.2)

agree : (d : Dictionary) (P Q : List Path) → ArePaths d P → ArePaths d Q → (n : ℕ) → AgreeTo n P Q × AgreeTo n Q P
agree d P Q ps qs zero = (λ i p lt at. absurd (omega arith), λ i q lt at. absurd (omega arith))
agree d P Q ps qs (suc n) = let ih = agree d P Q ps qs n in (next d P Q ps qs n ih.0 ih.1, next d Q P qs ps n ih.1 ih.0)

-- at each place the lists have a path of one length to one definition
alike_at : (d : Dictionary) (P Q : List Path) → ArePaths d P → ArePaths d Q → (i : ℕ) (p q : Path) → slice_get P i ≡ Some p → slice_get Q i ≡ Some q → IsAlike q p
alike_at d P Q ps qs i p q at to =
    let r = (agree d P Q ps qs (suc i)).0 i p (omega arith) at in
    subst (λ (x : Path). IsAlike x p) (same_Some r.0 q (sym r.1 ∙ to)) r.2

-- ---- the same paths

abbrev path_with : ℕ → List ℕ → Path
path_with def around = record { def = def; around = around }

same_paths : (p q : Path) → p.def ≡ q.def → p.around ≡ q.around → p ≡ q
same_paths p q def around = ap (path_with p.def) around ∙ ap (λ (n : ℕ). path_with n q.around) def

-- where the last group of one list's path is first, it is no later than that of the other's
no_later : (d : Dictionary) (P Q : List Path) → ArePaths d P → ArePaths d Q → (i j k m : ℕ) (p q : Path) (ys : List ℕ) → slice_get P i ≡ Some p → slice_get Q i ≡ Some q → q.around ≡ m ∷ ys
    → ((l : ℕ) (other : Path) → slice_get P l ≡ Some other → LeadsTo d other.def p.def → j ≤ l) → slice_get Q k ≡ Some (record { def = m; around = ys }) → j ≤ k
no_later d P Q ps qs i j k m p q ys at to is least there =
    let found = (agree d P Q ps qs (suc k)).1 k (record { def = m; around = ys }) (omega arith) there in
    let alike = alike_at d P Q ps qs i p q at to in
    let leads : LeadInto d q.def (m ∷ ys) = subst (LeadInto d q.def) is (qs.each i q to).0 in
    least k found.0 found.1 (subst (λ (n : ℕ). LeadsTo d n p.def) (sym found.2.1) (subst (LeadsTo d m) alike.1 leads.0))

same_at : (d : Dictionary) (P Q : List Path) → ArePaths d P → ArePaths d Q → (n i : ℕ) (p q : Path) → length p.around < n → slice_get P i ≡ Some p → slice_get Q i ≡ Some q → p ≡ q
same_at d P Q ps qs zero i p q short at to = absurd (omega arith)
same_at d P Q ps qs (suc n) i p q short at to = by (λ j x y less here there. same_at d P Q ps qs n j x y less here there) p.around q.around refl refl
  where
    alike : IsAlike q p
    alike = alike_at d P Q ps qs i p q at to

    by : ((j : ℕ) (x y : Path) → length x.around < n → slice_get P j ≡ Some x → slice_get Q j ≡ Some y → x ≡ y) → (a b : List ℕ) → p.around ≡ a → q.around ≡ b → p ≡ q
    by ih [] [] is is' = same_paths p q (sym alike.1) (is ∙ sym is')
    by ih [] (y ∷ ys) is is' =
        absurd (let e : length q.around ≡ suc (length ys) = ap length is' in let f : length p.around ≡ 0 = ap length is in let g : length q.around ≡ length p.around = alike.0 in omega arith)
    by ih (x ∷ xs) [] is is' =
        absurd (let e : length p.around ≡ suc (length xs) = ap length is in let f : length q.around ≡ 0 = ap length is' in let g : length q.around ≡ length p.around = alike.0 in omega arith)
    by ih (x ∷ xs) (y ∷ ys) is is' =
        let own = ps.first i x p xs at is in
        let other = qs.first i y q ys to is' in
        let le : own.0 ≤ other.0 = no_later d P Q ps qs i own.0 other.0 y p q ys at to is' own.2 other.1 in
        let ge : other.0 ≤ own.0 = no_later d Q P qs ps i other.0 own.0 x q p xs to at is other.2 own.1 in
        let even : other.0 ≡ own.0 = omega arith in
        let long : length p.around ≡ suc (length xs) = ap length is in
        let less : length xs < n = omega arith in
        let outer : record { def = x; around = xs } ≡ record { def = y; around = ys } =
        ih own.0 (record { def = x; around = xs }) (record { def = y; around = ys }) less own.1 (ap (slice_get Q) (sym even) ∙ other.1) in
        same_paths p q (sym alike.1) (is ∙ ap (λ (path : Path). path.def ∷ path.around) outer ∙ sym is')

same_items : (d : Dictionary) (P Q : List Path) → ArePaths d P → ArePaths d Q → (i : ℕ) (o o' : Option Path) → slice_get P i ≡ o → slice_get Q i ≡ o' → o ≡ o'
same_items d P Q ps qs i None None at to = refl
same_items d P Q ps qs i (Some p) (Some q) at to = ap (λ (x : Path). Some x) (same_at d P Q ps qs (suc (length p.around)) i p q (omega arith) at to)
same_items d P Q ps qs i (Some p) None at to = absurd (let r = (agree d P Q ps qs (suc i)).0 i p (omega arith) at in none-some r.0 (sym to ∙ r.1))
same_items d P Q ps qs i None (Some q) at to = absurd (let r = (agree d P Q ps qs (suc i)).1 i q (omega arith) to in none-some r.0 (sym at ∙ r.1))

pub one_list : (d : Dictionary) (P Q : List Path) → ArePaths d P → ArePaths d Q → P ≡ Q
one_list d P Q ps qs = same_lists P Q (λ i. same_items d P Q ps qs i (slice_get P i) (slice_get Q i) refl refl)
