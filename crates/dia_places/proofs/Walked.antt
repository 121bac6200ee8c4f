-- The paths that the steps of a walk record are the shortest ones.
use Rattle.std.proofs.Common.{◌≡◌, ℕ, zero, suc, ◌+◌, ◌<◌, ◌≤◌, List, [], ◌∷◌, length, map, Option, Some, None, refl, sym, ap, subst, ◌∙◌, arith, inl, inr}
use Rattle.std.specs.Prelude.{◌⊎◌, slice_get}
use Rattle.std.specs.Option.{option_map_or}
use Rattle.std.proofs.lemmas.Bool.{cases_lt}
use Rattle.std.proofs.lemmas.List.{length-map}
use Rattle.std.proofs.lemmas.Option.{slice_get_within}
use Rattle.dia_book.specs.Dictionary.{Dictionary, definitions}
use Rattle.dia_book.specs.Limits.{max_parts}
use Rattle.dia_book.proofs.Members.{at_map, into_map}
use Rattle.dia_breaking_ways.specs.declared.graph.Step.{Step}
use Rattle.dia_breaking_ways.specs.declared.graph.Reach.{Reach}
use Rattle.dia_breaking_ways.specs.Walks.{IsWalk}
use Rattle.dia_breaking_ways.specs.Walks as walks
use Rattle.dia_places.specs.declared.graph.Reached.{Reached}
use Rattle.dia_places.specs.Paths.{ArePaths, IsBefore, IsPath, IsShortest, LeadInto, LeadsTo, Path}
use Rattle.dia_places.specs.Graph.{graph_in}
use Rattle.dia_places.specs.Records.{around_from, path_of, paths_of, reached_by}
use Rattle.dia_places.proofs.Numbers.{command_within, leads_within}
use Rattle.dia_places.proofs.Steps as steps
use Rattle.dia_places.proofs.Steps.{ComesFrom, HasStep}
use Rattle.dia_places.proofs.Steps.ComesFrom.{By_command, By_group}

-- ---- the numbers of definitions before each

abbrev pub AreOuterFirst : List Reached → Type 0
AreOuterFirst rs = (i : ℕ) (r : Reached) → slice_get rs i ≡ Some r → r.outer ≤ i

-- nothing is around a command
pub around_none : (rs : List Reached) (most : ℕ) → around_from rs most 0 ≡ []
around_none rs zero = refl
around_none rs (suc most) = refl

pub around_some : (rs : List Reached) (most i : ℕ) (r : Reached) → slice_get rs i ≡ Some r → around_from rs (suc most) (suc i) ≡ r.def ∷ around_from rs most r.outer
around_some rs most i r at = ap (λ (o : Option Reached). option_map_or (λ (x : Reached). x.def ∷ around_from rs most x.outer) o []) at

-- enough is enough
pub around_enough : (rs : List Reached) → AreOuterFirst rs → (a b number : ℕ) → number ≤ a → number ≤ b → around_from rs a number ≡ around_from rs b number
around_enough rs first a b zero le ge = around_none rs a ∙ sym (around_none rs b)
around_enough rs first zero b (suc i) le ge = absurd (omega arith)
around_enough rs first (suc a) zero (suc i) le ge = absurd (omega arith)
around_enough rs first (suc a) (suc b) (suc i) le ge = by (λ number less more. around_enough rs first a b number less more) (slice_get rs i) refl
  where
    by : ((number : ℕ) → number ≤ a → number ≤ b → around_from rs a number ≡ around_from rs b number) → (o : Option Reached) → slice_get rs i ≡ o
        → around_from rs (suc a) (suc i) ≡ around_from rs (suc b) (suc i)
    by inner None at =
        ap (λ (o : Option Reached). option_map_or (λ (x : Reached). x.def ∷ around_from rs a x.outer) o []) at
        ∙ sym (ap (λ (o : Option Reached). option_map_or (λ (x : Reached). x.def ∷ around_from rs b x.outer) o []) at)
    by inner (Some r) at =
        let le' : r.outer ≤ i = first i r at in
        around_some rs a i r at ∙ ap (λ around. r.def ∷ around) (inner r.outer (omega arith) (omega arith)) ∙ sym (around_some rs b i r at)

module _ (d : Dictionary) (small : length (definitions d) ≤ max_parts) (S : List Step) (R : List (Option Reach)) (w : IsWalk (graph_in d) S R) where
  abbrev rs : List Reached
  rs = map reached_by S

  outer_first : AreOuterFirst rs
  outer_first i r at =
      let s = at_map reached_by S i r at in
      subst (λ (n : ℕ). n ≤ i) (ap (λ (x : Reached). x.outer) s.2) (w.outer_first i s.0 s.1)

  abbrev path : Step → Path
  path s = path_of rs (reached_by s)

  same_length : length rs ≡ length S
  same_length = length-map S reached_by

  -- the path of a step, and its length
  around_is : (most i : ℕ) (s : Step) → slice_get S i ≡ Some s → s.outer ≤ most → LeadInto d s.place (around_from rs most s.outer) × (suc (length (around_from rs most s.outer)) ≡ s.way)
  around_is zero i s at enough = by (steps.comes_from d S R w i s at)
    where
      by : ComesFrom d S i s → LeadInto d s.place [] × (1 ≡ s.way)
      by (By_command outer command way) = (command, sym way)
      by (By_group k t outer before here leads way) = absurd (omega arith)
  around_is (suc n) i s at enough = by (λ k t here less. around_is n k t here less) (steps.comes_from d S R w i s at)
    where
      by : ((k : ℕ) (t : Step) → slice_get S k ≡ Some t → t.outer ≤ n → LeadInto d t.place (around_from rs n t.outer) × (suc (length (around_from rs n t.outer)) ≡ t.way))
          → ComesFrom d S i s → LeadInto d s.place (around_from rs (suc n) s.outer) × (suc (length (around_from rs (suc n) s.outer)) ≡ s.way)
      by around (By_command outer command way) =
          let none : around_from rs (suc n) s.outer ≡ [] = ap (around_from rs (suc n)) outer ∙ around_none rs (suc n) in
          (subst (LeadInto d s.place) (sym none) command, ap (λ (xs : List ℕ). suc (length xs)) none ∙ sym way)
      by around (By_group k t outer before here leads way) =
          let inner = around k t here (let le : t.outer ≤ k = w.outer_first k t here in omega arith) in
          let some : around_from rs (suc n) s.outer ≡ t.place ∷ around_from rs n t.outer = ap (around_from rs (suc n)) outer ∙ around_some rs n k (reached_by t) (into_map reached_by S k t here) in
          let long : suc (length (around_from rs n t.outer)) ≡ t.way = inner.1 in
          (subst (LeadInto d s.place) (sym some) (leads, inner.0), ap (λ (xs : List ℕ). suc (length xs)) some ∙ omega arith)

  path_is : (i : ℕ) (s : Step) → slice_get S i ≡ Some s → IsPath d (path s) × (suc (length (path s).around) ≡ s.way)
  path_is i s at =
      let inside : i < length S = slice_get_within S i s at in
      let first : s.outer ≤ i = w.outer_first i s at in
      let same : length rs ≡ length S = same_length in
      around_is (length rs) i s at (omega arith)

  -- a step goes to each definition that has a path, in no more steps
  record Shorter (n most : ℕ) : Type 0 where
    place : ℕ
    step : Step
    at : slice_get S place ≡ Some step
    is_to : step.place ≡ n
    short : step.way ≤ most

  has_shorter : (n : ℕ) (around : List ℕ) → LeadInto d n around → Shorter n (suc (length around))
  has_shorter n [] command =
      let has = steps.command_step d S R w n (command_within d n command) command in
      record { place = has.place; step = has.step; at = has.at; is_to = has.is_to; short = steps.command_way d S R w n command has.place has.step has.at has.is_to }
  has_shorter n (m ∷ around) (leads, more) =
      let before = has_shorter m around more in
      let leads' : LeadsTo d before.step.place n = subst (λ (q : ℕ). LeadsTo d q n) (sym before.is_to) leads in
      let has = steps.group_step d S R w small before.place n before.step (leads_within d m n leads) before.at leads' in
      record {
        place = has.place;
        step = has.step;
        at = has.at;
        is_to = has.is_to;
        short = by has.step before.step before.place before.short (steps.group_way d S R w before.place n before.step before.at leads' has.place has.step has.at has.is_to);
      }
    where
      by : (s t : Step) (k : ℕ) → t.way ≤ suc (length around) → (s.way < t.way + 1) ⊎ ((s.way ≡ t.way + 1) × (s.outer ≤ suc k)) → s.way ≤ suc (suc (length around))
      by s t k le (inl lt) = omega arith
      by s t k le (inr (same, first)) = omega arith

  -- ---- the paths

  step_at : (i : ℕ) (p : Path) → slice_get (paths_of rs) i ≡ Some p → (s : Step) × (slice_get S i ≡ Some s) × (p ≡ path s)
  step_at i p at =
      let r = at_map (path_of rs) rs i p at in
      let s = at_map reached_by S i r.0 r.1 in
      (s.0, s.1, sym r.2 ∙ ap (path_of rs) (sym s.2))

  path_at : (i : ℕ) (s : Step) → slice_get S i ≡ Some s → slice_get (paths_of rs) i ≡ Some (path s)
  path_at i s at = into_map (path_of rs) rs i (reached_by s) (into_map reached_by S i s at)

  -- of two steps to one definition neither is longer
  no_longer : (i j : ℕ) (s t : Step) → slice_get S i ≡ Some s → slice_get S j ≡ Some t → s.place ≡ t.place → s.way ≤ t.way
  no_longer i j s t at to same = by (steps.is_least d S R w i s at t.outer t.way t.wild (subst (λ (q : ℕ). walks.IsReached (graph_in d) S q t.outer t.way t.wild) (sym same) (steps.is_reached d S R w j t to)))
    where
      by : (s.way < t.way) ⊎ ((s.way ≡ t.way) × (s.outer ≤ t.outer)) → s.way ≤ t.way
      by (inl less) = omega arith
      by (inr (even, le)) = omega arith

  each_is : (i : ℕ) (p : Path) → slice_get (paths_of rs) i ≡ Some p → IsPath d p × IsShortest d p
  each_is i p at =
      let s = step_at i p at in
      let is = path_is i s.0 s.1 in
      subst (λ (q : Path). IsPath d q × IsShortest d q) (sym s.2) (is.0, shortest s.0 s.1 is.1)
    where
      shortest : (s : Step) → slice_get S i ≡ Some s → suc (length (path s).around) ≡ s.way → IsShortest d (path s)
      shortest s here long other is same =
          let found = has_shorter other.def other.around is in
          let le : s.way ≤ found.step.way = no_longer i found.place s found.step here found.at (sym same ∙ sym found.is_to) in
          let short = found.short in
          omega arith

  all_are : (p : Path) → IsPath d p → (i : ℕ) × (found : Path) × (slice_get (paths_of rs) i ≡ Some found) × (found.def ≡ p.def)
  all_are p is = let found = has_shorter p.def p.around is in (found.place, path found.step, path_at found.place found.step found.at, found.is_to)

  in_order : (i j : ℕ) (p q : Path) → i < j → slice_get (paths_of rs) i ≡ Some p → slice_get (paths_of rs) j ≡ Some q → IsBefore p q
  in_order i j p q lt at to =
      let s = step_at i p at in
      let t = step_at j q to in
      subst (λ (x : Path). IsBefore x q) (sym s.2) (subst (λ (x : Path). IsBefore (path s.0) x) (sym t.2) (by s.0 t.0 (path_is i s.0 s.1).1 (path_is j t.0 t.1).1 (w.ordered i j s.0 t.0 lt s.1 t.1)))
    where
      by : (s t : Step) → suc (length (path s).around) ≡ s.way → suc (length (path t).around) ≡ t.way → walks.IsBefore s t → IsBefore (path s) (path t)
      by s t a b (inl less) = inl (omega arith)
      by s t a b (inr (same, less)) = inr (omega arith, less)

  first_is : (i m : ℕ) (p : Path) (around : List ℕ) → slice_get (paths_of rs) i ≡ Some p → p.around ≡ m ∷ around
      → (j : ℕ) × (slice_get (paths_of rs) j ≡ Some (record { def = m; around = around })) × ((k : ℕ) (other : Path) → slice_get (paths_of rs) k ≡ Some other → LeadsTo d other.def p.def → j ≤ k)
  first_is i m p around at is =
      let s = step_at i p at in
      by s.0 s.1 s.2 (steps.comes_from d S R w i s.0 s.1)
    where
      by : (s : Step) → slice_get S i ≡ Some s → p ≡ path s → ComesFrom d S i s
          → (j : ℕ) × (slice_get (paths_of rs) j ≡ Some (record { def = m; around = around })) × ((k : ℕ) (other : Path) → slice_get (paths_of rs) k ≡ Some other → LeadsTo d other.def p.def → j ≤ k)
      by s here same (By_command outer command way) =
          absurd (let e : [] ≡ m ∷ around = sym (around_none rs (length rs)) ∙ ap (around_from rs (length rs)) (sym outer) ∙ ap (λ (x : Path). x.around) (sym same) ∙ is in cc)
      by s here same (By_group k t outer sooner from leads way) =
          let inside : k < length S = slice_get_within S k t from in
          let long : length rs ≡ length S = same_length in
          let le : t.outer ≤ k = w.outer_first k t from in
          let more : around_from rs (length rs) (suc k) ≡ t.place ∷ around_from rs (length rs) t.outer =
          around_enough rs outer_first (length rs) (suc (length rs)) (suc k) (omega arith) (omega arith) ∙ around_some rs (length rs) k (reached_by t) (into_map reached_by S k t from) in
          let e : t.place ∷ around_from rs (length rs) t.outer ≡ m ∷ around = sym more ∙ ap (around_from rs (length rs)) (sym outer) ∙ ap (λ (x : Path). x.around) (sym same) ∙ is in
          let def : t.place ≡ m = cc in
          let rest : around_from rs (length rs) t.outer ≡ around = cc in
          (k, path_at k t from ∙ ap (λ (x : Path). Some x) (same_path t m around def rest), first s here same k t from outer way)
        where
          same_path : (t : Step) (m : ℕ) (around : List ℕ) → t.place ≡ m → around_from rs (length rs) t.outer ≡ around → path t ≡ record { def = m; around = around }
          same_path t m around def rest = cc

          first : (s : Step) → slice_get S i ≡ Some s → p ≡ path s → (k : ℕ) (t : Step) → slice_get S k ≡ Some t → s.outer ≡ suc k → s.way ≡ t.way + 1
              → (j : ℕ) (other : Path) → slice_get (paths_of rs) j ≡ Some other → LeadsTo d other.def p.def → k ≤ j
          first s here same k t from outer way j other to leads =
              let u = step_at j other to in
              let leads' : LeadsTo d u.0.place s.place =
              subst (λ (q : ℕ). LeadsTo d q s.place) (ap (λ (x : Path). x.def) u.2) (subst (λ (q : ℕ). LeadsTo d other.def q) (ap (λ (x : Path). x.def) same) leads) in
              after k t from j u.0 u.1 (steps.group_way d S R w j s.place u.0 u.1 leads' i s here refl) (cases_lt j k) outer way
            where
              after : (k : ℕ) (t : Step) → slice_get S k ≡ Some t → (j : ℕ) (u : Step) → slice_get S j ≡ Some u → (s.way < u.way + 1) ⊎ ((s.way ≡ u.way + 1) × (s.outer ≤ suc j)) → (j < k) ⊎ (k ≤ j)
                  → s.outer ≡ suc k → s.way ≡ t.way + 1 → k ≤ j
              after k t from j u to short (inr le) outer way = le
              after k t from j u to (inr (same, le)) (inl lt) outer way = omega arith
              after k t from j u to (inl less) (inl lt) outer way = absurd (not_so (w.ordered j k u t lt to from))
                where
                  not_so : walks.IsBefore u t → ⊥
                  not_so (inl more) = omega arith
                  not_so (inr (even, more)) = omega arith

  pub are_paths : ArePaths d (paths_of rs)
  are_paths = record { each = each_is; all = all_are; ordered = in_order; first = first_is }
