-- A graph has one walk.
use Rattle.std.proofs.Common.{◌≡◌, ℕ, zero, suc, ◌-◌, ◌<◌, ◌≤◌, Bool, true, false, List, [], ◌∷◌, length, Option, Some, None, refl, sym, ap, subst, ◌∙◌, get_or, arith, inl, inr}
use Rattle.std.specs.Prelude.{◌⊎◌, slice_get, Contains, option_and_then}
use Rattle.std.proofs.lemmas.Option.{none-some, same_Some, slice_get_within, slice_get-get_or, slice_get_past}
use Rattle.std.proofs.lemmas.Bool.{cases_lt}
use Rattle.dia_breaking_ways.specs.declared.graph.Step.{Step}
use Rattle.dia_breaking_ways.specs.declared.graph.Reach.{Reach}
use Rattle.dia_breaking_ways.specs.Walks.{Graph, PlainLevel, IsReached, IsNoLater, IsPlainer, IsShortest, IsStep, IsBefore, IsWalk, step_to, stage_at, stage_of, level_of}

-- ---- lists

pub at_contains : {X : Type 0} (xs : List X) (x : X) → Contains xs x → (i : ℕ) × (slice_get xs i ≡ Some x)
at_contains xs x c = (c.0, slice_get-get_or xs c.0 x c.1 ∙ ap (λ y. Some y) c.2)

pub same_lists : {X : Type 0} (xs ys : List X) → ((i : ℕ) → slice_get xs i ≡ slice_get ys i) → xs ≡ ys
same_lists [] [] h = refl
same_lists [] (y ∷ ys) h = absurd (none-some y (h zero))
same_lists (x ∷ xs) [] h = absurd (none-some x (sym (h zero)))
same_lists (x ∷ xs) (y ∷ ys) h = let e = same_Some x y (h zero) in let f = same_lists xs ys (λ i. h (suc i)) in cc

-- ---- steps that agree

-- the first n steps are the same
abbrev Agree : ℕ → List Step → List Step → Type 0
Agree n S T = (j : ℕ) → j < n → slice_get S j ≡ slice_get T j

agree_back : (n : ℕ) (S T : List Step) → Agree n S T → Agree n T S
agree_back n S T h = λ j below. sym (h j below)

stages_agree : (g : Graph) (S T : List Step) (n : ℕ) → Agree n S T → (number : ℕ) → number ≤ n → stage_at g S number ≡ stage_at g T number
stages_agree g S T n h zero le = refl
stages_agree g S T n h (suc i) le = ap (λ (o : Option Step). option_and_then (stage_of g) o) (h i (omega arith))

reached_too : (g : Graph) (S T : List Step) (n : ℕ) → Agree n S T → (place number total : ℕ) (wild : Bool) → number ≤ n → IsReached g S place number total wild → IsReached g T place number total wild
reached_too g S T n h place number total wild le r = record {
  stage = r.stage;
  inner = r.inner;
  is_stage = sym (stages_agree g S T n h number le)
      ∙ r.is_stage;
  leads = r.leads;
  is_total = r.is_total;
  is_wild = r.is_wild;
  has_room = r.has_room;
}

pub same_way : (R : List (Option Reach)) (p q : ℕ) (x y : Reach) → p ≡ q → slice_get R p ≡ Some (Some x) → slice_get R q ≡ Some (Some y) → x ≡ y
same_way R p q x y e a b = same_Some x y (same_Some (Some x) (Some y) (sym a ∙ (ap (λ (k : ℕ). slice_get R k) e ∙ b)))

pub same_level : (g : Graph) (p q : ℕ) (x y : PlainLevel) → p ≡ q → level_of g p ≡ Some x → level_of g q ≡ Some y → x ≡ y
same_level g p q x y e a b = same_Some x y (sym a ∙ (ap (λ (k : ℕ). level_of g k) e ∙ b))

pub same_steps : (p q : ℕ) (k l : PlainLevel) (x y : Reach) → p ≡ q → k ≡ l → x ≡ y → step_to p k x ≡ step_to q l y
same_steps p q k l x y e f h = cc

-- one walk has one step to a place
one_step : (g : Graph) (R : List (Option Reach)) (s t : Step) → IsStep g R s → IsStep g R t → s.place ≡ t.place → s ≡ t
one_step g R s t a b e =
    a.is_step ∙ (same_steps s.place t.place a.level b.level a.reach b.reach e (same_level g s.place t.place a.level b.level e a.is_level b.is_level)
    (same_way R s.place t.place a.reach b.reach e a.is_reach b.is_reach) ∙ sym b.is_step)

pub not_before_itself : (s t : Step) → s ≡ t → IsBefore s t → ⊥
not_before_itself s t e (inl h) = let f : s.way ≡ t.way = ap (λ (x : Step). x.way) e in omega arith
not_before_itself s t e (inr h) = let f : s.place ≡ t.place = ap (λ (x : Step). x.place) e in omega arith

-- ---- the next step

-- a step of the one walk, and the way by which the other walk comes to its place
record Later (g : Graph) (R W : List (Option Reach)) (s : Step) : Type 0 where
  own : IsStep g R s
  other : Reach
  is_other : slice_get W s.place ≡ Some (Some other)
  nearer : IsNoLater other own.reach.level own.reach.length own.reach.wild

way_or_none : (W : List (Option Reach)) (p : ℕ) → p < length W → (o : Option Reach) × (slice_get W p ≡ Some o)
way_or_none W p below = (get_or W p None, slice_get-get_or W p None below)

later_by : (g : Graph) (T : List Step) (R W : List (Option Reach)) (s : Step) (own : IsStep g R s) → IsReached g T s.place own.reach.level own.reach.length own.reach.wild
    → (o : Option Reach) → slice_get W s.place ≡ Some o → IsShortest g T s.place o → Later g R W s
later_by g T R W s own r None e short = absurd (short own.reach.level own.reach.length own.reach.wild r)
later_by g T R W s own r (Some x) e short = record { own = own; other = x; is_other = e; nearer = short.1 own.reach.level own.reach.length own.reach.wild r }

later : (g : Graph) (S T : List Step) (R W : List (Option Reach)) → IsWalk g S R → IsWalk g T W → (i : ℕ) → Agree i S T → (s : Step) → slice_get S i ≡ Some s → Later g R W s
later g S T R W w v i h s e =
    let own : IsStep g R s = w.to_reached i s e in
    let out : own.reach.level ≤ i = subst (λ (x : Step). x.outer ≤ i) own.is_step (w.outer_first i s e) in
    let here : IsShortest g S s.place (Some own.reach) = w.shortest s.place (Some own.reach) own.is_reach in
    let there : IsReached g T s.place own.reach.level own.reach.length own.reach.wild = reached_too g S T i h s.place own.reach.level own.reach.length own.reach.wild out here.0 in
    let inside : s.place < length R = slice_get_within R s.place (Some own.reach) own.is_reach in
    let within : s.place < length W = let a = w.each in let b = v.each in omega arith in
    let o = way_or_none W s.place within in
    later_by g T R W s own there o.0 o.1 (v.shortest s.place o.0 o.1)

-- where the other walk has its step to the place
record Occurs (T : List Step) (i : ℕ) (s : Step) : Type 0 where
  at : ℕ
  step : Step
  is_at : slice_get T at ≡ Some step
  following : i ≤ at
  same_place : step.place ≡ s.place
  no_longer : step.way ≤ s.way

shorter : (least : ℕ) (x y : Reach) → IsNoLater x y.level y.length y.wild → x.length - least ≤ y.length - least
shorter least x y (inl h) = omega (arith, h)
shorter least x y (inr h) = omega (arith, h.0)

-- a step's place comes no earlier
after_by : (g : Graph) (S : List Step) (R : List (Option Reach)) → IsWalk g S R → (i : ℕ) (s : Step) → slice_get S i ≡ Some s → (t : Step) (j : ℕ) → t.place ≡ s.place
    → (j < i → slice_get S j ≡ Some t) → i ≤ j
after_by g S R w i s e t j same at = elim (cases_lt j i) [
  | inl below ↦ absurd (not_before_itself t s (one_step g R t s (w.to_reached j t (at below)) (w.to_reached i s e) same) (w.ordered j i t s below (at below) e))
  | inr above ↦ above
]

occurs : (g : Graph) (S T : List Step) (R W : List (Option Reach)) → IsWalk g S R → IsWalk g T W → (i : ℕ) → Agree i S T → (s : Step) → slice_get S i ≡ Some s → Later g R W s → Occurs T i s
occurs g S T R W w v i h s e l =
    let t = step_to s.place l.own.level l.other in
    let f = at_contains T t (v.to_all s.place l.own.level l.other l.own.is_level l.is_other) in
    record {
      at = f.0;
      step = t;
      is_at = f.1;
      following = after_by g S R w i s e t f.0 refl (λ below. h f.0 below ∙ f.1);
      same_place = refl;
      no_longer = subst (λ (x : ℕ). l.other.length - l.own.level.least ≤ x) (sym (ap (λ (x : Step). x.way) l.own.is_step)) (shorter l.own.level.least l.other l.own.reach l.nearer);
    }

abbrev NotAfter : Step → Step → Type 0
NotAfter s t = (s.way < t.way) ⊎ ((s.way ≡ t.way) × (s.place ≤ t.place))

-- the other walk's step with the same number is no later
record Next (T : List Step) (i : ℕ) (s : Step) : Type 0 where
  step : Step
  is_next : slice_get T i ≡ Some step
  not_after : NotAfter step s

no_later : (x t s : Step) → IsBefore x t → t.place ≡ s.place → t.way ≤ s.way → NotAfter x s
no_later x t s (inl h) e le = inl (omega arith)
no_later x t s (inr h) e le = elim (cases_lt t.way s.way) [ inl less ↦ inl (omega arith) | inr same ↦ inr (omega arith, omega arith) ]

no_later_itself : (t s : Step) → t.place ≡ s.place → t.way ≤ s.way → NotAfter t s
no_later_itself t s e le = elim (cases_lt t.way s.way) [ inl less ↦ inl less | inr same ↦ inr (omega arith, omega arith) ]

next_by : (g : Graph) (T : List Step) (W : List (Option Reach)) → IsWalk g T W → (i : ℕ) (s : Step) → Occurs T i s → Next T i s
next_by g T W v i s st = elim (cases_lt i st.at) [
  | inl below ↦
      let inside : i < length T = let a = slice_get_within T st.at st.step st.is_at in omega arith in
      let x = get_or T i st.step in
      let e = slice_get-get_or T i st.step inside in
      record { step = x; is_next = e; not_after = no_later x st.step s (v.ordered i st.at x st.step below e st.is_at) st.same_place st.no_longer }
  | inr above ↦
      let same : st.at ≡ i = let b = st.following in omega arith in
      record { step = st.step; is_next = ap (λ (k : ℕ). slice_get T k) (sym same) ∙ st.is_at; not_after = no_later_itself st.step s st.same_place st.no_longer }
]

next : (g : Graph) (S T : List Step) (R W : List (Option Reach)) → IsWalk g S R → IsWalk g T W → (i : ℕ) → Agree i S T → (s : Step) → slice_get S i ≡ Some s → Next T i s
next g S T R W w v i h s e = next_by g T W v i s (occurs g S T R W w v i h s e (later g S T R W w v i h s e))

not_after_both : (s t : Step) → NotAfter s t → NotAfter t s → s.place ≡ t.place
not_after_both s t (inl h) (inl k) = omega arith
not_after_both s t (inl h) (inr k) = omega arith
not_after_both s t (inr h) (inl k) = omega arith
not_after_both s t (inr h) (inr k) = omega arith

same_wild : (a b : Bool) (m n : ℕ) → IsPlainer a b ⊎ ((a ≡ b) × (m ≤ n)) → IsPlainer b a ⊎ ((b ≡ a) × (n ≤ m)) → (a ≡ b) × (m ≡ n)
same_wild a b m n (inl p) (inl q) = absurd (let bad : false ≡ true = sym p.0 ∙ q.1 in cc)
same_wild a b m n (inl p) (inr q) = absurd (let bad : false ≡ true = sym p.0 ∙ (sym q.0 ∙ p.1) in cc)
same_wild a b m n (inr p) (inl q) = absurd (let bad : false ≡ true = sym q.0 ∙ (sym p.0 ∙ q.1) in cc)
same_wild a b m n (inr p) (inr q) = (p.0, omega (arith, p.1, q.1))

pub same_reach : (x y : Reach) → IsNoLater x y.level y.length y.wild → IsNoLater y x.level x.length x.wild → x ≡ y
same_reach x y (inl h) (inl k) = absurd (omega (arith, h, k))
same_reach x y (inl h) (inr k) = absurd (omega (arith, h, k.0))
same_reach x y (inr h) (inl k) = absurd (omega (arith, h.0, k))
same_reach x y (inr h) (inr k) =
    let same = same_wild x.wild y.wild x.level y.level h.1 k.1 in
    let long : x.length ≡ y.length = h.0 in
    λ i. record { level = same.1 i; length = long i; wild = same.0 i }

-- by two ways to one place, each no later than the other, the steps are one
same_step : (g : Graph) (R W : List (Option Reach)) (s t : Step) → s.place ≡ t.place → Later g R W s → Later g W R t → s ≡ t
same_step g R W s t e l k =
    let p : l.other ≡ k.own.reach = same_way W s.place t.place l.other k.own.reach e l.is_other k.own.is_reach in
    let q : k.other ≡ l.own.reach = same_way R t.place s.place k.other l.own.reach (sym e) k.is_other l.own.is_reach in
    let a : IsNoLater k.own.reach l.own.reach.level l.own.reach.length l.own.reach.wild = subst (λ (x : Reach). IsNoLater x l.own.reach.level l.own.reach.length l.own.reach.wild) p l.nearer in
    let b : IsNoLater l.own.reach k.own.reach.level k.own.reach.length k.own.reach.wild = subst (λ (x : Reach). IsNoLater x k.own.reach.level k.own.reach.length k.own.reach.wild) q k.nearer in
    l.own.is_step ∙ (same_steps s.place t.place l.own.level k.own.level l.own.reach k.own.reach e (same_level g s.place t.place l.own.level k.own.level e l.own.is_level k.own.is_level)
    (same_reach l.own.reach k.own.reach b a) ∙ sym k.own.is_step)

same_next : (g : Graph) (S T : List Step) (R W : List (Option Reach)) → IsWalk g S R → IsWalk g T W → (i : ℕ) → Agree i S T → (s : Step) → slice_get S i ≡ Some s → slice_get T i ≡ Some s
same_next g S T R W w v i h s e =
    let back = agree_back i S T h in
    let n = next g S T R W w v i h s e in
    let m = next g T S W R v w i back n.step n.is_next in
    let f : m.step ≡ s = same_Some m.step s (sym m.is_next ∙ e) in
    let k : NotAfter s n.step = subst (λ (x : Step). NotAfter x n.step) f m.not_after in
    let place : s.place ≡ n.step.place = not_after_both s n.step k n.not_after in
    n.is_next ∙ ap (λ (x : Step). Some x) (sym (same_step g R W s n.step place (later g S T R W w v i h s e) (later g T S W R v w i back n.step n.is_next)))

pub same_at : (S T : List Step) (i : ℕ) → ((s : Step) → slice_get S i ≡ Some s → slice_get T i ≡ Some s) → ((s : Step) → slice_get T i ≡ Some s → slice_get S i ≡ Some s)
    → (o : Option Step) → slice_get S i ≡ o → slice_get S i ≡ slice_get T i
same_at S T i f b (Some s) e = e ∙ sym (f s e)
same_at S T i f b None e = same_none S T i e b (slice_get T i) refl
  where
    same_none : (S T : List Step) (i : ℕ) → slice_get S i ≡ None → ((s : Step) → slice_get T i ≡ Some s → slice_get S i ≡ Some s) → (o : Option Step) → slice_get T i ≡ o
        → slice_get S i ≡ slice_get T i
    same_none S T i e b None f = e ∙ sym f
    same_none S T i e b (Some s) f = absurd (none-some s (sym e ∙ b s f))

all_agree : (g : Graph) (S T : List Step) (R W : List (Option Reach)) → IsWalk g S R → IsWalk g T W → (n : ℕ) → Agree n S T
all_agree g S T R W w v zero = λ j below. absurd (omega arith)
all_agree g S T R W w v (suc n) = λ j below.
    let h = all_agree g S T R W w v n in
    elim (cases_lt j n) [
      | inl less ↦ h j less
      | inr above ↦
          let same : n ≡ j = omega arith in
          let here = same_at S T n (λ s e. same_next g S T R W w v n h s e) (λ s e. same_next g T S W R v w n (agree_back n S T h) s e) (slice_get S n) refl in
          subst (λ (k : ℕ). slice_get S k ≡ slice_get T k) same here
    ]

pub one_list : (g : Graph) (S T : List Step) (R W : List (Option Reach)) → IsWalk g S R → IsWalk g T W → S ≡ T
one_list g S T R W w v = same_lists S T (λ i. all_agree g S T R W w v (suc i) i (omega arith))

-- ---- the shortest ways

one_way : (g : Graph) (S : List Step) (p : ℕ) (x y : Option Reach) → IsShortest g S p x → IsShortest g S p y → x ≡ y
one_way g S p None None a b = refl
one_way g S p None (Some y) a b = absurd (a y.level y.length y.wild b.0)
one_way g S p (Some x) None a b = absurd (b x.level x.length x.wild a.0)
one_way g S p (Some x) (Some y) a b = ap (λ (r : Reach). Some r) (same_reach x y (a.1 y.level y.length y.wild b.0) (b.1 x.level x.length x.wild a.0))

same_ways_at : (g : Graph) (S : List Step) (R W : List (Option Reach)) → IsWalk g S R → IsWalk g S W → (p : ℕ) → slice_get R p ≡ slice_get W p
same_ways_at g S R W w v p = elim (cases_lt p (length R)) [
  | inl below ↦
      let within : p < length W = let a = w.each in let b = v.each in omega arith in
      let x = way_or_none R p below in
      let y = way_or_none W p within in
      x.1 ∙ (ap (λ (o : Option Reach). Some o) (one_way g S p x.0 y.0 (w.shortest p x.0 x.1) (v.shortest p y.0 y.1)) ∙ sym y.1)
  | inr past ↦
      let beyond : length W ≤ p = let a = w.each in let b = v.each in omega arith in
      slice_get_past R p past ∙ sym (slice_get_past W p beyond)
]

pub one_walk : (g : Graph) (S T : List Step) (R W : List (Option Reach)) → IsWalk g S R → IsWalk g T W → (S ≡ T) × (R ≡ W)
one_walk g S T R W w v =
    let e = one_list g S T R W w v in
    let u : IsWalk g S W = subst (λ (x : List Step). IsWalk g x W) (sym e) v in
    (e, same_lists R W (λ p. same_ways_at g S R W w u p))
