-- Each round of a search gets more steps right, until they stay the same.
use Rattle.std.proofs.Common.{◌≡◌, ◌≢◌, Bool, true, false, ℕ, zero, suc, ◌+◌, ◌-◌, ◌<◌, ◌≤◌, List, [], ◌∷◌, length, Option, Some, None, refl, sym, ap, subst, ◌∙◌, arith, inl, inr}
use Rattle.std.specs.Prelude.{◌⊎◌, ◌&&◌, ◌==◌, slice_get, Contains, option_and_then, option_map, is_some}
use Rattle.std.specs.Bool.{Decides}
use Rattle.std.specs.Cmp.{booleans_Decides}
use Rattle.std.proofs.Math.Bool.{beq}
use Rattle.std.specs.Cmp.Lexicographic.{pointwise}
use Rattle.std.proofs.lemmas.Bool.{and_from, and_parts, cases_eq, cases_lt, eq-eqb, eqb-true}
use Rattle.std.proofs.lemmas.Slice.Eq.{slice_eq-Decides}
use Rattle.std.proofs.lemmas.Option.{none-some, same_Some, slice_get_within}
use Rattle.dia_breaking_ways.specs.declared.graph.Step.{Step}
use Rattle.dia_breaking_ways.specs.declared.graph.Reach.{Reach}
use Rattle.dia_breaking_ways.specs.Walks.{Graph, PlainLevel, Stage, AreLevelsShorter, HasExits, IsBefore, IsReached, IsNoLater, IsShortest, IsStep, stage_at, stage_by, stage_of, level_of}
use Rattle.dia_breaking_ways.specs.Reached.{AreShortest}
use Rattle.dia_breaking_ways.specs.Rounds.{AreStepsBy, AreWithin, IsRound}
use Rattle.dia_breaking_ways.specs.Stages.{HaveLevels}
use Rattle.dia_breaking_ways.specs.Steps.{AreOuterFirst}
use Rattle.dia_breaking_ways.proofs.OneWalk.{at_contains, same_lists, same_reach, same_at, not_before_itself}
use Rattle.dia_breaking_ways.proofs.AllReached.{get_some}

-- ---- levels

-- a level that there is, by its parts
record IsStageOf (g : Graph) (step : Step) (stage : Stage) : Type 0 where
  level : PlainLevel
  is_level : level_of g step.place ≡ Some level
  is_way : stage.way ≡ step.way
  is_exits : stage.exits ≡ level.exits

stage_parts : (g : Graph) (step : Step) (stage : Stage) (o : Option PlainLevel) → level_of g step.place ≡ o → stage_of g step ≡ Some stage → IsStageOf g step stage
stage_parts g step stage None none e = absurd (none-some stage (sym (ap (option_map (stage_by step)) none) ∙ e))
stage_parts g step stage (Some level) is e =
    let made = stage_by step level in
    let same : made ≡ stage = same_Some made stage (sym (ap (option_map (stage_by step)) is) ∙ e) in
    record {
      level = level;
      is_level = is;
      is_way = ap (λ (s : Stage). s.way) (sym same);
      is_exits = ap (λ (s : Stage). s.exits) (sym same);
    }

-- the step of a level with a number above 0
record IsLevelOf (g : Graph) (steps : List Step) (i : ℕ) (stage : Stage) : Type 0 where
  step : Step
  is_at : slice_get steps i ≡ Some step
  is_stage : stage_of g step ≡ Some stage

level_at : (g : Graph) (steps : List Step) (i : ℕ) (stage : Stage) (o : Option Step) → slice_get steps i ≡ o → option_and_then (stage_of g) o ≡ Some stage
    → IsLevelOf g steps i stage
level_at g steps i stage None at e = absurd (none-some stage e)
level_at g steps i stage (Some step) at e = record { step = step; is_at = at; is_stage = e }

level_of_number : (g : Graph) (steps : List Step) (i : ℕ) (stage : Stage) → stage_at g steps (suc i) ≡ Some stage → IsLevelOf g steps i stage
level_of_number g steps i stage e = level_at g steps i stage (slice_get steps i) refl e

way_of_number : (g : Graph) (steps : List Step) (i : ℕ) (stage : Stage) (l : IsLevelOf g steps i stage) → stage.way ≡ l.step.way
way_of_number g steps i stage l = (stage_parts g l.step stage (level_of g l.step.place) refl l.is_stage).is_way

exits_of : (g : Graph) (steps : List Step) (number : ℕ) (stage : Stage) → stage_at g steps number ≡ Some stage → HasExits g stage.exits
exits_of g steps zero stage e =
    let start : Stage = record { way = 0; wild = false; exits = g.start } in
    inl (ap (λ (s : Stage). s.exits) (sym (same_Some start stage e)))
exits_of g steps (suc i) stage e =
    let l = level_of_number g steps i stage e in
    let p = stage_parts g l.step stage (level_of g l.step.place) refl l.is_stage in
    inr (l.step.place, p.level, p.is_level, p.is_exits)

-- ---- steps that agree

-- the steps by ways below this are at the same places in both lists
abbrev pub Agree : ℕ → List Step → List Step → Type 0
Agree m S T = (i : ℕ) (s : Step) → s.way < m → (slice_get S i ≡ Some s → slice_get T i ≡ Some s) × (slice_get T i ≡ Some s → slice_get S i ≡ Some s)

turned : (m : ℕ) (S T : List Step) → Agree m S T → Agree m T S
turned m S T agree i s below = ((agree i s below).1, (agree i s below).0)

module _ (g : Graph) (S T : List Step) (m : ℕ) where
  stage_same : Agree m S T → (number : ℕ) (stage : Stage) → stage_at g S number ≡ Some stage → stage.way < m → stage_at g T number ≡ Some stage
  stage_same agree zero stage e below = e
  stage_same agree (suc i) stage e below =
      let l = level_of_number g S i stage e in
      let w = way_of_number g S i stage l in
      let there = (agree i l.step (omega (arith, w, below))).0 l.is_at in
      ap (option_and_then (stage_of g)) there ∙ l.is_stage

module _ (g : Graph) (shorter : AreLevelsShorter g) where
  -- what is around a level is longer than what is around the level that holds it
  outer_less : (S : List Step) (p number total : ℕ) (wild : Bool) (level : PlainLevel) → level_of g p ≡ Some level → (r : IsReached g S p number total wild) → r.stage.way < total - level.least
  outer_less S p number total wild level is r =
      let less = shorter r.stage.exits p r.inner level (exits_of g S number r.stage r.is_stage) r.leads is in
      omega (arith, less, r.is_total)

  reached_same : (S T : List Step) (m p number total : ℕ) (wild : Bool) (level : PlainLevel) → Agree m S T → level_of g p ≡ Some level → total - level.least ≤ m → IsReached g S p number total wild
      → IsReached g T p number total wild
  reached_same S T m p number total wild level agree is short r = record {
    stage = r.stage;
    inner = r.inner;
    is_stage = stage_same g S T m agree number r.stage r.is_stage (let less = outer_less S p number total wild level is r in omega (arith, less, short));
    leads = r.leads;
    is_total = r.is_total;
    is_wild = r.is_wild;
    has_room = r.has_room;
  }

  -- ---- a round

  module _ (S T : List Step) (R W : List (Option Reach)) (m : ℕ) (agree : Agree m S T) (first : AreShortest g S R) (second : AreShortest g T W) where
    -- the shortest way to a level is the same in both, where it is short
    way_same : (p : ℕ) (level : PlainLevel) (x : Reach) → level_of g p ≡ Some level → slice_get R p ≡ Some (Some x) → x.length - level.least ≤ m → slice_get W p ≡ Some (Some x)
    way_same p level x is at short = by there.0 there.1 (second.shortest p there.0 there.1)
      where
        here : IsShortest g S p (Some x)
        here = first.shortest p (Some x) at

        there : (o : Option Reach) × (slice_get W p ≡ Some o)
        there = get_some W p (let inside = slice_get_within R p (Some x) at in omega (arith, inside, first.each, second.each))

        reached : IsReached g T p x.level x.length x.wild
        reached = reached_same S T m p x.level x.length x.wild level agree is short here.0

        no_longer : (y : Reach) → IsNoLater y x.level x.length x.wild → y.length ≤ x.length
        no_longer y (inl h) = omega (arith, h)
        no_longer y (inr h) = omega (arith, h.0)

        by : (o : Option Reach) → slice_get W p ≡ Some o → IsShortest g T p o → slice_get W p ≡ Some (Some x)
        by None e none = absurd (none x.level x.length x.wild reached)
        by (Some y) e (own, least) =
            let nearer = least x.level x.length x.wild reached in
            let le = no_longer y nearer in
            let back = reached_same T S m p y.level y.length y.wild level (turned m S T agree) is (omega (arith, le, short)) own in
            let same = same_reach x y (here.1 y.level y.length y.wild back) nearer in
            e ∙ ap (λ (r : Reach). Some (Some r)) (sym same)

    step_same : (P Q : List Step) → AreStepsBy g R P → AreStepsBy g W Q → (i : ℕ) (s : Step) → slice_get P i ≡ Some s → s.way < m + 1 → (j : ℕ) × (slice_get Q j ≡ Some s)
    step_same P Q by_r by_w i s at below =
        let own = by_r.each i s at in
        let way : s.way ≡ own.reach.length - own.level.least = ap (λ (t : Step). t.way) own.is_step in
        let known = way_same s.place own.level own.reach own.is_level own.is_reach (omega (arith, way, below)) in
        let inside = by_w.all s.place own.level own.reach own.is_level known in
        at_contains Q s (subst (λ (t : Step). Contains Q t) (sym own.is_step) inside)

-- ---- lists in order

abbrev AreOrdered : List Step → Type 0
AreOrdered steps = (i j : ℕ) (s t : Step) → i < j → slice_get steps i ≡ Some s → slice_get steps j ≡ Some t → IsBefore s t

-- the steps by ways below this are in the second list too
abbrev AreIn : ℕ → List Step → List Step → Type 0
AreIn n S T = (i : ℕ) (s : Step) → slice_get S i ≡ Some s → s.way < n → (j : ℕ) × (slice_get T j ≡ Some s)

way_up : (s t : Step) → IsBefore s t → s.way ≤ t.way
way_up s t (inl h) = omega (arith, h)
way_up s t (inr h) = omega (arith, h.0)

not_both : (s t : Step) → IsBefore s t → IsBefore t s → ⊥
not_both s t (inl h) (inl k) = omega (arith, h, k)
not_both s t (inl h) (inr k) = omega (arith, h, k.0)
not_both s t (inr h) (inl k) = omega (arith, h.0, k)
not_both s t (inr h) (inr k) = omega (arith, h.1, k.1)

following : (x : Step) (xs : List Step) → AreOrdered (x ∷ xs) → AreOrdered xs
following x xs up i j s t less at_i at_j = up (suc i) (suc j) s t (omega (arith, less)) at_i at_j

-- the first of one list is the first of the other
first_same : (n : ℕ) (x y : Step) (xs ys : List Step) → AreOrdered (x ∷ xs) → AreOrdered (y ∷ ys) → AreIn n (x ∷ xs) (y ∷ ys) → AreIn n (y ∷ ys) (x ∷ xs) → x.way < n → x ≡ y
first_same n x y xs ys up down into back below = by (into zero x refl below)
  where
    by_back : (j : ℕ) → slice_get (y ∷ ys) (suc j) ≡ Some x → (k : ℕ) × (slice_get (x ∷ xs) k ≡ Some y) → x ≡ y
    by_back j at (zero, e) = same_Some x y e
    by_back j at (suc k, e) = absurd (not_both y x (down zero (suc j) y x (omega arith) refl at) (up zero (suc k) x y (omega arith) refl e))

    by : (j : ℕ) × (slice_get (y ∷ ys) j ≡ Some x) → x ≡ y
    by (zero, e) = sym (same_Some y x e)
    by (suc j, e) = by_back j e (back zero y refl (let le = way_up y x (down zero (suc j) y x (omega arith) refl e) in omega (arith, le, below)))

-- without the first the rest is in the rest
rest_in : (n : ℕ) (x y : Step) (xs ys : List Step) → x ≡ y → AreOrdered (x ∷ xs) → AreIn n (x ∷ xs) (y ∷ ys) → AreIn n xs ys
rest_in n x y xs ys same up into i s at below = by (into (suc i) s at below)
  where
    by : (j : ℕ) × (slice_get (y ∷ ys) j ≡ Some s) → (j : ℕ) × (slice_get ys j ≡ Some s)
    by (zero, e) = absurd (not_before_itself x s (same ∙ same_Some y s e) (up zero (suc i) x s (omega arith) refl at))
    by (suc j, e) = (j, e)

pub same_places : (n : ℕ) (S T : List Step) → AreOrdered S → AreOrdered T → AreIn n S T → AreIn n T S → (i : ℕ) (s : Step) → slice_get S i ≡ Some s → s.way < n → slice_get T i ≡ Some s
same_places n [] T up down into back i s at below = absurd (none-some s at)
same_places n (x ∷ xs) [] up down into back i s at below = absurd (let p = into i s at below in none-some s p.1)
same_places n (x ∷ xs) (y ∷ ys) up down into back zero s at below =
    let here : x ≡ s = same_Some x s at in
    let same = first_same n x y xs ys up down into back (subst (λ (t : Step). t.way < n) (sym here) below) in
    ap (λ (t : Step). Some t) (sym same ∙ here)
same_places n (x ∷ xs) (y ∷ ys) up down into back (suc i) s at below =
    let le = way_up x s (up zero (suc i) x s (omega arith) refl at) in
    let same = first_same n x y xs ys up down into back (omega (arith, le, below)) in
    same_places n xs ys (following x xs up) (following y ys down) (rest_in n x y xs ys same up into) (rest_in n y x ys xs (sym same) down back) i s at below

-- ---- rounds

module _ (g : Graph) (shorter : AreLevelsShorter g) where
  -- after a round, the steps by ways that are one byte longer agree
  pub agree_more : (S T P Q : List Step) (R W : List (Option Reach)) (m : ℕ) → Agree m S T → IsRound g S R P → IsRound g T W Q → Agree (m + 1) P Q
  agree_more S T P Q R W m agree one other i s below = (
    (λ at. same_places (m + 1) P Q one.steps_by.ordered other.steps_by.ordered into back i s at below),
    (λ at. same_places (m + 1) Q P other.steps_by.ordered one.steps_by.ordered back into i s at below),
  )
    where
      into : AreIn (m + 1) P Q
      into = step_same g shorter S T R W m agree one.shortest other.shortest P Q one.steps_by other.steps_by

      back : AreIn (m + 1) Q P
      back = step_same g shorter T S W R m (turned m S T agree) other.shortest one.shortest Q P other.steps_by one.steps_by

  pub round_within : (S P : List Step) (R : List (Option Reach)) → IsRound g S R P → AreWithin g P
  round_within S P R round i step at =
      let own = round.steps_by.each i step at in
      let way : step.way ≡ own.reach.length - own.level.least = ap (λ (t : Step). t.way) own.is_step in
      let reached = (round.shortest.shortest step.place (Some own.reach) own.is_reach).0 in
      let less = outer_less g shorter S step.place own.reach.level own.reach.length own.reach.wild own.level own.is_level reached in
      (omega (arith, way, less), omega (arith, way, reached.has_room))

  -- steps that stay the same lie in earlier ones
  pub outer_first : (S : List Step) (R : List (Option Reach)) → IsRound g S R S → AreOuterFirst S (length S)
  outer_first S R round i step inside at = by own.reach.level refl
    where
      own : IsStep g R step
      own = round.steps_by.each i step at

      way : step.way ≡ own.reach.length - own.level.least
      way = ap (λ (t : Step). t.way) own.is_step

      outer : step.outer ≡ own.reach.level
      outer = ap (λ (t : Step). t.outer) own.is_step

      reached : IsReached g S step.place own.reach.level own.reach.length own.reach.wild
      reached = (round.shortest.shortest step.place (Some own.reach) own.is_reach).0

      less : reached.stage.way < step.way
      less = let l = outer_less g shorter S step.place own.reach.level own.reach.length own.reach.wild own.level own.is_level reached in omega (arith, l, way)

      earlier : (k : ℕ) (s : Step) → slice_get S k ≡ Some s → s.way < step.way → (k < i) ⊎ (i ≤ k) → k < i
      earlier k s is below (inl h) = h
      earlier k s is below (inr h) = by_eq (cases_eq k i)
        where
          by_eq : (k ≡ i) ⊎ (k ≢ i) → k < i
          by_eq (inl e) = absurd (let same : s ≡ step = same_Some s step (sym is ∙ (ap (slice_get S) e ∙ at)) in let w = ap (λ (t : Step). t.way) same in omega (arith, w, below))
          by_eq (inr other) = absurd (let le = way_up step s (round.steps_by.ordered i k step s (omega (arith, h, other)) at is) in omega (arith, le, below))

      by : (number : ℕ) → own.reach.level ≡ number → step.outer ≤ i
      by zero e = omega (arith, outer, e)
      by (suc k) e =
          let l = level_of_number g S k reached.stage (sym (ap (stage_at g S) e) ∙ reached.is_stage) in
          let w = way_of_number g S k reached.stage l in
          let before = earlier k l.step l.is_at (omega (arith, w, less)) (cases_lt k i) in
          omega (arith, outer, e, before)

  -- steps within the room that agree up to it are the same
  pub all_same : (S T : List Step) → AreWithin g S → AreWithin g T → Agree (g.room + 1) S T → S ≡ T
  all_same S T first second agree =
      same_lists S T (λ i. same_at S T i (λ s e. (agree i s (let b = (first i s e).1 in omega (arith, b))).0 e) (λ s e. (agree i s (let b = (second i s e).1 in omega (arith, b))).1 e) (slice_get S i) refl)

  -- ---- a search, round by round

  -- after n rounds, the next steps agree with these, as far as their ways are short; and there is a round that changes them
  pub record IsOnTheWay (n : ℕ) (steps : List Step) : Type 0 where
    pub within : AreWithin g steps
    pub agree : (R : List (Option Reach)) (next : List Step) → IsRound g steps R next → Agree (n + 1) steps next
    pub not_over : n ≤ g.room

  pub begins : (steps : List Step) → AreWithin g steps → IsOnTheWay 0 steps
  begins steps within = record {
    within = within;
    agree = λ R next round i s below. (
      (λ at. absurd (let w = (within i s at).0 in omega (arith, w, below))),
      (λ at. absurd (let w = (round_within steps next R round i s at).0 in omega (arith, w, below))),
    );
    not_over = omega arith;
  }

  pub goes_on : (n : ℕ) (steps next : List Step) (R : List (Option Reach)) → IsOnTheWay n steps → IsRound g steps R next → next ≢ steps → IsOnTheWay (n + 1) next
  goes_on n steps next R way round other = record {
    within = round_within steps next R round;
    agree = λ W more then. agree_more steps next next more R W (n + 1) (way.agree R next round) round then;
    not_over = by (cases_lt n g.room);
  }
    where
      by : (n < g.room) ⊎ (g.room ≤ n) → n + 1 ≤ g.room
      by (inl h) = omega (arith, h)
      by (inr h) =
          let e : n ≡ g.room = let a = way.not_over in omega (arith, a, h) in
          absurd (other (sym (all_same steps next way.within (round_within steps next R round) (subst (λ (k : ℕ). Agree (k + 1) steps next) e (way.agree R next round)))))

pub round_levels : (g : Graph) (steps next : List Step) (reached : List (Option Reach)) → IsRound g steps reached next → HaveLevels g next
round_levels g steps next reached round i step at = let own = round.steps_by.each i step at in ap (λ (o : Option PlainLevel). is_some o) own.is_level

-- ---- the same steps

abbrev step_eq : Step → Step → Bool
step_eq s t = (s.place == t.place) && ((s.way == t.way) && (beq s.wild t.wild && (s.outer == t.outer)))

step_decides : (s t : Step) → Decides (step_eq s t) (s ≡ t)
step_decides s t = (
  (λ e.
      let first = and_parts (s.place == t.place) ((s.way == t.way) && (beq s.wild t.wild && (s.outer == t.outer))) e in
      let second = and_parts (s.way == t.way) (beq s.wild t.wild && (s.outer == t.outer)) first.1 in
      let third = and_parts (beq s.wild t.wild) (s.outer == t.outer) second.1 in
      let place : s.place ≡ t.place = eqb-true s.place t.place first.0 in
      let way : s.way ≡ t.way = eqb-true s.way t.way second.0 in
      let wild : s.wild ≡ t.wild = (booleans_Decides s.wild t.wild).0 third.0 in
      let outer : s.outer ≡ t.outer = eqb-true s.outer t.outer third.1 in
      λ i. record { place = place i; way = way i; wild = wild i; outer = outer i }),
  (λ e.
      subst (λ (x : Step). step_eq s x ≡ true) e
      (and_from (s.place == s.place) ((s.way == s.way) && (beq s.wild s.wild && (s.outer == s.outer))) (eq-eqb s.place s.place refl)
      (and_from (s.way == s.way) (beq s.wild s.wild && (s.outer == s.outer)) (eq-eqb s.way s.way refl)
      (and_from (beq s.wild s.wild) (s.outer == s.outer) ((booleans_Decides s.wild s.wild).1 refl) (eq-eqb s.outer s.outer refl))))),
)

pub steps_decide : (xs ys : List Step) (r : Bool) → r ≡ pointwise step_eq xs ys → Decides r (xs ≡ ys)
steps_decide xs ys r e = slice_eq-Decides step_decides xs ys r e
