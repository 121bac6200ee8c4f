-- The steps of a walk through a dictionary's definitions.
use Rattle.std.proofs.Common.{◌≡◌, ℕ, zero, suc, ◌+◌, ◌-◌, ◌<◌, ◌≤◌, Bool, true, false, List, ◌∷◌, length, map, get_or, Option, Some, None, refl, sym, ap, subst, ◌∙◌, arith, inl, inr, lit≤}
use Rattle.std.specs.Prelude.{◌⊎◌, ◌||◌, slice_get, Contains, option_and_then}
use Rattle.std.specs.Option.{option_map}
use Rattle.std.proofs.lemmas.Bool.{cases_lt}
use Rattle.std.proofs.lemmas.List.{length-map}
use Rattle.std.proofs.lemmas.Option.{none-some, same_Some, slice_get-get_or, slice_get_within}
use Rattle.dia_book.specs.Dictionary.{Dictionary, PlainDefinition, definitions, groups}
use Rattle.dia_book.specs.Limits.{max_parts}
use Rattle.dia_book.proofs.Members.{at_Contains, at_map}
use Rattle.dia_valid.proofs.Members.{there_is}
use Rattle.dia_breaking_ways.specs.declared.graph.Step.{Step}
use Rattle.dia_breaking_ways.specs.declared.graph.Reach.{Reach}
use Rattle.dia_breaking_ways.specs.Walks.{IsBefore, IsNoLater, IsReached, IsStep, IsWalk, Leads, PlainExits, PlainLevel, Stage, level_of, stage_by, stage_of, step_to}
use Rattle.dia_breaking_ways.specs.Walks.Leads.{By_rule}
use Rattle.dia_places.specs.Paths.{IsCommand, LeadsTo, rules_at}
use Rattle.dia_places.specs.Graph.{commands_from, exits_to, graph_in, level_by, listed_by, node_by}
use Rattle.dia_places.proofs.Few.{few}
use Rattle.dia_places.proofs.Graphs.{command_here, command_there, leads_listed, leads_plain, level_here, level_there, listed_here, listed_there, rules_here}

-- how a step comes from the start, or from a step before it
pub data ComesFrom (d : Dictionary) (S : List Step) (i : ℕ) (s : Step) : Type 0 where
  By_command : (outer : s.outer ≡ 0) (command : IsCommand d s.place) (way : s.way ≡ 1) → ComesFrom d S i s
  By_group : (k : ℕ) (t : Step) (outer : s.outer ≡ suc k) (before : k < i) (at : slice_get S k ≡ Some t) (leads : LeadsTo d t.place s.place) (way : s.way ≡ t.way + 1) → ComesFrom d S i s

-- no other way to its place is shorter, or as short and from an earlier step
abbrev pub IsLeast : Dictionary → List Step → Step → Type 0
IsLeast d S s = (number total : ℕ) (wild : Bool) → IsReached (graph_in d) S s.place number total wild → (s.way < total) ⊎ ((s.way ≡ total) × (s.outer ≤ number))

stage_from : (t : Step) (stage : Stage) (o : Option PlainLevel) → option_map (stage_by t) o ≡ Some stage
    → (level : PlainLevel) × (o ≡ Some level) × (stage.way ≡ t.way) × (stage.exits ≡ level.exits) × (stage.wild ≡ t.wild)
stage_from t stage None e = absurd (none-some stage e)
stage_from t stage (Some level) e =
    let same : stage_by t level ≡ stage = same_Some (stage_by t level) stage e in
    (level, refl, sym (ap (λ (x : Stage). x.way) same), sym (ap (λ (x : Stage). x.exits) same), sym (ap (λ (x : Stage). x.wild) same))

stage_of_step : (d : Dictionary) (S : List Step) (k : ℕ) (stage : Stage) (o : Option Step) → slice_get S k ≡ o
    → option_and_then (stage_of (graph_in d)) o ≡ Some stage
    → (t : Step) × (slice_get S k ≡ Some t) × (stage.way ≡ t.way) × (stage.exits ≡ exits_to (listed_by d (rules_at d t.place))) × (stage.wild ≡ t.wild)
stage_of_step d S k stage None at e = absurd (none-some stage e)
stage_of_step d S k stage (Some t) at e =
    let from = stage_from t stage (level_of (graph_in d) t.place) e in
    let there = level_there d t.place from.0 from.1 in
    (t, at, from.2, from.3 ∙ ap (λ (l : PlainLevel). l.exits) there.2 ∙ ap (λ rules. exits_to (listed_by d rules)) (sym (rules_here d t.place there.0 there.1)), from.4)

-- what is reached from the start is a command
from_start : (d : Dictionary) (S : List Step) (place total : ℕ) (wild : Bool) → IsReached (graph_in d) S place 0 total wild → IsCommand d place × (total ≡ 1) × (wild ≡ false)
from_start d S place total wild r =
    let same : record { way = 0; wild = false; exits = (graph_in d).start } ≡ r.stage = same_Some (record { way = 0; wild = false; exits = (graph_in d).start }) r.stage r.is_stage in
    let way : r.stage.way ≡ 0 = sym (ap (λ (x : Stage). x.way) same) in
    let exits = sym (ap (λ (x : Stage). x.exits) same) in
    let leads = subst (λ (e : PlainExits). Leads (graph_in d).nodes e place r.inner) exits r.leads in
    let room : r.stage.way + r.inner ≤ max_parts = let a = r.is_total in let b : total ≤ max_parts = r.has_room in omega arith in
    let listed = leads_listed d (commands_from (length (groups d)) (length d.commands)) place r.inner r.stage.way leads room in
    let there = command_there (length (groups d)) (length d.commands) place r.inner listed in
    let plain = leads_plain d r.stage.exits (commands_from (length (groups d)) (length d.commands)) place r.inner r.stage.way exits r.leads room in (
      (there.0, there.1, there.2),
      (let a = r.is_total in let b : r.inner ≡ 1 = there.3 in omega arith),
      r.is_wild ∙ (ap (λ (b : Bool). b || r.stage.wild) plain ∙ sym (ap (λ (x : Stage). x.wild) same)),
    )

-- what is reached from a step is a group that a rule of its definition allows
from_step : (d : Dictionary) (S : List Step) (place k total : ℕ) (wild : Bool) → IsReached (graph_in d) S place (suc k) total wild
    → (t : Step) × (slice_get S k ≡ Some t) × LeadsTo d t.place place × (total ≡ t.way + 1) × (wild ≡ t.wild)
from_step d S place k total wild r =
    let from = stage_of_step d S k r.stage (slice_get S k) refl r.is_stage in
    let leads = subst (λ (e : PlainExits). Leads (graph_in d).nodes e place r.inner) from.3 r.leads in
    let room : r.stage.way + r.inner ≤ max_parts = let a = r.is_total in let b : total ≤ max_parts = r.has_room in omega arith in
    let listed = leads_listed d (listed_by d (rules_at d from.0.place)) place r.inner r.stage.way leads room in
    let there = listed_there d (rules_at d from.0.place) place r.inner listed in
    let plain = leads_plain d r.stage.exits (listed_by d (rules_at d from.0.place)) place r.inner r.stage.way from.3 r.leads room in (
      from.0,
      from.1,
      (there.0, there.1, there.2),
      (let a = r.is_total in let b : r.inner ≡ 1 = there.3 in let c : r.stage.way ≡ from.0.way = from.2 in omega arith),
      r.is_wild ∙ (ap (λ (b : Bool). b || r.stage.wild) plain ∙ from.4),
    )

-- a command is reached from the start
pub command_reached : (d : Dictionary) (S : List Step) (n : ℕ) → IsCommand d n → IsReached (graph_in d) S n 0 1 false
command_reached d S n c = record {
  stage = record { way = 0; wild = false; exits = (graph_in d).start };
  inner = 1;
  is_stage = refl;
  leads = By_rule (subst (λ (k : ℕ). Contains (commands_from (length (groups d)) (length d.commands)) (k, 1)) (sym c.2) (command_here (length (groups d)) (length d.commands) c.0 c.1));
  is_total = refl;
  is_wild = refl;
  has_room = lit≤ tt;
}

-- a group is reached from a step whose rules allow it
pub group_reached : (d : Dictionary) (S : List Step) (k n : ℕ) (t : Step) (def : PlainDefinition) → slice_get S k ≡ Some t → slice_get (definitions d) t.place ≡ Some def → LeadsTo d t.place n
    → t.way + 1 ≤ max_parts
    → IsReached (graph_in d) S n (suc k) (t.way + 1) t.wild
group_reached d S k n t def at here leads room = record {
  stage = record { way = t.way; wild = t.wild; exits = exits_to (listed_by d def.rules) };
  inner = 1;
  is_stage = ap (option_and_then (stage_of (graph_in d))) at
      ∙ ap (option_map (stage_by t)) (level_here d t.place def here);
  leads = By_rule (subst (λ rules. Contains (listed_by d rules) (n, 1)) (rules_here d t.place def here) (listed_here d (rules_at d t.place) leads.0 n leads.1 leads.2));
  is_total = refl;
  is_wild = refl;
  has_room = room;
}

module _ (d : Dictionary) (S : List Step) (R : List (Option Reach)) (w : IsWalk (graph_in d) S R) where
  -- ---- one step

  least_zero : (s : Step) (at : IsStep (graph_in d) R s) → (s.way ≡ at.reach.length) × (s.outer ≡ at.reach.level) × (s.wild ≡ at.reach.wild)
  least_zero s at =
      let there = level_there d s.place at.level at.is_level in
      let least : at.level.least ≡ 0 = ap (λ (l : PlainLevel). l.least) there.2 in
      let way : s.way ≡ at.reach.length - at.level.least = ap (λ (x : Step). x.way) at.is_step in
      (omega arith, ap (λ (x : Step). x.outer) at.is_step, ap (λ (x : Step). x.wild) at.is_step)

  pub is_within : (i : ℕ) (s : Step) → slice_get S i ≡ Some s → (def : PlainDefinition) × (slice_get (definitions d) s.place ≡ Some def)
  is_within i s at = let is = w.to_reached i s at in let there = level_there d s.place is.level is.is_level in (there.0, there.1)

  pub is_reached : (i : ℕ) (s : Step) → slice_get S i ≡ Some s → IsReached (graph_in d) S s.place s.outer s.way s.wild
  is_reached i s at =
      let is = w.to_reached i s at in
      let same = least_zero s is in
      let r = (w.shortest s.place (Some is.reach) is.is_reach).0 in
      subst (λ (b : Bool). IsReached (graph_in d) S s.place s.outer s.way b) (sym same.2)
      (subst (λ (k : ℕ). IsReached (graph_in d) S s.place k s.way is.reach.wild) (sym same.1) (subst (λ (k : ℕ). IsReached (graph_in d) S s.place is.reach.level k is.reach.wild) (sym same.0) r))

  -- nothing comes through a wildcard, where the steps before it don't
  plain_by : (n : ℕ) → ((k : ℕ) (t : Step) → k < n → slice_get S k ≡ Some t → t.wild ≡ false) → (place number total : ℕ) (wild : Bool) → number ≤ n
      → IsReached (graph_in d) S place number total wild → wild ≡ false
  plain_by n earlier place zero total wild le r = (from_start d S place total wild r).2
  plain_by n earlier place (suc k) total wild le r = let from = from_step d S place k total wild r in from.4 ∙ earlier k from.0 (omega (arith, le)) from.1

  plain_step : (n k : ℕ) (t : Step) → k < n → slice_get S k ≡ Some t → t.wild ≡ false
  plain_step zero k t lt at = absurd (omega (arith, lt))
  plain_step (suc n) k t lt at = plain_by k (λ j u less here. plain_step n j u (omega (arith, less, lt)) here) t.place t.outer t.way t.wild (w.outer_first k t at) (is_reached k t at)

  plain : (place number total : ℕ) (wild : Bool) → IsReached (graph_in d) S place number total wild → wild ≡ false
  plain place number total wild r = plain_by number (plain_step number) place number total wild (omega arith) r

  pub is_least : (i : ℕ) (s : Step) → slice_get S i ≡ Some s → IsLeast d S s
  is_least i s at number total wild r =
      let is = w.to_reached i s at in
      let same = least_zero s is in
      by same.0 same.1 (plain s.place number total wild r) ((w.shortest s.place (Some is.reach) is.is_reach).1 number total wild r)
    where
      by : {reach : Reach} → s.way ≡ reach.length → s.outer ≡ reach.level → wild ≡ false → IsNoLater reach number total wild → (s.way < total) ⊎ ((s.way ≡ total) × (s.outer ≤ number))
      by way outer none (inl lt) = inl (omega arith)
      by way outer none (inr (same, inl (rules, wildcard))) = absurd (let bad : false ≡ true = sym none ∙ wildcard in cc)
      by way outer none (inr (same, inr (alike, le))) = inr (omega arith, omega arith)

  comes_by : (i : ℕ) (s : Step) (outer : ℕ) → s.outer ≡ outer → outer ≤ i → IsReached (graph_in d) S s.place outer s.way s.wild → ComesFrom d S i s
  comes_by i s zero is le r = let from = from_start d S s.place s.way s.wild r in By_command is from.0 from.1
  comes_by i s (suc k) is le r = let from = from_step d S s.place k s.way s.wild r in By_group k from.0 is (omega arith) from.1 from.2 from.3

  pub comes_from : (i : ℕ) (s : Step) → slice_get S i ≡ Some s → ComesFrom d S i s
  comes_from i s at = comes_by i s s.outer refl (w.outer_first i s at) (is_reached i s at)

  pub has_room : (i : ℕ) (s : Step) → slice_get S i ≡ Some s → s.way ≤ max_parts
  has_room i s at = let r : s.way ≤ (graph_in d).room = (is_reached i s at).has_room in r

  -- ---- all steps

  one_place : (i j p : ℕ) → slice_get (map (λ (s : Step). s.place) S) i ≡ Some p → slice_get (map (λ (s : Step). s.place) S) j ≡ Some p → i ≡ j
  one_place i j p a b =
      let x = at_map (λ (s : Step). s.place) S i p a in
      let y = at_map (λ (s : Step). s.place) S j p b in
      by x.0 y.0 x.1 y.1 (x.2 ∙ sym y.2) (cases_lt i j) (cases_lt j i)
    where
      not_before : (m n : ℕ) (s t : Step) → slice_get S m ≡ Some s → slice_get S n ≡ Some t → s.place ≡ t.place → m < n → ⊥
      not_before m n s t at to same lt = again (is_least m s at t.outer t.way t.wild (subst (λ (q : ℕ). IsReached (graph_in d) S q t.outer t.way t.wild) (sym same) (is_reached n t to)))
          (is_least n t to s.outer s.way s.wild (subst (λ (q : ℕ). IsReached (graph_in d) S q s.outer s.way s.wild) same (is_reached m s at))) (w.ordered m n s t lt at to)
        where
          again : (s.way < t.way) ⊎ ((s.way ≡ t.way) × (s.outer ≤ t.outer)) → (t.way < s.way) ⊎ ((t.way ≡ s.way) × (t.outer ≤ s.outer)) → IsBefore s t → ⊥
          again u v (inr (even, less)) = omega arith
          again u (inl more) (inl less) = omega arith
          again u (inr (even, le)) (inl less) = omega arith

      by : (s t : Step) → slice_get S i ≡ Some s → slice_get S j ≡ Some t → s.place ≡ t.place → (i < j) ⊎ (j ≤ i) → (j < i) ⊎ (i ≤ j) → i ≡ j
      by s t at to same (inl lt) v = absurd (not_before i j s t at to same lt)
      by s t at to same (inr le) (inl lt) = absurd (not_before j i t s to at (sym same) lt)
      by s t at to same (inr le) (inr ge) = omega arith

  -- a step's way is no longer than there are steps up to it
  way_bound : (n i : ℕ) (s : Step) → i < n → slice_get S i ≡ Some s → s.way ≤ i + 1
  way_bound zero i s lt at = absurd (omega arith)
  way_bound (suc n) i s lt at = by (λ k t less here. way_bound n k t less here) (comes_from i s at)
    where
      by : ((k : ℕ) (t : Step) → k < n → slice_get S k ≡ Some t → t.way ≤ k + 1) → ComesFrom d S i s → s.way ≤ i + 1
      by earlier (By_command outer command way) = omega arith
      by earlier (By_group k t outer before here leads way) = let le : t.way ≤ k + 1 = earlier k t (omega arith) here in omega arith

  -- no step goes to one of the definitions: there are fewer steps
  fewer : (n : ℕ) → n < length (definitions d) → ((i : ℕ) (s : Step) → slice_get S i ≡ Some s → s.place ≡ n → ⊥) → suc (length S) ≤ length (definitions d)
  fewer n within none =
      let le : length (n ∷ map (λ (s : Step). s.place) S) ≤ length (definitions d) = few (n ∷ map (λ (s : Step). s.place) S) (length (definitions d)) apart below in
      let same : length (map (λ (s : Step). s.place) S) ≡ length S = length-map S (λ (s : Step). s.place) in
      omega arith
    where
      apart : (i j p : ℕ) → slice_get (n ∷ map (λ (s : Step). s.place) S) i ≡ Some p → slice_get (n ∷ map (λ (s : Step). s.place) S) j ≡ Some p → i ≡ j
      apart zero zero p a b = refl
      apart zero (suc j) p a b = let y = at_map (λ (s : Step). s.place) S j p b in absurd (none j y.0 y.1 (y.2 ∙ sym (same_Some n p a)))
      apart (suc i) zero p a b = let x = at_map (λ (s : Step). s.place) S i p a in absurd (none i x.0 x.1 (x.2 ∙ sym (same_Some n p b)))
      apart (suc i) (suc j) p a b = ap suc (one_place i j p a b)

      below : (i p : ℕ) → slice_get (n ∷ map (λ (s : Step). s.place) S) i ≡ Some p → p < length (definitions d)
      below zero p a = subst (λ (q : ℕ). q < length (definitions d)) (same_Some n p a) within
      below (suc i) p a =
          let x = at_map (λ (s : Step). s.place) S i p a in
          let def = is_within i x.0 x.1 in
          subst (λ (q : ℕ). q < length (definitions d)) x.2 (slice_get_within (definitions d) x.0.place def.0 def.1)

  -- ---- where each definition's step is

  pub record HasStep (n : ℕ) : Type 0 where
    pub place : ℕ
    pub step : Step
    pub at : slice_get S place ≡ Some step
    pub is_to : step.place ≡ n

  -- its step, or nothing reaches it
  step_or_none : (n : ℕ) → n < length (definitions d) → HasStep n ⊎ ((number total : ℕ) (wild : Bool) → ¬ IsReached (graph_in d) S n number total wild)
  step_or_none n within = by (get_or R n None) (slice_get-get_or R n None inside)
    where
      inside : n < length R
      inside = let e = w.each in let same : length (map (node_by d) (definitions d)) ≡ length (definitions d) = length-map (definitions d) (node_by d) in omega arith

      by : (o : Option Reach) → slice_get R n ≡ Some o → HasStep n ⊎ ((number total : ℕ) (wild : Bool) → ¬ IsReached (graph_in d) S n number total wild)
      by None at = inr (w.shortest n None at)
      by (Some reach) at =
          let def = there_is (definitions d) n within in
          let found = at_Contains S (step_to n (level_by d def.0.rules) reach) (w.to_all n (level_by d def.0.rules) reach (level_here d n def.0 def.1) at) in
          inl (record { place = found.place; step = step_to n (level_by d def.0.rules) reach; at = found.at; is_to = refl })

  reached_step : (n number total : ℕ) (wild : Bool) → n < length (definitions d) → IsReached (graph_in d) S n number total wild → HasStep n
  reached_step n number total wild within r = by (step_or_none n within)
    where
      by : HasStep n ⊎ ((number total : ℕ) (wild : Bool) → ¬ IsReached (graph_in d) S n number total wild) → HasStep n
      by (inl has) = has
      by (inr none) = absurd (none number total wild r)

  pub command_step : (n : ℕ) → n < length (definitions d) → IsCommand d n → HasStep n
  command_step n within c = reached_step n 0 1 false within (command_reached d S n c)

  -- a group that the definition of a step allows has a step, no more than one longer
  pub group_step : length (definitions d) ≤ max_parts → (k n : ℕ) (t : Step) → n < length (definitions d) → slice_get S k ≡ Some t → LeadsTo d t.place n → HasStep n
  group_step small k n t within at leads = by (step_or_none n within)
    where
      by : HasStep n ⊎ ((number total : ℕ) (wild : Bool) → ¬ IsReached (graph_in d) S n number total wild) → HasStep n
      by (inl has) = has
      by (inr none) =
          let def = is_within k t at in
          let way : t.way ≤ k + 1 = way_bound (suc k) k t (omega arith) at in
          let inside : k < length S = slice_get_within S k t at in
          let short : suc (length S) ≤ length (definitions d) = fewer n within (λ i s here same. absurd (none s.outer s.way s.wild (subst (λ (q : ℕ). IsReached (graph_in d) S q s.outer s.way s.wild) same (is_reached i s here)))) in
          absurd (none (suc k) (t.way + 1) t.wild (group_reached d S k n t def.0 at def.1 leads (omega arith)))

  -- such a step is no longer
  pub group_way : (k n : ℕ) (t : Step) → slice_get S k ≡ Some t → LeadsTo d t.place n → (i : ℕ) (s : Step) → slice_get S i ≡ Some s → s.place ≡ n
      → (s.way < t.way + 1) ⊎ ((s.way ≡ t.way + 1) × (s.outer ≤ suc k))
  group_way k n t at leads i s here same = by (cases_lt max_parts (t.way + 1))
    where
      by : (max_parts < t.way + 1) ⊎ (t.way + 1 ≤ max_parts) → (s.way < t.way + 1) ⊎ ((s.way ≡ t.way + 1) × (s.outer ≤ suc k))
      by (inl over) = let room : s.way ≤ max_parts = has_room i s here in inl (omega arith)
      by (inr fits) =
          let def = is_within k t at in is_least i s here (suc k) (t.way + 1) t.wild (subst (λ (q : ℕ). IsReached (graph_in d) S q (suc k) (t.way + 1) t.wild) (sym same) (group_reached d S k n t def.0 at def.1 leads fits))

  pub command_way : (n : ℕ) → IsCommand d n → (i : ℕ) (s : Step) → slice_get S i ≡ Some s → s.place ≡ n → s.way ≤ 1
  command_way n c i s here same = by (is_least i s here 0 1 false (subst (λ (q : ℕ). IsReached (graph_in d) S q 0 1 false) (sym same) (command_reached d S n c)))
    where
      by : (s.way < 1) ⊎ ((s.way ≡ 1) × (s.outer ≤ 0)) → s.way ≤ 1
      by (inl lt) = omega arith
      by (inr (even, le)) = omega arith
