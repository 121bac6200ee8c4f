-- The ways by rules and through wildcards are all ways.
use Rattle.std.proofs.Common.{◌≡◌, ℕ, zero, suc, ◌+◌, ◌<◌, ◌≤◌, Bool, true, List, [], ◌∷◌, length, map, Option, Some, None, refl, sym, ap, subst, ◌∙◌, arith, inl, inr}
use Rattle.std.specs.Prelude.{◌⊎◌, ◌||◌, slice_get, Contains, option_map, option_and_then}
use Rattle.std.proofs.lemmas.Bool.{cases_lt}
use Rattle.std.proofs.lemmas.List.{length-map}
use Rattle.std.proofs.lemmas.Option.{none-some, same_Some, slice_get_within, slice_get-map, slice_get_past}
use Rattle.dia_breaking_ways.specs.declared.graph.Exits.{Exits}
use Rattle.dia_breaking_ways.specs.declared.graph.Node.{Node}
use Rattle.dia_breaking_ways.specs.declared.graph.Reach.{Reach}
use Rattle.dia_breaking_ways.specs.declared.graph.Step.{Step}
use Rattle.dia_breaking_ways.specs.declared.stages.Stage.{Stage as OwnStage}
use Rattle.dia_breaking_ways.specs.declared.openings.Opening.{Opening}
use Rattle.dia_breaking_ways.specs.Walks.{Graph, PlainNode, Stage, Leads, IsReached, IsNoLater, IsShortest, graph_of, is_by_wildcard, plain_node, plain_exits, stage_at, stage_of}
use Rattle.dia_breaking_ways.specs.Walks.Leads.{By_rule, By_wildcard}
use Rattle.dia_breaking_ways.specs.Offers.{HasOne}
use Rattle.dia_breaking_ways.specs.Stages.{AreStages}
use Rattle.dia_breaking_ways.specs.Openings.{AreOpenings, IsOpenTo, IsFirstOpen, IsOrdered, IsLess, opening_key, opening_of}
use Rattle.dia_breaking_ways.specs.Reached.{AreNone, IsRuled, AreListed, IsOther, IsTaken, AreOthers, AreShortest}
use Rattle.dia_breaking_ways.proofs.OneWalk.{at_contains}
use Rattle.dia_breaking_ways.proofs.ListedPlaces.{contains_at}
use Rattle.dia_breaking_ways.proofs.BestWays.{no_later-trans}

-- ---- lists

pub get_some : {X : Type 0} (xs : List X) (i : ℕ) → i < length xs → (x : X) × (slice_get xs i ≡ Some x)
get_some [] i below = absurd (omega arith)
get_some (y ∷ ys) zero below = (y, refl)
get_some (y ∷ ys) (suc i) below = get_some ys i (omega arith)

mapped_some : (o : Option Node) (x : PlainNode) → option_map plain_node o ≡ Some x → (node : Node) × (o ≡ Some node) × (plain_node node ≡ x)
mapped_some None x e = absurd (none-some x e)
mapped_some (Some y) x e = (y, refl, same_Some (plain_node y) x e)

-- ---- each way that is known is one

abbrev stage_from : OwnStage → Stage
stage_from own = record { way = own.way; wild = own.wild; exits = plain_exits own.exits.now }

ruled_reached : (nodes : List Node) (start : Exits) (room : ℕ) (steps : List Step) (stages : List OwnStage) (n p : ℕ) (r : Reach) → AreStages (graph_of nodes start room) steps n stages
    → IsRuled room stages p r → IsReached (graph_of nodes start room) steps p r.level r.length r.wild
ruled_reached nodes start room steps stages n p r st h = record {
  stage = stage_from h.own;
  inner = h.inner;
  is_stage = (st.each r.level h.own h.is_own).is_stage;
  leads = By_rule h.lists;
  is_total = h.is_length;
  is_wild = h.is_wild;
  has_room = h.has_room;
}

other_reached : (nodes : List Node) (start : Exits) (room : ℕ) (steps : List Step) (stages : List OwnStage) (openings : List Opening) (n m p : ℕ) (r : Reach)
    → AreStages (graph_of nodes start room) steps n stages
    → AreOpenings room stages m openings → IsOther room nodes stages openings p r → IsReached (graph_of nodes start room) steps p r.level r.length r.wild
other_reached nodes start room steps stages openings n m p r st op h =
    let o = h.opening in
    let free : IsOpenTo stages p o.level = h.is_first.2 in
    let of = op.each o (contains_at openings h.is_first.0 o h.is_first.1) in
    let own = of.0 in
    let same : free.own ≡ own = same_Some free.own own (sym free.is_own ∙ of.1) in
    let long : o.length ≡ own.way + own.exits.now.beside = ap (λ (x : Opening). x.length) of.2 in
    let is = st.each o.level own of.1 in
    let shut : ¬ Contains own.places.items p = subst (λ (x : OwnStage). ¬ Contains x.places.items p) same free.free in
    let total : r.length ≡ o.length + h.node.other = h.is_length in
    record {
      stage = stage_from own;
      inner = own.exits.now.beside + h.node.other;
      is_stage = ap (λ (k : ℕ). stage_at (graph_of nodes start room) steps k) h.is_level ∙ is.is_stage;
      leads = By_wildcard (plain_node h.node) (slice_get-map plain_node nodes p ∙ ap (λ (x : Option Node). option_map plain_node x) h.is_node) (λ l c. shut ((is.places.has p).1 (l, c))) refl;
      is_total = omega arith;
      is_wild = h.is_wild;
      has_room = h.has_room;
    }

-- ---- each way is known, or one that is no later

has_sooner : (best : List (Option Reach)) (p : ℕ) (y : Reach) (level total : ℕ) (wild : Bool) → HasOne best p y.level y.length y.wild → IsNoLater y level total wild → HasOne best p level total wild
has_sooner best p y level total wild h k = record { reach = h.reach; known = h.known; no_later = no_later-trans h.reach y level total wild h.no_later k }

-- a level has its number among them
own_of : (g : Graph) (steps : List Step) (stages : List OwnStage) → AreStages g steps (length steps) stages → (number : ℕ) (stage : Stage) → stage_at g steps number ≡ Some stage
    → (own : OwnStage) × (slice_get stages number ≡ Some own)
own_of g steps stages st zero stage e = get_some stages zero (let a = st.all in omega arith)
own_of g steps stages st (suc i) stage e = elim (cases_lt i (length steps)) [
  | inl below ↦ get_some stages (suc i) (let a = st.all in omega arith)
  | inr past ↦
      let none = ap (λ (o : Option Step). option_and_then (stage_of g) o) (slice_get_past steps i past) in
      absurd (none-some stage (sym none ∙ e))
]

-- the way through an opening
abbrev way_by : Opening → ℕ → Reach
way_by o other = record { level = o.level; length = o.length + other; wild = true }

known_by_first : (room : ℕ) (stages : List OwnStage) (openings : List Opening) (best : List (Option Reach)) (p number : ℕ) (own : OwnStage) (node : Node) (at : ℕ)
    → IsOrdered opening_key openings (length openings) → slice_get stages number ≡ Some own → ¬ Contains own.places.items p → slice_get openings at ≡ Some (opening_of number own)
    → own.way + own.exits.now.beside + node.other ≤ room
    → (found : Option Opening) → IsFirstOpen stages openings p (length openings) found → IsTaken room node best p found → HasOne best p number (own.way + own.exits.now.beside + node.other) true
known_by_first room stages openings best p number own node at up is free here fits None first taken =
    absurd (free (first at (opening_of number own) (slice_get_within openings at (opening_of number own) here) here own is))
known_by_first room stages openings best p number own node at up is free here fits (Some o) first taken =
    let x = opening_of number own in
    elim (cases_lt at first.0) [
      | inl less ↦ absurd (free (first.3 at x less here own is))
      | inr more ↦
          let total = own.way + own.exits.now.beside + node.other in
          let near = nearer o x node.other (elim (cases_lt first.0 at) [
            | inl before ↦ inl (up first.0 at o x before (slice_get_within openings at x here) first.1 here)
            | inr same ↦
                let e : at ≡ first.0 = omega arith in
                inr (same_Some o x (sym first.1 ∙ (ap (λ (k : ℕ). slice_get openings k) (sym e) ∙ here)))
          ]) in
          let y = way_by o node.other in
          has_sooner best p y number total true (taken (no_longer y number total room near fits)) near
    ]
  where
    nearer : (o x : Opening) (other : ℕ) → IsLess (opening_key o) (opening_key x) ⊎ (o ≡ x) → IsNoLater (way_by o other) x.level (x.length + other) true
    nearer o x other (inl h) = less o x other h
      where
        less : (o x : Opening) (other : ℕ) → IsLess (opening_key o) (opening_key x) → IsNoLater (way_by o other) x.level (x.length + other) true
        less o x other (inl h) = inl (omega arith)
        less o x other (inr h) = inr (omega arith, inr (refl, omega arith))
    nearer o x other (inr e) =
        let a : o.length ≡ x.length = ap (λ (y : Opening). y.length) e in
        let b : o.level ≡ x.level = ap (λ (y : Opening). y.level) e in
        inr (omega arith, inr (refl, omega arith))

    no_longer : (y : Reach) (number total room : ℕ) → IsNoLater y number total true → total ≤ room → y.length ≤ room
    no_longer y number total room (inl h) le = omega arith
    no_longer y number total room (inr h) le = omega (arith, h.0, le)

record Found (nodes : List Node) (start : Exits) (room : ℕ) (steps : List Step) (stages : List OwnStage) (openings : List Opening) (first listed best : List (Option Reach)) : Type 0 where
  stages_are : AreStages (graph_of nodes start room) steps (length steps) stages
  openings_are : AreOpenings room stages (length stages) openings
  in_order : IsOrdered opening_key openings (length openings)
  none : AreNone (length nodes) first
  by_rules : AreListed room stages (length stages) first listed
  by_others : AreOthers room nodes stages openings (length nodes) listed best

sound : (nodes : List Node) (start : Exits) (room : ℕ) (steps : List Step) (stages : List OwnStage) (openings : List Opening) (first listed best : List (Option Reach))
    → Found nodes start room steps stages openings first listed best → (p : ℕ) (r : Reach) → slice_get best p ≡ Some (Some r) → IsReached (graph_of nodes start room) steps p r.level r.length r.wild
sound nodes start room steps stages openings first listed best f p r e = elim (f.by_others.from p r e) [
  | inl old ↦ elim (f.by_rules.from p r old) [
    | inl older ↦ absurd (f.none.none p r older)
    | inr by ↦ ruled_reached nodes start room steps stages (length steps) p r f.stages_are by
  ]
  | inr by ↦ other_reached nodes start room steps stages openings (length steps) (length stages) p r f.stages_are f.openings_are by
]

known_leads : (nodes : List Node) (start : Exits) (room : ℕ) (steps : List Step) (stages : List OwnStage) (openings : List Opening) (first listed best : List (Option Reach))
    → Found nodes start room steps stages openings first listed best → (p number inner : ℕ) (own : OwnStage) → slice_get stages number ≡ Some own → p < length nodes
    → own.way + inner ≤ room → (leads : Leads (map plain_node nodes) (plain_exits own.exits.now) p inner) → HasOne best p number (own.way + inner) (is_by_wildcard leads || own.wild)
known_leads nodes start room steps stages openings first listed best f p number inner own is inside fits (By_rule lists) =
    let at = at_contains own.exits.now.listed.items (p, inner) lists in
    f.by_others.keeps p number (own.way + inner) own.wild
    (f.by_rules.takes number own at.0 p inner (slice_get_within stages number own is) is at.1 (let e = f.none.each in omega arith) fits)
known_leads nodes start room steps stages openings first listed best f p number inner own is inside fits (By_wildcard node is_node unlisted is_length) =
    let n = mapped_some (slice_get nodes p) node (sym (slice_get-map plain_node nodes p) ∙ is_node) in
    let other : n.0.other ≡ node.other = ap (λ (x : PlainNode). x.other) n.2 in
    let st = f.stages_are.each number own is in
    let free : ¬ Contains own.places.items p = λ c. let l = (st.places.has p).0 c in unlisted l.0 l.1 in
    let beside : inner ≡ own.exits.now.beside + node.other = is_length in
    let at = at_contains openings (opening_of number own) (f.openings_are.all number own (slice_get_within stages number own is) is (omega arith)) in
    let t = f.by_others.takes p n.0 inside (let a = f.by_rules.each in let b = f.none.each in omega arith) n.1 in
    let k : HasOne best p number (own.way + own.exits.now.beside + n.0.other) true = known_by_first room stages openings best p number own n.0 at.0 f.in_order is free at.1 (omega arith) t.0 t.1 t.2 in
    let e : own.way + own.exits.now.beside + n.0.other ≡ own.way + inner = omega arith in
    subst (λ (x : ℕ). HasOne best p number x true) e k

known : (nodes : List Node) (start : Exits) (room : ℕ) (steps : List Step) (stages : List OwnStage) (openings : List Opening) (first listed best : List (Option Reach))
    → Found nodes start room steps stages openings first listed best → (p number total : ℕ) (wild : Bool) → p < length nodes → IsReached (graph_of nodes start room) steps p number total wild → HasOne best p number total wild
known nodes start room steps stages openings first listed best f p number total wild inside r =
    let g = graph_of nodes start room in
    let own = own_of g steps stages f.stages_are number r.stage r.is_stage in
    let st = f.stages_are.each number own.0 own.1 in
    let same : r.stage ≡ stage_from own.0 = same_Some r.stage (stage_from own.0) (sym r.is_stage ∙ st.is_stage) in
    let way : r.stage.way ≡ own.0.way = ap (λ (s : Stage). s.way) same in
    let is : r.stage.way + r.inner ≡ total = sym r.is_total in
    let fits : own.0.way + r.inner ≤ room = let a = r.has_room in let b = r.is_total in omega arith in
    let Known : Stage → Type 0 = λ s. (l : Leads (map plain_node nodes) s.exits p r.inner) → HasOne best p number (s.way + r.inner) (is_by_wildcard l || s.wild) in
    let all : Known (stage_from own.0) = λ l. known_leads nodes start room steps stages openings first listed best f p number r.inner own.0 own.1 inside fits l in
    let has : HasOne best p number (r.stage.way + r.inner) (is_by_wildcard r.leads || r.stage.wild) = subst Known (sym same) all r.leads in
    subst (λ (w : Bool). HasOne best p number total w) (sym r.is_wild) (subst (λ (x : ℕ). HasOne best p number x (is_by_wildcard r.leads || r.stage.wild)) is has)

shortest_by : (nodes : List Node) (start : Exits) (room : ℕ) (steps : List Step) (stages : List OwnStage) (openings : List Opening) (first listed best : List (Option Reach))
    → Found nodes start room steps stages openings first listed best → (p : ℕ) → p < length nodes → (way : Option Reach) → slice_get best p ≡ Some way
    → IsShortest (graph_of nodes start room) steps p way
shortest_by nodes start room steps stages openings first listed best f p inside None e = λ number total wild r.
    let h = known nodes start room steps stages openings first listed best f p number total wild inside r in
    none-some h.reach (same_Some None (Some h.reach) (sym e ∙ h.known))
shortest_by nodes start room steps stages openings first listed best f p inside (Some x) e = (
  sound nodes start room steps stages openings first listed best f p x e,
  (λ number total wild r.
      let h = known nodes start room steps stages openings first listed best f p number total wild inside r in
      let same : h.reach ≡ x = same_Some h.reach x (same_Some (Some h.reach) (Some x) (sym h.known ∙ e)) in
      subst (λ (y : Reach). IsNoLater y number total wild) same h.no_later),
)

pub all_shortest : (nodes : List Node) (start : Exits) (room : ℕ) (steps : List Step) (stages : List OwnStage) (openings : List Opening) (first listed best : List (Option Reach))
    → AreStages (graph_of nodes start room) steps (length steps) stages → AreOpenings room stages (length stages) openings → IsOrdered opening_key openings (length openings)
    → AreNone (length nodes) first → AreListed room stages (length stages) first listed → AreOthers room nodes stages openings (length nodes) listed best
    → AreShortest (graph_of nodes start room) steps best
all_shortest nodes start room steps stages openings first listed best st op up none by_rules by_others =
    let f : Found nodes start room steps stages openings first listed best = record { stages_are = st; openings_are = op; in_order = up; none = none; by_rules = by_rules; by_others = by_others } in
    let each : length best ≡ length nodes = by_others.each ∙ (by_rules.each ∙ none.each) in
    record {
      each = each ∙ sym (length-map nodes plain_node);
      shortest = λ p way e. shortest_by nodes start room steps stages openings first listed best f p (let b = slice_get_within best p way e in omega arith) way e;
    }
