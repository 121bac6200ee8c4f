-- The shortest ways to AVPs through levels that are known.
use Rattle.std.proofs.Common.{◌≡◌, ℕ, ◌+◌, ◌<◌, ◌≤◌, Bool, true, List, length, Option, Some, None, refl, sym, ap, subst, ◌∙◌, arith, inl, inr}
use Rattle.std.specs.Prelude.{◌⊎◌, slice_get}
use Rattle.std.proofs.lemmas.Bool.{cases_lt}
use Rattle.std.proofs.lemmas.Option.{same_Some, slice_get_within}
use Rattle.dia_breaking_ways.specs.declared.graph.Node.{Node}
use Rattle.dia_breaking_ways.specs.declared.graph.Reach.{Reach}
use Rattle.dia_breaking_ways.specs.declared.stages.Stage.{Stage as OwnStage}
use Rattle.dia_breaking_ways.specs.declared.openings.Opening.{Opening}
use Rattle.dia_breaking_ways.specs.Offers.{HasOne, IsOffered, IsByRule, AreOffered}
use Rattle.dia_breaking_ways.specs.Openings.{IsFirstOpen}
use Rattle.dia_breaking_ways.specs.Reached.{IsRuled, AreListed, IsOther, IsTaken, AreOthers}
use Rattle.dia_breaking_ways.proofs.ListedPlaces.{contains_at}

-- ---- ways by rules

pub listed_more : (room : ℕ) (stages : List OwnStage) (n : ℕ) (first best after : List (Option Reach)) (own : OwnStage) → AreListed room stages n first best → slice_get stages n ≡ Some own
    → AreOffered best after room n own.way own.wild own.exits.now.listed.items (length own.exits.now.listed.items) → AreListed room stages (n + 1) first after
listed_more room stages n first best after own h at o = record {
  each = o.each ∙ h.each;
  from = λ p r e. elim (o.from p r e) [ inl f ↦ h.from p r f | inr f ↦ inr (ruled room stages n own at p r f) ];
  takes = λ level x k p inner below get lists inside fits. elim (cases_lt level n) [
    | inl less ↦ o.keeps p level (x.way + inner) x.wild (h.takes level x k p inner less get lists inside fits)
    | inr more ↦
        let here : n ≡ level = omega arith in
        let same : own ≡ x = same_Some own x (sym at ∙ (ap (λ (j : ℕ). slice_get stages j) here ∙ get)) in
        let own_lists : slice_get own.exits.now.listed.items k ≡ Some (p, inner) = subst (λ (y : OwnStage). slice_get y.exits.now.listed.items k ≡ Some (p, inner)) (sym same) lists in
        let own_fits : own.way + inner ≤ room = subst (λ (y : OwnStage). y.way + inner ≤ room) (sym same) fits in
        let has : HasOne after p n (own.way + inner) own.wild = o.takes k p inner (slice_get_within own.exits.now.listed.items k (p, inner) own_lists) own_lists (let e = h.each in omega arith) own_fits in
        let moved : HasOne after p level (own.way + inner) own.wild = subst (λ (j : ℕ). HasOne after p j (own.way + inner) own.wild) here has in
        subst (λ (y : OwnStage). HasOne after p level (y.way + inner) y.wild) same moved
  ];
}
  where
    ruled : (room : ℕ) (stages : List OwnStage) (n : ℕ) (own : OwnStage) → slice_get stages n ≡ Some own → (p : ℕ) (r : Reach)
        → IsByRule room n own.way own.wild own.exits.now.listed.items (length own.exits.now.listed.items) p r → IsRuled room stages p r
    ruled room stages n own at p r f = record {
      own = own;
      inner = f.inner;
      is_own = subst (λ (j : ℕ). slice_get stages j ≡ Some own) (sym f.is_level) at;
      lists = contains_at own.exits.now.listed.items f.at (p, f.inner) f.lists;
      is_length = f.is_length;
      is_wild = f.is_wild;
      has_room = f.has_room;
    }

-- ---- ways through wildcards

taken_kept : (room : ℕ) (node : Node) (best after : List (Option Reach)) (p : ℕ) → ((p l total : ℕ) (w : Bool) → HasOne best p l total w → HasOne after p l total w) → (found : Option Opening)
    → IsTaken room node best p found → IsTaken room node after p found
taken_kept room node best after p keeps None h = h
taken_kept room node best after p keeps (Some o) h = λ fits. keeps p o.level (o.length + node.other) true (h fits)

others_step : (room : ℕ) (nodes : List Node) (stages : List OwnStage) (openings : List Opening) (n : ℕ) (first best after : List (Option Reach)) (node : Node) (found : Option Opening)
    → AreOthers room nodes stages openings n first best → slice_get nodes n ≡ Some node → IsFirstOpen stages openings n (length openings) found
    → length after ≡ length best → ((p : ℕ) (r : Reach) → slice_get after p ≡ Some (Some r) → (slice_get best p ≡ Some (Some r)) ⊎ IsOther room nodes stages openings p r)
    → ((p l total : ℕ) (w : Bool) → HasOne best p l total w → HasOne after p l total w) → (n < length best → IsTaken room node after n found)
    → AreOthers room nodes stages openings (n + 1) first after
others_step room nodes stages openings n first best after node found h at is same from keeps taken = record {
  each = same ∙ h.each;
  from = λ p r e. elim (from p r e) [ inl f ↦ h.from p r f | inr f ↦ inr f ];
  keeps = λ p l t w x. keeps p l t w (h.keeps p l t w x);
  takes = λ p x below inside get. elim (cases_lt p n) [
    | inl less ↦ let old = h.takes p x less inside get in (old.0, old.1, taken_kept room x best after p keeps old.0 old.2)
    | inr more ↦
        let here : n ≡ p = omega arith in
        let same_node : node ≡ x = same_Some node x (sym at ∙ (ap (λ (j : ℕ). slice_get nodes j) here ∙ get)) in
        let t : IsTaken room node after n found = taken (let e = h.each in omega arith) in
        let u : IsTaken room node after p found = subst (λ (j : ℕ). IsTaken room node after j found) here t in
        (found, subst (λ (j : ℕ). IsFirstOpen stages openings j (length openings) found) here is, subst (λ (y : Node). IsTaken room y after p found) same_node u)
  ];
}

-- no level is open to the next place
pub others_shut : (room : ℕ) (nodes : List Node) (stages : List OwnStage) (openings : List Opening) (n : ℕ) (first best : List (Option Reach)) (node : Node)
    → AreOthers room nodes stages openings n first best → slice_get nodes n ≡ Some node → (found : Option Opening) → found ≡ None → IsFirstOpen stages openings n (length openings) found
    → AreOthers room nodes stages openings (n + 1) first best
others_shut room nodes stages openings n first best node h at found none is =
    others_step room nodes stages openings n first best best node None h at (subst (λ (f : Option Opening). IsFirstOpen stages openings n (length openings) f) none is) refl
    (λ p r e. inl e) (λ p l t w x. x) (λ inside. tt)

-- it has no room for the place's AVP
pub others_past : (room : ℕ) (nodes : List Node) (stages : List OwnStage) (openings : List Opening) (n : ℕ) (first best : List (Option Reach)) (node : Node) (o : Opening)
    → AreOthers room nodes stages openings n first best → slice_get nodes n ≡ Some node → (found : Option Opening) → found ≡ Some o → IsFirstOpen stages openings n (length openings) found
    → ¬ (o.length + node.other ≤ room) → AreOthers room nodes stages openings (n + 1) first best
others_past room nodes stages openings n first best node o h at found some is none =
    others_step room nodes stages openings n first best best node (Some o) h at (subst (λ (f : Option Opening). IsFirstOpen stages openings n (length openings) f) some is) refl
    (λ p r e. inl e) (λ p l t w x. x) (λ inside fits. absurd (none fits))

-- it has
pub others_more : (room : ℕ) (nodes : List Node) (stages : List OwnStage) (openings : List Opening) (n : ℕ) (first best after : List (Option Reach)) (node : Node) (o : Opening) (total : ℕ)
    → AreOthers room nodes stages openings n first best → slice_get nodes n ≡ Some node → (found : Option Opening) → found ≡ Some o → IsFirstOpen stages openings n (length openings) found
    → o.length + node.other ≤ room → o.length + node.other ≡ total → IsOffered best after n (record { level = o.level; length = total; wild = true }) → AreOthers room nodes stages openings (n + 1) first after
others_more room nodes stages openings n first best after node o total h at found some is fits sum offered =
    let is_some : IsFirstOpen stages openings n (length openings) (Some o) = subst (λ (f : Option Opening). IsFirstOpen stages openings n (length openings) f) some is in
    others_step room nodes stages openings n first best after node (Some o) h at is_some offered.each
    (λ p r e. other_from room nodes stages openings n best node o total at is_some fits sum p r (offered.from p r e))
    offered.keeps
    (λ inside f. subst (λ (t : ℕ). HasOne after n o.level t true) (sym sum) (offered.takes inside))
  where
    other_from : (room : ℕ) (nodes : List Node) (stages : List OwnStage) (openings : List Opening) (n : ℕ) (best : List (Option Reach)) (node : Node) (o : Opening) (total : ℕ)
        → slice_get nodes n ≡ Some node → IsFirstOpen stages openings n (length openings) (Some o) → o.length + node.other ≤ room → o.length + node.other ≡ total
        → (p : ℕ) (r : Reach) → (slice_get best p ≡ Some (Some r)) ⊎ ((p ≡ n) × (r ≡ record { level = o.level; length = total; wild = true }))
        → (slice_get best p ≡ Some (Some r)) ⊎ IsOther room nodes stages openings p r
    other_from room nodes stages openings n best node o total at is fits sum p r (inl e) = inl e
    other_from room nodes stages openings n best node o total at is fits sum p r (inr e) =
        let l : r.level ≡ o.level = ap (λ (x : Reach). x.level) e.1 in
        let t : r.length ≡ total = ap (λ (x : Reach). x.length) e.1 in
        let w : r.wild ≡ true = ap (λ (x : Reach). x.wild) e.1 in
        inr (subst (λ (j : ℕ). IsOther room nodes stages openings j r) (sym e.0)
        (record { opening = o; node = node; is_first = is; is_node = at; is_level = l; is_length = omega arith; is_wild = w; has_room = omega arith }))
