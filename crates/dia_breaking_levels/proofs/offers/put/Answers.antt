use Rattle.std.proofs.Common.{◌≡◌, ◌≢◌, ℕ, ◌+◌, ◌/◌, ◌<◌, ◌≤◌, Bool, true, false, length, refl, sym, ap, subst, ◌∙◌, arith, inl, inr}
use Rattle.std.specs.Prelude.{◌⊎◌, ◌==◌, slice_set, min}
use Rattle.std.proofs.lemmas.Bool.{eqb-true, eqb-false}
use Rattle.std.proofs.lemmas.List.{get_or-set_same, get_or-set_other, length-set}
use Rattle.dia_breaking_levels.specs.declared.offers.Offer.{Offer}
use Rattle.dia_breaking_levels.specs.Offers.{weight, lesser, node_at, weight_at}
use Rattle.dia_breaking_levels.proofs.LeastNodes.{MayFall, MayDiffer, lesser_weight, lesser_either, fall_step, differ_step}
use Rattle.dia_breaking_levels.proofs.offers.put.Goals as goal

-- the leaf holds what it held, or the offer
still_either : (f g : ℕ → Offer) (start : Offer) (leaf node : ℕ) (offer : Offer) → g node ≡ lesser (f node) offer → ((i : ℕ) → i ≢ node → g i ≡ f i) → (f leaf ≡ start) ⊎ (f leaf ≡ offer)
    → (g leaf ≡ start) ⊎ (g leaf ≡ offer)
still_either f g start leaf node offer at other before = by (leaf == node) refl before
  where
    same_put : (x : Offer) → x ≡ offer → lesser x offer ≡ offer
    same_put x e = of (lesser_either x offer)
      where
        of : (lesser x offer ≡ x) ⊎ ((lesser x offer ≡ offer) × (weight offer < weight x)) → lesser x offer ≡ offer
        of (inl kept) = kept ∙ e
        of (inr put) = put.0

    here : leaf ≡ node → (lesser (f node) offer ≡ f node) ⊎ ((lesser (f node) offer ≡ offer) × (weight offer < weight (f node))) → (f leaf ≡ start) ⊎ (f leaf ≡ offer)
        → (g leaf ≡ start) ⊎ (g leaf ≡ offer)
    here same (inl kept) (inl h) = inl (ap g same ∙ at ∙ kept ∙ ap f (sym same) ∙ h)
    here same (inl kept) (inr h) = inr (ap g same ∙ at ∙ kept ∙ ap f (sym same) ∙ h)
    here same (inr put) h = inr (ap g same ∙ at ∙ put.0)

    by : (t : Bool) → (leaf == node) ≡ t → (f leaf ≡ start) ⊎ (f leaf ≡ offer) → (g leaf ≡ start) ⊎ (g leaf ≡ offer)
    by true e h = let same = eqb-true leaf node e in here same (lesser_either (f node) offer) h
    by false e (inl h) = inl (other leaf (eqb-false leaf node e) ∙ h)
    by false e (inr h) = inr (other leaf (eqb-false leaf node e) ∙ h)

-- no node weighs more than before
still_below : (f g : ℕ → Offer) (start : ℕ → ℕ) (node : ℕ) (offer : Offer) → g node ≡ lesser (f node) offer → ((i : ℕ) → i ≢ node → g i ≡ f i) → ((i : ℕ) → weight (f i) ≤ start i) → (i : ℕ)
    → weight (g i) ≤ start i
still_below f g start node offer at other before i = by (i == node) refl
  where
    by : (t : Bool) → (i == node) ≡ t → weight (g i) ≤ start i
    by true e =
        let same = eqb-true i node e in
        let own : weight (g i) ≡ min (weight (f i)) (weight offer) = ap weight (ap g same ∙ at ∙ ap (λ (n : ℕ). lesser (f n) offer) (sym same)) ∙ lesser_weight (f i) offer in
        let le = before i in
        omega (arith, own, le)
    by false e = let own : weight (g i) ≡ weight (f i) = ap weight (other i (eqb-false i node e)) in let le = before i in omega (arith, own, le)

-- the leaf weighs no more than the offer once it was put in
still_there : (f g : ℕ → Offer) (leaf node : ℕ) (offer : Offer) → g node ≡ lesser (f node) offer → ((i : ℕ) → i ≢ node → g i ≡ f i) → node ≤ leaf → (node < leaf → weight (f leaf) ≤ weight offer)
    → weight (g leaf) ≤ weight offer
still_there f g leaf node offer at other within before = by (leaf == node) refl
  where
    by : (t : Bool) → (leaf == node) ≡ t → weight (g leaf) ≤ weight offer
    by true e =
        let same = eqb-true leaf node e in
        let own : weight (g leaf) ≡ min (weight (f node)) (weight offer) = ap weight (ap g same ∙ at) ∙ lesser_weight (f node) offer in
        omega (arith, own)
    by false e =
        let apart : leaf ≢ node = eqb-false leaf node e in
        let own : weight (g leaf) ≡ weight (f leaf) = ap weight (other leaf apart) in
        let le = before (omega (arith, apart, within)) in
        omega (arith, own, le)

-- the other leaves stay
still_others : (f g start : ℕ → Offer) (size leaf node : ℕ) (offer : Offer) → ((i : ℕ) → i ≢ node → g i ≡ f i) → (node ≡ leaf) ⊎ (node + node < size)
    → ((i : ℕ) → size ≤ i + i → i ≢ leaf → f i ≡ start i)
    → (i : ℕ) → size ≤ i + i → i ≢ leaf → g i ≡ start i
still_others f g start size leaf node offer other row before i last apart = by row
  where
    by : (node ≡ leaf) ⊎ (node + node < size) → g i ≡ start i
    by (inl same) = other i (λ q. absurd (apart (q ∙ same))) ∙ before i last apart
    by (inr above) = other i (λ q. absurd (omega (arith, q, above, last))) ∙ before i last apart

pub loop-node-preserved : goal.loop-node-preserved
loop-node-preserved c =
    let inv = c.loop-node.invariant in
    let nodes = c.loop-node.nodes in
    let node = c.loop-node.node in
    let next = slice_set nodes node c.lesser.result in
    let pos = c.loop-node-test.true in
    let within : node < length nodes = omega (arith, inv.within, inv.size, c.requires.within.1) in
    let at : node_at next node ≡ lesser (node_at nodes node) c.args.offer = get_or-set_same nodes node c.lesser.result _ within ∙ c.lesser.ensures in
    let other : (i : ℕ) → i ≢ node → node_at next i ≡ node_at nodes i = λ i apart. get_or-set_other nodes node i c.lesser.result _ apart in
    let size : length next ≡ length nodes = length-set nodes node c.lesser.result in
    let weighs : weight_at next node ≡ min (weight_at nodes node) (weight c.args.offer) = ap weight at ∙ lesser_weight (node_at nodes node) c.args.offer in
    let falls : MayFall (weight_at next) (length nodes) (node / 2) (weight c.args.offer) =
    fall_step (weight_at nodes) (weight_at next) (length nodes) node (weight c.args.offer) pos inv.tree weighs (λ i apart. ap weight (other i apart)) in
    let differs : MayDiffer (node_at next) (length nodes) (node / 2) c.args.offer =
    differ_step (node_at nodes) (node_at next) (length nodes) node c.args.offer pos inv.attained inv.tree within at other in
    record {
      within = omega (arith, inv.within);
      row = inr (omega (arith, pos, within, size));
      size = size ∙ inv.size;
      below = still_below (node_at nodes) (node_at next) (weight_at c.args.nodes.now) node c.args.offer at other inv.below;
      there = λ _. still_there (node_at nodes) (node_at next) c.args.leaf node c.args.offer at other inv.within inv.there;
      either = still_either (node_at nodes) (node_at next) (node_at c.args.nodes.now c.args.leaf) c.args.leaf node c.args.offer at other inv.either;
      others = still_others (node_at nodes) (node_at next) (node_at c.args.nodes.now) (length c.args.nodes.now) c.args.leaf node c.args.offer other
          (subst (λ (n : ℕ). (node ≡ c.args.leaf) ⊎ (node + node < n)) inv.size inv.row) inv.others;
      tree = subst (λ (n : ℕ). MayFall (weight_at next) n (node / 2) (weight c.args.offer)) (sym size) falls;
      attained = subst (λ (n : ℕ). MayDiffer (node_at next) n (node / 2) c.args.offer) (sym size) differs;
    }
