-- Trees of which each node holds the least of what is below it.
use Rattle.std.proofs.Common.{◌≡◌, ◌≢◌, ℕ, zero, suc, ◌+◌, ◌-◌, ◌/◌, ◌<◌, ◌≤◌, Bool, true, false, List, ◌++◌, length, replicate, refl, sym, ap, subst, ◌∙◌, arith, inl, inr}
use Rattle.std.specs.Prelude.{◌⊎◌, min, nat_lt, ◌==◌, if◌then◌else◌}
use Rattle.std.proofs.lemmas.Bool.{eqb-true, eqb-false, ltb-true, ltb-false}
use Rattle.dia_breaking_levels.specs.declared.offers.Offer.{Offer}
use Rattle.dia_breaking_levels.specs.Offers.{nothing, weight, weight_at, lesser, node_at, AreLeast, AreAttained, IsOneWithin}

-- each node has no more than the two below it, or than an offer, which is still to be put into this node
abbrev pub MayFall : (ℕ → ℕ) → ℕ → ℕ → ℕ → Type 0
MayFall f size node offer = (i : ℕ) → 2 ≤ i → i < size → (min (f (i / 2)) offer ≤ f i) × (i / 2 ≢ node → f (i / 2) ≤ f i)

-- the offer is put into the node, and passed to the one above
pub fall_step : (f g : ℕ → ℕ) (size node offer : ℕ) → 0 < node → MayFall f size node offer → g node ≡ min (f node) offer → ((i : ℕ) → i ≢ node → g i ≡ f i) → MayFall g size (node / 2) offer
fall_step f g size node offer pos may at other i two within = by (i == node) refl (i / 2 == node) refl
  where
    by : (t : Bool) → (i == node) ≡ t → (u : Bool) → (i / 2 == node) ≡ u → (min (g (i / 2)) offer ≤ g i) × (i / 2 ≢ node / 2 → g (i / 2) ≤ g i)
    by true e true h =
        let same = eqb-true i node e in
        let half = eqb-true (i / 2) node h in
        absurd (omega (arith, same, half, pos))
    by true e false h =
        let same = eqb-true i node e in
        let here : g i ≡ min (f node) offer = ap g same ∙ at in
        let own : f i ≡ f node = ap f same in
        let above = other (i / 2) (eqb-false (i / 2) node h) in
        let old = (may i two within).0 in
        (omega (arith, here, own, above, old), λ apart. absurd (apart (ap (λ (n : ℕ). n / 2) same)))
    by false e true h =
        let half = eqb-true (i / 2) node h in
        let above : g (i / 2) ≡ min (f node) offer = ap g half ∙ at in
        let own : f (i / 2) ≡ f node = ap f half in
        let here = other i (eqb-false i node e) in
        let old = (may i two within).0 in
        (omega (arith, here, own, above, old), λ apart. omega (arith, here, own, above, old))
    by false e false h =
        let above = other (i / 2) (eqb-false (i / 2) node h) in
        let here = other i (eqb-false i node e) in
        let old = may i two within in
        (let le = old.0 in omega (arith, here, above, le), λ apart. let le = old.1 (eqb-false (i / 2) node h) in omega (arith, here, above, le))

-- what was found is no more than v, or some node of those that are left is
abbrev pub IsCovered : (ℕ → ℕ) → ℕ → ℕ → ℕ → ℕ → Type 0
IsCovered f low high found v = (found ≤ v) ⊎ ((p : ℕ) × (low ≤ p) × (p < high) × (f p ≤ v))

-- the nodes at both ends are looked at, and then the row above
pub cover_step : (f : ℕ → ℕ) (size low high found next v : ℕ) → 0 < low → high ≤ size → ((i : ℕ) → 2 ≤ i → i < size → f (i / 2) ≤ f i) → next ≡ min found (min (f low) (f (high - 1)))
    → IsCovered f low high found v → IsCovered f ((low + 1) / 2) (high / 2) next v
cover_step f size low high found next v pos within tree is (inl le) = inl (omega (arith, is, le))
cover_step f size low high found next v pos within tree is (inr w) = by (w.0 == low) refl (w.0 == high - 1) refl
  where
    by : (t : Bool) → (w.0 == low) ≡ t → (u : Bool) → (w.0 == high - 1) ≡ u → IsCovered f ((low + 1) / 2) (high / 2) next v
    by true e u h =
        let here : f w.0 ≡ f low = ap f (eqb-true w.0 low e) in
        let le = w.3 in
        inl (omega (arith, is, here, le))
    by false e true h =
        let here : f w.0 ≡ f (high - 1) = ap f (eqb-true w.0 (high - 1) h) in
        let le = w.3 in
        inl (omega (arith, is, here, le))
    by false e false h =
        let from = w.1 in
        let to = w.2 in
        let first : w.0 ≢ low = eqb-false w.0 low e in
        let last : w.0 ≢ high - 1 = eqb-false w.0 (high - 1) h in
        let above = tree w.0 (omega (arith, from, first, pos)) (omega (arith, to, within)) in
        let le = w.3 in
        inr (w.0 / 2, omega (arith, from, first), omega (arith, to, last), omega (arith, above, le))

-- ---- each node has the offer of one below it

-- each node that has two below it has the offer of one of them, and the one that is put into next will have
abbrev pub MayDiffer : (ℕ → Offer) → ℕ → ℕ → Offer → Type 0
MayDiffer f size node offer = (i : ℕ) → 0 < i → i + i + 1 < size
    → (i ≢ node → (f i ≡ f (i + i)) ⊎ (f i ≡ f (i + i + 1))) × (i ≡ node → (lesser (f i) offer ≡ f (i + i)) ⊎ (lesser (f i) offer ≡ f (i + i + 1)))

pub lesser_weight : (x y : Offer) → weight (lesser x y) ≡ min (weight x) (weight y)
lesser_weight x y = by (nat_lt (weight y) (weight x)) refl
  where
    by : (t : Bool) → nat_lt (weight y) (weight x) ≡ t → weight (if t then y else x) ≡ min (weight x) (weight y)
    by true e = let lt = ltb-true (weight y) (weight x) e in omega (arith, lt)
    by false e = let le = ltb-false (weight y) (weight x) e in omega (arith, le)

-- an offer that is put before another of more weight
lesser_second : (x y offer : Offer) → lesser x offer ≡ offer → weight offer < weight x → weight x ≤ weight y → lesser y offer ≡ offer
lesser_second x y offer is lt le = by (nat_lt (weight offer) (weight y)) refl
  where
    by : (t : Bool) → nat_lt (weight offer) (weight y) ≡ t → lesser y offer ≡ offer
    by true e = ap (λ (t : Bool). if t then offer else y) e
    by false e = let no = ltb-false (weight offer) (weight y) e in absurd (omega (arith, no, lt, le))

pub lesser_either : (x offer : Offer) → (lesser x offer ≡ x) ⊎ ((lesser x offer ≡ offer) × (weight offer < weight x))
lesser_either x offer = by (nat_lt (weight offer) (weight x)) refl
  where
    by : (t : Bool) → nat_lt (weight offer) (weight x) ≡ t → (lesser x offer ≡ x) ⊎ ((lesser x offer ≡ offer) × (weight offer < weight x))
    by true e = inr (ap (λ (t : Bool). if t then offer else x) e, ltb-true (weight offer) (weight x) e)
    by false e = inl (ap (λ (t : Bool). if t then offer else x) e)

-- the node above has the offer of the one that was put into, or of the other below it
above_either : (old_above old_here old_beside new_here offer : Offer) → new_here ≡ lesser old_here offer → weight old_above ≤ weight old_here → (old_above ≡ old_here) ⊎ (old_above ≡ old_beside)
    → (lesser old_above offer ≡ new_here) ⊎ (lesser old_above offer ≡ old_beside)
above_either old_above old_here old_beside new_here offer is le (inl same) = inl (ap (λ (o : Offer). lesser o offer) same ∙ sym is)
above_either old_above old_here old_beside new_here offer is le (inr same) = by (lesser_either old_above offer)
  where
    by : (lesser old_above offer ≡ old_above) ⊎ ((lesser old_above offer ≡ offer) × (weight offer < weight old_above)) → (lesser old_above offer ≡ new_here) ⊎ (lesser old_above offer ≡ old_beside)
    by (inl kept) = inr (kept ∙ same)
    by (inr put) = inl (put.0 ∙ sym (is ∙ lesser_second old_above old_here offer put.0 put.1 le))

pub differ_step : (f g : ℕ → Offer) (size node : ℕ) (offer : Offer) → 0 < node → MayDiffer f size node offer → MayFall (λ i. weight (f i)) size node (weight offer) → node < size
    → g node ≡ lesser (f node) offer
    → ((i : ℕ) → i ≢ node → g i ≡ f i) → MayDiffer g size (node / 2) offer
differ_step f g size node offer pos may falls within at other i some two = (λ apart. settled apart (i == node) refl, λ same. pending same)
  where
    settled : i ≢ node / 2 → (t : Bool) → (i == node) ≡ t → (g i ≡ g (i + i)) ⊎ (g i ≡ g (i + i + 1))
    settled apart true e =
        let same : i ≡ node = eqb-true i node e in
        let first : i + i ≢ node = λ q. absurd (omega (arith, q, same, pos)) in
        let second : i + i + 1 ≢ node = λ q. absurd (omega (arith, q, same, pos)) in
        let own : g i ≡ lesser (f i) offer = ap g same ∙ at ∙ ap (λ (n : ℕ). lesser (f n) offer) (sym same) in
        by own first second ((may i some two).1 same)
      where
        by : g i ≡ lesser (f i) offer → i + i ≢ node → i + i + 1 ≢ node → (lesser (f i) offer ≡ f (i + i)) ⊎ (lesser (f i) offer ≡ f (i + i + 1)) → (g i ≡ g (i + i)) ⊎ (g i ≡ g (i + i + 1))
        by own first second (inl h) = inl (own ∙ h ∙ sym (other (i + i) first))
        by own first second (inr h) = inr (own ∙ h ∙ sym (other (i + i + 1) second))
    settled apart false e =
        let first : i + i ≢ node = λ q. absurd (apart (omega (arith, q))) in
        let second : i + i + 1 ≢ node = λ q. absurd (apart (omega (arith, q))) in
        by first second ((may i some two).0 (eqb-false i node e))
      where
        by : i + i ≢ node → i + i + 1 ≢ node → (f i ≡ f (i + i)) ⊎ (f i ≡ f (i + i + 1)) → (g i ≡ g (i + i)) ⊎ (g i ≡ g (i + i + 1))
        by first second (inl h) = inl (other i (eqb-false i node e) ∙ h ∙ sym (other (i + i) first))
        by first second (inr h) = inr (other i (eqb-false i node e) ∙ h ∙ sym (other (i + i + 1) second))

    pending : i ≡ node / 2 → (lesser (g i) offer ≡ g (i + i)) ⊎ (lesser (g i) offer ≡ g (i + i + 1))
    pending same =
        let apart : i ≢ node = λ q. absurd (omega (arith, q, same, pos)) in
        let above : g i ≡ f i = other i apart in
        let half : node / 2 ≡ i = sym same in
        let le : weight (f (node / 2)) ≤ weight (f node) = (falls node (omega (arith, same, some)) within).1 (λ q. absurd (omega (arith, q, pos))) in
        let low : weight (f i) ≤ weight (f node) = subst (λ (n : ℕ). weight (f n) ≤ weight (f node)) half le in
        by above low ((may i some two).0 apart) (i + i == node) refl
      where
        by : g i ≡ f i → weight (f i) ≤ weight (f node) → (f i ≡ f (i + i)) ⊎ (f i ≡ f (i + i + 1)) → (t : Bool) → (i + i == node) ≡ t
            → (lesser (g i) offer ≡ g (i + i)) ⊎ (lesser (g i) offer ≡ g (i + i + 1))
        by above low old true e =
            let here : i + i ≡ node = eqb-true (i + i) node e in
            let beside : g (i + i + 1) ≡ f (i + i + 1) = other (i + i + 1) (λ q. absurd (omega (arith, q, here))) in
            first above here beside (above_either (f i) (f (i + i)) (f (i + i + 1)) (g (i + i)) offer (ap g here ∙ at ∙ ap (λ (n : ℕ). lesser (f n) offer) (sym here))
            (subst (λ (n : ℕ). weight (f i) ≤ weight (f n)) (sym here) low) old)
          where
            first : g i ≡ f i → i + i ≡ node → g (i + i + 1) ≡ f (i + i + 1) → (lesser (f i) offer ≡ g (i + i)) ⊎ (lesser (f i) offer ≡ f (i + i + 1))
                → (lesser (g i) offer ≡ g (i + i)) ⊎ (lesser (g i) offer ≡ g (i + i + 1))
            first above here beside (inl h) = inl (ap (λ (o : Offer). lesser o offer) above ∙ h)
            first above here beside (inr h) = inr (ap (λ (o : Offer). lesser o offer) above ∙ h ∙ sym beside)
        by above low old false e =
            let not_first : i + i ≢ node = eqb-false (i + i) node e in
            let here : i + i + 1 ≡ node = omega (arith, not_first, same) in
            let beside : g (i + i) ≡ f (i + i) = other (i + i) not_first in
            second above here beside (above_either (f i) (f (i + i + 1)) (f (i + i)) (g (i + i + 1)) offer (ap g here ∙ at ∙ ap (λ (n : ℕ). lesser (f n) offer) (sym here))
            (subst (λ (n : ℕ). weight (f i) ≤ weight (f n)) (sym here) low) (turned old))
          where
            turned : {X Y : Type 0} → X ⊎ Y → Y ⊎ X
            turned (inl h) = inr h
            turned (inr h) = inl h

            second : g i ≡ f i → i + i + 1 ≡ node → g (i + i) ≡ f (i + i) → (lesser (f i) offer ≡ g (i + i + 1)) ⊎ (lesser (f i) offer ≡ f (i + i))
                → (lesser (g i) offer ≡ g (i + i)) ⊎ (lesser (g i) offer ≡ g (i + i + 1))
            second above here beside (inl h) = inr (ap (λ (o : Offer). lesser o offer) above ∙ h)
            second above here beside (inr h) = inl (ap (λ (o : Offer). lesser o offer) above ∙ h ∙ sym beside)

-- ---- what is found is the offer of a node of the row

either_one : (nodes : List Offer) (from to : ℕ) (x y : Offer) → IsOneWithin nodes from to x → IsOneWithin nodes from to y → IsOneWithin nodes from to (lesser x y)
either_one nodes from to x y one two = by (nat_lt (weight y) (weight x))
  where
    by : (t : Bool) → IsOneWithin nodes from to (if t then y else x)
    by true = two
    by false = one

-- the lesser of what was found and the nodes at both ends
pub ends_within : (nodes : List Offer) (from to low high : ℕ) (found next : Offer) → low < high → IsOneWithin nodes from to found
    → ((p : ℕ) → low ≤ p → p < high → IsOneWithin nodes from to (node_at nodes p))
    → next ≡ lesser found (lesser (node_at nodes low) (node_at nodes (high - 1))) → IsOneWithin nodes from to next
ends_within nodes from to low high found next lt one rows is =
    subst (IsOneWithin nodes from to) (sym is) (either_one nodes from to found (lesser (node_at nodes low) (node_at nodes (high - 1))) one
    (either_one nodes from to (node_at nodes low) (node_at nodes (high - 1)) (rows low (omega arith) lt) (rows (high - 1) (omega (arith, lt)) (omega (arith, lt)))))

-- the row above
pub row_above : (nodes : List Offer) (from to low high : ℕ) → 0 < low → high ≤ length nodes → AreAttained nodes → ((p : ℕ) → low ≤ p → p < high → IsOneWithin nodes from to (node_at nodes p))
    → (p : ℕ) → (low + 1) / 2 ≤ p → p < high / 2 → IsOneWithin nodes from to (node_at nodes p)
row_above nodes from to low high pos within attained rows p above below = by (attained p (omega (arith, above, pos)) (omega (arith, below, within)))
  where
    by : (node_at nodes p ≡ node_at nodes (p + p)) ⊎ (node_at nodes p ≡ node_at nodes (p + p + 1)) → IsOneWithin nodes from to (node_at nodes p)
    by (inl h) = subst (IsOneWithin nodes from to) (sym h) (rows (p + p) (omega (arith, above)) (omega (arith, below)))
    by (inr h) = subst (IsOneWithin nodes from to) (sym h) (rows (p + p + 1) (omega (arith, above)) (omega (arith, below)))

-- ---- nodes of which none has an offer

nothing_once : (n i : ℕ) → i < n → node_at (replicate n nothing) i ≡ nothing
nothing_once zero i below = absurd (omega arith)
nothing_once (suc n) zero below = refl
nothing_once (suc n) (suc i) below = nothing_once n i (omega arith)

pub nothing_twice : (n m i : ℕ) → i < n + m → node_at (replicate n nothing ++ replicate m nothing) i ≡ nothing
nothing_twice zero m i below = nothing_once m i (omega arith)
nothing_twice (suc n) m zero below = refl
nothing_twice (suc n) m (suc i) below = nothing_twice n m i (omega arith)

pub nothing_least : (nodes : List Offer) → ((i : ℕ) → i < length nodes → node_at nodes i ≡ nothing) → AreLeast nodes
nothing_least nodes none = λ i two below.
    let same : weight_at nodes (i / 2) ≡ weight_at nodes i = ap weight (none (i / 2) (omega arith) ∙ sym (none i below)) in
    omega arith

pub nothing_attained : (nodes : List Offer) → ((i : ℕ) → i < length nodes → node_at nodes i ≡ nothing) → AreAttained nodes
nothing_attained nodes none = λ i some below. inl (none i (omega arith) ∙ sym (none (i + i) (omega arith)))
