-- What is offered before keys, as the rules of the second definition are gone through from the last to the first.
use Rattle.std.proofs.Common.{◌≡◌, ◌≢◌, ℕ, zero, suc, ◌+◌, ◌<◌, ◌≤◌, Bool, true, false, List, [], ◌∷◌, ◌++◌, length, take, drop, drop-cons, get_or, Option, Some, None, refl, sym, ap, subst, ◌∙◌, arith, inl, inr}
use Rattle.std.specs.Prelude.{◌⊎◌, ◌||◌, ◌==◌, nat_lt, if◌then◌else◌, position, reverse, slice_get, Contains}
use Rattle.std.specs.Option.{option_map_or}
use Rattle.std.proofs.lemmas.Bool.{eqb-true, eqb-false, ltb-true, ltb-false}
use Rattle.std.proofs.lemmas.Option.{none-some, same_Some}
use Rattle.std.proofs.lemmas.List.{reverse-append}
use Rattle.std.proofs.lemmas.List.Elements.{Contains-append_right}
use Rattle.std.proofs.lemmas.List.Folds.{list_any_more}
use Rattle.dia_wire.specs.declared.Key.{Key}
use Rattle.dia_book.specs.declared.DRule.{DRule}
use Rattle.dia_book.specs.declared.Slot.TheVariants as slot
use Rattle.dia_book.specs.Dictionary.{AreRules, is_fixed, lists_key, slot_at}
use Rattle.dia_valid.specs.Valid.{is_listed}
use Rattle.dia_valid.proofs.Entries.{at_position}
use Rattle.dia_valid.specs.Rules.{rule_of}
use Rattle.dia_valid.proofs.Members.{in_at}
use Rattle.dia_valid.proofs.RulesOfKeys.{is_listed_by}
use Rattle.dia_breaking_levels.specs.declared.floor.Floor.{Floor}
use Rattle.dia_breaking_levels.specs.declared.line.Line.{Line}
use Rattle.dia_breaking_levels.specs.declared.offers.Offer.{Offer}
use Rattle.dia_breaking_levels.specs.declared.offers.Offers.{Offers}
use Rattle.dia_breaking_levels.specs.Exact.{IsOrderAt, IsOrderOf, with_line, AreOrderLines, HasOrderLines}
use Rattle.dia_breaking_levels.specs.LevelTests.{too_long}
use Rattle.dia_breaking_levels.specs.Offers.{nothing, weight, offer_of, lesser, node_at, IsOffered, AreLess, MayCome, AreOfferedFrom, IsOfOne, AreHeldFrom, IsOtherFrom, AreTrueFrom, HasLine, HasOrdersFrom}
use Rattle.dia_breaking_levels.specs.OrderTests.{is_turned, pair_length}
use Rattle.dia_breaking_levels.specs.Places.{place_of, place, IsAtOrLast}
use Rattle.dia_breaking_levels.proofs.LineTurns.{turned_parts, place_least, ruled_is, unruled_is}
use Rattle.dia_breaking_levels.proofs.Places.{key_of}

-- ---- what is offered

-- what is offered stays so
pub kept : (listed other : Key → ℕ) (a b : List DRule) (new old : Offers) (x : Key) → AreLess a new old → IsOffered listed other a b old x → IsOffered listed other a b new x
kept listed other a b new old x less is = let le = less x in omega (arith, le, is)

pub less_twice : (a : List DRule) (new mid old : Offers) → AreLess a new mid → AreLess a mid old → AreLess a new old
less_twice a new mid old first second = λ x. let le = first x in let more = second x in omega (arith, le, more)

module _ (listed other : Key → ℕ) (a b : List DRule) (outer : Option Key) where
  -- a leaf takes the offer of a key, or stays
  pub held_put : (from leaf : ℕ) (new old : List Offer) (x : Key) (rule : DRule) → leaf ≡ length a + 1 + place a x → length old ≡ length a + 1 + (length a + 1)
      → (node_at new leaf ≡ node_at old leaf) ⊎ (node_at new leaf ≡ offer_of listed other a b x) → ((i : ℕ) → length old ≤ i + i → i ≢ leaf → node_at new i ≡ node_at old i)
      → rule_of a x ≡ Some rule → MayCome a b outer x → from ≤ place b x → AreHeldFrom listed other a b outer from old → AreHeldFrom listed other a b outer from new
  held_put from leaf new old x rule at size either others is may late before = λ p within. by p (p == place a x) refl (before p within)
    where
      stays : (p : ℕ) → node_at new (length a + 1 + p) ≡ node_at old (length a + 1 + p)
          → (node_at old (length a + 1 + p) ≡ nothing) ⊎ ((x : Key) × IsOfOne listed other a b outer from (node_at old (length a + 1 + p)) x × (is_listed a x ≡ true) × (place a x ≡ p))
          → (node_at new (length a + 1 + p) ≡ nothing) ⊎ ((x : Key) × IsOfOne listed other a b outer from (node_at new (length a + 1 + p)) x × (is_listed a x ≡ true) × (place a x ≡ p))
      stays p same (inl none) = inl (same ∙ none)
      stays p same (inr own) = inr (own.0, (same ∙ own.1.0, own.1.1, own.1.2), own.2, own.3)

      here : (p : ℕ) → p ≡ place a x → (node_at new leaf ≡ node_at old leaf) ⊎ (node_at new leaf ≡ offer_of listed other a b x)
          → (node_at old (length a + 1 + p) ≡ nothing) ⊎ ((x : Key) × IsOfOne listed other a b outer from (node_at old (length a + 1 + p)) x × (is_listed a x ≡ true) × (place a x ≡ p))
          → (node_at new (length a + 1 + p) ≡ nothing) ⊎ ((x : Key) × IsOfOne listed other a b outer from (node_at new (length a + 1 + p)) x × (is_listed a x ≡ true) × (place a x ≡ p))
      here p same (inl e) old_one =
          let there : length a + 1 + p ≡ leaf = omega (arith, same, at) in
          stays p (ap (node_at new) there ∙ e ∙ ap (node_at old) (sym there)) old_one
      here p same (inr e) old_one =
          let there : length a + 1 + p ≡ leaf = omega (arith, same, at) in
          inr (x, (ap (node_at new) there ∙ e, may, late), ruled_is a x rule is, sym same)

      by : (p : ℕ) (t : Bool) → (p == place a x) ≡ t
          → (node_at old (length a + 1 + p) ≡ nothing) ⊎ ((x : Key) × IsOfOne listed other a b outer from (node_at old (length a + 1 + p)) x × (is_listed a x ≡ true) × (place a x ≡ p))
          → (node_at new (length a + 1 + p) ≡ nothing) ⊎ ((x : Key) × IsOfOne listed other a b outer from (node_at new (length a + 1 + p)) x × (is_listed a x ≡ true) × (place a x ≡ p))
      by p true e old_one = here p (eqb-true p (place a x) e) either old_one
      by p false e old_one =
          let apart : p ≢ place a x = eqb-false p (place a x) e in
          stays p (others (length a + 1 + p) (omega (arith, size)) (λ q. absurd (apart (omega (arith, q, at))))) old_one

  -- of the others the lesser is retained
  pub other_put : (from : ℕ) (old : Offer) (x : Key) → rule_of a x ≡ None → MayCome a b outer x → from ≤ place b x → IsOtherFrom listed other a b outer from old
      → IsOtherFrom listed other a b outer from (lesser old (offer_of listed other a b x))
  other_put from old x is may late before = by (nat_lt (weight (offer_of listed other a b x)) (weight old))
    where
      by : (t : Bool) → IsOtherFrom listed other a b outer from (if t then offer_of listed other a b x else old)
      by true = inr (x, (refl, may, late), unruled_is a x is)
      by false = before

  -- after an earlier place
  pub true_lower : (i : ℕ) (offers : Offers) → AreTrueFrom listed other a b outer (i + 1) offers → AreTrueFrom listed other a b outer i offers
  true_lower i offers before = (λ p within. leaf p (before.0 p within), others before.1)
    where
      leaf : (p : ℕ) → (node_at offers.nodes.items (length a + 1 + p) ≡ nothing) ⊎
          ((x : Key) × IsOfOne listed other a b outer (i + 1) (node_at offers.nodes.items (length a + 1 + p)) x × (is_listed a x ≡ true) × (place a x ≡ p))
          → (node_at offers.nodes.items (length a + 1 + p) ≡ nothing) ⊎ ((x : Key) × IsOfOne listed other a b outer i (node_at offers.nodes.items (length a + 1 + p)) x × (is_listed a x ≡ true)
          × (place a x ≡ p))
      leaf p (inl none) = inl none
      leaf p (inr own) = let late = own.1.2 in inr (own.0, (own.1.0, own.1.1, omega (arith, late)), own.2, own.3)

      others : IsOtherFrom listed other a b outer (i + 1) offers.other → IsOtherFrom listed other a b outer i offers.other
      others (inl none) = inl none
      others (inr own) = let late = own.1.2 in inr (own.0, (own.1.0, own.1.1, omega (arith, late)), own.2)

  -- nothing is offered
  pub nothing_true : (from : ℕ) (offers : Offers) → ((i : ℕ) → i < length a + 1 + (length a + 1) → node_at offers.nodes.items i ≡ nothing) → offers.other ≡ nothing
      → AreTrueFrom listed other a b outer from offers
  nothing_true from offers empty none = (λ p within. inl (empty (length a + 1 + p) (omega (arith, within))), inl none)

-- ---- places

-- the rule at the place of a key is of that key
rule_there : (rules : List DRule) (x : Key) → place rules x < length rules → (r : DRule) × (slice_get rules (place rules x) ≡ Some r) × (r.key ≡ Some x)
rule_there rules x within = by (position (lists_key x) rules) refl
  where
    by : (o : Option ℕ) → position (lists_key x) rules ≡ o → (r : DRule) × (slice_get rules (place rules x) ≡ Some r) × (r.key ≡ Some x)
    by None p =
        let there : place rules x ≡ length rules = ap (λ (q : Option ℕ). place_of (length rules) (option_map_or (slot_at rules) q slot.Unlisted)) p in
        absurd (omega (arith, there, within))
    by (Some i) p =
        let r = at_position (lists_key x) rules i p in
        let there : place rules x ≡ place_of (length rules) (if is_fixed r.0 then slot.Fixed i else slot.Loose i) =
        ap (λ (q : Option ℕ). place_of (length rules) (option_map_or (slot_at rules) q slot.Unlisted)) p
        ∙ ap (λ (o : Option DRule). place_of (length rules) (option_map_or (λ rule. if is_fixed rule then slot.Fixed i else slot.Loose i) o slot.Unlisted)) r.1 in
        of i r.0 r.1 (key_of x r.0.key r.2) (is_fixed r.0) there
      where
        of : (i : ℕ) (r : DRule) → slice_get rules i ≡ Some r → r.key ≡ Some x → (t : Bool) → place rules x ≡ place_of (length rules) (if t then slot.Fixed i else slot.Loose i)
            → (r : DRule) × (slice_get rules (place rules x) ≡ Some r) × (r.key ≡ Some x)
        of i r at e true there = (r, ap (slice_get rules) there ∙ at, e)
        of i r at e false there = let last : place rules x ≡ length rules = there in absurd (omega (arith, last, within))

-- ---- rule by rule

-- a key of one rule more
pub one_rule_more : (rules : List DRule) (i : ℕ) (d : DRule) (x : Key) (P : Type 0) → i < length rules → (is_listed (take i rules) x ≡ true → P) → ((get_or rules i d).key ≡ Some x → P)
    → is_listed (take (i + 1) rules) x ≡ true → P
one_rule_more rules i d x P within before here e = by (is_listed (take i rules) x) refl (sym (list_any_more (lists_key x) rules i d within) ∙ e)
  where
    by : (t : Bool) → is_listed (take i rules) x ≡ t → (is_listed (take i rules) x || lists_key x (get_or rules i d)) ≡ true → P
    by true g h = before g
    by false g h = here (key_of x (get_or rules i d).key (sym (ap (λ (t : Bool). t || lists_key x (get_or rules i d)) g) ∙ h))

-- a key that a rule at the place is of, or one after it
pub offered_more : (listed other : Key → ℕ) (a b : List DRule) (outer : Option Key) (i : ℕ) (r : DRule) (new old : Offers) → slice_get b i ≡ Some r → i < length b → AreLess a new old
    → ((x : Key) → r.key ≡ Some x → place b x ≡ i → IsOffered listed other a b new x) → AreOfferedFrom listed other a b outer (i + 1) old → AreOfferedFrom listed other a b outer i new
offered_more listed other a b outer i r new old at within less here before = λ x may from. by x may from (place b x == i) refl
  where
    by : (x : Key) → MayCome a b outer x → i ≤ place b x → (t : Bool) → (place b x == i) ≡ t → IsOffered listed other a b new x
    by x may from true e =
        let same = eqb-true (place b x) i e in
        let own = rule_there b x (omega (arith, same, within)) in
        let one : r ≡ own.0 = same_Some r own.0 (sym at ∙ (ap (slice_get b) (sym same) ∙ own.1)) in
        here x (ap (λ (s : DRule). s.key) one ∙ own.2) same
    by x may from false e = kept listed other a b new old x less (before x may (let apart : place b x ≢ i = eqb-false (place b x) i e in omega (arith, from, apart)))

-- a rule of the list lists its key
pub listed_at : (rules : List DRule) (i : ℕ) (r : DRule) (x : Key) → slice_get rules i ≡ Some r → r.key ≡ Some x → is_listed rules x ≡ true
listed_at rules i r x at e = is_listed_by rules x r (in_at rules i r at) e

-- the place of a rule's key
pub at_or_last : (rules : List DRule) (i : ℕ) (r : DRule) → AreRules rules → slice_get rules i ≡ Some r → IsAtOrLast rules i r.key
at_or_last rules i r are at = λ y e. by y e (nat_lt (place rules y) (length rules)) refl
  where
    by : (y : Key) → r.key ≡ Some y → (t : Bool) → nat_lt (place rules y) (length rules) ≡ t → (place rules y ≡ i) ⊎ (place rules y ≡ length rules)
    by y e true lt =
        let own = rule_there rules y (ltb-true (place rules y) (length rules) lt) in
        inl (are.distinct (place rules y) i own.0 r own.1 at (own.2 ∙ sym e))
    by y e false ge =
        let le = ltb-false (place rules y) (length rules) ge in
        let most = place_least rules y in
        inr (omega (arith, le, most))

module _ (f : Floor) (listed other : Key → ℕ) (a b : List DRule) (outer : Option Key) where
  pub order_lines_more : (i : ℕ) (d : DRule) (recorded : Option Line) (new old : List Line) → i < length b → IsOrderOf f listed other a b outer (get_or b i d).key recorded → new ≡ old ++ with_line recorded []
      → AreOrderLines f listed other a b outer (drop (i + 1) b) (reverse old) → AreOrderLines f listed other a b outer (drop i b) (reverse new)
  order_lines_more i d recorded new old within is same before =
      subst (λ (rules : List DRule). AreOrderLines f listed other a b outer rules (reverse new)) (sym (drop-cons b i d within))
      (recorded, reverse old, is, ap reverse same ∙ reverse-append old (with_line recorded []) ∙ by recorded, one)
    where
      by : (o : Option Line) → reverse (with_line o []) ++ reverse old ≡ with_line o (reverse old)
      by None = refl
      by (Some line) = refl

      one : AreOrderLines f listed other a b outer (drop (suc i) b) (reverse old)
      one = let next : i + 1 ≡ suc i = omega arith in subst (λ (k : ℕ). AreOrderLines f listed other a b outer (drop k b) (reverse old)) next before

  -- each rule has its line
  line_recorded : (rules : List DRule) (lines : List Line) (i : ℕ) (r : DRule) → AreOrderLines f listed other a b outer rules lines → slice_get rules i ≡ Some r
      → (recorded : Option Line) × IsOrderOf f listed other a b outer r.key recorded × ((line : Line) → recorded ≡ Some line → Contains lines line)
  line_recorded [] lines i r are at = absurd (none-some r at)
  line_recorded (rule ∷ rules) lines zero r are at =
      let same : rule ≡ r = same_Some rule r at in (
        are.0,
        subst (λ (s : DRule). IsOrderOf f listed other a b outer s.key are.0) same are.2,
        λ line e. subst (λ (ls : List Line). Contains ls line) (sym (are.3 ∙ ap (λ (o : Option Line). with_line o are.1) e)) (0, omega arith, refl),
      )
  line_recorded (rule ∷ rules) lines (suc i) r are at =
      let own = line_recorded rules are.1 i r are.4 at in
      (own.0, own.1, λ line e. subst (λ (ls : List Line). Contains ls line) (sym are.3) (following are.0 line (own.2 line e)))
    where
      following : (o : Option Line) (line : Line) → Contains are.1 line → Contains (with_line o are.1) line
      following None line there = there
      following (Some first) line there = let within = there.1 in (suc there.0, omega (arith, within), there.2)

  -- so each key that another may precede too early has one that is no longer than their least level
  pub orders_shown : (lines all : List Line) → HasOrderLines f listed other a b outer lines all → HasOrdersFrom f listed other a b outer 0 all
  orders_shown lines all has = λ y x may from turned short.
      let following = (turned_parts a b y x turned).1 in
      let most = place_least b x in
      let own = rule_there b y (omega (arith, following, most)) in
      let recorded = line_recorded b has.0 (place b y) own.0 has.2 own.1 in
      by y x (may, turned) short recorded.0 (subst (λ (k : Option Key). IsOrderOf f listed other a b outer k recorded.0) own.2 recorded.1)
      (λ line e. subst (λ (ls : List Line). Contains ls line) (sym has.1) (Contains-append_right lines has.0 line (recorded.2 line e)))
    where
      by : (y x : Key) → MayCome a b outer x × (is_turned a b y x ≡ true) → pair_length f listed other a y x < too_long → (recorded : Option Line) → IsOrderAt f listed other a b outer y recorded
          → ((line : Line) → recorded ≡ Some line → Contains all line) → HasLine all y (pair_length f listed other a y x)
      by y x may short None is there = let long = is x may in absurd (omega (arith, long, short))
      by y x may short (Some line) is there =
          let own : line.length ≡ pair_length f listed other a y is.0 = ap (λ (l : Line). l.length) is.4 in
          let le = (is.2 x may).0 in
          (line, there line refl, ap (λ (l : Line). l.reason) is.4, ap (λ (l : Line). l.key) is.4, omega (arith, own, le))
