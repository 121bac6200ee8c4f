-- Each level that is late by the second definition shows a line of the order.
use Rattle.std.proofs.Common.{◌≡◌, ℕ, ◌+◌, ◌<◌, ◌≤◌, Bool, true, false, List, [], ◌∷◌, length, Option, Some, None, refl, sym, ap, subst, ◌∙◌, arith, inl, inr}
use Rattle.std.specs.Prelude.{not, ◌&&◌, nat_le, nat_lt, find, Contains, if◌then◌else◌}
use Rattle.std.specs.Option.{option_map_or}
use Rattle.std.proofs.lemmas.Bool.{lt-ltb, le-leb}
use Rattle.dia_wire.specs.declared.Key.{Key}
use Rattle.dia_book.specs.declared.DRule.{DRule}
use Rattle.dia_book.specs.Dictionary.{AreRules, is_fixed}
use Rattle.dia_book.proofs.Members.{at_find}
use Rattle.dia_valid.specs.Valid.{Placed, fixed_rules, is_listed}
use Rattle.dia_valid.proofs.Entries.{fixed_few}
use Rattle.dia_valid.specs.Rules.{rule_of, wildcard_of}
use Rattle.dia_valid.proofs.Members.{IsIn, in_at, in_filter}
use Rattle.dia_valid.proofs.RulesOfKeys.{is_listed_by}
use Rattle.dia_breaking_levels.specs.declared.floor.Floor.{Floor}
use Rattle.dia_breaking_levels.specs.declared.line.Line.{Line}
use Rattle.dia_breaking_levels.specs.declared.line.Reason.{Reason}
use Rattle.dia_breaking_levels.specs.declared.line.Reason.TheVariants.{Order}
use Rattle.dia_breaking_levels.specs.CountsAndRanks.{rank}
use Rattle.dia_breaking_levels.specs.Breaches.{IsLate}
use Rattle.dia_breaking_levels.specs.LeastLevels.{total}
use Rattle.dia_breaking_levels.specs.Orders.{IsTurned}
use Rattle.dia_breaking_levels.specs.Places.{place}
use Rattle.dia_breaking_levels.specs.LevelTests.{too_long, capped, price, filler, is_outside}
use Rattle.dia_breaking_levels.specs.Levels.{ShowsAt, Shows, FirstIsShortest}
use Rattle.dia_breaking_levels.specs.OrderTests.{is_turned, beyond, by_wild, with_others, pair_length}
use Rattle.dia_breaking_levels.specs.Offers.{MayCome, HasLine, HasOrdersFrom}
use Rattle.dia_breaking_levels.proofs.CountsAndRanks.{rules_sound, ranked}
use Rattle.dia_breaking_levels.proofs.Orders.{late_turned, turned_apart}
use Rattle.dia_breaking_levels.proofs.Places.{Placing, placing}
use Rattle.dia_breaking_levels.proofs.LineBounds.{IsFloor, is_rule}
use Rattle.dia_breaking_levels.proofs.LineTurns.{others_more}
use Rattle.dia_breaking_levels.proofs.LeastLevels.{not_both}
use Rattle.dia_breaking_levels.proofs.OrderBounds.{pair_within}

-- ---- the test of an order

both_true : (t u : Bool) → t ≡ true → u ≡ true → (t && u) ≡ true
both_true t u e g = ap (λ (v : Bool). v && u) e ∙ g

places_within : (rules : List DRule) (x y : Key) → AreRules rules → rank (fixed_rules rules) x ≤ rank (fixed_rules rules) y → place rules x ≤ place rules y
places_within rules x y are le = by (placing rules x are) (placing rules y are)
  where
    by : Placing rules x → Placing rules y → place rules x ≤ place rules y
    by (inl p) (inl q) = omega (arith, p.0, q.0, le)
    by (inl p) (inr q) = let few = fixed_few rules in omega (arith, p.0, p.1, q.0, few)
    by (inr p) (inl q) = absurd (omega (arith, p.1, q.1, le))
    by (inr p) (inr q) = omega (arith, p.0, q.0)

places_below : (rules : List DRule) (x y : Key) → AreRules rules → rank (fixed_rules rules) y < rank (fixed_rules rules) x → place rules y < place rules x
places_below rules x y are lt = by (placing rules x are) (placing rules y are)
  where
    by : Placing rules x → Placing rules y → place rules y < place rules x
    by (inl p) (inl q) = omega (arith, p.0, q.0, lt)
    by (inl p) (inr q) = absurd (omega (arith, p.1, q.1, lt))
    by (inr p) (inl q) = let few = fixed_few rules in omega (arith, p.0, q.0, q.1, few)
    by (inr p) (inr q) = absurd (omega (arith, p.1, q.1, lt))

pub turned_test : (a b : List DRule) (x y : Key) → AreRules a → AreRules b → IsTurned a b x y → is_turned a b y x ≡ true
turned_test a b x y are_a are_b t =
    both_true (nat_le (place a x) (place a y)) (nat_lt (place b y) (place b x)) (le-leb (place a x) (place a y) (places_within a x y are_a t.first))
    (lt-ltb (place b y) (place b x) (places_below b x y are_b t.second))

-- a key that no rule lists comes after them all
unlisted_last : (rules : List DRule) (k : Key) → AreRules rules → is_listed rules k ≡ false → place rules k ≡ length rules
unlisted_last rules k are none = by (placing rules k are)
  where
    by : Placing rules k → place rules k ≡ length rules
    by (inl p) =
        let r = ranked (fixed_rules rules) k p.1 in
        let own = in_filter is_fixed rules r.0 r.1 in
        absurd (not_both (is_listed rules k) (is_listed_by rules k r.0 own.0 r.2) none)
    by (inr p) = p.0

unruled : (rules : List DRule) (k : Key) → is_listed rules k ≡ false → rule_of rules k ≡ None
unruled rules k none = by (rule_of rules k) refl
  where
    by : (o : Option DRule) → rule_of rules k ≡ o → rule_of rules k ≡ None
    by None e = e
    by (Some r) e = let own = is_rule rules k r e in absurd (not_both (is_listed rules k) (is_listed_by rules k r own.0 own.1) none)

-- ---- keys that neither lists represent one another

one_of_total : (cost : Key → ℕ) (keys : List Key) (x : Key) → IsIn x keys → cost x ≤ total cost keys
one_of_total cost [] x i = absurd i
one_of_total cost (k ∷ keys) x (inl same) = let own = ap cost same in omega (arith, own)
one_of_total cost (k ∷ keys) x (inr i) = let ih = one_of_total cost keys x i in omega (arith, ih)

outside_parts : (t u : Bool) → (not t && not u) ≡ true → (t ≡ false) × (u ≡ false)
outside_parts false false h = (refl, refl)
outside_parts true u h = absurd (let g : false ≡ true = h in cc)
outside_parts false true h = absurd (let g : false ≡ true = h in cc)

module _ (f : Floor) (listed other : Key → ℕ) (others : List Key) (a b : List DRule) (are_a : AreRules a) (are_b : AreRules b) (is : IsFloor f listed other a b) (wild : f.wild ≡ wildcard_of a)
    (shortest : FirstIsShortest other others a b) where
  abbrev outer : Option Key
  outer = find (is_outside a b) others

  same_pair : (y x o : Key) → rule_of a x ≡ None → rule_of a o ≡ None → other o ≤ other x → pair_length f listed other a y o ≤ pair_length f listed other a y x
  same_pair y x o none none_o le =
      let more = others_more f.base (filler f) (1 + by_wild (rule_of a y)) (capped (capped (other o) + beyond listed other y (rule_of a y)))
      (capped (capped (other x) + beyond listed other y (rule_of a y))) f.wild (omega (arith, le)) in
      subst (λ (p : Option DRule). with_others f.base (filler f) (by_wild p + by_wild (rule_of a y)) (capped (beyond listed other o p + beyond listed other y (rule_of a y))) f.wild ≤ pair_length f
      listed other a y x) (sym none_o)
      (subst (λ (p : Option DRule). with_others f.base (filler f) (1 + by_wild (rule_of a y)) (capped (capped (other o) + beyond listed other y (rule_of a y))) f.wild
      ≤ with_others f.base (filler f) (by_wild p + by_wild (rule_of a y)) (capped (beyond listed other x p + beyond listed other y (rule_of a y))) f.wild) (sym none) more)

  same_turned : (y x o : Key) → is_listed a x ≡ false → is_listed b x ≡ false → is_listed a o ≡ false → is_listed b o ≡ false → is_turned a b y x ≡ true → is_turned a b y o ≡ true
  same_turned y x o e e' g g' h =
      let first : place a o ≡ place a x = unlisted_last a o are_a g ∙ sym (unlisted_last a x are_a e) in
      let second : place b o ≡ place b x = unlisted_last b o are_b g' ∙ sym (unlisted_last b x are_b e') in
      ap (λ (n : ℕ). nat_le n (place a y) && nat_lt (place b y) (place b o)) first ∙ ap (λ (n : ℕ). nat_le (place a x) (place a y) && nat_lt (place b y) n) second ∙ h

  -- so a key for which a line was found is no matter
  found_within : (lines : List Line) → HasOrdersFrom f listed other a b outer 0 lines → (keys : List Key) (y x : Key) → total (price listed other a) keys < too_long → IsIn x keys
      → is_turned a b y x ≡ true
      → pair_length f listed other a y x ≤ total (price listed other a) keys → HasLine lines y (total (price listed other a) keys)
  found_within lines orders keys y x room i turned le = by (is_listed a x) refl (is_listed b x) refl
    where
      of : (z : Key) → MayCome a b outer z → is_turned a b y z ≡ true → pair_length f listed other a y z ≤ total (price listed other a) keys → HasLine lines y (total (price listed other a) keys)
      of z may test within =
          let l = orders y z may (omega arith) test (omega (arith, within, room)) in
          let short = l.4 in
          (l.0, l.1, l.2, l.3, omega (arith, short, within))

      by_outer : (o : Option Key) → outer ≡ o → is_listed a x ≡ false → is_listed b x ≡ false → HasLine lines y (total (price listed other a) keys)
      by_outer None e none none_b =
          let long = shortest x none none_b in
          let same : option_map_or other outer too_long ≡ too_long = ap (λ (o : Option Key). option_map_or other o too_long) e in
          let own = one_of_total (price listed other a) keys x i in
          let priced : price listed other a x ≡ other x = ap (λ (t : Bool). if t then listed x else other x) none in
          absurd (omega (arith, long, same, own, priced, room))
      by_outer (Some o) e none none_b =
          let found = at_find (is_outside a b) others o e in
          let parts = outside_parts (is_listed a o) (is_listed b o) found.2 in
          let long = shortest x none none_b in
          let same : option_map_or other outer too_long ≡ other o = ap (λ (q : Option Key). option_map_or other q too_long) e in
          let more = same_pair y x o (unruled a x none) (unruled a o parts.0) (omega (arith, long, same)) in
          of o (inr (inr e)) (same_turned y x o none none_b parts.0 parts.1 turned) (omega (arith, more, le))

      by : (t : Bool) → is_listed a x ≡ t → (u : Bool) → is_listed b x ≡ u → HasLine lines y (total (price listed other a) keys)
      by true e u g = of x (inl e) turned le
      by false e true g = of x (inr (inl g)) turned le
      by false e false g = by_outer outer refl e g

  -- keys that are placed by the first and late by the second show the line of the later one
  pub late_shown : (lines : List Line) → HasOrdersFrom f listed other a b outer 0 lines → (keys : List Key) → Placed a keys → total (price listed other a) keys < too_long → IsLate (fixed_rules b) keys
      → (line : Line) × Contains lines line × Shows (price listed other a) a b keys line
  late_shown lines orders keys placed room l =
      let sound = rules_sound a are_a in
      let turned = late_turned a b keys sound placed l in
      let apart = turned_apart a b l.x l.y turned in
      let i = in_at keys l.early l.x l.is_x in
      let j = in_at keys l.late l.y l.is_y in
      let pair = pair_within f listed other a b keys is sound placed l.x l.y (rule_of a l.x) (rule_of a l.y) apart refl refl i j in
      let same : pair_length f listed other a l.y l.x
      ≡ with_others f.base (filler f) (by_wild (rule_of a l.x) + by_wild (rule_of a l.y)) (capped (beyond listed other l.x (rule_of a l.x) + beyond listed other l.y (rule_of a l.y))) (wildcard_of a) =
      ap (λ (o : Option DRule). with_others f.base (filler f) (by_wild (rule_of a l.x) + by_wild (rule_of a l.y))
      (capped (beyond listed other l.x (rule_of a l.x) + beyond listed other l.y (rule_of a l.y))) o) wild in
      let line = found_within lines orders keys l.y l.x room i (turned_test a b l.x l.y are_a are_b turned) (omega (arith, pair, same)) in (
        line.0,
        line.1,
        (subst (λ (r : Reason). ShowsAt a b keys r line.0.key) (sym line.2) (subst (λ (o : Option Key). ShowsAt a b keys Order o) (sym line.3) (l, refl)), line.4),
      )
