-- Each level that the second definition does not place shows a line, or is late.
use Rattle.std.proofs.Common.{◌≡◌, ℕ, ◌+◌, ◌-◌, ◌<◌, ◌≤◌, Bool, true, false, List, Option, Some, None, refl, sym, ap, subst, ◌∙◌, arith, inl, inr}
use Rattle.std.specs.Prelude.{◌⊎◌, not, option_and_then, ◌||◌, ◌==◌, IsTrue, is_some, filter_map, Contains, if◌then◌else◌}
use Rattle.std.specs.Option.{option_map_or}
use Rattle.std.proofs.lemmas.Bool.{lt-ltb, ne_eqb}
use Rattle.dia_wire.specs.declared.Key.{Key}
use Rattle.dia_book.specs.declared.DRule.{DRule}
use Rattle.dia_book.specs.Keys.{same_key}
use Rattle.dia_book.proofs.SameKeys.{same_key-refl}
use Rattle.dia_book.proofs.Members.{find-is_some}
use Rattle.dia_valid.specs.Valid.{Placed, fixed_rules, is_listed, is_wildcard, has_wildcard}
use Rattle.dia_valid.specs.Rules.{HasRule, HasWildcard, rule_of, wildcard_of}
use Rattle.dia_valid.proofs.Members.{IsIn, in_contains, contains_in, in_left, in_right, any_in, in_any, count_in, in_filter_map}
use Rattle.dia_breaking_levels.specs.declared.floor.Floor.{Floor}
use Rattle.dia_breaking_levels.specs.declared.line.Line.{Line}
use Rattle.dia_breaking_levels.specs.declared.line.Reason.{Reason}
use Rattle.dia_breaking_levels.specs.declared.line.Reason.TheVariants.{Missing, TooMany, NotAllowed, NotAllowedOther, MissingOthers, TooManyOthers}
use Rattle.dia_breaking_levels.specs.CountsAndRanks.{AreSound, times, strangers}
use Rattle.dia_breaking_levels.specs.Breaches.{IsLate, Breach}
use Rattle.dia_breaking_levels.specs.Breaches.Breach.{Few, Many, Not_allowed, Few_others, Many_others, Late}
use Rattle.dia_breaking_levels.specs.LeastLevels.{total}
use Rattle.dia_breaking_levels.specs.LevelTests.{too_long, price, filler, at_least, at_most, few_others, listed_at_least, other_at_least}
use Rattle.dia_breaking_levels.specs.LevelTests.{missing_length, too_many_length, not_allowed_length, not_allowed_other_length, missing_others_length, too_many_others_length, length_of, line_of, lines_of}
use Rattle.dia_breaking_levels.specs.Steps.{greatest, IsLeastMost}
use Rattle.dia_breaking_levels.specs.Levels.{ShowsAt, Shows, HasEachLine}
use Rattle.dia_breaking_levels.proofs.CountsAndRanks.{placed-in_place, one_rule}
use Rattle.dia_breaking_levels.proofs.Breaches.{placed_or_breach}
use Rattle.dia_breaking_levels.proofs.LeastLevels.{not_both}
use Rattle.dia_breaking_levels.proofs.LevelBounds.{is_wild, listed_at_least_within}
use Rattle.dia_breaking_levels.proofs.LineBounds.{IsFloor, cheapest_of, at_least_within, at_most_within}
use Rattle.dia_breaking_levels.proofs.FewBounds.{few_others_within, outside_within}
use Rattle.dia_breaking_levels.proofs.ManyBounds.{many_others_within}
use Rattle.dia_breaking_levels.proofs.FloorBounds.{rule_of_listed}

-- a wildcard of a definition with distinct keys is the one that is found
pub the_wildcard : (b : List DRule) (w : DRule) → AreSound b → HasWildcard b w → wildcard_of b ≡ Some w
the_wildcard b w sound has = by (wildcard_of b) refl
  where
    own : IsTrue (is_wildcard w)
    own = ap (λ (o : Option Key). not (is_some o)) has.1

    by : (o : Option DRule) → wildcard_of b ≡ o → wildcard_of b ≡ Some w
    by None e =
        let some = in_any is_wildcard b w (in_contains b w has.0) own in
        let none : has_wildcard b ≡ false = sym (find-is_some is_wildcard b) ∙ ap (λ (o : Option DRule). is_some o) e in
        absurd (not_both (has_wildcard b) some none)
    by (Some v) e =
        let found = is_wild b v e in
        let same : v ≡ w = one_rule b v w sound found.0 (in_contains b w has.0) (found.1 ∙ sym has.1) in
        e ∙ ap (λ (r : DRule). Some r) same

-- each level is placed by the second definition, or shows one of these lines, or only its order is wrong
abbrev pub OrLate : (Key → ℕ) → List DRule → List DRule → List Line → Type 0
OrLate length a b lines =
    (keys : List Key) → Placed a keys → total length keys < too_long → Placed b keys ⊎ ((line : Line) × Contains lines line × Shows length a b keys line) ⊎ IsLate (fixed_rules b) keys

module _ (f : Floor) (most : ℕ) (listed other : Key → ℕ) (a b : List DRule) (sound : AreSound a) (sound_b : AreSound b) (is : IsFloor f listed other a b) (wild : f.wild ≡ wildcard_of a)
    (lets : f.lets_in ≡ has_wildcard b)
    (is_most : IsLeastMost listed f a b most) where
  abbrev length : Key → ℕ
  length = price listed other a

  abbrev shown : List Key → Type 0
  shown keys = (line : Line) × Contains (lines_of f most listed other a b) line × Shows length a b keys line

  abbrev lines_by : Reason → List DRule → List Line
  lines_by reason rules = filter_map (line_of reason f most listed other a b) rules

  -- the line of a rule whose length is no more than what the keys are long
  line_in : (keys : List Key) (reason : Reason) (rules : List DRule) (r : DRule) → total length keys < too_long → IsIn r rules → length_of reason f most listed other a b r ≤ total length keys
      → ((line : Line) → IsIn line (lines_by reason rules) → IsIn line (lines_of f most listed other a b)) → ShowsAt a b keys reason r.key → shown keys
  line_in keys reason rules r room i le into shows =
      let short = lt-ltb (length_of reason f most listed other a b r) too_long (omega (arith, room, le)) in
      let is_line : line_of reason f most listed other a b r ≡ Some (record { reason = reason; key = r.key; following = None; length = length_of reason f most listed other a b r }) =
      ap (λ (t : Bool). if t then Some (record { reason = reason; key = r.key; following = None; length = length_of reason f most listed other a b r }) else None) short in
      let there = in_filter_map (line_of reason f most listed other a b) rules r (record { reason = reason; key = r.key; following = None; length = length_of reason f most listed other a b r }) i
      is_line in (
        record { reason = reason; key = r.key; following = None; length = length_of reason f most listed other a b r },
        contains_in (lines_of f most listed other a b)
            (record { reason = reason; key = r.key; following = None; length = length_of reason f most listed other a b r })
            (into (record { reason = reason; key = r.key; following = None; length = length_of reason f most listed other a b r }) there),
        (shows, le),
      )

  -- ---- where the lines of a reason are

  in_missing : (line : Line) → IsIn line (lines_by Missing b) → IsIn line (lines_of f most listed other a b)
  in_missing line i =
      in_left _ (lines_by TooManyOthers b) line
      (in_left _ (lines_by MissingOthers b) line (in_left _ (lines_by NotAllowedOther a) line (in_left _ (lines_by NotAllowed a) line (in_left (lines_by Missing b) (lines_by TooMany b) line i))))

  in_too_many : (line : Line) → IsIn line (lines_by TooMany b) → IsIn line (lines_of f most listed other a b)
  in_too_many line i =
      in_left _ (lines_by TooManyOthers b) line
      (in_left _ (lines_by MissingOthers b) line (in_left _ (lines_by NotAllowedOther a) line (in_left _ (lines_by NotAllowed a) line (in_right (lines_by Missing b) (lines_by TooMany b) line i))))

  in_not_allowed : (line : Line) → IsIn line (lines_by NotAllowed a) → IsIn line (lines_of f most listed other a b)
  in_not_allowed line i =
      in_left _ (lines_by TooManyOthers b) line (in_left _ (lines_by MissingOthers b) line (in_left _ (lines_by NotAllowedOther a) line (in_right _ (lines_by NotAllowed a) line i)))

  in_not_allowed_other : (line : Line) → IsIn line (lines_by NotAllowedOther a) → IsIn line (lines_of f most listed other a b)
  in_not_allowed_other line i = in_left _ (lines_by TooManyOthers b) line (in_left _ (lines_by MissingOthers b) line (in_right _ (lines_by NotAllowedOther a) line i))

  in_missing_others : (line : Line) → IsIn line (lines_by MissingOthers b) → IsIn line (lines_of f most listed other a b)
  in_missing_others line i = in_left _ (lines_by TooManyOthers b) line (in_right _ (lines_by MissingOthers b) line i)

  in_too_many_others : (line : Line) → IsIn line (lines_by TooManyOthers b) → IsIn line (lines_of f most listed other a b)
  in_too_many_others line i = in_right _ (lines_by TooManyOthers b) line i

  -- ---- each breach

  not_zero : (n m : ℕ) → m < n → (n == 0) ≡ false
  not_zero n m less = ne_eqb n 0 (λ e. omega (arith, less, e))

  few : (keys : List Key) → Placed a keys → total length keys < too_long → (key : Key) (rule : DRule) → HasRule b key rule → times key keys < rule.min → shown keys
  few keys placed room key rule has below =
      let least = at_most_within f listed other a b keys is sound placed key (rule.min - 1) (rule_of a key) refl (omega (arith, below)) in
      let own : missing_length f a rule ≡ at_most f key (rule.min - 1) (rule_of a key) f.wild =
      ap (λ (o : Option Key). option_map_or (λ k. if rule.min == 0 then too_long else at_most f k (rule.min - 1) (rule_of a k) f.wild) o too_long) has.1
      ∙ ap (λ (t : Bool). if t then too_long else at_most f key (rule.min - 1) (rule_of a key) f.wild) (not_zero rule.min (times key keys) below) in
      let same = ap (λ (o : Option DRule). at_most f key (rule.min - 1) (rule_of a key) o) wild in
      line_in keys Missing b rule room (in_contains b rule has.0) (omega (arith, least, own, same)) in_missing (subst (λ (o : Option Key). ShowsAt a b keys Missing o) (sym has.1) (rule, has, below))

  many : (keys : List Key) → Placed a keys → total length keys < too_long → (key : Key) (rule : DRule) (max : ℕ) → HasRule b key rule → rule.max ≡ Some max → max < times key keys → shown keys
  many keys placed room key rule max has is_max above =
      let least = at_least_within f listed other a b keys is sound placed key (max + 1) (rule_of a key) refl (omega arith) (omega (arith, above)) in
      let own : too_many_length f listed other a rule ≡ at_least f listed other key (max + 1) (rule_of a key) f.wild =
      ap (λ (o : Option Key). option_map_or (λ k. option_map_or (λ m. at_least f listed other k (m + 1) (rule_of a k) f.wild) rule.max too_long) o too_long) has.1
      ∙ ap (λ (o : Option ℕ). option_map_or (λ m. at_least f listed other key (m + 1) (rule_of a key) f.wild) o too_long) is_max in
      let same = ap (λ (o : Option DRule). at_least f listed other key (max + 1) (rule_of a key) o) wild in
      line_in keys TooMany b rule room (in_contains b rule has.0) (omega (arith, least, own, same)) in_too_many
      (subst (λ (o : Option Key). ShowsAt a b keys TooMany o) (sym has.1) (rule, max, has, is_max, above))

  neither : (t u : Bool) → t ≡ false → u ≡ false → (t || u) ≡ false
  neither false false e g = refl
  neither true u e g = absurd (let h : true ≡ false = e in cc)
  neither false true e g = absurd (let h : true ≡ false = g in cc)

  not_allowed : (keys : List Key) → Placed a keys → total length keys < too_long → (key : Key) → Contains keys key → is_listed b key ≡ false → has_wildcard b ≡ false → shown keys
  not_allowed keys placed room key comes unlisted closed = by (is_listed a key) refl
    where
      by : (t : Bool) → is_listed a key ≡ t → shown keys
      by true e =
          let r = rule_of_listed a key e in
          let some = count_in (λ (q : Key). same_key q key) keys key (in_contains keys key comes) (same_key-refl key) in
          let least = listed_at_least_within a listed other (filler f) keys sound placed (cheapest_of f listed other a b keys is sound placed) f.base r.0 key 1 is.base r.1 r.2 some in
          let own : not_allowed_length f listed b r.0 ≡ listed_at_least f.base (listed key) 1 r.0 =
          ap (λ (o : Option Key). option_map_or (λ k. if f.lets_in || is_listed b k then too_long else listed_at_least f.base (listed k) 1 r.0) o too_long) r.2
          ∙ ap (λ (u : Bool). if u then too_long else listed_at_least f.base (listed key) 1 r.0) (neither f.lets_in (is_listed b key) (lets ∙ closed) unlisted) in
          line_in keys NotAllowed a r.0 room r.1 (omega (arith, least, own)) in_not_allowed (subst (λ (o : Option Key). ShowsAt a b keys NotAllowed o) (sym r.2) (comes, unlisted, closed))
      by false e =
          let w = any_in is_wildcard a ((placed-in_place a keys sound placed).allowed key comes e) in
          let keyless = no_key w.0.key w.2 in
          let least = outside_within f listed other a b keys is sound placed key (in_contains keys key comes) e unlisted in
          let free : (f.lets_in || is_some w.0.key) ≡ false = neither f.lets_in (is_some w.0.key) (lets ∙ closed) (ap (λ (o : Option Key). is_some o) keyless) in
          let own : not_allowed_other_length f w.0 ≡ other_at_least f.base (filler f) f.outer 1 f.wild =
          ap (λ (u : Bool). if u then too_long else other_at_least f.base (filler f) f.outer 1 f.wild) free in
          let same = ap (λ (o : Option DRule). other_at_least f.base (filler f) f.outer 1 o) wild in
          line_in keys NotAllowedOther a w.0 room w.1 (omega (arith, least, own, same)) in_not_allowed_other
          (subst (λ (o : Option Key). ShowsAt a b keys NotAllowedOther o) (sym keyless) (key, comes, e, unlisted, closed))
        where
          no_key : (o : Option Key) → not (is_some o) ≡ true → o ≡ None
          no_key None h = refl
          no_key (Some k) h = absurd (let g : false ≡ true = h in cc)

  few_by_wild : (keys : List Key) → Placed a keys → total length keys < too_long → (w : DRule) → HasWildcard b w → strangers b keys < w.min → shown keys
  few_by_wild keys placed room w has below =
      let least = few_others_within f listed other a b keys is sound placed (w.min - 1) (omega (arith, below)) in
      let free : (is_some w.key || (w.min == 0)) ≡ false = neither (is_some w.key) (w.min == 0) (ap (λ (o : Option Key). is_some o) has.1) (not_zero w.min (strangers b keys) below) in
      let own : missing_others_length f w ≡ few_others f (w.min - 1) f.wild = ap (λ (u : Bool). if u then too_long else few_others f (w.min - 1) f.wild) free in
      let same = ap (λ (o : Option DRule). few_others f (w.min - 1) o) wild in
      line_in keys MissingOthers b w room (in_contains b w has.0) (omega (arith, least, own, same)) in_missing_others
      (subst (λ (o : Option Key). ShowsAt a b keys MissingOthers o) (sym has.1) (w, has, below))

  many_by_wild : (keys : List Key) → Placed a keys → total length keys < too_long → (w : DRule) (max : ℕ) → HasWildcard b w → w.max ≡ Some max → max < strangers b keys → shown keys
  many_by_wild keys placed room w max has is_max above =
      let the = the_wildcard b w sound_b has in
      let greatest_is : greatest b ≡ Some max = ap (λ (o : Option DRule). option_and_then (λ (r : DRule). r.max) o) the ∙ is_max in
      let cut = is_most max greatest_is in
      let least = many_others_within f listed other a b keys is sound placed (max + 1) cut.0 (omega (arith, above)) cut.2 in
      let free : (is_some w.key || not (is_some w.max)) ≡ false = neither (is_some w.key) (not (is_some w.max)) (ap (λ (o : Option Key). is_some o) has.1)
      (ap (λ (o : Option ℕ). not (is_some o)) is_max) in
      let own : too_many_others_length most w ≡ most = ap (λ (u : Bool). if u then too_long else most) free in
      let same = cut.1 in
      line_in keys TooManyOthers b w room (in_contains b w has.0) (omega (arith, least, own, same)) in_too_many_others
      (subst (λ (o : Option Key). ShowsAt a b keys TooManyOthers o) (sym has.1) (w, max, has, is_max, above))

  pub each_line : OrLate length a b (lines_of f most listed other a b)
  each_line keys placed room = by (placed_or_breach b keys sound_b)
    where
      by : Placed b keys ⊎ Breach b keys → Placed b keys ⊎ shown keys ⊎ IsLate (fixed_rules b) keys
      by (inl done) = inl done
      by (inr (Few key rule has below)) = inr (inl (few keys placed room key rule has below))
      by (inr (Many key rule max has is_max above)) = inr (inl (many keys placed room key rule max has is_max above))
      by (inr (Not_allowed key comes unlisted closed)) = inr (inl (not_allowed keys placed room key comes unlisted closed))
      by (inr (Few_others w has below)) = inr (inl (few_by_wild keys placed room w has below))
      by (inr (Many_others w max has is_max above)) = inr (inl (many_by_wild keys placed room w max has is_max above))
      by (inr (Late late)) = inr (inr late)

-- with the lines of the order each shows one
pub with_orders : (length : Key → ℕ) (a b : List DRule) (counts first all : List Line) → first ≡ counts → ((line : Line) → Contains first line → Contains all line) → OrLate length a b counts
    → ((keys : List Key) → Placed a keys → total length keys < too_long → IsLate (fixed_rules b) keys → (line : Line) × Contains all line × Shows length a b keys line) → HasEachLine length a b all
with_orders length a b counts first all is kept each late_shown = λ keys placed room. by keys placed room (each keys placed room)
  where
    by : (keys : List Key) → Placed a keys → total length keys < too_long → Placed b keys ⊎ ((line : Line) × Contains counts line × Shows length a b keys line) ⊎ IsLate (fixed_rules b) keys
        → Placed b keys ⊎ ((line : Line) × Contains all line × Shows length a b keys line)
    by keys placed room (inl done) = inl done
    by keys placed room (inr (inl shown)) = inr (shown.0, kept shown.0 (subst (λ (ls : List Line). Contains ls shown.0) (sym is) shown.1), shown.2)
    by keys placed room (inr (inr late)) = inr (late_shown keys placed room late)
