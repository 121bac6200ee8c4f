-- What is first in a list of missing rules, and what the rules say first of one key more.
use Rattle.std.proofs.Common.{◌≡◌, ℕ, zero, suc, ◌+◌, ◌-◌, ◌<◌, ◌≤◌, Bool, true, false, List, [], ◌∷◌, ◌++◌, length, Option, Some, None, refl, sym, ap, subst, ◌∙◌, arith, inl, inr}
use Rattle.std.specs.Prelude.{nat_lt, slice_get, slice_index, ◌⊎◌, if◌then◌else◌}
use Rattle.std.proofs.lemmas.Bool.{ltb-false, ltb-true}
use Rattle.std.proofs.lemmas.List.{length-append}
use Rattle.std.proofs.lemmas.Option.{none-some, same_Some, slice_get_within}
use Rattle.dia_wire.specs.declared.Key.{Key}
use Rattle.dia_book.specs.declared.DRule.{DRule}
use Rattle.dia_book.specs.Dictionary.{AreRules}
use Rattle.dia_valid.specs.Valid.{fixed_rules}
use Rattle.dia_valid.specs.LongestRuns.{IsAt, met, run_end, runs}
use Rattle.dia_valid.proofs.Entries.{fixed_few}
use Rattle.dia_valid.proofs.RuleCounts.{fixed_place, met_fixed}
use Rattle.dia_check.specs.declared.fault.Reason.{Reason}
use Rattle.dia_check.specs.declared.fault.Subject.{Subject}
use Rattle.dia_check.specs.declared.open_levels.Wrong.{Wrong}
use Rattle.dia_check.specs.Reasons.{row_of}
use Rattle.dia_check.specs.Faults.{IsFirstMissing, IsFirstShort}
use Rattle.dia_check.specs.OpenLevels.{IsFirstMisplaced, IsMisplaced, IsWellPlaced}
use Rattle.dia_check.specs.OpenLevels as open_levels
use Rattle.dia_check.proofs.KeysByCounts.{fixed_at}
use Rattle.dia_check.proofs.OneKeyMore.{all_to, at_within}
use Rattle.dia_check.proofs.Uniqueness.{nat_cases}
use Rattle.dia_faults.specs.Rules.{IsMisput, missing, missing_at, missing_from, fine, not_allowed, too_many}
use Rattle.dia_faults.proofs.PassedRuns.{at_one, ends_before, same_before}

-- ---- the first of a list of missing rules

module _ (c : ℕ → DRule → ℕ) (rules : List DRule) where
  -- the rules from one number up to another are met
  abbrev pub MetFrom : ℕ → ℕ → Type 0
  MetFrom i to = (j : ℕ) (rule : DRule) → i ≤ j → j < to → slice_get rules j ≡ Some rule → rule.min ≤ c j rule

  -- and this one isn't, and is the first
  pub record IsFirstIn (i to : ℕ) (w : Wrong) : Type 0 where
    pub number : ℕ
    pub rule : DRule
    pub following : i ≤ number
    pub before : number < to
    pub is_rule : slice_get rules number ≡ Some rule
    pub short : c number rule < rule.min
    pub is_wrong : w ≡ missing rule
    pub met_before : MetFrom i number

  abbrev pub Firstly : ℕ → ℕ → List Wrong → Type 0
  Firstly i to [] = MetFrom i to
  Firstly i to (w ∷ ws) = IsFirstIn i to w

  later : (i to : ℕ) (ws : List Wrong) → ((rule : DRule) → slice_get rules i ≡ Some rule → rule.min ≤ c i rule) → Firstly (suc i) to ws → Firstly i to ws
  later i to [] here more = λ j rule from lt at. by j rule from lt at (nat_lt i j) refl
    where
      by : (j : ℕ) (rule : DRule) → i ≤ j → j < to → slice_get rules j ≡ Some rule → (b : Bool) → nat_lt i j ≡ b → rule.min ≤ c j rule
      by j rule from lt at true e = more j rule (omega (arith, ltb-true i j e)) lt at
      by j rule from lt at false e =
          let same : j ≡ i = omega (arith, from, ltb-false i j e) in
          subst (λ (k : ℕ). rule.min ≤ c k rule) (sym same) (here rule (ap (λ (k : ℕ). slice_get rules k) (sym same) ∙ at))
  later i to (w ∷ ws) here more = record {
    number = more.number;
    rule = more.rule;
    following = let b = more.following in omega (arith, b);
    before = more.before;
    is_rule = more.is_rule;
    short = more.short;
    is_wrong = more.is_wrong;
    met_before = λ j rule from lt at. by j rule from lt at (nat_lt i j) refl;
  }
    where
      by : (j : ℕ) (rule : DRule) → i ≤ j → j < more.number → slice_get rules j ≡ Some rule → (b : Bool) → nat_lt i j ≡ b → rule.min ≤ c j rule
      by j rule from lt at true e = more.met_before j rule (omega (arith, ltb-true i j e)) lt at
      by j rule from lt at false e =
          let same : j ≡ i = omega (arith, from, ltb-false i j e) in
          subst (λ (k : ℕ). rule.min ≤ c k rule) (sym same) (here rule (ap (λ (k : ℕ). slice_get rules k) (sym same) ∙ at))

  pub firstly : (n i : ℕ) → Firstly i (i + n) (missing_from c rules i n)
  firstly zero i = λ j rule from lt at. absurd (omega (arith, from, lt))
  firstly (suc n) i =
      let e : suc i + n ≡ i + suc n = omega arith in
      by (slice_get rules i) refl (subst (λ (k : ℕ). Firstly (suc i) k (missing_from c rules (suc i) n)) e (firstly n (suc i)))
    where
      at_rule : (rule : DRule) → slice_get rules i ≡ Some rule → (b : Bool) → nat_lt (c i rule) rule.min ≡ b → Firstly (suc i) (i + suc n) (missing_from c rules (suc i) n)
          → Firstly i (i + suc n) ((if b then missing rule ∷ [] else []) ++ missing_from c rules (suc i) n)
      at_rule rule at true e more = record {
        number = i;
        rule = rule;
        following = omega arith;
        before = omega arith;
        is_rule = at;
        short = ltb-true (c i rule) rule.min e;
        is_wrong = refl;
        met_before = λ j q from lt here. absurd (omega (arith, from, lt));
      }
      at_rule rule at false e more = later i (i + suc n) (missing_from c rules (suc i) n)
          (λ q here. let le = ltb-false (c i rule) rule.min e in subst (λ (x : DRule). x.min ≤ c i x) (same_Some rule q (sym at ∙ here)) le) more

      by : (o : Option DRule) → slice_get rules i ≡ o → Firstly (suc i) (i + suc n) (missing_from c rules (suc i) n) → Firstly i (i + suc n) (missing_at c i o ++ missing_from c rules (suc i) n)
      by None at more = later i (i + suc n) (missing_from c rules (suc i) n) (λ rule here. absurd (none-some rule (sym at ∙ here))) more
      by (Some rule) at more = at_rule rule at (nat_lt (c i rule) rule.min) refl more

  pub firstly_to : (from to : ℕ) → from ≤ to → Firstly from to (missing_from c rules from (to - from))
  firstly_to from to le = let e : from + (to - from) ≡ to = omega (arith, le) in subst (λ (k : ℕ). Firstly from k (missing_from c rules from (to - from))) e (firstly (to - from) from)

  pub firstly_between : (from to : ℕ) → Firstly from to (missing_from c rules from (to - from))
  firstly_between from to = by (nat_lt to from) refl
    where
      by : (b : Bool) → nat_lt to from ≡ b → Firstly from to (missing_from c rules from (to - from))
      by true e =
          let lt = ltb-true to from e in let none : 0 ≡ to - from = omega (arith, lt) in
          subst (λ (n : ℕ). Firstly from to (missing_from c rules from n)) none (λ j rule le less at. absurd (omega (arith, lt, le, less)))
      by false e = firstly_to from to (ltb-false to from e)

-- ---- a level in which nothing was missing so far

-- the rules in front of the run that the keys end in are met
abbrev pub IsFront : List DRule → List Key → Type 0
IsFront rules keys = (run : ℕ) → IsAt (fixed_rules rules) run keys → (j : ℕ) (rule : DRule) → j < run → slice_get rules j ≡ Some rule → rule.min ≤ met rules keys j rule

module _ (rules : List DRule) (are : AreRules rules) (keys : List Key) (front : IsFront rules keys) where
  -- ---- the end

  module _ (from : ℕ) (ends : IsAt (fixed_rules rules) from keys) where
    from_within : from ≤ length rules
    from_within = let a = at_within (fixed_rules rules) from keys ends in let b = few in omega (arith, a, b)
      where
        few : length (fixed_rules rules) ≤ length rules
        few = fixed_few rules

    all_met : (to : ℕ) → MetFrom (met rules keys) rules from to → (j : ℕ) (rule : DRule) → j < to → slice_get rules j ≡ Some rule → rule.min ≤ met rules keys j rule
    all_met to more j rule lt at = by (nat_lt j from) refl
      where
        by : (b : Bool) → nat_lt j from ≡ b → rule.min ≤ met rules keys j rule
        by true e = front from ends j rule (ltb-true j from e) at
        by false e = more j rule (ltb-false j from e) lt at

    pub none_missing_at_end : MetFrom (met rules keys) rules from (length rules) → (i : ℕ) (rule : DRule) → ¬ IsFirstMissing rules keys i rule
    none_missing_at_end more i rule first =
        let enough = all_met (length rules) more i rule (slice_get_within rules i rule first.is_rule) first.is_rule in let short = first.short in omega (arith, enough, short)

    pub missing_at_end_first : (w : Wrong) → (f : IsFirstIn (met rules keys) rules from (length rules) w) → IsFirstMissing rules keys f.number f.rule
    missing_at_end_first w f = record { is_rule = f.is_rule; short = f.short; first = λ j other lt at. all_met f.number f.met_before j other lt at }

  -- ---- one key more

  module _ (key : Key) (from to : ℕ) (is_from : IsAt (fixed_rules rules) from keys) (is_to : IsAt (fixed_rules rules) to (keys ++ key ∷ [])) where
    more : length (keys ++ key ∷ []) ≡ length keys + 1
    more = length-append keys (key ∷ [])

    to_within : to ≤ length (fixed_rules rules)
    to_within = at_within (fixed_rules rules) to (keys ++ key ∷ []) is_to

    -- the runs that end there are those from the one up to the other
    ends_here : (i : ℕ) → from ≤ i → i < to → run_end rules i (keys ++ key ∷ []) ≡ length keys
    ends_here i le lt =
        (same_before (fixed_rules rules) to i keys key is_to lt).1
        ∙ all_to (fixed_rules rules) from i keys le (let w = to_within in omega (arith, le, lt, w)) is_from

    ends_not : (i : ℕ) → i < length (fixed_rules rules) → run_end rules i (keys ++ key ∷ []) ≡ length keys → (from ≤ i) × (i < to)
    ends_not i within same = (by_from (nat_cases i from) (nat_cases i to), by_to (nat_cases i to))
      where
        over : to ≤ i → ⊥
        over le = let all = all_to (fixed_rules rules) to i (keys ++ key ∷ []) le (omega (arith, le, within)) is_to in let m = more in omega (arith, all, m, same)

        by_to : (i < to) ⊎ ((to < i) ⊎ (i ≡ to)) → i < to
        by_to (inl lt) = lt
        by_to (inr (inl gt)) = absurd (over (omega (arith, gt)))
        by_to (inr (inr e)) = absurd (over (omega (arith, e)))

        by_from : (i < from) ⊎ ((from < i) ⊎ (i ≡ from)) → (i < to) ⊎ ((to < i) ⊎ (i ≡ to)) → from ≤ i
        by_from (inl lt) (inl lt') =
            let before = ends_before (fixed_rules rules) from i keys is_from lt in let e = (same_before (fixed_rules rules) to i keys key is_to lt').1 in absurd (omega (arith, before, e, same))
        by_from (inl lt) (inr (inl gt)) = absurd (over (omega (arith, gt)))
        by_from (inl lt) (inr (inr e)) = absurd (over (omega (arith, e)))
        by_from (inr (inl gt)) t = omega (arith, gt)
        by_from (inr (inr e)) t = omega (arith, e)

    run_now : (i : ℕ) (rule : DRule) → i < to → slice_get rules i ≡ Some rule → slice_index (runs (fixed_rules rules) (keys ++ key ∷ [])) i ≡ met rules keys i rule
    run_now i rule lt at =
        let place = fixed_at rules i rule are (let w = to_within in omega (arith, lt, w)) at in
        (same_before (fixed_rules rules) to i keys key is_to lt).0 ∙ sym (met_fixed rules keys i rule place.1)

    met_to : (last : ℕ) → MetFrom (met rules keys) rules from last → (j : ℕ) (rule : DRule) → j < last → slice_get rules j ≡ Some rule → rule.min ≤ met rules keys j rule
    met_to last enough j rule lt at = all_met from is_from last enough j rule lt at

    late : (r : Reason) (s : Subject) → IsMisplaced rules keys key r s → 9 ≤ row_of r
    late r s (open_levels.missing i rule first end) = omega arith
    late r s other = omega arith

    pub missing_first : (w : Wrong) → IsFirstIn (met rules keys) rules from to w → IsFirstMisplaced rules keys key w
    missing_first w f = subst (IsFirstMisplaced rules keys key) (sym f.is_wrong) (record {
      misplaced = open_levels.missing f.number f.rule short (ends_here f.number f.following f.before);
      none_sooner = late;
    })
      where
        short : IsFirstShort rules (keys ++ key ∷ []) f.number f.rule
        short = record {
          is_rule = (fixed_at rules f.number f.rule are (let w = to_within in let b = f.before in omega (arith, b, w)) f.is_rule).0;
          short = let lt = f.short in omega (arith, lt, run_now f.number f.rule f.before f.is_rule);
          first = λ j other lt here.
              let place = fixed_place rules j other are here in
              let enough = met_to f.number f.met_before j other lt place.0 in
              let b = f.before in
              omega (arith, enough, run_now j other (omega (arith, lt, b)) place.0);
        }

    module _ (enough : MetFrom (met rules keys) rules from to) where
      none_missing : (i : ℕ) (rule : DRule) → IsFirstShort rules (keys ++ key ∷ []) i rule → run_end rules i (keys ++ key ∷ []) ≡ length keys → ⊥
      none_missing i rule first end =
          let place = fixed_place rules i rule are first.is_rule in
          let (le, lt) = ends_not i (slice_get_within (fixed_rules rules) i rule first.is_rule) end in
          let short = first.short in
          omega (arith, short, run_now i rule lt place.0, enough i rule le lt place.0)

      -- nothing is missing behind it
      pub front_after : IsFront rules (keys ++ key ∷ [])
      front_after run at j rule lt here =
          let same = at_one (fixed_rules rules) run to (keys ++ key ∷ []) at is_to in
          let less : j < to = omega (arith, lt, same) in
          let place = fixed_at rules j rule are (let w = to_within in omega (arith, less, w)) here in
          omega (arith, met_to to enough j rule less here, run_now j rule less here, met_fixed rules (keys ++ key ∷ []) j rule place.1)

      abbrev pub Says : List Wrong → Type 0
      Says [] = IsWellPlaced rules keys key
      Says (w ∷ ws) = IsFirstMisplaced rules keys key w

      pub misput_says : (ws : List Wrong) → IsMisput rules keys key ws → Says ws
      misput_says ws (fine allowed few) = λ r s h. none r s h
        where
          none : (r : Reason) (s : Subject) → IsMisplaced rules keys key r s → ⊥
          none r s (open_levels.missing j q first end) = none_missing j q first end
          none r s (open_levels.not_allowed h) = allowed h
          none r s (open_levels.too_many j q max at is before now) = few (j, q, max, at, is, before, now)
      misput_says ws (not_allowed bad) = record { misplaced = open_levels.not_allowed bad; none_sooner = sooner }
        where
          sooner : (r : Reason) (s : Subject) → IsMisplaced rules keys key r s → 10 ≤ row_of r
          sooner r s (open_levels.missing j q first end) = absurd (none_missing j q first end)
          sooner r s other = omega arith
      misput_says ws (too_many allowed (i, rule, max, at, is, before, now)) = record { misplaced = open_levels.too_many i rule max at is before now; none_sooner = sooner }
        where
          sooner : (r : Reason) (s : Subject) → IsMisplaced rules keys key r s → 11 ≤ row_of r
          sooner r s (open_levels.missing j q first end) = absurd (none_missing j q first end)
          sooner r s (open_levels.not_allowed h) = absurd (allowed h)
          sooner r s (open_levels.too_many j q max' here is' before' now') = omega arith
