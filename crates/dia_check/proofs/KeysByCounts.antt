-- What a level's rules say of one key more, from the counts of the keys before it.
use Rattle.std.proofs.Common.{◌≡◌, ◌≢◌, ℕ, zero, suc, ◌+◌, ◌<◌, ◌≤◌, Bool, true, false, List, [], ◌∷◌, ◌++◌, length, drop, get_or}
use Rattle.std.proofs.Common.{Option, Some, None, refl, sym, ap, subst, ◌∙◌, arith, inl, inr}
use Rattle.std.specs.Option.{option_eq}
use Rattle.std.specs.Prelude.{nat_eq, max, slice_get, slice_index, ◌==◌, if◌then◌else◌, ◌⊎◌, nat_lt}
use Rattle.std.proofs.lemmas.Bool.{eqb-true, eq-eqb, both_ways, ltb-true, ltb-false}
use Rattle.std.proofs.lemmas.List.{length-drop}
use Rattle.std.proofs.lemmas.List.Sums.{count_by-le-length, prefix_len-le-length}
use Rattle.std.proofs.lemmas.Option.{none-some, same_Some, slice_get_cases, slice_get_within}
use Rattle.dia_wire.specs.declared.Key.{Key}
use Rattle.dia_book.specs.declared.DRule.{DRule}
use Rattle.dia_book.specs.Dictionary.{AreRules, is_fixed}
use Rattle.dia_valid.proofs.Entries.{fixed_few}
use Rattle.dia_check.specs.declared.fault.Reason.{Reason}
use Rattle.dia_check.specs.declared.fault.Reason.TheVariants as reason
use Rattle.dia_check.specs.declared.fault.Subject.{Subject}
use Rattle.dia_check.specs.declared.fault.Subject.TheVariants.{Avp}
use Rattle.dia_check.specs.declared.open_levels.OpenLevel.{OpenLevel}
use Rattle.dia_check.specs.declared.open_levels.tally.Met.{Met}
use Rattle.dia_check.specs.Tallies.{count_in}
use Rattle.dia_check.proofs.Tallies.{IsMore}
use Rattle.std.specs.List.{prefix_len}
use Rattle.dia_valid.specs.Valid.{fixed_rules, counted}
use Rattle.dia_valid.specs.LongestRuns.{runs, met, run_end, loose_start}
use Rattle.dia_check.specs.Reasons.{row_of}
use Rattle.dia_check.specs.Faults.{subject_of, IsFirstShort}
use Rattle.dia_check.specs.OpenLevels.{AreMet, IsFirstUnmet, IsCounted, Leads, IsMet, IsMisplaced, missing, not_allowed, too_many, IsFirstMisplaced}
use Rattle.dia_valid.proofs.RunsOfOneKeyMore.{is_of}
use Rattle.dia_valid.proofs.RuleCounts.{met_fixed, counts_key, fixed_place}

-- the first fixed rules are the first rules
pub fixed_at : (rules : List DRule) (i : ℕ) (rule : DRule) → AreRules rules → i < length (fixed_rules rules) → slice_get rules i ≡ Some rule
    → (slice_get (fixed_rules rules) i ≡ Some rule) × (is_fixed rule ≡ true)
fixed_at rules i rule are lt at = by (slice_get_cases (fixed_rules rules) i).1
  where
    by : ((x : DRule) × (i < length (fixed_rules rules)) × (slice_get (fixed_rules rules) i ≡ Some x) × (get_or (fixed_rules rules) i x ≡ x)) ⊎
        ((length (fixed_rules rules) ≤ i) × (slice_get (fixed_rules rules) i ≡ None))
        → (slice_get (fixed_rules rules) i ≡ Some rule) × (is_fixed rule ≡ true)
    by (inl (x, lt', here, got)) =
        let place = fixed_place rules i x are here in
        let same : x ≡ rule = same_Some x rule (sym place.0 ∙ at) in
        (here ∙ ap (λ (y : DRule). Some y) same, sym (ap is_fixed same) ∙ place.1)
    by (inr (le, none)) = absurd (omega (arith, le, lt))

run_few : (rules : List DRule) (keys : List Key) (i : ℕ) → slice_index (runs rules keys) i ≤ length keys
run_few [] keys i = omega arith
run_few (r ∷ rules) keys zero = prefix_len-le-length (is_of r) keys
run_few (r ∷ rules) keys (suc i) = omega (arith, run_few rules (drop (prefix_len (is_of r) keys) keys) i, length-drop (prefix_len (is_of r) keys) keys)

-- no rule is met more often than there are keys
pub met_few : (rules : List DRule) (keys : List Key) (i : ℕ) (rule : DRule) → met rules keys i rule ≤ length keys
met_few rules keys i rule = by (is_fixed rule)
  where
    by : (b : Bool) → (if b then slice_index (runs (fixed_rules rules) keys) i else counted rules rule (drop (loose_start rules keys) keys)) ≤ length keys
    by true = run_few (fixed_rules rules) keys i
    by false = omega (arith, count_by-le-length (counts_key rules rule) (drop (loose_start rules keys) keys), length-drop (loose_start rules keys) keys)

-- the test for a max
pub is_max_of : (o : Option ℕ) (n : ℕ) → true ≡ option_eq nat_eq o (Some n) → o ≡ Some n
is_max_of None n h = absurd cc
is_max_of (Some m) n h = ap (λ (k : ℕ). Some k) (eqb-true m n (sym h))

pub no_max_of : (o : Option ℕ) (n : ℕ) → false ≡ option_eq nat_eq o (Some n) → o ≢ Some n
no_max_of None n h e = none-some n e
no_max_of (Some m) n h e = both_ways (nat_eq m n) (sym h) (eq-eqb m n (same_Some m n e))

module _ (rules : List DRule) (are : AreRules rules) (keys : List Key) (key : Key) (level : OpenLevel) (tally : List Met) (c : IsCounted rules keys level tally)
    (run : ℕ) (o : Option ℕ) (leads : Leads rules keys key level.run run o) where
  pub rule_within : (i : ℕ) → o ≡ Some i → (i < length rules) × (i < 1024)
  rule_within i some = let lt = (leads.counts i some).0 in (lt, omega (arith, lt, are.few))

  pub count_few : (i : ℕ) (rule : DRule) → slice_get rules i ≡ Some rule → count_in tally i ≤ length keys
  count_few i rule at = let e = c.counted i rule at in omega (arith, e, met_few rules keys i rule)

  count_of_run : (i : ℕ) (rule : DRule) → i < length (fixed_rules rules) → slice_get rules i ≡ Some rule → slice_index (runs (fixed_rules rules) keys) i ≡ count_in tally i
  count_of_run i rule lt at = sym (c.counted i rule at ∙ met_fixed rules keys i rule (fixed_at rules i rule are lt at).1)

  pub to_within : run ≤ length rules
  to_within = omega (arith, leads.within.0, fixed_few rules)

  run_now : (i : ℕ) (rule : DRule) → i < run → slice_get rules i ≡ Some rule → slice_index (runs (fixed_rules rules) (keys ++ key ∷ [])) i ≡ count_in tally i
  run_now i rule lt at = leads.same_runs i lt ∙ count_of_run i rule (omega (arith, lt, leads.within.0)) at

  -- rules that are met up to the present run, and from it on
  met_to : (to : ℕ) → AreMet rules tally level.run to → AreMet rules tally 0 to
  met_to to more i rule from lt at = by (nat_lt i level.run) refl
    where
      by : (b : Bool) → nat_lt i level.run ≡ b → rule.min ≤ count_in tally i
      by true e = c.met_before i rule from (ltb-true i level.run e) at
      by false e = more i rule (ltb-false i level.run e) lt at

  pub missing_first : (i : ℕ) (rule : DRule) → IsFirstUnmet rules tally level.run run i → slice_get rules i ≡ Some rule
      → IsFirstMisplaced rules keys key (record { reason = reason.Missing; subject = subject_of rule.key })
  missing_first i rule unmet at = record {
    misplaced = missing i rule short (leads.passed i unmet.from_here unmet.inside);
    none_sooner = λ r s h. sooner r s h;
  }
    where
      same : unmet.rule ≡ rule
      same = same_Some unmet.rule rule (sym unmet.is_rule ∙ at)

      short : IsFirstShort rules (keys ++ key ∷ []) i rule
      short = record {
        is_rule = (fixed_at rules i rule are (omega (arith, unmet.inside, leads.within.0)) at).0;
        short = let lt : count_in tally i < rule.min = subst (λ (r : DRule). count_in tally i < r.min) same unmet.unmet in omega (arith, lt, run_now i rule unmet.inside at);
        first = λ j other lt here.
            let place = fixed_place rules j other are here in
            let enough = met_to i unmet.met_before j other (omega arith) lt place.0 in
            omega (arith, enough, run_now j other (omega (arith, lt, unmet.inside)) place.0);
      }

      sooner : (r : Reason) (s : Subject) → IsMisplaced rules keys key r s → 9 ≤ row_of r
      sooner r s (missing j q first end) = omega arith
      sooner r s other = omega arith

  module _ (enough : AreMet rules tally level.run run) where
    none_missing : (i : ℕ) (rule : DRule) → IsFirstShort rules (keys ++ key ∷ []) i rule → run_end rules i (keys ++ key ∷ []) ≡ length keys → ⊥
    none_missing i rule first end = by (nat_lt i run) refl
      where
        place : (slice_get rules i ≡ Some rule) × (is_fixed rule ≡ true)
        place = fixed_place rules i rule are first.is_rule

        by : (b : Bool) → nat_lt i run ≡ b → ⊥
        by true e =
            let lt = ltb-true i run e in
            omega (arith, first.short, run_now i rule lt place.0, met_to run enough i rule (omega arith) lt place.0)
        by false e = leads.not_passed i (ltb-false i run e) (slice_get_within (fixed_rules rules) i rule first.is_rule) end

    pub not_allowed_first : o ≡ None → IsFirstMisplaced rules keys key (record { reason = reason.NotAllowed; subject = Avp key })
    not_allowed_first none = record {
      misplaced = not_allowed (leads.counts_none none).0;
      none_sooner = λ r s h. sooner r s h;
    }
      where
        sooner : (r : Reason) (s : Subject) → IsMisplaced rules keys key r s → 10 ≤ row_of r
        sooner r s (missing j q first end) = absurd (none_missing j q first end)
        sooner r s other = omega arith

    module _ (i : ℕ) (some : o ≡ Some i) (rule : DRule) (at : slice_get rules i ≡ Some rule) where
      met_next : (j : ℕ) (other : DRule) → slice_get rules j ≡ Some other → met rules (keys ++ key ∷ []) j other ≡ count_in tally j + (if j == i then 1 else 0)
      met_next j other here = (leads.counts i some).2 j other here ∙ ap (λ (n : ℕ). n + (if j == i then 1 else 0)) (sym (c.counted j other here))

      met_here : met rules (keys ++ key ∷ []) i rule ≡ suc (count_in tally i)
      met_here = let e = met_next i rule at in let one = ap (λ (b : Bool). count_in tally i + (if b then 1 else 0)) (eq-eqb i i refl) in omega (arith, e, one)

      pub too_many_first : rule.max ≡ Some (count_in tally i) → IsFirstMisplaced rules keys key (record { reason = reason.TooMany; subject = Avp key })
      too_many_first is_max = record {
        misplaced = too_many i rule (count_in tally i) at is_max (sym (c.counted i rule at)) met_here;
        none_sooner = λ r s h. sooner r s h;
      }
        where
          sooner : (r : Reason) (s : Subject) → IsMisplaced rules keys key r s → 11 ≤ row_of r
          sooner r s (missing j q first end) = absurd (none_missing j q first end)
          sooner r s (not_allowed h) = absurd ((leads.counts i some).1 h)
          sooner r s (too_many j q max here is before now) = omega arith

      pub met_now : (next : List Met) → IsMore (length rules) 1 tally next i → rule.max ≢ Some (count_in tally i) → IsMet rules keys key (record level { run = run }) next
      met_now next one no_max = record {
        none_wrong = λ r s h. none r s h;
        counted = record {
          run = leads.at;
          rising = one.rising;
          below = one.below;
          counted = λ j other here. one.counts j ∙ sym (met_next j other here);
          met_before = λ j other from lt here. let old = met_to run enough j other from lt here in let more = one.counts j in omega (arith, old, more);
          done_within = c.done_within;
          done = λ j other from lt here. let old = c.done j other from lt here in let more = one.counts j in omega (arith, old, more);
        };
      }
        where
          none : (r : Reason) (s : Subject) → IsMisplaced rules keys key r s → ⊥
          none r s (missing j q first end) = none_missing j q first end
          none r s (not_allowed h) = (leads.counts i some).1 h
          none r s (too_many j q max here is before now) = by (j == i) refl
            where
              by : (b : Bool) → (j == i) ≡ b → ⊥
              by true e =
                  let same : q ≡ rule = same_Some q rule (sym here ∙ ap (λ (k : ℕ). slice_get rules k) (eqb-true j i e) ∙ at) in
                  let count : max ≡ count_in tally i = sym before ∙ sym (c.counted j q here) ∙ ap (λ (k : ℕ). count_in tally k) (eqb-true j i e) in
                  no_max (ap (λ (r : DRule). r.max) (sym same) ∙ is ∙ ap (λ (n : ℕ). Some n) count)
              by false e =
                  let next = met_next j q here ∙ ap (λ (b : Bool). count_in tally j + (if b then 1 else 0)) e in
                  omega (arith, now, before, c.counted j q here, next)
