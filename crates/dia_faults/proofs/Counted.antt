-- What one key more does to the counts of a level.
use Rattle.std.proofs.Common.{◌≡◌, ◌≢◌, ℕ, suc, ◌+◌, ◌<◌, Bool, true, false, List, [], ◌∷◌, ◌++◌, length, Some, None, refl, sym, ap, subst, ◌∙◌, arith}
use Rattle.std.specs.Prelude.{slice_get, ◌==◌, if◌then◌else◌}
use Rattle.std.proofs.lemmas.Bool.{eqb-true, eq-eqb, both_ways}
use Rattle.std.proofs.lemmas.Option.{same_Some}
use Rattle.dia_wire.specs.declared.Key.{Key}
use Rattle.dia_book.specs.declared.DRule.{DRule}
use Rattle.dia_valid.specs.LongestRuns.{met}
use Rattle.dia_check.specs.declared.fault.Reason.TheVariants as reason
use Rattle.dia_check.specs.declared.fault.Subject.TheVariants.{Avp}
use Rattle.dia_check.specs.OpenLevels.{Leads}
use Rattle.dia_faults.specs.Rules.{IsMisput, fine, not_allowed, too_many}
use Rattle.dia_faults.specs.States.{IsCounted, count_of}

module _ (rules : List DRule) (keys : List Key) (key : Key) (run next : ℕ) where
  module _ (rule : ℕ) (leads : Leads rules keys key run next (Some rule)) (r : DRule) (at : slice_get rules rule ≡ Some r) where
    met_next : (j : ℕ) (other : DRule) → slice_get rules j ≡ Some other → met rules (keys ++ key ∷ []) j other ≡ met rules keys j other + (if j == rule then 1 else 0)
    met_next j other here = (leads.counts rule refl).2 j other here

    pub met_here : met rules (keys ++ key ∷ []) rule r ≡ suc (met rules keys rule r)
    met_here = let e = met_next rule r at in let one = ap (λ (b : Bool). met rules keys rule r + (if b then 1 else 0)) (eq-eqb rule rule refl) in omega (arith, e, one)

    pub one_too_many : (n : ℕ) → n ≡ met rules keys rule r → r.max ≡ Some n → IsMisput rules keys key (record { reason = reason.TooMany; subject = Avp key } ∷ [])
    one_too_many n is max = too_many (leads.counts rule refl).1 (rule, r, n, at, max, sym is, met_here ∙ ap (λ (k : ℕ). suc k) (sym is))

    pub not_one_too_many : (n : ℕ) → n ≡ met rules keys rule r → r.max ≢ Some n → IsMisput rules keys key []
    not_one_too_many n is no_max = fine (leads.counts rule refl).1 (λ (j, q, max, here, is_max, before, now). by j q max here is_max before now (j == rule) refl)
      where
        by : (j : ℕ) (q : DRule) (max : ℕ) → slice_get rules j ≡ Some q → q.max ≡ Some max → met rules keys j q ≡ max → met rules (keys ++ key ∷ []) j q ≡ suc max
            → (b : Bool) → (j == rule) ≡ b → ⊥
        by j q max here is_max before now true e =
            let same : q ≡ r = same_Some q r (sym here ∙ ap (λ (k : ℕ). slice_get rules k) (eqb-true j rule e) ∙ at) in
            let count : max ≡ n = sym before ∙ ap (λ (k : ℕ). met rules keys k q) (eqb-true j rule e) ∙ ap (λ (x : DRule). met rules keys rule x) same ∙ sym is in
            no_max (ap (λ (x : DRule). x.max) (sym same) ∙ is_max ∙ ap (λ (k : ℕ). Some k) count)
        by j q max here is_max before now false e =
            let more = met_next j q here ∙ ap (λ (b : Bool). met rules keys j q + (if b then 1 else 0)) e in
            omega (arith, now, before, more)

    -- the counts then
    pub counted_more : (old new : List (ℕ × ℕ)) (start : ℕ) → IsCounted old start run rules keys → count_of new start rule ≡ count_of old start rule + 1
        → ((i : ℕ) → i < length rules → i ≢ rule → count_of new start i ≡ count_of old start i) → ((i : ℕ) (q : DRule) → slice_get rules i ≡ Some q → i < length rules)
        → IsCounted new start next rules (keys ++ key ∷ [])
    counted_more old new start c here others within = record {
      ends = leads.at;
      counted = λ i q at_q. by i q at_q (i == rule) refl;
    }
      where
        by : (i : ℕ) (q : DRule) → slice_get rules i ≡ Some q → (b : Bool) → (i == rule) ≡ b → count_of new start i ≡ met rules (keys ++ key ∷ []) i q
        by i q at_q true e =
            let old_count = c.counted i q at_q in
            let more = met_next i q at_q ∙ ap (λ (b : Bool). met rules keys i q + (if b then 1 else 0)) e in
            let there : count_of new start i ≡ count_of old start i + 1 = subst (λ (k : ℕ). count_of new start k ≡ count_of old start k + 1) (sym (eqb-true i rule e)) here in
            omega (arith, there, old_count, more)
        by i q at_q false e =
            let old_count = c.counted i q at_q in
            let same = others i (within i q at_q) (λ p. both_ways (i == rule) e (eq-eqb i rule p)) in
            let more = met_next i q at_q ∙ ap (λ (b : Bool). met rules keys i q + (if b then 1 else 0)) e in
            omega (arith, same, old_count, more)

  -- a key that no rule counts
  module _ (leads : Leads rules keys key run next None) where
    pub is_not_allowed : IsMisput rules keys key (record { reason = reason.NotAllowed; subject = Avp key } ∷ [])
    is_not_allowed = not_allowed (leads.counts_none refl).0

    pub counted_as_before : (counts : List (ℕ × ℕ)) (start : ℕ) → IsCounted counts start run rules keys → IsCounted counts start next rules (keys ++ key ∷ [])
    counted_as_before counts start c = record { ends = leads.at; counted = λ i q at. c.counted i q at ∙ sym ((leads.counts_none refl).1 i q at) }
