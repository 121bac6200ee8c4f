-- What is listed of a message, and what a check answers.
use Rattle.std.proofs.Common.{◌≡◌, ℕ, zero, suc, Bool, false, List, [], ◌∷◌, length, map, take, Ok, Err, refl, sym, ap, subst, ◌∙◌, arith}
use Rattle.std.specs.Prelude.{nat_lt, ◌↔◌}
use Rattle.std.proofs.lemmas.Bool.{le-ltb, ltb-false}
use Rattle.std.proofs.lemmas.List.{take_all}
use Rattle.dia_book.specs.Dictionary.{Dictionary, IsDictionary}
use Rattle.dia_terms.specs.declared.Unknown.{Unknown}
use Rattle.dia_terms.specs.declared.Levels.{Levels}
use Rattle.dia_valid.specs.Valid.{IsValid}
use Rattle.dia_check.specs.declared.fault.Fault.{Fault}
use Rattle.dia_check.specs.declared.fault.Refusal.TheVariants as refusal
use Rattle.dia_check.specs.declared.fault.Selected.{Selected}
use Rattle.dia_check.specs.Faults.{IsRecorded}
use Rattle.dia_check.specs.Walks.{Found, fault_of}
use Rattle.dia_check.proofs.OneAnswer.{one_answer}
use Rattle.dia_faults.specs.declared.collector.Collector.{Collector}
use Rattle.dia_faults.specs.Collecting.{Adds, AreFirst, Holds}
use Rattle.dia_faults.specs.Messages.{AreAll, IsFirstOf}
use Rattle.dia_faults.proofs.FirstListed.{first_of_all}

abbrev no_faults : List Fault
no_faults = []

none_taken : (most : ℕ) → take most no_faults ≡ []
none_taken most = take_all most no_faults (omega arith)

-- what is collected from nothing on
pub collected : (old new : Collector) (most : ℕ) (all : List Found) → Holds old [] → old.most ≡ most → Adds old new (map fault_of all) → AreFirst most (map fault_of all) new.faults.items new.more
collected old new most all none is adds = subst (λ (k : ℕ). AreFirst k (map fault_of all) new.faults.items new.more) (adds.same_most ∙ is) (adds.holds [] none)

same_head : (a b : Fault) (xs ys : List Fault) → a ∷ xs ≡ b ∷ ys → a ≡ b
same_head a b xs ys e = cc

module _ (d : Dictionary) (sound : IsDictionary d) (u : Unknown) (levels : Levels) (bytes : List ℕ) (most : ℕ) (items : List Fault) (more : Bool) where
  first_recorded : (most : ℕ) (all : List Found) → IsFirstOf d u levels bytes all → (f : Fault) (fs : List Fault) → take most (map fault_of all) ≡ f ∷ fs → IsRecorded d u levels bytes f
  first_recorded most [] first f fs e = absurd (let none = sym (none_taken most) ∙ e in cc)
  first_recorded zero (a ∷ all) first f fs e = absurd cc
  first_recorded (suc n) (a ∷ all) first f fs e = subst (IsRecorded d u levels bytes) (same_head (fault_of a) f (take n (map fault_of all)) fs e) first

  pub first_is_recorded : (all : List Found) → AreAll d u levels bytes all → AreFirst most (map fault_of all) items more → (f : Fault) (fs : List Fault) → items ≡ f ∷ fs → IsRecorded d u levels bytes f
  first_is_recorded all are firsts f fs e = first_recorded most all (first_of_all d sound u levels bytes all are) f fs (sym firsts.are_first ∙ e)

  valid_where_none : (most : ℕ) (all : List Found) → IsFirstOf d u levels bytes all → take most (map fault_of all) ≡ [] → nat_lt most (length (map fault_of all)) ≡ false → IsValid d u levels bytes
  valid_where_none most [] first none no_more = first
  valid_where_none zero (a ∷ all) first none no_more = absurd (let le = ltb-false 0 (length (map fault_of (a ∷ all))) no_more in omega (arith, le))
  valid_where_none (suc n) (a ∷ all) first none no_more = absurd cc

  none_where_valid : (all : List Found) → IsFirstOf d u levels bytes all → IsValid d u levels bytes → all ≡ []
  none_where_valid [] first valid = refl
  none_where_valid (a ∷ all) first (c, valid) =
      absurd (let found : Selected = record { def = c } in
      let same = one_answer d u levels bytes (Ok found) (Err (refusal.Fault (fault_of a))) sound valid first (λ e. absurd cc) (λ e. absurd cc) in cc)

  pub none_is_valid : (all : List Found) → AreAll d u levels bytes all → AreFirst most (map fault_of all) items more → ((items ≡ []) × (more ≡ false)) ↔ IsValid d u levels bytes
  none_is_valid all are firsts = (
    λ (none, no_more). valid_where_none most all first (sym firsts.are_first ∙ none) (sym firsts.is_more ∙ no_more),
    λ valid. let none = none_where_valid all first valid in (
      firsts.are_first ∙ ap (λ (fs : List Found). take most (map fault_of fs)) none ∙ none_taken most,
      firsts.is_more ∙ ap (λ (fs : List Found). nat_lt most (length (map fault_of fs))) none ∙ le-ltb most 0 (omega arith),
    ),
  )
    where
      first : IsFirstOf d u levels bytes all
      first = first_of_all d sound u levels bytes all are
