use Rattle.std.proofs.Common.{◌≡◌, ℕ, ◌≤◌, arith, List, [], ◌∷◌, ◌++◌, refl, sym, ap, Ok, Err, ◌∙◌}
use Rattle.std.specs.Prelude.{◌&&◌, not, true, false}
use Rattle.std.specs.Option.{option_map}
use Rattle.dia_ccf.specs.Limits.{max_value}
use Rattle.dia_ccf.specs.Plain.{PlainDecl, PlainSource}
use Rattle.dia_ccf.specs.Tokens.{Token, Dots, Close_parenthesis}
use Rattle.dia_ccf.specs.Machine.{Outcome, In_values, After_value, After_dots, is_none, next, refused, outcome, same_sign, number_at}
use Rattle.dia_ccf.specs.ReaderFunctions.{course, left, begins_with, Wants}
use Rattle.dia_ccf.proofs.TokenTests.{number_at-is}
use Rattle.dia_ccf.proofs.MachineRuns.{outcome_same, number_at-some}
use Rattle.dia_ccf.proofs.DeclarationCompleteness.{and_false}
use Rattle.dia_ccf.proofs.ReaderSteps.{accepted, takes_sign, leads_along, exits}
use Rattle.dia_ccf.proofs.ReaderPlaces.{range_derived, value_alone}
use Rattle.dia_ccf.proofs.reading.Reader.range.Goals as goal

low_wanted : (done : PlainSource) (d : PlainDecl) (ranges : List (ℕ × ℕ)) (ts : List Token) → (not (is_none ranges) && begins_with (same_sign Close_parenthesis) ts) ≡ false
    → Wants true false (λ t. option_map (λ n. (done, After_value d ranges n)) (number_at 0 max_value t)) (done, In_values d ranges) ts
low_wanted done d ranges [] h = refl
low_wanted done d ranges (t ∷ us) h = (rw h refl, rw (and_false (not (is_none ranges))) refl)

high_wanted : (done : PlainSource) (d : PlainDecl) (ranges : List (ℕ × ℕ)) (low : ℕ) (ts : List Token) → low ≤ max_value
    → Wants true false (λ t. option_map (λ n. (done, In_values d (ranges ++ (low, n) ∷ []))) (number_at low max_value t)) (done, After_dots d ranges low) ts
high_wanted done d ranges low [] h = refl
high_wanted done d ranges low (t ∷ us) h = (refl, rw (number_at-some low max_value low (omega arith) h) refl)

one_value : (done : PlainSource) (d : PlainDecl) (ranges : List (ℕ × ℕ)) (low : ℕ) (ts : List Token) → begins_with (same_sign Dots) ts ≡ false
    → outcome (done, After_value d ranges low) ts ≡ outcome (done, In_values d (ranges ++ (low, low) ∷ [])) ts
one_value done d ranges low ts h = outcome_same (done, After_value d ranges low) (done, In_values d (ranges ++ (low, low) ∷ [])) ts
    (λ t us e. at_token t (ap (begins_with (same_sign Dots)) (sym e) ∙ h)) (λ e. refl)
  where
    at_token : (t : Token) → same_sign Dots t ≡ false → (next (done, After_value d ranges low) t ≡ next (done, In_values d (ranges ++ (low, low) ∷ [])) t)
        × (refused (done, After_value d ranges low) t ≡ refused (done, In_values d (ranges ++ (low, low) ∷ [])) t)
    at_token t k = (rw k refl, refl)

pub returns-in_err-low-clause-read : goal.returns-in_err-low-clause-read
returns-in_err-low-clause-read c = λ done d ranges h.
    exits (course (done, In_values d ranges) c.args.self.now)
    (λ range. (done, In_values d (ranges ++ range ∷ []))) c.in_err-low.field-0.0 c.from_residual.result c.number.new.self c.from_residual.ensures.1
    (accepted true false (number_at 0 max_value) (λ n. n) (λ n. (done, After_value d ranges n)) (done, In_values d ranges) c.args.self.now c.number.new.self (Err c.in_err-low.field-0.0)
    (low_wanted done d ranges (left c.args.self.now) h) c.in_err-low.ensures)

pub returns-in_err-high-clause-read : goal.returns-in_err-high-clause-read
returns-in_err-high-clause-read c = λ done d ranges h.
    (let low = c.in_ok-low.low in
    let small = (number_at-is 0 max_value c.in_ok-low.ensures.0 low c.in_ok-low.ensures.1).2 in
    leads_along (course (done, In_values d ranges) c.args.self.now) (course (done, After_dots d ranges low) c.takes.new.self)
    (λ range. (done, In_values d (ranges ++ range ∷ []))) c.from_residual-in_err-high.result c.number-then-takes.new.self
    (accepted true false (number_at 0 max_value) (λ n. n) (λ n. (done, After_value d ranges n)) (done, In_values d ranges) c.args.self.now c.number.new.self (Ok low)
    (low_wanted done d ranges (left c.args.self.now) h) c.in_ok-low.ensures
    ∙ takes_sign (done, After_value d ranges low) (done, After_dots d ranges low) Dots c.number.new.self c.takes.new.self c.if-takes.ensures refl)
    (exits (course (done, After_dots d ranges low) c.takes.new.self)
    (λ range. (done, In_values d (ranges ++ range ∷ []))) c.in_err-high.field-0.0 c.from_residual-in_err-high.result c.number-then-takes.new.self c.from_residual-in_err-high.ensures.1
    (accepted true false (number_at low max_value) (λ n. n) (λ n. (done, In_values d (ranges ++ (low, n) ∷ []))) (done, After_dots d ranges low) c.takes.new.self c.number-then-takes.new.self
    (Err c.in_err-high.field-0.0) (high_wanted done d ranges low (left c.takes.new.self) small) c.in_err-high.ensures)))

pub returns-then-takes-clause-read : goal.returns-then-takes-clause-read
returns-then-takes-clause-read c = λ done d ranges h.
    (let low = c.in_ok-low.low in
    let small = (number_at-is 0 max_value c.in_ok-low.ensures.0 low c.in_ok-low.ensures.1).2 in
    accepted true false (number_at 0 max_value) (λ n. n) (λ n. (done, After_value d ranges n)) (done, In_values d ranges) c.args.self.now c.number.new.self (Ok low)
    (low_wanted done d ranges (left c.args.self.now) h) c.in_ok-low.ensures
    ∙ takes_sign (done, After_value d ranges low) (done, After_dots d ranges low) Dots c.number.new.self c.takes.new.self c.if-takes.ensures refl
    ∙ accepted true false (number_at low max_value) (λ n. n) (λ n. (done, In_values d (ranges ++ (low, n) ∷ []))) (done, After_dots d ranges low) c.takes.new.self c.number-then-takes.new.self
    (Ok c.in_ok-high.high) (high_wanted done d ranges low (left c.takes.new.self) small) c.in_ok-high.ensures)

pub returns-clause-read : goal.returns-clause-read
returns-clause-read c = λ done d ranges h.
    (let low = c.in_ok-low.low in
    accepted true false (number_at 0 max_value) (λ n. n) (λ n. (done, After_value d ranges n)) (done, In_values d ranges) c.args.self.now c.number.new.self (Ok low)
    (low_wanted done d ranges (left c.args.self.now) h) c.in_ok-low.ensures
    ∙ ap (λ (o : Outcome). (c.number.new.self.text.now, o)) (one_value done d ranges low (left c.number.new.self) c.if-takes.ensures.0)
    ∙ ap (course (done, In_values d (ranges ++ (low, low) ∷ []))) (sym c.if-takes.ensures.1))

pub returns-then-takes-clause-derived : goal.returns-then-takes-clause-derived
returns-then-takes-clause-derived c =
    range_derived c.in_ok-low.low c.in_ok-high.high c.args.self.now c.number.new.self c.takes.new.self c.number-then-takes.new.self c.in_ok-low.ensures c.if-takes.ensures c.in_ok-high.ensures

pub returns-clause-derived : goal.returns-clause-derived
returns-clause-derived c = value_alone c.in_ok-low.low c.args.self.now c.number.new.self c.takes.new.self c.in_ok-low.ensures c.if-takes.ensures.1
