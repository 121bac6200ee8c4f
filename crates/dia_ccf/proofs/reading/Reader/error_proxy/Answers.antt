use Rattle.std.proofs.Common.{◌≡◌, Bool, true, false, cond, List, [], ◌∷◌, Option, Some, None, ℕ, refl, sym, ap, subst, Ok, Err, ◌∙◌}
use Rattle.std.specs.Prelude.{codes}
use Rattle.std.specs.Option.{option_map}
use Rattle.dia_ccf.specs.declared.source.Head.TheVariants.{Error}
use Rattle.dia_terms.specs.declared.Pxy.TheVariants.{Set, Clear}
use Rattle.dia_ccf.specs.Plain.{PlainSource}
use Rattle.dia_ccf.specs.Tokens.{Token, Comma, Open_bracket, Name}
use Rattle.dia_ccf.specs.Machine.{State, Outcome, In_head, Error_flags, Error_either, Head_end, next, refused, outcome, same_sign, is_keyword, keyword_at}
use Rattle.dia_ccf.specs.ReaderFunctions.{course, left, begins_with, Wants}
use Rattle.dia_ccf.proofs.MachineRuns.{outcome_same}
use Rattle.dia_ccf.proofs.ReaderSteps.{accepted, takes_sign, leads_along, exits}
use Rattle.dia_ccf.proofs.ReaderInHeads.{keyword_passed}
use Rattle.std.proofs.Common.{inl}
use Rattle.dia_ccf.specs.Grammar.{◌then◌, comma, keyword, error_proxy}
use Rattle.dia_ccf.proofs.ReaderPlaces.{along, unmoved}
use Rattle.dia_ccf.proofs.HeadTokens.{bracketed_proxy, comma_passed, keyword_taken, keyword_read, after_none}
use Rattle.dia_ccf.proofs.reading.Reader.error_proxy.Goals as goal

abbrev proxied : PlainSource → List ℕ → State
proxied done name = (done, In_head name (Head_end (Error Set)))

abbrev one : Option (Unit {0})
one = Some tt

flag_wanted : (done : PlainSource) (name : List ℕ) (ts : List Token)
    → Wants false false (λ t. option_map (λ u. proxied done name) (keyword_at (codes "pxy") t)) (done, In_head name (Error_flags true)) ts
flag_wanted done name [] = refl
flag_wanted done name (Name w ∷ us) = (by_test (is_keyword (codes "pxy") (Name w)), refl)
  where
    by_test : (b : Bool) → option_map (λ to. (done, In_head name to)) (cond b (Some (Head_end (Error Set))) None) ≡ option_map (λ u. proxied done name) (cond b one None)
    by_test true = refl
    by_test false = refl
flag_wanted done name (t ∷ us) = (refl, refl)

no_flag : (done : PlainSource) (name : List ℕ) (ts : List Token) → begins_with (same_sign Open_bracket) ts ≡ false → begins_with (same_sign Comma) ts ≡ false
    → begins_with (is_keyword (codes "pxy")) ts ≡ false → outcome (done, In_head name (Error_flags false)) ts ≡ outcome (done, In_head name (Head_end (Error Clear))) ts
no_flag done name ts a b d = outcome_same (done, In_head name (Error_flags false)) (done, In_head name (Head_end (Error Clear))) ts
    (λ t us e. at_token t (ap (begins_with (same_sign Open_bracket)) (sym e) ∙ a) (ap (begins_with (same_sign Comma)) (sym e) ∙ b)
    (ap (begins_with (is_keyword (codes "pxy"))) (sym e) ∙ d)) (λ e. refl)
  where
    at_token : (t : Token) → same_sign Open_bracket t ≡ false → same_sign Comma t ≡ false → is_keyword (codes "pxy") t ≡ false
        → (next (done, In_head name (Error_flags false)) t ≡ next (done, In_head name (Head_end (Error Clear))) t)
        × (refused (done, In_head name (Error_flags false)) t ≡ refused (done, In_head name (Head_end (Error Clear))) t)
    at_token Open_bracket a b d = absurd cc
    at_token Comma a b d = absurd cc
    at_token (Name w) a b d = (rw d refl, refl)
    at_token t a b d = (refl, refl)

pub returns-then-takes-clause-read : goal.returns-then-takes-clause-read
returns-then-takes-clause-read c = λ done name.
    leads_along (course (done, In_head name (Error_flags false)) c.args.self.now) (course (done, In_head name (Error_either false)) c.takes.new.self)
    (λ pxy. (done, In_head name (Head_end (Error pxy)))) c.proxy_in_brackets.result c.proxy_in_brackets.new.self
    (takes_sign (done, In_head name (Error_flags false)) (done, In_head name (Error_either false)) Open_bracket c.args.self.now c.takes.new.self c.if-takes.ensures refl)
    (c.proxy_in_brackets.ensures.read done name)

pub returns-in_err-expect_keyword-clause-read : goal.returns-in_err-expect_keyword-clause-read
returns-in_err-expect_keyword-clause-read c = λ done name.
    leads_along (course (done, In_head name (Error_flags false)) c.args.self.now) (course (done, In_head name (Error_flags true)) c.takes-2.new.self)
    (λ pxy. (done, In_head name (Head_end (Error pxy)))) c.from_residual.result c.expect_keyword.new.self
    (ap (course (done, In_head name (Error_flags false))) (sym c.if-takes.ensures.1)
    ∙ takes_sign (done, In_head name (Error_flags false)) (done, In_head name (Error_flags true)) Comma c.takes.new.self c.takes-2.new.self c.if-takes-2.ensures refl)
    (exits (course (done, In_head name (Error_flags true)) c.takes-2.new.self)
    (λ pxy. (done, In_head name (Head_end (Error pxy)))) c.in_err-expect_keyword.field-0.0 c.from_residual.result c.expect_keyword.new.self c.from_residual.ensures.1
    (accepted {X = Unit {0}} false false (keyword_at (codes "pxy")) (λ u. tt) (λ u. proxied done name) (done, In_head name (Error_flags true)) c.takes-2.new.self c.expect_keyword.new.self
    (Err c.in_err-expect_keyword.field-0.0) (flag_wanted done name (left c.takes-2.new.self)) c.in_err-expect_keyword.ensures))

pub returns-then-takes-2-clause-read : goal.returns-then-takes-2-clause-read
returns-then-takes-2-clause-read c = λ done name.
    ap (course (done, In_head name (Error_flags false))) (sym c.if-takes.ensures.1)
    ∙ takes_sign (done, In_head name (Error_flags false)) (done, In_head name (Error_flags true)) Comma c.takes.new.self c.takes-2.new.self c.if-takes-2.ensures refl
    ∙ accepted {X = Unit {0}} false false (keyword_at (codes "pxy")) (λ u. tt) (λ u. proxied done name) (done, In_head name (Error_flags true)) c.takes-2.new.self c.expect_keyword.new.self
    (Ok tt) (flag_wanted done name (left c.takes-2.new.self)) c.in_ok-expect_keyword.ensures

pub returns-then-takes_keyword-clause-read : goal.returns-then-takes_keyword-clause-read
returns-then-takes_keyword-clause-read c = λ done name.
    (let k = c.if-takes_keyword.ensures in
    ap (course (done, In_head name (Error_flags false))) (sym (c.if-takes-2.ensures.1 ∙ c.if-takes.ensures.1))
    ∙ keyword_passed (codes "pxy") (done, In_head name (Error_flags false)) (proxied done name) k.0 c.takes-2.new.self c.takes_keyword.new.self k.1 k.2 (λ w e. rw e refl))

pub returns-clause-read : goal.returns-clause-read
returns-clause-read c = λ done name.
    (let first = c.if-takes.ensures in
    let second = c.if-takes-2.ensures in
    let third = c.if-takes_keyword.ensures in
    let none = subst (λ r. begins_with (same_sign Open_bracket) (left r) ≡ false) (sym (second.1 ∙ first.1)) first.0 in
    let no_comma = subst (λ r. begins_with (same_sign Comma) (left r) ≡ false) (sym second.1) second.0 in
    ap (course (done, In_head name (Error_flags false))) (sym (second.1 ∙ first.1))
    ∙ ap (λ (o : Outcome). (c.takes-2.new.self.text.now, o)) (no_flag done name (left c.takes-2.new.self) none no_comma third.0)
    ∙ ap (course (done, In_head name (Head_end (Error Clear)))) (sym third.1))

pub returns-then-takes-clause-derived : goal.returns-then-takes-clause-derived
returns-then-takes-clause-derived c =
    bracketed_proxy c.proxy_in_brackets.result c.args.self.now c.takes.new.self c.proxy_in_brackets.new.self c.if-takes.ensures c.proxy_in_brackets.ensures.derived

pub returns-then-takes-2-clause-derived : goal.returns-then-takes-2-clause-derived
returns-then-takes-2-clause-derived c =
    let word = keyword (codes "pxy") in
    after_none (comma then word) c.args.self.now c.takes.new.self c.expect_keyword.new.self c.if-takes.ensures.1
    (along comma word c.takes.new.self c.takes-2.new.self c.expect_keyword.new.self
    (comma_passed true c.takes.new.self c.takes-2.new.self c.if-takes-2.ensures)
    (keyword_read (codes "pxy") c.takes-2.new.self c.expect_keyword.new.self c.in_ok-expect_keyword.ensures))

pub returns-then-takes_keyword-clause-derived : goal.returns-then-takes_keyword-clause-derived
returns-then-takes_keyword-clause-derived c =
    let word = keyword (codes "pxy") in
    after_none (comma then word) c.args.self.now c.takes-2.new.self c.takes_keyword.new.self (c.if-takes-2.ensures.1 ∙ c.if-takes.ensures.1)
    (along comma word c.takes-2.new.self c.takes-2.new.self c.takes_keyword.new.self (unmoved comma c.takes-2.new.self c.takes-2.new.self refl (inl refl))
    (keyword_taken (codes "pxy") c.takes-2.new.self c.takes_keyword.new.self c.if-takes_keyword.ensures))

pub returns-clause-derived : goal.returns-clause-derived
returns-clause-derived c =
    unmoved (error_proxy Clear) c.args.self.now c.takes_keyword.new.self (c.if-takes_keyword.ensures.1 ∙ c.if-takes-2.ensures.1 ∙ c.if-takes.ensures.1) refl
