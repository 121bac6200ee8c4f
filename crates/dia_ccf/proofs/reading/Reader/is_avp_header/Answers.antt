use Rattle.std.proofs.Common.{◌≡◌, false, cond, List, [], ◌∷◌, ℕ, refl, sym, ap, subst, Ok, Err, ◌∙◌}
use Rattle.std.specs.Prelude.{codes}
use Rattle.std.specs.Option.{option_map}
use Rattle.dia_ccf.specs.Plain.{PlainSource}
use Rattle.dia_ccf.specs.Tokens.{Token, Name}
use Rattle.dia_ccf.specs.Machine.{HeadPlace, In_head, Head_word, Avp_word, Avp_colon, Diameter_word, Diameter_colon, next_in_head, is_keyword, keyword_at}
use Rattle.dia_ccf.specs.ReaderFunctions.{course, left, begins_with, Wants}
use Rattle.dia_ccf.proofs.ReaderSteps.{map_twice, accepted, leads_along, exits}
use Rattle.dia_ccf.proofs.ReaderInHeads.{keyword_passed}
use Rattle.std.proofs.Common.{inl, inr, true}
use Rattle.dia_ccf.specs.Grammar.{◌then◌, keyword}
use Rattle.dia_ccf.specs.ReaderFunctions.{header_words}
use Rattle.dia_ccf.proofs.ReaderPlaces.{along, of_class}
use Rattle.dia_ccf.proofs.HeadTokens.{keyword_taken, keyword_read, after_none}
use Rattle.dia_ccf.proofs.reading.Reader.is_avp_header.Goals as goal

avp_wanted : (done : PlainSource) (name : List ℕ) (ts : List Token)
    → Wants false false (λ t. option_map (λ u. (done, In_head name Avp_colon)) (keyword_at (codes "header") t)) (done, In_head name Avp_word) ts
avp_wanted done name [] = refl
avp_wanted done name (Name w ∷ us) = (map_twice (λ to. (done, In_head name to)) (λ u. Avp_colon) (keyword_at (codes "header") (Name w)), refl)
avp_wanted done name (t ∷ us) = (refl, refl)

diameter_wanted : (done : PlainSource) (name : List ℕ) (ts : List Token)
    → Wants false false (λ t. option_map (λ u. (done, In_head name Diameter_colon)) (keyword_at (codes "header") t)) (done, In_head name Diameter_word) ts
diameter_wanted done name [] = refl
diameter_wanted done name (Name w ∷ us) = (map_twice (λ to. (done, In_head name to)) (λ u. Diameter_colon) (keyword_at (codes "header") (Name w)), refl)
diameter_wanted done name (t ∷ us) = (refl, refl)

-- where none of the other words is ahead
word_wanted : (done : PlainSource) (name : List ℕ) (ts : List Token) → begins_with (is_keyword (codes "avp")) ts ≡ false → begins_with (is_keyword (codes "avp-header")) ts ≡ false
    → begins_with (is_keyword (codes "diameter")) ts ≡ false
    → Wants false false (λ t. option_map (λ u. (done, In_head name Diameter_colon)) (keyword_at (codes "diameter-header") t)) (done, In_head name Head_word) ts
word_wanted done name [] a b d = refl
word_wanted done name (Name w ∷ us) a b d =
    let is : next_in_head Head_word (Name w) ≡ option_map (λ u. Diameter_colon) (keyword_at (codes "diameter-header") (Name w)) = rw (a, b, d) refl in
    (ap (option_map (λ (to : HeadPlace). (done, In_head name to))) is ∙ map_twice (λ to. (done, In_head name to)) (λ u. Diameter_colon) (keyword_at (codes "diameter-header") (Name w)), refl)
word_wanted done name (t ∷ us) a b d = (refl, refl)

pub returns-in_err-expect_keyword-clause-read : goal.returns-in_err-expect_keyword-clause-read
returns-in_err-expect_keyword-clause-read c = λ done name.
    (let k = c.if-takes_keyword.ensures in
    leads_along (course (done, In_head name Head_word) c.args.self.now) (course (done, In_head name Avp_word) c.takes_keyword.new.self)
    (λ avp. (done, In_head name (cond avp Avp_colon Diameter_colon))) c.from_residual.result c.expect_keyword.new.self
    (keyword_passed (codes "avp") (done, In_head name Head_word) (done, In_head name Avp_word) k.0 c.args.self.now c.takes_keyword.new.self k.1 k.2 (λ w e. rw e refl))
    (exits (course (done, In_head name Avp_word) c.takes_keyword.new.self)
    (λ avp. (done, In_head name (cond avp Avp_colon Diameter_colon))) c.in_err-expect_keyword.field-0.0 c.from_residual.result c.expect_keyword.new.self c.from_residual.ensures.1
    (accepted {X = Unit {0}} false false (keyword_at (codes "header")) (λ u. tt) (λ u. (done, In_head name Avp_colon)) (done, In_head name Avp_word) c.takes_keyword.new.self c.expect_keyword.new.self
    (Err c.in_err-expect_keyword.field-0.0) (avp_wanted done name (left c.takes_keyword.new.self)) c.in_err-expect_keyword.ensures)))

pub returns-then-takes_keyword-clause-read : goal.returns-then-takes_keyword-clause-read
returns-then-takes_keyword-clause-read c = λ done name.
    (let k = c.if-takes_keyword.ensures in
    keyword_passed (codes "avp") (done, In_head name Head_word) (done, In_head name Avp_word) k.0 c.args.self.now c.takes_keyword.new.self k.1 k.2 (λ w e. rw e refl)
    ∙ accepted {X = Unit {0}} false false (keyword_at (codes "header")) (λ u. tt) (λ u. (done, In_head name Avp_colon)) (done, In_head name Avp_word) c.takes_keyword.new.self c.expect_keyword.new.self
    (Ok tt) (avp_wanted done name (left c.takes_keyword.new.self)) c.in_ok-expect_keyword.ensures)

pub returns-then-takes_keyword-2-clause-read : goal.returns-then-takes_keyword-2-clause-read
returns-then-takes_keyword-2-clause-read c = λ done name.
    (let k = c.if-takes_keyword-2.ensures in
    ap (course (done, In_head name Head_word)) (sym c.if-takes_keyword.ensures.1)
    ∙ keyword_passed (codes "avp-header") (done, In_head name Head_word) (done, In_head name Avp_colon) k.0 c.takes_keyword.new.self c.takes_keyword-2.new.self k.1 k.2 (λ w e. rw e refl))

pub returns-in_err-expect_keyword-2-clause-read : goal.returns-in_err-expect_keyword-2-clause-read
returns-in_err-expect_keyword-2-clause-read c = λ done name.
    (let k = c.if-takes_keyword-3.ensures in
    leads_along (course (done, In_head name Head_word) c.args.self.now) (course (done, In_head name Diameter_word) c.takes_keyword-3.new.self)
    (λ avp. (done, In_head name (cond avp Avp_colon Diameter_colon))) c.from_residual-in_err-expect_keyword-2.result c.expect_keyword-then-takes_keyword-3.new.self
    (ap (course (done, In_head name Head_word)) (sym (c.if-takes_keyword-2.ensures.1 ∙ c.if-takes_keyword.ensures.1))
    ∙ keyword_passed (codes "diameter") (done, In_head name Head_word) (done, In_head name Diameter_word) k.0 c.takes_keyword-2.new.self c.takes_keyword-3.new.self k.1 k.2 (λ w e. rw e refl))
    (exits (course (done, In_head name Diameter_word) c.takes_keyword-3.new.self)
    (λ avp. (done, In_head name (cond avp Avp_colon Diameter_colon))) c.in_err-expect_keyword-2.field-0.0 c.from_residual-in_err-expect_keyword-2.result c.expect_keyword-then-takes_keyword-3.new.self
    c.from_residual-in_err-expect_keyword-2.ensures.1
    (accepted {X = Unit {0}} false false (keyword_at (codes "header")) (λ u. tt) (λ u. (done, In_head name Diameter_colon)) (done, In_head name Diameter_word)
    c.takes_keyword-3.new.self c.expect_keyword-then-takes_keyword-3.new.self
    (Err c.in_err-expect_keyword-2.field-0.0) (diameter_wanted done name (left c.takes_keyword-3.new.self)) c.in_err-expect_keyword-2.ensures)))

pub returns-in_ok-expect_keyword-2-clause-read : goal.returns-in_ok-expect_keyword-2-clause-read
returns-in_ok-expect_keyword-2-clause-read c = λ done name.
    (let k = c.if-takes_keyword-3.ensures in
    ap (course (done, In_head name Head_word)) (sym (c.if-takes_keyword-2.ensures.1 ∙ c.if-takes_keyword.ensures.1))
    ∙ keyword_passed (codes "diameter") (done, In_head name Head_word) (done, In_head name Diameter_word) k.0 c.takes_keyword-2.new.self c.takes_keyword-3.new.self k.1 k.2 (λ w e. rw e refl)
    ∙ accepted {X = Unit {0}} false false (keyword_at (codes "header")) (λ u. tt) (λ u. (done, In_head name Diameter_colon)) (done, In_head name Diameter_word)
    c.takes_keyword-3.new.self c.expect_keyword-then-takes_keyword-3.new.self (Ok tt) (diameter_wanted done name (left c.takes_keyword-3.new.self)) c.in_ok-expect_keyword-2.ensures)

pub returns-in_err-expect_keyword-3-clause-read : goal.returns-in_err-expect_keyword-3-clause-read
returns-in_err-expect_keyword-3-clause-read c = λ done name.
    (let first = c.if-takes_keyword.ensures in
    let second = c.if-takes_keyword-2.ensures in
    let third = c.if-takes_keyword-3.ensures in
    let all = third.1 ∙ second.1 ∙ first.1 in
    let wanted = word_wanted done name (left c.takes_keyword-3.new.self) (subst (λ r. begins_with (is_keyword (codes "avp")) (left r) ≡ false) (sym all) first.0)
    (subst (λ r. begins_with (is_keyword (codes "avp-header")) (left r) ≡ false) (sym (third.1 ∙ second.1)) second.0)
    (subst (λ r. begins_with (is_keyword (codes "diameter")) (left r) ≡ false) (sym third.1) third.0) in
    leads_along (course (done, In_head name Head_word) c.args.self.now) (course (done, In_head name Head_word) c.takes_keyword-3.new.self)
    (λ avp. (done, In_head name (cond avp Avp_colon Diameter_colon))) c.from_residual-in_err-expect_keyword-3.result c.expect_keyword-else-takes_keyword-3.new.self
    (ap (course (done, In_head name Head_word)) (sym all))
    (exits (course (done, In_head name Head_word) c.takes_keyword-3.new.self)
    (λ avp. (done, In_head name (cond avp Avp_colon Diameter_colon))) c.in_err-expect_keyword-3.field-0.0 c.from_residual-in_err-expect_keyword-3.result c.expect_keyword-else-takes_keyword-3.new.self
    c.from_residual-in_err-expect_keyword-3.ensures.1
    (accepted {X = Unit {0}} false false (keyword_at (codes "diameter-header")) (λ u. tt) (λ u. (done, In_head name Diameter_colon)) (done, In_head name Head_word)
    c.takes_keyword-3.new.self c.expect_keyword-else-takes_keyword-3.new.self (Err c.in_err-expect_keyword-3.field-0.0) wanted c.in_err-expect_keyword-3.ensures)))

pub returns-in_ok-expect_keyword-3-clause-read : goal.returns-in_ok-expect_keyword-3-clause-read
returns-in_ok-expect_keyword-3-clause-read c = λ done name.
    (let first = c.if-takes_keyword.ensures in
    let second = c.if-takes_keyword-2.ensures in
    let third = c.if-takes_keyword-3.ensures in
    let all = third.1 ∙ second.1 ∙ first.1 in
    let wanted = word_wanted done name (left c.takes_keyword-3.new.self) (subst (λ r. begins_with (is_keyword (codes "avp")) (left r) ≡ false) (sym all) first.0)
    (subst (λ r. begins_with (is_keyword (codes "avp-header")) (left r) ≡ false) (sym (third.1 ∙ second.1)) second.0)
    (subst (λ r. begins_with (is_keyword (codes "diameter")) (left r) ≡ false) (sym third.1) third.0) in
    ap (course (done, In_head name Head_word)) (sym all)
    ∙ accepted {X = Unit {0}} false false (keyword_at (codes "diameter-header")) (λ u. tt) (λ u. (done, In_head name Diameter_colon)) (done, In_head name Head_word)
    c.takes_keyword-3.new.self c.expect_keyword-else-takes_keyword-3.new.self (Ok tt) wanted c.in_ok-expect_keyword-3.ensures)

pub returns-then-takes_keyword-clause-derived : goal.returns-then-takes_keyword-clause-derived
returns-then-takes_keyword-clause-derived c =
    let first = keyword (codes "avp") in
    let second = keyword (codes "header") in
    of_class (first then second) (header_words true) c.args.self.now c.expect_keyword.new.self (λ ts k. inl k)
    (along first second c.args.self.now c.takes_keyword.new.self c.expect_keyword.new.self (keyword_taken (codes "avp") c.args.self.now c.takes_keyword.new.self c.if-takes_keyword.ensures)
    (keyword_read (codes "header") c.takes_keyword.new.self c.expect_keyword.new.self c.in_ok-expect_keyword.ensures))

pub returns-then-takes_keyword-2-clause-derived : goal.returns-then-takes_keyword-2-clause-derived
returns-then-takes_keyword-2-clause-derived c =
    let word = keyword (codes "avp-header") in
    of_class word (header_words true) c.args.self.now c.takes_keyword-2.new.self (λ ts k. inr k)
    (after_none word c.args.self.now c.takes_keyword.new.self c.takes_keyword-2.new.self c.if-takes_keyword.ensures.1
    (keyword_taken (codes "avp-header") c.takes_keyword.new.self c.takes_keyword-2.new.self c.if-takes_keyword-2.ensures))

pub returns-in_ok-expect_keyword-2-clause-derived : goal.returns-in_ok-expect_keyword-2-clause-derived
returns-in_ok-expect_keyword-2-clause-derived c =
    let first = keyword (codes "diameter") in
    let second = keyword (codes "header") in
    let last = c.expect_keyword-then-takes_keyword-3.new.self in
    of_class (first then second) (header_words false) c.args.self.now last (λ ts k. inl k)
    (after_none (first then second) c.args.self.now c.takes_keyword-2.new.self last (c.if-takes_keyword-2.ensures.1 ∙ c.if-takes_keyword.ensures.1)
    (along first second c.takes_keyword-2.new.self c.takes_keyword-3.new.self last (keyword_taken (codes "diameter") c.takes_keyword-2.new.self c.takes_keyword-3.new.self c.if-takes_keyword-3.ensures)
    (keyword_read (codes "header") c.takes_keyword-3.new.self last c.in_ok-expect_keyword-2.ensures)))

pub returns-in_ok-expect_keyword-3-clause-derived : goal.returns-in_ok-expect_keyword-3-clause-derived
returns-in_ok-expect_keyword-3-clause-derived c =
    let word = keyword (codes "diameter-header") in
    let last = c.expect_keyword-else-takes_keyword-3.new.self in
    of_class word (header_words false) c.args.self.now last (λ ts k. inr k)
    (after_none word c.args.self.now c.takes_keyword-3.new.self last (c.if-takes_keyword-3.ensures.1 ∙ c.if-takes_keyword-2.ensures.1 ∙ c.if-takes_keyword.ensures.1)
    (keyword_read (codes "diameter-header") c.takes_keyword-3.new.self last c.in_ok-expect_keyword-3.ensures))
