use Rattle.std.proofs.Common.{◌≡◌, cond, refl, sym, ap, subst, Ok, Err, ◌∙◌}
use Rattle.std.specs.Prelude.{false, codes}
use Rattle.dia_ccf.specs.Tokens.{Colon}
use Rattle.dia_ccf.specs.Machine.{In_head, Head_word, Avp_colon, Diameter_colon, Group_code, Command_code, Error_word, Head_end, is_keyword}
use Rattle.dia_ccf.specs.ReaderFunctions.{course, left, begins_with}
use Rattle.dia_ccf.proofs.ReaderSteps.{sign_leads, leads_along, exits}
use Rattle.dia_ccf.proofs.ReaderInHeads.{avp_colon, diameter_colon, keyword_passed}
use Rattle.std.proofs.Common.{Bool, true}
use Rattle.dia_ccf.specs.declared.reading.Reader.{Reader}
use Rattle.dia_ccf.specs.Grammar.{◌then◌, one, keyword, avp_header, diameter_header}
use Rattle.dia_ccf.specs.ReaderFunctions.{Derived, header_words, group_of, command_of, error_of}
use Rattle.dia_ccf.proofs.ReaderPlaces.{along, sign_derived}
use Rattle.dia_ccf.proofs.HeadTokens.{head_by, group_head, command_head, error_head, keyword_taken}
use Rattle.dia_ccf.proofs.reading.Reader.head.Goals as goal

pub returns-in_err-is_avp_header-clause-read : goal.returns-in_err-is_avp_header-clause-read
returns-in_err-is_avp_header-clause-read c = λ done name.
    exits (course (done, In_head name Head_word) c.args.self.now)
    (λ head. (done, In_head name (Head_end head))) c.in_err-is_avp_header.field-0.0 c.from_residual.result c.is_avp_header.new.self c.from_residual.ensures.1
    (c.in_err-is_avp_header.ensures.read done name)

pub returns-in_err-expect-clause-read : goal.returns-in_err-expect-clause-read
returns-in_err-expect-clause-read c = λ done name.
    leads_along (course (done, In_head name Head_word) c.args.self.now) (course (done, In_head name Avp_colon) c.is_avp_header.new.self)
    (λ head. (done, In_head name (Head_end head))) c.from_residual-in_err-expect.result c.expect.new.self
    (c.in_ok-is_avp_header.ensures.read done name ∙ ap (λ b. course (done, In_head name (cond b Avp_colon Diameter_colon)) c.is_avp_header.new.self) c.if-branch.true)
    (exits (course (done, In_head name Avp_colon) c.is_avp_header.new.self)
    (λ head. (done, In_head name (Head_end head))) c.in_err-expect.field-0.0 c.from_residual-in_err-expect.result c.expect.new.self c.from_residual-in_err-expect.ensures.1
    (sign_leads (done, In_head name Avp_colon) (done, In_head name Group_code) Colon c.is_avp_header.new.self c.expect.new.self (Err c.in_err-expect.field-0.0) (avp_colon done name) (λ t. refl) refl
    c.in_err-expect.ensures))

pub returns-then-branch-clause-read : goal.returns-then-branch-clause-read
returns-then-branch-clause-read c = λ done name.
    leads_along (course (done, In_head name Head_word) c.args.self.now) (course (done, In_head name Group_code) c.expect.new.self)
    (λ head. (done, In_head name (Head_end head))) c.group.result c.group.new.self
    (c.in_ok-is_avp_header.ensures.read done name ∙ ap (λ b. course (done, In_head name (cond b Avp_colon Diameter_colon)) c.is_avp_header.new.self) c.if-branch.true
    ∙ sign_leads (done, In_head name Avp_colon) (done, In_head name Group_code) Colon c.is_avp_header.new.self c.expect.new.self (Ok tt) (avp_colon done name) (λ t. refl) refl c.in_ok-expect.ensures)
    (c.group.ensures.read done name)

pub returns-in_err-expect-2-clause-read : goal.returns-in_err-expect-2-clause-read
returns-in_err-expect-2-clause-read c = λ done name.
    leads_along (course (done, In_head name Head_word) c.args.self.now) (course (done, In_head name Diameter_colon) c.is_avp_header.new.self)
    (λ head. (done, In_head name (Head_end head))) c.from_residual-in_err-expect-2.result c.expect-2.new.self
    (c.in_ok-is_avp_header.ensures.read done name ∙ ap (λ b. course (done, In_head name (cond b Avp_colon Diameter_colon)) c.is_avp_header.new.self) c.if-branch.false)
    (exits (course (done, In_head name Diameter_colon) c.is_avp_header.new.self)
    (λ head. (done, In_head name (Head_end head))) c.in_err-expect-2.field-0.0 c.from_residual-in_err-expect-2.result c.expect-2.new.self c.from_residual-in_err-expect-2.ensures.1
    (sign_leads (done, In_head name Diameter_colon) (done, In_head name Command_code) Colon c.is_avp_header.new.self c.expect-2.new.self (Err c.in_err-expect-2.field-0.0)
    (diameter_colon done name) (λ t. refl) refl c.in_err-expect-2.ensures))

pub returns-then-takes_keyword-clause-read : goal.returns-then-takes_keyword-clause-read
returns-then-takes_keyword-clause-read c = λ done name.
    (let k = c.if-takes_keyword.ensures in
    leads_along (course (done, In_head name Head_word) c.args.self.now) (course (done, In_head name (Error_word false)) c.takes_keyword.new.self)
    (λ head. (done, In_head name (Head_end head))) c.error.result c.error.new.self
    (c.in_ok-is_avp_header.ensures.read done name ∙ ap (λ b. course (done, In_head name (cond b Avp_colon Diameter_colon)) c.is_avp_header.new.self) c.if-branch.false
    ∙ sign_leads (done, In_head name Diameter_colon) (done, In_head name Command_code) Colon c.is_avp_header.new.self c.expect-2.new.self (Ok tt) (diameter_colon done name) (λ t. refl) refl
    c.in_ok-expect-2.ensures
    ∙ keyword_passed (codes "code") (done, In_head name Command_code) (done, In_head name (Error_word false)) k.0 c.expect-2.new.self c.takes_keyword.new.self k.1 k.2 (λ w e. rw e refl))
    (c.error.ensures.read done name))

pub returns-else-takes_keyword-clause-read : goal.returns-else-takes_keyword-clause-read
returns-else-takes_keyword-clause-read c = λ done name.
    (let k = c.if-takes_keyword.ensures in
    leads_along (course (done, In_head name Head_word) c.args.self.now) (course (done, In_head name Command_code) c.takes_keyword.new.self)
    (λ head. (done, In_head name (Head_end head))) c.command.result c.command.new.self
    (c.in_ok-is_avp_header.ensures.read done name ∙ ap (λ b. course (done, In_head name (cond b Avp_colon Diameter_colon)) c.is_avp_header.new.self) c.if-branch.false
    ∙ sign_leads (done, In_head name Diameter_colon) (done, In_head name Command_code) Colon c.is_avp_header.new.self c.expect-2.new.self (Ok tt) (diameter_colon done name) (λ t. refl) refl
    c.in_ok-expect-2.ensures
    ∙ ap (course (done, In_head name Command_code)) (sym k.1))
    (c.command.ensures.read done name (subst (λ r. begins_with (is_keyword (codes "code")) (left r) ≡ false) (sym k.1) k.0)))

pub returns-then-branch-clause-derived : goal.returns-then-branch-clause-derived
returns-then-branch-clause-derived c =
    let words = subst (λ (b : Bool). Derived (header_words b) c.args.self.now c.is_avp_header.new.self) c.if-branch.true c.in_ok-is_avp_header.ensures.derived in
    head_by avp_header group_of c.group.result c.args.self.now c.expect.new.self c.group.new.self group_head
    (along (header_words true) (one Colon) c.args.self.now c.is_avp_header.new.self c.expect.new.self words (sign_derived Colon c.is_avp_header.new.self c.expect.new.self refl c.in_ok-expect.ensures))
    c.group.ensures.derived

pub returns-then-takes_keyword-clause-derived : goal.returns-then-takes_keyword-clause-derived
returns-then-takes_keyword-clause-derived c =
    let words = subst (λ (b : Bool). Derived (header_words b) c.args.self.now c.is_avp_header.new.self) c.if-branch.false c.in_ok-is_avp_header.ensures.derived in
    let begun = along (header_words false) (one Colon) c.args.self.now c.is_avp_header.new.self c.expect-2.new.self words
    (sign_derived Colon c.is_avp_header.new.self c.expect-2.new.self refl c.in_ok-expect-2.ensures) in
    head_by (diameter_header then keyword (codes "code")) error_of c.error.result c.args.self.now c.takes_keyword.new.self c.error.new.self error_head
    (along diameter_header (keyword (codes "code")) c.args.self.now c.expect-2.new.self c.takes_keyword.new.self begun (keyword_taken (codes "code") c.expect-2.new.self c.takes_keyword.new.self c.if-takes_keyword.ensures))
    c.error.ensures.derived

pub returns-else-takes_keyword-clause-derived : goal.returns-else-takes_keyword-clause-derived
returns-else-takes_keyword-clause-derived c =
    let words = subst (λ (b : Bool). Derived (header_words b) c.args.self.now c.is_avp_header.new.self) c.if-branch.false c.in_ok-is_avp_header.ensures.derived in
    let begun = along (header_words false) (one Colon) c.args.self.now c.is_avp_header.new.self c.expect-2.new.self words
    (sign_derived Colon c.is_avp_header.new.self c.expect-2.new.self refl c.in_ok-expect-2.ensures) in
    head_by diameter_header command_of c.command.result c.args.self.now c.takes_keyword.new.self c.command.new.self command_head
    (subst (λ (r : Reader). Derived diameter_header c.args.self.now r) (sym c.if-takes_keyword.ensures.1) begun) c.command.ensures.derived
