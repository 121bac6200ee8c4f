use Rattle.std.proofs.Common.{[], refl, Ok, Err, ◌∙◌}
use Rattle.std.specs.Prelude.{string_bytes}
use Rattle.dia_ccf.specs.Plain.{PlainDef, plain_def}
use Rattle.dia_ccf.specs.Tokens.{Less, Greater, Assign}
use Rattle.dia_ccf.specs.Machine.{Def_assign, Head_open, In_head, Head_word, Head_end, Rules, add_def}
use Rattle.dia_ccf.specs.ReaderFunctions.{course, following}
use Rattle.dia_ccf.proofs.ReaderSteps.{sign_leads, leads_along, exits}
use Rattle.dia_ccf.proofs.ReaderInHeads.{head_closed}
use Rattle.std.proofs.Common.{◌≤◌, arith}
use Rattle.dia_ccf.specs.Grammar.{◌then◌, one, head}
use Rattle.dia_ccf.specs.ReaderFunctions.{nothing_read}
use Rattle.dia_ccf.proofs.ReaderPlaces.{same_text, along, sign_derived, def_occurs, definition_before}
use Rattle.dia_ccf.proofs.reading.Reader.definition.Goals as goal

pub returns-in_err-expect-clause-read : goal.returns-in_err-expect-clause-read
returns-in_err-expect-clause-read c = λ done.
    (let name = string_bytes c.args.opening.name in
    exits (course (done, Def_assign name) c.args.self.now)
    (λ found. (add_def done (plain_def found.0), following found.1)) c.in_err-expect.field-0.0 c.from_residual.result c.expect.new.self c.from_residual.ensures.1
    (sign_leads (done, Def_assign name) (done, Head_open name) Assign c.args.self.now c.expect.new.self (Err c.in_err-expect.field-0.0) (λ t. refl) (λ t. refl) refl c.in_err-expect.ensures))

pub returns-in_err-expect-2-clause-read : goal.returns-in_err-expect-2-clause-read
returns-in_err-expect-2-clause-read c = λ done.
    (let name = string_bytes c.args.opening.name in
    leads_along (course (done, Def_assign name) c.args.self.now) (course (done, Head_open name) c.expect.new.self)
    (λ found. (add_def done (plain_def found.0), following found.1)) c.from_residual-in_err-expect-2.result c.expect-2.new.self
    (sign_leads (done, Def_assign name) (done, Head_open name) Assign c.args.self.now c.expect.new.self (Ok tt) (λ t. refl) (λ t. refl) refl c.in_ok-expect.ensures)
    (exits (course (done, Head_open name) c.expect.new.self)
    (λ found. (add_def done (plain_def found.0), following found.1)) c.in_err-expect-2.field-0.0 c.from_residual-in_err-expect-2.result c.expect-2.new.self c.from_residual-in_err-expect-2.ensures.1
    (sign_leads (done, Head_open name) (done, In_head name Head_word) Less c.expect.new.self c.expect-2.new.self (Err c.in_err-expect-2.field-0.0) (λ t. refl) (λ t. refl) refl
    c.in_err-expect-2.ensures)))

pub returns-in_err-head-clause-read : goal.returns-in_err-head-clause-read
returns-in_err-head-clause-read c = λ done.
    (let name = string_bytes c.args.opening.name in
    leads_along (course (done, Def_assign name) c.args.self.now) (course (done, In_head name Head_word) c.expect-2.new.self)
    (λ found. (add_def done (plain_def found.0), following found.1)) c.from_residual-in_err-head.result c.head.new.self
    (sign_leads (done, Def_assign name) (done, Head_open name) Assign c.args.self.now c.expect.new.self (Ok tt) (λ t. refl) (λ t. refl) refl c.in_ok-expect.ensures
    ∙ sign_leads (done, Head_open name) (done, In_head name Head_word) Less c.expect.new.self c.expect-2.new.self (Ok tt) (λ t. refl) (λ t. refl) refl c.in_ok-expect-2.ensures)
    (exits (course (done, In_head name Head_word) c.expect-2.new.self)
    (λ found. (add_def done (plain_def found.0), following found.1)) c.in_err-head.field-0.0 c.from_residual-in_err-head.result c.head.new.self c.from_residual-in_err-head.ensures.1
    (c.in_err-head.ensures.read done name)))

pub returns-in_err-expect-3-clause-read : goal.returns-in_err-expect-3-clause-read
returns-in_err-expect-3-clause-read c = λ done.
    (let name = string_bytes c.args.opening.name in
    let head = c.in_ok-head.head in
    let d : PlainDef = record { name = name; head = head; rules = [] } in
    leads_along (course (done, Def_assign name) c.args.self.now) (course (done, In_head name (Head_end head)) c.head.new.self)
    (λ found. (add_def done (plain_def found.0), following found.1)) c.from_residual-in_err-expect-3.result c.expect-3.new.self
    (sign_leads (done, Def_assign name) (done, Head_open name) Assign c.args.self.now c.expect.new.self (Ok tt) (λ t. refl) (λ t. refl) refl c.in_ok-expect.ensures
    ∙ sign_leads (done, Head_open name) (done, In_head name Head_word) Less c.expect.new.self c.expect-2.new.self (Ok tt) (λ t. refl) (λ t. refl) refl c.in_ok-expect-2.ensures
    ∙ c.in_ok-head.ensures.read done name)
    (exits (course (done, In_head name (Head_end head)) c.head.new.self)
    (λ found. (add_def done (plain_def found.0), following found.1)) c.in_err-expect-3.field-0.0 c.from_residual-in_err-expect-3.result c.expect-3.new.self c.from_residual-in_err-expect-3.ensures.1
    (sign_leads (done, In_head name (Head_end head)) (done, Rules d) Greater c.head.new.self c.expect-3.new.self (Err c.in_err-expect-3.field-0.0) (head_closed done name head) (λ t. refl) refl
    c.in_err-expect-3.ensures)))

pub returns-in_err-rules-clause-read : goal.returns-in_err-rules-clause-read
returns-in_err-rules-clause-read c = λ done.
    (let name = string_bytes c.args.opening.name in
    let head = c.in_ok-head.head in
    let d : PlainDef = record { name = name; head = head; rules = [] } in
    leads_along (course (done, Def_assign name) c.args.self.now) (course (done, Rules d) c.expect-3.new.self)
    (λ found. (add_def done (plain_def found.0), following found.1)) c.from_residual-in_err-rules.result c.rules.new.self
    (sign_leads (done, Def_assign name) (done, Head_open name) Assign c.args.self.now c.expect.new.self (Ok tt) (λ t. refl) (λ t. refl) refl c.in_ok-expect.ensures
    ∙ sign_leads (done, Head_open name) (done, In_head name Head_word) Less c.expect.new.self c.expect-2.new.self (Ok tt) (λ t. refl) (λ t. refl) refl c.in_ok-expect-2.ensures
    ∙ c.in_ok-head.ensures.read done name
    ∙ sign_leads (done, In_head name (Head_end head)) (done, Rules d) Greater c.head.new.self c.expect-3.new.self (Ok tt) (head_closed done name head) (λ t. refl) refl c.in_ok-expect-3.ensures)
    (exits (course (done, Rules d) c.expect-3.new.self)
    (λ found. (add_def done (plain_def found.0), following found.1)) c.in_err-rules.field-0.0 c.from_residual-in_err-rules.result c.rules.new.self c.from_residual-in_err-rules.ensures.1
    (c.in_err-rules.ensures.read done name head)))

pub returns-clause-read : goal.returns-clause-read
returns-clause-read c = λ done.
    (let name = string_bytes c.args.opening.name in
    let head = c.in_ok-head.head in
    let d : PlainDef = record { name = name; head = head; rules = [] } in
    sign_leads (done, Def_assign name) (done, Head_open name) Assign c.args.self.now c.expect.new.self (Ok tt) (λ t. refl) (λ t. refl) refl c.in_ok-expect.ensures
    ∙ sign_leads (done, Head_open name) (done, In_head name Head_word) Less c.expect.new.self c.expect-2.new.self (Ok tt) (λ t. refl) (λ t. refl) refl c.in_ok-expect-2.ensures
    ∙ c.in_ok-head.ensures.read done name
    ∙ sign_leads (done, In_head name (Head_end head)) (done, Rules d) Greater c.head.new.self c.expect-3.new.self (Ok tt) (head_closed done name head) (λ t. refl) refl c.in_ok-expect-3.ensures
    ∙ c.in_ok-rules.ensures.read done name head)

pub returns-clause-placed : goal.returns-clause-placed
returns-clause-placed c =
    let h = c.in_ok-head.head in
    let old = c.args.self.now in
    let mid = c.expect-3.new.self in
    let up_to = along (one Assign) (one Less then head h then one Greater) old c.expect.new.self mid (sign_derived Assign old c.expect.new.self refl c.in_ok-expect.ensures)
    (along (one Less) (head h then one Greater) c.expect.new.self c.expect-2.new.self mid (sign_derived Less c.expect.new.self c.expect-2.new.self refl c.in_ok-expect-2.ensures)
    (along (head h) (one Greater) c.expect-2.new.self c.head.new.self mid c.in_ok-head.ensures.derived (sign_derived Greater c.head.new.self mid refl c.in_ok-expect-3.ensures))) in
    let (end, stand) = c.in_ok-rules.ensures.placed in
    def_occurs c.rules.new.self.text.now c.args.opening.at (string_bytes c.args.opening.name) h c.in_ok-rules.rules.items end old mid c.requires.begun up_to
    (same_text (c.in_ok-rules.ensures.read nothing_read [] h)) stand

pub returns-clause-later : goal.returns-clause-later
returns-clause-later c =
    let old = c.args.self.now in
    let mid = c.expect-3.new.self in
    let same = c.in_ok-expect.ensures.2.1 ∙ c.in_ok-expect-2.ensures.2.1 ∙ same_text (c.in_ok-head.ensures.read nothing_read []) ∙ c.in_ok-expect-3.ensures.2.1 in
    let farther : old.taken ≤ mid.taken = omega (arith, c.in_ok-expect.ensures.2.2, c.in_ok-expect-2.ensures.2.2, c.in_ok-head.ensures.farther, c.in_ok-expect-3.ensures.2.2) in
    definition_before c.args.opening.at (string_bytes c.args.opening.name) c.in_ok-rules.next old mid c.rules.new.self c.requires.begun same farther
    (same_text (c.in_ok-rules.ensures.read nothing_read [] c.in_ok-head.head)) c.in_ok-rules.ensures.farther c.in_ok-rules.ensures.later
