use Rattle.std.proofs.Common.{arith, ap, sym, refl, Some, Ok, Err, ◌∙◌}
use Rattle.std.specs.Prelude.{true, false, nat_lt}
use Rattle.dia_ccf.specs.Limits.{max_number, max_command_code}
use Rattle.dia_ccf.specs.Tokens.{Comma}
use Rattle.dia_ccf.specs.Machine.{Outcome, same_sign, In_head, Command_code, Head_end, number_at}
use Rattle.dia_ccf.specs.ReaderFunctions.{course, left}
use Rattle.dia_ccf.proofs.ReaderSteps.{accepted, leads_along, exits}
use Rattle.dia_ccf.proofs.ReaderInHeads.{flags_at, command_at, command_begun, number_wanted, command_ends, code_wanted, takes_farther, number_small, both_hold}
use Rattle.std.specs.Prelude.{codes, None}
use Rattle.dia_ccf.specs.Grammar.{◌then◌, nothing, number, comma, flag}
use Rattle.dia_ccf.specs.Limits.{max_command_code}
use Rattle.dia_ccf.specs.ReaderFunctions.{pending, command_of, begins_with}
use Rattle.dia_ccf.specs.Machine.{is_number}
use Rattle.dia_ccf.specs.declared.source.Head.TheVariants.{Command}
use Rattle.dia_ccf.proofs.ReaderPlaces.{along, of_class, number_derived_to}
use Rattle.dia_ccf.proofs.HeadTokens.{comma_pending, none_pending, number_pending, flag_next, command_grouped}
use Rattle.dia_ccf.proofs.reading.Reader.command.Goals as goal

pub returns-in_err-code-clause-read : goal.returns-in_err-code-clause-read
returns-in_err-code-clause-read c = λ done name free.
    (let stops = accepted true false (number_at 0 max_command_code) (λ n. n) (λ n. flags_at done name n false false false) (done, In_head name Command_code)
    c.args.self.now c.number.new.self (Err c.in_err-code.field-0.0) (code_wanted done name (left c.args.self.now) free) c.in_err-code.ensures in
    exits (course (done, In_head name Command_code) c.args.self.now)
    (λ head. (done, In_head name (Head_end head))) c.in_err-code.field-0.0 c.from_residual.result c.number.new.self c.from_residual.ensures.1 stops)

pub returns-then-not-wants_number-clause-sound : goal.returns-then-not-wants_number-clause-sound
returns-then-not-wants_number-clause-sound c =
    both_hold (nat_lt c.in_ok-code.code 16777216) true (number_small max_command_code c.in_ok-code.code c.in_ok-code.ensures.0 c.in_ok-code.ensures.1) refl

pub returns-clause-sound : goal.returns-clause-sound
returns-clause-sound c =
    both_hold (nat_lt c.in_ok-code.code 16777216) (nat_lt c.in_ok-app.app 4294967296)
    (number_small max_command_code c.in_ok-code.code c.in_ok-code.ensures.0 c.in_ok-code.ensures.1)
    (number_small max_number c.in_ok-app.app c.in_ok-app.ensures.0 c.in_ok-app.ensures.1)

pub returns-in_err-app-clause-read : goal.returns-in_err-app-clause-read
returns-in_err-app-clause-read c = λ done name free.
    (let code = c.in_ok-code.code in
    let rq = c.flag-request.result.0 in
    let px = c.flag-pxy.result.0 in
    let begun = command_begun done name code c.args.self.now c.number.new.self c.takes-comma.new.self c.flag-request.new.self c.flag-pxy.new.self
    c.takes-comma.result c.flag-request.result c.flag-pxy.result c.in_ok-code.ensures c.takes-comma.ensures c.flag-request.ensures.read c.flag-pxy.ensures.read in
    let wanted = number_wanted done name code rq px c.flag-pxy.result.1 (left c.flag-pxy.new.self) begun.1 (sym c.wants_number.ensures ∙ c.if-not-wants_number.false) in
    let stops = accepted true false (number_at 0 max_number) (λ n. n) (λ n. command_at done name code rq px (Some n))
    (flags_at done name code rq px c.flag-pxy.result.1) c.flag-pxy.new.self c.number-2.new.self (Err c.in_err-app.field-0.0) wanted c.in_err-app.ensures in
    leads_along (course (done, In_head name Command_code) c.args.self.now) (course (flags_at done name code rq px c.flag-pxy.result.1) c.flag-pxy.new.self)
    (λ head. (done, In_head name (Head_end head))) c.from_residual-in_err-app.result c.number-2.new.self begun.0
    (exits (course (flags_at done name code rq px c.flag-pxy.result.1) c.flag-pxy.new.self)
    (λ head. (done, In_head name (Head_end head))) c.in_err-app.field-0.0 c.from_residual-in_err-app.result c.number-2.new.self c.from_residual-in_err-app.ensures.1 stops))

pub returns-then-not-wants_number-clause-read : goal.returns-then-not-wants_number-clause-read
returns-then-not-wants_number-clause-read c = λ done name free.
    (let code = c.in_ok-code.code in
    let rq = c.flag-request.result.0 in
    let px = c.flag-pxy.result.0 in
    let begun = command_begun done name code c.args.self.now c.number.new.self c.takes-comma.new.self c.flag-request.new.self c.flag-pxy.new.self
    c.takes-comma.result c.flag-request.result c.flag-pxy.result c.in_ok-code.ensures c.takes-comma.ensures c.flag-request.ensures.read c.flag-pxy.ensures.read in
    begun.0 ∙ ap (λ (o : Outcome). (c.flag-pxy.new.self.text.now, o))
    (command_ends done name code rq px c.flag-pxy.result.1 (left c.flag-pxy.new.self) begun.1 (sym c.wants_number.ensures ∙ c.if-not-wants_number.true)))

pub returns-clause-read : goal.returns-clause-read
returns-clause-read c = λ done name free.
    (let code = c.in_ok-code.code in
    let rq = c.flag-request.result.0 in
    let px = c.flag-pxy.result.0 in
    let begun = command_begun done name code c.args.self.now c.number.new.self c.takes-comma.new.self c.flag-request.new.self c.flag-pxy.new.self
    c.takes-comma.result c.flag-request.result c.flag-pxy.result c.in_ok-code.ensures c.takes-comma.ensures c.flag-request.ensures.read c.flag-pxy.ensures.read in
    let wanted = number_wanted done name code rq px c.flag-pxy.result.1 (left c.flag-pxy.new.self) begun.1 (sym c.wants_number.ensures ∙ c.if-not-wants_number.false) in
    begun.0 ∙ accepted true false (number_at 0 max_number) (λ n. n) (λ n. command_at done name code rq px (Some n))
    (flags_at done name code rq px c.flag-pxy.result.1) c.flag-pxy.new.self c.number-2.new.self (Ok c.in_ok-app.app) wanted c.in_ok-app.ensures)

pub returns-clause-farther : goal.returns-clause-farther
returns-clause-farther c = omega (
  arith,
  c.in_ok-code.ensures.2.2,
  takes_farther (same_sign Comma) c.number.new.self c.takes-comma.new.self c.takes-comma.result c.takes-comma.ensures,
  c.flag-request.ensures.farther,
  c.flag-pxy.ensures.farther,
  c.in_ok-app.ensures.2.2,
)

pub returns-then-not-wants_number-clause-farther : goal.returns-then-not-wants_number-clause-farther
returns-then-not-wants_number-clause-farther c = omega (
  arith,
  c.in_ok-code.ensures.2.2,
  takes_farther (same_sign Comma) c.number.new.self c.takes-comma.new.self c.takes-comma.result c.takes-comma.ensures,
  c.flag-request.ensures.farther,
  c.flag-pxy.ensures.farther,
)

pub returns-then-not-wants_number-clause-derived : goal.returns-then-not-wants_number-clause-derived
returns-then-not-wants_number-clause-derived c =
    let code = number max_command_code c.in_ok-code.code in
    let b = c.takes-comma.result in
    let n = c.in_ok-code.ensures in
    let rq = c.flag-request.result in
    let px = c.flag-pxy.result in
    let begun = along code (pending b) c.args.self.now c.number.new.self c.takes-comma.new.self (number_derived_to 0 max_command_code c.in_ok-code.code c.args.self.now c.number.new.self n.0 (omega arith) n.1 n.2).1
    (comma_pending b c.number.new.self c.takes-comma.new.self c.takes-comma.ensures) in
    let asked = flag_next (codes "req") b code rq c.args.self.now c.takes-comma.new.self c.flag-request.new.self begun c.flag-request.ensures.read in
    let before = (code then flag rq.0 (codes "req")) then flag px.0 (codes "pxy") in
    let proxied = flag_next (codes "pxy") rq.1 (code then flag rq.0 (codes "req")) px c.args.self.now c.flag-request.new.self c.flag-pxy.new.self asked c.flag-pxy.ensures.read in
    of_class (before then nothing) (command_of (Command c.in_ok-code.code rq.0 px.0 None)) c.args.self.now c.flag-pxy.new.self (command_grouped c.in_ok-code.code rq.0 px.0 None)
    (none_pending before px.1 (begins_with is_number (left c.flag-pxy.new.self)) c.args.self.now c.flag-pxy.new.self (sym c.wants_number.ensures ∙ c.if-not-wants_number.true) proxied)

pub returns-clause-derived : goal.returns-clause-derived
returns-clause-derived c =
    let code = number max_command_code c.in_ok-code.code in
    let b = c.takes-comma.result in
    let n = c.in_ok-code.ensures in
    let rq = c.flag-request.result in
    let px = c.flag-pxy.result in
    let begun = along code (pending b) c.args.self.now c.number.new.self c.takes-comma.new.self (number_derived_to 0 max_command_code c.in_ok-code.code c.args.self.now c.number.new.self n.0 (omega arith) n.1 n.2).1
    (comma_pending b c.number.new.self c.takes-comma.new.self c.takes-comma.ensures) in
    let asked = flag_next (codes "req") b code rq c.args.self.now c.takes-comma.new.self c.flag-request.new.self begun c.flag-request.ensures.read in
    let before = (code then flag rq.0 (codes "req")) then flag px.0 (codes "pxy") in
    let proxied = flag_next (codes "pxy") rq.1 (code then flag rq.0 (codes "req")) px c.args.self.now c.flag-request.new.self c.flag-pxy.new.self asked c.flag-pxy.ensures.read in
    let app = c.in_ok-app.app in
    let a = c.in_ok-app.ensures in
    of_class (before then comma then number max_number app) (command_of (Command c.in_ok-code.code rq.0 px.0 (Some app))) c.args.self.now c.number-2.new.self
    (command_grouped c.in_ok-code.code rq.0 px.0 (Some app)) (number_pending before px.1 app a.0 c.args.self.now c.flag-pxy.new.self c.number-2.new.self proxied a.1 a.2)
