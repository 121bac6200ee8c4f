use Rattle.std.proofs.Common.{arith, refl, Ok, Err, ◌∙◌}
use Rattle.dia_terms.specs.declared.RuleKind.TheVariants.{Required, Optional}
use Rattle.dia_ccf.specs.Plain.{plain_rule}
use Rattle.dia_ccf.specs.Tokens.{Open_brace}
use Rattle.dia_ccf.specs.Machine.{Rules, Loose_name, Loose_close, same_sign, with_rule}
use Rattle.dia_ccf.specs.ReaderFunctions.{course}
use Rattle.dia_ccf.proofs.ReaderSteps.{leads_along, exits, slot_named}
use Rattle.dia_ccf.proofs.ReaderInHeads.{takes_farther}
use Rattle.dia_ccf.proofs.ReaderInRules.{loose_rule, brace_opened, bracket_leads, slot_leads, close_leads}
use Rattle.dia_ccf.specs.Tokens.{Open_bracket, Close_brace, Close_bracket}
use Rattle.dia_ccf.proofs.ReaderPlaces.{bracket_derived, takes_derived, started}
use Rattle.dia_ccf.proofs.reading.Reader.loose.Goals as goal

-- ---- in braces

pub returns-in_err-name-clause-read : goal.returns-in_err-name-clause-read
returns-in_err-name-clause-read c = λ done d state wants.
    (let at = course (done, Loose_name d Required c.args.qual) c.takes.new.self in
    leads_along (course state c.args.self.now) at (λ rule. (done, Rules (with_rule d (plain_rule rule)))) c.from_residual.result c.slot.new.self
    (brace_opened done d c.args.qual state c.args.self.now c.takes.new.self wants c.if-takes.ensures)
    (exits at (λ rule. (done, Rules (with_rule d (plain_rule rule)))) c.in_err-name.field-0.0 c.from_residual.result c.slot.new.self c.from_residual.ensures.1
    (slot_leads done d Required c.args.qual c.takes.new.self c.slot.new.self (Err c.in_err-name.field-0.0) c.in_err-name.ensures)))

pub returns-in_err-expect-clause-read : goal.returns-in_err-expect-clause-read
returns-in_err-expect-clause-read c = λ done d state wants.
    (let at = course (done, Loose_close d (loose_rule Required c.in_ok-name.name c.args.qual)) c.slot.new.self in
    leads_along (course state c.args.self.now) at (λ rule. (done, Rules (with_rule d (plain_rule rule)))) c.from_residual-in_err-expect.result c.expect.new.self
    (brace_opened done d c.args.qual state c.args.self.now c.takes.new.self wants c.if-takes.ensures
    ∙ slot_leads done d Required c.args.qual c.takes.new.self c.slot.new.self (Ok c.in_ok-name.name) c.in_ok-name.ensures)
    (exits at (λ rule. (done, Rules (with_rule d (plain_rule rule)))) c.in_err-expect.field-0.0 c.from_residual-in_err-expect.result c.expect.new.self c.from_residual-in_err-expect.ensures.1
    (close_leads done d Required c.in_ok-name.name c.args.qual c.slot.new.self c.expect.new.self (Err c.in_err-expect.field-0.0) c.in_err-expect.ensures)))

pub returns-then-takes-clause-read : goal.returns-then-takes-clause-read
returns-then-takes-clause-read c = λ done d state wants.
    brace_opened done d c.args.qual state c.args.self.now c.takes.new.self wants c.if-takes.ensures
    ∙ slot_leads done d Required c.args.qual c.takes.new.self c.slot.new.self (Ok c.in_ok-name.name) c.in_ok-name.ensures
    ∙ close_leads done d Required c.in_ok-name.name c.args.qual c.slot.new.self c.expect.new.self (Ok tt) c.in_ok-expect.ensures

pub invariant_of-result : goal.invariant_of-result
invariant_of-result c = let s = c.in_ok-name.ensures in record { named = slot_named s.0 Required c.in_ok-name.name refl s.1; counted = c.requires }

-- ---- in brackets

pub returns-in_err-expect-2-clause-read : goal.returns-in_err-expect-2-clause-read
returns-in_err-expect-2-clause-read c = λ done d state wants.
    exits (course state c.args.self.now)
    (λ rule. (done, Rules (with_rule d (plain_rule rule)))) c.in_err-expect-2.field-0.0 c.from_residual-in_err-expect-2.result c.expect-2.new.self c.from_residual-in_err-expect-2.ensures.1
    (bracket_leads done d c.args.qual state c.args.self.now c.takes.new.self c.expect-2.new.self (Err c.in_err-expect-2.field-0.0) wants c.if-takes.ensures c.in_err-expect-2.ensures)

pub returns-in_err-name-2-clause-read : goal.returns-in_err-name-2-clause-read
returns-in_err-name-2-clause-read c = λ done d state wants.
    (let at = course (done, Loose_name d Optional c.args.qual) c.expect-2.new.self in
    leads_along (course state c.args.self.now) at (λ rule. (done, Rules (with_rule d (plain_rule rule)))) c.from_residual-in_err-name-2.result c.slot-2.new.self
    (bracket_leads done d c.args.qual state c.args.self.now c.takes.new.self c.expect-2.new.self (Ok tt) wants c.if-takes.ensures c.in_ok-expect-2.ensures)
    (exits at (λ rule. (done, Rules (with_rule d (plain_rule rule)))) c.in_err-name-2.field-0.0 c.from_residual-in_err-name-2.result c.slot-2.new.self c.from_residual-in_err-name-2.ensures.1
    (slot_leads done d Optional c.args.qual c.expect-2.new.self c.slot-2.new.self (Err c.in_err-name-2.field-0.0) c.in_err-name-2.ensures)))

pub returns-in_err-expect-3-clause-read : goal.returns-in_err-expect-3-clause-read
returns-in_err-expect-3-clause-read c = λ done d state wants.
    (let at = course (done, Loose_close d (loose_rule Optional c.in_ok-name-2.name c.args.qual)) c.slot-2.new.self in
    leads_along (course state c.args.self.now) at (λ rule. (done, Rules (with_rule d (plain_rule rule)))) c.from_residual-in_err-expect-3.result c.expect-3.new.self
    (bracket_leads done d c.args.qual state c.args.self.now c.takes.new.self c.expect-2.new.self (Ok tt) wants c.if-takes.ensures c.in_ok-expect-2.ensures
    ∙ slot_leads done d Optional c.args.qual c.expect-2.new.self c.slot-2.new.self (Ok c.in_ok-name-2.name) c.in_ok-name-2.ensures)
    (exits at (λ rule. (done, Rules (with_rule d (plain_rule rule)))) c.in_err-expect-3.field-0.0 c.from_residual-in_err-expect-3.result c.expect-3.new.self c.from_residual-in_err-expect-3.ensures.1
    (close_leads done d Optional c.in_ok-name-2.name c.args.qual c.slot-2.new.self c.expect-3.new.self (Err c.in_err-expect-3.field-0.0) c.in_err-expect-3.ensures)))

pub returns-clause-read : goal.returns-clause-read
returns-clause-read c = λ done d state wants.
    bracket_leads done d c.args.qual state c.args.self.now c.takes.new.self c.expect-2.new.self (Ok tt) wants c.if-takes.ensures c.in_ok-expect-2.ensures
    ∙ slot_leads done d Optional c.args.qual c.expect-2.new.self c.slot-2.new.self (Ok c.in_ok-name-2.name) c.in_ok-name-2.ensures
    ∙ close_leads done d Optional c.in_ok-name-2.name c.args.qual c.slot-2.new.self c.expect-3.new.self (Ok tt) c.in_ok-expect-3.ensures

pub invariant_of-result-2 : goal.invariant_of-result-2
invariant_of-result-2 c = let s = c.in_ok-name-2.ensures in record { named = slot_named s.0 Optional c.in_ok-name-2.name refl s.1; counted = c.requires }

-- ---- how far

pub returns-then-takes-clause-farther : goal.returns-then-takes-clause-farther
returns-then-takes-clause-farther c = omega (
  arith,
  takes_farther (same_sign Open_brace) c.args.self.now c.takes.new.self c.takes.result c.takes.ensures,
  c.in_ok-name.ensures.2.2,
  c.in_ok-expect.ensures.2.2,
)

pub returns-clause-farther : goal.returns-clause-farther
returns-clause-farther c = omega (
  arith,
  takes_farther (same_sign Open_brace) c.args.self.now c.takes.new.self c.takes.result c.takes.ensures,
  c.in_ok-expect-2.ensures.2.2,
  c.in_ok-name-2.ensures.2.2,
  c.in_ok-expect-3.ensures.2.2,
)

pub returns-then-takes-clause-derived : goal.returns-then-takes-clause-derived
returns-then-takes-clause-derived c =
    bracket_derived Open_brace Close_brace c.args.self.now c.takes.new.self c.slot.new.self c.expect.new.self c.in_ok-name.name refl
    (takes_derived Open_brace c.args.self.now c.takes.new.self refl c.if-takes.ensures) c.in_ok-name.ensures c.in_ok-expect.ensures

pub returns-clause-derived : goal.returns-clause-derived
returns-clause-derived c =
    bracket_derived Open_bracket Close_bracket c.args.self.now c.expect-2.new.self c.slot-2.new.self c.expect-3.new.self c.in_ok-name-2.name refl
    (started Open_bracket c.args.self.now c.takes.new.self c.expect-2.new.self c.if-takes.ensures.1 refl c.in_ok-expect-2.ensures) c.in_ok-name-2.ensures c.in_ok-expect-3.ensures
