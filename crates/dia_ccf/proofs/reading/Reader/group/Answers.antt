use Rattle.std.proofs.Common.{arith, ap, sym, refl, Ok, Err, ◌∙◌}
use Rattle.std.specs.Prelude.{true, false, nat_lt}
use Rattle.dia_ccf.specs.Limits.{max_number}
use Rattle.dia_ccf.specs.Tokens.{Comma}
use Rattle.dia_ccf.specs.Machine.{Outcome, same_sign, In_head, Group_code, Head_end, number_at}
use Rattle.dia_ccf.specs.ReaderFunctions.{course, left}
use Rattle.dia_ccf.proofs.ReaderSteps.{accepted, leads_along, exits}
use Rattle.dia_ccf.proofs.ReaderInHeads.{group_at, group_end, group_wanted, group_begun, vendor_wanted, group_ends, takes_farther, number_small, both_hold}
use Rattle.std.proofs.Common.{inl, inr}
use Rattle.dia_ccf.specs.Grammar.{◌then◌, nothing, number, group_vendor, comma}
use Rattle.dia_ccf.specs.Machine.{is_number}
use Rattle.dia_ccf.specs.ReaderFunctions.{pending, left, begins_with}
use Rattle.dia_ccf.proofs.ReaderPlaces.{along, of_class, number_derived}
use Rattle.dia_ccf.proofs.HeadTokens.{comma_pending, none_pending, number_pending, then_more}
use Rattle.dia_ccf.proofs.reading.Reader.group.Goals as goal

pub returns-in_err-code-clause-read : goal.returns-in_err-code-clause-read
returns-in_err-code-clause-read c = λ done name.
    (let stops = accepted true false (number_at 0 max_number) (λ n. n) (λ n. group_at done name n false) (done, In_head name Group_code) c.args.self.now c.number.new.self (Err c.in_err-code.field-0.0)
    (group_wanted done name (left c.args.self.now)) c.in_err-code.ensures in
    exits (course (done, In_head name Group_code) c.args.self.now)
    (λ head. (done, In_head name (Head_end head))) c.in_err-code.field-0.0 c.from_residual.result c.number.new.self c.from_residual.ensures.1 stops)

pub returns-then-not-wants_number-clause-read : goal.returns-then-not-wants_number-clause-read
returns-then-not-wants_number-clause-read c = λ done name.
    (let code = c.in_ok-code.code in
    let begun = group_begun done name code c.args.self.now c.number.new.self c.takes-comma.new.self c.takes-comma.result c.in_ok-code.ensures c.takes-comma.ensures in
    begun.0 ∙ ap (λ (o : Outcome). (c.takes-comma.new.self.text.now, o))
    (group_ends done name code c.takes-comma.result (left c.takes-comma.new.self) begun.1 (sym c.wants_number.ensures ∙ c.if-not-wants_number.true)))

pub returns-then-not-wants_number-clause-sound : goal.returns-then-not-wants_number-clause-sound
returns-then-not-wants_number-clause-sound c =
    both_hold (nat_lt c.in_ok-code.code 4294967296) true (number_small max_number c.in_ok-code.code c.in_ok-code.ensures.0 c.in_ok-code.ensures.1) refl

pub returns-then-not-wants_number-clause-farther : goal.returns-then-not-wants_number-clause-farther
returns-then-not-wants_number-clause-farther c = omega (
  arith,
  c.in_ok-code.ensures.2.2,
  takes_farther (same_sign Comma) c.number.new.self c.takes-comma.new.self c.takes-comma.result c.takes-comma.ensures,
)

pub returns-in_err-vendor-clause-read : goal.returns-in_err-vendor-clause-read
returns-in_err-vendor-clause-read c = λ done name.
    (let code = c.in_ok-code.code in
    let comma = c.takes-comma.result in
    let begun = group_begun done name code c.args.self.now c.number.new.self c.takes-comma.new.self comma c.in_ok-code.ensures c.takes-comma.ensures in
    let wanted = vendor_wanted done name code comma (left c.takes-comma.new.self) (sym c.wants_number.ensures ∙ c.if-not-wants_number.false) in
    let stops = accepted true false (number_at 0 max_number) (λ n. n) (group_end done name code) (group_at done name code comma) c.takes-comma.new.self c.number-2.new.self
    (Err c.in_err-vendor.field-0.0) wanted c.in_err-vendor.ensures in
    leads_along (course (done, In_head name Group_code) c.args.self.now) (course (group_at done name code comma) c.takes-comma.new.self)
    (λ head. (done, In_head name (Head_end head))) c.from_residual-in_err-vendor.result c.number-2.new.self begun.0
    (exits (course (group_at done name code comma) c.takes-comma.new.self)
    (λ head. (done, In_head name (Head_end head))) c.in_err-vendor.field-0.0 c.from_residual-in_err-vendor.result c.number-2.new.self c.from_residual-in_err-vendor.ensures.1 stops))

pub returns-clause-read : goal.returns-clause-read
returns-clause-read c = λ done name.
    (let code = c.in_ok-code.code in
    let comma = c.takes-comma.result in
    let begun = group_begun done name code c.args.self.now c.number.new.self c.takes-comma.new.self comma c.in_ok-code.ensures c.takes-comma.ensures in
    let wanted = vendor_wanted done name code comma (left c.takes-comma.new.self) (sym c.wants_number.ensures ∙ c.if-not-wants_number.false) in
    begun.0 ∙ accepted true false (number_at 0 max_number) (λ n. n) (group_end done name code) (group_at done name code comma) c.takes-comma.new.self c.number-2.new.self
    (Ok c.in_ok-vendor.vendor) wanted c.in_ok-vendor.ensures)

pub returns-clause-sound : goal.returns-clause-sound
returns-clause-sound c =
    both_hold (nat_lt c.in_ok-code.code 4294967296) (nat_lt c.in_ok-vendor.vendor 4294967296)
    (number_small max_number c.in_ok-code.code c.in_ok-code.ensures.0 c.in_ok-code.ensures.1)
    (number_small max_number c.in_ok-vendor.vendor c.in_ok-vendor.ensures.0 c.in_ok-vendor.ensures.1)

pub returns-clause-farther : goal.returns-clause-farther
returns-clause-farther c = omega (
  arith,
  c.in_ok-code.ensures.2.2,
  takes_farther (same_sign Comma) c.number.new.self c.takes-comma.new.self c.takes-comma.result c.takes-comma.ensures,
  c.in_ok-vendor.ensures.2.2,
)

pub returns-then-not-wants_number-clause-derived : goal.returns-then-not-wants_number-clause-derived
returns-then-not-wants_number-clause-derived c =
    let code = number max_number c.in_ok-code.code in
    let b = c.takes-comma.result in
    let n = c.in_ok-code.ensures in
    let begun = along code (pending b) c.args.self.now c.number.new.self c.takes-comma.new.self (number_derived c.args.self.now c.number.new.self c.in_ok-code.code n.0 n.1 n.2)
    (comma_pending b c.number.new.self c.takes-comma.new.self c.takes-comma.ensures) in
    of_class (code then nothing) (code then group_vendor 0) c.args.self.now c.takes-comma.new.self (λ ts k. then_more code nothing (group_vendor 0) ts (λ us l. inl (l, refl)) k)
    (none_pending code b (begins_with is_number (left c.takes-comma.new.self)) c.args.self.now c.takes-comma.new.self (sym c.wants_number.ensures ∙ c.if-not-wants_number.true) begun)

pub returns-clause-derived : goal.returns-clause-derived
returns-clause-derived c =
    let code = number max_number c.in_ok-code.code in
    let b = c.takes-comma.result in
    let n = c.in_ok-code.ensures in
    let v = c.in_ok-vendor.ensures in
    let begun = along code (pending b) c.args.self.now c.number.new.self c.takes-comma.new.self (number_derived c.args.self.now c.number.new.self c.in_ok-code.code n.0 n.1 n.2)
    (comma_pending b c.number.new.self c.takes-comma.new.self c.takes-comma.ensures) in
    of_class (code then comma then number max_number c.in_ok-vendor.vendor) (code then group_vendor c.in_ok-vendor.vendor) c.args.self.now c.number-2.new.self
    (λ ts k. then_more code (comma then number max_number c.in_ok-vendor.vendor) (group_vendor c.in_ok-vendor.vendor) ts (λ us l. inr l) k)
    (number_pending code b c.in_ok-vendor.vendor v.0 c.args.self.now c.takes-comma.new.self c.number-2.new.self begun v.1 v.2)
