use Rattle.std.proofs.Common.{ap, sym, refl, ◌∙◌}
use Rattle.std.specs.Prelude.{string_bytes}
use Rattle.dia_ccf.specs.Tokens.{Less, Assign}
use Rattle.dia_ccf.specs.Machine.{Outcome, Rules, Angle_name, Angle_close, After_angle, same_sign}
use Rattle.dia_ccf.specs.ReaderFunctions.{course, left, begins_with, after_rules}
use Rattle.dia_ccf.proofs.MachineCompleteness.{angle_settled}
use Rattle.dia_ccf.proofs.ReaderSteps.{leads_along, exits, takes_sign}
use Rattle.dia_ccf.proofs.ReaderInRules.{bare_wanted, rules_end, angle_defines, or_false}
use Rattle.std.proofs.Common.{None, Ok}
use Rattle.dia_ccf.specs.Grammar.{qualifier}
use Rattle.dia_ccf.proofs.ReaderPlaces.{angled, bare_fixed, unmoved}
use Rattle.std.proofs.Common.{subst}
use Rattle.dia_ccf.specs.declared.reading.Reader.{Reader}
use Rattle.dia_ccf.specs.Grammar.{rule}
use Rattle.dia_ccf.specs.Plain.{plain_rule}
use Rattle.dia_ccf.specs.ReaderFunctions.{Derived}
use Rattle.dia_ccf.proofs.ReaderPlaces.{loose_derived}
use Rattle.dia_ccf.proofs.reading.Reader.following_rules.Goals as goal

pub returns-in_err-name-clause-read : goal.returns-in_err-name-clause-read
returns-in_err-name-clause-read c = λ done d e.
    (let first = takes_sign (done, Rules d) (done, Angle_name d) Less c.args.self.now c.takes.new.self c.if-takes.ensures refl in
    let stops = c.in_err-name.ensures.read (done, Angle_name d) (λ n. (done, Angle_close d n)) (λ n. (done, After_angle d n))
    (record { next_is = λ t. refl; refused_is = λ t. refl; unfinished = refl }) (λ n. record { next_is = λ t. refl; refused_is = λ t. refl; unfinished = refl }) in
    leads_along (course (done, Rules d) c.args.self.now) (course (done, Angle_name d) c.takes.new.self) (after_rules done d) c.from_residual.result c.name_in_angles.new.self first
    (exits (course (done, Angle_name d) c.takes.new.self) (after_rules done d) c.in_err-name.field-0.0 c.from_residual.result c.name_in_angles.new.self c.from_residual.ensures.1 stops))

pub returns-then-is_at_definition-clause-read : goal.returns-then-is_at_definition-clause-read
returns-then-is_at_definition-clause-read c = λ done d e.
    (let n = string_bytes c.in_ok-name.name in
    takes_sign (done, Rules d) (done, Angle_name d) Less c.args.self.now c.takes.new.self c.if-takes.ensures refl
    ∙ c.in_ok-name.ensures.read (done, Angle_name d) (λ n. (done, Angle_close d n)) (λ n. (done, After_angle d n))
    (record { next_is = λ t. refl; refused_is = λ t. refl; unfinished = refl }) (λ n. record { next_is = λ t. refl; refused_is = λ t. refl; unfinished = refl })
    ∙ ap (λ (o : Outcome). (c.name_in_angles.new.self.text.now, o))
    (angle_defines done d n c.args.only_fixed (left c.name_in_angles.new.self) e (sym c.is_at_definition.ensures ∙ c.if-is_at_definition.true)))

pub returns-then-takes-clause-read : goal.returns-then-takes-clause-read
returns-then-takes-clause-read c = λ done d e.
    (let n = string_bytes c.in_ok-name.name in
    let rest = or_false c.args.only_fixed (begins_with (same_sign Assign) (left c.name_in_angles.new.self)) (sym c.is_at_definition.ensures ∙ c.if-is_at_definition.false) in
    takes_sign (done, Rules d) (done, Angle_name d) Less c.args.self.now c.takes.new.self c.if-takes.ensures refl
    ∙ c.in_ok-name.ensures.read (done, Angle_name d) (λ n. (done, Angle_close d n)) (λ n. (done, After_angle d n))
    (record { next_is = λ t. refl; refused_is = λ t. refl; unfinished = refl }) (λ n. record { next_is = λ t. refl; refused_is = λ t. refl; unfinished = refl })
    ∙ ap (λ (o : Outcome). (c.name_in_angles.new.self.text.now, o)) (angle_settled done d n (left c.name_in_angles.new.self) (e ∙ rest.0) rest.1))

pub returns-in_err-rule-2-clause-read : goal.returns-in_err-rule-2-clause-read
returns-in_err-rule-2-clause-read c = λ done d e.
    (let stops = c.in_err-rule-2.ensures.read done d (done, Rules d) (bare_wanted done d (left c.takes.new.self) (sym c.is_at_loose.ensures ∙ c.if-is_at_loose.true)) in
    leads_along (course (done, Rules d) c.args.self.now) (course (done, Rules d) c.takes.new.self)
    (after_rules done d) c.from_residual-in_err-rule-2.result c.loose.new.self (ap (course (done, Rules d)) (sym c.if-takes.ensures.1))
    (exits (course (done, Rules d) c.takes.new.self)
    (after_rules done d) c.in_err-rule-2.field-0.0 c.from_residual-in_err-rule-2.result c.loose.new.self c.from_residual-in_err-rule-2.ensures.1 stops))

pub invariant_of-result : goal.invariant_of-result
invariant_of-result c = record { named = c.in_ok-name.ensures.named; counted = refl }

pub returns-in_err-rule-clause-read : goal.returns-in_err-rule-clause-read
returns-in_err-rule-clause-read c = λ done d e.
    leads_along (course (done, Rules d) c.args.self.now) (course (done, Rules d) c.takes.new.self)
    (after_rules done d) c.from_residual-in_err-rule.result c.qualified.new.self (ap (course (done, Rules d)) (sym c.if-takes.ensures.1))
    (exits (course (done, Rules d) c.takes.new.self)
    (after_rules done d) c.in_err-rule.field-0.0 c.from_residual-in_err-rule.result c.qualified.new.self c.from_residual-in_err-rule.ensures.1 (c.in_err-rule.ensures.read done d e))

pub returns-then-is_at_qualifier-clause-read : goal.returns-then-is_at_qualifier-clause-read
returns-then-is_at_qualifier-clause-read c = λ done d e. ap (course (done, Rules d)) (sym c.if-takes.ensures.1) ∙ c.in_ok-rule.ensures.read done d e

pub returns-then-is_at_loose-clause-read : goal.returns-then-is_at_loose-clause-read
returns-then-is_at_loose-clause-read c = λ done d e.
    ap (course (done, Rules d)) (sym c.if-takes.ensures.1)
    ∙ c.in_ok-rule-2.ensures.read done d (done, Rules d) (bare_wanted done d (left c.takes.new.self) (sym c.is_at_loose.ensures ∙ c.if-is_at_loose.true))

pub returns-clause-read : goal.returns-clause-read
returns-clause-read c = λ done d e.
    (let same = c.if-takes.ensures.1 in
    ap (course (done, Rules d)) (sym same) ∙ ap (λ (o : Outcome). (c.takes.new.self.text.now, o))
    (rules_end done d (left c.takes.new.self) (ap (λ r. begins_with (same_sign Less) (left r)) same ∙ c.if-takes.ensures.0)
    (sym c.is_at_qualifier.ensures ∙ c.if-is_at_qualifier.false) (sym c.is_at_loose.ensures ∙ c.if-is_at_loose.false)))

pub returns-then-is_at_definition-clause-derived : goal.returns-then-is_at_definition-clause-derived
returns-then-is_at_definition-clause-derived c =
    angled c.args.self.now c.takes.new.self c.name_in_angles.new.self c.in_ok-name.name c.if-takes.ensures c.in_ok-name.ensures.derived

pub returns-then-is_at_qualifier-clause-placed : goal.returns-then-is_at_qualifier-clause-placed
returns-then-is_at_qualifier-clause-placed c = c.in_ok-rule.ensures.placed ∙ ap (λ (r : Reader). r.at) c.if-takes.ensures.1

pub returns-then-takes-clause-derived : goal.returns-then-takes-clause-derived
returns-then-takes-clause-derived c =
    bare_fixed c.args.self.now c.takes.new.self c.name_in_angles.new.self c.in_ok-name.name c.if-takes.ensures c.in_ok-name.ensures.derived

pub returns-then-is_at_qualifier-clause-derived : goal.returns-then-is_at_qualifier-clause-derived
returns-then-is_at_qualifier-clause-derived c =
    subst (λ (r : Reader). Derived (rule (plain_rule c.in_ok-rule.rule)) r c.qualified.new.self) c.if-takes.ensures.1 c.in_ok-rule.ensures.derived

pub returns-then-is_at_loose-clause-derived : goal.returns-then-is_at_loose-clause-derived
returns-then-is_at_loose-clause-derived c =
    loose_derived (Ok c.in_ok-rule-2.rule) c.args.self.now.at None c.args.self.now c.takes.new.self c.loose.new.self
    (unmoved (qualifier None) c.args.self.now c.takes.new.self c.if-takes.ensures.1 refl) c.in_ok-rule-2.ensures.placed c.in_ok-rule-2.ensures.derived
