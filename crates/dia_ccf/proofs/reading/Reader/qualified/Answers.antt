use Rattle.std.proofs.Common.{arith, refl, Some, ◌∙◌}
use Rattle.dia_ccf.specs.Plain.{plain_rule}
use Rattle.dia_ccf.specs.Machine.{Rules, Qual_done, Fixed_name, Fixed_close, with_rule, fixed_rule}
use Rattle.dia_ccf.specs.ReaderFunctions.{course}
use Rattle.dia_ccf.proofs.ReaderSteps.{leads_along, exits}
use Rattle.dia_ccf.proofs.ReaderInRules.{fixed_opened, loose_along, never_fixed, farther_yet}
use Rattle.std.proofs.Common.{sym, subst}
use Rattle.std.specs.Prelude.{string_bytes}
use Rattle.dia_terms.specs.declared.RuleKind.TheVariants.{Fixed}
use Rattle.dia_ccf.specs.declared.reading.Reader.{Reader}
use Rattle.dia_ccf.specs.Grammar.{qualifier, bracketed}
use Rattle.dia_ccf.specs.ReaderFunctions.{Derived}
use Rattle.dia_ccf.proofs.ReaderPlaces.{along, in_angles, begins_there}
use Rattle.dia_ccf.proofs.ReaderPlaces.{loose_derived}
use Rattle.dia_ccf.proofs.reading.Reader.qualified.Goals as goal

pub returns-in_err-qual-clause-read : goal.returns-in_err-qual-clause-read
returns-in_err-qual-clause-read c = λ done d e.
    exits (course (done, Rules d) c.args.self.now)
    (λ rule. (done, Rules (with_rule d (plain_rule rule)))) c.in_err-qual.field-0.0 c.from_residual.result c.qualifier.new.self c.from_residual.ensures.1 (c.in_err-qual.ensures.read done d)

pub returns-in_err-name-clause-read : goal.returns-in_err-name-clause-read
returns-in_err-name-clause-read c = λ done d e.
    (let q = c.in_ok-qual.qual in
    let first = c.in_ok-qual.ensures.read done d ∙ fixed_opened done d q c.args.fixed c.qualifier.new.self c.takes_fixed.new.self e c.if-takes_fixed.ensures.read.0 c.if-takes_fixed.ensures.read.1 in
    let stops = c.in_err-name.ensures.read (done, Fixed_name d q) (λ n. (done, Fixed_close d q n)) (λ n. (done, Rules (with_rule d (fixed_rule n (Some q)))))
    (record { next_is = λ t. refl; refused_is = λ t. refl; unfinished = refl }) (λ n. record { next_is = λ t. refl; refused_is = λ t. refl; unfinished = refl }) in
    leads_along (course (done, Rules d) c.args.self.now) (course (done, Fixed_name d q) c.takes_fixed.new.self)
    (λ rule. (done, Rules (with_rule d (plain_rule rule)))) c.from_residual-in_err-name.result c.name_in_angles.new.self first
    (exits (course (done, Fixed_name d q) c.takes_fixed.new.self)
    (λ rule. (done, Rules (with_rule d (plain_rule rule)))) c.in_err-name.field-0.0 c.from_residual-in_err-name.result c.name_in_angles.new.self c.from_residual-in_err-name.ensures.1 stops))

pub returns-then-takes_fixed-clause-read : goal.returns-then-takes_fixed-clause-read
returns-then-takes_fixed-clause-read c = λ done d e.
    (let q = c.in_ok-qual.qual in
    c.in_ok-qual.ensures.read done d ∙ fixed_opened done d q c.args.fixed c.qualifier.new.self c.takes_fixed.new.self e c.if-takes_fixed.ensures.read.0 c.if-takes_fixed.ensures.read.1
    ∙ c.in_ok-name.ensures.read (done, Fixed_name d q) (λ n. (done, Fixed_close d q n)) (λ n. (done, Rules (with_rule d (fixed_rule n (Some q)))))
    (record { next_is = λ t. refl; refused_is = λ t. refl; unfinished = refl }) (λ n. record { next_is = λ t. refl; refused_is = λ t. refl; unfinished = refl }))

pub returns-then-takes_fixed-clause-farther : goal.returns-then-takes_fixed-clause-farther
returns-then-takes_fixed-clause-farther c = omega (arith, c.in_ok-qual.ensures.farther, c.takes_fixed.ensures.farther, c.in_ok-name.ensures.farther)

pub invariant_of-result : goal.invariant_of-result
invariant_of-result c = record { named = c.in_ok-name.ensures.named; counted = c.in_ok-qual.ensures.small }

pub loose-requires : goal.loose-requires
loose-requires c = c.in_ok-qual.ensures.small

pub returns-clause-read : goal.returns-clause-read
returns-clause-read c = λ done d e.
    (let q = c.in_ok-qual.qual in
    let k = loose_along done d q c.args.fixed c.qualifier.new.self c.takes_fixed.new.self e c.if-takes_fixed.ensures.read in
    leads_along (course (done, Rules d) c.args.self.now) (course (done, Qual_done d q) c.takes_fixed.new.self)
    (λ rule. (done, Rules (with_rule d (plain_rule rule)))) c.loose.result c.loose.new.self (c.in_ok-qual.ensures.read done d ∙ k.0)
    (c.loose.ensures.read done d (done, Qual_done d q) k.1))

pub returns-clause-ordered : goal.returns-clause-ordered
returns-clause-ordered c = never_fixed c.loose.result c.args.fixed c.loose.ensures.ordered

pub returns-clause-farther : goal.returns-clause-farther
returns-clause-farther c =
    farther_yet c.loose.result c.args.self.now.taken c.takes_fixed.new.self.taken c.loose.new.self.taken
    (omega (arith, c.in_ok-qual.ensures.farther, c.takes_fixed.ensures.farther)) c.loose.ensures.farther

pub returns-clause-placed : goal.returns-clause-placed
returns-clause-placed c = begins_there c.loose.result c.args.self.now.at (Some c.in_ok-qual.qual) c.loose.ensures.placed

pub returns-then-takes_fixed-clause-derived : goal.returns-then-takes_fixed-clause-derived
returns-then-takes_fixed-clause-derived c =
    let q = c.in_ok-qual.qual in
    let fixed = bracketed Fixed (Some (string_bytes c.in_ok-name.name)) in
    along (qualifier (Some q)) fixed c.args.self.now c.qualifier.new.self c.name_in_angles.new.self c.in_ok-qual.ensures.derived
    (in_angles c.qualifier.new.self c.takes_fixed.new.self c.name_in_angles.new.self c.in_ok-name.name c.if-takes_fixed.ensures.read.1 c.in_ok-name.ensures.derived)

pub returns-clause-derived : goal.returns-clause-derived
returns-clause-derived c =
    let qual = Some c.in_ok-qual.qual in
    loose_derived c.loose.result c.args.self.now.at qual c.args.self.now c.takes_fixed.new.self c.loose.new.self
    (subst (λ (r : Reader). Derived (qualifier qual) c.args.self.now r) (sym c.if-takes_fixed.ensures.read.1) c.in_ok-qual.ensures.derived) c.loose.ensures.placed c.loose.ensures.derived
