use Rattle.std.proofs.Common.{ℕ, Bool, List, Option, sym, ap, ◌∙◌}
use Rattle.std.specs.Prelude.{◌&&◌}
use Rattle.dia_terms.specs.Formats.{is_enumerated}
use Rattle.dia_ccf.specs.Tokens.{Open_parenthesis}
use Rattle.dia_ccf.specs.Machine.{Between, add_decl, same_sign}
use Rattle.dia_ccf.specs.ReaderFunctions.{course, left, begins_with}
use Rattle.dia_ccf.proofs.DeclarationCompleteness.{and_false}
use Rattle.dia_ccf.proofs.ReaderInDeclarations.{enumerated_is, values_opened, no_values}
use Rattle.std.proofs.Common.{None, refl}
use Rattle.dia_ccf.specs.Grammar.{values}
use Rattle.dia_ccf.proofs.ReaderPlaces.{values_derived, unmoved}
use Rattle.dia_ccf.proofs.reading.Reader.values.Goals as goal
use Rattle.dia_ccf.proofs.reading.Reader.values.Goals.{else-eq-via-then-eq+else-takes, else-eq-via-else-eq}

pub returns-then-takes-clause-read : goal.returns-then-takes-clause-read
returns-then-takes-clause-read c = λ done d same none.
    values_opened done d c.args.self.now c.takes.new.self (ap is_enumerated same ∙ enumerated_is c.args.format ∙ sym c.eq.ensures ∙ c.if-eq.true) c.if-takes.ensures
    ∙ c.in_ok-ranges.ensures.read done d

pub returns-clause-read : goal.returns-clause-read
returns-clause-read c = λ done d same none.
    (let old = c.args.self.now in
    let ahead = begins_with (same_sign Open_parenthesis) (left old) in
    elim c.else-eq.branch [
      | else-eq-via-then-eq+else-takes w ↦
          no_values done d old c.else-eq.self (w.self-is ∙ w.if-takes.ensures.1)
          (ap (λ (b : Bool). is_enumerated d.format && b) w.if-takes.ensures.0 ∙ and_false (is_enumerated d.format))
      | else-eq-via-else-eq w ↦
          no_values done d old c.else-eq.self w.self-is
          (ap (λ (b : Bool). b && ahead) (ap is_enumerated same ∙ enumerated_is c.args.format ∙ sym c.eq.ensures ∙ w.if-eq.false))
    ]
    ∙ ap (λ (v : Option (List (ℕ × ℕ))). course (add_decl done (record d { values = v }), Between) c.else-eq.self) none)

pub returns-then-takes-clause-derived : goal.returns-then-takes-clause-derived
returns-then-takes-clause-derived c =
    values_derived c.args.format c.in_ok-ranges.ranges.items c.args.self.now c.takes.new.self c.ranges-then-takes.new.self (enumerated_is c.args.format ∙ sym c.eq.ensures ∙ c.if-eq.true)
    c.in_ok-ranges.ensures.some c.if-takes.ensures c.in_ok-ranges.ensures.derived

pub returns-clause-derived : goal.returns-clause-derived
returns-clause-derived c =
    elim c.else-eq.branch [
      | else-eq-via-then-eq+else-takes w ↦ unmoved (values c.args.format None) c.args.self.now c.else-eq.self (w.self-is ∙ w.if-takes.ensures.1) refl
      | else-eq-via-else-eq w ↦ unmoved (values c.args.format None) c.args.self.now c.else-eq.self w.self-is refl
    ]
