use Rattle.std.proofs.Common.{ℕ, Option, ◌∷◌, [], sym, subst, arith}
use Rattle.std.proofs.lemmas.List.{append-nil}
use Rattle.dia_streams.specs.StreamUnderWay.{AreDigits}
use Rattle.dia_streams.proofs.DigitsTaken.{half_begun, half_ended, half_small, value_small}
use Rattle.dia_streams.proofs.digits.Digits.add.Goals as goal

pub returns-in-None : goal.returns-in-None
returns-in-None c = (
  [],
  sym (append-nil c.args.self.now.bytes.items),
  λ digit is read before a. half_begun read before digit c.args.value is (subst (λ (half : Option ℕ). AreDigits half read before) c.in-None.is a),
)

pub returns-in_ok-push-in-Some : goal.returns-in_ok-push-in-Some
returns-in_ok-push-in-Some c = (
  _ ∷ [],
  c.in_ok-push-in-Some.ensures.items,
  λ digit is read before a.
      let begun = subst (λ (half : Option ℕ). AreDigits half read before) c.in-Some.is a in
      half_ended read before c.in-Some.high digit c.args.value _ is
      (omega (arith, half_small c.in-Some.high read before begun, value_small digit c.args.value is)) begun,
)
