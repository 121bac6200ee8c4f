use Rattle.std.proofs.Common.{◌≡◌, ◌++◌, [], ◌∷◌, List, ℕ, Bool, sym, ap, subst, ◌∙◌}
use Rattle.std.specs.Prelude.{IsTrue, ◌↔◌}
use Rattle.dia_wire.specs.Wire.{IsMessage, IsTooLong, plain_avp}
use Rattle.dia_valid.specs.Valid.{IsValid}
use Rattle.dia_answer.specs.Dictionaries.{alone}
use Rattle.dia_answer.specs.Stocks.{IsFit}
use Rattle.dia_answer.proofs.Fronts.{IfOk-map}
use Rattle.dia_answer.proofs.LoneAvps.{is_fit, any_header}
use Rattle.dia_answer.proofs.alone.Judge.fits.Goals as goal

pub returns-in-Ok : goal.returns-in-Ok
returns-in-Ok g c =
    let d = g.B.Book.meaning c.args.self.now.book.book.now in
    let u = c.args.self.now.unknown in
    let most = c.args.self.now.levels in
    let v = plain_avp c.args.held.now.avp in
    let made = c.in-Ok.ensures.ok in
    let same : made.0 ≡ c.deref.result.now = sym (c.deref.ensures.value ∙ made.2 ∙ ap (λ (x : List ℕ). x ++ made.0) c.new-bytes.ensures.items) in
    let message = subst (IsMessage any_header (v ∷ [])) same made.1.message in
    let room : ¬ IsTooLong (v ∷ []) = λ long. let p = sym c.in-Ok.is ∙ c.put_message.ensures.too_long.1 long in absurd cc in
    IfOk-map (λ (ok : Bool). IsTrue ok ↔ IsValid (alone d) u most c.deref.result.now) (λ (ok : Bool). IsTrue ok ↔ IsFit d u most v)
    (λ ok h. is_fit d u most v c.deref.result.now room message ok h) c.is_valid.result c.is_valid.ensures
