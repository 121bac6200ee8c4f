use Rattle.std.proofs.Common.{ℕ, List, Option, ap, refl}
use Rattle.std.proofs.lemmas.Result.{err_from_is_err_and}
use Rattle.dia_text.specs.declared.fault.Kind.TheVariants.{Value}
use Rattle.dia_text.specs.Reading.{some_or}
use Rattle.dia_text.proofs.PartsOfTexts.{no_quoted_text, text_read, text_refused}
use Rattle.dia_text.proofs.values.text_at.Goals as goal

pub returns-in_default : goal.returns-in_default
returns-in_default c = ap (λ (o : Option (List ℕ × List ℕ)). some_or o Value) (no_quoted_text c.args.text.now (c.in_default.ensures.none refl))

pub returns-in_err-bytes : goal.returns-in_err-bytes
returns-in_err-bytes c =
    let p = err_from_is_err_and c.from_residual.result c.from_residual.ensures.1 in
    rw (p.1, p.2) (text_refused c.args.text.now _ _ _ c.in-Some.ensures.some c.in-Some.ensures.part c.in_err-bytes.ensures)

pub returns : goal.returns
returns c = text_read c.args.text.now _ _ _ c.in-Some.ensures.some c.in-Some.ensures.part c.in_ok-bytes.ensures
