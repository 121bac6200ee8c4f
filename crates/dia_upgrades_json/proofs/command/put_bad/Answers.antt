use Rattle.std.proofs.Common.{refl}
use Rattle.std.specs.Prelude.{string_bytes}
use Rattle.std.proofs.lemmas.Result.{err_from_is_err_and}
use Rattle.dia_upgrades_json.proofs.command.put_bad.Goals as goal

pub returns-in_err-text-clause-refuses : goal.returns-in_err-text-clause-refuses
returns-in_err-text-clause-refuses g c =
    let p = err_from_is_err_and c.from_residual.result c.from_residual.ensures.1 in
    rw (p.1, p.2) refl

pub returns-in_err-put_all-clause-refuses : goal.returns-in_err-put_all-clause-refuses
returns-in_err-put_all-clause-refuses g c =
    let p = err_from_is_err_and c.from_residual-in_err-put_all.result c.from_residual-in_err-put_all.ensures.1 in
    rw (p.1, p.2) (string_bytes c.in_ok-text.text, (c.in_ok-text.ensures, refl), (rw c.as_bytes.ensures.value at c.put_all.ensures.front))

pub returns-clause-refuses : goal.returns-clause-refuses
returns-clause-refuses g c = (refl, string_bytes c.in_ok-text.text, (c.in_ok-text.ensures, refl), (rw c.as_bytes.ensures.value at c.in_ok-put_all.ensures.ok))
