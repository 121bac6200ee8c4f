use Rattle.std.proofs.Common.{None, Some, refl, sym, ◌∙◌}
use Rattle.dia_text.proofs.PartsOfTexts.{code_and_vendor, no_vendor}
use Rattle.dia_text.proofs.keys.parted_code.Goals as goal

pub returns-in_err-code : goal.returns-in_err-code
returns-in_err-code c = c.from_residual.ensures ∙ sym (no_vendor c.args.mark c.args.word.now (c.in_err-code.ensures.none refl))

pub returns-in_err-code-2 : goal.returns-in_err-code-2
returns-in_err-code-2 c =
    c.from_residual-in_err-code-2.ensures ∙ sym (code_and_vendor c.args.mark c.args.word.now _ _ None _ c.in_ok-code.ensures.some c.in_ok-code.ensures.part c.in_err-code-2.ensures refl)

pub returns-in_err-vendor : goal.returns-in_err-vendor
returns-in_err-vendor c =
    c.from_residual-in_err-vendor.ensures
    ∙ sym (code_and_vendor c.args.mark c.args.word.now _ _ (Some c.in_ok-code-2.code) None c.in_ok-code.ensures.some c.in_ok-code.ensures.part c.in_ok-code-2.ensures c.in_err-vendor.ensures)

pub returns : goal.returns
returns c =
    sym (code_and_vendor c.args.mark c.args.word.now _ _ (Some c.in_ok-code-2.code) (Some c.in_ok-vendor.vendor) c.in_ok-code.ensures.some c.in_ok-code.ensures.part c.in_ok-code-2.ensures
    c.in_ok-vendor.ensures)
