use Rattle.std.proofs.Common.{◌≡◌, ◌≤◌, ◌+◌, ◌∙◌, length, drop, ap, arith}
use Rattle.dia_accepted.specs.Words.{after_code, digits_in}
use Rattle.dia_accepted.proofs.SubjectBytes.{key_within}
use Rattle.dia_accepted.proofs.parts.key_len.Goals as goal

pub overflow_add-result-2 : goal.overflow_add-result-2
overflow_add-result-2 c =
    let vendor : c.digits_len-2.result ≡ digits_in (drop 1 (after_code c.args.text.now)) = c.digits_len-2.ensures ∙ ap digits_in (c.following.ensures ∙ ap (drop 1) c.after_code.ensures) in
    let within = key_within c.args.text.now c.requires in
    omega (arith, c.digits_len.ensures, vendor, within, c.type_inv.text)

pub returns-clause-within : goal.returns-clause-within
returns-clause-within c =
    let vendor : c.digits_len-2.result ≡ digits_in (drop 1 (after_code c.args.text.now)) = c.digits_len-2.ensures ∙ ap digits_in (c.following.ensures ∙ ap (drop 1) c.after_code.ensures) in
    let within = key_within c.args.text.now c.requires in
    omega (arith, c.digits_len.ensures, vendor, within)
