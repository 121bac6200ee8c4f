use Rattle.std.proofs.Common.{◌≡◌, ℕ, List, length, refl}
use Rattle.dia_c_calls.specs.Words.{IsVerdictText}
use Rattle.dia_c_calls.proofs.ComparedHandles.{dict_of, in_dict}
use Rattle.dia_c_calls.proofs.words.verdict_text.Goals as goal

pub returns-in-Ok-Some-clause-wanted : goal.returns-in-Ok-Some-clause-wanted
returns-in-Ok-Some-clause-wanted c is =
    in_dict (λ d. (text : List ℕ) × IsVerdictText d c.args.verdict.now text × (c.copied.new.count ≡ length text)) _ _ _ c.in-Some.ensures.some
    (dict_of _ _ _ _ c.deref.ensures c.owner_in.ensures c.deref-2.ensures)
    (c.as_str.result.now, rw c.as_str.ensures.value (rw c.in-Ok-Some.field-0-is at c.in-Ok-Some.ensures.some), c.copied.ensures.count)

pub returns-in-Ok-None-clause-bad : goal.returns-in-Ok-None-clause-bad
returns-in-Ok-None-clause-bad c is =
    in_dict (λ d. (text : List ℕ) → ¬ IsVerdictText d c.args.verdict.now text) _ _ _ c.in-Some.ensures.some
    (dict_of _ _ _ _ c.deref.ensures c.owner_in.ensures c.deref-2.ensures) (c.in-Ok-None.ensures.none (rw c.in-Ok-None.field-0-is refl))
