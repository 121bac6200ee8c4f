use Rattle.std.proofs.Common.{ℕ, List, [], ◌++◌, length, subst, ap, sym, arith}
use Rattle.std.proofs.lemmas.List.{append-nil}
use Rattle.std.proofs.lemmas.Bool.Decides.{nat_tests}
use Rattle.std.specs.Str.{IsUtf8}
use Rattle.dia_data.specs.Front.{front_bytes}
use Rattle.dia_data.specs.State.{IsOpen, IsSeenOfText}
use Rattle.dia_data.proofs.SeenTexts.{text_from_open, length-pending}
use Rattle.dia_data.proofs.seen_text.Text.is_whole.Goals as goal

pub returns-in-Open : goal.returns-in-Open
returns-in-Open c = λ bytes seen.
    let pending = front_bytes c.in-Open.pending in
    let opened : IsOpen pending bytes = subst (λ t. IsSeenOfText t bytes) c.in-Open.is seen in
    let same = ap length c.as_slice.ensures in (
      λ t. text_from_open pending bytes opened (grind (arith, nat_tests)),
      λ text. let none = length-pending pending bytes opened text in grind (arith, nat_tests),
    )

pub returns-in-Broken : goal.returns-in-Broken
returns-in-Broken c = λ bytes seen.
    let broken : (more : List ℕ) → ¬ IsUtf8 (bytes ++ more) = subst (λ t. IsSeenOfText t bytes) c.in-Broken.is seen in
    (λ t. absurd cc, λ text. absurd (broken [] (subst IsUtf8 (sym (append-nil bytes)) text)))
