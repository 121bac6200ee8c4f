use Rattle.std.proofs.Common.{List, ℕ, ◌≡◌, ◌∷◌, [], Some, map, subst, sym, refl, ◌∙◌}
use Rattle.std.specs.Prelude.{IfOk}
use Rattle.std.specs.Str.{IsUtf8}
use Rattle.dia_c_calls.specs.AllFaults.{AreFaultsOf, IsUnreadFor}
use Rattle.dia_c_calls.specs.PlainFaults.{nameless, plain_fault}
use Rattle.dia_c_calls.proofs.AllFound.{unread}
use Rattle.dia_c_calls.proofs.findings.faults_of.Goals as goal

pub returns-in-Ok : goal.returns-in-Ok
returns-in-Ok c =
    let same = c.in-Ok.ensures.cases.0 in
    subst (λ (text : List ℕ). IfOk c.faults_of_words.result (λ faults. AreFaultsOf text (map plain_fault faults.items))) same
    (c.faults_of_words.ensures (subst IsUtf8 (sym same) c.in-Ok.ensures.cases.1))

pub returns-in-Err : goal.returns-in-Err
returns-in-Err c =
    let at = c.valid_up_to.ensures ∙ c.in-Err.ensures.valid_len in
    unread _ c.args.text.now _ c.alone.result (IsUnreadFor.not_text c.in-Err.ensures.cases.0 refl)
    (subst (λ (n : ℕ). IfOk c.alone.result (λ faults. map plain_fault faults.items ≡ nameless 0 0 (Some n) ∷ [])) at c.alone.ensures)
