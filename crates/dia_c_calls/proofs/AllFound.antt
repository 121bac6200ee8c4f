-- What is known of the faults of a text passes to the list of them.
use Rattle.std.proofs.Common.{◌≡◌, List, [], ◌∷◌, ℕ, map, Result}
use Rattle.std.specs.Prelude.{IfOk}
use Rattle.std.specs.Str.{IsUtf8}
use Rattle.dia_ccf.specs.declared.source.Source.{Source}
use Rattle.dia_ccf.specs.Plain.{plain_source}
use Rattle.dia_ccf.specs.Tokens.{tokens}
use Rattle.dia_ccf.specs.Grammar.{Derives}
use Rattle.dia_ccf.specs.Places.{IsPlaced}
use Rattle.dia_dict.specs.Resolution.{all_findings}
use Rattle.dia_c_calls.specs.AllFaults.{AreFaultsOf, IsUnreadFor, fault_of}
use Rattle.dia_c_calls.specs.PlainFaults.{PlainFault}
use Rattle.dia_c_calls.proofs.Recorded.{if_ok}

-- a text that is not read has its one fault
pub unread : {A E : Type 0} (recorded : A → List PlainFault) (text : List ℕ) (f : PlainFault) (r : Result A E)
    → IsUnreadFor text f → IfOk r (λ x. recorded x ≡ f ∷ []) → IfOk r (λ x. AreFaultsOf text (recorded x))
unread recorded text f r is one = if_ok r (λ x e. AreFaultsOf.unread f is e) one

-- a text that is read has those of its source
pub read : {A E : Type 0} (recorded : A → List PlainFault) (text : List ℕ) (source : Source) (r : Result A E)
    → IsUtf8 text → Derives (tokens text) (plain_source source) → IsPlaced text source
    → IfOk r (λ x. recorded x ≡ map (fault_of text source) (all_findings (plain_source source))) → IfOk r (λ x. AreFaultsOf text (recorded x))
read recorded text source r utf8 derived placed all = if_ok r (λ x e. AreFaultsOf.read source utf8 derived placed e) all
