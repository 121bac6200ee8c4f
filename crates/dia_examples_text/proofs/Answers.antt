-- What is answered where there are no vectors.
use Rattle.std.proofs.Common.{◌≡◌, ℕ, List, Option, Result, Ok, Err, IfOk, inl, inr, refl}
use Rattle.std.specs.Prelude.{IfErr}
use Rattle.std.specs.Io.KnownBytes.{Appends}
use Rattle.dia_io.specs.declared.Exit.TheVariants.{Bad}
use Rattle.dia_io.specs.declared.Inputs.{Inputs}
use Rattle.dia_io.specs.Writing.{AppendsFront}
use Rattle.dia_terms.specs.declared.Unknown.{Unknown}
use Rattle.dia_dict.specs.Dictionary.{Dictionary}
use Rattle.dia_report.specs.declared.reporting.Reported.{Reported}
use Rattle.dia_run.specs.Texts.{IsDictionaryText}
use Rattle.dia_examples_text.specs.declared.forms.Form.{Form}
use Rattle.dia_examples_text.specs.Outcome.{Begun, IsExamplesOutcome, IsExamplesText, Puts, answered, no_command, no_command_text}

-- what doesn't depend on a fault holds of each
pub of_any_fault : {V E : Type 0} (r : Result V E) (P : Type 0) → P → IfErr r (λ fault. P)
of_any_fault (Ok v) P p = tt
of_any_fault (Err e) P p = p

module _ {E : Type 0} (form : Form) (u : Unknown) (d : Dictionary) (name : Option (List ℕ)) (r : Result Reported E) (old new : Option (List ℕ)) (text : List ℕ) where
  of_put : (made : Result Reported E) → text ≡ no_command_text form name → IfOk made (λ reported. (reported.exit ≡ Bad) × Appends old new text)
      → IfOk made (λ reported. Puts (IsExamplesText form u d) old new reported.exit)
  of_put (Ok reported) is (exit, put) = (text, no_command name is exit, put)
  of_put (Err fault) is put = tt

  pub none_put : text ≡ no_command_text form name → IfOk r (λ reported. (reported.exit ≡ Bad) × Appends old new text)
      → IfOk r (λ reported. Puts (IsExamplesText form u d) old new reported.exit)
  none_put is put = of_put r is put

  pub none_begun : text ≡ no_command_text form name → AppendsFront old new text → IfErr r (λ fault. Begun (IsExamplesText form u d) old new)
  none_begun is begun = of_any_fault r (Begun (IsExamplesText form u d) old new) (inr (text, Bad, no_command name is refl, begun))

-- by a dictionary that was read
begun_with : (form : Form) (u : Unknown) (inputs : Inputs) (d : Dictionary) → IsDictionaryText inputs.first d → (old new : Option (List ℕ))
    → Begun (IsExamplesText form u d) old new → Begun (IsExamplesOutcome form u inputs) old new
begun_with form u inputs d read old new (inl same) = inl same
begun_with form u inputs d read old new (inr (text, exit, is, begun)) = inr (text, exit, answered d read is, begun)

module _ {E : Type 0} (form : Form) (u : Unknown) (inputs : Inputs) (d : Dictionary) (read : IsDictionaryText inputs.first d) (old new : Option (List ℕ)) where
  pub put_by : (r : Result Reported E) → IfOk r (λ reported. Puts (IsExamplesText form u d) old new reported.exit)
      → IfOk r (λ reported. Puts (IsExamplesOutcome form u inputs) old new reported.exit)
  put_by (Ok reported) (text, is, put) = (text, answered d read is, put)
  put_by (Err fault) is = tt

  pub begun_by : (r : Result Reported E) → IfErr r (λ fault. Begun (IsExamplesText form u d) old new)
      → IfErr r (λ fault. Begun (IsExamplesOutcome form u inputs) old new)
  begun_by (Ok reported) is = tt
  begun_by (Err fault) is = begun_with form u inputs d read old new is
