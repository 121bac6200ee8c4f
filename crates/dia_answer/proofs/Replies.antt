-- What is answered, from its parts.
use Rattle.std.proofs.Common.{◌≡◌, ℕ, List, ◌++◌, Result, Ok, Err, ap, ◌∙◌}
use Rattle.std.specs.Prelude.{IfOk, string_bytes}
use Rattle.dia_io.specs.declared.Exit.TheVariants as exits
use Rattle.dia_io.specs.declared.Inputs.{Inputs}
use Rattle.dia_dict.specs.Dictionary.{Dictionary}
use Rattle.dia_terms.specs.declared.Unknown.{Unknown}
use Rattle.dia_terms.specs.declared.Levels.{Levels}
use Rattle.dia_report.specs.declared.Refused.TheVariants.{Bad}
use Rattle.dia_report.specs.declared.BadInput.{BadInput}
use Rattle.dia_report.specs.Refusals.{RecordsOf, bad_input_text, dictionary_line}
use Rattle.dia_run.specs.Outcome.{IsMessageOutcome, no_dictionary}
use Rattle.dia_run.specs.Texts.{line, IsNoDictionaryText}
use Rattle.dia_answer.specs.declared.forms.Made.{Made}
use Rattle.dia_answer.specs.declared.forms.NoAnswer.{NoAnswer}
use Rattle.dia_answer.specs.Reports.{IsAnswered}
use Rattle.dia_answer.specs.declared.command.Answered.{Answered}
use Rattle.dia_answer.specs.Outcome.{IsAnswerText, answer_exit, answer_text}

pub bad_dictionary : {E : Type 0} (host realm : List ℕ) (u : Unknown) (most : Levels) (inputs : Inputs) (why : BadInput) (r : Result Answered E)
    → RecordsOf (λ recorded. (w : List ℕ) × IsNoDictionaryText inputs.first w × (recorded ≡ dictionary_line 1 w)) (Bad why)
    → IfOk r (λ a. string_bytes a.text ≡ line (bad_input_text why)) → IfOk r (λ a. a.exit ≡ exits.Bad)
    → IfOk r (λ a. IsMessageOutcome (IsAnswerText host realm u most) inputs (string_bytes a.text) a.exit)
bad_dictionary host realm u most inputs why (Ok a) (w, lacks, is) text exit = no_dictionary w lacks (text ∙ ap line is, exit)
bad_dictionary host realm u most inputs why (Err e) h text exit = tt

pub is_answered : {E : Type 0} (host realm : List ℕ) (u : Unknown) (most : Levels) (d : Dictionary) (bytes : List ℕ) (found : Result Made NoAnswer) (r : Result Answered E)
    → IsAnswered d u most host realm bytes found → IfOk r (λ a. string_bytes a.text ≡ answer_text found) → IfOk r (λ a. a.exit ≡ answer_exit found)
    → IfOk r (λ a. IsAnswerText host realm u most d bytes (string_bytes a.text) a.exit)
is_answered host realm u most d bytes of_request (Ok a) h text exit = record { found = of_request; answered = h; text_is = text; exit_is = exit }
is_answered host realm u most d bytes of_request (Err e) h text exit = tt
