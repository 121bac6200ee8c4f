-- The answer to a request that reports its first fault.
use Rattle.std.specs.Prelude.{◌≡◌, ℕ, List, Ok, Err}
use Rattle.dia_book.specs.Dictionary.{Dictionary}
use Rattle.dia_terms.specs.declared.Unknown.{Unknown}
use Rattle.dia_terms.specs.declared.Levels.{Levels}
use Rattle.dia_answer.specs.declared.forms.Form.{Form}
use Rattle.dia_answer.specs.declared.forms.Form.TheVariants as form
use Rattle.dia_answer.specs.declared.forms.Made.{Made}
use Rattle.dia_answer.specs.declared.forms.NoAnswer.{NoAnswer}
use Rattle.dia_answer.specs.Reports as reports
use Rattle.dia_c_calls.specs.declared.verdict.Verdict.{Verdict}
use Rattle.dia_c_calls.specs.Verdicts.{fault_verdict}

abbrev pub form_number : Form → ℕ
form_number form.Own = 1
form_number form.Error = 2
form_number form.Base = 3

-- the bytes are the answer to a request by a node with this Origin-Host and Origin-Realm, of the form with this number, and the verdict is
-- on the fault that it reports
abbrev pub IsAnswered : Dictionary → Unknown → Levels → (host realm request bytes : List ℕ) → ℕ → Verdict → Type 0
IsAnswered d u most host realm request bytes n verdict =
    (made : Made) × reports.IsAnswered d u most host realm request (Ok made) × (bytes ≡ made.bytes.items) × (n ≡ form_number made.form)
    × (verdict ≡ fault_verdict made.fault)

-- the bytes get no answer by this node
abbrev pub IsUnanswered : Dictionary → Unknown → Levels → (host realm bytes : List ℕ) → Type 0
IsUnanswered d u most host realm bytes = (why : NoAnswer) × reports.IsAnswered d u most host realm bytes (Err why)
