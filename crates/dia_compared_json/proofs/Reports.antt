-- The report of an input that is refused.
use Rattle.std.proofs.Common.{◌≡◌, Result}
use Rattle.std.specs.Prelude.{IfOk, string_bytes}
use Rattle.dia_dict.specs.Dictionary.{Dictionary}
use Rattle.dia_dict.specs.declared.IndexedBook.{IndexedBook}
use Rattle.dia_io.specs.declared.Input.{Input}
use Rattle.dia_io.specs.declared.Inputs.{Inputs}
use Rattle.dia_terms.specs.declared.Unknown.{Unknown}
use Rattle.dia_report.specs.declared.bad_input.BadInput.{BadInput}
use Rattle.dia_report.specs.declared.refusing.Refused.{Refused}
use Rattle.dia_report.specs.declared.refusing.Refused.TheVariants as refused
use Rattle.dia_report.specs.declared.reporting.Answered.{Answered}
use Rattle.dia_report.specs.declared.reporting.Report.TheVariants as reports
use Rattle.dia_refused_json.specs.Recording.{HasReport, RecordsBad}
use Rattle.dia_refused_json.proofs.Recording.{refusal_reported}
use Rattle.dia_compared_json.specs.Compared.{IsCompareReport}

pub compare_refused : {E : Type 0} (meaning : IndexedBook → Dictionary) (u : Unknown) (inputs : Inputs) (input : Input) (why : Refused) (r : Result Answered E)
    → IfOk r (λ a. RecordsBad input why (string_bytes a.text) a.exit) → ((bad : BadInput) → why ≡ refused.Bad bad → IfOk r (λ a. a.report ≡ reports.Refused bad))
    → IfOk r (HasReport (IsCompareReport meaning u inputs))
compare_refused meaning u inputs input why r recorded report = refusal_reported (IsCompareReport meaning u inputs) input why r recorded report
