-- What a report tells, from its parts.
use Rattle.std.proofs.Common.{◌≡◌, ℕ, Result, Ok, Err, refl}
use Rattle.std.specs.Prelude.{IfOk, string_bytes}
use Rattle.dia_dict.specs.Dictionary.{Dictionary}
use Rattle.dia_dict.specs.declared.IndexedBook.{IndexedBook}
use Rattle.dia_io.specs.declared.Exit.TheVariants.{Yes, Bad}
use Rattle.dia_io.specs.declared.Input.{Input}
use Rattle.dia_io.specs.declared.Inputs.{Inputs}
use Rattle.dia_report.specs.declared.bad_input.BadInput.{BadInput}
use Rattle.dia_report.specs.declared.refusing.Refused.{Refused}
use Rattle.dia_report.specs.declared.refusing.Refused.TheVariants as refused
use Rattle.dia_report.specs.declared.reporting.Answered.{Answered}
use Rattle.dia_report.specs.declared.reporting.BothBooks.{BothBooks}
use Rattle.dia_report.specs.declared.reporting.Report.TheVariants as reports
use Rattle.dia_run.specs.Report.{AreReadFrom}
use Rattle.dia_refused_json.specs.Recording.{HasReport, RecordsBad}
use Rattle.dia_refused_json.proofs.Recording.{refusal_reported, with_report}
use Rattle.dia_show.specs.declared.reporting.Answered.{Answered as Shown}
use Rattle.dia_show.specs.declared.reporting.Report.TheVariants.{OfShow}
use Rattle.dia_json.specs.Reports.{HasShownReport, IsNothing, IsProposeReport, IsShowReport}

pub nothing_reported : {E : Type 0} (r : Result Answered E) → IfOk r (λ a. a.report ≡ reports.Done) → IfOk r (HasReport IsNothing)
nothing_reported (Ok a) is = with_report IsNothing a reports.Done is refl
nothing_reported (Err e) is = tt

pub table_reported : {E : Type 0} (meaning : IndexedBook → Dictionary) (inputs : Inputs) (r : Result Answered E) → IfOk r (λ a. a.exit ≡ Yes) → IfOk r (λ a. a.report ≡ reports.Done)
    → IfOk r (HasReport (IsProposeReport meaning inputs))
table_reported meaning inputs (Ok a) exit is = with_report (IsProposeReport meaning inputs) a reports.Done is (tt, exit)
table_reported meaning inputs (Err e) exit is = tt

pub no_command_reported : {E : Type 0} (meaning : IndexedBook → Dictionary) (inputs : Inputs) (books : BothBooks) (r : Result Answered E) → AreReadFrom meaning inputs books
    → IfOk r (λ a. a.exit ≡ Bad) → IfOk r (λ a. a.report ≡ reports.NoCommand books) → IfOk r (HasReport (IsProposeReport meaning inputs))
no_command_reported meaning inputs books (Ok a) read exit is = with_report (IsProposeReport meaning inputs) a (reports.NoCommand books) is (tt, (read, exit))
no_command_reported meaning inputs books (Err e) read exit is = tt

pub show_refused : {E : Type 0} (meaning : IndexedBook → Dictionary) (inputs : Inputs) (input : Input) (why : Refused) (r : Result Answered E)
    → IfOk r (λ a. RecordsBad input why (string_bytes a.text) a.exit) → ((bad : BadInput) → why ≡ refused.Bad bad → IfOk r (λ a. a.report ≡ reports.Refused bad))
    → IfOk r (HasReport (IsShowReport meaning inputs))
show_refused meaning inputs input why r recorded report = refusal_reported (IsShowReport meaning inputs) input why r recorded report

-- the same as a report of `show` with words
pub shown_refused : (meaning : IndexedBook → Dictionary) (inputs : Inputs) (input : Input) (why : Refused) (a : Answered) (s : Shown)
    → s.report ≡ OfShow a.report → s.text ≡ a.text → s.exit ≡ a.exit → RecordsBad input why (string_bytes a.text) a.exit
    → ((bad : BadInput) → why ≡ refused.Bad bad → a.report ≡ reports.Refused bad) → HasShownReport meaning inputs s
shown_refused meaning inputs input why a s report text exit recorded reported =
    rw (report, text, exit) (refusal_reported {E = ℕ} (IsShowReport meaning inputs) input why (Ok a) recorded reported)

pub propose_refused : {E : Type 0} (meaning : IndexedBook → Dictionary) (inputs : Inputs) (input : Input) (why : Refused) (r : Result Answered E)
    → IfOk r (λ a. RecordsBad input why (string_bytes a.text) a.exit) → ((bad : BadInput) → why ≡ refused.Bad bad → IfOk r (λ a. a.report ≡ reports.Refused bad))
    → IfOk r (HasReport (IsProposeReport meaning inputs))
propose_refused meaning inputs input why r recorded report = refusal_reported (IsProposeReport meaning inputs) input why r recorded report
