-- What is answered, from its parts.
use Rattle.std.proofs.Common.{◌≡◌, ℕ, Bool, true, false, List, Result, Ok, Err, sym, ap, subst, ◌∙◌}
use Rattle.std.specs.Prelude.{IfOk, string_bytes}
use Rattle.dia_io.specs.declared.Exit.TheVariants as exits
use Rattle.dia_io.specs.declared.Inputs.{Inputs}
use Rattle.dia_dict.specs.Dictionary.{Dictionary}
use Rattle.dia_dict.specs.declared.IndexedBook.{IndexedBook}
use Rattle.dia_report.specs.declared.refusing.Refused.TheVariants.{Bad}
use Rattle.dia_report.specs.declared.bad_input.BadInput.{BadInput}
use Rattle.dia_report.specs.Refusals.{RecordsOf, bad_input_text}
use Rattle.dia_report.specs.Refusals.{dictionary_line}
use Rattle.dia_run.specs.Report.{IsReadFrom}
use Rattle.dia_run.specs.Texts.{line, IsDictionaryText, IsNoDictionaryText}
use Rattle.dia_make.specs.declared.reporting.Answered.{Answered}
use Rattle.dia_make.specs.declared.reporting.BadText.{BadText}
use Rattle.dia_make.specs.declared.reporting.RefusedText.{RefusedText}
use Rattle.dia_make.specs.declared.reporting.Report.{Report}
use Rattle.dia_make.specs.declared.reporting.Report.TheVariants as reports
use Rattle.dia_make.specs.Reports.{IsRecorded, HasReport, IsReadBy}
use Rattle.dia_show.specs.declared.reading.BadValues.{BadValues}
use Rattle.dia_show.specs.Words.{IsNoValuesText, IsValuesText, Word, values_line}
use Rattle.dia_make.specs.Numbered.{numbered}
use Rattle.dia_make.specs.Outcome.{IsMade, IsMakeOutcome, IsValuedOutcome, MakesNone, MakesNoneBy, refused as is_refused, no_dictionary, dictionary_is_none, refused_with, text_line, values_are_none}

pub refused : {E : Type 0} (inputs : Inputs) (why : BadInput) (r : Result Answered E) → RecordsOf (λ recorded. (w : List ℕ) × IsNoDictionaryText inputs.first w × (recorded ≡ dictionary_line 1 w)) (Bad why)
    → IfOk r (λ a. string_bytes a.text ≡ line (bad_input_text why)) → IfOk r (λ a. a.exit ≡ exits.Bad) → IfOk r (λ a. IsMakeOutcome inputs (string_bytes a.text) a.exit)
refused inputs why (Ok a) (w, none, is) text exit = no_dictionary w none (text ∙ ap line is, exit)
refused inputs why (Err e) h text exit = tt

-- ---- the text is made, or refused

pub not_made : {E : Type 0} (inputs : Inputs) (d : Dictionary) (why : BadText) (r : Result Answered E) → IsDictionaryText inputs.first d → MakesNone d inputs.message why
    → IfOk r (λ a. string_bytes a.text ≡ line (text_line why)) → IfOk r (λ a. a.exit ≡ exits.Bad) → IfOk r (λ a. IsMakeOutcome inputs (string_bytes a.text) a.exit)
not_made inputs d why (Ok a) is_d none text exit = is_refused d why is_d none (text, exit)
not_made inputs d why (Err e) is_d none text exit = tt

-- ---- the same with words of values

refused_with_values : {E : Type 0} (inputs : Inputs) (why : BadInput) (r : Result Answered E) → RecordsOf (λ recorded. (w : List ℕ) × IsNoDictionaryText inputs.first w × (recorded ≡ dictionary_line 1 w)) (Bad why)
    → IfOk r (λ a. string_bytes a.text ≡ line (bad_input_text why)) → IfOk r (λ a. a.exit ≡ exits.Bad) → IfOk r (λ a. IsValuedOutcome inputs (string_bytes a.text) a.exit)
refused_with_values inputs why (Ok a) (w, none, is) text exit = dictionary_is_none w none (text ∙ ap line is, exit)
refused_with_values inputs why (Err e) h text exit = tt

pub refused_by : {E : Type 0} (values : Bool) (inputs : Inputs) (why : BadInput) (r : Result Answered E) → RecordsOf (λ recorded. (w : List ℕ) × IsNoDictionaryText inputs.first w × (recorded ≡ dictionary_line 1 w)) (Bad why)
    → IfOk r (λ a. string_bytes a.text ≡ line (bad_input_text why)) → IfOk r (λ a. a.exit ≡ exits.Bad) → IfOk r (λ a. IsMade values inputs (string_bytes a.text) a.exit)
refused_by false inputs why r h text exit = refused inputs why r h text exit
refused_by true inputs why r h text exit = refused_with_values inputs why r h text exit

pub not_made_with : {E : Type 0} (inputs : Inputs) (d : Dictionary) (words : List Word) (why : BadText) (r : Result Answered E) → IsDictionaryText inputs.first d → IsValuesText inputs.table words
    → MakesNoneBy (numbered words) d inputs.message why → IfOk r (λ a. string_bytes a.text ≡ line (text_line why)) → IfOk r (λ a. a.exit ≡ exits.Bad)
    → IfOk r (λ a. IsValuedOutcome inputs (string_bytes a.text) a.exit)
not_made_with inputs d words why (Ok a) is_d are_values none text exit = refused_with d words why is_d are_values none (text, exit)
not_made_with inputs d words why (Err e) is_d are_values none text exit = tt

pub values_refused : {E : Type 0} (inputs : Inputs) (d : Dictionary) (bad : BadValues) (r : Result Answered E) → IsDictionaryText inputs.first d → IsNoValuesText inputs.table bad
    → IfOk r (λ a. string_bytes a.text ≡ line (values_line bad)) → IfOk r (λ a. a.exit ≡ exits.Bad) → IfOk r (λ a. IsValuedOutcome inputs (string_bytes a.text) a.exit)
values_refused inputs d bad (Ok a) is_d none text exit = values_are_none d bad is_d none (text, exit)
values_refused inputs d bad (Err e) is_d none text exit = tt

-- ---- reports

with_report : (a : Answered) (report : Report) → a.report ≡ report → IsRecorded report (string_bytes a.text) a.exit → HasReport a
with_report a report is recorded = subst (λ (r : Report). IsRecorded r (string_bytes a.text) a.exit) (sym is) recorded

pub recorded_refused : {E : Type 0} (why : BadInput) (r : Result Answered E) → IfOk r (λ a. string_bytes a.text ≡ line (bad_input_text why)) → IfOk r (λ a. a.exit ≡ exits.Bad)
    → IfOk r (λ a. a.report ≡ reports.Refused why) → IfOk r HasReport
recorded_refused why (Ok a) text exit report = with_report a (reports.Refused why) report (text, exit)
recorded_refused why (Err e) text exit report = tt

pub recorded_text : {E : Type 0} (refused : RefusedText) (r : Result Answered E) → IfOk r (λ a. string_bytes a.text ≡ line (text_line refused.why)) → IfOk r (λ a. a.exit ≡ exits.Bad)
    → IfOk r (λ a. a.report ≡ reports.Text refused) → IfOk r HasReport
recorded_text refused (Ok a) text exit report = with_report a (reports.Text refused) report (text, exit)
recorded_text refused (Err e) text exit report = tt

-- it was read by this dictionary
pub recorded_by : {E : Type 0} (meaning : IndexedBook → Dictionary) (inputs : Inputs) (refused : RefusedText) (r : Result Answered E) → IsReadFrom meaning inputs.first refused.first.value
    → IfOk r (λ a. a.report ≡ reports.Text refused) → IfOk r (λ a. IsReadBy meaning inputs a.report)
recorded_by meaning inputs refused (Ok a) read report = subst (IsReadBy meaning inputs) (sym report) read
recorded_by meaning inputs refused (Err e) read report = tt

-- an input that is refused has no such text
pub recorded_other : {E : Type 0} (meaning : IndexedBook → Dictionary) (inputs : Inputs) (why : BadInput) (r : Result Answered E)
    → IfOk r (λ a. a.report ≡ reports.Refused why) → IfOk r (λ a. IsReadBy meaning inputs a.report)
recorded_other meaning inputs why (Ok a) report = subst (IsReadBy meaning inputs) (sym report) tt
recorded_other meaning inputs why (Err e) report = tt

pub recorded_values : {E : Type 0} (bad : BadValues) (r : Result Answered E) → IfOk r (λ a. string_bytes a.text ≡ line (values_line bad)) → IfOk r (λ a. a.exit ≡ exits.Bad)
    → IfOk r (λ a. a.report ≡ reports.NoValues bad) → IfOk r HasReport
recorded_values bad (Ok a) text exit report = with_report a (reports.NoValues bad) report (text, exit)
recorded_values bad (Err e) text exit report = tt

pub recorded_no_text : {E : Type 0} (meaning : IndexedBook → Dictionary) (inputs : Inputs) (bad : BadValues) (r : Result Answered E)
    → IfOk r (λ a. a.report ≡ reports.NoValues bad) → IfOk r (λ a. IsReadBy meaning inputs a.report)
recorded_no_text meaning inputs bad (Ok a) report = subst (IsReadBy meaning inputs) (sym report) tt
recorded_no_text meaning inputs bad (Err e) report = tt
