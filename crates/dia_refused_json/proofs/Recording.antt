-- That an input is refused follows from what was found of it, and what is told.
use Rattle.std.proofs.Common.{◌≡◌, ℕ, List, Result, Ok, Err, refl, subst, sym}
use Rattle.std.specs.Prelude.{IfOk, string_bytes}
use Rattle.dia_ccf.specs.Plain.{plain_source}
use Rattle.dia_dict.specs.Dictionary.{Dictionary}
use Rattle.dia_io.specs.declared.Input.{Input}
use Rattle.dia_io.specs.declared.Inputs.{Inputs}
use Rattle.dia_io.specs.declared.Exit.{Exit}
use Rattle.dia_report.specs.declared.refusing.Refused.{Refused}
use Rattle.dia_report.specs.declared.refusing.Refused.TheVariants.{Bad, NoMemory}
use Rattle.dia_report.specs.declared.bad_input.BadInput.{BadInput}
use Rattle.dia_report.specs.declared.bad_input.BadInput.TheVariants as bads
use Rattle.dia_report.specs.declared.bad_input.BadDictionary.TheVariants as dictionary
use Rattle.dia_report.specs.declared.reporting.Answered.{Answered}
use Rattle.dia_report.specs.declared.reporting.Report.{Report}
use Rattle.dia_report.specs.declared.reporting.Report.TheVariants as reports
use Rattle.dia_report.specs.Refusals.{RecordsOf, dictionary_line}
use Rattle.dia_run.specs.RefusedDictionaries.{RefusesSecond}
use Rattle.dia_run.specs.Report.{HasFinding}
use Rattle.dia_run.specs.Texts.{IsDictionaryText, IsNoDictionaryText}
use Rattle.dia_refused_json.specs.Refusals.{IsFoundIn}
use Rattle.dia_refused_json.specs.Recording.{HasReport, IsDictionaryRefusal, IsRefusal, IsRefusedOr, RecordsBad}

pub input_refused : (refuses : List ℕ → Type 0) (input : Input) (refused : Refused) → RecordsOf refuses refused → (text : List ℕ) (exit : Exit) → RecordsBad input refused text exit
    → IsRefusal refuses input text exit
input_refused refuses input (Bad bad) records text exit is = (bad, records, is.0, is.1)
input_refused refuses input NoMemory records text exit none = absurd none

found_in : (input : Input) (bad : BadInput) → HasFinding input (Bad bad) → IsFoundIn input bad
found_in input (bads.Dictionary n (dictionary.NoSource misfit)) h = h
found_in input (bads.Dictionary n (dictionary.Wrong found)) h = (plain_source found.source.value, h, found.first)
found_in input (bads.Dictionary n dictionary.TooLong) h = tt
found_in input (bads.Dictionary n (dictionary.NotText at)) h = h
found_in input (bads.Table why) h = tt
found_in input (bads.Message why) h = tt

pub dictionary_refused : (refuses : List ℕ → Type 0) (input : Input) (refused : Refused) → RecordsOf refuses refused → HasFinding input refused
    → (text : List ℕ) (exit : Exit) → RecordsBad input refused text exit → IsDictionaryRefusal refuses input text exit
dictionary_refused refuses input (Bad bad) records kept text exit is = (bad, found_in input bad kept, records, is.0, is.1)
dictionary_refused refuses input NoMemory records kept text exit none = absurd none

-- the second dictionary is refused, behind a first one that is read
pub second_refused : (inputs : Inputs) (a : Dictionary) (r : Refused) → IsDictionaryText inputs.first a
    → RecordsOf (λ recorded. (why : List ℕ) × IsNoDictionaryText inputs.second why × (recorded ≡ dictionary_line 2 why)) r → RecordsOf (RefusesSecond inputs) r
second_refused inputs a (Bad bad) is_a h = (a, is_a, h)
second_refused inputs a NoMemory is_a h = tt

-- ---- reports

pub with_report : (P : Report → List ℕ → Exit → Type 0) (a : Answered) (report : Report) → a.report ≡ report → IsRefusedOr P report (string_bytes a.text) a.exit → HasReport P a
with_report P a report is recorded = subst (λ (r : Report). IsRefusedOr P r (string_bytes a.text) a.exit) (sym is) recorded

pub refusal_reported : {E : Type 0} (P : Report → List ℕ → Exit → Type 0) (input : Input) (refused : Refused) (r : Result Answered E)
    → IfOk r (λ a. RecordsBad input refused (string_bytes a.text) a.exit)
    → ((bad : BadInput) → refused ≡ Bad bad → IfOk r (λ a. a.report ≡ reports.Refused bad)) → IfOk r (HasReport P)
refusal_reported P input (Bad bad) (Ok a) recorded report = with_report P a (reports.Refused bad) (report bad refl) (input, recorded.0, recorded.1)
refusal_reported P input NoMemory (Ok a) none report = absurd none
refusal_reported P input refused (Err e) recorded report = tt
