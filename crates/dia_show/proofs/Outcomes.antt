-- What is answered, from its parts; and what is shown without options.
use Rattle.std.proofs.Common.{◌≡◌, ℕ, Bool, List, Result, Ok, Err, refl, sym, ap, subst}
use Rattle.std.specs.Prelude.{IfOk, string_bytes}
use Rattle.dia_io.specs.declared.Exit.{Exit}
use Rattle.dia_io.specs.declared.Exit.TheVariants as exits
use Rattle.dia_io.specs.declared.Inputs.{Inputs}
use Rattle.dia_dict.specs.Dictionary.{Dictionary}
use Rattle.dia_dict.specs.declared.IndexedBook.{IndexedBook}
use Rattle.dia_report.specs.declared.refusing.Refused.{Refused}
use Rattle.dia_report.specs.declared.refusing.Refused.TheVariants.{Bad, NoMemory}
use Rattle.dia_report.specs.declared.bad_input.BadInput.{BadInput}
use Rattle.dia_report.specs.declared.reporting.Report.TheVariants as reports
use Rattle.dia_report.specs.Refusals.{RecordsOf, bad_input_text, dictionary_line}
use Rattle.dia_run.specs.Outcome.{Ends}
use Rattle.dia_run.specs.Texts.{line, IsDictionaryText, IsNoDictionaryText, IsMessageText, IsNoMessageText}
use Rattle.dia_show.specs.declared.reporting.Answered.{Answered}
use Rattle.dia_show.specs.declared.reporting.Report.{Report}
use Rattle.dia_show.specs.declared.reporting.Report.TheVariants.{OfShow}
use Rattle.dia_show.specs.Outcome.{Gives, IsNamedOutcome, IsShown, shown, no_dictionary, no_message}
use Rattle.dia_show.specs.Report.{HasReport, IsRecorded, IsRecordedOfLines}
use Rattle.dia_show.specs.Words.{Word, IsValuesText}

-- ---- the inputs

pub gives_no_dictionary : (names : Bool) (inputs : Inputs) (r : Refused) → RecordsOf (λ recorded. (why : List ℕ) × IsNoDictionaryText inputs.first why × (recorded ≡ dictionary_line 1 why)) r
    → Gives (IsNamedOutcome names inputs) (Err r)
gives_no_dictionary names inputs (Bad bad) (why, h, e) = no_dictionary why h (ap line e, refl)
gives_no_dictionary names inputs NoMemory h = tt

pub gives_no_message : (names : Bool) (inputs : Inputs) (d : Dictionary) (words : List Word) (r : Refused) → IsDictionaryText inputs.first d → IsValuesText inputs.table words
    → RecordsOf (IsNoMessageText inputs.message) r → Gives (IsNamedOutcome names inputs) (Err r)
gives_no_message names inputs d words (Bad bad) is_d are_words h = no_message d words (bad_input_text bad) is_d are_words h (refl, refl)
gives_no_message names inputs d words NoMemory is_d are_words h = tt

-- a message that is refused
pub gives_refused : (names : Bool) (inputs : Inputs) (d : Dictionary) (words : List Word) (bytes : List ℕ) (r : Refused) → IsDictionaryText inputs.first d → IsValuesText inputs.table words
    → IsMessageText inputs.message bytes → Ends (IsShown (record { words = words; names = names }) d bytes) (Err r) → Gives (IsNamedOutcome names inputs) (Err r)
gives_refused names inputs d words bytes (Bad bad) is_d are_words is_message h = shown d words bytes is_d are_words is_message h
gives_refused names inputs d words bytes NoMemory is_d are_words is_message h = tt

-- the answer of an input that is refused
pub refused_ends : {E : Type 0} (P : List ℕ → Exit → Type 0) (bad : BadInput) (r : Result Answered E) → Gives P (Err (Bad bad))
    → IfOk r (λ a. string_bytes a.text ≡ line (bad_input_text bad)) → IfOk r (λ a. a.exit ≡ exits.Bad) → IfOk r (λ a. P (string_bytes a.text) a.exit)
refused_ends P bad (Ok a) h text exit = rw (text, exit) h
refused_ends P bad (Err e) h text exit = tt

-- ---- reports

with_report : (meaning : IndexedBook → Dictionary) (inputs : Inputs) (a : Answered) (report : Report) → a.report ≡ report → IsRecorded meaning inputs report (string_bytes a.text) a.exit
    → HasReport meaning inputs a
with_report meaning inputs a report is recorded = subst (λ (r : Report). IsRecorded meaning inputs r (string_bytes a.text) a.exit) (sym is) recorded

pub recorded_refused : {E : Type 0} (meaning : IndexedBook → Dictionary) (inputs : Inputs) (bad : BadInput) (r : Result Answered E) → IfOk r (λ a. string_bytes a.text ≡ line (bad_input_text bad))
    → IfOk r (λ a. a.exit ≡ exits.Bad) → IfOk r (λ a. a.report ≡ OfShow (reports.Refused bad)) → IfOk r (HasReport meaning inputs)
recorded_refused meaning inputs bad (Ok a) text exit report = with_report meaning inputs a (OfShow (reports.Refused bad)) report (tt, (text, exit))
recorded_refused meaning inputs bad (Err e) text exit report = tt

-- the report of an input that is refused before the lines
pub refused_before : (inputs : Inputs) (a : Answered) (report : Report) → a.report ≡ report → IsRecordedOfLines inputs report (string_bytes a.text) a.exit
    → IsRecordedOfLines inputs a.report (string_bytes a.text) a.exit
refused_before inputs a report is recorded = subst (λ (r : Report). IsRecordedOfLines inputs r (string_bytes a.text) a.exit) (sym is) recorded
