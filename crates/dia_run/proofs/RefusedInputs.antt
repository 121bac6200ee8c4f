-- What is told of an input that is refused, and what an outcome is made of.
use Rattle.std.proofs.Common.{◌≡◌, ◌≢◌, ◌↔◌, arith, ℕ, ◌≤◌, List, length, Result, Ok, Err, refl, sym, ap, subst, inl}
use Rattle.std.specs.Prelude.{IfOk, IfErr, IsErr, string_bytes}
use Rattle.dia_io.specs.declared.Exit.{Exit}
use Rattle.dia_io.specs.declared.Exit.TheVariants as exits
use Rattle.dia_run.specs.declared.commands.Outcome.{Outcome}
use Rattle.dia_report.specs.declared.refusing.Refused.{Refused}
use Rattle.dia_report.specs.declared.refusing.Refused.TheVariants.{Bad, NoMemory}
use Rattle.std.specs.Str.{IsUtf8}
use Rattle.dia_ccf.specs.declared.Refused.{Refused as Unread}
use Rattle.dia_ccf.specs.declared.Refused.TheVariants as unread
use Rattle.dia_ccf.specs.Limits.{max_text}
use Rattle.dia_ccf.specs.Refusals.{IsRefused}
use Rattle.dia_io.specs.declared.Input.{Input}
use Rattle.dia_io.specs.declared.Input.TheVariants.{Bytes, TooLong}
use Rattle.dia_io.specs.Inputs.{Holds}
use Rattle.dia_compat.specs.TableText.{max_table}
use Rattle.dia_report.specs.Refusals.{dictionary_line, fault_text, RecordsOf, bad_input_text, table_line}
use Rattle.dia_run.specs.Texts.{line, IsNoSourceText, fault, IsDictionaryText, IsNoDictionaryText, IsNoMessageText}
use Rattle.dia_run.specs.Texts.{refused_text}
use Rattle.dia_run.specs.Pairs.{IsNoTableText, fault as table_fault, table_fault_text}
use Rattle.dia_compat.specs.declared.TableFault.{TableFault}
use Rattle.dia_compat.specs.declared.TableFault.TheVariants as tables
use Rattle.dia_compat.specs.TableText.{IsTableFault}
use Rattle.dia_dict.specs.Dictionary.{Dictionary}
use Rattle.dia_check.specs.declared.Unknown.{Unknown}
use Rattle.dia_check.specs.declared.Levels.{Levels}
use Rattle.dia_io.specs.declared.Inputs.{Inputs}
use Rattle.dia_dict.specs.declared.IndexedBook.{IndexedBook}
use Rattle.dia_report.specs.declared.reporting.Answered.{Answered}
use Rattle.dia_report.specs.declared.reporting.Report.TheVariants as reports
use Rattle.dia_report.specs.declared.bad_input.BadInput.{BadInput}
use Rattle.dia_io.specs.declared.Command.{Command}
use Rattle.dia_io.specs.declared.Command.TheVariants as command
use Rattle.dia_run.specs.Kinds.{IsReportOf, Reports}
use Rattle.dia_run.specs.Report.{Answers, HasReport, RecordsRefusal}
use Rattle.dia_run.specs.Outcome.{Ends, IsRenderOutcome, no_source, IsMessageOutcome, no_dictionary, no_message, IsPairOutcome, ended, no_first, no_second, IsComparison, no_table, IsRefutation}

pub RecordsOf-map : (P Q : List ℕ → Type 0) (r : Refused) → ((recorded : List ℕ) → P recorded → Q recorded) → RecordsOf P r → RecordsOf Q r
RecordsOf-map P Q (Bad bad) f h = f (bad_input_text bad) h
RecordsOf-map P Q NoMemory f h = tt

-- a dictionary's line tells why
pub recorded_why : (P : List ℕ → Type 0) (number : ℕ) (why : List ℕ) (r : Refused) → P why → RecordsOf (λ recorded. recorded ≡ dictionary_line number why) r
    → RecordsOf (λ recorded. (w : List ℕ) × P w × (recorded ≡ dictionary_line number w)) r
recorded_why P number why (Bad bad) h e = (why, h, e)
recorded_why P number why NoMemory h e = tt

-- why the grammar refuses a text that is within the limit
pub recorded_text : (input : Input) (text : List ℕ) (number : ℕ) (why : Unread) (r : Refused) → Holds input max_text text → IsUtf8 text → length text ≤ max_text → IsRefused text why
    → (r ≡ NoMemory ↔ why ≡ unread.NoMemory) → RecordsOf (λ recorded. recorded ≡ dictionary_line number (refused_text why)) r
    → RecordsOf (λ recorded. (w : List ℕ) × IsNoSourceText input w × (recorded ≡ dictionary_line number w)) r
recorded_text input text number unread.TooLong r holds utf8 short over memory e = absurd (omega (arith, short, over))
recorded_text input text number unread.NoMemory (Bad bad) holds utf8 short refused memory e = let never = memory.1 refl in absurd cc
recorded_text input text number unread.NoMemory NoMemory holds utf8 short refused memory e = tt
recorded_text input text number (unread.At misfit) r holds utf8 short refused memory e =
    recorded_why (IsNoSourceText input) number (fault_text misfit.fault) r (fault text misfit.fault holds utf8 refused.1.recorded refused.1.no_memory refl) e

pub most_bytes : (input : Input) (text : List ℕ) → Holds input max_text text → length text ≤ max_text
most_bytes (Bytes v) text h = h.1
most_bytes TooLong text h = absurd h

-- a text that is refused, by another name
pub is_refused_of : (read text : List ℕ) (why : Unread) → read ≡ text → IsRefused read why → IsRefused text why
is_refused_of read text why same refused = subst (λ (t : List ℕ). IsRefused t why) same refused

-- what was made is written: an outcome as it is, a refusal as its line
pub outcome_is : {E : Type 0} (P : List ℕ → Exit → Type 0) (made : Result Outcome Refused) (r : Result Outcome E) → IfOk made (λ o. r ≡ Ok o)
    → IfErr made (RecordsOf (λ recorded. IfOk r (λ o. string_bytes o.text ≡ line recorded)))
    → (IsErr made → IfOk r (λ o. o.exit ≡ exits.Bad)) → IfErr made (λ refused. refused ≡ NoMemory → IsErr r) → Ends P made → IfOk r (λ o. P (string_bytes o.text) o.exit)
outcome_is P (Ok o) r done text exit memory ends = rw done ends
outcome_is P (Err (Bad bad)) (Ok o) done text exit memory ends = rw (text, exit refl) ends
outcome_is P (Err (Bad bad)) (Err e) done text exit memory ends = tt
outcome_is P (Err NoMemory) (Ok o) done text exit memory ends = let e = memory refl in absurd cc
outcome_is P (Err NoMemory) (Err e) done text exit memory ends = tt

-- what was made is answered: as it is, or the line of a refusal
pub answer_is : {E : Type 0} (P : List ℕ → Exit → Type 0) (made : Result Answered Refused) (r : Result Answered E) → IfOk made (λ a. r ≡ Ok a)
    → IfErr made (λ refused. IfOk r (RecordsRefusal refused)) → Answers P made → IfOk r (λ a. P (string_bytes a.text) a.exit)
answer_is P (Ok a) r done refusal ends = rw done ends
answer_is P (Err (Bad bad)) (Ok a) done refusal ends = rw (refusal.1.0, refusal.1.1) ends
answer_is P (Err NoMemory) (Ok a) done refusal ends = absurd refusal
answer_is P (Err refused) (Err e) done refusal ends = tt

-- and so is its report
pub report_is : {E : Type 0} (meaning : IndexedBook → Dictionary) (inputs : Inputs) (made : Result Answered Refused) (r : Result Answered E) → IfOk made (λ a. r ≡ Ok a)
    → IfErr made (λ refused. IfOk r (RecordsRefusal refused)) → IfOk made (HasReport meaning inputs) → IfOk r (HasReport meaning inputs)
report_is meaning inputs (Ok a) r done refusal has = rw done has
report_is meaning inputs (Err (Bad bad)) (Ok a) done refusal has = rw refusal.0 refusal.1
report_is meaning inputs (Err NoMemory) (Ok a) done refusal has = absurd refusal
report_is meaning inputs (Err refused) (Err e) done refusal has = tt

-- each command may refuse an input
refusal_of : (c : Command) (bad : BadInput) → IsReportOf c (reports.Refused bad)
refusal_of command.Show bad = tt
refusal_of command.Render bad = tt
refusal_of (command.Check u most) bad = tt
refusal_of (command.Compare u) bad = tt
refusal_of (command.Refute u most) bad = tt
refusal_of (command.Propose u names) bad = tt

-- and it is one of the command
pub kind_is : {E : Type 0} (c : Command) (made : Result Answered Refused) (r : Result Answered E) → IfOk made (λ a. r ≡ Ok a)
    → IfErr made (λ refused. IfOk r (RecordsRefusal refused)) → IfOk made (Reports (IsReportOf c)) → IfOk r (Reports (IsReportOf c))
kind_is c (Ok a) r done refusal has = rw done has
kind_is c (Err (Bad bad)) (Ok a) done refusal has = rw refusal.0 (refusal_of c bad)
kind_is c (Err NoMemory) (Ok a) done refusal has = absurd refusal
kind_is c (Err refused) (Err e) done refusal has = tt

-- a refusal of an input ends the command
pub Ends-no_source : (inputs : Inputs) (r : Refused) → RecordsOf (λ recorded. (why : List ℕ) × IsNoSourceText inputs.first why × (recorded ≡ dictionary_line 1 why)) r → Ends (IsRenderOutcome inputs) (Err r)
Ends-no_source inputs (Bad bad) (why, h, e) = no_source why h (ap line e, refl)
Ends-no_source inputs NoMemory h = tt

pub Ends-no_dictionary : (P : Dictionary → List ℕ → List ℕ → Exit → Type 0) (inputs : Inputs) (r : Refused)
    → RecordsOf (λ recorded. (why : List ℕ) × IsNoDictionaryText inputs.first why × (recorded ≡ dictionary_line 1 why)) r
    → Ends (IsMessageOutcome P inputs) (Err r)
Ends-no_dictionary P inputs (Bad bad) (why, h, e) = no_dictionary why h (ap line e, refl)
Ends-no_dictionary P inputs NoMemory h = tt

pub Ends-no_message : (P : Dictionary → List ℕ → List ℕ → Exit → Type 0) (inputs : Inputs) (d : Dictionary) (r : Refused) → IsDictionaryText inputs.first d → RecordsOf (IsNoMessageText inputs.message) r
    → Ends (IsMessageOutcome P inputs) (Err r)
Ends-no_message P inputs d (Bad bad) is_d h = no_message d (bad_input_text bad) is_d h (refl, refl)
Ends-no_message P inputs d NoMemory is_d h = tt

-- a text that is no source names no dictionary
pub recorded_of_source : (input : Input) (number : ℕ) (r : Refused) → RecordsOf (λ recorded. (w : List ℕ) × IsNoSourceText input w × (recorded ≡ dictionary_line number w)) r
    → RecordsOf (λ recorded. (w : List ℕ) × IsNoDictionaryText input w × (recorded ≡ dictionary_line number w)) r
recorded_of_source input number (Bad bad) (why, h, e) = (why, inl h, e)
recorded_of_source input number NoMemory h = tt

-- ---- commands of two dictionaries

pub Ends-no_first : (P : Dictionary → Dictionary → List ℕ → Exit → Type 0) (inputs : Inputs) (r : Refused)
    → RecordsOf (λ recorded. (why : List ℕ) × IsNoDictionaryText inputs.first why × (recorded ≡ dictionary_line 1 why)) r
    → Ends (IsPairOutcome P inputs) (Err r)
Ends-no_first P inputs (Bad bad) (why, h, e) = no_first why h (ap line e, refl)
Ends-no_first P inputs NoMemory h = tt

pub Ends-no_second : (P : Dictionary → Dictionary → List ℕ → Exit → Type 0) (inputs : Inputs) (a : Dictionary) (r : Refused) → IsDictionaryText inputs.first a
    → RecordsOf (λ recorded. (why : List ℕ) × IsNoDictionaryText inputs.second why × (recorded ≡ dictionary_line 2 why)) r → Ends (IsPairOutcome P inputs) (Err r)
Ends-no_second P inputs a (Bad bad) is_a (why, h, e) = no_second a why is_a h (ap line e, refl)
Ends-no_second P inputs a NoMemory is_a h = tt

pub Ends-no_table : (u : Unknown) (inputs : Inputs) (a b : Dictionary) (r : Refused) → IsDictionaryText inputs.first a → IsDictionaryText inputs.second b → RecordsOf (IsNoTableText inputs.table) r
    → Ends (IsPairOutcome (IsComparison u inputs.table) inputs) (Err r)
Ends-no_table u inputs a b (Bad bad) is_a is_b h = ended a b is_a is_b (no_table (bad_input_text bad) h (refl, refl))
Ends-no_table u inputs a b NoMemory is_a is_b h = tt

pub Ends-nothing_to_refute : (u : Unknown) (most : Levels) (inputs : Inputs) (a b : Dictionary) (r : Refused) → IsDictionaryText inputs.first a → IsDictionaryText inputs.second b
    → RecordsOf (IsNoMessageText inputs.message) r
    → Ends (IsPairOutcome (IsRefutation u most inputs.message) inputs) (Err r)
Ends-nothing_to_refute u most inputs a b (Bad bad) is_a is_b h = ended a b is_a is_b (no_message (bad_input_text bad) h (refl, refl))
Ends-nothing_to_refute u most inputs a b NoMemory is_a is_b h = tt

-- a table's line tells why
pub recorded_table : (input : Input) (why : List ℕ) (r : Refused) → IsNoTableText input (table_line why) → RecordsOf (λ recorded. recorded ≡ table_line why) r → RecordsOf (IsNoTableText input) r
recorded_table input why (Bad bad) h e = subst (IsNoTableText input) (sym e) h
recorded_table input why NoMemory h e = tt

pub recorded_table_fault : (input : Input) (text : List ℕ) (f : TableFault) (r : Refused) → Holds input max_table text → IsUtf8 text → IsTableFault text f
    → RecordsOf (λ recorded. (f ≢ tables.NoMemory) × (recorded ≡ table_line (table_fault_text f))) r → RecordsOf (IsNoTableText input) r
recorded_table_fault input text f (Bad bad) holds utf8 is_fault (some, e) = table_fault text f holds utf8 is_fault some e
recorded_table_fault input text f NoMemory holds utf8 is_fault e = tt

pub most_table_bytes : (input : Input) (text : List ℕ) → Holds input max_table text → length text ≤ max_table
most_table_bytes (Bytes v) text h = h.1
most_table_bytes TooLong text h = absurd h

-- a fault of a text within the limit, of the same text by another name
pub is_table_fault_of : (read text : List ℕ) (f : TableFault) → read ≡ text → length text ≤ max_table → (length read ≤ max_table → IsTableFault read f) → IsTableFault text f
is_table_fault_of read text f same short h = subst (λ (t : List ℕ). (length t ≤ max_table → IsTableFault t f)) same h short
