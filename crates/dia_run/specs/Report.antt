-- What a report says of the inputs, and of what was written.
use Rattle.std.specs.Prelude.{◌≡◌, ℕ, List, Result, Ok, Err, string_bytes, ⊤}
use Rattle.dia_ccf.specs.declared.Refused.TheVariants.{At}
use Rattle.dia_ccf.specs.Limits.{max_text}
use Rattle.dia_ccf.specs.Plain.{plain_source}
use Rattle.dia_ccf.specs.Refusals.{IsRefused}
use Rattle.dia_check.specs.Faults.{IsAnswer as IsChecked}
use Rattle.dia_compat.specs.TableText.{max_table, plain_table}
use Rattle.dia_compat.specs.Closed.{IsTableAnswer as IsCompared}
use Rattle.dia_compat.specs.Failings.{AreFailingsFor}
use Rattle.dia_dict.specs.Dictionary.{Dictionary as AnyDictionary}
use Rattle.dia_dict.specs.declared.IndexedBook.{IndexedBook}
use Rattle.dia_io.specs.declared.Input.{Input}
use Rattle.dia_io.specs.declared.Inputs.{Inputs}
use Rattle.dia_io.specs.Inputs.{Holds}
use Rattle.dia_io.specs.declared.Exit.{Exit}
use Rattle.dia_io.specs.declared.Exit.TheVariants.{Yes, No, Bad}
use Rattle.dia_report.specs.declared.reporting.Answered.{Answered}
use Rattle.dia_report.specs.declared.reporting.ReadBook.{ReadBook}
use Rattle.dia_report.specs.declared.reporting.BothBooks.{BothBooks}
use Rattle.dia_report.specs.declared.reporting.Report.{Report}
use Rattle.dia_report.specs.declared.reporting.Report.TheVariants.{Done, Refused, NoCommand, Shown, Cut, Invalid, Unrefuting, Compared}
use Rattle.dia_report.specs.declared.refusing.Refused.{Refused as AnyRefusal}
use Rattle.dia_report.specs.declared.refusing.Refused.TheVariants as refusal
use Rattle.dia_report.specs.declared.bad_input.BadInput.TheVariants.{Dictionary, Table}
use Rattle.dia_report.specs.declared.bad_input.BadDictionary.TheVariants.{NotText, NoSource, Wrong}
use Rattle.dia_report.specs.declared.bad_input.BadTable.TheVariants as table
use Rattle.dia_report.specs.Refusals.{RecordsOf, bad_input_text}
use Rattle.dia_run.specs.Outcome.{Refuses}
use Rattle.dia_run.specs.Pairs.{IsTableText, IsAnswerText}
use Rattle.dia_run.specs.Texts.{line, IsNoText, IsSourceText, IsDictionaryText, IsMessageText}
use Rattle.dia_run.specs.Verdict.{IsVerdict}

-- what was made holds: a text and an end, or the line of a refusal
abbrev pub Answers : (List ℕ → Exit → Type 0) → Result Answered AnyRefusal → Type 0
Answers P (Ok answered) = P (string_bytes answered.text) answered.exit
Answers P (Err refused) = RecordsOf (λ recorded. P (line recorded) Bad) refused

-- the input is the text of the source, and names the dictionary
abbrev pub IsReadFrom : (IndexedBook → AnyDictionary) → Input → ReadBook → Type 0
IsReadFrom meaning input read = IsSourceText input (plain_source read.source) × IsDictionaryText input (meaning read.book)

abbrev pub AreReadFrom : (IndexedBook → AnyDictionary) → Inputs → BothBooks → Type 0
AreReadFrom meaning inputs both = IsReadFrom meaning inputs.first both.first.value × IsReadFrom meaning inputs.second both.second.value

-- the report has what the inputs say, and what was found, and this is what was written
abbrev pub IsReport : (IndexedBook → AnyDictionary) → Inputs → Report → List ℕ → Exit → Type 0
IsReport meaning inputs Done text exit = exit ≡ Yes
IsReport meaning inputs (Refused bad) text exit = Refuses (bad_input_text bad) text exit
IsReport meaning inputs (NoCommand both) text exit = AreReadFrom meaning inputs both × (exit ≡ Bad)
IsReport meaning inputs (Shown message) text exit = IsMessageText inputs.message message.items × (exit ≡ Yes)
IsReport meaning inputs (Cut listing) text exit =
    IsReadFrom meaning inputs.first listing.first.value × IsMessageText inputs.message listing.message.items × (exit ≡ No)
IsReport meaning inputs (Invalid found) text exit =
    IsReadFrom meaning inputs.first found.first.value × IsMessageText inputs.message found.message.items
    × IsChecked (meaning found.first.value.book) found.unknown found.levels found.message.items (Err found.refusal)
    × IsVerdict (meaning found.first.value.book) (Err found.refusal) text exit
IsReport meaning inputs (Unrefuting found) text exit =
    AreReadFrom meaning inputs found.books × IsMessageText inputs.message found.message.items
    × IsChecked (meaning found.books.first.value.book) found.unknown found.levels found.message.items found.under_first
    × IsChecked (meaning found.books.second.value.book) found.unknown found.levels found.message.items found.under_second × (exit ≡ No)
IsReport meaning inputs (Compared found) text exit =
    AreReadFrom meaning inputs found.books × IsTableText inputs.table (plain_table found.table)
    × IsCompared (meaning found.books.first.value.book) (meaning found.books.second.value.book) found.unknown (plain_table found.table) found.answer
    × AreFailingsFor (meaning found.books.first.value.book) (meaning found.books.second.value.book) found.unknown (plain_table found.table) found.answer found.failings.items
    × IsAnswerText (plain_table found.table) found.answer text exit

-- the report of what was answered
abbrev pub HasReport : (IndexedBook → AnyDictionary) → Inputs → Answered → Type 0
HasReport meaning inputs answered = IsReport meaning inputs answered.report (string_bytes answered.text) answered.exit

-- the report has the input that is refused, and its line was written. Where memory was refused there is no answer
abbrev pub RecordsRefusal : AnyRefusal → Answered → Type 0
RecordsRefusal (refusal.Bad bad) answered = (answered.report ≡ Refused bad)
    × Refuses (bad_input_text bad) (string_bytes answered.text) answered.exit
RecordsRefusal refusal.NoMemory answered = ⊥

-- what is reported of a dictionary was found in this input: where its text is refused, or what it says; and of a table, where its bytes are no text
abbrev pub HasFinding : Input → AnyRefusal → Type 0
HasFinding input (refusal.Bad (Dictionary number (NoSource misfit))) = (text : List ℕ) × Holds input max_text text × IsRefused text (At misfit)
HasFinding input (refusal.Bad (Dictionary number (Wrong found))) = IsSourceText input (plain_source found.source.value)
HasFinding input (refusal.Bad (Dictionary number (NotText at))) = IsNoText input max_text at
HasFinding input (refusal.Bad (Table (table.NotText at))) = IsNoText input max_table at
HasFinding input refused = ⊤
