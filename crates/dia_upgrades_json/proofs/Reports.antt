-- What is reported over the inputs.
use Rattle.std.proofs.Common.{◌≡◌, ℕ, List, [], Result, Ok, Err, refl, sym, subst, ◌∙◌, inl, inr}
use Rattle.std.specs.Prelude.{◌↔◌, IfOk, Option}
use Rattle.std.specs.Io.KnownBytes.{Appends}
use Rattle.std.proofs.KnownBytes.{Appends-nil}
use Rattle.dia_book.specs.Dictionary.{Dictionary}
use Rattle.dia_run.specs.RefusedDictionaries.{RefusesFirst, RefusesSecond}
use Rattle.dia_dict.specs.declared.IndexedBook.{IndexedBook}
use Rattle.dia_io.specs.declared.Exit.{Exit}
use Rattle.dia_io.specs.declared.Exit.TheVariants.{Yes, No, Bad}
use Rattle.dia_io.specs.declared.Input.{Input}
use Rattle.dia_io.specs.declared.Inputs.{Inputs}
use Rattle.dia_io.specs.declared.RunFault.{RunFault}
use Rattle.dia_io.specs.declared.RunFault.TheVariants.{Device, NoMemory}
use Rattle.dia_refused_json.specs.Recording.{IsDictionaryRefusal, RefusedDictionaries, RecordsBad}
use Rattle.dia_report.specs.declared.bad_input.BadInput.{BadInput}
use Rattle.dia_report.specs.declared.refusing.Refused.{Refused}
use Rattle.dia_report.specs.declared.refusing.Refused.TheVariants as refusals
use Rattle.dia_report.specs.declared.reporting.BothBooks.{BothBooks}
use Rattle.dia_report.specs.Refusals.{RecordsOf}
use Rattle.dia_run.specs.Outcome.{ended}
use Rattle.dia_run.specs.Report.{AreReadFrom, HasFinding}
use Rattle.dia_upgrades.specs.declared.asked.Asked.{Asked}
use Rattle.dia_upgrades.specs.declared.reporting.BooksAnswer.{BooksAnswer}
use Rattle.dia_upgrades.specs.declared.reporting.Report.TheVariants as reports
use Rattle.dia_upgrades.specs.declared.reporting.Report.{Report}
use Rattle.dia_upgrades.specs.declared.reporting.BreakingAnswer.{BreakingAnswer}
use Rattle.dia_upgrades.specs.declared.reporting.Findings.{Findings}
use Rattle.dia_upgrades.specs.Outcome.{AreRefused, IsListed, IsSafeUpgrade, IsUnsafeUpgrade, bad_first, bad_second}
use Rattle.dia_upgrades.specs.UnderWay.{Answers}
use Rattle.dia_upgrades.specs.Writing.{Writing}
use Rattle.dia_upgrades.proofs.Outcomes.{bad_is_refused, listed_in_words, no_is_unsafe, yes_is_safe}
use Rattle.dia_upgrades_json.specs.Begun.{begun, nothing}
use Rattle.dia_upgrades_json.specs.Objects.{ArePlaced, AreSpelt, json_over, texts_of}
use Rattle.dia_upgrades_json.specs.Outcome.{IsBreakingJson, IsJsonReport, IsListedJson}
use Rattle.dia_upgrades_json.specs.UnderWay.{RefusesFor, Reports}
use Rattle.dia_refused_json.proofs.Recording.{dictionary_refused}

module _ (meaning : IndexedBook → Dictionary) (asked : Asked) (inputs : Inputs) (old new : Option (List ℕ)) where
  -- ---- over dictionaries that were read

  module _ (books : BothBooks) (are_read : AreReadFrom meaning inputs books) (are_placed : ArePlaced inputs books) where
    abbrev a : Dictionary
    a = meaning books.first.value.book

    abbrev b : Dictionary
    b = meaning books.second.value.book

    pub are_spelt : AreSpelt inputs (texts_of inputs books)
    are_spelt = ((books.first.value.source, are_read.0.0, are_placed.0, refl), (books.second.value.source, are_read.1.0, are_placed.1, refl))

    abbrev w : Writing
    w = json_over a b (texts_of inputs books)

    listed_so : (text : List ℕ) (exit : Exit) (is : Findings) → IsListed w asked inputs.table a b text exit is → IsListedJson asked inputs a b text exit is
    listed_so text exit is listed = record { texts = texts_of inputs books; are_spelt = are_spelt; listed = listed }

    pub listed_reports : (listed : BooksAnswer) (reported : BreakingAnswer) → reported.exit ≡ listed.exit → reported.report ≡ reports.Read books listed.found → Answers w asked inputs.table a b old new (Ok listed)
        → Reports meaning asked inputs old new (Ok reported)
    unfolding listed_so
    listed_reports listed reported exit report (text, is, put) = (
      text,
      subst (IsBreakingJson asked inputs text) (sym exit) (inl (a, b, are_read.0.1, are_read.1.1, (listed.found, listed_so text listed.exit listed.found is))),
      subst (λ (r : Report). IsJsonReport meaning asked inputs r text reported.exit) (sym report)
          (subst (IsJsonReport meaning asked inputs (reports.Read books listed.found) text) (sym exit) (are_read, listed_so text listed.exit listed.found is, refl)),
      put,
    )

    pub fault_reports : (fault : RunFault) → Answers w asked inputs.table a b old new (Err fault) → Reports meaning asked inputs old new (Err fault)
    fault_reports Device (text, inl is, front) = (text, inl (begun a b are_read.0.1 are_read.1.1 (texts_of inputs books, are_spelt, is)), front)
    fault_reports Device (text, inr (exit, (found, is)), front) = (text, inr (exit, inl (a, b, are_read.0.1, are_read.1.1, (found, listed_so text exit found is))), front)
    fault_reports NoMemory (text, is, put) = (text, begun a b are_read.0.1 are_read.1.1 (texts_of inputs books, are_spelt, is), put)

  -- ---- where one is refused, of which R tells this as text

  module _ (input : Input) (R : List ℕ → Type 0) (refuses : (text : List ℕ) (exit : Exit) → IsDictionaryRefusal R input text exit → RefusedDictionaries inputs text exit)
      (reports_so : (bad : BadInput) (text : List ℕ) (exit : Exit) → RecordsBad input (refusals.Bad bad) text exit → IsJsonReport meaning asked inputs (reports.Refused bad) text exit) where
    refused_so : (bad : BadInput) → RecordsOf R (refusals.Bad bad) → HasFinding input (refusals.Bad bad) → (text : List ℕ) (exit : Exit) → RecordsBad input (refusals.Bad bad) text exit → IsBreakingJson asked inputs text exit
    refused_so bad recorded kept text exit records = inr (refuses text exit (dictionary_refused R input (refusals.Bad bad) recorded kept text exit records))

    nothing_put : new ≡ old → Reports meaning asked inputs old new (Err NoMemory)
    nothing_put same = ([], nothing refl, subst (λ (o : Option (List ℕ)). Appends old o []) (sym same) (Appends-nil old))

    refusal_reports : (why : Refused) → RecordsOf R why → HasFinding input why → (r : Result BreakingAnswer RunFault) → RefusesFor input why old new r → Reports meaning asked inputs old new r
    refusal_reports (refusals.Bad bad) recorded kept (Ok reported) (report, text, records, put) = (
      text,
      refused_so bad recorded kept text reported.exit records,
      subst (λ (r : Report). IsJsonReport meaning asked inputs r text reported.exit) (sym report) (reports_so bad text reported.exit records),
      put,
    )
    refusal_reports (refusals.Bad bad) recorded kept (Err Device) (text, records, front) = (text, inr (Bad, refused_so bad recorded kept text Bad records), front)
    refusal_reports (refusals.Bad bad) recorded kept (Err NoMemory) same = nothing_put same
    refusal_reports refusals.NoMemory recorded kept r (is, same) = subst (Reports meaning asked inputs old new) (sym is) (nothing_put same)

  pub first_reports : (why : Refused) → RecordsOf (RefusesFirst inputs) why → HasFinding inputs.first why → (r : Result BreakingAnswer RunFault) → RefusesFor inputs.first why old new r → Reports meaning asked inputs old new r
  first_reports why recorded kept r is = refusal_reports inputs.first (RefusesFirst inputs) (λ text exit h. inl h) (λ bad text exit h. inl h) why recorded kept r is

  pub second_reports : (why : Refused) → RecordsOf (RefusesSecond inputs) why → HasFinding inputs.second why → (r : Result BreakingAnswer RunFault) → RefusesFor inputs.second why old new r
      → Reports meaning asked inputs old new r
  second_reports why recorded kept r is = refusal_reports inputs.second (RefusesSecond inputs) (λ text exit h. inr h) (λ bad text exit h. inr h) why recorded kept r is

  -- ---- what the clauses say

  pub text_of : (r : Result BreakingAnswer RunFault) → Reports meaning asked inputs old new r
      → IfOk r (λ reported. (text : List ℕ) × IsBreakingJson asked inputs text reported.exit × IsJsonReport meaning asked inputs reported.report text reported.exit × Appends old new text)
  text_of (Ok reported) has = has
  text_of (Err fault) has = tt

  refusal_is_bad : (text : List ℕ) (exit : Exit) → RefusedDictionaries inputs text exit → exit ≡ Bad
  refusal_is_bad text exit (inl (bad, found, recorded, is_text, is_exit)) = is_exit
  refusal_is_bad text exit (inr (bad, found, recorded, is_text, is_exit)) = is_exit

  refusal_refuses : (text : List ℕ) (exit : Exit) → RefusedDictionaries inputs text exit → AreRefused asked inputs
  refusal_refuses text exit (inl (bad, found, (why, none, e), is_text, is_exit)) = bad_first why none
  refusal_refuses text exit (inr (bad, found, (d, is_d, (why, none, e)), is_text, is_exit)) = bad_second why none

  pub yes_of : (r : Result BreakingAnswer RunFault) → Reports meaning asked inputs old new r → IfOk r (λ reported. reported.exit ≡ Yes → (words : List ℕ) × IsSafeUpgrade asked inputs words)
  yes_of (Ok reported) (text, inl (d, e, is_d, is_e, (is, listed)), report, put) = λ is_yes.
      let (words, in_words) = listed_in_words (json_over d e listed.texts) asked inputs.table d e text reported.exit is listed.listed in
      (words, yes_is_safe asked inputs words reported.exit (ended d e is_d is_e (is, in_words)) is_yes)
  yes_of (Ok reported) (text, inr refused, report, put) = λ is_yes. absurd (let e : Bad ≡ Yes = sym (refusal_is_bad text reported.exit refused) ∙ is_yes in cc)
  yes_of (Err fault) has = tt

  pub no_of : (r : Result BreakingAnswer RunFault) → Reports meaning asked inputs old new r → IfOk r (λ reported. reported.exit ≡ No → (words : List ℕ) × IsUnsafeUpgrade asked inputs words)
  no_of (Ok reported) (text, inl (d, e, is_d, is_e, (is, listed)), report, put) = λ is_no.
      let (words, in_words) = listed_in_words (json_over d e listed.texts) asked inputs.table d e text reported.exit is listed.listed in
      (words, no_is_unsafe asked inputs words reported.exit (ended d e is_d is_e (is, in_words)) is_no)
  no_of (Ok reported) (text, inr refused, report, put) = λ is_no. absurd (let e : Bad ≡ No = sym (refusal_is_bad text reported.exit refused) ∙ is_no in cc)
  no_of (Err fault) has = tt

  pub bad_of : (r : Result BreakingAnswer RunFault) → Reports meaning asked inputs old new r → IfOk r (λ reported. (reported.exit ≡ Bad) ↔ AreRefused asked inputs)
  bad_of (Ok reported) (text, inl (d, e, is_d, is_e, (is, listed)), report, put) =
      let (words, in_words) = listed_in_words (json_over d e listed.texts) asked inputs.table d e text reported.exit is listed.listed in
      bad_is_refused asked inputs words reported.exit (ended d e is_d is_e (is, in_words))
  bad_of (Ok reported) (text, inr refused, report, put) = (λ is_bad. refusal_refuses text reported.exit refused, λ are. refusal_is_bad text reported.exit refused)
  bad_of (Err fault) has = tt

  pub fault_of : (r : Result BreakingAnswer RunFault) (fault : RunFault) → Reports meaning asked inputs old new r → r ≡ Err fault → Reports meaning asked inputs old new (Err fault)
  fault_of r fault has is = subst (Reports meaning asked inputs old new) is has
