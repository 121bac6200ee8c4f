-- What `breaking` reports over its inputs.
use Rattle.std.proofs.Common.{◌≡◌, ℕ, List, [], Result, Ok, Err, refl, sym, ap, subst, inl, inr}
use Rattle.std.specs.Prelude.{◌↔◌, IfOk, Option}
use Rattle.std.specs.Io.KnownBytes.{Appends}
use Rattle.std.proofs.KnownBytes.{Appends-nil}
use Rattle.dia_book.specs.Dictionary.{Dictionary}
use Rattle.dia_dict.specs.declared.IndexedBook.{IndexedBook}
use Rattle.dia_io.specs.declared.Exit.TheVariants.{Yes, No, Bad}
use Rattle.dia_io.specs.declared.Input.{Input}
use Rattle.dia_io.specs.declared.Inputs.{Inputs}
use Rattle.dia_io.specs.declared.RunFault.{RunFault}
use Rattle.dia_io.specs.declared.RunFault.TheVariants.{Device, NoMemory}
use Rattle.dia_io.specs.Writing.{AppendsFront}
use Rattle.dia_report.specs.declared.bad_input.BadInput.{BadInput}
use Rattle.dia_report.specs.declared.reporting.BothBooks.{BothBooks}
use Rattle.dia_report.specs.Refusals.{bad_input_text}
use Rattle.dia_run.specs.Outcome.{ended, no_first, no_second}
use Rattle.dia_run.specs.Report.{AreReadFrom}
use Rattle.dia_run.specs.Texts.{line}
use Rattle.dia_upgrades.specs.declared.asked.Asked.{Asked}
use Rattle.dia_upgrades.specs.declared.reporting.BooksAnswer.{BooksAnswer}
use Rattle.dia_upgrades.specs.declared.reporting.Report.TheVariants as reports
use Rattle.dia_upgrades.specs.declared.reporting.Report.{Report}
use Rattle.dia_upgrades.specs.declared.reporting.BreakingAnswer.{BreakingAnswer}
use Rattle.dia_upgrades.specs.Begun.{IsBegun, IsBegunOrWhole, begun, nothing}
use Rattle.dia_upgrades.specs.InWords.{in_words}
use Rattle.dia_upgrades.specs.Outcome.{AreRefused, IsBreakingOutcome, IsListed, IsSafeUpgrade, IsUnsafeUpgrade}
use Rattle.dia_upgrades.specs.Report.{IsRefusedText, IsReport}
use Rattle.dia_upgrades.specs.UnderWay.{Answers, Reports}
use Rattle.dia_upgrades.proofs.Outcomes.{bad_is_refused, no_is_unsafe, yes_is_safe}
use Rattle.dia_upgrades.specs.Writing.{Writing}

-- ---- what is reported

module _ (meaning : IndexedBook → Dictionary) (asked : Asked) (inputs : Inputs) (old new : Option (List ℕ)) where
  module _ (books : BothBooks) (are_read : AreReadFrom meaning inputs books) where
    abbrev a : Dictionary
    a = meaning books.first.value.book

    abbrev b : Dictionary
    b = meaning books.second.value.book

    pub listed_reports : (listed : BooksAnswer) (reported : BreakingAnswer) → reported.exit ≡ listed.exit → reported.report ≡ reports.Read books listed.found → Answers in_words asked inputs.table a b old new (Ok listed)
        → Reports meaning asked inputs old new (Ok reported)
    listed_reports listed reported exit report (text, is, put) = (
      text,
      subst (IsBreakingOutcome asked inputs text) (sym exit) (ended a b are_read.0.1 are_read.1.1 (listed.found, is)),
      subst (λ (r : Report). IsReport meaning asked inputs r text reported.exit) (sym report)
          (subst (IsReport meaning asked inputs (reports.Read books listed.found) text) (sym exit) (are_read, is)),
      put,
    )

    pub fault_reports : (fault : RunFault) → Answers in_words asked inputs.table a b old new (Err fault) → Reports meaning asked inputs old new (Err fault)
    fault_reports Device (text, inl is, front) = (text, inl (begun a b are_read.0.1 are_read.1.1 is), front)
    fault_reports Device (text, inr (exit, is), front) = (text, inr (exit, ended a b are_read.0.1 are_read.1.1 is), front)
    fault_reports NoMemory (text, is, put) = (text, begun a b are_read.0.1 are_read.1.1 is, put)

  refused_so : (recorded : List ℕ) → IsRefusedText inputs recorded → IsBreakingOutcome asked inputs (line recorded) Bad
  refused_so recorded (inl (why, none, e)) = no_first why none (ap line e, refl)
  refused_so recorded (inr (d, is_d, (why, none, e))) = no_second d why is_d none (ap line e, refl)

  pub refusal_reports : (bad : BadInput) (r : Result BreakingAnswer RunFault) → IsRefusedText inputs (bad_input_text bad) → IfOk r (λ reported. Appends old new (line (bad_input_text bad)))
      → IfOk r (λ reported. reported.exit ≡ Bad) → IfOk r (λ reported. reported.report ≡ reports.Refused bad) → (r ≡ Err Device → AppendsFront old new (line (bad_input_text bad)))
      → (r ≡ Err NoMemory → new ≡ old) → Reports meaning asked inputs old new r
  refusal_reports bad (Ok reported) refused put exit report front none = (
    line (bad_input_text bad),
    subst (IsBreakingOutcome asked inputs (line (bad_input_text bad))) (sym exit) (refused_so (bad_input_text bad) refused),
    subst (λ (r : Report). IsReport meaning asked inputs r (line (bad_input_text bad)) reported.exit) (sym report) (refl, exit),
    put,
  )
  refusal_reports bad (Err Device) refused put exit report front none = (line (bad_input_text bad), inr (Bad, refused_so (bad_input_text bad) refused), front refl)
  refusal_reports bad (Err NoMemory) refused put exit report front none = ([], nothing refl, subst (λ (o : Option (List ℕ)). Appends old o []) (sym (none refl)) (Appends-nil old))

  -- ---- what the clauses say

  pub text_of : (r : Result BreakingAnswer RunFault) → Reports meaning asked inputs old new r
      → IfOk r (λ reported. (text : List ℕ) × IsBreakingOutcome asked inputs text reported.exit × IsReport meaning asked inputs reported.report text reported.exit × Appends old new text)
  text_of (Ok reported) has = has
  text_of (Err fault) has = tt

  pub yes_of : (r : Result BreakingAnswer RunFault) → Reports meaning asked inputs old new r → IfOk r (λ reported. reported.exit ≡ Yes → (recorded : List ℕ) × IsSafeUpgrade asked inputs recorded × Appends old new recorded)
  yes_of (Ok reported) (text, outcome, report, put) = λ is_yes. (text, yes_is_safe asked inputs text reported.exit outcome is_yes, put)
  yes_of (Err fault) has = tt

  pub no_of : (r : Result BreakingAnswer RunFault) → Reports meaning asked inputs old new r → IfOk r (λ reported. reported.exit ≡ No → (recorded : List ℕ) × IsUnsafeUpgrade asked inputs recorded × Appends old new recorded)
  no_of (Ok reported) (text, outcome, report, put) = λ is_no. (text, no_is_unsafe asked inputs text reported.exit outcome is_no, put)
  no_of (Err fault) has = tt

  pub bad_of : (r : Result BreakingAnswer RunFault) → Reports meaning asked inputs old new r → IfOk r (λ reported. (reported.exit ≡ Bad) ↔ AreRefused asked inputs)
  bad_of (Ok reported) (text, outcome, report, put) = bad_is_refused asked inputs text reported.exit outcome
  bad_of (Err fault) has = tt

  pub fault_of : (r : Result BreakingAnswer RunFault) (fault : RunFault) → Reports meaning asked inputs old new r → r ≡ Err fault → Reports meaning asked inputs old new (Err fault)
  fault_of r fault has is = subst (Reports meaning asked inputs old new) is has

-- ---- over two dictionaries

module _ (w : Writing) (asked : Asked) (input : Input) (a b : Dictionary) (old new : Option (List ℕ)) where
  pub answer_of : (r : Result BooksAnswer RunFault) → Answers w asked input a b old new r → IfOk r (λ listed. Answers w asked input a b old new (Ok listed))
  answer_of (Ok listed) has = has
  answer_of (Err fault) has = tt

  pub fault_answered : (r : Result BooksAnswer RunFault) (fault : RunFault) → Answers w asked input a b old new r → r ≡ Err fault → Answers w asked input a b old new (Err fault)
  fault_answered r fault has is = subst (Answers w asked input a b old new) is has

  -- from what a call ensures
  pub answers_by : (fault : RunFault) → (fault ≡ Device → (text : List ℕ) × IsBegunOrWhole w asked input a b text × AppendsFront old new text)
      → (fault ≡ NoMemory → (text : List ℕ) × IsBegun w asked input a b text × Appends old new text) → Answers w asked input a b old new (Err fault)
  answers_by Device front none = front refl
  answers_by NoMemory front none = none refl

  pub call_answers : (r : Result BooksAnswer RunFault) → IfOk r (λ listed. (text : List ℕ) × IsListed w asked input a b text listed.exit listed.found × Appends old new text)
      → (r ≡ Err Device → (text : List ℕ) × IsBegunOrWhole w asked input a b text × AppendsFront old new text)
      → (r ≡ Err NoMemory → (text : List ℕ) × IsBegun w asked input a b text × Appends old new text) → Answers w asked input a b old new r
  call_answers (Ok listed) text front none = text
  call_answers (Err Device) text front none = front refl
  call_answers (Err NoMemory) text front none = none refl
