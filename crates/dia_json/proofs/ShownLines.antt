-- The objects of lines, from their parts.
use Rattle.std.proofs.Common.{◌≡◌, ◌≢◌, ℕ, suc, ◌<◌, Bool, List, [], ◌∷◌, ◌++◌, Option, Result, Ok, Err, codes, length, take, get_or, append_assoc, refl, sym, ap, subst, ◌∙◌, inl, inr}
use Rattle.std.specs.Prelude.{IfOk, ◌==◌, string_bytes}
use Rattle.std.specs.Fmt.{decimal}
use Rattle.std.specs.Io.KnownBytes.{Appends}
use Rattle.std.specs.List.{after_first, flat_map}
use Rattle.std.proofs.KnownBytes.{Consumes-nil}
use Rattle.std.proofs.Math.Seq.{take-suc}
use Rattle.std.proofs.lemmas.Grind.{flat_map-append}
use Rattle.std.proofs.lemmas.List.{append-nil}
use Rattle.std.proofs.lemmas.List.Concat.{flat_map-cons}
use Rattle.dia_dict.specs.Dictionary.{Dictionary}
use Rattle.dia_io.specs.declared.Exit.{Exit}
use Rattle.dia_io.specs.declared.Exit.TheVariants.{Bad}
use Rattle.dia_io.specs.declared.Input.{Input}
use Rattle.dia_io.specs.declared.Input.TheVariants.{TooLong}
use Rattle.dia_io.specs.declared.Inputs.{Inputs}
use Rattle.dia_io.specs.Writing.{AppendsFront}
use Rattle.dia_streams.specs.FeedToSink.{FrontAnswered, LinesAnswered}
use Rattle.dia_streams.specs.Lines.{recorded_lines}
use Rattle.dia_report.specs.declared.bad_input.BadInput.{BadInput}
use Rattle.dia_report.specs.declared.refusing.Refused.{Refused}
use Rattle.dia_report.specs.declared.refusing.Refused.TheVariants as refused
use Rattle.dia_report.specs.declared.reporting.Answered.{Answered}
use Rattle.dia_report.specs.declared.reporting.Report.{Report}
use Rattle.dia_report.specs.declared.reporting.Report.TheVariants as reports
use Rattle.dia_report.specs.Refusals.{RecordsOf}
use Rattle.dia_run.specs.declared.commands.Outcome.{Outcome}
use Rattle.dia_run.specs.Listing.{IsPlainRow}
use Rattle.dia_run.specs.Outcome.{Ends, IsWritten}
use Rattle.dia_run.specs.RefusedDictionaries.{RefusesFirst}
use Rattle.dia_run.specs.Report.{HasFinding}
use Rattle.dia_run.specs.Texts.{IsDictionaryText, IsMessageText, IsNoMessageText}
use Rattle.dia_run.proofs.OutcomeParts.{refused_as}
use Rattle.dia_refused_json.specs.Recording.{RecordsBad}
use Rattle.dia_refused_json.proofs.Recording.{dictionary_refused, input_refused, refusal_reported}
use Rattle.dia_show.specs.declared.manner.Manner.{Manner as AnyManner}
use Rattle.dia_show.specs.declared.reporting.Answered.{Answered as Shown}
use Rattle.dia_show.specs.declared.reporting.Report.{Report as ShownReport}
use Rattle.dia_show.specs.declared.reading.BadValues.{BadValues}
use Rattle.dia_show.specs.declared.reporting.Report.TheVariants.{OfShow, NoValues}
use Rattle.dia_show.specs.declared.reporting.Reported.{Reported}
use Rattle.dia_show.specs.Lines.{AreOutcomesListed}
use Rattle.dia_show.specs.Listing.{Manner}
use Rattle.dia_show.specs.Manners.{plain_manner_of}
use Rattle.dia_show.specs.Words.{IsNoValuesText, IsValuesText, plain_words}
use Rattle.dia_json.specs.Whole.{RecordsValues}
use Rattle.dia_json.specs.Messages.{IsObjectRow}
use Rattle.dia_json.specs.ShownLines.{HasLinesReport, IsLinesReport, IsLineShown, OfLine, RefusesInputs, RefusesMessage, ShowsFront, ShowsLines, ShowsWhole, WithInputs, numbered_row, recorded}
use Rattle.dia_json.proofs.ManyMessages.{ends_badly}

-- ---- a line

-- the object of a message that is refused
pub line_refused : (m : Manner) (d : Dictionary) (message : Input) (r : Refused) → RecordsOf (RefusesMessage d message) r → (text : List ℕ) (exit : Exit) → RecordsBad TooLong r text exit
    → IsLineShown m d message text exit
line_refused m d message r records text exit is = inr (input_refused (RefusesMessage d message) TooLong r records text exit is)

-- the line spells no message
pub no_message : (d : Dictionary) (message : Input) (r : Refused) → RecordsOf (IsNoMessageText message) r → RecordsOf (RefusesMessage d message) r
no_message d message (refused.Bad bad) h = inr h
no_message d message refused.NoMemory h = tt

-- what it spells is no message
pub bad_message : (m : Manner) (d : Dictionary) (message : Input) (bytes : List ℕ) (r : Refused) → IsMessageText message bytes → Ends (IsWritten (IsObjectRow m) d bytes) (Err r)
    → RecordsOf (RefusesMessage d message) r
bad_message m d message bytes (refused.Bad bad) is h = inl (bytes, is, refused_as (IsObjectRow m) IsPlainRow d bytes _ h)
bad_message m d message bytes refused.NoMemory is h = tt

-- ---- the number of a line

numbered_parts : (n : ℕ) (old members : List ℕ) → old ++ (codes "{\"line\":" ++ (decimal n ++ (codes "," ++ (members ++ codes "\n"))))
    ≡ old ++ ((codes "{\"line\":" ++ decimal n ++ codes "," ++ members) ++ codes "\n")
numbered_parts n old members = simp append_assoc

pub row_recorded : (n : ℕ) (row members old new : List ℕ) → members ≡ after_first (λ c. c == 123) row
    → new ≡ old ++ (codes "{\"line\":" ++ (decimal n ++ (codes "," ++ (members ++ codes "\n")))) → new ≡ old ++ numbered_row n row
row_recorded n row members old new is_members is =
    is ∙ numbered_parts n old members ∙ ap (λ (t : List ℕ). old ++ ((codes "{\"line\":" ++ decimal n ++ codes "," ++ t) ++ codes "\n")) is_members

-- one more row
pub row_added : (f : List ℕ → List ℕ) (rows : List (List ℕ)) (k m : ℕ) (row old begun new : List ℕ) → k < length rows → row ≡ get_or rows k row → m ≡ suc k
    → begun ≡ old ++ flat_map f (take k rows) → new ≡ begun ++ f row → new ≡ old ++ flat_map f (take m rows)
row_added f rows k m row old begun new within is_row next is_begun is_new =
    is_new ∙ ap (λ (t : List ℕ). t ++ f row) is_begun ∙ append_assoc old (flat_map f (take k rows)) (f row)
    ∙ ap (λ (t : List ℕ). old ++ (flat_map f (take k rows) ++ t)) (sym (flat_map-cons f row [] ∙ append-nil (f row)))
    ∙ ap (λ (t : List ℕ). old ++ t) (sym (flat_map-append f (take k rows) (row ∷ [])))
    ∙ ap (λ (r : List ℕ). old ++ flat_map f (take k rows ++ r ∷ [])) is_row
    ∙ ap (λ (rs : List (List ℕ)). old ++ flat_map f rs) (sym (take-suc rows k row within))
    ∙ ap (λ (n : ℕ). old ++ flat_map f (take n rows)) (sym next)

-- ---- with inputs that were read

module _ (names : Bool) (m : AnyManner) (inputs : Inputs) (d : Dictionary) (is_d : IsDictionaryText inputs.first d) (are_words : IsValuesText inputs.table (plain_words m.words))
    (is_names : m.names ≡ names) where
  with_inputs : (P : Manner → Dictionary → Type 0) → P (plain_manner_of m) d → WithInputs names inputs P
  with_inputs P h = (d, plain_words m.words, is_d, are_words, subst (λ (n : Bool). P (record { words = plain_words m.words; names = n }) d) is_names h)

  module _ (fed_old fed put_old put : Option (List ℕ)) where
    pub lines_shown : (exit : Exit) → AreOutcomesListed (OfLine (plain_manner_of m) d) recorded fed_old fed put_old put exit → ShowsLines names inputs fed_old fed put_old put exit
    lines_shown exit h = inl (with_inputs (λ m d. AreOutcomesListed (OfLine m d) recorded fed_old fed put_old put exit) h)

    pub front_shown : FrontAnswered (OfLine (plain_manner_of m) d) (recorded_lines recorded) fed_old fed put_old put → ShowsFront names inputs fed_old fed put_old put
    front_shown h = inl (with_inputs (λ m d. FrontAnswered (OfLine m d) (recorded_lines recorded) fed_old fed put_old put) h)

    pub whole_shown : LinesAnswered (OfLine (plain_manner_of m) d) (recorded_lines recorded) fed_old fed put_old put → ShowsWhole names inputs fed_old fed put_old put
    whole_shown h = inl (with_inputs (λ m d. LinesAnswered (OfLine m d) (recorded_lines recorded) fed_old fed put_old put) h)

-- the report of lines
pub lines_reported : {E : Type 0} (inputs : Inputs) (P : Input → Outcome → Type 0) (fed_old fed old new : Option (List ℕ)) (r : Result Reported E)
    → IfOk r (λ x. AreOutcomesListed P recorded fed_old fed old new x.exit) → IfOk r (λ x. x.exit ≢ Bad) → IfOk r (λ x. x.report ≡ OfShow reports.Done)
    → IfOk r (HasLinesReport inputs old new)
lines_reported inputs P fed_old fed old new (Ok x) listed some is =
    let text = recorded_lines recorded listed.verdicts in
    (text, subst (λ (k : ShownReport). IsLinesReport inputs k text x.exit) (sym is) (refl, some), listed.is_put)
lines_reported inputs P fed_old fed old new (Err e) listed some is = tt

-- ---- with an input that is refused

-- a dictionary
pub opening_refused : (inputs : Inputs) (why : Refused) (a : Answered) (s : Shown) → RecordsOf (RefusesFirst inputs) why → HasFinding inputs.first why
    → s.report ≡ OfShow a.report → s.text ≡ a.text → s.exit ≡ a.exit → RecordsBad inputs.first why (string_bytes a.text) a.exit
    → ((bad : BadInput) → why ≡ refused.Bad bad → a.report ≡ reports.Refused bad)
    → IsLinesReport inputs s.report (string_bytes s.text) s.exit × RefusesInputs inputs (string_bytes s.text) s.exit × (s.exit ≡ Bad)
opening_refused inputs why a s records kept report text exit is reported = rw (report, text, exit) (
  refusal_reported {E = ℕ} (λ (report : Report) text exit. (report ≡ reports.Done) × (exit ≢ Bad)) inputs.first why (Ok a) is reported,
  inl (dictionary_refused (RefusesFirst inputs) inputs.first why records kept (string_bytes a.text) a.exit is),
  ends_badly inputs.first why (string_bytes a.text) a.exit is,
)

-- the words of values, after a dictionary that was read
pub values_refused : (inputs : Inputs) (d : Dictionary) (bad : BadValues) (s : Shown) → IsDictionaryText inputs.first d → IsNoValuesText inputs.table bad → s.report ≡ NoValues bad
    → RecordsValues bad (string_bytes s.text) s.exit → IsLinesReport inputs s.report (string_bytes s.text) s.exit × RefusesInputs inputs (string_bytes s.text) s.exit × (s.exit ≡ Bad)
values_refused inputs d bad s is_d none report records = (
  subst (λ (k : ShownReport). IsLinesReport inputs k (string_bytes s.text) s.exit) (sym report) (none, records),
  inr (d, bad, is_d, none, records),
  records.1,
)

-- its object was put
pub refusal_shown : {E : Type 0} (names : Bool) (inputs : Inputs) (fed old new : Option (List ℕ)) (text : List ℕ) (ended : Exit) → RefusesInputs inputs text ended → (r : Result Reported E)
    → IfOk r (λ x. x.exit ≡ ended) → IfOk r (λ x. Appends old new text) → IfOk r (λ x. ShowsLines names inputs fed fed old new x.exit)
refusal_shown names inputs fed old new text ended refuses (Ok x) same put = inr (text, subst (RefusesInputs inputs text) (sym same) refuses, Consumes-nil fed, put)
refusal_shown names inputs fed old new text ended refuses (Err e) same put = tt

pub refusal_front : (names : Bool) (inputs : Inputs) (fed old new : Option (List ℕ)) (text : List ℕ) (ended : Exit) → RefusesInputs inputs text ended → ended ≡ Bad → AppendsFront old new text
    → ShowsFront names inputs fed fed old new
refusal_front names inputs fed old new text ended refuses is_bad put = inr (inl (text, subst (RefusesInputs inputs text) is_bad refuses, Consumes-nil fed, put))

pub refusal_recorded : {E : Type 0} (inputs : Inputs) (old new : Option (List ℕ)) (a : Shown) (r : Result Reported E) → IsLinesReport inputs a.report (string_bytes a.text) a.exit
    → IfOk r (λ x. x.report ≡ a.report) → IfOk r (λ x. x.exit ≡ a.exit) → IfOk r (λ x. Appends old new (string_bytes a.text)) → IfOk r (HasLinesReport inputs old new)
refusal_recorded inputs old new a (Ok x) recorded report exit put = (string_bytes a.text, rw (report, exit) recorded, put)
refusal_recorded inputs old new a (Err e) recorded report exit put = tt
