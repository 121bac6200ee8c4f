-- The lines of a text, each of which is shown.
use Rattle.std.proofs.Common.{◌≡◌, ◌≢◌, ◌&&◌, ℕ, suc, Bool, List, [], ◌∷◌, ◌++◌, Option, Result, Ok, Err, map, refl, sym, ap, subst, ◌∙◌, inl, inr}
use Rattle.std.specs.Prelude.{IfOk, if◌then◌else◌, string_bytes}
use Rattle.std.specs.Io.KnownBytes.{Appends}
use Rattle.std.specs.Str.{IsUtf8}
use Rattle.std.proofs.KnownBytes.{Appends-nil, Consumes-nil}
use Rattle.std.proofs.lemmas.List.{map-append}
use Rattle.std.proofs.lemmas.List.Folds.{list_all-append}
use Rattle.dia_dict.specs.Dictionary.{Dictionary}
use Rattle.dia_io.specs.declared.Exit.{Exit}
use Rattle.dia_io.specs.declared.Exit.TheVariants as exits
use Rattle.dia_io.specs.declared.Input.{Input}
use Rattle.dia_io.specs.declared.Inputs.{Inputs}
use Rattle.dia_io.specs.Writing.{AppendsFront}
use Rattle.dia_streams.specs.FeedToSink.{AllAnswered, FrontAnswered, LinesAnswered}
use Rattle.dia_streams.specs.Lines.{line_number, recorded_from, recorded_lines}
use Rattle.dia_streams.specs.Lines as lines
use Rattle.dia_streams.proofs.OtherAnswers.{IsAnswered-map, FrontAnswered-map, LinesAnswered-map}
use Rattle.dia_report.specs.declared.refusing.Refused.{Refused}
use Rattle.dia_report.specs.declared.refusing.Refused.TheVariants.{Bad, NoMemory}
use Rattle.dia_report.specs.Refusals.{RecordsOf, bad_input_text}
use Rattle.dia_run.specs.declared.commands.Outcome.{Outcome}
use Rattle.dia_run.specs.Outcome.{Ends, Refuses}
use Rattle.dia_run.specs.Texts.{IsDictionaryText, IsMessageText, IsNoMessageText}
use Rattle.dia_run.proofs.OneInput.{dictionary_or_not, held_once, not_over}
use Rattle.dia_show.specs.declared.reading.BadValues.{BadValues}
use Rattle.dia_show.specs.declared.reading.BadValues.TheVariants as bads
use Rattle.dia_report.specs.declared.reporting.Report.TheVariants as reports
use Rattle.dia_show.specs.declared.reporting.Answered.{Answered}
use Rattle.dia_show.specs.declared.reporting.Report.{Report}
use Rattle.dia_show.specs.declared.reporting.Report.TheVariants.{OfShow}
use Rattle.dia_show.specs.declared.reporting.Reported.{Reported}
use Rattle.dia_show.specs.Report.{HasLinesReport, IsRecordedOfLines}
use Rattle.dia_show.specs.Lines.{Answer, AreLinesShown, AreOutcomesListed, IsFrontShown, IsLineShown, OfLine, RefusesInputs, answer_of, each_whole, is_yes, numbered, refused, shown as all_lines}
use Rattle.dia_show.specs.Listing.{Manner}
use Rattle.dia_show.specs.Outcome.{IsShown, shown, no_message}
use Rattle.dia_show.specs.Words.{IsNoValuesText, IsValuesText, Word, max_values, values_fault}

-- ---- one line

-- a line that spells no message
pub line_refused : (m : Manner) (d : Dictionary) (message : Input) (r : Refused) → RecordsOf (IsNoMessageText message) r → Ends (λ text exit. IsLineShown m d message (text, exit)) (Err r)
line_refused m d message (Bad bad) none = inr (bad_input_text bad, none, (refl, refl))
line_refused m d message NoMemory none = tt

-- the message of a line
pub line_ended : (m : Manner) (d : Dictionary) (message : Input) (bytes : List ℕ) (r : Result Outcome Refused) → IsMessageText message bytes → Ends (IsShown m d bytes) r
    → Ends (λ text exit. IsLineShown m d message (text, exit)) r
line_ended m d message bytes (Ok outcome) is h = inl (bytes, is, h)
line_ended m d message bytes (Err (Bad bad)) is h = inl (bytes, is, h)
line_ended m d message bytes (Err NoMemory) is h = tt

-- ---- how lines ended

one_whole : (text : List ℕ) (exit : Exit) → each_whole ((text, exit) ∷ []) ≡ is_yes exit
one_whole text exits.Yes = refl
one_whole text exits.No = refl
one_whole text exits.Bad = refl

-- one more line
pub one_line_more : (old new : Bool) (before : List Outcome) (verdict : Outcome) → old ≡ each_whole (map answer_of before) → new ≡ (old && is_yes verdict.exit)
    → new ≡ each_whole (map answer_of (before ++ verdict ∷ []))
one_line_more old new before verdict h is =
    is ∙ ap (λ (b : Bool). b && is_yes verdict.exit) h ∙ ap (λ (b : Bool). each_whole (map answer_of before) && b) (sym (one_whole (string_bytes verdict.text) verdict.exit))
    ∙ sym (list_all-append (λ (a : Answer). is_yes a.1) (map answer_of before) (answer_of verdict ∷ [])) ∙ ap each_whole (sym (map-append answer_of before (verdict ∷ [])))

-- ---- what was put

-- the outcomes of all lines
pub all_listed : {W : Type 0} (P : Input → Outcome → Type 0) (recorded : ℕ → Outcome → List ℕ) (saw : W → List Outcome → Type 0) (fed_old fed put_old put : Option (List ℕ)) (w x : W)
    → AllAnswered P (recorded_lines recorded) saw fed_old fed put_old put w x → (each : Bool) (exit : Exit)
    → exit ≡ (if each then exits.Yes else exits.No) → saw w [] → ((verdicts : List Outcome) → saw x verdicts → each ≡ each_whole (map answer_of verdicts))
    → AreOutcomesListed P recorded fed_old fed put_old put exit
all_listed P recorded saw fed_old fed put_old put w x h each exit is nothing ends = record {
  bytes = h.bytes;
  verdicts = h.verdicts;
  consumed = h.consumed;
  answered = h.answered;
  is_put = h.is_put;
  is_exit = is ∙ ap (λ (b : Bool). if b then exits.Yes else exits.No) (ends h.verdicts (h.seen [] nothing));
}

-- ---- of inputs that were read

pub values_or_not : (input : Input) (words : List Word) (bad : BadValues) → IsValuesText input words → IsNoValuesText input bad → ⊥
values_or_not input words bads.TooLong (text, held, utf8, fine, is) over = not_over input max_values text held over
values_or_not input words (bads.NotText at) (text, held, utf8, fine, is) (other, held', lacks, there) = lacks (subst IsUtf8 (held_once input max_values text other held held') utf8)
values_or_not input words (bads.Syntax n) (text, held, utf8, fine, is) (other, held', utf8', wrong) =
    let none = sym fine ∙ ap values_fault (held_once input max_values text other held held') ∙ wrong in absurd cc
values_or_not input words (bads.Duplicate n) (text, held, utf8, fine, is) (other, held', utf8', wrong) =
    let none = sym fine ∙ ap values_fault (held_once input max_values text other held held') ∙ wrong in absurd cc
values_or_not input words (bads.Limit n) (text, held, utf8, fine, is) (other, held', utf8', wrong) =
    let none = sym fine ∙ ap values_fault (held_once input max_values text other held held') ∙ wrong in absurd cc

module _ (names : Bool) (inputs : Inputs) (m : Manner) (d : Dictionary) (is_d : IsDictionaryText inputs.first d) (are_words : IsValuesText inputs.table m.words) (is_names : m.names ≡ names) where
  occurs : (recorded : List ℕ) → ¬ RefusesInputs inputs recorded
  occurs recorded (inl (why, none, is)) = dictionary_or_not inputs.first d why is_d none
  occurs recorded (inr (e, bad, is_e, none, is)) = values_or_not inputs.table m.words bad are_words none

  of_line : (message : Input) (answer : Answer) → IsLineShown m d message answer → OfLine names inputs message answer
  of_line message answer (inl (bytes, is, h)) =
      shown d m.words bytes is_d are_words is (subst (λ (n : Bool). IsShown (record { words = m.words; names = n }) d bytes answer.0 answer.1) is_names h)
  of_line message answer (inr (recorded, none, refuses)) = no_message d m.words recorded is_d are_words none refuses

  abbrev Says : Input → Outcome → Type 0
  Says message verdict = IsLineShown m d message (answer_of verdict)

  abbrev recorded : ℕ → Outcome → List ℕ
  recorded n verdict = numbered n (answer_of verdict)

  same_from : (n : ℕ) (verdicts : List Outcome) → recorded_from recorded n verdicts ≡ recorded_from numbered n (map answer_of verdicts)
  same_from n [] = refl
  same_from n (v ∷ vs) = ap (λ (t : List ℕ). numbered (line_number n) (answer_of v) ++ t) (same_from (suc n) vs)

  same : (verdicts : List Outcome) → recorded_lines recorded verdicts ≡ recorded_lines numbered (map answer_of verdicts)
  same verdicts = same_from 1 verdicts

  module _ (fed_old fed put_old put : Option (List ℕ)) where
    pub all_shown : (exit : Exit) → AreOutcomesListed Says recorded fed_old fed put_old put exit → AreLinesShown names inputs fed_old fed put_old put exit
    all_shown exit h = record {
      bytes = h.bytes;
      text = recorded_lines recorded h.verdicts;
      consumed = h.consumed;
      outcome = all_lines (map answer_of h.verdicts) occurs
          (IsAnswered-map Says (OfLine names inputs) answer_of (λ message verdict says. of_line message (answer_of verdict) says) h.bytes h.verdicts h.answered) (same h.verdicts) h.is_exit;
      is_put = h.is_put;
    }

    pub front_shown : FrontAnswered Says (recorded_lines recorded) fed_old fed put_old put → IsFrontShown names inputs fed_old fed put_old put
    front_shown h =
        inl (FrontAnswered-map Says (OfLine names inputs) answer_of (λ message verdict says. of_line message (answer_of verdict) says) (recorded_lines recorded) (recorded_lines numbered) same fed_old fed put_old put h)

    pub lines_shown : LinesAnswered Says (recorded_lines recorded) fed_old fed put_old put → LinesAnswered (OfLine names inputs) (recorded_lines numbered) fed_old fed put_old put
    lines_shown h =
        LinesAnswered-map Says (OfLine names inputs) answer_of (λ message verdict says. of_line message (answer_of verdict) says) (recorded_lines recorded) (recorded_lines numbered) same fed_old fed put_old put h

-- ---- of inputs that are refused

module _ (names : Bool) (inputs : Inputs) (fed old new : Option (List ℕ)) where
  pub refused_shown : (text : List ℕ) (ended exit : Exit) → (recorded : List ℕ) × RefusesInputs inputs recorded × Refuses recorded text ended → exit ≡ ended → Appends old new text
      → AreLinesShown names inputs fed fed old new exit
  refused_shown text ended exit (recorded, refuses, is) same is_put = record {
    bytes = [];
    text = text;
    consumed = Consumes-nil fed;
    outcome = refused recorded refuses (is.0, same ∙ is.1);
    is_put = is_put;
  }

  pub refused_front : (text : List ℕ) (ended : Exit) → (recorded : List ℕ) × RefusesInputs inputs recorded × Refuses recorded text ended → AppendsFront old new text → IsFrontShown names inputs fed fed old new
  refused_front text ended (recorded, refuses, is) is_put = inr (recorded, refuses, Consumes-nil fed, subst (AppendsFront old new) is.0 is_put)

-- the line of an input that is refused was put
pub refusal_shown : {E : Type 0} (names : Bool) (inputs : Inputs) (fed old new : Option (List ℕ)) (text : List ℕ) (ended : Exit) (r : Result Reported E)
    → (recorded : List ℕ) × RefusesInputs inputs recorded × Refuses recorded text ended → IfOk r (λ x. x.exit ≡ ended) → IfOk r (λ x. Appends old new text)
    → IfOk r (λ x. AreLinesShown names inputs fed fed old new x.exit)
refusal_shown names inputs fed old new text ended (Ok x) refuses same is_put = refused_shown names inputs fed old new text ended x.exit refuses same is_put
refusal_shown names inputs fed old new text ended (Err e) refuses same is_put = tt

-- what is told of lines that were listed
pub lines_reported : {E : Type 0} (inputs : Inputs) (P : Input → Outcome → Type 0) (recorded : ℕ → Outcome → List ℕ) (fed_old fed old new : Option (List ℕ)) (r : Result Reported E)
    → IfOk r (λ x. AreOutcomesListed P recorded fed_old fed old new x.exit) → IfOk r (λ x. x.exit ≢ exits.Bad) → IfOk r (λ x. x.report ≡ OfShow reports.Done)
    → IfOk r (HasLinesReport inputs old new)
lines_reported inputs P recorded fed_old fed old new (Ok x) listed some is =
    let text = recorded_lines recorded listed.verdicts in
    (text, subst (λ (k : Report). IsRecordedOfLines inputs k text x.exit) (sym is) some, listed.is_put)
lines_reported inputs P recorded fed_old fed old new (Err e) listed some is = tt

-- what is told of an input that is refused
pub refusal_reported : {E : Type 0} (inputs : Inputs) (old new : Option (List ℕ)) (a : Answered) (r : Result Reported E)
    → IsRecordedOfLines inputs a.report (string_bytes a.text) a.exit → IfOk r (λ x. x.report ≡ a.report) → IfOk r (λ x. x.exit ≡ a.exit)
    → IfOk r (λ x. Appends old new (string_bytes a.text)) → IfOk r (HasLinesReport inputs old new)
refusal_reported inputs old new a (Ok x) recorded report exit is_put = (string_bytes a.text, rw (report, exit) recorded, is_put)
refusal_reported inputs old new a (Err e) recorded report exit is_put = tt

-- no memory for the inputs
pub no_lines : (names : Bool) (inputs : Inputs) (fed put : Option (List ℕ)) → LinesAnswered (OfLine names inputs) (recorded_lines numbered) fed fed put put
no_lines names inputs fed put = record {
  lines = [];
  rest = [];
  verdicts = [];
  consumed = Consumes-nil fed;
  answered = lines.none;
  is_put = Appends-nil put;
}

pub no_front : (names : Bool) (inputs : Inputs) (fed put : Option (List ℕ)) → IsFrontShown names inputs fed fed put put
no_front names inputs fed put = inl (record {
  front = [];
  rest = [];
  verdicts = [];
  consumed = Consumes-nil fed;
  answered = inl lines.none;
  is_put = ([], [], refl, Appends-nil put);
})
