-- The lines of a text, each of which is answered, and their summary.
use Rattle.std.proofs.Common.{◌≡◌, ℕ, ◌+◌, Bool, true, false, List, [], ◌∷◌, ◌++◌, length, map, Option, Some, Result, Ok, Err, refl, sym, ap, ap₂, subst, ◌∙◌, inl, inr, arith}
use Rattle.std.specs.Prelude.{IfOk, if◌then◌else◌, string_bytes}
use Rattle.std.specs.List.{count_by, flat_map}
use Rattle.std.specs.Io.KnownBytes.{Appends}
use Rattle.std.specs.declared.alloc.AllocError.{AllocError}
use Rattle.std.proofs.lemmas.List.{length-append, length-map, map-append}
use Rattle.std.proofs.lemmas.List.Sums.{sum_by-append}
use Rattle.dia_io.specs.declared.Exit.{Exit}
use Rattle.dia_io.specs.declared.Exit.TheVariants as exits
use Rattle.dia_io.specs.declared.Input.{Input}
use Rattle.dia_io.specs.declared.Inputs.{Inputs}
use Rattle.dia_dict.specs.Dictionary.{Dictionary}
use Rattle.dia_terms.specs.declared.Unknown.{Unknown}
use Rattle.dia_terms.specs.declared.Levels.{Levels}
use Rattle.dia_report.specs.declared.Refused.TheVariants.{Bad}
use Rattle.dia_report.specs.declared.BadInput.{BadInput}
use Rattle.dia_report.specs.Refusals.{RecordsOf, bad_input_text}
use Rattle.dia_run.specs.declared.commands.Outcome.{Outcome}
use Rattle.dia_run.specs.Outcome.{IsMessageOutcome, ended, no_message}
use Rattle.dia_run.specs.Texts.{line, IsDictionaryText, IsMessageText, IsNoMessageText}
use Rattle.dia_streams.specs.FeedToSink.{AllAnswered}
use Rattle.dia_streams.specs.Lines.{recorded_lines}
use Rattle.dia_streams.proofs.LineNumbers.{without_numbers}
use Rattle.dia_streams.proofs.OtherAnswers.{IsAnswered-map, same_text}
use Rattle.dia_captures.specs.Counts.{counted}
use Rattle.dia_captures.specs.Ending.{ended_with, is_yes}
use Rattle.dia_captures.specs.Lines.{Answer, OfLine, text_of}
use Rattle.dia_captures.specs.Summaries.{IsMade}
use Rattle.dia_captures.proofs.Counting.{counted_more}
use Rattle.dia_captures.proofs.Endings.{ended_one_verdict_more}
use Rattle.dia_captures.proofs.LinesOfMessages.{same_exits}
use Rattle.dia_captures.proofs.Summed.{made_as}
use Rattle.dia_answer.specs.declared.command.Answered.{Answered}
use Rattle.dia_answer.specs.declared.lines.Replies.{Replies}
use Rattle.dia_answer.specs.Lines.{AreLinesCounted, HasSeen, IsLineAnswered, IsReplySummary, answer_of, exit_of, replies, replies_line}
use Rattle.dia_answer.specs.Outcome.{IsAnswerText}

-- ---- one input

-- it spells a message
pub message_answered : {E : Type 0} (host realm : List ℕ) (u : Unknown) (most : Levels) (d : Dictionary) (message : Input) (bytes : List ℕ) (r : Result Answered E) → IsMessageText message bytes
    → IfOk r (λ a. IsAnswerText host realm u most d bytes (string_bytes a.text) a.exit) → IfOk r (λ a. IsLineAnswered host realm u most d message (string_bytes a.text, a.exit))
message_answered host realm u most d message bytes (Ok a) is h = inl (bytes, is, h)
message_answered host realm u most d message bytes (Err e) is h = tt

-- or none
pub message_refused : {E : Type 0} (host realm : List ℕ) (u : Unknown) (most : Levels) (d : Dictionary) (message : Input) (why : BadInput) (r : Result Answered E)
    → RecordsOf (IsNoMessageText message) (Bad why) → IfOk r (λ a. string_bytes a.text ≡ line (bad_input_text why)) → IfOk r (λ a. a.exit ≡ exits.Bad)
    → IfOk r (λ a. IsLineAnswered host realm u most d message (string_bytes a.text, a.exit))
message_refused host realm u most d message why (Ok a) lacks text exit = inr (bad_input_text why, lacks, (text, exit))
message_refused host realm u most d message why (Err e) lacks text exit = tt

module _ (host realm : List ℕ) (u : Unknown) (most : Levels) (inputs : Inputs) (d : Dictionary) (is_d : IsDictionaryText inputs.first d) where
  -- what is written of a line is what `answer` writes for it
  pub of_line : (message : Input) (answer : Answer) → IsLineAnswered host realm u most d message answer → OfLine (replies host realm u most) inputs message answer
  of_line message answer (inl (bytes, is, h)) = ended d bytes is_d is h
  of_line message answer (inr (recorded, none, refuses)) = no_message d recorded is_d none refuses

  pub of_outcome : (message : Input) (outcome : Outcome) → IsLineAnswered host realm u most d message (answer_of outcome) → OfLine (replies host realm u most) inputs message (string_bytes outcome.text, exit_of outcome)
  of_outcome message outcome h = of_line message (answer_of outcome) h

  pub of_message : {E : Type 0} (r : Result Answered E) → IfOk r (λ a. IsLineAnswered host realm u most d inputs.message (string_bytes a.text, a.exit))
      → IfOk r (λ a. IsMessageOutcome (IsAnswerText host realm u most) inputs (string_bytes a.text) a.exit)
  of_message (Ok a) h = of_line inputs.message (string_bytes a.text, a.exit) h
  of_message (Err e) h = tt

  abbrev Says : Input → Outcome → Type 0
  Says message outcome = IsLineAnswered host realm u most d message (answer_of outcome)

  abbrev bytes_of : Outcome → List ℕ
  bytes_of outcome = string_bytes outcome.text

  same : (outcomes : List Outcome) → recorded_lines (λ number outcome. bytes_of outcome) outcomes ≡ flat_map text_of (map answer_of outcomes)
  same outcomes = without_numbers bytes_of 1 outcomes ∙ same_text answer_of bytes_of text_of (λ outcome. refl) outcomes

  of_counted : (fed_old fed put_old put : Option (List ℕ)) (text : List ℕ) → AreLinesCounted Says (recorded_lines (λ number outcome. bytes_of outcome)) exit_of fed_old fed put_old put text
      → IsReplySummary host realm u most inputs fed_old fed put_old put text
  of_counted fed_old fed put_old put text h = record {
    bytes = h.bytes;
    verdicts = map answer_of h.verdicts;
    consumed = h.consumed;
    answered = IsAnswered-map Says (OfLine (replies host realm u most) inputs) answer_of of_outcome h.bytes h.verdicts h.answered;
    is_put = subst (Appends put_old put) (same h.verdicts) h.is_put;
    summary = h.summary ∙ ap₂ (λ (es : List Exit) (n : ℕ). replies_line (counted (count_by is_yes es)) (counted n))
        (same_exits answer_of (λ (a : Answer). a.1) exit_of (λ outcome. refl) h.verdicts) (sym (length-map h.verdicts answer_of));
  }

  -- the summary of the lines
  pub replies_summed : {T : Type 0} (text_of_sum : T → List ℕ) (fed_old fed put_old put : Option (List ℕ)) (now : Option (Result T AllocError))
      → IsMade now (λ text. AreLinesCounted Says (recorded_lines (λ number outcome. bytes_of outcome)) exit_of fed_old fed put_old put (text_of_sum text))
      → IsMade now (λ text. IsReplySummary host realm u most inputs fed_old fed put_old put (text_of_sum text))
  replies_summed text_of_sum fed_old fed put_old put now made =
      made_as now _ (λ text. IsReplySummary host realm u most inputs fed_old fed put_old put (text_of_sum text)) (λ text h. of_counted fed_old fed put_old put (text_of_sum text) h) made

-- ---- counts

last_made : (exit : Exit) (b : Bool) → is_yes exit ≡ b → count_by is_yes (exit ∷ []) ≡ (if b then 1 else 0)
last_made exit b is = ap (λ (b : Bool). 0 + (if b then 1 else 0)) is ∙ one_or_none b
  where
    one_or_none : (b : Bool) → 0 + (if b then 1 else 0) ≡ (if b then 1 else 0)
    one_or_none true = refl
    one_or_none false = refl

module _ (before : List Outcome) (outcome : Outcome) where
  made_more : (b : Bool) → is_yes outcome.exit ≡ b
      → count_by is_yes (map exit_of (before ++ outcome ∷ [])) ≡ count_by is_yes (map exit_of before) + (if b then 1 else 0)
  made_more b is =
      ap (λ (es : List Exit). count_by is_yes es) (map-append exit_of before (outcome ∷ []))
      ∙ sum_by-append (λ (e : Exit). if is_yes e then 1 else 0) (map exit_of before) (outcome.exit ∷ [])
      ∙ ap (λ (n : ℕ). count_by is_yes (map exit_of before) + n) (last_made outcome.exit b is)

  one_made_more : (made : ℕ) (b : Bool) → is_yes outcome.exit ≡ b → made ≡ counted (count_by is_yes (map exit_of before))
      → (if b then counted (made + 1) else made) ≡ counted (count_by is_yes (map exit_of (before ++ outcome ∷ [])))
  one_made_more made true is h =
      ap (λ (n : ℕ). counted (n + 1)) h ∙ counted_more (count_by is_yes (map exit_of before)) ∙ ap counted (sym (made_more true is))
  one_made_more made false is h =
      let none : count_by is_yes (map exit_of before) ≡ count_by is_yes (map exit_of before) + 0 = omega arith in
      h ∙ ap counted (none ∙ sym (made_more false is))

  -- one more line was answered
  pub one_more_seen : (old new : Replies) → new.ended ≡ ended_with old.ended outcome.exit → new.all ≡ counted (old.all + 1)
      → new.made ≡ (if is_yes outcome.exit then counted (old.made + 1) else old.made) → HasSeen old before → HasSeen new (before ++ outcome ∷ [])
  one_more_seen old new is_ended is_all is_made h = record {
    ended = ended_one_verdict_more exit_of old.ended new.ended before outcome h.ended is_ended;
    all = is_all ∙ ap (λ (n : ℕ). counted (n + 1)) h.all ∙ counted_more (length before) ∙ ap counted (sym (length-append before (outcome ∷ [])));
    made = is_made ∙ one_made_more old.made (is_yes outcome.exit) refl h.made;
  }

-- ---- the summary of a run

module _ {V W : Type 0} (P : Input → V → Type 0) (recorded : List V → List ℕ) (saw : W → List V → Type 0) (fed_old fed put_old put : Option (List ℕ)) (w x : W)
    (h : AllAnswered P recorded saw fed_old fed put_old put w x) (nothing_seen : saw w []) where
  pub lines_counted : {T : Type 0} (text_of : T → List ℕ) (exit_of : V → Exit) (sum : Result T AllocError) (now : Option (Result T AllocError)) → now ≡ Some sum
      → ((verdicts : List V) → saw x verdicts → IfOk sum (λ text. text_of text ≡ replies_line (counted (count_by is_yes (map exit_of verdicts))) (counted (length verdicts))))
      → IsMade now (λ text. AreLinesCounted P recorded exit_of fed_old fed put_old put (text_of text))
  lines_counted {T} text_of exit_of sum now same is =
      subst (λ (s : Option (Result T AllocError)). IsMade s (λ text. AreLinesCounted P recorded exit_of fed_old fed put_old put (text_of text))) (sym same) (by sum is)
    where
      by : (s : Result T AllocError)
          → ((verdicts : List V) → saw x verdicts → IfOk s (λ text. text_of text ≡ replies_line (counted (count_by is_yes (map exit_of verdicts))) (counted (length verdicts))))
          → IfOk s (λ text. AreLinesCounted P recorded exit_of fed_old fed put_old put (text_of text))
      by (Err refused) sums = tt
      by (Ok text) sums = record {
        bytes = h.bytes;
        verdicts = h.verdicts;
        consumed = h.consumed;
        answered = h.answered;
        is_put = h.is_put;
        summary = sums h.verdicts (h.seen [] nothing_seen);
      }
