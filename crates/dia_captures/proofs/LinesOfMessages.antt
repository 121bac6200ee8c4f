-- The lines of a text, each a message.
use Rattle.std.proofs.Common.{◌≡◌, ◌≢◌, ℕ, List, [], ◌∷◌, Option, map, refl, sym, ap, ◌∙◌, inl, inr}
use Rattle.std.specs.List.{flat_map}
use Rattle.std.specs.Io.KnownBytes.{Appends}
use Rattle.std.proofs.KnownBytes.{Appends-nil, Consumes-nil}
use Rattle.dia_dict.specs.Dictionary.{Dictionary}
use Rattle.dia_terms.specs.declared.Unknown.{Unknown}
use Rattle.dia_terms.specs.declared.Levels.{Levels}
use Rattle.dia_io.specs.declared.Input.{Input}
use Rattle.dia_io.specs.declared.Inputs.{Inputs}
use Rattle.dia_io.specs.declared.Exit.{Exit}
use Rattle.dia_io.specs.declared.Exit.TheVariants as exits
use Rattle.dia_io.specs.declared.Command.TheVariants as command
use Rattle.dia_io.specs.Writing.{AppendsFront}
use Rattle.dia_streams.specs.Lines.{LineHasOneAnswer, recorded_lines}
use Rattle.dia_streams.specs.Lines as lines
use Rattle.dia_streams.specs.FeedToSink.{FrontAnswered, LinesAnswered}
use Rattle.dia_streams.proofs.LineNumbers.{without_numbers}
use Rattle.dia_streams.proofs.OneAnswer.{text_once}
use Rattle.dia_streams.proofs.OtherAnswers.{IsAnswered-map, FrontAnswered-map, LinesAnswered-map, same_text}
use Rattle.dia_report.specs.declared.refusing.Refused.{Refused}
use Rattle.dia_report.specs.declared.refusing.Refused.TheVariants.{Bad, NoMemory}
use Rattle.dia_report.specs.Refusals.{dictionary_line}
use Rattle.dia_run.specs.Texts.{line, IsDictionaryText}
use Rattle.dia_report.specs.Refusals.{RecordsOf, bad_input_text}
use Rattle.dia_run.proofs.OneInput.{Same, refused_once, dictionary_or_not, one_reason_for_dictionary}
use Rattle.dia_run.proofs.OneOutcome.{one_outcome}
use Rattle.dia_captures.specs.Ending.{ended_of}
use Rattle.dia_captures.specs.Lines.{Answer, MessageCommand, OfLine, text_of, IsLinesOutcome, answered, refused, AreLinesAnswered, IsFrontPut, checks, refutations}
use Rattle.dia_captures.specs.Runs.{AreLinesRecorded}
use Rattle.dia_run.specs.RefusedDictionaries.{RefusesFirst}
use Rattle.dia_captures.proofs.OneMessage.{same_check, same_refute}

-- the exits of verdicts are those of the answers
pub same_exits : {V A : Type 0} (g : V → A) (h : A → Exit) (exit_of : V → Exit) → ((verdict : V) → exit_of verdict ≡ h (g verdict)) → (verdicts : List V)
    → map exit_of verdicts ≡ map h (map g verdicts)
same_exits g h exit_of same [] = refl
same_exits g h exit_of same (v ∷ vs) = ap (λ (x : Exit). x ∷ map exit_of vs) (same v) ∙ ap (λ (xs : List Exit). h (g v) ∷ xs) (same_exits g h exit_of same vs)

-- ---- lines that were answered

module _ {V : Type 0} (command : MessageCommand) (inputs : Inputs) (P : Input → V → Type 0) (recorded : V → List ℕ) (exit_of : V → Exit)
    (f : (message : Input) (verdict : V) → P message verdict → OfLine command inputs message (recorded verdict, exit_of verdict)) where
  abbrev answer : V → Answer
  answer verdict = (recorded verdict, exit_of verdict)

  -- no number is told
  abbrev text : List V → List ℕ
  text = recorded_lines (λ number verdict. recorded verdict)

  same : (verdicts : List V) → text verdicts ≡ flat_map text_of (map answer verdicts)
  same verdicts = without_numbers recorded 1 verdicts ∙ same_text answer recorded text_of (λ verdict. refl) verdicts

  pub all_answered : (fed_old fed put_old put : Option (List ℕ)) (exit : Exit) → ((recorded : List ℕ) → ¬ command.refuses inputs recorded)
      → AreLinesRecorded P text exit_of command.exit_of fed_old fed put_old put exit → AreLinesAnswered command inputs fed_old fed put_old put exit
  all_answered fed_old fed put_old put exit sound h = record {
    bytes = h.bytes;
    text = text h.verdicts;
    consumed = h.consumed;
    outcome = answered (map answer h.verdicts) sound (IsAnswered-map P (OfLine command inputs) answer f h.bytes h.verdicts h.answered)
        (same h.verdicts)
        (h.is_exit ∙ ap command.exit_of (ap ended_of (same_exits answer (λ (a : Answer). a.1) exit_of (λ verdict. refl) h.verdicts)));
    is_put = h.is_put;
  }

  pub front_put : (fed_old fed put_old put : Option (List ℕ)) → FrontAnswered P text fed_old fed put_old put → IsFrontPut command inputs fed_old fed put_old put
  front_put fed_old fed put_old put h = inl (FrontAnswered-map P (OfLine command inputs) answer f text (flat_map text_of) same fed_old fed put_old put h)

  pub lines_answered : (fed_old fed put_old put : Option (List ℕ)) → LinesAnswered P text fed_old fed put_old put
      → LinesAnswered (OfLine command inputs) (flat_map text_of) fed_old fed put_old put
  lines_answered fed_old fed put_old put h = LinesAnswered-map P (OfLine command inputs) answer f text (flat_map text_of) same fed_old fed put_old put h

-- ---- dictionaries that are refused

module _ (command : MessageCommand) (inputs : Inputs) where
  pub all_refused : (fed put_old put : Option (List ℕ)) (r : Refused) (exit : Exit) → r ≢ NoMemory → RecordsOf (command.refuses inputs) r
      → RecordsOf (λ recorded. Appends put_old put (line recorded)) r → exit ≡ exits.Bad → AreLinesAnswered command inputs fed fed put_old put exit
  all_refused fed put_old put (Bad bad) exit some records is_put is = record {
    bytes = [];
    text = line (bad_input_text bad);
    consumed = Consumes-nil fed;
    outcome = refused (bad_input_text bad) records (refl, is);
    is_put = is_put;
  }
  all_refused fed put_old put NoMemory exit some records is_put is = absurd (some refl)

  pub front_refused : (fed put_old put : Option (List ℕ)) (r : Refused) → r ≢ NoMemory → RecordsOf (command.refuses inputs) r
      → RecordsOf (λ recorded. AppendsFront put_old put (line recorded)) r → IsFrontPut command inputs fed fed put_old put
  front_refused fed put_old put (Bad bad) some records is_put = inr (bad_input_text bad, records, Consumes-nil fed, is_put)
  front_refused fed put_old put NoMemory some records is_put = absurd (some refl)

  -- no memory for a dictionary
  pub nothing_answered : (fed put : Option (List ℕ)) → LinesAnswered (OfLine command inputs) (flat_map text_of) fed fed put put
  nothing_answered fed put = record {
    lines = [];
    rest = [];
    verdicts = [];
    consumed = Consumes-nil fed;
    answered = lines.none;
    is_put = Appends-nil put;
  }

  pub nothing_put : (fed put : Option (List ℕ)) → IsFrontPut command inputs fed fed put put
  nothing_put fed put = inl (record {
    front = [];
    rest = [];
    verdicts = [];
    consumed = Consumes-nil fed;
    answered = inl lines.none;
    is_put = ([], [], refl, Appends-nil put);
  })

-- ---- one text

module _ (command : MessageCommand) (inputs : Inputs) (one_line : LineHasOneAnswer (OfLine command inputs))
    (one_reason : (m n : List ℕ) → command.refuses inputs m → command.refuses inputs n → m ≡ n) where
  once : (bytes t u : List ℕ) (x y : Exit) → IsLinesOutcome command inputs bytes t x → IsLinesOutcome command inputs bytes u y → Same t u x y
  once bytes t u x y (answered answers sound h is_t is) (answered others sound' k is_u is') =
      let same = text_once (OfLine command inputs) one_line bytes answers others h k in (
        is_t ∙ ap (λ (a : List Answer). flat_map text_of a) same ∙ sym is_u,
        is ∙ ap (λ (a : List Answer). command.exit_of (ended_of (map (λ (b : Answer). b.1) a))) same ∙ sym is',
      )
  once bytes t u x y (answered answers sound h is_t is) (refused recorded refuses is_u) = absurd (sound recorded refuses)
  once bytes t u x y (refused recorded refuses is_t) (answered answers sound h is_u is) = absurd (sound recorded refuses)
  once bytes t u x y (refused recorded refuses is_t) (refused other refuses' is_u) = refused_once recorded other t u x y (one_reason recorded other refuses refuses') is_t is_u

pub same_answer : (a b : Answer) → Same a.0 b.0 a.1 b.1 → a ≡ b
same_answer (t, x) (u, y) (same_text, same_exit) = ap (λ (s : List ℕ). (s, x)) same_text ∙ ap (λ (e : Exit). (u, e)) same_exit

pub one_check : (u : Unknown) (most : Levels) (inputs : Inputs) → LineHasOneAnswer (OfLine (checks u most) inputs)
one_check policy most inputs bytes a b t u h k is is' =
    same_answer t u (one_outcome (command.Check policy most) (record { first = inputs.first; second = inputs.second; table = inputs.table; message = b }) t.0 u.0 t.1 u.1
    (same_check policy most inputs a b bytes t h k is) is')

pub one_refute : (u : Unknown) (most : Levels) (inputs : Inputs) → LineHasOneAnswer (OfLine (refutations u most) inputs)
one_refute policy most inputs bytes a b t u h k is is' =
    same_answer t u (one_outcome (command.Refute policy most) (record { first = inputs.first; second = inputs.second; table = inputs.table; message = b }) t.0 u.0 t.1 u.1
    (same_refute policy most inputs a b bytes t h k is) is')

pub one_first : (inputs : Inputs) (m n : List ℕ) → RefusesFirst inputs m → RefusesFirst inputs n → m ≡ n
one_first inputs m n (why, none, is) (why', none', is') = is ∙ ap (dictionary_line 1) (one_reason_for_dictionary inputs.first why why' none none') ∙ sym is'

one_of_two : (u : Unknown) (most : Levels) (inputs : Inputs) (m n : List ℕ) → (refutations u most).refuses inputs m → (refutations u most).refuses inputs n → m ≡ n
one_of_two u most inputs m n (inl h) (inl k) = one_first inputs m n h k
one_of_two u most inputs m n (inl (why, none, is)) (inr (a, is_a, k)) = absurd (dictionary_or_not inputs.first a why is_a none)
one_of_two u most inputs m n (inr (a, is_a, h)) (inl (why, none, is)) = absurd (dictionary_or_not inputs.first a why is_a none)
one_of_two u most inputs m n (inr (a, is_a, (why, none, is))) (inr (a', is_a', (why', none', is'))) =
    is ∙ ap (dictionary_line 2) (one_reason_for_dictionary inputs.second why why' none none') ∙ sym is'

pub checks_once : (policy : Unknown) (most : Levels) (inputs : Inputs) (bytes t u : List ℕ) (x y : Exit) → IsLinesOutcome (checks policy most) inputs bytes t x
    → IsLinesOutcome (checks policy most) inputs bytes u y → Same t u x y
checks_once policy most inputs = once (checks policy most) inputs (one_check policy most inputs) (one_first inputs)

pub refutations_once : (policy : Unknown) (most : Levels) (inputs : Inputs) (bytes t u : List ℕ) (x y : Exit) → IsLinesOutcome (refutations policy most) inputs bytes t x
    → IsLinesOutcome (refutations policy most) inputs bytes u y → Same t u x y
refutations_once policy most inputs = once (refutations policy most) inputs (one_refute policy most inputs) (one_of_two policy most inputs)

-- dictionaries that are read aren't refused
pub first_occurs : (inputs : Inputs) (d : Dictionary) → IsDictionaryText inputs.first d → (recorded : List ℕ) → ¬ RefusesFirst inputs recorded
first_occurs inputs d is_d recorded (why, none, is) = dictionary_or_not inputs.first d why is_d none

pub both_stand : (u : Unknown) (most : Levels) (inputs : Inputs) (a b : Dictionary) → IsDictionaryText inputs.first a → IsDictionaryText inputs.second b → (recorded : List ℕ)
    → ¬ (refutations u most).refuses inputs recorded
both_stand u most inputs a b is_a is_b recorded (inl h) = first_occurs inputs a is_a recorded h
both_stand u most inputs a b is_a is_b recorded (inr (c, is_c, (why, none, is))) = dictionary_or_not inputs.second b why is_b none
