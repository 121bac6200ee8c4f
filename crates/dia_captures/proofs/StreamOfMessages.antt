-- The messages of a stream.
use Rattle.std.proofs.Common.{◌≡◌, ◌≢◌, ℕ, ◌++◌, List, [], Option, None, Some, map, Result, Ok, Err, refl, sym, ap, subst, ◌∙◌, inl, inr}
use Rattle.std.specs.Prelude.{IfOk, IsErr, IsOk}
use Rattle.std.specs.List.{flat_map}
use Rattle.std.specs.Io.KnownBytes.{Appends}
use Rattle.std.proofs.KnownBytes.{Appends-nil, Consumes-nil}
use Rattle.std.proofs.lemmas.Bool.{false≢true}
use Rattle.dia_dict.specs.Dictionary.{Dictionary}
use Rattle.dia_terms.specs.declared.Unknown.{Unknown}
use Rattle.dia_terms.specs.declared.Levels.{Levels}
use Rattle.dia_io.specs.declared.Inputs.{Inputs}
use Rattle.dia_io.specs.declared.Exit.{Exit}
use Rattle.dia_io.specs.declared.Exit.TheVariants as exits
use Rattle.dia_io.specs.Writing.{AppendsFront}
use Rattle.dia_streams.specs.declared.fault.LinesFault.{LinesFault}
use Rattle.dia_streams.specs.declared.fault.LinesFault.TheVariants as faults
use Rattle.dia_streams.specs.Streams.{AllRecorded, BytesHaveOneVerdict, SomeRecorded, WholeRecorded, IsFrontRecorded}
use Rattle.dia_streams.proofs.OneStream.{stream_once}
use Rattle.dia_streams.specs.Streams as streams
use Rattle.dia_streams.proofs.OtherLines.{IsStreamRecorded-map, SomeRecorded-map, WholeRecorded-map, at_place, same_lines}
use Rattle.dia_report.specs.declared.refusing.Refused.{Refused}
use Rattle.dia_captures.specs.declared.runs.Captured.{Captured}
use Rattle.dia_report.specs.declared.refusing.Refused.TheVariants.{Bad, NoMemory}
use Rattle.dia_run.specs.Texts.{line, IsDictionaryText}
use Rattle.dia_report.specs.Refusals.{RecordsOf, bad_input_text}
use Rattle.dia_run.specs.Outcome.{IsJudged}
use Rattle.dia_captures.specs.declared.verdicts.Checked.{Checked}
use Rattle.dia_captures.specs.Ending.{ended_of}
use Rattle.dia_captures.specs.Verdicts.{IsPieceChecked, checked_exit, checked_line, placed_line}
use Rattle.dia_captures.specs.Lines.{Answer, checks}
use Rattle.dia_captures.specs.Runs.{IsStreamPut}
use Rattle.dia_run.specs.RefusedDictionaries.{RefusesFirst}
use Rattle.dia_run.proofs.OneInput.{Same, one_dictionary, refused_once}
use Rattle.dia_run.proofs.OneOutcome.{judged_once}
use Rattle.dia_captures.specs.Streams.{OfMessage, placed, IsStreamAnswered, IsStreamFrontPut, IsStreamOutcome, recorded, refused}
use Rattle.dia_captures.proofs.OneMessage.{of_piece}
use Rattle.dia_captures.proofs.LinesOfMessages.{first_occurs, one_first, same_answer, same_exits}

module _ (u : Unknown) (most : Levels) (inputs : Inputs) where
  -- ---- a dictionary that was read

  module _ (d : Dictionary) (is_d : IsDictionaryText inputs.first d) (fed_old fed put_old put : Option (List ℕ)) where
    abbrev answer : Checked → Answer
    answer verdict = (checked_line d verdict, checked_exit verdict)

    same : (v : ℕ × Checked) → placed_line d v ≡ placed (at_place (IsPieceChecked u most d) (OfMessage u most inputs) answer (of_piece u most inputs d is_d) v)
    same v = refl

    pub stream_answered : (exit : Exit) → IsStreamPut (IsPieceChecked u most d) (placed_line d) fed_old fed put_old put exit
        → IsStreamAnswered u most inputs fed_old fed put_old put exit
    stream_answered exit h = record {
      read = h.read;
      text = flat_map (placed_line d) h.verdicts;
      consumed = h.consumed;
      outcome = λ rest gives. recorded (map (at_place (IsPieceChecked u most d) (OfMessage u most inputs) answer (of_piece u most inputs d is_d)) h.verdicts)
          (first_occurs inputs d is_d)
          (IsStreamRecorded-map (IsPieceChecked u most d) (OfMessage u most inputs) answer (of_piece u most inputs d is_d) (h.read ++ rest) h.verdicts (h.answered rest gives))
          (same_lines (IsPieceChecked u most d) (OfMessage u most inputs) answer (of_piece u most inputs d is_d) (placed_line d) placed same h.verdicts)
          (h.is_exit ∙ ap (λ (e : List Exit). (checks u most).exit_of (ended_of e))
          (same_exits (at_place (IsPieceChecked u most d) (OfMessage u most inputs) answer (of_piece u most inputs d is_d)) (λ (a : ℕ × Answer). a.1.1)
          (λ (v : ℕ × Checked). checked_exit v.1) (λ v. refl) h.verdicts));
      is_put = h.is_put;
    }

    pub stream_front : SomeRecorded (IsPieceChecked u most d) (placed_line d) fed_old fed put_old put → IsStreamFrontPut u most inputs fed_old fed put_old put
    stream_front h = inl (SomeRecorded-map (IsPieceChecked u most d) (OfMessage u most inputs) answer (of_piece u most inputs d is_d) (placed_line d) placed same fed_old fed put_old put h)

    pub stream_whole : WholeRecorded (IsPieceChecked u most d) (placed_line d) fed_old fed put_old put → WholeRecorded (OfMessage u most inputs) placed fed_old fed put_old put
    stream_whole h = WholeRecorded-map (IsPieceChecked u most d) (OfMessage u most inputs) answer (of_piece u most inputs d is_d) (placed_line d) placed same fed_old fed put_old put h

  -- ---- one that is refused

  no_text : IsFrontRecorded (OfMessage u most inputs) [] []
  no_text = record {
    digits = [];
    left = [];
    whole = [];
    rest = [];
    parts = refl;
    spelled = tt;
    recorded = streams.none;
  }

  module _ (fed old new : Option (List ℕ)) where
    nothing_recorded : WholeRecorded (OfMessage u most inputs) placed fed fed old old
    nothing_recorded = record {
      read = [];
      verdicts = [];
      consumed = Consumes-nil fed;
      recorded = no_text;
      is_put = Appends-nil old;
    }

    pub stream_nothing : new ≡ old → WholeRecorded (OfMessage u most inputs) placed fed fed old new
    stream_nothing same = subst (λ (p : Option (List ℕ)). WholeRecorded (OfMessage u most inputs) placed fed fed old p) (sym same) nothing_recorded

    nothing_in_front : SomeRecorded (OfMessage u most inputs) placed fed fed old old
    nothing_in_front = record {
      read = [];
      verdicts = [];
      consumed = Consumes-nil fed;
      recorded = inl no_text;
      is_put = ([], [], refl, Appends-nil old);
    }

    -- its line was put
    pub stream_refused : (why : Refused) (r : Result Captured LinesFault) → RecordsOf (RefusesFirst inputs) why → (why ≡ NoMemory → r ≡ Err faults.NoMemory)
        → IfOk r (λ x. x.reported.exit ≡ exits.Bad) → (IsOk r → RecordsOf (λ text. Appends old new (line text)) why)
        → IfOk r (λ x. IsStreamAnswered u most inputs fed fed old new x.reported.exit)
    stream_refused (Bad bad) (Ok x) records memory is_bad is_put = record {
      read = [];
      text = line (bad_input_text bad);
      consumed = Consumes-nil fed;
      outcome = λ rest gives. refused (bad_input_text bad) records (refl, is_bad);
      is_put = is_put refl;
    }
    stream_refused NoMemory (Ok x) records memory is_bad is_put = let e : Ok x ≡ Err faults.NoMemory = memory refl in cc
    stream_refused why (Err fault) records memory is_bad is_put = tt

    -- a beginning of it was put, or nothing
    pub stream_refused_front : (why : Refused) (r : Result Captured LinesFault) → RecordsOf (RefusesFirst inputs) why → (why ≡ NoMemory → r ≡ Err faults.NoMemory)
        → (r ≡ Err faults.Device → RecordsOf (λ text. AppendsFront old new (line text)) why) → (r ≡ Err faults.NoMemory → new ≡ old)
        → r ≢ Err faults.Endless → IsErr r → IsStreamFrontPut u most inputs fed fed old new
    stream_refused_front why (Ok x) records memory front nothing counted err = absurd (false≢true err)
    stream_refused_front (Bad bad) (Err faults.Device) records memory front nothing counted err = inr (bad_input_text bad, records, Consumes-nil fed, front refl)
    stream_refused_front NoMemory (Err faults.Device) records memory front nothing counted err =
        let e : Err faults.Device ≡ Err faults.NoMemory = memory refl in cc
    stream_refused_front why (Err faults.NoMemory) records memory front nothing counted err =
        subst (λ (p : Option (List ℕ)). IsStreamFrontPut u most inputs fed fed old p) (sym (nothing refl)) (inl nothing_in_front)
    stream_refused_front why (Err faults.Endless) records memory front nothing counted err = absurd (counted refl)

-- ---- one text

module _ (u : Unknown) (most : Levels) (inputs : Inputs) where
  message_once : BytesHaveOneVerdict (OfMessage u most inputs)
  message_once (Some bytes) t o (d, is_d, judged) (e, is_e, judged') =
      let same = one_dictionary inputs.first e d is_e is_d in
      same_answer t o (judged_once u most d bytes t.0 o.0 t.1 o.1 is_d.4 judged (subst (λ (b : Dictionary). IsJudged u most b bytes o.0 o.1) same judged'))
  message_once None t o (is_t, is_x) (is_o, is_y) = same_answer t o (is_t ∙ sym is_o, is_x ∙ sym is_y)

  pub stream_outcome_once : (stream t o : List ℕ) (x y : Exit) → IsStreamOutcome u most inputs stream t x → IsStreamOutcome u most inputs stream o y → Same t o x y
  stream_outcome_once stream t o x y (recorded answers sound h is_t is) (recorded others sound' k is_o is') =
      let same = stream_once (OfMessage u most inputs) message_once stream answers others h k in (
        is_t ∙ ap (λ (a : List (ℕ × Answer)). flat_map placed a) same ∙ sym is_o,
        is ∙ ap (λ (a : List (ℕ × Answer)). (checks u most).exit_of (ended_of (map (λ (b : ℕ × Answer). b.1.1) a))) same ∙ sym is',
      )
  stream_outcome_once stream t o x y (recorded answers sound h is_t is) (refused why refuses is_o) = absurd (sound why refuses)
  stream_outcome_once stream t o x y (refused why refuses is_t) (recorded answers sound h is_o is) = absurd (sound why refuses)
  stream_outcome_once stream t o x y (refused why refuses is_t) (refused other refuses' is_o) = refused_once why other t o x y (one_first inputs why other refuses refuses') is_t is_o
