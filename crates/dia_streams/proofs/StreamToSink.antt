-- A stream that is reported from a feed into a sink.
use Rattle.std.proofs.Common.{◌≡◌, ℕ, ◌+◌, ◌<◌, Bool, true, false, List, [], ◌++◌, Option, None, Some, Result, Ok, length, refl, sym, ap, subst, ◌∙◌, append_assoc, inl, inr, arith}
use Rattle.std.specs.Prelude.{string_bytes, ◌⊎◌}
use Rattle.std.specs.List.{flat_map}
use Rattle.std.specs.Io.KnownBytes.{Appends, Consumes, Keeps, IsAtEnd}
use Rattle.std.proofs.KnownBytes.{Appends-nil, Consumes-nil, Consumes-trans, Consumes-kept}
use Rattle.std.proofs.lemmas.Grind.{flat_map-append}
use Rattle.std.proofs.lemmas.List.{append-nil, length-append}
use Rattle.dia_io.specs.Writing.{AppendsFront}
use Rattle.dia_streams.specs.FeedToSink.{Sees}
use Rattle.dia_streams.proofs.FeedToSink.{front_both, put_both}
use Rattle.dia_streams.proofs.LinesUnderWay.{Sees-both, Sees-nothing}
use Rattle.dia_streams.specs.declared.digits.Digits.{Digits}
use Rattle.dia_streams.specs.declared.streamed.Streamed.{Streamed}
use Rattle.dia_streams.specs.Streams.{AreSpelled, none, IsPart, IsStreamRecorded, IsFrontRecorded, StillGives, AllRecorded, WholeRecorded, SomeRecorded, digits_of}
use Rattle.dia_streams.specs.StreamUnderWay.{AreDigits, Goes, IsHalf, IsUnderWay, Reads, Ends, AreRead}
use Rattle.dia_streams.proofs.DigitsTaken.{digits_both}

-- nothing follows at the end
no_rest : (fed : Option (List ℕ)) (rest : List ℕ) → IsAtEnd fed → StillGives fed rest → rest ≡ []
no_rest None rest at_end gives = gives
no_rest (Some all) rest at_end gives = gives ∙ at_end

-- the lines that weren't put yet
only_recorded : (before after recorded : List ℕ) → before ≡ [] → after ≡ before ++ recorded → after ≡ recorded
only_recorded before after recorded empty is = is ∙ ap (λ (t : List ℕ). t ++ recorded) empty

module _ {V W : Type 0} (P : Option (List ℕ) → V → Type 0) (text : ℕ × V → List ℕ) (saw : W → List (ℕ × V) → Type 0) where
  -- nothing was read
  begun : (now : Streamed) → now.digits.half ≡ None → now.digits.bytes.items ≡ [] → now.recorded.at ≡ 0 → IsUnderWay P now [] []
  begun now half bytes at = record {
    whole = [];
    digits = record {
      digits = [];
      left = [];
      parts = refl;
      spelled = subst (λ (b : List ℕ). AreSpelled [] ([] ++ b)) (sym bytes) tt;
      is_half = subst (λ (h : Option ℕ). IsHalf h []) (sym half) refl;
    };
    is_part = inl (let l = ap (λ (b : List ℕ). length b) bytes in omega (arith, l));
    recorded = record { recorded = none; at = at };
  }

  -- the lines were put, and are forgotten
  forgotten : (old new : Streamed) (read : List ℕ) (verdicts : List (ℕ × V)) → new.digits ≡ old.digits → new.recorded.at ≡ old.recorded.at
      → IsUnderWay P old read verdicts → IsUnderWay P new read verdicts
  forgotten old new read verdicts digits at u = record {
    whole = u.whole;
    digits = subst (λ (d : Digits). AreDigits d.half (digits_of read) (u.whole ++ d.bytes.items)) (sym digits) u.digits;
    is_part = subst (λ (d : Digits). IsPart d.bytes.items) (sym digits) u.is_part;
    recorded = record { recorded = u.recorded.recorded; at = at ∙ u.recorded.at };
  }

  -- no piece was read
  pub first_read : (fed put : Option (List ℕ)) (w : W) (now : Streamed) → now.digits.half ≡ None → now.digits.bytes.items ≡ [] → now.recorded.at ≡ 0
      → string_bytes now.recorded.text ≡ [] → AreRead P text saw fed fed put put w w now 0
  first_read fed put w now half bytes at nothing = record {
    read = [];
    verdicts = [];
    consumed = Consumes-nil fed;
    under_way = begun now half bytes at;
    is_put = Appends-nil put;
    seen = Sees-nothing saw w;
    nothing = nothing;
    counted = omega arith;
  }

  -- what was reported of a front, of which more was read
  front_recorded : (now : Streamed) (read piece : List ℕ) (verdicts : List (ℕ × V)) → IsUnderWay P now read verdicts → IsFrontRecorded P (read ++ piece) verdicts
  front_recorded now read piece verdicts u = record {
    digits = u.digits.digits;
    left = u.digits.left ++ digits_of piece;
    whole = u.whole;
    rest = now.digits.bytes.items;
    parts = digits_both read piece ∙ ap (λ (d : List ℕ). d ++ digits_of piece) u.digits.parts ∙ append_assoc u.digits.digits u.digits.left (digits_of piece);
    spelled = u.digits.spelled;
    recorded = u.recorded.recorded;
  }

  pub some_of_whole : (fed f put p : Option (List ℕ)) → WholeRecorded P text fed f put p → SomeRecorded P text fed f put p
  some_of_whole fed f put p a = record {
    read = a.read;
    verdicts = a.verdicts;
    consumed = a.consumed;
    recorded = inl a.recorded;
    is_put = (flat_map text a.verdicts, [], sym (append-nil (flat_map text a.verdicts)), a.is_put);
  }

  module _ (fed f f' put p : Option (List ℕ)) (w x : W) (old : Streamed) (n : ℕ) (a : AreRead P text saw fed f put p w x old n) where
    -- no memory for the lines of a piece
    pub whole_before : (piece : List ℕ) → Consumes f f' piece → WholeRecorded P text fed f' put p
    whole_before piece consumed = record {
      read = a.read ++ piece;
      verdicts = a.verdicts;
      consumed = Consumes-trans fed f f' a.read piece a.consumed consumed;
      recorded = front_recorded old a.read piece a.verdicts a.under_way;
      is_put = a.is_put;
    }

    -- the feed gave nothing more
    pub whole_kept : Keeps f f' → WholeRecorded P text fed f' put p
    whole_kept kept = record {
      read = a.read;
      verdicts = a.verdicts;
      consumed = Consumes-kept fed f f' a.read a.consumed kept;
      recorded = subst (λ (r : List ℕ). IsFrontRecorded P r a.verdicts) (append-nil a.read) (front_recorded old a.read [] a.verdicts a.under_way);
      is_put = a.is_put;
    }

  -- nothing more was read
  pub whole_now : (fed f put p : Option (List ℕ)) (w x : W) (old : Streamed) (n : ℕ) → AreRead P text saw fed f put p w x old n → WholeRecorded P text fed f put p
  whole_now fed f put p w x old n a = whole_kept fed f f put p w x old n a (kept f)
    where
      kept : (f : Option (List ℕ)) → Keeps f f
      kept None = tt
      kept (Some xs) = refl

  -- a piece was reported
  module _ (goes_on : Bool) (fed f f' put p p' : Option (List ℕ)) (w x y : W) (old now : Streamed) (n : ℕ) (piece : List ℕ)
      (consumed : Consumes f f' piece) (reads : Reads P text saw goes_on old now x y piece) (a : AreRead P text saw fed f put p w x old n) where
    all_lines : string_bytes now.recorded.text ≡ flat_map text reads.verdicts
    all_lines = only_recorded (string_bytes old.recorded.text) (string_bytes now.recorded.text) (flat_map text reads.verdicts) a.nothing reads.lines

    all_consumed : Consumes fed f' (a.read ++ piece)
    all_consumed = Consumes-trans fed f f' a.read piece a.consumed consumed

    all_put : Appends p p' (string_bytes now.recorded.text) → Appends put p' (flat_map text (a.verdicts ++ reads.verdicts))
    all_put is_put = put_both (flat_map text a.verdicts) (flat_map text reads.verdicts) (flat_map text (a.verdicts ++ reads.verdicts)) put p p'
        (flat_map-append text a.verdicts reads.verdicts) a.is_put (subst (Appends p p') all_lines is_put)

    all_seen : Sees saw w y (a.verdicts ++ reads.verdicts)
    all_seen = Sees-both saw w x y a.verdicts reads.verdicts a.seen reads.seen

    -- and more follows
    pub piece_read : (new : Streamed) → goes_on ≡ true → 0 < length piece → Appends p p' (string_bytes now.recorded.text)
        → new.digits ≡ now.digits → new.recorded.at ≡ now.recorded.at → string_bytes new.recorded.text ≡ [] → AreRead P text saw fed f' put p' w y new (n + 1)
    piece_read new on some is_put digits at nothing =
        let lengths = length-append a.read piece in
        let counted = a.counted in record {
          read = a.read ++ piece;
          verdicts = a.verdicts ++ reads.verdicts;
          consumed = all_consumed;
          under_way = forgotten now new (a.read ++ piece) (a.verdicts ++ reads.verdicts) digits at
              (subst (λ (b : Bool). Goes P b now (a.read ++ piece) (a.verdicts ++ reads.verdicts)) on (reads.reads a.read a.verdicts a.under_way));
          is_put = all_put is_put;
          seen = all_seen;
          nothing = nothing;
          counted = omega (arith, lengths, counted, some);
        }

    -- and all was reported before the end
    pub all_over : goes_on ≡ false → Appends p p' (string_bytes now.recorded.text) → AllRecorded P text saw fed f' put p' w y
    all_over off is_put = record {
      read = a.read ++ piece;
      verdicts = a.verdicts ++ reads.verdicts;
      consumed = all_consumed;
      recorded = λ rest gives. (subst (λ (b : Bool). Goes P b now (a.read ++ piece) (a.verdicts ++ reads.verdicts)) off (reads.reads a.read a.verdicts a.under_way)) rest;
      is_put = all_put is_put;
      seen = all_seen;
    }

    -- and the sink failed after it
    pub sink_failed : AppendsFront p p' (string_bytes now.recorded.text) → SomeRecorded P text fed f' put p'
    sink_failed is_put = record {
      read = a.read ++ piece;
      verdicts = a.verdicts ++ reads.verdicts;
      consumed = all_consumed;
      recorded = by goes_on (reads.reads a.read a.verdicts a.under_way);
      is_put = front_both (flat_map text a.verdicts) (flat_map text reads.verdicts) (flat_map text (a.verdicts ++ reads.verdicts)) put p p'
          (flat_map-append text a.verdicts reads.verdicts) a.is_put (subst (AppendsFront p p') all_lines is_put);
    }
      where
        by : (on : Bool) → Goes P on now (a.read ++ piece) (a.verdicts ++ reads.verdicts)
            → IsFrontRecorded P (a.read ++ piece) (a.verdicts ++ reads.verdicts)
            ⊎ ((rest : List ℕ) → StillGives f' rest → IsStreamRecorded P ((a.read ++ piece) ++ rest) (a.verdicts ++ reads.verdicts))
        by true u = inl (subst (λ (r : List ℕ). IsFrontRecorded P r (a.verdicts ++ reads.verdicts)) (append-nil (a.read ++ piece))
            (front_recorded now (a.read ++ piece) [] (a.verdicts ++ reads.verdicts) u))
        by false over = inr (λ rest gives. over rest)

  -- what was under way was reported at the end
  module _ (fed f f' put p p' : Option (List ℕ)) (w x y : W) (old now : Streamed) (n : ℕ)
      (consumed : Consumes f f' []) (at_end : IsAtEnd f') (ends : Ends P text saw old now x y) (a : AreRead P text saw fed f put p w x old n) where
    end_lines : string_bytes now.recorded.text ≡ flat_map text ends.verdicts
    end_lines = only_recorded (string_bytes old.recorded.text) (string_bytes now.recorded.text) (flat_map text ends.verdicts) a.nothing ends.lines

    end_consumed : Consumes fed f' a.read
    end_consumed = subst (Consumes fed f') (append-nil a.read) (Consumes-trans fed f f' a.read [] a.consumed consumed)

    end_recorded : (rest : List ℕ) → StillGives f' rest → IsStreamRecorded P (a.read ++ rest) (a.verdicts ++ ends.verdicts)
    end_recorded rest gives = subst (λ (r : List ℕ). IsStreamRecorded P r (a.verdicts ++ ends.verdicts))
        (sym (ap (λ (r : List ℕ). a.read ++ r) (no_rest f' rest at_end gives) ∙ append-nil a.read)) (ends.ends a.read a.verdicts a.under_way)

    pub all_read : Appends p p' (string_bytes now.recorded.text) → AllRecorded P text saw fed f' put p' w y
    all_read is_put = record {
      read = a.read;
      verdicts = a.verdicts ++ ends.verdicts;
      consumed = end_consumed;
      recorded = end_recorded;
      is_put = put_both (flat_map text a.verdicts) (flat_map text ends.verdicts) (flat_map text (a.verdicts ++ ends.verdicts)) put p p'
          (flat_map-append text a.verdicts ends.verdicts) a.is_put (subst (Appends p p') end_lines is_put);
      seen = Sees-both saw w x y a.verdicts ends.verdicts a.seen ends.seen;
    }

    -- and the sink failed after it
    pub sink_failed_at_end : AppendsFront p p' (string_bytes now.recorded.text) → SomeRecorded P text fed f' put p'
    sink_failed_at_end is_put = record {
      read = a.read;
      verdicts = a.verdicts ++ ends.verdicts;
      consumed = end_consumed;
      recorded = inr end_recorded;
      is_put = front_both (flat_map text a.verdicts) (flat_map text ends.verdicts) (flat_map text (a.verdicts ++ ends.verdicts)) put p p'
          (flat_map-append text a.verdicts ends.verdicts) a.is_put (subst (AppendsFront p p') end_lines is_put);
    }

pub ok_same : {E : Type 0} (a b : Bool) → ◌≡◌ {A = Result Bool E} (Ok a) (Ok b) → a ≡ b
ok_same a b e = cc
