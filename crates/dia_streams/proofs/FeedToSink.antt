-- Lines that are answered from a feed into a sink.
use Rattle.std.proofs.Common.{◌≡◌, ◌≢◌, ℕ, suc, ◌+◌, ◌<◌, ◌≤◌, List, [], ◌++◌, Option, None, Some, length, refl, sym, ap, subst, ◌∙◌, append_assoc, inl, inr, arith}
use Rattle.std.specs.Prelude.{string_bytes, IfSome}
use Rattle.std.specs.Io.KnownBytes.{Appends, Consumes, Keeps, IsAtEnd}
use Rattle.std.proofs.KnownBytes.{Appends-nil, Appends-trans, Consumes-nil, Consumes-trans, Consumes-kept}
use Rattle.std.proofs.lemmas.List.{append-nil, length-append}
use Rattle.std.proofs.lemmas.List.Elements.{All-nil}
use Rattle.dia_io.specs.declared.Input.{Input}
use Rattle.dia_io.specs.Writing.{AppendsFront}
use Rattle.dia_streams.specs.declared.answered.Answered.{Answered}
use Rattle.dia_streams.specs.Lines.{none, IsLineInput, line_feed, recorded_from, recorded_lines}
use Rattle.dia_streams.specs.LinesUnderWay.{Ends, IsUnderWay, Reads, AreRead}
use Rattle.dia_streams.specs.FeedToSink.{AllAnswered, LinesAnswered, FrontAnswered}
use Rattle.dia_streams.proofs.LineNumbers.{recorded_lines-append}
use Rattle.dia_streams.proofs.LinesUnderWay.{Sees-both, Sees-nothing}

-- so many bytes were given
pub long_feed : (fed f : Option (List ℕ)) (n : ℕ) (read : List ℕ) → Consumes fed f read → n ≤ length read → IfSome fed (λ bytes. n ≤ length bytes)
long_feed None f n read h long = tt
long_feed (Some xs) None n read h long = absurd h
long_feed (Some xs) (Some ys) n read h long =
    let all : length xs ≡ length read + length ys = ap (λ (t : List ℕ). length t) h ∙ length-append read ys in omega arith

-- a prefix that follows what was put
front_after : (a b c : Option (List ℕ)) (x y : List ℕ) → Appends a b x → AppendsFront b c y → AppendsFront a c (x ++ y)
front_after a b c x y h (front, rest, parts, k) =
    (x ++ front, rest, ap (λ (t : List ℕ). x ++ t) parts ∙ sym (append_assoc x front rest), Appends-trans a b c x front h k)

-- what was put, and then more
pub put_both : (x y whole : List ℕ) (a b c : Option (List ℕ)) → whole ≡ x ++ y → Appends a b x → Appends b c y → Appends a c whole
put_both x y whole a b c parts h k = subst (Appends a c) (sym parts) (Appends-trans a b c x y h k)

pub front_both : (x y whole : List ℕ) (a b c : Option (List ℕ)) → whole ≡ x ++ y → Appends a b x → AppendsFront b c y → AppendsFront a c whole
front_both x y whole a b c parts h k = subst (AppendsFront a c) (sym parts) (front_after a b c x y h k)

module _ {V W : Type 0} (P : Input → V → Type 0) (recorded : ℕ → V → List ℕ) (saw : W → List V → Type 0) where
  -- nothing was read
  begun : (now : Answered) → IsLineInput now.line [] → now.count ≡ 0 → IsUnderWay P now [] []
  begun now whole none_yet = record {
    lines = [];
    rest = [];
    answered = none;
    parts = refl;
    is_line = All-nil (λ c. c ≢ line_feed);
    whole = whole;
    counted = none_yet;
  }

  -- the text was put, and is forgotten
  forgotten : (old new : Answered) (read : List ℕ) (verdicts : List V) → new.line ≡ old.line → new.count ≡ old.count
      → IsUnderWay P old read verdicts → IsUnderWay P new read verdicts
  forgotten old new read verdicts line count u = record {
    lines = u.lines;
    rest = u.rest;
    answered = u.answered;
    parts = u.parts;
    is_line = u.is_line;
    whole = subst (λ (i : Input). IsLineInput i u.rest) (sym line) u.whole;
    counted = count ∙ u.counted;
  }

  -- no piece was read
  pub first_read : (fed put : Option (List ℕ)) (w : W) (now : Answered) → IsLineInput now.line [] → now.count ≡ 0 → string_bytes now.text ≡ []
      → AreRead P recorded saw fed fed put put w w now 0
  first_read fed put w now whole none_yet nothing = record {
    read = [];
    verdicts = [];
    consumed = Consumes-nil fed;
    under_way = begun now whole none_yet;
    is_put = Appends-nil put;
    seen = Sees-nothing saw w;
    nothing = nothing;
    counted = omega arith;
  }

  -- the lines of what was read are a front
  pub lines_before : (fed f f' put p : Option (List ℕ)) (w x : W) (old : Answered) (n : ℕ) (piece : List ℕ) → Consumes f f' piece
      → AreRead P recorded saw fed f put p w x old n → LinesAnswered P (recorded_lines recorded) fed f' put p
  lines_before fed f f' put p w x old n piece consumed a =
      let u = a.under_way in record {
        lines = u.lines;
        rest = u.rest ++ piece;
        verdicts = a.verdicts;
        consumed = subst (Consumes fed f') (ap (λ (r : List ℕ). r ++ piece) u.parts ∙ append_assoc u.lines u.rest piece)
            (Consumes-trans fed f f' a.read piece a.consumed consumed);
        answered = u.answered;
        is_put = a.is_put;
      }

  -- whole lines are a front
  pub front_of_lines : (fed f put p : Option (List ℕ)) → LinesAnswered P (recorded_lines recorded) fed f put p → FrontAnswered P (recorded_lines recorded) fed f put p
  front_of_lines fed f put p a = record {
    front = a.lines;
    rest = a.rest;
    verdicts = a.verdicts;
    consumed = a.consumed;
    answered = inl a.answered;
    is_put = (recorded_lines recorded a.verdicts, [], sym (append-nil (recorded_lines recorded a.verdicts)), a.is_put);
  }

  -- the feed failed
  pub feed_failed : (fed f f' put p : Option (List ℕ)) (w x : W) (old : Answered) (n : ℕ) → Keeps f f' → AreRead P recorded saw fed f put p w x old n
      → FrontAnswered P (recorded_lines recorded) fed f' put p
  feed_failed fed f f' put p w x old n kept a =
      let u = a.under_way in
      front_of_lines fed f' put p (record {
        lines = u.lines;
        rest = u.rest;
        verdicts = a.verdicts;
        consumed = subst (Consumes fed f') u.parts (Consumes-kept fed f f' a.read a.consumed kept);
        answered = u.answered;
        is_put = a.is_put;
      })

  -- a piece was answered
  module _ (fed f f' put p p' : Option (List ℕ)) (w x y : W) (old now : Answered) (n : ℕ) (piece : List ℕ) (more : List V)
      (consumed : Consumes f f' piece) (reads : Reads P recorded saw old now x y piece more) (a : AreRead P recorded saw fed f put p w x old n) where
    abbrev following : List ℕ
    following = recorded_from recorded (suc (length a.verdicts)) more

    all_recorded : string_bytes now.text ≡ following
    all_recorded = reads.text a.read a.verdicts a.under_way ∙ ap (λ (t : List ℕ). t ++ following) a.nothing

    pub piece_read : (new : Answered) → 0 < length piece → Appends p p' (string_bytes now.text) → new.line ≡ now.line → new.count ≡ now.count → string_bytes new.text ≡ []
        → AreRead P recorded saw fed f' put p' w y new (n + 1)
    piece_read new some is_put line count nothing =
        let lengths = length-append a.read piece in
        let counted = a.counted in record {
          read = a.read ++ piece;
          verdicts = a.verdicts ++ more;
          consumed = Consumes-trans fed f f' a.read piece a.consumed consumed;
          under_way = forgotten now new (a.read ++ piece) (a.verdicts ++ more) line count (reads.reads a.read a.verdicts a.under_way);
          is_put = put_both (recorded_lines recorded a.verdicts) following (recorded_lines recorded (a.verdicts ++ more)) put p p' (recorded_lines-append recorded a.verdicts more) a.is_put
              (subst (Appends p p') all_recorded is_put);
          seen = Sees-both saw w x y a.verdicts more a.seen reads.seen;
          nothing = nothing;
          counted = omega arith;
        }

    -- the sink failed after it
    pub sink_failed : AppendsFront p p' (string_bytes now.text) → FrontAnswered P (recorded_lines recorded) fed f' put p'
    sink_failed is_put =
        let u = reads.reads a.read a.verdicts a.under_way in record {
          front = u.lines;
          rest = u.rest;
          verdicts = a.verdicts ++ more;
          consumed = subst (Consumes fed f') u.parts (Consumes-trans fed f f' a.read piece a.consumed consumed);
          answered = inl u.answered;
          is_put = front_both (recorded_lines recorded a.verdicts) following (recorded_lines recorded (a.verdicts ++ more)) put p p' (recorded_lines-append recorded a.verdicts more) a.is_put
              (subst (AppendsFront p p') all_recorded is_put);
        }

  -- the last line was answered
  module _ (fed f f' put p p' : Option (List ℕ)) (w x y : W) (old now : Answered) (n : ℕ) (more : List V)
      (consumed : Consumes f f' []) (ends : Ends P recorded saw old now x y more) (a : AreRead P recorded saw fed f put p w x old n) where
    abbrev last : List ℕ
    last = recorded_from recorded (suc (length a.verdicts)) more

    all_recorded_at_end : string_bytes now.text ≡ last
    all_recorded_at_end = ends.text a.read a.verdicts a.under_way ∙ ap (λ (t : List ℕ). t ++ last) a.nothing

    pub all_read : Appends p p' (string_bytes now.text) → AllAnswered P (recorded_lines recorded) saw fed f' put p' w y
    all_read is_put = record {
      bytes = a.read;
      verdicts = a.verdicts ++ more;
      consumed = subst (Consumes fed f') (append-nil a.read) (Consumes-trans fed f f' a.read [] a.consumed consumed);
      answered = ends.ends a.read a.verdicts a.under_way;
      is_put = put_both (recorded_lines recorded a.verdicts) last (recorded_lines recorded (a.verdicts ++ more)) put p p' (recorded_lines-append recorded a.verdicts more) a.is_put
          (subst (Appends p p') all_recorded_at_end is_put);
      seen = Sees-both saw w x y a.verdicts more a.seen ends.seen;
    }

    -- the sink failed after it
    pub sink_failed_at_end : IsAtEnd f' → AppendsFront p p' (string_bytes now.text) → FrontAnswered P (recorded_lines recorded) fed f' put p'
    sink_failed_at_end at_end is_put = record {
      front = a.read;
      rest = [];
      verdicts = a.verdicts ++ more;
      consumed = Consumes-trans fed f f' a.read [] a.consumed consumed;
      answered = inr (at_end, refl, ends.ends a.read a.verdicts a.under_way);
      is_put = front_both (recorded_lines recorded a.verdicts) last (recorded_lines recorded (a.verdicts ++ more)) put p p' (recorded_lines-append recorded a.verdicts more) a.is_put
          (subst (AppendsFront p p') all_recorded_at_end is_put);
    }
