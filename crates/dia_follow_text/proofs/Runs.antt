-- `follow` from a feed into a sink.
use Rattle.std.proofs.Common.{◌≡◌, ◌≢◌, ℕ, Bool, true, false, List, [], ◌++◌, Option, None, Some, Result, Ok, refl, sym, ap, subst, ◌∙◌, append_assoc, inl, inr}
use Rattle.std.specs.Prelude.{if◌then◌else◌, Err, IfOk, IsOk, IsTrue, string_bytes, unwrap_or}
use Rattle.std.specs.Io.KnownBytes.{Appends, Consumes, Keeps, IsAtEnd}
use Rattle.std.proofs.KnownBytes.{Appends-nil, Appends-trans, Consumes-nil, Consumes-trans, Consumes-kept}
use Rattle.std.proofs.lemmas.List.{append-nil}
use Rattle.std.proofs.lemmas.List.Elements.{All-nil}
use Rattle.dia_io.specs.declared.Exit.TheVariants as exits
use Rattle.dia_io.specs.declared.Input.{Input}
use Rattle.dia_io.specs.Writing.{AppendsFront}
use Rattle.dia_streams.specs.declared.fault.LinesFault.{LinesFault}
use Rattle.dia_streams.specs.Lines.{none, IsLineInput, line_feed}
use Rattle.dia_dict.specs.Dictionary.{Dictionary}
use Rattle.dia_follow_text.specs.declared.answering.Answered.{Answered}
use Rattle.dia_follow_text.specs.declared.answering.State.{State}
use Rattle.dia_follow_text.specs.declared.entry.BadLine.{BadLine}
use Rattle.dia_follow_text.specs.declared.options.Options.{Options}
use Rattle.dia_follow_text.specs.Answers.{bad_line}
use Rattle.dia_follow_text.specs.Outcome.{AreLines, IsFollowed, Progress, begun, exit_of, followed, notes, whole_text}
use Rattle.dia_follow_text.specs.UnderWay.{Ends, IsUnderWay, Reads, progress_at, progress_of, with_put}
use Rattle.dia_follow_text.specs.declared.running.Followed.{Followed}
use Rattle.dia_follow_text.specs.declared.running.Progress.{Progress as AnyProgress}
use Rattle.dia_follow_text.specs.declared.running.Progress.TheVariants as comes
use Rattle.dia_follow_text.specs.Runs.{AreEnded, AreRead, AreRefused, FrontFollowed, after_end, after_piece, exit_by}

-- a prefix that follows what was put
front_after : (a b c : Option (List ℕ)) (x y : List ℕ) → Appends a b x → AppendsFront b c y → AppendsFront a c (x ++ y)
front_after a b c x y h (front, rest, parts, k) =
    (x ++ front, rest, ap (λ (t : List ℕ). x ++ t) parts ∙ sym (append_assoc x front rest), Appends-trans a b c x front h k)

-- a prefix of a prefix
front_of_longer : (a c : Option (List ℕ)) (x y text : List ℕ) → text ≡ x ++ y → AppendsFront a c x → AppendsFront a c text
front_of_longer a c x y text is (front, rest, parts, k) =
    (front, rest ++ y, is ∙ ap (λ (t : List ℕ). t ++ y) parts ∙ append_assoc front rest y, k)

all_of_it : (a c : Option (List ℕ)) (text : List ℕ) → Appends a c text → AppendsFront a c text
all_of_it a c text k = (text, [], sym (append-nil text), k)

-- what wasn't put yet was put
put_through : (w t e : List ℕ) (n m : ℕ) (s r : State) → m ≡ n → r ≡ s → e ≡ [] → with_put w (progress_of n s t) ≡ with_put (w ++ t) (progress_of m r e)
put_through w t e n m s r number state nothing = sym (
    ap (λ (x : List ℕ). with_put (w ++ t) (progress_of m r x)) nothing ∙ ap (λ (x : List ℕ). progress_of m r x) (append-nil (w ++ t))
    ∙ ap (λ (k : ℕ). with_put w (progress_of k r t)) number ∙ ap (λ (k : State). with_put w (progress_of n k t)) state)

refused_text : (d : Dictionary) (json : Bool) (p : Progress) → p.refused ≡ true → whole_text d json p ≡ p.text
refused_text d json p is = ap (λ (b : Bool). if b then p.text else p.text ++ notes d json p.connection) is

refused_exit : (p : Progress) → p.refused ≡ true → exit_of p ≡ exits.Bad
refused_exit p is = ap (λ (b : Bool). if b then exits.Bad else (if p.departs then exits.No else exits.Yes)) is

sound_exit : (p : Progress) (departs : Bool) → p.refused ≡ false → p.departs ≡ departs → exit_of p ≡ exit_by departs
sound_exit p departs is same = ap (λ (b : Bool). if b then exits.Bad else exit_by p.departs) is ∙ ap exit_by same

is_true : (b : Bool) → b ≡ true → IsTrue b
is_true b is = is

pub same_departs : (s r : State) → s ≡ r → s.departs ≡ r.departs
same_departs s r is = ap (λ (t : State). t.departs) is

-- ---- what a feed has

the_bytes : (xs all : List ℕ) → Some xs ≡ Some all → xs ≡ all
the_bytes xs all is = ap (λ (o : Option (List ℕ)). unwrap_or o xs) is

-- what was read is the front of it
front_of_feed : (fed fed' : Option (List ℕ)) (bytes all : List ℕ) → Consumes fed fed' bytes → fed ≡ Some all → (left : List ℕ) × (all ≡ bytes ++ left) × (IsAtEnd fed' → left ≡ [])
front_of_feed None fed' bytes all h is = absurd (let z : None ≡ Some all = is in cc)
front_of_feed (Some xs) None bytes all h is = absurd h
front_of_feed (Some xs) (Some ys) bytes all h is = (ys, sym (the_bytes xs all is) ∙ h, λ e. e)

-- at the end it is all
all_of_feed : (fed fed' : Option (List ℕ)) (bytes all : List ℕ) → Consumes fed fed' bytes → IsAtEnd fed' → fed ≡ Some all → all ≡ bytes
all_of_feed fed fed' bytes all h at_end is =
    let (left, parts, empty) = front_of_feed fed fed' bytes all h is in
    parts ∙ ap (λ (l : List ℕ). bytes ++ l) (empty at_end) ∙ append-nil bytes

-- ---- what a piece comes to

pub ok_same : (x y : AnyProgress) → ◌≡◌ {A = Result AnyProgress LinesFault} (Ok x) (Ok y) → x ≡ y
ok_same x y is = let z : ◌≡◌ {A = Result AnyProgress LinesFault} (Ok x) (Ok y) = is in cc

pub ended_done : (o : Option BadLine) → after_end o ≡ comes.Done → o ≡ None
ended_done None is = refl
ended_done (Some b) is = absurd (let z : comes.Bad b ≡ comes.Done = is in cc)

pub ended_bad : (o : Option BadLine) (b : BadLine) → after_end o ≡ comes.Bad b → o ≡ Some b
ended_bad None b is = absurd (let z : comes.Done ≡ comes.Bad b = is in cc)
ended_bad (Some c) b is = let z : comes.Bad c ≡ comes.Bad b = is in cc

pub ended_more : (o : Option BadLine) → after_end o ≡ comes.More → ⊥
ended_more None is = let z : comes.Done ≡ comes.More = is in cc
ended_more (Some b) is = let z : comes.Bad b ≡ comes.More = is in cc

pub piece_more : (o : Option BadLine) → after_piece o ≡ comes.More → o ≡ None
piece_more None is = refl
piece_more (Some b) is = absurd (let z : comes.Bad b ≡ comes.More = is in cc)

pub piece_bad : (o : Option BadLine) (b : BadLine) → after_piece o ≡ comes.Bad b → o ≡ Some b
piece_bad None b is = absurd (let z : comes.More ≡ comes.Bad b = is in cc)
piece_bad (Some c) b is = let z : comes.Bad c ≡ comes.Bad b = is in cc

pub piece_done : (o : Option BadLine) → after_piece o ≡ comes.Done → ⊥
piece_done None is = let z : comes.More ≡ comes.Done = is in cc
piece_done (Some b) is = let z : comes.Bad b ≡ comes.Done = is in cc

module _ (d : Dictionary) (options : Options) where
  -- no piece was read
  pub first_read : (fed put : Option (List ℕ)) (now : Answered) → IsLineInput now.line [] → progress_at now ≡ begun options.middle → string_bytes now.text ≡ []
      → AreRead d options fed fed put put now
  first_read fed put now fresh is nothing = record {
    read = [];
    written = [];
    consumed = Consumes-nil fed;
    under_way = record {
      whole = [];
      rest = [];
      lines = [];
      answered = none;
      parts = refl;
      is_line = All-nil (λ c. c ≢ line_feed);
      under_way = fresh;
      progress = sym is;
    };
    is_put = Appends-nil put;
    nothing = nothing;
  }

  -- what was put is that of the lines of what was read
  put_text : (put p : Option (List ℕ)) (old : Answered) (read written : List ℕ) (u : IsUnderWay d options old written read) → string_bytes old.text ≡ [] → Appends put p written
      → AppendsFront put p (followed d options u.lines).text
  put_text put p old read written u nothing is_put =
      front_of_longer put p written (string_bytes old.text) _ (ap (λ (x : Progress). x.text) u.progress) (all_of_it put p written is_put)

  -- the feed failed, or memory was refused
  pub lines_before : (fed f f' put p : Option (List ℕ)) (old : Answered) (piece : List ℕ) → Consumes f f' piece → AreRead d options fed f put p old
      → FrontFollowed d options fed f' put p
  lines_before fed f f' put p old piece consumed a =
      let u = a.under_way in record {
        front = u.whole;
        rest = u.rest ++ piece;
        lines = u.lines;
        text = (followed d options u.lines).text;
        consumed = subst (Consumes fed f') (ap (λ (r : List ℕ). r ++ piece) u.parts ∙ append_assoc u.whole u.rest piece)
            (Consumes-trans fed f f' a.read piece a.consumed consumed);
        is_text = inl (u.answered, refl);
        is_put = put_text put p old a.read a.written u a.nothing a.is_put;
      }

  pub feed_failed : (fed f f' put p : Option (List ℕ)) (old : Answered) → Keeps f f' → AreRead d options fed f put p old → FrontFollowed d options fed f' put p
  feed_failed fed f f' put p old kept a =
      let u = a.under_way in record {
        front = u.whole;
        rest = u.rest;
        lines = u.lines;
        text = (followed d options u.lines).text;
        consumed = subst (Consumes fed f') u.parts (Consumes-kept fed f f' a.read a.consumed kept);
        is_text = inl (u.answered, refl);
        is_put = put_text put p old a.read a.written u a.nothing a.is_put;
      }

  pub whole_lines : (fed f put p : Option (List ℕ)) (old : Answered) → AreRead d options fed f put p old → FrontFollowed d options fed f put p
  whole_lines fed f put p old a =
      let u = a.under_way in record {
        front = u.whole;
        rest = u.rest;
        lines = u.lines;
        text = (followed d options u.lines).text;
        consumed = subst (Consumes fed f) u.parts a.consumed;
        is_text = inl (u.answered, refl);
        is_put = put_text put p old a.read a.written u a.nothing a.is_put;
      }

  -- ---- a piece was answered
  module _ (fed f f' put p p' : Option (List ℕ)) (old now : Answered) (piece : List ℕ) (consumed : Consumes f f' piece) (a : AreRead d options fed f put p old) where
    abbrev all_read : Consumes fed f' (a.read ++ piece)
    all_read = Consumes-trans fed f f' a.read piece a.consumed consumed

    pub piece_read : (new : Answered) → Reads d options old now piece None → Appends p p' (string_bytes now.text) → new.line ≡ now.line → new.number ≡ now.number
        → new.state ≡ now.state → string_bytes new.text ≡ [] → AreRead d options fed f' put p' new
    piece_read new reads is_put line number state nothing =
        let u = reads a.written a.read a.under_way in record {
          read = a.read ++ piece;
          written = a.written ++ string_bytes now.text;
          consumed = all_read;
          under_way = record {
            whole = u.whole;
            rest = u.rest;
            lines = u.lines;
            answered = u.answered;
            parts = u.parts;
            is_line = u.is_line;
            under_way = subst (λ (i : Input). IsLineInput i u.rest) (sym line) u.under_way;
            progress = u.progress ∙ put_through a.written (string_bytes now.text) (string_bytes new.text) now.number new.number now.state new.state number state nothing;
          };
          is_put = Appends-trans put p p' a.written (string_bytes now.text) a.is_put is_put;
          nothing = nothing;
        }

    pub piece_refused : (number : ℕ) (bad : BadLine) → Reads d options old now piece (Some bad) → Appends p p' (string_bytes now.text) → number ≡ now.number
        → AreRefused d options fed f' put p' number bad
    piece_refused number bad reads is_put same =
        let b = reads a.written a.read a.under_way in record {
          front = b.front;
          rest = b.rest;
          lines = b.lines;
          written = a.written ++ string_bytes now.text;
          consumed = subst (Consumes fed f') b.parts all_read;
          are_lines = inl b.answered;
          refused = b.refused.0;
          is_text = b.refused.1 ∙ ap (λ (n : ℕ). (a.written ++ string_bytes now.text) ++ bad_line options.json n bad) (sym same);
          is_put = Appends-trans put p p' a.written (string_bytes now.text) a.is_put is_put;
        }

    -- the sink failed after it
    pub sink_failed : (bad : Option BadLine) → Reads d options old now piece bad → AppendsFront p p' (string_bytes now.text) → FrontFollowed d options fed f' put p'
    sink_failed None reads is_put =
        let u = reads a.written a.read a.under_way in record {
          front = u.whole;
          rest = u.rest;
          lines = u.lines;
          text = a.written ++ string_bytes now.text;
          consumed = subst (Consumes fed f') u.parts all_read;
          is_text = inl (u.answered, sym (ap (λ (x : Progress). x.text) u.progress));
          is_put = front_after put p p' a.written (string_bytes now.text) a.is_put is_put;
        }
    sink_failed (Some bad) reads is_put =
        let b = reads a.written a.read a.under_way in record {
          front = b.front;
          rest = b.rest;
          lines = b.lines;
          text = (followed d options b.lines).text;
          consumed = subst (Consumes fed f') b.parts all_read;
          is_text = inl (b.answered, refl);
          is_put = front_of_longer put p' _ _ _ b.refused.1 (front_after put p p' a.written (string_bytes now.text) a.is_put is_put);
        }

  -- ---- the end was reached
  module _ (fed f f' put p p' : Option (List ℕ)) (old now : Answered) (consumed : Consumes f f' []) (at_end : IsAtEnd f') (a : AreRead d options fed f put p old) where
    abbrev all_consumed : Consumes fed f' a.read
    all_consumed = subst (Consumes fed f') (append-nil a.read) (Consumes-trans fed f f' a.read [] a.consumed consumed)

    pub all_ended : (departs : Bool) → Ends d options old now None → Appends p p' (string_bytes now.text) → departs ≡ now.state.departs
        → AreEnded d options fed f' put p' (exit_by departs)
    all_ended departs ends is_put same =
        let (lines, answered, (sound, is, whole)) = ends a.written a.read a.under_way in
        let outcome : IsFollowed d options a.read (a.written ++ string_bytes now.text) (exit_by departs) = record {
          front = a.read;
          rest = [];
          lines = lines;
          parts = sym (append-nil a.read);
          are_lines = inr (answered, refl);
          is_text = sym whole;
          is_exit = sym (sound_exit (followed d options lines) departs sound (is ∙ sym same));
        } in
        record {
          bytes = a.read;
          text = a.written ++ string_bytes now.text;
          consumed = all_consumed;
          outcome = outcome;
          whole = λ all is_all. subst (λ (b : List ℕ). IsFollowed d options b (a.written ++ string_bytes now.text) (exit_by departs))
              (sym (all_of_feed fed f' a.read all all_consumed at_end is_all)) outcome;
          is_put = Appends-trans put p p' a.written (string_bytes now.text) a.is_put is_put;
        }

    pub end_refused : (number : ℕ) (bad : BadLine) → Ends d options old now (Some bad) → Appends p p' (string_bytes now.text) → number ≡ now.number
        → AreRefused d options fed f' put p' number bad
    end_refused number bad ends is_put same =
        let (lines, answered, (refused, is)) = ends a.written a.read a.under_way in record {
          front = a.read;
          rest = [];
          lines = lines;
          written = a.written ++ string_bytes now.text;
          consumed = subst (Consumes fed f') (sym (append-nil a.read)) all_consumed;
          are_lines = inr (at_end, refl, answered);
          refused = refused;
          is_text = is ∙ ap (λ (n : ℕ). (a.written ++ string_bytes now.text) ++ bad_line options.json n bad) (sym same);
          is_put = Appends-trans put p p' a.written (string_bytes now.text) a.is_put is_put;
        }

    -- the sink failed after it
    pub sink_failed_at_end : (bad : Option BadLine) → Ends d options old now bad → AppendsFront p p' (string_bytes now.text) → FrontFollowed d options fed f' put p'
    sink_failed_at_end None ends is_put =
        let (lines, answered, (sound, is, whole)) = ends a.written a.read a.under_way in record {
          front = a.read;
          rest = [];
          lines = lines;
          text = a.written ++ string_bytes now.text;
          consumed = subst (Consumes fed f') (sym (append-nil a.read)) all_consumed;
          is_text = inr (at_end, refl, answered, sym whole);
          is_put = front_after put p p' a.written (string_bytes now.text) a.is_put is_put;
        }
    sink_failed_at_end (Some bad) ends is_put =
        let (lines, answered, (refused, is)) = ends a.written a.read a.under_way in record {
          front = a.read;
          rest = [];
          lines = lines;
          text = (followed d options lines).text;
          consumed = subst (Consumes fed f') (sym (append-nil a.read)) all_consumed;
          is_text = inr (at_end, refl, answered, sym (refused_text d options.json (followed d options lines) refused));
          is_put = front_of_longer put p' _ _ _ is (front_after put p p' a.written (string_bytes now.text) a.is_put is_put);
        }

  -- ---- a line is refused
  module _ (fed f' put p p' : Option (List ℕ)) (number : ℕ) (bad : BadLine) (a : AreRefused d options fed f' put p number bad) where
    abbrev last : Progress
    last = followed d options a.lines

    the_lines : AreLines d options a.front a.rest a.lines
    the_lines = elim a.are_lines [ inl h ↦ inl (h, is_true last.refused a.refused) | inr h ↦ inr (h.2, h.1) ]

    abbrev answer : List ℕ
    answer = a.written ++ bad_line options.json number bad

    outcome_of : (bytes rest : List ℕ) → bytes ≡ a.front ++ rest → AreLines d options a.front rest a.lines → IsFollowed d options bytes answer exits.Bad
    outcome_of bytes rest parts are_lines = record {
      front = a.front;
      rest = rest;
      lines = a.lines;
      parts = parts;
      are_lines = are_lines;
      is_text = sym (refused_text d options.json last a.refused ∙ a.is_text);
      is_exit = sym (refused_exit last a.refused);
    }

    -- all that the feed has
    outcome_of_all : (all : List ℕ) → fed ≡ Some all → IsFollowed d options all answer exits.Bad
    outcome_of_all all is =
        let (left, parts, empty) = front_of_feed fed f' (a.front ++ a.rest) all a.consumed is in
        outcome_of all (a.rest ++ left) (parts ∙ append_assoc a.front a.rest left)
        (elim a.are_lines [
          | inl h ↦ inl (h, is_true last.refused a.refused)
          | inr h ↦ inr (h.2, ap (λ (r : List ℕ). r ++ left) h.1 ∙ empty h.0)
        ])

    pub line_refused : Appends p p' (bad_line options.json number bad) → AreEnded d options fed f' put p' exits.Bad
    line_refused is_put = record {
      bytes = a.front ++ a.rest;
      text = answer;
      consumed = a.consumed;
      outcome = outcome_of (a.front ++ a.rest) a.rest refl the_lines;
      whole = outcome_of_all;
      is_put = Appends-trans put p p' a.written (bad_line options.json number bad) a.is_put is_put;
    }

    pub refusal_begun : AppendsFront p p' (bad_line options.json number bad) → FrontFollowed d options fed f' put p'
    refusal_begun is_put = record {
      front = a.front;
      rest = a.rest;
      lines = a.lines;
      text = a.written ++ bad_line options.json number bad;
      consumed = a.consumed;
      is_text = elim a.are_lines [
        | inl h ↦ inl (h, sym a.is_text)
        | inr h ↦ inr (h.0, h.1, h.2, sym (refused_text d options.json last a.refused ∙ a.is_text))
      ];
      is_put = front_after put p p' a.written (bad_line options.json number bad) a.is_put is_put;
    }

    pub refused_exact : (r : Result Followed LinesFault) → (IsOk r → Appends p p' (bad_line options.json number bad)) → IfOk r (λ f. f.reported.exit ≡ exits.Bad)
        → IfOk r (λ f. AreEnded d options fed f' put p' f.reported.exit)
    refused_exact (Ok one) is_put exit = subst (AreEnded d options fed f' put p') (sym exit) (line_refused (is_put refl))
    refused_exact (Err e) is_put exit = tt
