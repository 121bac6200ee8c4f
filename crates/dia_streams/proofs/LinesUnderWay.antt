-- Lines that are answered as they are read.
use Rattle.std.proofs.Common.{◌≡◌, ◌≢◌, ℕ, ◌+◌, ◌<◌, List, [], ◌∷◌, ◌++◌, Result, Ok, Err, Bool, false, suc, zero, ◌↔◌, length, refl, sym, ap, subst, ◌∙◌, append_assoc, inl, inr, arith}
use Rattle.std.specs.Prelude.{string_bytes, IsTrue, OnOk}
use Rattle.std.proofs.lemmas.List.{append-nil, length-append}
use Rattle.std.proofs.lemmas.List.Elements.{All-append, All-nil}
use Rattle.dia_io.specs.declared.Input.{Input}
use Rattle.dia_streams.specs.declared.answered.Answered.{Answered}
use Rattle.dia_streams.specs.FeedToSink.{Sees}
use Rattle.dia_streams.specs.Lines.{AreAnswered, one_more, IsAnswered, IsLine, IsLineInput, line_feed, line_number, recorded_from}
use Rattle.dia_streams.specs.LinesUnderWay.{Ends, IsUnderWay, Reads}
use Rattle.dia_streams.proofs.LineNumbers.{both_recorded, last_recorded, one_more_line}

pub on_ok_map : {E A B : Type 0} (r : Result (Unit {0}) E) → (A → B) → OnOk r A → OnOk r B
on_ok_map (Ok u) f h = f h
on_ok_map (Err e) f h = tt

-- a test that fails
pub is_some : (b : Bool) (n : ℕ) → (IsTrue b ↔ (n ≡ 0)) → b ≡ false → 0 < n
is_some b zero h is = let yes = h.1 refl in absurd cc
is_some b (suc n) h is = omega arith

length_push : {V : Type 0} (verdicts : List V) (verdict : V) → length (verdicts ++ verdict ∷ []) ≡ suc (length verdicts)
length_push verdicts verdict = length-append verdicts (verdict ∷ []) ∙ omega arith

-- a line and its line feed at the front of a rest
pub next_line : (piece done rest line following : List ℕ) → piece ≡ done ++ rest → rest ≡ line ++ line_feed ∷ following
    → piece ≡ (done ++ (line ++ line_feed ∷ [])) ++ following
next_line piece done rest line following parts split = parts ∙ ap (λ (r : List ℕ). done ++ r) (split ∙ sym (append_assoc line (line_feed ∷ []) following))
    ∙ sym (append_assoc done (line ++ line_feed ∷ []) following)

pub Sees-nothing : {W V : Type 0} (saw : W → List V → Type 0) (now : W) → Sees saw now now []
Sees-nothing saw now before h = subst (saw now) (sym (append-nil before)) h

pub Sees-both : {W V : Type 0} (saw : W → List V → Type 0) (a b c : W) (xs ys : List V) → Sees saw a b xs → Sees saw b c ys → Sees saw a c (xs ++ ys)
Sees-both saw a b c xs ys h k before is = subst (saw c) (append_assoc before xs ys) (k (before ++ xs) (h before is))

module _ {V : Type 0} (P : Input → V → Type 0) where
  -- the line under way ended, and was answered
  line_ended : (old new : Answered) (line : Input) (bytes : List ℕ) (verdict : V) → IsLine bytes
      → ((all : List ℕ) → IsLineInput old.line all → IsLineInput line (all ++ bytes))
      → P line verdict → IsLineInput new.line [] → new.count ≡ line_number (old.count + 1)
      → (read : List ℕ) (verdicts : List V) → IsUnderWay P old read verdicts → IsUnderWay P new (read ++ (bytes ++ line_feed ∷ [])) (verdicts ++ verdict ∷ [])
  line_ended old new line bytes verdict is_line longer says whole more read verdicts u = record {
    lines = u.lines ++ ((u.rest ++ bytes) ++ line_feed ∷ []);
    rest = [];
    answered = one_more u.lines verdicts (u.rest ++ bytes) line verdict u.answered (All-append (λ c. c ≢ line_feed) u.rest bytes u.is_line is_line)
        (longer u.rest u.whole) says refl refl;
    parts = ap (λ (r : List ℕ). r ++ (bytes ++ line_feed ∷ [])) u.parts ∙ append_assoc u.lines u.rest (bytes ++ line_feed ∷ [])
        ∙ ap (λ (r : List ℕ). u.lines ++ r) (sym (append_assoc u.rest bytes (line_feed ∷ []))) ∙ sym (append-nil (u.lines ++ ((u.rest ++ bytes) ++ line_feed ∷ [])));
    is_line = All-nil (λ c. c ≢ line_feed);
    whole = whole;
    counted = one_more_line verdicts old.count new.count u.counted more ∙ ap line_number (sym (length_push verdicts verdict));
  }

  -- there is no line after the last line feed
  none_under_way : (now : Answered) (read : List ℕ) (verdicts : List V) → (u : IsUnderWay P now read verdicts) → length u.rest ≡ 0 → IsAnswered P read (verdicts ++ [])
  none_under_way now read verdicts u empty =
      inl (subst (λ (r : List ℕ). AreAnswered P r (verdicts ++ [])) (sym (u.parts ∙ no_line u.lines u.rest empty))
      (subst (AreAnswered P u.lines) (sym (append-nil verdicts)) u.answered))
    where
      no_line : (lines rest : List ℕ) → length rest ≡ 0 → lines ++ rest ≡ lines
      no_line lines [] empty = append-nil lines
      no_line lines (byte ∷ rest) empty = absurd (omega arith)

  -- the last line has no line feed
  last_answered : (old : Answered) (verdict : V) → P old.line verdict
      → (read : List ℕ) (verdicts : List V) → (u : IsUnderWay P old read verdicts) → 0 < length u.rest → IsAnswered P read (verdicts ++ verdict ∷ [])
  last_answered old verdict says read verdicts u some = inr (
    record { front = u.lines; line = u.rest; parts = u.parts; some = some; is_line = u.is_line },
    one_more u.lines verdicts u.rest old.line verdict u.answered u.is_line u.whole says
        (ap (λ (r : List ℕ). r ++ line_feed ∷ []) u.parts ∙ append_assoc u.lines u.rest (line_feed ∷ [])) refl,
  )

  module _ {W : Type 0} (recorded : ℕ → V → List ℕ) (saw : W → List V → Type 0) where
    pub Reads-line : (old mid new : Answered) (w x : W) (bytes : List ℕ) (verdict : V) → IsLine bytes
        → ((all : List ℕ) → IsLineInput old.line all → IsLineInput mid.line (all ++ bytes)) → string_bytes mid.text ≡ string_bytes old.text
        → P mid.line verdict → string_bytes new.text ≡ string_bytes mid.text ++ recorded new.count verdict → new.count ≡ line_number (old.count + 1)
        → Sees saw w x (verdict ∷ []) → IsLineInput new.line []
        → Reads P recorded saw old new w x (bytes ++ line_feed ∷ []) (verdict ∷ [])
    Reads-line old mid new w x bytes verdict is_line longer same says text more seen whole = record {
      text = λ read verdicts u. last_recorded recorded (suc (length verdicts)) new.count verdict (string_bytes old.text) (string_bytes new.text)
          (one_more_line verdicts old.count new.count u.counted more) (text ∙ ap (λ (t : List ℕ). t ++ recorded new.count verdict) same);
      seen = seen;
      reads = line_ended old new mid.line bytes verdict is_line longer says whole more;
    }

    pub Reads-nothing : (now : Answered) (w : W) → Reads P recorded saw now now w w [] []
    Reads-nothing now w = record {
      text = λ read verdicts u. sym (append-nil (string_bytes now.text));
      seen = Sees-nothing saw w;
      reads = λ read verdicts u. subst (λ (r : List ℕ). IsUnderWay P now r (verdicts ++ [])) (sym (append-nil read))
          (subst (IsUnderWay P now read) (sym (append-nil verdicts)) u);
    }

    pub Reads-both : (a b c : Answered) (w x y : W) (bytes more : List ℕ) (vs us : List V) → Reads P recorded saw a b w x bytes vs → Reads P recorded saw b c x y more us
        → Reads P recorded saw a c w y (bytes ++ more) (vs ++ us)
    Reads-both a b c w x y bytes more vs us h k = record {
      text = λ read verdicts u. both_recorded recorded verdicts vs us (string_bytes a.text) (string_bytes b.text) (string_bytes c.text) (h.text read verdicts u)
          (k.text (read ++ bytes) (verdicts ++ vs) (h.reads read verdicts u));
      seen = Sees-both saw w x y vs us h.seen k.seen;
      reads = λ read verdicts u. subst (λ (r : List ℕ). IsUnderWay P c r (verdicts ++ (vs ++ us))) (append_assoc read bytes more)
          (subst (IsUnderWay P c ((read ++ bytes) ++ more)) (append_assoc verdicts vs us) (k.reads (read ++ bytes) (verdicts ++ vs) (h.reads read verdicts u)));
    }

    -- the line under way became longer
    pub Reads-rest : (old new : Answered) (w : W) (bytes : List ℕ) → IsLine bytes
        → ((all : List ℕ) → IsLineInput old.line all → IsLineInput new.line (all ++ bytes))
        → string_bytes new.text ≡ string_bytes old.text → new.count ≡ old.count → Reads P recorded saw old new w w bytes []
    Reads-rest old new w bytes is_line longer same count = record {
      text = λ read verdicts u. same ∙ sym (append-nil (string_bytes old.text));
      seen = Sees-nothing saw w;
      reads = λ read verdicts u. record {
        lines = u.lines;
        rest = u.rest ++ bytes;
        answered = subst (AreAnswered P u.lines) (sym (append-nil verdicts)) u.answered;
        parts = ap (λ (r : List ℕ). r ++ bytes) u.parts ∙ append_assoc u.lines u.rest bytes;
        is_line = All-append (λ c. c ≢ line_feed) u.rest bytes u.is_line is_line;
        whole = longer u.rest u.whole;
        counted = count ∙ u.counted ∙ ap (λ (vs : List V). line_number (length vs)) (sym (append-nil verdicts));
      };
    }

    pub Ends-nothing : (now : Answered) (w : W) → ((all : List ℕ) → IsLineInput now.line all → length all ≡ 0) → Ends P recorded saw now now w w []
    Ends-nothing now w empty = record {
      text = λ read verdicts u. sym (append-nil (string_bytes now.text));
      seen = Sees-nothing saw w;
      ends = λ read verdicts u. none_under_way now read verdicts u (empty u.rest u.whole);
    }

    pub Ends-line : (old new : Answered) (w x : W) (verdict : V) → ((all : List ℕ) → IsLineInput old.line all → 0 < length all)
        → P old.line verdict → string_bytes new.text ≡ string_bytes old.text ++ recorded new.count verdict → new.count ≡ line_number (old.count + 1)
        → Sees saw w x (verdict ∷ []) → Ends P recorded saw old new w x (verdict ∷ [])
    Ends-line old new w x verdict some says text more seen = record {
      text = λ read verdicts u. last_recorded recorded (suc (length verdicts)) new.count verdict (string_bytes old.text) (string_bytes new.text)
          (one_more_line verdicts old.count new.count u.counted more) text;
      seen = seen;
      ends = λ read verdicts u. last_answered old verdict says read verdicts u (some u.rest u.whole);
    }
