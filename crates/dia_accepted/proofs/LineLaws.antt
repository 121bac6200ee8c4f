-- What the reader reads is a line of the grammar, and where it stops none goes on.
use Rattle.std.proofs.Common.{◌≡◌, ◌⊎◌, inl, inr, ℕ, ◌+◌, ◌-◌, Bool, true, false, cond, List, [], ◌∷◌, ◌++◌, length, drop}
use Rattle.std.proofs.Common.{Option, Some, None, refl, sym, ap, subst, ◌∙◌, arith}
use Rattle.std.specs.Prelude.{◌==◌, Result, Ok, Err, is_some}
use Rattle.std.proofs.lemmas.Bool.{eqb-false, eqb-true}
use Rattle.std.proofs.lemmas.List.{append-nil, drop_at, length-append}
use Rattle.dia_accepted.specs.declared.line.Verdict.{Verdict}
use Rattle.dia_accepted.specs.declared.line.Verdict.TheVariants.{Undecided}
use Rattle.dia_accepted.specs.LineReader.{Front, answer_by, answer_read, and_then, colon_read, detail_read, front_read, line_by}
use Rattle.dia_accepted.specs.LineReader.{line_read, once_by, once_read, or_at, or_once, path_read, subject_read, verdict_read}
use Rattle.dia_accepted.specs.Lines.{BeginsOnce, Form, IsAnswer, IsLine, IsMisfit, IsOnce, PlainLine, StopsAt, answer, detail}
use Rattle.dia_accepted.specs.Lines.{front, once, one, verdict}
use Rattle.dia_accepted.proofs.Forms.{Both, Reads, Stops, reads_then, stops_then, then_stops, whole}
use Rattle.dia_accepted.proofs.LineParts.{Colon, Found, Path, Subject, colon_is, path_is, subject_is, verdict_is}
use Rattle.dia_accepted.proofs.OnceEnds.{End, EndRead, detail_is}

-- ---- `REASON SUBJECT: `

abbrev pub Fronts : Front → Form
Fronts f = front f.0 f.1

abbrev Fronts_parts : Verdict × (List ℕ × Unit {0}) → Form
Fronts_parts p = Both verdict (Both Subject Colon) p

abbrev pub FrontRead : List ℕ → Result (Front × List ℕ) (List ℕ) → Type 0
FrontRead text (Ok found) = Reads Fronts text found.0 found.1
FrontRead text (Err rest) = Stops Fronts text rest

front_stops : (text rest : List ℕ) → Stops Fronts_parts text rest → Stops Fronts text rest
front_stops text rest s = record {
  none = λ f r d. s.none (f.0, (f.1, tt)) r d;
  value = (s.value.0, s.value.1.0);
  reached = s.reached;
  furthest = λ f r d. s.furthest (f.0, (f.1, tt)) r d;
  ends = s.ends;
}

front_reads : (text rest subject : List ℕ) (v : Verdict) → Reads Fronts_parts text (v, (subject, tt)) rest → Reads Fronts text (v, subject) rest
front_reads text rest subject v s = record {
  derives = s.derives;
  only = λ f r d. let is = s.only (f.0, (f.1, tt)) r d in ((λ i. ((is.0 i).0, (is.0 i).1.0)), is.1);
  reach = λ f r d. s.reach (f.0, (f.1, tt)) r d;
  ends = s.ends;
}

pub front_is : (text : List ℕ) → FrontRead text (front_read text)
front_is text = by (verdict_read text) (verdict_is text)
  where
    colon_found : (t : List ℕ) → Option (List ℕ) → Type 0
    colon_found t o = Found Colon t (elim o as (λ p. Option (Unit {0} × List ℕ)) [ None ↦ None | Some rest ↦ Some (tt, rest) ])

    by_colon : (v : Verdict × List ℕ) → Reads verdict text v.0 v.1 → (s : List ℕ × List ℕ) → Reads Subject v.1 s.0 s.1 → (o : Option (List ℕ))
        → Found Colon s.1 (elim o as (λ p. Option (Unit {0} × List ℕ)) [ None ↦ None | Some rest ↦ Some (tt, rest) ]) → FrontRead text (or_at s.1 o (λ rest. Ok ((v.0, s.0), rest)))
    by_colon v first s second None third =
        front_stops text s.1 (then_stops verdict (Both Subject Colon) text v.0 v.1 s.1 first (then_stops Subject Colon v.1 s.0 s.1 s.1 second third))
    by_colon v first s second (Some rest) third =
        front_reads text rest s.0 v.0 (reads_then verdict (Both Subject Colon) text v.0 v.1 (s.0, tt) rest first (reads_then Subject Colon v.1 s.0 s.1 tt rest second third))

    by_subject : (v : Verdict × List ℕ) → Reads verdict text v.0 v.1 → (o : Option (List ℕ × List ℕ)) → Found Subject v.1 o
        → FrontRead text (or_at v.1 o (λ s. or_at s.1 (colon_read s.1) (λ rest. Ok ((v.0, s.0), rest))))
    by_subject v first None second = front_stops text v.1 (then_stops verdict (Both Subject Colon) text v.0 v.1 v.1 first (stops_then Subject Colon v.1 tt v.1 second))
    by_subject v first (Some s) second = by_colon v first s second (colon_read s.1) (colon_is s.1)

    by : (o : Option (Verdict × List ℕ)) → Found verdict text o → FrontRead text (or_at text o (λ v. or_at v.1 (subject_read v.1) (λ s. or_at s.1 (colon_read s.1) (λ rest. Ok ((v.0, s.0), rest)))))
    by None first = front_stops text text (stops_then verdict (Both Subject Colon) text ([], tt) text first)
    by (Some v) first = by_subject v first (subject_read v.1) (subject_is v.1)

-- ---- a line of an answer

abbrev Detail : List ℕ → Form
Detail d = one (detail d)

abbrev Answer_parts : Option (List ℕ) × (Unit {0} × (Front × List ℕ)) → Form
Answer_parts p = Both Path (Both Colon (Both Fronts Detail)) p

abbrev pub AnswerRead : List ℕ → Result PlainLine (List ℕ) → Type 0
AnswerRead words (Ok line) = IsAnswer words line
AnswerRead words (Err rest) = Stops answer words rest

answer_stops : (words rest : List ℕ) → Stops Answer_parts words rest → Stops answer words rest
answer_stops words rest s = record {
  none = λ l r d. s.none (l.path, (tt, ((l.verdict, l.subject), l.detail))) r d;
  value = record { path = s.value.0; verdict = s.value.1.1.0.0; subject = s.value.1.1.0.1; detail = s.value.1.1.1 };
  reached = s.reached;
  furthest = λ l r d. s.furthest (l.path, (tt, ((l.verdict, l.subject), l.detail))) r d;
  ends = s.ends;
}

-- nothing is left for the detail
no_detail : (text : List ℕ) → text ≡ [] → Stops Detail text text
no_detail text none = record {
  none = λ d r is. is.1 (by d r (sym none ∙ is.0));
  value = [];
  reached = inl refl;
  furthest = λ d r reached. let e = ap length none in omega (arith, e);
  ends = whole text;
}
  where
    by : (d r : List ℕ) → [] ≡ d ++ r → d ≡ []
    by [] r e = refl
    by (x ∷ xs) r e = absurd (let z : [] ≡ x ∷ (xs ++ r) = e in cc)

pub answer_is : (words : List ℕ) → AnswerRead words (answer_read words)
answer_is words = by (path_read words) (path_is words)
  where
    by_detail : (p : Option (List ℕ) × List ℕ) → Reads Path words p.0 p.1 → (text : List ℕ) → Reads Colon p.1 tt text → (f : Front × List ℕ) → Reads Fronts text f.0 f.1
        → (b : Bool) → (length f.1 == 0) ≡ b → AnswerRead words (cond b (Err f.1) (Ok (line_by p.0 f.0 f.1)))
    by_detail p first text second f third true e =
        let none = empty f.1 (eqb-true (length f.1) 0 e) in
        answer_stops words f.1 (then_stops Path (Both Colon (Both Fronts Detail)) words p.0 p.1 f.1 first
        (then_stops Colon (Both Fronts Detail) p.1 tt text f.1 second (then_stops Fronts Detail text f.0 f.1 f.1 third (no_detail f.1 none))))
      where
        empty : (xs : List ℕ) → length xs ≡ 0 → xs ≡ []
        empty [] e = refl
        empty (x ∷ xs) e = absurd (omega (arith, e))
    by_detail p first text second f third false e =
        (p.1, first.derives, (text, second.derives, (f.1, third.derives, (sym (append-nil f.1), (λ none. eqb-false (length f.1) 0 e (ap length none))))))

    by_front : (p : Option (List ℕ) × List ℕ) → Reads Path words p.0 p.1 → (text : List ℕ) → Reads Colon p.1 tt text → (found : Result (Front × List ℕ) (List ℕ)) → FrontRead text found
        → AnswerRead words (and_then found (answer_by p.0))
    by_front p first text second (Err rest) third =
        answer_stops words rest (then_stops Path (Both Colon (Both Fronts Detail)) words p.0 p.1 rest first
        (then_stops Colon (Both Fronts Detail) p.1 tt text rest second (stops_then Fronts Detail text [] rest third)))
    by_front p first text second (Ok f) third = by_detail p first text second f third (length f.1 == 0) refl

    by_colon : (p : Option (List ℕ) × List ℕ) → Reads Path words p.0 p.1 → (o : Option (List ℕ))
        → Found Colon p.1 (elim o as (λ q. Option (Unit {0} × List ℕ)) [ None ↦ None | Some rest ↦ Some (tt, rest) ])
        → AnswerRead words (or_at p.1 o (λ text. and_then (front_read text) (answer_by p.0)))
    by_colon p first None second =
        answer_stops words p.1 (then_stops Path (Both Colon (Both Fronts Detail)) words p.0 p.1 p.1 first (stops_then Colon (Both Fronts Detail) p.1 ((Undecided None, []), []) p.1 second))
    by_colon p first (Some text) second = by_front p first text second (front_read text) (front_is text)

    by : (o : Option (Option (List ℕ) × List ℕ)) → Found Path words o → AnswerRead words (or_at words o (λ p. or_at p.1 (colon_read p.1) (λ text. and_then (front_read text) (answer_by p.0))))
    by None first = answer_stops words words (stops_then Path (Both Colon (Both Fronts Detail)) words (tt, ((Undecided None, []), [])) words first)
    by (Some p) first = by_colon p first (colon_read p.1) (colon_is p.1)

-- ---- a line of `--once`

abbrev Once_parts : Front × List ℕ → Form
Once_parts p = Both Fronts End p

abbrev pub OnceRead : List ℕ → Result PlainLine (List ℕ) → Type 0
OnceRead words (Ok line) = IsOnce words line
OnceRead words (Err rest) = Stops once words rest

once_stops : (words rest : List ℕ) → Stops Once_parts words rest → Stops once words rest
once_stops words rest s = record {
  none = λ l r d. s.none ((l.verdict, l.subject), l.detail) r d;
  value = record { path = None; verdict = s.value.0.0; subject = s.value.0.1; detail = s.value.1 };
  reached = s.reached;
  furthest = λ l r d. s.furthest ((l.verdict, l.subject), l.detail) r d;
  ends = s.ends;
}

once_is : (words : List ℕ) → OnceRead words (once_read words)
once_is words = by (front_read words) (front_is words)
  where
    by_end : (f : Front × List ℕ) → Reads Fronts words f.0 f.1 → (o : Option (List ℕ)) → EndRead f.1 o → OnceRead words (or_at [] o (λ d. Ok (line_by None f.0 d)))
    by_end f first None second = once_stops words [] (then_stops Fronts End words f.0 f.1 [] first second)
    by_end f first (Some d) second = (refl, (f.1, first.derives, second))

    by : (found : Result (Front × List ℕ) (List ℕ)) → FrontRead words found → OnceRead words (and_then found once_by)
    by (Err rest) first = once_stops words rest (stops_then Fronts End words [] rest first)
    by (Ok f) first = by_end f first (detail_read f.1) (detail_is f.1)

-- ---- a line

-- of a rest: no line is read, and of the form of which the words begin none goes on there
pub record NoLine (words rest : List ℕ) : Type 0 where
  pub none : (l : PlainLine) → ¬ IsLine words l
  pub stops : (BeginsOnce words × Stops once words rest) ⊎ ((BeginsOnce words → ⊥) × Stops answer words rest)

abbrev pub LineRead : List ℕ → Result PlainLine (List ℕ) → Type 0
LineRead words (Ok line) = IsLine words line
LineRead words (Err rest) = NoLine words rest

line_is : (words : List ℕ) → LineRead words (line_read words)
line_is words = by (answer_read words) (answer_is words)
  where
    by_once : (other : List ℕ) → Stops answer words other → BeginsOnce words → (found : Result PlainLine (List ℕ)) → OnceRead words found → LineRead words found
    by_once other first begins (Ok line) second = inr (second, λ l d. first.none l [] d)
    by_once other first begins (Err rest) second = record {
      none = λ l is. elim is [ inl d ↦ first.none l [] d | inr d ↦ second.none l [] d.0.1 ];
      stops = inl (begins, second);
    }

    by_verdict : (rest : List ℕ) → Stops answer words rest → (o : Option (Verdict × List ℕ)) → Found verdict words o → LineRead words (cond (is_some o) (once_read words) (Err rest))
    by_verdict rest first (Some v) second = by_once rest first (v.0, v.1, second.derives) (once_read words) (once_is words)
    by_verdict rest first None second = record {
      none = λ l is. elim is [ inl d ↦ first.none l [] d | inr d ↦ second.none l.verdict d.0.1.1.0 d.0.1.1.1 ];
      stops = inr ((λ begins. second.none begins.0 begins.1 begins.2), first);
    }

    by : (found : Result PlainLine (List ℕ)) → AnswerRead words found → LineRead words (or_once words found)
    by (Ok line) first = inl first
    by (Err rest) first = by_verdict rest first (verdict_read words) (verdict_is words)

-- ---- what the reader answers

pub line_found : (words : List ℕ) (line : PlainLine) → line_read words ≡ Ok line → IsLine words line
line_found words line e = subst (LineRead words) e (line_is words)

stops_at : (form : PlainLine → Form) (words rest : List ℕ) (at : ℕ) → at ≡ length words - length rest → Stops form words rest → StopsAt form words at
stops_at form words rest at is s =
    let before = s.ends.0 in
    let parts = s.ends.1 in
    let total : length words ≡ length before + length rest = ap length parts ∙ length-append before rest in
    let same : length before ≡ at = omega (arith, is, total) in
    let left : drop at words ≡ rest = ap (drop at) parts ∙ drop_at before rest at same in
    record {
      within = omega (arith, is);
      line = s.value;
      reached = subst (λ (xs : List ℕ). (form s.value).reaches words xs) (sym left) s.reached;
      furthest = λ other r d. let l = s.furthest other r d in omega (arith, is, total, l);
    }

pub no_line_found : (words rest : List ℕ) (at : ℕ) → at ≡ length words - length rest → line_read words ≡ Err rest → IsMisfit words at
no_line_found words rest at is e =
    let no_line = subst (LineRead words) e (line_is words) in
    record {
      none = no_line.none;
      stops = elim no_line.stops [
        | inl once_like ↦ inl (once_like.0, stops_at once words rest at is once_like.1)
        | inr other ↦ inr (other.0, stops_at answer words rest at is other.1)
      ];
    }
