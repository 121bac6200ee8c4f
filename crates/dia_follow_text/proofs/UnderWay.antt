-- Lines of a connection that are answered as they are read.
use Rattle.std.proofs.Common.{◌≡◌, ◌≢◌, ℕ, ◌+◌, ◌<◌, Bool, true, false, List, [], ◌∷◌, ◌++◌, Option, None, Some, length, refl, sym, ap, subst, ◌∙◌, append_assoc, inl, inr, arith}
use Rattle.std.specs.Prelude.{is_some, string_bytes}
use Rattle.std.specs.Prelude.{◌||◌}
use Rattle.std.proofs.lemmas.List.{append-nil}
use Rattle.std.proofs.lemmas.List.Elements.{All-append, All-nil}
use Rattle.std.proofs.lemmas.List.Sums.{fold-append}
use Rattle.dia_io.specs.declared.Input.{Input}
use Rattle.dia_streams.proofs.LinesUnderWay.{next_line as next_piece}
use Rattle.dia_streams.specs.Lines.{AreAnswered, one_more, IsAnswered, IsLine, IsLineInput, line_feed, line_number}
use Rattle.dia_dict.specs.Dictionary.{Dictionary}
use Rattle.dia_follow.specs.Connections.{PlainConnection, after, findings_of}
use Rattle.dia_follow_text.specs.declared.answering.Answered.{Answered}
use Rattle.dia_follow_text.specs.declared.answering.State.{State}
use Rattle.dia_follow_text.specs.declared.entry.BadLine.{BadLine}
use Rattle.dia_follow_text.specs.declared.options.Options.{Options}
use Rattle.dia_follow_text.specs.Answers.{answer_text, bad_line, departs}
use Rattle.dia_follow_text.specs.Outcome.{Captured, IsLineOf, PlainLine, nothing, refused, captured, Progress, answered_line, followed, line_at, next_line, notes, whole_text}
use Rattle.dia_follow_text.specs.UnderWay.{Ends, HasRead, IsRefused, IsUnderWay, Reaches, ReachesNow, Reads, ReadsLast, progress_at, progress_of, with_put}

-- what was put before makes no difference
answered_put : (d : Dictionary) (json : Bool) (number : ℕ) (put : List ℕ) (p : Progress) (line : PlainLine)
    → answered_line d json number (with_put put p) line ≡ with_put put (answered_line d json number p line)
answered_put d json number put p nothing = refl
answered_put d json number put p (refused bad) =
    ap (λ (t : List ℕ). record { number = number; connection = p.connection; departs = p.departs; text = t; refused = true }) (append_assoc put p.text (bad_line json number bad))
answered_put d json number put p (captured m) =
    ap
    (λ (t : List ℕ).
    record {
      number = number;
      connection = after p.connection m.end (line_at number m);
      departs = p.departs || departs (findings_of p.connection m.end (line_at number m));
      text = t;
      refused = false;
    })
    (append_assoc put p.text (answer_text json d p.connection m.end (line_at number m) m.verdict))

-- the number of the line before makes none
renumbered : (d : Dictionary) (json : Bool) (number a b : ℕ) (s : State) (t : List ℕ) (line : PlainLine)
    → answered_line d json number (progress_of a s t) line ≡ answered_line d json number (progress_of b s t) line
renumbered d json number a b s t nothing = refl
renumbered d json number a b s t (refused bad) = refl
renumbered d json number a b s t (captured m) = refl

pub answered_now : (d : Dictionary) (json : Bool) (old : Answered) (number : ℕ) (line : PlainLine) (s : State) (t : List ℕ) (bad : Option BadLine)
    → number ≡ line_number (old.number + 1) → Reaches json (answered_line d json number (progress_of number old.state (string_bytes old.text)) line) number s t bad
    → Reaches json (next_line d json (progress_at old) line) number s t bad
answered_now d json old number line s t bad is h =
    subst (λ (n : ℕ). Reaches json (answered_line d json n (progress_at old) line) number s t bad) is
    (subst (λ (p : Progress). Reaches json p number s t bad) (renumbered d json number number old.number old.state (string_bytes old.text) line) h)

abbrev progress : ℕ → PlainConnection → Bool → List ℕ → Progress
progress number c x t = record { number = number; connection = c; departs = x; text = t; refused = false }

same_progress : (number : ℕ) (a b : PlainConnection) (x y : Bool) (t u : List ℕ) → a ≡ b → x ≡ y → t ≡ u
    → progress number a x t ≡ progress number b y u
same_progress number a b x y t u h k l =
    ap (λ (c : PlainConnection). progress number c x t) h ∙ ap (λ (z : Bool). progress number b z t) k ∙ ap (λ (v : List ℕ). progress number b y v) l

pub message_answered : (d : Dictionary) (json : Bool) (number : ℕ) (old new : State) (before text : List ℕ) (m : Captured)
    → new.connection ≡ after old.connection m.end (line_at number m) → new.departs ≡ (old.departs || departs (findings_of old.connection m.end (line_at number m)))
    → text ≡ before ++ answer_text json d old.connection m.end (line_at number m) m.verdict
    → progress_of number new text ≡ answered_line d json number (progress_of number old before) (captured m)
message_answered d json number old new before text m h k l =
    same_progress number new.connection (after old.connection m.end (line_at number m)) new.departs (old.departs || departs (findings_of old.connection m.end (line_at number m))) text
    (before ++ answer_text json d old.connection m.end (line_at number m) m.verdict) h k l

module _ (d : Dictionary) (options : Options) where
  abbrev P : Input → PlainLine → Type 0
  P = IsLineOf d options.check

  abbrev next : Answered → PlainLine → Progress
  next old line = next_line d options.json (progress_at old) line

  -- one more line
  more : (old : Answered) (put : List ℕ) (lines : List PlainLine) (line : PlainLine) → followed d options lines ≡ with_put put (progress_at old)
      → followed d options (lines ++ line ∷ []) ≡ with_put put (next old line)
  more old put lines line is =
      fold-append (next_line d options.json) _ lines (line ∷ []) ∙ ap (λ (p : Progress). next_line d options.json p line) is
      ∙ answered_put d options.json (line_number (old.number + 1)) put (progress_at old) line

  one_refused : (old new : Answered) (put : List ℕ) (lines : List PlainLine) (line : PlainLine) (bad : BadLine) → followed d options lines ≡ with_put put (progress_at old)
      → ReachesNow options.json (next old line) new (Some bad) → IsRefused d options new put (lines ++ line ∷ []) bad
  one_refused old new put lines line bad is reach = (
    ap (λ (p : Progress). p.refused) (more old put lines line is) ∙ reach.0,
    ap (λ (p : Progress). p.text) (more old put lines line is) ∙ ap (λ (t : List ℕ). put ++ t) reach.1
        ∙ sym (append_assoc put (string_bytes new.text) (bad_line options.json new.number bad)),
  )

  -- ---- the line under way ended, and was answered
  module _ (old mid new : Answered) (bytes : List ℕ) (line : PlainLine) (is_line : IsLine bytes)
      (longer : (all : List ℕ) → IsLineInput old.line all → IsLineInput mid.line (all ++ bytes)) (same : progress_at mid ≡ progress_at old)
      (says : P mid.line line) (fresh : IsLineInput new.line []) where
    abbrev end_of : (put read : List ℕ) → IsUnderWay d options old put read → List ℕ
    end_of put read u = u.whole ++ ((u.rest ++ bytes) ++ line_feed ∷ [])

    all_answered : (put read : List ℕ) (u : IsUnderWay d options old put read) → AreAnswered P (end_of put read u) (u.lines ++ line ∷ [])
    all_answered put read u = one_more u.whole u.lines (u.rest ++ bytes) mid.line line u.answered (All-append (λ c. c ≢ line_feed) u.rest bytes u.is_line is_line)
        (longer u.rest u.under_way) says refl refl

    all_parts : (put read : List ℕ) (u : IsUnderWay d options old put read) → read ++ (bytes ++ line_feed ∷ []) ≡ end_of put read u ++ []
    all_parts put read u =
        ap (λ (r : List ℕ). r ++ (bytes ++ line_feed ∷ [])) u.parts ∙ append_assoc u.whole u.rest (bytes ++ line_feed ∷ [])
        ∙ ap (λ (r : List ℕ). u.whole ++ r) (sym (append_assoc u.rest bytes (line_feed ∷ []))) ∙ sym (append-nil (end_of put read u))

    pub Reads-line : (bad : Option BadLine) → ReachesNow options.json (next mid line) new bad → Reads d options old new (bytes ++ line_feed ∷ []) bad
    Reads-line None reach put read u = record {
      whole = end_of put read u;
      rest = [];
      lines = u.lines ++ line ∷ [];
      answered = all_answered put read u;
      parts = all_parts put read u;
      is_line = All-nil (λ c. c ≢ line_feed);
      under_way = fresh;
      progress = more mid put u.lines line (u.progress ∙ ap (with_put put) (sym same)) ∙ ap (with_put put) reach;
    }
    Reads-line (Some bad) reach put read u = record {
      front = end_of put read u;
      rest = [];
      lines = u.lines ++ line ∷ [];
      answered = all_answered put read u;
      parts = all_parts put read u;
      refused = one_refused mid new put u.lines line bad (u.progress ∙ ap (with_put put) (sym same)) reach;
    }

  pub Reads-nothing : (now : Answered) → Reads d options now now [] None
  Reads-nothing now put read u = subst (IsUnderWay d options now put) (sym (append-nil read)) u

  pub Reads-both : (a b c : Answered) (bytes following : List ℕ) (bad : Option BadLine) → Reads d options a b bytes None → Reads d options b c following bad
      → Reads d options a c (bytes ++ following) bad
  Reads-both a b c bytes following bad h k put read u =
      subst (λ (r : List ℕ). HasRead d options c put r bad) (append_assoc read bytes following) (k put (read ++ bytes) (h put read u))

  -- what follows a line that is refused isn't looked at
  pub Reads-refused : (a b : Answered) (bytes following : List ℕ) (bad : BadLine) → Reads d options a b bytes (Some bad) → Reads d options a b (bytes ++ following) (Some bad)
  Reads-refused a b bytes following bad h put read u =
      let s = h put read u in record {
        front = s.front;
        rest = s.rest ++ following;
        lines = s.lines;
        answered = s.answered;
        parts = sym (append_assoc read bytes following) ∙ ap (λ (r : List ℕ). r ++ following) s.parts ∙ append_assoc s.front s.rest following;
        refused = s.refused;
      }

  -- the line under way became longer
  pub Reads-rest : (old new : Answered) (bytes : List ℕ) → IsLine bytes → ((all : List ℕ) → IsLineInput old.line all → IsLineInput new.line (all ++ bytes))
      → progress_at new ≡ progress_at old → Reads d options old new bytes None
  Reads-rest old new bytes is_line longer same put read u = record {
    whole = u.whole;
    rest = u.rest ++ bytes;
    lines = u.lines;
    answered = u.answered;
    parts = ap (λ (r : List ℕ). r ++ bytes) u.parts ∙ append_assoc u.whole u.rest bytes;
    is_line = All-append (λ c. c ≢ line_feed) u.rest bytes u.is_line is_line;
    under_way = longer u.rest u.under_way;
    progress = u.progress ∙ ap (with_put put) (sym same);
  }

  -- ---- a loop over lines

  pub none_of : (bad : Option BadLine) → is_some bad ≡ false → bad ≡ None
  none_of None is = refl
  none_of (Some b) is = absurd (let z : true ≡ false = is in cc)

  pub line_read : (a b c : Answered) (done line : List ℕ) (bad : Option BadLine) → is_some bad ≡ false → Reads d options a b done None → Reads d options b c line bad
      → Reads d options a c (done ++ line) None
  line_read a b c done line bad is h k = Reads-both a b c done line None h (subst (λ (o : Option BadLine). Reads d options b c line o) (none_of bad is) k)

  pub line_refused : (a b c : Answered) (piece done rest line following : List ℕ) (bad : Option BadLine) → piece ≡ done ++ rest → rest ≡ line ++ line_feed ∷ following → is_some bad ≡ true
      → Reads d options a b done None → Reads d options b c (line ++ line_feed ∷ []) bad → Reads d options a c piece bad
  line_refused a b c piece done rest line following (Some bad) parts split is h k =
      subst (λ (bytes : List ℕ). Reads d options a c bytes (Some bad)) (sym (next_piece piece done rest line following parts split))
      (Reads-refused a c (done ++ (line ++ line_feed ∷ [])) following bad (Reads-both a b c done (line ++ line_feed ∷ []) (Some bad) h k))
  line_refused a b c piece done rest line following None parts split is h k = absurd (let z : false ≡ true = is in cc)

  pub rest_read : (a b c : Answered) (piece done rest : List ℕ) → piece ≡ done ++ rest → IsLine rest → ((all : List ℕ) → IsLineInput b.line all → IsLineInput c.line (all ++ rest))
      → progress_at c ≡ progress_at b → Reads d options a b done None → Reads d options a c piece None
  rest_read a b c piece done rest parts is_line longer same h =
      subst (λ (bytes : List ℕ). Reads d options a c bytes None) (sym parts) (Reads-both a b c done rest None h (Reads-rest b c rest is_line longer same))

  -- ---- the end

  no_line : (lines rest : List ℕ) → length rest ≡ 0 → lines ++ rest ≡ lines
  no_line lines [] empty = append-nil lines
  no_line lines (byte ∷ rest) empty = absurd (omega arith)

  pub ReadsLast-nothing : (now : Answered) → ((all : List ℕ) → IsLineInput now.line all → length all ≡ 0) → ReadsLast d options now now None
  ReadsLast-nothing now empty put read u = (
    u.lines,
    inl (subst (λ (r : List ℕ). AreAnswered P r u.lines) (sym (u.parts ∙ no_line u.whole u.rest (empty u.rest u.under_way))) u.answered),
    u.progress,
  )

  module _ (old new : Answered) (line : PlainLine) (some : (all : List ℕ) → IsLineInput old.line all → 0 < length all) (says : P old.line line) where
    last_answered : (put read : List ℕ) (u : IsUnderWay d options old put read) → IsAnswered P read (u.lines ++ line ∷ [])
    last_answered put read u = inr (
      record { front = u.whole; line = u.rest; parts = u.parts; some = some u.rest u.under_way; is_line = u.is_line },
      one_more u.whole u.lines u.rest old.line line u.answered u.is_line u.under_way says
          (ap (λ (r : List ℕ). r ++ line_feed ∷ []) u.parts ∙ append_assoc u.whole u.rest (line_feed ∷ [])) refl,
    )

    pub ReadsLast-line : (bad : Option BadLine) → ReachesNow options.json (next old line) new bad → ReadsLast d options old new bad
    ReadsLast-line None reach put read u = (u.lines ++ line ∷ [], last_answered put read u, more old put u.lines line u.progress ∙ ap (with_put put) reach)
    ReadsLast-line (Some bad) reach put read u = (u.lines ++ line ∷ [], last_answered put read u, one_refused old new put u.lines line bad u.progress reach)

  -- the notes on requests without answer were added
  pub Ends-notes : (old mid new : Answered) → ReadsLast d options old mid None → string_bytes new.text ≡ string_bytes mid.text ++ notes d options.json mid.state.connection
      → new.state.departs ≡ mid.state.departs → Ends d options old new None
  Ends-notes old mid new h text same put read u =
      let (lines, answered, is) = h put read u in (
        lines,
        answered,
        (
          ap (λ (p : Progress). p.refused) is,
          ap (λ (p : Progress). p.departs) is ∙ sym same,
          ap (λ (p : Progress). whole_text d options.json p) is ∙ append_assoc put (string_bytes mid.text) (notes d options.json mid.state.connection)
              ∙ ap (λ (t : List ℕ). put ++ t) (sym text),
        ),
      )

  pub ends_refused : (old new : Answered) (bad : Option BadLine) → is_some bad ≡ true → ReadsLast d options old new bad → Ends d options old new bad
  ends_refused old new (Some bad) is h = h
  ends_refused old new None is h = absurd (let z : false ≡ true = is in cc)
