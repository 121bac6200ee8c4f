-- A connection has one answer.
use Rattle.std.proofs.Common.{◌≡◌, ℕ, ◌+◌, ◌||◌, Bool, true, false, List, [], ◌∷◌, ◌++◌, Option, None, Some, Result, Ok, length, suc, refl, sym, ap, subst, ◌∙◌, inl, inr, arith}
use Rattle.std.specs.Prelude.{Err, IsTrue, drop, if◌then◌else◌, map, slice_get, unwrap_or}
use Rattle.std.specs.List.{flat_map, fold}
use Rattle.std.proofs.lemmas.List.{append-nil}
use Rattle.dia_io.specs.declared.Exit.{Exit}
use Rattle.dia_io.specs.declared.Input.{Input}
use Rattle.dia_streams.specs.Lines.{AreAnswered, IsAnswered, LineHasOneAnswer, line_number}
use Rattle.dia_streams.proofs.OneAnswer.{text_once}
use Rattle.dia_streams.proofs.OtherAnswers.{AreAnswered-map, IsAnswered-map}
use Rattle.dia_dict.specs.Dictionary.{Dictionary, IsDictionary}
use Rattle.dia_run.specs.Texts.{IsDictionaryText}
use Rattle.dia_report.specs.Refusals.{dictionary_line}
use Rattle.dia_run.proofs.OneInput.{dictionary_or_not, one_dictionary, one_reason_for_dictionary, refused_once}
use Rattle.dia_follow.specs.declared.End.{End}
use Rattle.dia_follow.specs.declared.Line.{Line}
use Rattle.dia_follow.specs.declared.Message.{Message as AnyMessage}
use Rattle.dia_follow.specs.declared.Reason.{Reason}
use Rattle.dia_follow.specs.declared.Reason.TheVariants as reason
use Rattle.dia_follow.specs.declared.Seen.{Seen}
use Rattle.dia_follow.specs.declared.Seen.TheVariants.{Unread, Message}
use Rattle.dia_follow.specs.Connections.{PlainConnection, after_by, findings_by, moment}
use Rattle.dia_follow.specs.Departures.{findings}
use Rattle.dia_follow_text.specs.declared.entry.BadLine.{BadLine}
use Rattle.dia_follow_text.specs.declared.options.Options.{Options}
use Rattle.dia_follow_text.specs.Answers.{answer_by, departs, finding, message_text}
use Rattle.dia_follow_text.specs.FollowOutcome.{HasOneAnswer, IsDictionaryRefused}
use Rattle.dia_follow_text.specs.Outcome.{AreLines, Captured, IsFollowed, IsLineOf, PlainLine, nothing, refused, captured, Progress, answered_line, begun, exit_of, followed, line_at, next_line, whole_text}
use Rattle.dia_follow_text.proofs.FrontLines.{front_of_all, lines_front, two_fronts}
use Rattle.dia_follow_text.proofs.OneLine.{Plain, Says, line_once, plain, plain_line, says_plain}

-- ---- lines that are one thing have one answer

-- where the bytes of a line are in memory makes no difference
abbrev moved : Line → Line → Line
moved m k = record k { bytes = record m.bytes { now = k.bytes.now } }

module _ (d : Dictionary) (json : Bool) (c : PlainConnection) (e : End) (verdict : List ℕ) (m k : Line) where
  moved_after : (seen : Seen) → after_by c e (moved m k) seen ≡ after_by c e k seen
  moved_after (Unread f) = refl
  moved_after (Message x) = refl

  moved_findings : (seen : Seen) → findings_by c e (moved m k) seen ≡ findings_by c e k seen
  moved_findings (Unread f) = refl
  moved_findings (Message x) = refl

  moved_finding : (x : AnyMessage) (r : Reason) → finding json e (moment c e (moved m k) x) verdict r ≡ finding json e (moment c e k x) verdict r
  moved_finding x reason.Invalid = refl
  moved_finding x r = refl

  moved_answer : (seen : Seen) → answer_by json d c e (moved m k) verdict (findings_by c e (moved m k) seen) seen ≡ answer_by json d c e k verdict (findings_by c e k seen) seen
  moved_answer (Unread f) = refl
  moved_answer (Message x) = λ i. message_text json d e (moment c e k x) ++ flat_map (λ r. moved_finding x r i) (findings (moment c e k x))

moved_line : (d : Dictionary) (json : Bool) (number : ℕ) (p : Progress) (m k : Captured)
    → answered_line d json number p (captured (record k { line = moved m.line k.line })) ≡ answered_line d json number p (captured k)
moved_line d json number p m k =
    let connection = ap (λ (c : PlainConnection). record c { last = k.line.time }) (moved_after d json p.connection k.end k.verdict m.line (line_at number k) k.line.seen) in
    let found = moved_findings d json p.connection k.end k.verdict m.line (line_at number k) k.line.seen in
    let answer = moved_answer d json p.connection k.end k.verdict m.line (line_at number k) k.line.seen in
    λ i. record { number = number; connection = connection i; departs = p.departs || departs (found i); text = p.text ++ answer i; refused = false }

captured_once : (d : Dictionary) (json : Bool) (number : ℕ) (p : Progress) (m k : Captured) → plain m ≡ plain k
    → answered_line d json number p (captured m) ≡ answered_line d json number p (captured k)
captured_once d json number p m k same =
    (λ i. answered_line d json number p
    (captured (record {
      end = (same i).end;
      line = record { number = m.line.number; time = (same i).time; bytes = record m.line.bytes { now = (same i).bytes }; seen = (same i).seen; judged = (same i).judged };
      verdict = (same i).verdict;
    })))
    ∙ moved_line d json number p m k

-- nothing, a refusal or a message
abbrev kind : Result (Option Plain) BadLine → ℕ
kind (Ok None) = 0
kind (Err bad) = 1
kind (Ok (Some p)) = 2

abbrev plain_in : Plain → Result (Option Plain) BadLine → Plain
plain_in other (Ok (Some p)) = p
plain_in other (Ok None) = other
plain_in other (Err bad) = other

abbrev bad_in : BadLine → Result (Option Plain) BadLine → BadLine
bad_in other (Err bad) = bad
bad_in other (Ok p) = other

answered_once : (d : Dictionary) (json : Bool) (number : ℕ) (p : Progress) (l k : PlainLine) → plain_line l ≡ plain_line k → answered_line d json number p l ≡ answered_line d json number p k
answered_once d json number p nothing nothing same = refl
answered_once d json number p nothing (refused bad) same = absurd (let q : 0 ≡ 1 = ap kind same in omega (arith, q))
answered_once d json number p nothing (captured m) same = absurd (let q : 0 ≡ 2 = ap kind same in omega (arith, q))
answered_once d json number p (refused bad) nothing same = absurd (let q : 1 ≡ 0 = ap kind same in omega (arith, q))
answered_once d json number p (refused bad) (refused other) same = ap (λ (b : BadLine). answered_line d json number p (refused b)) (ap (bad_in bad) same)
answered_once d json number p (refused bad) (captured m) same = absurd (let q : 1 ≡ 2 = ap kind same in omega (arith, q))
answered_once d json number p (captured m) nothing same = absurd (let q : 2 ≡ 0 = ap kind same in omega (arith, q))
answered_once d json number p (captured m) (refused bad) same = absurd (let q : 2 ≡ 1 = ap kind same in omega (arith, q))
answered_once d json number p (captured m) (captured k) same = captured_once d json number p m k (ap (plain_in (plain m)) same)

-- ---- lists of lines

cons_parts : {X : Type 0} (x y : X) (xs ys : List X) → x ∷ xs ≡ y ∷ ys → (x ≡ y) × (xs ≡ ys)
cons_parts x y xs ys same = (ap (λ l. unwrap_or (slice_get l 0) x) same, ap (λ l. drop 1 l) same)

no_cons : {X : Type 0} (x : X) (xs : List X) → [] ≡ x ∷ xs → ⊥
no_cons x xs same = let q : 0 ≡ suc (length xs) = ap length same in omega (arith, q)

module _ (d : Dictionary) (json : Bool) where
  next_once : (p : Progress) (l k : PlainLine) → plain_line l ≡ plain_line k → next_line d json p l ≡ next_line d json p k
  next_once p l k same = ap (λ (q : Progress). if p.refused then p else q) (answered_once d json (line_number (p.number + 1)) p l k same)

  fold_once : (p : Progress) (ls ks : List PlainLine) → map plain_line ls ≡ map plain_line ks → fold (next_line d json) p ls ≡ fold (next_line d json) p ks
  fold_once p [] [] same = refl
  fold_once p [] (k ∷ ks) same = absurd (no_cons (plain_line k) (map plain_line ks) same)
  fold_once p (l ∷ ls) [] same = absurd (no_cons (plain_line l) (map plain_line ls) (sym same))
  fold_once p (l ∷ ls) (k ∷ ks) same =
      let both = cons_parts (plain_line l) (plain_line k) (map plain_line ls) (map plain_line ks) same in
      ap (λ (q : Progress). fold (next_line d json) q ls) (next_once p l k both.0) ∙ fold_once (next_line d json p k) ls ks both.1

  -- after a line that is refused nothing more is answered
  stays : (p : Progress) (ls : List PlainLine) → p.refused ≡ true → fold (next_line d json) p ls ≡ p
  stays p [] is = refl
  stays p (l ∷ ls) is =
      ap (λ (b : Bool). fold (next_line d json) (if b then p else answered_line d json (line_number (p.number + 1)) p l) ls) is ∙ stays p ls is

  -- all lines have the answer of a prefix in which one is refused
  front_once : (p : Progress) (ls ks : List PlainLine) (more : List (Result (Option Plain) BadLine)) → map plain_line ks ≡ map plain_line ls ++ more
      → (fold (next_line d json) p ls).refused ≡ true → fold (next_line d json) p ks ≡ fold (next_line d json) p ls
  front_once p [] ks more same is = stays p ks is
  front_once p (l ∷ ls) [] more same is = absurd (no_cons (plain_line l) (map plain_line ls ++ more) same)
  front_once p (l ∷ ls) (k ∷ ks) more same is =
      let both = cons_parts (plain_line k) (plain_line l) (map plain_line ks) (map plain_line ls ++ more) same in
      ap (λ (q : Progress). fold (next_line d json) q ks) (next_once p k l both.0) ∙ front_once (next_line d json p l) ls ks more both.1 is

-- ---- a text has one answer

module _ (d : Dictionary) (options : Options) (sound : IsDictionary d) where
  abbrev Is : Input → Result (Option Plain) BadLine → Type 0
  Is = Says d options.check sound

  once : LineHasOneAnswer Is
  once = line_once d options.check sound

  whole_lines : (lines : List ℕ) (ls : List PlainLine) → AreAnswered (IsLineOf d options.check) lines ls → AreAnswered Is lines (map plain_line ls)
  whole_lines = AreAnswered-map (IsLineOf d options.check) Is plain_line (says_plain d options.check sound)

  all_lines : (bytes : List ℕ) (ls : List PlainLine) → IsAnswered (IsLineOf d options.check) bytes ls → IsAnswered Is bytes (map plain_line ls)
  all_lines = IsAnswered-map (IsLineOf d options.check) Is plain_line (says_plain d options.check sound)

  -- up to a line that is refused, and all lines
  refused_and_all : (bytes front rest other left : List ℕ) (ls ks : List PlainLine) → bytes ≡ front ++ rest → bytes ≡ other ++ left → left ≡ []
      → AreAnswered (IsLineOf d options.check) front ls → IsTrue (followed d options ls).refused → IsAnswered (IsLineOf d options.check) other ks → followed d options ks ≡ followed d options ls
  refused_and_all bytes front rest other left ls ks parts cut none h is k =
      let whole : front ++ rest ≡ other = sym parts ∙ cut ∙ ap (λ (l : List ℕ). other ++ l) none ∙ append-nil other in
      let more = front_of_all Is once front rest (map plain_line ls) (map plain_line ks) (whole_lines front ls h)
      (subst (λ (b : List ℕ). IsAnswered Is b (map plain_line ks)) (sym whole) (all_lines other ks k)) in
      front_once d options.json (begun options.middle) ls ks more.0 more.1 is

  -- up to two lines that are refused
  refused_first : (front more other : List ℕ) (ls ks : List PlainLine) → other ≡ front ++ more → AreAnswered (IsLineOf d options.check) front ls → IsTrue (followed d options ls).refused
      → AreAnswered (IsLineOf d options.check) other ks → followed d options ks ≡ followed d options ls
  refused_first front more other ls ks parts h is k =
      let longer = lines_front Is once other (map plain_line ks) (whole_lines other ks k) front more (map plain_line ls) (whole_lines front ls h) parts in
      front_once d options.json (begun options.middle) ls ks longer.0 longer.1 is

  both_refused : (bytes front rest other left : List ℕ) (ls ks : List PlainLine) → bytes ≡ front ++ rest → bytes ≡ other ++ left
      → AreAnswered (IsLineOf d options.check) front ls → IsTrue (followed d options ls).refused → AreAnswered (IsLineOf d options.check) other ks → IsTrue (followed d options ks).refused
      → followed d options ls ≡ followed d options ks
  both_refused bytes front rest other left ls ks parts cut h is k is' =
      elim (two_fronts front other rest left (sym parts ∙ cut)) [
        | inl more ↦ sym (refused_first front more.0 other ls ks more.1 h is k)
        | inr more ↦ refused_first other more.0 front ks ls more.1 k is' h
      ]

  same_lines : (bytes front rest other left : List ℕ) (ls ks : List PlainLine) → bytes ≡ front ++ rest → bytes ≡ other ++ left → AreLines d options front rest ls → AreLines d options other left ks
      → followed d options ls ≡ followed d options ks
  same_lines bytes front rest other left ls ks parts cut (inl h) (inl k) = both_refused bytes front rest other left ls ks parts cut h.0 h.1 k.0 k.1
  same_lines bytes front rest other left ls ks parts cut (inl h) (inr k) = sym (refused_and_all bytes front rest other left ls ks parts cut k.1 h.0 h.1 k.0)
  same_lines bytes front rest other left ls ks parts cut (inr h) (inl k) = refused_and_all bytes other left front rest ks ls cut parts h.1 k.0 k.1 h.0
  same_lines bytes front rest other left ls ks parts cut (inr h) (inr k) =
      let whole : front ≡ other = sym (append-nil front) ∙ ap (λ (l : List ℕ). front ++ l) (sym h.1) ∙ sym parts ∙ cut ∙ ap (λ (l : List ℕ). other ++ l) k.1 ∙ append-nil other in
      fold_once d options.json (begun options.middle) ls ks
      (text_once Is once front (map plain_line ls) (map plain_line ks) (all_lines front ls h.0)
      (subst (λ (b : List ℕ). IsAnswered Is b (map plain_line ks)) (sym whole) (all_lines other ks k.0)))

  followed_once : (bytes t u : List ℕ) (x y : Exit) → IsFollowed d options bytes t x → IsFollowed d options bytes u y → (t ≡ u) × (x ≡ y)
  followed_once bytes t u x y h k =
      let same = same_lines bytes h.front h.rest k.front k.rest h.lines k.lines h.parts k.parts h.are_lines k.are_lines in (
        h.is_text ∙ ap (whole_text d options.json) same ∙ sym k.is_text,
        h.is_exit ∙ ap exit_of same ∙ sym k.is_exit,
      )

-- ---- with the text of the dictionary

read_or_refused : (json : Bool) (input : Input) (d : Dictionary) (text : List ℕ) (exit : Exit) → IsDictionaryText input d → IsDictionaryRefused json input text exit → ⊥
read_or_refused true input d text exit is_d (bad, found, (why, none, is), written, ended) = dictionary_or_not input d why is_d none
read_or_refused false input d text exit is_d (recorded, (why, none, is), written) = dictionary_or_not input d why is_d none

pub read_once : (options : Options) (dictionary : Input) (d : Dictionary) (bytes : List ℕ) → IsDictionaryText dictionary d → HasOneAnswer options dictionary bytes
read_once options dictionary d bytes is_d t u x y (inl (e, is_e, h)) (inl (f, is_f, k)) =
    followed_once e options is_e.4 bytes t u x y h (subst (λ (g : Dictionary). IsFollowed g options bytes u y) (sym (one_dictionary dictionary e f is_e is_f)) k)
read_once options dictionary d bytes is_d t u x y (inl h) (inr refusal) = absurd (read_or_refused options.json dictionary d u y is_d refusal)
read_once options dictionary d bytes is_d t u x y (inr refusal) k = absurd (read_or_refused options.json dictionary d t x is_d refusal)

-- of a dictionary that is refused, as text
lines_once : (dictionary : Input) (t u : List ℕ) (x y : Exit) → IsDictionaryRefused false dictionary t x → IsDictionaryRefused false dictionary u y → (t ≡ u) × (x ≡ y)
lines_once dictionary t u x y (m, (why, none, is), refuses) (n, (why', none', is'), refuses') =
    refused_once m n t u x y (is ∙ ap (dictionary_line 1) (one_reason_for_dictionary dictionary why why' none none') ∙ sym is') refuses refuses'

pub plain_once : (options : Options) (dictionary : Input) (bytes : List ℕ) → options.json ≡ false → HasOneAnswer options dictionary bytes
plain_once options dictionary bytes plain t u x y (inl (d, is_d, h)) k = read_once options dictionary d bytes is_d t u x y (inl (d, is_d, h)) k
plain_once options dictionary bytes plain t u x y (inr refusal) (inl (d, is_d, k)) = read_once options dictionary d bytes is_d t u x y (inr refusal) (inl (d, is_d, k))
plain_once options dictionary bytes plain t u x y (inr refusal) (inr other) =
    lines_once dictionary t u x y (subst (λ (b : Bool). IsDictionaryRefused b dictionary t x) plain refusal) (subst (λ (b : Bool). IsDictionaryRefused b dictionary u y) plain other)
