-- A line is one thing, but for the place of its bytes in memory.
use Rattle.std.proofs.Common.{◌≡◌, ◌<◌, ◌≤◌, ℕ, Bool, true, false, List, [], ◌∷◌, Option, None, Some, Result, Ok, Err, length, refl, sym, ap, subst, ◌∙◌, arith}
use Rattle.std.specs.Prelude.{IsOk, nat_lt}
use Rattle.std.proofs.lemmas.Bool.{ltb-false, ltb-true}
use Rattle.std.proofs.lemmas.List.{append_cancel_right}
use Rattle.hex.specs.declared.error.FromHexError.{FromHexError}
use Rattle.hex.specs.Hex.{decode_of}
use Rattle.dia_terms.specs.Limits.{max_message_text}
use Rattle.dia_io.specs.declared.Input.{Input}
use Rattle.dia_io.specs.declared.Input.TheVariants as inputs
use Rattle.dia_io.specs.Inputs.{Holds, IsOver}
use Rattle.dia_streams.specs.Lines.{IsLineInput, LineHasOneAnswer}
use Rattle.dia_dict.specs.Dictionary.{Dictionary, IsDictionary}
use Rattle.dia_run.specs.Texts.{line}
use Rattle.dia_run.proofs.OneOutcome.{judged_once}
use Rattle.dia_follow.specs.declared.End.{End}
use Rattle.dia_follow.specs.declared.Judged.{Judged}
use Rattle.dia_follow.specs.declared.Seen.{Seen}
use Rattle.dia_follow.specs.Reading.{IsSeen}
use Rattle.dia_follow.proofs.OneReading.{one_seen}
use Rattle.dia_follow_text.specs.declared.entry.BadLine.{BadLine}
use Rattle.dia_follow_text.specs.declared.entry.BadLine.TheVariants.{TooLong, NotHexadecimal}
use Rattle.dia_follow_text.specs.declared.options.Check.{Check}
use Rattle.dia_follow_text.specs.Entries.{PlainEntry, entry_of}
use Rattle.dia_follow_text.specs.Judging.{IsChecked, IsJudgedAs, counted, judged_of}
use Rattle.dia_follow_text.specs.Outcome.{Captured, IsCaptured, IsLineOf, IsLineRefused, no_bytes, no_entry, too_long, PlainLine, nothing, refused, captured}

-- a message, without its number and the place of its bytes
pub record Plain : Type 0 where
  pub end : End
  pub time : Option ℕ
  pub bytes : List ℕ
  pub seen : Seen
  pub judged : Judged
  pub verdict : List ℕ

abbrev pub plain : Captured → Plain
plain m = record { end = m.end; time = m.line.time; bytes = m.line.bytes.now; seen = m.line.seen; judged = m.line.judged; verdict = m.verdict }

abbrev pub plain_line : PlainLine → Result (Option Plain) BadLine
plain_line nothing = Ok None
plain_line (refused bad) = Err bad
plain_line (captured m) = Ok (Some (plain m))

-- ---- the words and the bytes of a line

abbrev Front : Type 0
Front = End × Option ℕ × List ℕ

abbrev front : Plain → Front
front p = (p.end, p.time, p.bytes)

abbrev fronts : Result (Option Plain) BadLine → Result (Option Front) BadLine
fronts (Err bad) = Err bad
fronts (Ok None) = Ok None
fronts (Ok (Some p)) = Ok (Some (front p))

-- nothing, a refusal or a message
abbrev kind : Result (Option Front) BadLine → ℕ
kind (Ok None) = 0
kind (Err bad) = 1
kind (Ok (Some f)) = 2

abbrev bad_in : BadLine → Result (Option Front) BadLine → BadLine
bad_in other (Err bad) = bad
bad_in other (Ok f) = other

abbrev front_in : Front → Result (Option Front) BadLine → Front
front_in other (Ok (Some f)) = f
front_in other (Ok None) = other
front_in other (Err bad) = other

abbrev with_bytes : PlainEntry → Result (List ℕ) FromHexError → Result (Option Front) BadLine
with_bytes e (Ok bytes) = Ok (Some (e.end, e.time, bytes))
with_bytes e (Err why) = Err NotHexadecimal

abbrev of_entry : Result (Option PlainEntry) BadLine → Result (Option Front) BadLine
of_entry (Err bad) = Err bad
of_entry (Ok None) = Ok None
of_entry (Ok (Some e)) = with_bytes e (decode_of e.digits)

abbrev by_length : Bool → List ℕ → Result (Option Front) BadLine
by_length true bytes = Err TooLong
by_length false bytes = of_entry (entry_of bytes)

abbrev read : List ℕ → Result (Option Front) BadLine
read bytes = by_length (nat_lt max_message_text (length bytes)) bytes

is_short : (most n : ℕ) → n ≤ most → nat_lt most n ≡ false
is_short most n h = by (nat_lt most n) refl
  where
    by : (b : Bool) → nat_lt most n ≡ b → nat_lt most n ≡ false
    by true e = absurd (omega (arith, h, ltb-true most n e))
    by false e = e

is_long : (most n : ℕ) → most < n → nat_lt most n ≡ true
is_long most n h = by (nat_lt most n) refl
  where
    by : (b : Bool) → nat_lt most n ≡ b → nat_lt most n ≡ true
    by true e = e
    by false e = absurd (omega (arith, h, ltb-false most n e))

read_short : (bytes : List ℕ) (entry : Result (Option PlainEntry) BadLine) → length bytes ≤ max_message_text → entry_of bytes ≡ entry → read bytes ≡ of_entry entry
read_short bytes entry short is = ap (λ (b : Bool). by_length b bytes) (is_short max_message_text (length bytes) short) ∙ ap of_entry is

no_digits : (e : PlainEntry) (spelled : Result (List ℕ) FromHexError) → ¬ IsOk spelled → with_bytes e spelled ≡ Err NotHexadecimal
no_digits e (Ok bytes) none = absurd (none refl)
no_digits e (Err why) none = refl

-- ---- a line as an input

is_all : (a : Input) (bytes text : List ℕ) → IsLineInput a bytes → Holds a max_message_text text → text ≡ bytes
is_all (inputs.Bytes v) bytes text h k = sym k.0 ∙ h.0
is_all inputs.TooLong bytes text h k = absurd k

fits : (a : Input) (bytes text : List ℕ) → IsLineInput a bytes → Holds a max_message_text text → length bytes ≤ max_message_text
fits (inputs.Bytes v) bytes text h k = h.1
fits inputs.TooLong bytes text h k = absurd k

over : (a : Input) (bytes : List ℕ) → IsLineInput a bytes → IsOver a max_message_text → max_message_text < length bytes
over (inputs.Bytes v) bytes h o = subst (λ (x : List ℕ). max_message_text < length x) h.0 o
over inputs.TooLong bytes h o = h

entry_here : (a : Input) (bytes text : List ℕ) (entry : Result (Option PlainEntry) BadLine) → IsLineInput a bytes → Holds a max_message_text text → entry_of text ≡ entry → read bytes ≡ of_entry entry
entry_here a bytes text entry h k is = read_short bytes entry (fits a bytes text h k) (ap entry_of (sym (is_all a bytes text h k)) ∙ is)

module _ (d : Dictionary) (check : Option Check) where
  refused_here : (a : Input) (bytes : List ℕ) (bad : BadLine) → IsLineInput a bytes → IsLineRefused a bad → read bytes ≡ Err bad
  refused_here a bytes bad h (too_long o is) = ap (λ (b : Bool). by_length b bytes) (is_long max_message_text (length bytes) (over a bytes h o)) ∙ ap (λ (x : BadLine). Err x) (sym is)
  refused_here a bytes bad h (no_entry text holds is) = entry_here a bytes text (Err bad) h holds is
  refused_here a bytes bad h (no_bytes text entry holds is none is_bad) =
      entry_here a bytes text (Ok (Some entry)) h holds is ∙ no_digits entry (decode_of entry.digits) none ∙ ap (λ (x : BadLine). Err x) (sym is_bad)

  captured_here : (a : Input) (bytes text : List ℕ) (m : Captured) → IsLineInput a bytes → Holds a max_message_text text → IsCaptured d check text m → read bytes ≡ Ok (Some (front (plain m)))
  captured_here a bytes text m h holds is =
      let entry : PlainEntry = record { end = m.end; time = m.line.time; digits = is.digits } in
      entry_here a bytes text (Ok (Some entry)) h holds is.entry ∙ ap (with_bytes entry) is.spells

  read_here : (a : Input) (bytes : List ℕ) (l : PlainLine) → IsLineInput a bytes → IsLineOf d check a l → read bytes ≡ fronts (plain_line l)
  read_here a bytes nothing h (text, holds, is) = entry_here a bytes text (Ok None) h holds is
  read_here a bytes (refused bad) h is = refused_here a bytes bad h is
  read_here a bytes (captured m) h (text, holds, is) = captured_here a bytes text m h holds is

  -- ---- what `check` reports

  module _ (sound : IsDictionary d) where
    once_checked : (c : Check) (some : Option (List ℕ)) (a b : Judged) (x y : List ℕ) → IsChecked d c some a x → IsChecked d c some b y → (a ≡ b) × (x ≡ y)
    once_checked c None a b x y (is, none) (is', none') = (is ∙ sym is', none ∙ sym none')
    once_checked c (Some bytes) a b x y (exit, judged, is) (exit', judged', is') =
        let same = judged_once c.unknown c.levels d bytes (line x) (line y) exit exit' sound judged judged' in
        (is ∙ ap judged_of same.1 ∙ sym is', append_cancel_right x y (10 ∷ []) same.0)

    once_judged : (asked : Option Check) (bytes : List ℕ) (seen : Seen) (a b : Judged) (x y : List ℕ) → IsJudgedAs d asked bytes seen a x → IsJudgedAs d asked bytes seen b y → (a ≡ b) × (x ≡ y)
    once_judged None bytes seen a b x y (is, none) (is', none') = (is ∙ sym is', none ∙ sym none')
    once_judged (Some c) bytes seen a b x y h k = once_checked c (counted bytes seen) a b x y h k

    -- ---- a message

    same_plain : (t u : List ℕ) (m k : Captured) → IsCaptured d check t m → IsCaptured d check u k → front (plain m) ≡ front (plain k) → plain m ≡ plain k
    same_plain t u m k is is' same =
        let end : m.end ≡ k.end = ap (λ (f : Front). f.0) same in
        let time : m.line.time ≡ k.line.time = ap (λ (f : Front). f.1) same in
        let bytes : m.line.bytes.now ≡ k.line.bytes.now = ap (λ (f : Front). f.2) same in
        let seen : m.line.seen ≡ k.line.seen =
        one_seen m.line.bytes.now m.line.seen k.line.seen is.seen (subst (λ (b : List ℕ). IsSeen b k.line.seen) (sym bytes) is'.seen) in
        let judged = once_judged check m.line.bytes.now m.line.seen m.line.judged k.line.judged m.verdict k.verdict is.judged
        (subst (λ (s : Seen). IsJudgedAs d check m.line.bytes.now s k.line.judged k.verdict) (sym seen)
        (subst (λ (b : List ℕ). IsJudgedAs d check b k.line.seen k.line.judged k.verdict) (sym bytes) is'.judged)) in
        λ i. record { end = end i; time = time i; bytes = bytes i; seen = seen i; judged = judged.0 i; verdict = judged.1 i }

    one_thing : (a b : Input) (l k : PlainLine) → IsLineOf d check a l → IsLineOf d check b k → fronts (plain_line l) ≡ fronts (plain_line k) → plain_line l ≡ plain_line k
    one_thing a b nothing nothing h k same = refl
    one_thing a b nothing (refused bad) h k same = absurd (let q : 0 ≡ 1 = ap kind same in omega (arith, q))
    one_thing a b nothing (captured m) h k same = absurd (let q : 0 ≡ 2 = ap kind same in omega (arith, q))
    one_thing a b (refused bad) nothing h k same = absurd (let q : 1 ≡ 0 = ap kind same in omega (arith, q))
    one_thing a b (refused bad) (refused other) h k same = ap (λ (x : BadLine). Err x) (ap (bad_in bad) same)
    one_thing a b (refused bad) (captured m) h k same = absurd (let q : 1 ≡ 2 = ap kind same in omega (arith, q))
    one_thing a b (captured m) nothing h k same = absurd (let q : 2 ≡ 0 = ap kind same in omega (arith, q))
    one_thing a b (captured m) (refused bad) h k same = absurd (let q : 2 ≡ 1 = ap kind same in omega (arith, q))
    one_thing a b (captured m) (captured n) (t, holds, is) (u, holds', is') same =
        ap (λ (p : Plain). Ok (Some p)) (same_plain t u m n is is' (ap (front_in (front (plain m))) same))

    abbrev pub Says : Input → Result (Option Plain) BadLine → Type 0
    Says input v = (l : PlainLine) × IsLineOf d check input l × (v ≡ plain_line l)

    pub says_plain : (input : Input) (l : PlainLine) → IsLineOf d check input l → Says input (plain_line l)
    says_plain input l is = (l, is, refl)

    pub line_once : LineHasOneAnswer Says
    line_once bytes a b v w h k (l, is, of_l) (m, is', of_m) =
        of_l ∙ one_thing a b l m is is' (sym (read_here a bytes l h is) ∙ read_here b bytes m k is') ∙ sym of_m
