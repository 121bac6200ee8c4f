-- What is found of one message, and what the commands write for it.
use Rattle.std.proofs.Common.{◌≡◌, ℕ, ◌<◌, ◌&&◌, not, Bool, true, false, List, ◌++◌, length, Option, None, Some, Result, Ok, Err, refl, sym, ap, subst, ◌∙◌, codes, arith, inl, inr}
use Rattle.std.specs.Prelude.{IfOk, IfSome, take, if◌then◌else◌}
use Rattle.hex.specs.Hex.{decode_of}
use Rattle.std.proofs.lemmas.Option.{same_Some}
use Rattle.dia_dict.specs.Dictionary.{Dictionary, IsDictionary, PlainDefinition}
use Rattle.dia_terms.specs.declared.Unknown.{Unknown}
use Rattle.dia_terms.specs.declared.Levels.{Levels}
use Rattle.dia_terms.specs.Limits.{max_message_text}
use Rattle.dia_check.specs.declared.Selected.{Selected}
use Rattle.dia_check.specs.declared.Refusal.{Refusal}
use Rattle.dia_check.specs.declared.Refusal.TheVariants as refusal
use Rattle.dia_valid.specs.Valid.{IsValid}
use Rattle.dia_check.specs.Faults.{IsAnswer}
use Rattle.dia_check.proofs.OneAnswer.{one_answer}
use Rattle.dia_io.specs.declared.Input.{Input}
use Rattle.dia_io.specs.declared.Input.TheVariants.{Bytes, TooLong}
use Rattle.dia_io.specs.declared.Inputs.{Inputs}
use Rattle.dia_io.specs.declared.Exit.{Exit}
use Rattle.dia_io.specs.declared.Exit.TheVariants.{Yes, No, Bad}
use Rattle.dia_io.specs.Inputs.{Holds}
use Rattle.dia_streams.specs.Lines.{IsLineInput}
use Rattle.dia_run.specs.Texts.{IsMessageText, IsNoMessageText, digits_of, too_long, not_hexadecimal, IsDictionaryText, line}
use Rattle.dia_report.specs.declared.refusing.Refused.{Refused}
use Rattle.dia_report.specs.declared.refusing.Refused.TheVariants as kinds
use Rattle.dia_report.specs.Refusals.{RecordsOf}
use Rattle.dia_run.specs.Outcome.{IsJudged, ended, no_dictionary, no_message, no_first, no_second, IsRefutation, refutes, does_not}
use Rattle.dia_run.proofs.FedTexts.{names_command}
use Rattle.dia_run.proofs.HexTexts.{decoded}
use Rattle.dia_run.proofs.OneInput.{message_or_not, one_message}
use Rattle.dia_captures.specs.declared.verdicts.Checked.{Checked}
use Rattle.dia_captures.specs.declared.verdicts.Checked.TheVariants.{Valid, Wrong}
use Rattle.dia_captures.specs.declared.verdicts.Flaw.{Flaw}
use Rattle.dia_captures.specs.declared.verdicts.Flaw.TheVariants as flaw
use Rattle.dia_captures.specs.declared.verdicts.Refuted.{Refuted}
use Rattle.dia_captures.specs.Verdicts.{name_of, checked_exit, checked_line, is_valid, refuted_exit, refuted_line, unless_refused}
use Rattle.dia_captures.specs.Verdicts.{IsLineChecked, IsLineRefuted, IsMessageChecked, IsNamed, IsPieceChecked, IsTextRefused}
use Rattle.dia_captures.specs.Lines.{Answer, OfLine, checks, refutations}
use Rattle.dia_captures.specs.Streams.{OfMessage}

-- ---- the verdict on the bytes of a message

module _ (u : Unknown) (most : Levels) (d : Dictionary) where
  pub named : (bytes : List ℕ) (verdict : Checked) → IsMessageChecked u most d bytes verdict → IsNamed d verdict
  named bytes (Valid found) (answer, is, h) = names_command d u most bytes (Ok found) (subst (IsAnswer d u most bytes) (sym (same_Some (Ok found) answer is)) h)
  named bytes (Wrong flaw) h = tt

  pub line_named : (message : Input) (verdict : Checked) → IsLineChecked u most d message verdict → IsNamed d verdict
  line_named message verdict (inl (bytes, text, h)) = named bytes verdict h
  line_named message (Valid found) (inr h) = absurd h
  line_named message (Wrong flaw) (inr h) = tt

  by_answer : (bytes : List ℕ) (own answer : Result Selected Refusal) → ◌≡◌ {A = Option (Result Selected Refusal)} (Some own) (Some answer)
      → IsAnswer d u most bytes answer → IsAnswer d u most bytes own
  by_answer bytes own answer is h = subst (IsAnswer d u most bytes) (sym (same_Some own answer is)) h

  -- it is told as by `check`
  pub judged : (bytes : List ℕ) (verdict : Checked) → IsMessageChecked u most d bytes verdict → IsJudged u most d bytes (checked_line d verdict) (checked_exit verdict)
  judged bytes (Valid found) (answer, is, h) =
      let valid = by_answer bytes (Ok found) answer is h in
      (Ok found, valid, (valid.command, valid.is_command, ap (λ (c : Option PlainDefinition). line (codes "valid " ++ name_of c)) valid.is_command, refl))
  judged bytes (Wrong (flaw.Fault fault)) (answer, is, h) = (Err (refusal.Fault fault), by_answer bytes (Err (refusal.Fault fault)) answer is h, (refl, refl))
  judged bytes (Wrong flaw.Truncated) (answer, is, h) = (Err refusal.Truncated, by_answer bytes (Err refusal.Truncated) answer is h, (refl, refl))
  judged bytes (Wrong flaw.Trailing) (answer, is, h) = (Err refusal.Trailing, by_answer bytes (Err refusal.Trailing) answer is h, (refl, refl))
  judged bytes (Wrong flaw.TooLong) (answer, is, h) = absurd cc
  judged bytes (Wrong flaw.NotHexadecimal) (answer, is, h) = absurd cc

  -- a message is valid where this is found, and nowhere else
  is_valid_by : (bytes : List ℕ) (verdict : Checked) → IsMessageChecked u most d bytes verdict → is_valid verdict ≡ true → IsValid d u most bytes
  is_valid_by bytes (Valid found) (answer, is, h) is_so = (found.def, by_answer bytes (Ok found) answer is h)
  is_valid_by bytes (Wrong flaw) h is_so = absurd cc

  abbrev is_ok : Result Selected Refusal → Bool
  is_ok (Ok found) = true
  is_ok (Err e) = false

  abbrev is_no_memory : Result Selected Refusal → Bool
  is_no_memory (Ok found) = false
  is_no_memory (Err refusal.NoMemory) = true
  is_no_memory (Err (refusal.Fault fault)) = false
  is_no_memory (Err refusal.Truncated) = false
  is_no_memory (Err refusal.Trailing) = false
  is_no_memory (Err refusal.Spent) = false

  not_valid : (bytes : List ℕ) (answer : Result Selected Refusal) → IsDictionary d → IsAnswer d u most bytes answer → is_ok answer ≡ false → is_no_memory answer ≡ false
      → ¬ IsValid d u most bytes
  not_valid bytes answer sound h isnt memory (c, valid) =
      let same : answer ≡ Ok (record { def = c }) = one_answer d u most bytes answer (Ok (record { def = c })) sound h valid
      (λ none. let is_so : true ≡ false = sym (ap is_no_memory none) ∙ memory in absurd cc) (λ none. let is_so : false ≡ true = ap is_no_memory none in absurd cc) in
      let is_so : true ≡ false = sym (ap is_ok same) ∙ isnt in absurd cc

  isnt_valid_by : (bytes : List ℕ) (verdict : Checked) → IsDictionary d → IsMessageChecked u most d bytes verdict → is_valid verdict ≡ false → ¬ IsValid d u most bytes
  isnt_valid_by bytes (Valid found) sound h isnt = absurd cc
  isnt_valid_by bytes (Wrong (flaw.Fault fault)) sound (answer, is, h) isnt =
      not_valid bytes (Err (refusal.Fault fault)) sound (by_answer bytes (Err (refusal.Fault fault)) answer is h) refl refl
  isnt_valid_by bytes (Wrong flaw.Truncated) sound (answer, is, h) isnt =
      not_valid bytes (Err refusal.Truncated) sound (by_answer bytes (Err refusal.Truncated) answer is h) refl refl
  isnt_valid_by bytes (Wrong flaw.Trailing) sound (answer, is, h) isnt =
      not_valid bytes (Err refusal.Trailing) sound (by_answer bytes (Err refusal.Trailing) answer is h) refl refl
  isnt_valid_by bytes (Wrong flaw.TooLong) sound (answer, is, h) isnt = absurd cc
  isnt_valid_by bytes (Wrong flaw.NotHexadecimal) sound (answer, is, h) isnt = absurd cc

-- ---- lines

-- a text that is refused spells no message
refused_text : (message : Input) (verdict : Checked) → IsTextRefused message verdict → (recorded : List ℕ) × IsNoMessageText message recorded
refused_text message (Valid found) h = absurd h
refused_text message (Wrong (flaw.Fault fault)) h = absurd h
refused_text message (Wrong flaw.Truncated) h = absurd h
refused_text message (Wrong flaw.Trailing) h = absurd h
refused_text message (Wrong flaw.TooLong) over = (codes "message: too long", too_long over refl)
refused_text message (Wrong flaw.NotHexadecimal) (text, held, none) = (codes "message: not hexadecimal", not_hexadecimal text held none refl)

-- what is wrong with a text that is refused
pub refused_flaw : (message : Input) (refused : Refused) (f : Flaw) → RecordsOf (λ recorded. IsNoMessageText message recorded → IsTextRefused message (Wrong f)) refused
    → ¬ (refused ≡ kinds.NoMemory) → RecordsOf (IsNoMessageText message) refused → IsTextRefused message (Wrong f)
refused_flaw message (kinds.Bad bad) f records memory none = records none
refused_flaw message kinds.NoMemory f records memory none = absurd (memory refl)

-- a text that is digits, but for white space at its end
pub digits_spelled : {E : Type 0} (r : Result (Option ℕ) E) (line : Input) (text digits items : List ℕ) → Holds line max_message_text text
    → digits_of digits ≡ digits_of text → IfOk r (λ spelled. IfSome spelled (λ count. decode_of digits ≡ Ok (take count items)))
    → IfOk r (λ spelled. IfSome spelled (λ count. IsMessageText line (take count items)))
digits_spelled (Ok None) line text digits items held same h = tt
digits_spelled (Ok (Some count)) line text digits items held same h = (text, held, sym (ap decode_of same) ∙ decoded digits (take count items) h)
digits_spelled (Err e) line text digits items held same h = tt

-- what is told of a line is what `check` writes for it
pub of_check : (u : Unknown) (most : Levels) (inputs : Inputs) (d : Dictionary) → IsDictionaryText inputs.first d → (message : Input) (verdict : Checked)
    → IsLineChecked u most d message verdict → OfLine (checks u most) inputs message (checked_line d verdict, checked_exit verdict)
of_check u most inputs d is_d message verdict (inl (bytes, text, h)) = ended d bytes is_d text (judged u most d bytes verdict h)
of_check u most inputs d is_d message (Valid found) (inr h) = absurd h
of_check u most inputs d is_d message (Wrong (flaw.Fault fault)) (inr h) = absurd h
of_check u most inputs d is_d message (Wrong flaw.Truncated) (inr h) = absurd h
of_check u most inputs d is_d message (Wrong flaw.Trailing) (inr h) = absurd h
of_check u most inputs d is_d message (Wrong flaw.TooLong) (inr over) = no_message d (codes "message: too long") is_d (too_long over refl) (refl, refl)
of_check u most inputs d is_d message (Wrong flaw.NotHexadecimal) (inr (text, held, none)) =
    no_message d (codes "message: not hexadecimal") is_d (not_hexadecimal text held none refl) (refl, refl)

-- what is told of a message of a stream is what `check` writes for it
pub of_piece : (u : Unknown) (most : Levels) (inputs : Inputs) (d : Dictionary) → IsDictionaryText inputs.first d → (bytes : Option (List ℕ)) (verdict : Checked)
    → IsPieceChecked u most d bytes verdict → OfMessage u most inputs bytes (checked_line d verdict, checked_exit verdict)
of_piece u most inputs d is_d (Some bytes) verdict h = (d, is_d, judged u most d bytes verdict h)
of_piece u most inputs d is_d None verdict is = (ap (checked_line d) is, ap checked_exit is)

module _ (u : Unknown) (most : Levels) (a b : Dictionary) (sound_a : IsDictionary a) (sound_b : IsDictionary b) (message : Input) where
  -- a message has an answer
  answered : {A : Type 0} (x y z : A) (bytes : List ℕ) (verdict : Checked) → IsMessageChecked u most a bytes verdict → unless_refused x y z verdict ≡ z
  answered x y z bytes (Valid found) h = refl
  answered x y z bytes (Wrong (flaw.Fault fault)) h = refl
  answered x y z bytes (Wrong flaw.Truncated) h = refl
  answered x y z bytes (Wrong flaw.Trailing) h = refl
  answered x y z bytes (Wrong flaw.TooLong) (answer, is, h) = absurd cc
  answered x y z bytes (Wrong flaw.NotHexadecimal) (answer, is, h) = absurd cc

  by_verdicts : (bytes text : List ℕ) (exit : Exit) (x y : Checked) → IsMessageText message bytes → IsMessageChecked u most a bytes x → IsMessageChecked u most b bytes y
      → (first second : Bool) → is_valid x ≡ first → is_valid y ≡ second
      → text ≡ (if first && not second then codes "refutes\n" else codes "does not refute\n") → exit ≡ (if first && not second then Yes else No)
      → IsRefutation u most message a b text exit
  by_verdicts bytes text exit x y spells h k true true is_x is_y is_text is_exit =
      does_not bytes spells (λ both. both.1 (is_valid_by u most b bytes y k is_y)) is_text is_exit
  by_verdicts bytes text exit x y spells h k true false is_x is_y is_text is_exit =
      refutes bytes spells (is_valid_by u most a bytes x h is_x, isnt_valid_by u most b bytes y sound_b k is_y) is_text is_exit
  by_verdicts bytes text exit x y spells h k false true is_x is_y is_text is_exit =
      does_not bytes spells (λ both. isnt_valid_by u most a bytes x sound_a h is_x both.0) is_text is_exit
  by_verdicts bytes text exit x y spells h k false false is_x is_y is_text is_exit =
      does_not bytes spells (λ both. isnt_valid_by u most a bytes x sound_a h is_x both.0) is_text is_exit

  refutation : (x y : Checked) → IsLineChecked u most a message x → IsLineChecked u most b message y
      → IsRefutation u most message a b (refuted_line (record { first = x; second = y })) (refuted_exit (record { first = x; second = y }))
  refutation x y (inl (bytes, text, h)) (inl (bytes', text', k)) =
      by_verdicts bytes (refuted_line (record { first = x; second = y })) (refuted_exit (record { first = x; second = y })) x y text h
      (subst (λ (s : List ℕ). IsMessageChecked u most b s y) (one_message message bytes' bytes text' text) k) (is_valid x) (is_valid y) refl refl
      (answered (codes "message: too long\n") (codes "message: not hexadecimal\n")
      (if is_valid x && not (is_valid y) then codes "refutes\n" else codes "does not refute\n") bytes x h)
      (answered Bad Bad (if is_valid x && not (is_valid y) then Yes else No) bytes x h)
  refutation x y (inl (bytes, text, h)) (inr k) = let (recorded, none) = refused_text message y k in absurd (message_or_not message bytes recorded text none)
  refutation (Valid found) y (inr h) k = absurd h
  refutation (Wrong (flaw.Fault fault)) y (inr h) k = absurd h
  refutation (Wrong flaw.Truncated) y (inr h) k = absurd h
  refutation (Wrong flaw.Trailing) y (inr h) k = absurd h
  refutation (Wrong flaw.TooLong) y (inr over) k = no_message (codes "message: too long") (too_long over refl) (refl, refl)
  refutation (Wrong flaw.NotHexadecimal) y (inr (text, held, none)) k =
      no_message (codes "message: not hexadecimal") (not_hexadecimal text held none refl) (refl, refl)

-- what is told of both verdicts is what `refute` writes
pub of_refute : (u : Unknown) (most : Levels) (inputs : Inputs) (a b : Dictionary) → IsDictionaryText inputs.first a → IsDictionaryText inputs.second b
    → (message : Input) (verdict : Refuted) → IsLineRefuted u most a b message verdict → OfLine (refutations u most) inputs message (refuted_line verdict, refuted_exit verdict)
of_refute u most inputs a b is_a is_b message verdict (first, second) =
    ended a b is_a is_b (refutation u most a b is_a.4 is_b.4 message verdict.first verdict.second first second)

-- ---- a line is one input

text_of : (a b : Input) (bytes message : List ℕ) → IsLineInput a bytes → IsLineInput b bytes → IsMessageText a message → IsMessageText b message
text_of (Bytes v) (Bytes w) bytes message h k (text, held, spells) = (text, (k.0 ∙ sym h.0 ∙ held.0, held.1), spells)
text_of (Bytes v) TooLong bytes message h k (text, held, spells) = absurd (omega (arith, h.1, k))
text_of TooLong b bytes message h k (text, held, spells) = absurd held

none_of : (a b : Input) (bytes recorded : List ℕ) → IsLineInput a bytes → IsLineInput b bytes → IsNoMessageText a recorded → IsNoMessageText b recorded
none_of (Bytes v) (Bytes w) bytes recorded h k (too_long over is) = too_long (subst (λ (x : List ℕ). max_message_text < length x) (h.0 ∙ sym k.0) over) is
none_of (Bytes v) (Bytes w) bytes recorded h k (not_hexadecimal text held none is) = not_hexadecimal text (k.0 ∙ sym h.0 ∙ held.0, held.1) none is
none_of (Bytes v) TooLong bytes recorded h k none = absurd (omega (arith, h.1, k))
none_of TooLong (Bytes w) bytes recorded h k none = absurd (omega (arith, h, k.1))
none_of TooLong TooLong bytes recorded h k none = none

pub same_check : (u : Unknown) (most : Levels) (inputs : Inputs) (a b : Input) (bytes : List ℕ) (answer : Answer) → IsLineInput a bytes → IsLineInput b bytes
    → OfLine (checks u most) inputs a answer → OfLine (checks u most) inputs b answer
same_check u most inputs a b bytes answer h k (ended d message is_d text is) = ended d message is_d (text_of a b bytes message h k text) is
same_check u most inputs a b bytes answer h k (no_dictionary why none refuses) = no_dictionary why none refuses
same_check u most inputs a b bytes answer h k (no_message d why is_d none refuses) = no_message d why is_d (none_of a b bytes why h k none) refuses

same_refutation : (u : Unknown) (most : Levels) (first second : Dictionary) (a b : Input) (bytes recorded : List ℕ) (exit : Exit) → IsLineInput a bytes → IsLineInput b bytes
    → IsRefutation u most a first second recorded exit → IsRefutation u most b first second recorded exit
same_refutation u most first second a b bytes recorded exit h k (refutes message text is is_t is_x) = refutes message (text_of a b bytes message h k text) is is_t is_x
same_refutation u most first second a b bytes recorded exit h k (does_not message text is is_t is_x) = does_not message (text_of a b bytes message h k text) is is_t is_x
same_refutation u most first second a b bytes recorded exit h k (no_message why none refuses) = no_message why (none_of a b bytes why h k none) refuses

pub same_refute : (u : Unknown) (most : Levels) (inputs : Inputs) (a b : Input) (bytes : List ℕ) (answer : Answer) → IsLineInput a bytes → IsLineInput b bytes
    → OfLine (refutations u most) inputs a answer → OfLine (refutations u most) inputs b answer
same_refute u most inputs a b bytes answer h k (ended first second is_a is_b is) =
    ended first second is_a is_b (same_refutation u most first second a b bytes answer.0 answer.1 h k is)
same_refute u most inputs a b bytes answer h k (no_first why none refuses) = no_first why none refuses
same_refute u most inputs a b bytes answer h k (no_second first why is_a none refuses) = no_second first why is_a none refuses
