-- A text that is fed to a stream, and the answer for all of its bytes.
use Rattle.std.proofs.Common.{◌≡◌, ◌≢◌, ℕ, ◌+◌, ◌<◌, ◌≤◌, ◌⊎◌, ⊎_elim, inl, inr, Bool, true, false, Result, Ok, Err, List, [], ◌∷◌, ◌++◌, length, take, drop, refl, sym, ap, subst, ◌∙◌, arith}
use Rattle.std.specs.Prelude.{IfOk, IsOk, IsTrue, ◌↔◌, nat_lt, slice_index}
use Rattle.std.proofs.lemmas.Bool.{cases_lt, false≢true, lt-ltb, ltb-true}
use Rattle.std.proofs.lemmas.Option.{slice_get_within}
use Rattle.std.proofs.Math.Seq.{take-append_seam}
use Rattle.std.proofs.lemmas.List.{append-nil, append_assoc, length-append, length-take, length-take-le, take-append-drop, take-append-le, take_all}
use Rattle.hex.specs.Hex.{decode_of, decode_pairs}
use Rattle.hex.proofs.HexLemmas.{decode_of-ok}
use Rattle.dia_wire.specs.Number.{number}
use Rattle.dia_wire.specs.Wire.{IsMessageLength, PlainAvp}
use Rattle.dia_dict.specs.Dictionary.{Dictionary, IsDictionary, definitions}
use Rattle.dia_check.specs.declared.Unknown.{Unknown}
use Rattle.dia_check.specs.declared.Levels.{Levels}
use Rattle.dia_check.specs.declared.Selected.{Selected}
use Rattle.dia_check.specs.declared.Refusal.{Refusal}
use Rattle.dia_check.specs.declared.Refusal.TheVariants as refusal
use Rattle.dia_check.specs.declared.Fault.{Fault}
use Rattle.dia_check.specs.declared.Reason.{Reason}
use Rattle.dia_check.specs.declared.Reason.TheVariants as reason
use Rattle.dia_check.specs.declared.Subject.{Subject}
use Rattle.dia_check.specs.declared.Progress.{Progress}
use Rattle.dia_check.specs.Faults as faults
use Rattle.dia_check.specs.Faults.{HasLength, IsAnswer, IsWrong, Spot, Occurs}
use Rattle.dia_check.specs.Reasons.{row_of}
use Rattle.dia_check.specs.Levels.{Level}
use Rattle.dia_check.specs.Streaming.{is_sound, wanted, taken_of, Takes}
use Rattle.dia_check.proofs.StreamMessages.{length_sound, same_sound, same_wanted, sound_length}
use Rattle.dia_check.proofs.StreamStages.{least_wanted}
use Rattle.dia_check.proofs.OneAnswer.{valid_length}
use Rattle.dia_run.specs.Texts.{SpellsFirst, SpellsNone, digits_of}
use Rattle.dia_run.specs.FedTexts.{IsEndless}
use Rattle.dia_run.proofs.DecodedPieces.{decoded_after, decoded_both}

-- ---- what was spelled so far

pub spells_none_yet : (text : List ℕ) → SpellsFirst text [] text
unfolding decode_pairs
spells_none_yet text = record { digits = []; parts = refl; spells = refl }

pub spells_more : (text bytes rest piece after : List ℕ) → SpellsFirst text bytes rest → SpellsFirst rest piece after → SpellsFirst text (bytes ++ piece) after
spells_more text bytes rest piece after h k = record {
  digits = h.digits ++ k.digits;
  parts = h.parts ∙ ap (λ (t : List ℕ). h.digits ++ t) k.parts ∙ sym (append_assoc h.digits k.digits (digits_of after));
  spells = decoded_both h.digits k.digits bytes piece h.spells k.spells;
}

pub spells_all : (text bytes : List ℕ) → SpellsFirst text bytes [] → decode_of (digits_of text) ≡ Ok bytes
spells_all text bytes h = ap decode_of (h.parts ∙ append-nil h.digits) ∙ h.spells

-- what is left is no hexadecimal
pub none_after : (text bytes rest : List ℕ) → SpellsFirst text bytes rest → SpellsNone rest → SpellsNone text
none_after text bytes rest h none ok =
    none (decoded_after h.digits (digits_of rest) (decode_of-ok h.digits bytes h.spells).0 (subst (λ (t : List ℕ). IsOk (decode_of t)) h.parts ok))

-- ---- what a stream takes of a text

-- bytes that go on behind those that are taken
pub full : (bytes : List ℕ) → length (taken_of bytes) < length bytes → (20 ≤ wanted bytes) × (wanted bytes < length bytes)
full bytes less = let size = length-take (wanted bytes) bytes in (least_wanted bytes, omega (arith, less, size))

-- all is taken where none goes on
pub all_taken : (bytes : List ℕ) → ¬ (length (taken_of bytes) < length bytes) → taken_of bytes ≡ bytes
all_taken bytes none = let size = length-take (wanted bytes) bytes in take_all (wanted bytes) bytes (omega (arith, none, size))

-- what is taken wants no more than all bytes do
same_wants : (bytes : List ℕ) → wanted bytes < length bytes → wanted (taken_of bytes) ≡ wanted bytes
same_wants bytes less =
    let size : length (taken_of bytes) ≡ wanted bytes = length-take-le (wanted bytes) bytes (omega (arith, less)) in
    sym (same_wanted (taken_of bytes) (drop (wanted bytes) bytes) (omega (arith, size, least_wanted bytes))) ∙ ap wanted (take-append-drop (wanted bytes) bytes)

-- a piece behind what was taken
pub taken_again : (bytes piece : List ℕ) → taken_of (taken_of bytes ++ piece) ≡ taken_of (bytes ++ piece)
taken_again bytes piece = ⊎_elim
    (λ (less : wanted bytes < length bytes).
    let size : length (taken_of bytes) ≡ wanted bytes = length-take-le (wanted bytes) bytes (omega (arith, less)) in
    let least = least_wanted bytes in
    let here : wanted (taken_of bytes ++ piece) ≡ wanted bytes = same_wanted (taken_of bytes) piece (omega (arith, size, least)) ∙ same_wants bytes less in
    let there : wanted (bytes ++ piece) ≡ wanted bytes = same_wanted bytes piece (omega (arith, less, least)) in
    ap (λ (k : ℕ). take k (taken_of bytes ++ piece)) (here ∙ sym size) ∙ take-append_seam (taken_of bytes) piece
    ∙ sym (ap (λ (k : ℕ). take k (bytes ++ piece)) there ∙ take-append-le (wanted bytes) bytes piece (omega (arith, less))))
    (λ (all : length bytes ≤ wanted bytes). ap (λ (t : List ℕ). taken_of (t ++ piece)) (take_all (wanted bytes) bytes all))
    (cases_lt (wanted bytes) (length bytes))

-- the bytes taken after a piece
pub takes_more : (bytes piece : List ℕ) (progress : Progress) → Takes (taken_of bytes) piece progress → taken_of bytes ++ take progress.taken piece ≡ taken_of (bytes ++ piece)
takes_more bytes piece progress h = h.front ∙ taken_again bytes piece

-- some go on where some did before, or where some of the piece are left
pub go_on : (bytes piece : List ℕ) (progress : Progress) → Takes (taken_of bytes) piece progress
    → ((length (taken_of bytes) < length bytes) ⊎ (progress.taken < length piece)) ↔ (length (taken_of (bytes ++ piece)) < length (bytes ++ piece))
go_on bytes piece progress h =
    let before = length-take (wanted bytes) bytes in
    let after : length (taken_of (bytes ++ piece)) ≡ length (taken_of bytes) + progress.taken =
    ap length (sym (takes_more bytes piece progress h)) ∙ length-append (taken_of bytes) (take progress.taken piece)
    ∙ ap (λ (k : ℕ). length (taken_of bytes) + k) (length-take-le progress.taken piece h.within) in
    let both = length-append bytes piece in
    let within = h.within in (
      λ some. ⊎_elim (λ (less : length (taken_of bytes) < length bytes). omega (arith, less, before, after, both, within))
          (λ (less : progress.taken < length piece). omega (arith, less, before, after, both, within)) some,
      λ less. ⊎_elim (λ (some : length (taken_of bytes) < length bytes). inl some)
          (λ (none : length bytes ≤ length (taken_of bytes)). inr (omega (arith, none, less, before, after, both, within)))
          (cases_lt (length (taken_of bytes)) (length bytes)),
    )

-- bytes followed the message before
pub follows_again : (bytes piece : List ℕ) (progress : Progress) (next : Bool) → Takes (taken_of bytes) piece progress → length (taken_of bytes) < length bytes → next ≡ true
    → IsTrue next ↔ (length (taken_of (bytes ++ piece)) < length (bytes ++ piece))
follows_again bytes piece progress next takes less is = ((λ yes. (go_on bytes piece progress takes).0 (inl less)), λ more. is)

-- or it is seen by the piece
pub follows_now : (bytes piece : List ℕ) (progress : Progress) (trailing next : Bool) (size : ℕ) → Takes (taken_of bytes) piece progress → (IsTrue trailing ↔ (length (taken_of bytes) < length bytes))
    → trailing ≡ false → length piece ≡ size → next ≡ nat_lt progress.taken size → IsTrue next ↔ (length (taken_of (bytes ++ piece)) < length (bytes ++ piece))
follows_now bytes piece progress trailing next size takes before none is_size is = (
  λ yes. (go_on bytes piece progress takes).0 (inr (let lt = ltb-true progress.taken size (sym is ∙ yes) in omega (arith, lt, is_size))),
  λ more. ⊎_elim (λ (less : length (taken_of bytes) < length bytes). absurd (false≢true (sym none ∙ before.1 less)))
      (λ (less : progress.taken < length piece). is ∙ lt-ltb progress.taken size (omega (arith, less, is_size))) ((go_on bytes piece progress takes).1 more),
)

-- before the first piece
pub nothing_follows : IsTrue false ↔ (length (taken_of []) < length {A = ℕ} [])
nothing_follows = ((λ no. absurd (false≢true no)), λ less. absurd (omega (arith, less)))

-- ---- the answer for all bytes

-- what is wrong with an AVP comes behind version and Message Length
wrong_late : (d : Dictionary) (u : Unknown) (most : Levels) (level : Level) (earlier : List PlainAvp) (v : PlainAvp) (r : Reason) (s : Subject)
    → IsWrong d u most level earlier v r s → 2 ≤ row_of r
wrong_late d u most level earlier v r s (faults.unknown none refused) = omega arith
wrong_late d u most level earlier v r s other = omega arith

occurs_late : (d : Dictionary) (u : Unknown) (most : Levels) (bytes : List ℕ) (spot : Spot) (r : Reason) (s : Subject) → Occurs d u most bytes spot r s → 2 ≤ row_of r
occurs_late d u most bytes spot r s (faults.avp level earlier v at q w meets bad) = wrong_late d u most level earlier v q w bad
occurs_late d u most bytes spot r s other = omega arith

endless_early : (r : Reason) → (r ≡ reason.Version) ⊎ (r ≡ reason.Length) → row_of r < 2
endless_early r (inl e) = omega (arith, ap row_of e)
endless_early r (inr e) = omega (arith, ap row_of e)

-- the first bytes of a header
first_bytes : (a b : List ℕ) → 20 ≤ length a → (slice_index (a ++ b) 0 ≡ slice_index a 0) × (take 3 (drop 1 (a ++ b)) ≡ take 3 (drop 1 a))
first_bytes [] b long = absurd (omega (arith, long))
first_bytes (x ∷ []) b long = absurd (omega (arith, long))
first_bytes (x ∷ y ∷ []) b long = absurd (omega (arith, long))
first_bytes (x ∷ y ∷ z ∷ []) b long = absurd (omega (arith, long))
first_bytes (x ∷ y ∷ z ∷ w ∷ a) b long = (refl, refl)

module _ (d : Dictionary) (sound : IsDictionary d) (u : Unknown) (most : Levels) (bytes : List ℕ) (less : length (taken_of bytes) < length bytes) where
  parts : taken_of bytes ++ drop (wanted bytes) bytes ≡ bytes
  parts = take-append-drop (wanted bytes) bytes

  long_taken : 20 ≤ length (taken_of bytes)
  long_taken =
      let (least, more) = full bytes less in
      let size = length-take (wanted bytes) bytes in omega (arith, least, more, size)

  long_bytes : 20 ≤ length bytes
  long_bytes = let l = long_taken in omega (arith, l, less)

  -- the first bytes of what is taken are those of all
  same_first : (slice_index bytes 0 ≡ slice_index (taken_of bytes) 0) × (take 3 (drop 1 bytes) ≡ take 3 (drop 1 (taken_of bytes)))
  same_first =
      let (v, t) = first_bytes (taken_of bytes) (drop (wanted bytes) bytes) long_taken in
      (ap (λ (b : List ℕ). slice_index b 0) (sym parts) ∙ v, ap (λ (b : List ℕ). take 3 (drop 1 b)) (sym parts) ∙ t)

  -- where what is taken has a Message Length, all bytes have one
  is_sound_by : (n : ℕ) → HasLength (taken_of bytes) n → IsTrue (is_sound bytes)
  is_sound_by n h =
      ap is_sound (sym parts) ∙ same_sound (taken_of bytes) (drop (wanted bytes) bytes) long_taken ∙ (length_sound (taken_of bytes) n h).0

  -- an answer that isn't for the version or for Message Length
  has_sound : (answer : Result Selected Refusal) → ¬ IsEndless answer → answer ≢ Err refusal.NoMemory → IsAnswer d u most (taken_of bytes) answer → IsTrue (is_sound bytes)
  has_sound (Ok found) ends memory h = is_sound_by (length (taken_of bytes)) (valid_length d sound u most (taken_of bytes) found.def h)
  has_sound (Err (refusal.Fault f)) ends memory (inl (long, other, is)) = absurd (ends (inl (ap (λ (g : Fault). g.reason) is)))
  has_sound (Err (refusal.Fault f)) ends memory (inr (inl (long, one, bad, is))) = absurd (ends (inr (ap (λ (g : Fault). g.reason) is)))
  has_sound (Err (refusal.Fault f)) ends memory (inr (inr (has, first))) = is_sound_by (length (taken_of bytes)) has
  has_sound (Err refusal.Truncated) ends memory (inl short) = absurd (let l = long_taken in omega (arith, l, short))
  has_sound (Err refusal.Truncated) ends memory (inr (n, has, more)) = is_sound_by n has
  has_sound (Err refusal.Trailing) ends memory (n, has, more) = is_sound_by n has
  has_sound (Err refusal.NoMemory) ends memory h = absurd (memory refl)
  has_sound (Err refusal.Spent) ends memory h = absurd h

  pub trails : (answer : Result Selected Refusal) → ¬ IsEndless answer → answer ≢ Err refusal.NoMemory → IsAnswer d u most (taken_of bytes) answer
      → (n : ℕ) × HasLength bytes n × (n < length bytes)
  trails answer ends memory h = (wanted bytes, sound_length bytes long_bytes (has_sound answer ends memory h), (full bytes less).1)

  pub stays : (answer : Result Selected Refusal) → IsEndless answer → IsAnswer d u most (taken_of bytes) answer → IsAnswer d u most bytes answer
  stays (Ok found) endless h = absurd endless
  stays (Err (refusal.Fault f)) endless (inl (long, other, is)) = inl (long_bytes, (λ one. other (sym same_first.0 ∙ one)), is)
  stays (Err (refusal.Fault f)) endless (inr (inl (long, one, bad, is))) =
      inr (inl (long_bytes, same_first.0 ∙ one, (λ good. bad (subst (λ (t : List ℕ). IsMessageLength (number t)) same_first.1 good)), is))
  stays (Err (refusal.Fault f)) endless (inr (inr (has, first))) =
      absurd (let late = occurs_late d u most (taken_of bytes) (record { place = f.place; row = first.row }) f.reason f.subject first.occurs in
      let early = endless_early f.reason endless in omega (arith, late, early))
  stays (Err refusal.Truncated) endless h = absurd endless
  stays (Err refusal.Trailing) endless h = absurd endless
  stays (Err refusal.NoMemory) endless h = absurd endless
  stays (Err refusal.Spent) endless h = absurd endless

-- the command of a valid message stands in the dictionary
pub names_command : (d : Dictionary) (u : Unknown) (most : Levels) (bytes : List ℕ) (answer : Result Selected Refusal) → IsAnswer d u most bytes answer
    → IfOk answer (λ found. found.def < length (definitions d))
names_command d u most bytes (Ok found) h = slice_get_within (definitions d) found.def h.command h.is_command
names_command d u most bytes (Err e) h = tt
