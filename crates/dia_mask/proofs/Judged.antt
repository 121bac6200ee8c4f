-- A masked message has the answers of the message.
use Rattle.std.proofs.Common.{◌≡◌, ℕ, ◌-◌, ◌≤◌, min, List, [], ◌∷◌, ◌++◌, length, take, drop, refl, sym, ap, subst, ◌∙◌, arith, inl, inr, ⊎_elim}
use Rattle.std.specs.Prelude.{slice_index, Result, Ok, Err, OnOk}
use Rattle.std.proofs.lemmas.List.{append-nil, drop_at, get_or-take, length-append, length-drop, length-replicate, length-take, take-take, take_all, take_at}
use Rattle.dia_wire.specs.Number.{number}
use Rattle.dia_wire.specs.Wire.{IsMessageLength}
use Rattle.dia_wire.proofs.OneHeader.{head_says}
use Rattle.dia_book.specs.Dictionary.{Dictionary, IsDictionary}
use Rattle.dia_terms.specs.declared.Unknown.{Unknown}
use Rattle.dia_terms.specs.declared.Levels.{Levels}
use Rattle.dia_valid.specs.Valid.{IsValidOf}
use Rattle.dia_check.specs.declared.fault.Fault.{Fault}
use Rattle.dia_check.specs.declared.fault.Selected.{Selected}
use Rattle.dia_check.specs.declared.fault.Refusal.{Refusal}
use Rattle.dia_check.specs.declared.fault.Refusal.TheVariants as refusal
use Rattle.dia_check.specs.Faults.{HasLength, IsAnswer, IsFirst, IsRecorded}
use Rattle.dia_check.proofs.FaultlessMessages.{valid_command, valid_good, valid_occurs}
use Rattle.dia_check.proofs.OneAnswer.{valid_length}
use Rattle.dia_check.proofs.ValidMeansFaultless.{none_valid}
use Rattle.dia_mask.specs.declared.choice.Choice.{Choice}
use Rattle.dia_mask.specs.Replaced.{Numbering}
use Rattle.dia_mask.specs.Masked.{Adds, IsMessageMasked, bad_header, body_of, message, no_header, zeros}
use Rattle.dia_mask.specs.Verdict.{IsJudgedAlike}
use Rattle.dia_mask.proofs.Alike.{AreAlike, alike_size, flip, masked_alike}
use Rattle.dia_mask.proofs.Faults.{AreMessagesAlike, flip_message, good_too, occurs_too}

-- ---- messages of one length and one header, of which those that are whole have alike bodies

record AreSimilar (d : Dictionary) (bytes new : List ℕ) : Type 0 where
  long : length bytes ≡ length new
  front : take 20 bytes ≡ take 20 new
  body : HasLength bytes (length bytes) → AreAlike d (drop 20 bytes) (drop 20 new)

first_byte : (bytes new : List ℕ) → take 20 bytes ≡ take 20 new → slice_index new 0 ≡ slice_index bytes 0
first_byte bytes new front = sym (get_or-take 20 new 0 0 (omega arith)) ∙ ap (λ (t : List ℕ). slice_index t 0) (sym front) ∙ get_or-take 20 bytes 0 0 (omega arith)

in_front : (xs : List ℕ) → take 3 (drop 1 (take 20 xs)) ≡ take 3 (drop 1 xs)
in_front [] = refl
in_front (x ∷ xs) = take-take 3 19 xs (omega arith)

three_bytes : (bytes new : List ℕ) → take 20 bytes ≡ take 20 new → take 3 (drop 1 bytes) ≡ take 3 (drop 1 new)
three_bytes bytes new front = sym (in_front bytes) ∙ ap (λ (t : List ℕ). take 3 (drop 1 t)) front ∙ in_front new

length_too : (bytes new : List ℕ) (n : ℕ) → length bytes ≡ length new → take 20 bytes ≡ take 20 new → HasLength bytes n → HasLength new n
length_too bytes new n long front h = record {
  long = let l = h.long in omega (arith, l, long);
  version = first_byte bytes new front ∙ h.version;
  is_length = h.is_length ∙ ap number (three_bytes bytes new front);
  sound = h.sound;
}

whole_too : (bytes new : List ℕ) → length bytes ≡ length new → take 20 bytes ≡ take 20 new → HasLength bytes (length bytes) → HasLength new (length new)
whole_too bytes new long front h = subst (HasLength new) long (length_too bytes new (length bytes) long front h)

flip_similar : (d : Dictionary) (bytes new : List ℕ) → AreSimilar d bytes new → AreSimilar d new bytes
flip_similar d bytes new m = record {
  long = sym m.long;
  front = sym m.front;
  body = λ h. flip d (drop 20 bytes) (drop 20 new) (m.body (whole_too new bytes (sym m.long) (sym m.front) h));
}

module _ (d : Dictionary) (sound : IsDictionary d) (u : Unknown) (most : Levels) (bytes new : List ℕ) (same : AreSimilar d bytes new) where
  alike : HasLength bytes (length bytes) → AreMessagesAlike d bytes new
  alike h = record { long = same.long; front = same.front; body = same.body h }

  first_too : (f : Fault) → HasLength bytes (length bytes) → IsFirst d u most bytes f → IsFirst d u most new f
  first_too f h first = record {
    row = first.row;
    occurs = occurs_too d sound u most bytes new (alike h) _ f.reason f.subject first.occurs;
    code = first.code;
    none_before = λ other r s occurs. first.none_before other r s (occurs_too d sound u most new bytes (flip_message d bytes new (alike h)) other r s occurs);
  }

  recorded_too : (f : Fault) → IsRecorded d u most bytes f → IsRecorded d u most new f
  recorded_too f (inl (long, other, is)) = let l = same.long in inl (omega (arith, long, l), (λ e. other (sym (first_byte bytes new same.front) ∙ e)), is)
  recorded_too f (inr (inl (long, version, bad, is))) =
      let l = same.long in
      inr (inl (omega (arith, long, l), first_byte bytes new same.front ∙ version, (λ m. bad (subst IsMessageLength (sym (ap number (three_bytes bytes new same.front))) m)), is))
  recorded_too f (inr (inr (h, first))) = inr (inr (whole_too bytes new same.long same.front h, first_too f h first))

  valid_too : (c : ℕ) → IsValidOf d u most bytes c → IsValidOf d u most new c
  valid_too c v =
      let h = valid_length d sound u most bytes c v in
      let back = flip_message d bytes new (alike h) in
      let (k, valid) = none_valid d sound u most new (λ other r t occurs. valid_occurs d sound u most bytes c v other r t (occurs_too d sound u most new bytes back other r t occurs))
      (whole_too bytes new same.long same.front h) in
      let good = valid_good d sound u most bytes c v in
      let is_c : good.c ≡ c = valid_command d sound u most bytes c good v in
      let is_k : good.c ≡ k = valid_command d sound u most new k (good_too d bytes new same.long same.front good) valid in
      subst (IsValidOf d u most new) (sym is_k ∙ is_c) valid

  answer_too : (a : Result Selected Refusal) → IsAnswer d u most bytes a → IsAnswer d u most new a
  answer_too (Ok found) v = valid_too found.def v
  answer_too (Err (refusal.Fault f)) h = recorded_too f h
  answer_too (Err refusal.Truncated) (inl few) = let l = same.long in inl (omega (arith, few, l))
  answer_too (Err refusal.Truncated) (inr (n, h, lt)) = let l = same.long in inr (n, length_too bytes new n same.long same.front h, omega (arith, lt, l))
  answer_too (Err refusal.Trailing) (n, h, lt) = let l = same.long in (n, length_too bytes new n same.long same.front h, omega (arith, lt, l))
  answer_too (Err refusal.NoMemory) h = tt
  answer_too (Err refusal.Spent) h = h

-- ---- masked messages

twenty : (bytes : List ℕ) → 20 ≤ length bytes → length (take 20 bytes) ≡ 20
twenty bytes long = omega (arith, long, length-take 20 bytes)

masked_similar : (choice : Choice) (numbers : Numbering) (d : Dictionary) (bytes new : List ℕ) → IsMessageMasked choice numbers d bytes new → AreSimilar d bytes new
masked_similar choice numbers d bytes new (message n body (h, is_head, sound) masked is) =
    let says = head_says h n bytes is_head in
    let wide = twenty bytes says.0 in
    let least = sound.no_less in
    let k = length bytes - min (length bytes) n in
    let together = masked_alike choice numbers d (body_of bytes n) body masked in
    let size = alike_size d (body_of bytes n) body together in
    let cut = length-take (min (length bytes) n - 20) (drop 20 bytes) in
    let left = length-drop 20 bytes in
    let long : length new ≡ length bytes = ap length is ∙ length-append (take 20 bytes) (body ++ zeros k)
    ∙ omega (arith, says.0, least, wide, size, cut, left, length-append body (zeros k), length-replicate {A = ℕ} k 0) in
    record {
      long = sym long;
      front = sym (ap (take 20) is ∙ take_at (take 20 bytes) (body ++ zeros k) 20 wide);
      body = λ w.
          let all : length bytes ≡ n = w.is_length ∙ says.2 in
          let none : k ≡ 0 = omega (arith, all) in
          let there : drop 20 new ≡ body = ap (drop 20) is ∙ drop_at (take 20 bytes) (body ++ zeros k) 20 wide ∙ ap (λ (j : ℕ). body ++ zeros j) none ∙ append-nil body in
          let here : body_of bytes n ≡ drop 20 bytes = take_all (min (length bytes) n - 20) (drop 20 bytes) (omega (arith, left, all)) in
          subst (λ (t : List ℕ). AreAlike d t (drop 20 new)) here (subst (AreAlike d (body_of bytes n)) (sym there) together);
    }
masked_similar choice numbers d bytes new (bad_header long bad is) =
    let wide = twenty bytes long in
    let size : length new ≡ length bytes = ap length is ∙ length-append (take 20 bytes) (zeros (length bytes - 20)) ∙ omega (arith, wide, long, length-replicate {A = ℕ} (length bytes - 20) 0) in
    record {
      long = sym size;
      front = sym (ap (take 20) is ∙ take_at (take 20 bytes) (zeros (length bytes - 20)) 20 wide);
      body = λ w. absurd (⊎_elim (λ other. other w.version) (λ other. other (subst IsMessageLength w.is_length w.sound)) bad);
    }
masked_similar choice numbers d bytes new (no_header few is) =
    subst (AreSimilar d bytes) (sym is) (record { long = refl; front = refl; body = λ w. let l = w.long in absurd (omega (arith, l, few)) })

-- a message and what replaces it have the same answers
pub judged_alike : (choice : Choice) (numbers : Numbering) (d : Dictionary) (bytes new : List ℕ) → IsDictionary d → IsMessageMasked choice numbers d bytes new → IsJudgedAlike d bytes new
judged_alike choice numbers d bytes new sound masked u most a =
    let same = masked_similar choice numbers d bytes new masked in
    (answer_too d sound u most bytes new same a, answer_too d sound u most new bytes (flip_similar d bytes new same) a)

pub judged_added : {T E : Type 0} (r : Result T E) (choice : Choice) (numbers : Numbering) (d : Dictionary) (bytes old new : List ℕ) → IsDictionary d
    → OnOk r (Adds (IsMessageMasked choice numbers d bytes) old new) → OnOk r (Adds (IsJudgedAlike d bytes) old new)
judged_added (Ok u) choice numbers d bytes old new sound (added, masked, is) = (added, judged_alike choice numbers d bytes added sound masked, is)
judged_added (Err e) choice numbers d bytes old new sound h = tt
