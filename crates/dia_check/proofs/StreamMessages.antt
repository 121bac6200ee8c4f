-- A message as a stream takes it: how many bytes it wants, and what was read of them.
use Rattle.std.proofs.Common.{◌≡◌, ◌≢◌, ℕ, ◌-◌, ◌%◌, ◌<◌, ◌≤◌, Bool, false, List, [], ◌∷◌, ◌++◌, length, take, drop, refl, sym, ap, subst, ◌∙◌, arith, inl, inr, ⊎_elim}
use Rattle.std.specs.Prelude.{◌⊎◌, ◌==◌, ◌&&◌, nat_le, nat_lt, if◌then◌else◌, slice_index, replicate, IsTrue, Err}
use Rattle.std.proofs.lemmas.Bool.{le-ltb, lt-ltb, cond-true, cond-false, and_parts, and_from, eqb-true, eq-eqb, leb-true, le-leb, false_from_ne_true, cases_lt}
use Rattle.std.proofs.lemmas.List.{append_assoc, length-append, length-replicate, take-append-le}
use Rattle.dia_wire.specs.declared.Header.{Header}
use Rattle.dia_wire.specs.Number.{number}
use Rattle.dia_wire.specs.Wire.{IsHead, IsMessageLength, HasVendorFlag, HasWholeHead, IsBadLength}
use Rattle.dia_book.specs.Dictionary.{Dictionary, IsDictionary}
use Rattle.dia_terms.specs.declared.Unknown.{Unknown}
use Rattle.dia_terms.specs.declared.Levels.{Levels}
use Rattle.dia_check.specs.declared.fault.Refusal.{Refusal}
use Rattle.dia_check.specs.declared.fault.Refusal.TheVariants as refusal
use Rattle.dia_check.specs.declared.open_levels.OpenLevels.{OpenLevels}
use Rattle.dia_check.specs.declared.stream.parts.Part.{Part}
use Rattle.dia_check.specs.declared.stream.parts.Part.TheVariants.{Head, Data}
use Rattle.dia_check.specs.declared.stream.parts.HeadPart.{HeadPart}
use Rattle.dia_check.specs.declared.stream.stages.Body.{Body}
use Rattle.dia_check.specs.declared.stream.stages.Stage.{Stage}
use Rattle.dia_check.specs.declared.stream.stages.Stage.TheVariants.{Header as InHeader, InBody, Over, NoMemory}
use Rattle.dia_check.specs.Faults.{HasGoodHeader, HasHeader, HasLength, IsAnswer}
use Rattle.dia_check.specs.Front.{front_bytes}
use Rattle.dia_check.specs.Reading.{IsInHead, IsInPart}
use Rattle.dia_check.specs.Streaming.{is_sound, wanted, BeginsGood, HoweverItEnds, IsReading, IsBegun, IsWholeAnswer, HasReadUnless}
use Rattle.dia_check.proofs.UnderWay.{place, next_place}

-- ---- what the first bytes say

first_bytes : (a b : List ℕ) → 20 ≤ length a → (slice_index (a ++ b) 0 ≡ slice_index a 0) × (take 3 (drop 1 (a ++ b)) ≡ take 3 (drop 1 a))
first_bytes [] b long = absurd (omega (arith, long))
first_bytes (x ∷ []) b long = absurd (omega (arith, long))
first_bytes (x ∷ y ∷ []) b long = absurd (omega (arith, long))
first_bytes (x ∷ y ∷ z ∷ []) b long = absurd (omega (arith, long))
first_bytes (x ∷ y ∷ z ∷ w ∷ a) b long = (refl, refl)

abbrev sound_by : ℕ → List ℕ → Bool
sound_by v t = (v == 1) && nat_le 20 (number t) && (number t % 4 == 0)

abbrev wanted_by : Bool → ℕ → ℕ
wanted_by is n = if is then n else 20

pub same_sound : (a b : List ℕ) → 20 ≤ length a → is_sound (a ++ b) ≡ is_sound a
same_sound a b long = let (v, t) = first_bytes a b long in ap (λ (n : ℕ). sound_by n (take 3 (drop 1 (a ++ b)))) v ∙ ap (sound_by (slice_index a 0)) t

pub short_wants : (a : List ℕ) → length a < 20 → wanted a ≡ 20
short_wants a short = cond-true (nat_lt (length a) 20) 20 (wanted_by (is_sound a) (number (take 3 (drop 1 a)))) (lt-ltb (length a) 20 short)

long_wants : (a : List ℕ) → 20 ≤ length a → wanted a ≡ wanted_by (is_sound a) (number (take 3 (drop 1 a)))
long_wants a long = cond-false (nat_lt (length a) 20) 20 (wanted_by (is_sound a) (number (take 3 (drop 1 a)))) (le-ltb (length a) 20 long)

pub sound_wants : (a : List ℕ) → 20 ≤ length a → IsTrue (is_sound a) → wanted a ≡ number (take 3 (drop 1 a))
sound_wants a long is = long_wants a long ∙ cond-true (is_sound a) (number (take 3 (drop 1 a))) 20 is

pub unsound_wants : (a : List ℕ) → 20 ≤ length a → is_sound a ≡ false → wanted a ≡ 20
unsound_wants a long is = long_wants a long ∙ cond-false (is_sound a) (number (take 3 (drop 1 a))) 20 is

pub same_wanted : (a b : List ℕ) → 20 ≤ length a → wanted (a ++ b) ≡ wanted a
same_wanted a b long =
    long_wants (a ++ b) (omega (arith, long, length-append a b)) ∙ ap (λ (s : Bool). wanted_by s (number (take 3 (drop 1 (a ++ b))))) (same_sound a b long)
    ∙ ap (λ (t : List ℕ). wanted_by (is_sound a) (number t)) (first_bytes a b long).1 ∙ sym (long_wants a long)

-- a header is sound exactly where it has a Message Length
parts_sound : (v n : ℕ) → IsTrue ((v == 1) && nat_le 20 n && (n % 4 == 0)) → (v ≡ 1) × IsMessageLength n
parts_sound v n is =
    let (both, aligned) = and_parts ((v == 1) && nat_le 20 n) (n % 4 == 0) is in
    let (version, less) = and_parts (v == 1) (nat_le 20 n) both in
    (eqb-true v 1 version, record { no_less = leb-true 20 n less; aligned = eqb-true (n % 4) 0 aligned })

sound_parts : (v n : ℕ) → v ≡ 1 → IsMessageLength n → IsTrue ((v == 1) && nat_le 20 n && (n % 4 == 0))
sound_parts v n version sound =
    and_from ((v == 1) && nat_le 20 n) (n % 4 == 0) (and_from (v == 1) (nat_le 20 n) (eq-eqb v 1 version) (le-leb 20 n sound.no_less)) (eq-eqb (n % 4) 0 sound.aligned)

pub sound_length : (a : List ℕ) → 20 ≤ length a → IsTrue (is_sound a) → HasLength a (wanted a)
sound_length a long is =
    let (version, sound) = parts_sound (slice_index a 0) (number (take 3 (drop 1 a))) is in
    let e = sound_wants a long is in
    record { long = long; version = version; is_length = e; sound = subst IsMessageLength (sym e) sound }

pub length_sound : (a : List ℕ) (n : ℕ) → HasLength a n → IsTrue (is_sound a) × (wanted a ≡ n)
length_sound a n h =
    let is = sound_parts (slice_index a 0) (number (take 3 (drop 1 a))) h.version (subst IsMessageLength h.is_length h.sound) in
    (is, sound_wants a h.long is ∙ sym h.is_length)

pub unsound : (a : List ℕ) → ((slice_index a 0 ≢ 1) ⊎ (¬ IsMessageLength (number (take 3 (drop 1 a))))) → is_sound a ≡ false
unsound a bad = false_from_ne_true (is_sound a) (λ is. let (version, sound) = parts_sound (slice_index a 0) (number (take 3 (drop 1 a))) is in ⊎_elim
    (λ (b : slice_index a 0 ≢ 1). b version) (λ (b : ¬ IsMessageLength (number (take 3 (drop 1 a)))). b sound) bad)

pub length_on : (a b : List ℕ) (n : ℕ) → HasLength a n → HasLength (a ++ b) n
length_on a b n h =
    let (v, t) = first_bytes a b h.long in
    record { long = let l = h.long in omega (arith, l, length-append a b); version = v ∙ h.version; is_length = h.is_length ∙ ap number (sym t); sound = h.sound }

pub header_on : (a b : List ℕ) (h : Header) (n : ℕ) → 20 ≤ length a → IsHead h n (take 20 a) → length (a ++ b) ≡ n → HasHeader (a ++ b) h
header_on a b h n long is size = subst (λ (k : ℕ). IsHead h k (take 20 (a ++ b))) (sym size) (subst (IsHead h n) (sym (take-append-le 20 a b long)) is)

-- ---- how a message may end

abbrev pub zeros_to_end : List ℕ → List ℕ
zeros_to_end a = replicate (wanted a - length a) 0

pub ends_with_zeros : (a : List ℕ) → length a ≤ wanted a → length (a ++ zeros_to_end a) ≡ wanted a
ends_with_zeros a within = let more = length-append a (zeros_to_end a) in let zeros = length-replicate {A = ℕ} (wanted a - length a) 0 in omega (arith, more, zeros, within)

pub however_on : (P : List ℕ → Type 0) (a b : List ℕ) → 20 ≤ length a → HoweverItEnds a P → HoweverItEnds (a ++ b) P
however_on P a b long h more size =
    let e = append_assoc a b more in
    subst P (sym e) (h (b ++ more) (ap length (sym e) ∙ size ∙ same_wanted a b long))

pub sized_end : (a more : List ℕ) → 20 ≤ length a → IsTrue (is_sound a) → length (a ++ more) ≡ wanted a → HasLength (a ++ more) (length (a ++ more))
sized_end a more long is size = subst (HasLength (a ++ more)) (sym size) (length_on a more (wanted a) (sound_length a long is))

-- ---- a part that isn't read wholly ends after what was read

short_head : (k len flags room : ℕ) (whole : Type 0) → ((8 ≤ k) × (HasVendorFlag flags → 12 ≤ k) → whole) → ¬ whole → (8 ≤ k → ¬ IsBadLength flags len room) → 8 ≤ room → k < room
short_head k len flags room whole is none may room_8 = ⊎_elim (λ less. less) (λ le. absurd (by le)) (cases_lt k room)
  where
    more : room ≤ k → HasVendorFlag flags → ⊥
    more le f = ⊎_elim
        (λ (low : len < 12). may (omega (arith, le, room_8)) (inr (inl (f, low))))
        (λ (high : 12 ≤ len). ⊎_elim (λ (few : room < 12). may (omega (arith, le, room_8)) (inr (inr (omega (arith, few, high)))))
        (λ (many : 12 ≤ room). none (is (omega (arith, le, room_8), λ g. omega (arith, le, many)))) (cases_lt room 12)) (cases_lt len 12)

    by : room ≤ k → ⊥
    by le = none (is (omega (arith, le, room_8), λ f. absurd (more le f)))

module _ (d : Dictionary) (sound : IsDictionary d) (u : Unknown) (most : Levels) (bytes : List ℕ) (good : HasGoodHeader d bytes) (o : OpenLevels) where
  pub head_before : (part : HeadPart) (n : ℕ) → IsInHead d u most bytes good o part n → n < o.innermost.end
  head_before part n h =
      let (from, to) = place d sound u most bytes good o part.at h.under_way in
      let kept = front_bytes part.front in
      let less = short_head (length kept) (number (take 3 (drop 5 kept))) (slice_index kept 4) (o.innermost.end - part.at) (HasWholeHead kept) (λ w. w) h.not_whole h.may_be h.room in
      let r = h.reached in omega (arith, from, less, r)

  pub part_within : (part : Part) (n : ℕ) → IsInPart d u most bytes good o part n → n < length bytes
  part_within (Head part) n h = let to = (place d sound u most bytes good o part.at h.under_way).1 in let less = head_before part n h in omega (arith, to, less)
  part_within (Data part) n (h, less) =
      let (from, to) = place d sound u most bytes good h.before part.at h.under_way in
      let next = next_place d sound u most bytes good h.before part.at h.under_way h.before.innermost refl h.avp h.rest h.begins in
      let is = h.is_next in omega (arith, from, to, next, is, less)

-- ---- after a header

pub whole_refusal : (d : Dictionary) (u : Unknown) (most : Levels) (all : List ℕ) (k m : ℕ) (e : Refusal)
    → e ≢ refusal.NoMemory → HasLength all (length all) → IsAnswer d u most all (Err e) → IsWholeAnswer k m (Err e)
whole_refusal d u most all k m (refusal.Fault f) ne sized h = tt
whole_refusal d u most all k m refusal.Truncated ne sized (inl short) = let l = sized.long in absurd (omega (arith, short, l))
whole_refusal d u most all k m refusal.Truncated ne sized (inr (n, long, less)) = let a = long.is_length in let b = sized.is_length in absurd (omega (arith, a, b, less))
whole_refusal d u most all k m refusal.Trailing ne sized (n, long, less) = let a = long.is_length in let b = sized.is_length in absurd (omega (arith, a, b, less))
whole_refusal d u most all k m refusal.NoMemory ne sized h = absurd (ne refl)
whole_refusal d u most all k m refusal.Spent ne sized h = absurd h

pub refused_whole : (d : Dictionary) (u : Unknown) (most : Levels) (all : List ℕ) (k m : ℕ) (e : Refusal)
    → e ≢ refusal.NoMemory → HasLength all (length all) → IsAnswer d u most all (Err e) → IsWholeAnswer k m (Err e) × IsAnswer d u most all (Err e)
refused_whole d u most all k m e ne sized h = (whole_refusal d u most all k m e ne sized h, h)

module _ (d : Dictionary) (sound : IsDictionary d) (u : Unknown) (most : Levels) (bytes : List ℕ) (size : length bytes ≡ 20) (n : ℕ) (sized : HasLength bytes n) where
  pub begun_reads : (body : Body) (stage : Stage) → ((more : List ℕ) → length (bytes ++ more) ≡ n → IsBegun d u most (bytes ++ more) body stage)
      → HasReadUnless (BeginsGood d bytes) d u most bytes body stage
  begun_reads body (InHeader front) h = let (is, e) = length_sound bytes n sized in let l = sized.sound.no_less in absurd (h (zeros_to_end bytes) (ends_with_zeros bytes (omega (arith, e, l, size)) ∙ e))
  begun_reads body InBody h =
      let (is, e) = length_sound bytes n sized in
      let l = sized.sound.no_less in
      let end = ends_with_zeros bytes (omega (arith, e, l, size)) ∙ e in
      let (good, same, part) = h (zeros_to_end bytes) end in
      let less = part_within d sound u most (bytes ++ zeros_to_end bytes) good body.open_levels body.part 20 part in
      (omega (arith, size), is, omega (arith, less, end, e, size), λ more to_end. subst (λ (k : ℕ). IsReading d u most body k (bytes ++ more)) (sym size) (h more (to_end ∙ e)))
  begun_reads body (Over answer) h =
      let (is, e) = length_sound bytes n sized in
      let l = sized.sound.no_less in
      let end = ends_with_zeros bytes (omega (arith, e, l, size)) ∙ e in
      let (whole, answers) = h (zeros_to_end bytes) end in
      let all_is = ends_with_zeros bytes (omega (arith, e, l, size)) in
      let here = subst (λ (k : ℕ). IsWholeAnswer k (wanted bytes) answer) (sym size) (subst (λ (k : ℕ). IsWholeAnswer 20 k answer) all_is whole) in
      (omega (arith, size), here, λ more to_end. let (there, is_answer) = h more (to_end ∙ e) in is_answer)
  begun_reads body NoMemory h = let (is, e) = length_sound bytes n sized in (omega (arith, size), is, λ more to_end. h more (to_end ∙ e))
