-- What the bytes of a stream begin with.
use Rattle.std.proofs.Common.{◌≡◌, ◌≢◌, ℕ, ◌<◌, ◌≤◌, List, ◌++◌, length, take, drop, Result, Ok, Err, refl, sym, subst, ◌∙◌, arith, inl, inr}
use Rattle.std.specs.Prelude.{◌↔◌, slice_index, IfOk, IsTrue, is_err}
use Rattle.std.proofs.lemmas.List.{length-append, length-take, take-append-le, take-append-drop}
use Rattle.dia_wire.specs.declared.header.Header.{Header}
use Rattle.dia_wire.specs.declared.header.HeadFault.{HeadFault}
use Rattle.dia_wire.specs.declared.header.HeadFault.TheVariants.{Short, Version, Length}
use Rattle.dia_wire.specs.Number.{number}
use Rattle.dia_wire.specs.Wire.{BeginsMessage, IsHead, IsMessageLength}
use Rattle.dia_wire.proofs.OneHeader.{head_says}
use Rattle.dia_streams.specs.Streams.{IsEndless, IsMessage}
use Rattle.dia_streams.specs.StreamUnderWay.{BeginsNone}

pub message_long : (bytes : List ℕ) (n : ℕ) → BeginsMessage bytes n → 20 ≤ length bytes
message_long bytes n (h, head, sound) = (head_says h n bytes head).0

pub one_length : (bytes : List ℕ) (m n : ℕ) → BeginsMessage bytes m → BeginsMessage bytes n → m ≡ n
one_length bytes m n (h, head, sound) (h', head', sound') = sym (head_says h m bytes head).2 ∙ (head_says h' n bytes head').2

-- what follows a header doesn't change it
pub message_on : (a b : List ℕ) (n : ℕ) → BeginsMessage a n → BeginsMessage (a ++ b) n
message_on a b n (h, head, sound) =
    let long = message_long a n (h, head, sound) in
    (h, subst (IsHead h n) (sym (take-append-le 20 a b long)) head, sound)

pub message_back : (a b : List ℕ) (n : ℕ) → 20 ≤ length a → BeginsMessage (a ++ b) n → BeginsMessage a n
message_back a b n long (h, head, sound) = (h, subst (IsHead h n) (take-append-le 20 a b long) head, sound)

pub whole_front : (bytes : List ℕ) (n : ℕ) → BeginsMessage bytes n → n ≤ length bytes → IsMessage (take n bytes)
whole_front bytes n (h, head, sound) within =
    let size : length (take n bytes) ≡ n = let l = length-take n bytes in omega (arith, l, within) in
    let less = sound.no_less in
    subst (BeginsMessage (take n bytes)) (sym size)
    (message_back (take n bytes) (drop n bytes) n (omega (arith, size, less))
    (subst (λ (b : List ℕ). BeginsMessage b n) (sym (take-append-drop n bytes)) (h, head, sound)))

pub bad_version : (bytes : List ℕ) → (20 ≤ length bytes) × (slice_index bytes 0 ≢ 1) → IsEndless bytes
bad_version bytes (long, bad) = (long, λ n (m : BeginsMessage bytes n). bad (head_says m.0 n bytes m.1).1)

pub bad_length : (bytes : List ℕ) → (20 ≤ length bytes) × (slice_index bytes 0 ≡ 1) × (¬ IsMessageLength (number (take 3 (drop 1 bytes)))) → IsEndless bytes
bad_length bytes (long, version, bad) = (long, λ n (m : BeginsMessage bytes n). bad (subst IsMessageLength (sym (head_says m.0 n bytes m.1).2) m.2))

-- no header with which a message begins
module _ (bytes : List ℕ) where
  pub fault_front : (r : Result (Header × ℕ) HeadFault) → ((x : Header × ℕ) → r ≡ Ok x → ⊥) → ((r ≡ Err Short) ↔ (length bytes < 20))
      → ((r ≡ Err Version) ↔ ((20 ≤ length bytes) × (slice_index bytes 0 ≢ 1)))
      → ((r ≡ Err Length) ↔ ((20 ≤ length bytes) × (slice_index bytes 0 ≡ 1) × (¬ IsMessageLength (number (take 3 (drop 1 bytes))))))
      → BeginsNone bytes
  fault_front (Ok x) none short version len = absurd (none x refl)
  fault_front (Err Short) none short version len = inl (inl (short.0 refl))
  fault_front (Err Version) none short version len = inr (bad_version bytes (version.0 refl))
  fault_front (Err Length) none short version len = inr (bad_length bytes (len.0 refl))

  pub part_front : (n : ℕ) → BeginsMessage bytes n → length bytes < n → BeginsNone bytes
  part_front n m less = inl (inr (n, m, less))

pub endless_on : (a b : List ℕ) → IsEndless a → IsEndless (a ++ b)
endless_on a b (long, none) = let l = length-append a b in (omega (arith, long, l), λ n m. none n (message_back a b n long m))

module _ (bytes : List ℕ) (long : 20 ≤ length bytes) where
  -- no header with which a message begins, or one
  pub endless_or_not : (r : Result (Header × ℕ) HeadFault) → ((r ≡ Err Short) ↔ (length bytes < 20))
      → ((r ≡ Err Version) ↔ ((20 ≤ length bytes) × (slice_index bytes 0 ≢ 1)))
      → ((r ≡ Err Length) ↔ ((20 ≤ length bytes) × (slice_index bytes 0 ≡ 1) × (¬ IsMessageLength (number (take 3 (drop 1 bytes))))))
      → IfOk r (λ found. IsHead found.0 found.1 (take 20 bytes)) → IfOk r (λ found. IsMessageLength found.1)
      → IsTrue (is_err r) ↔ IsEndless bytes
  endless_or_not (Ok (h, n)) short version len head sound = (λ yes. absurd cc, λ (e : IsEndless bytes). absurd (e.1 n (h, head, sound)))
  endless_or_not (Err Short) short version len head sound = let few = short.0 refl in absurd (omega (arith, long, few))
  endless_or_not (Err Version) short version len head sound = (λ yes. bad_version bytes (version.0 refl), λ e. refl)
  endless_or_not (Err Length) short version len head sound = (λ yes. bad_length bytes (len.0 refl), λ e. refl)
