-- The Message Length that bytes begin with, and the faults that rule it out.
use Rattle.std.proofs.Common.{◌≡◌, ◌≢◌, ℕ, ◌<◌, ◌≤◌, List, length, take, drop, refl, sym, subst, arith}
use Rattle.std.specs.Prelude.{slice_index, Result, Ok, Err, IsErrAnd}
use Rattle.dia_wire.specs.declared.header.Header.{Header}
use Rattle.dia_wire.specs.declared.header.HeadFault.{HeadFault}
use Rattle.dia_wire.specs.declared.header.HeadFault.TheVariants.{Short, Version, Length}
use Rattle.dia_wire.specs.declared.header.MessageFault.{MessageFault}
use Rattle.dia_wire.specs.declared.header.MessageFault.TheVariants.{Truncated, Trailing}
use Rattle.dia_wire.specs.Number.{number}
use Rattle.dia_wire.specs.Wire.{IsHead, IsMessageLength, BeginsMessage}
use Rattle.dia_wire.specs.Faults.{message_fault}
use Rattle.dia_wire.proofs.OneHeader.{one_header, head_says}

pub one_length : (bytes : List ℕ) (h : Header) (n m : ℕ) → IsHead h n (take 20 bytes) → BeginsMessage bytes m → m ≡ n
one_length bytes h n m is_head (k, is_other, long) = (one_header k h m n (take 20 bytes) is_other is_head).1

-- bytes that begin with a message's header have no fault of a header
pub no_fault : (bytes : List ℕ) (n : ℕ) (e : HeadFault) → (e ≡ Short → length bytes < 20) → (e ≡ Version → (20 ≤ length bytes) × (slice_index bytes 0 ≢ 1))
    → (e ≡ Length → (20 ≤ length bytes) × (slice_index bytes 0 ≡ 1) × ¬ IsMessageLength (number (take 3 (drop 1 bytes)))) → ¬ BeginsMessage bytes n
no_fault bytes n Short short version len (h, is_head, long) = let says = head_says h n bytes is_head in let less = short refl in absurd (omega (arith, says.0, less))
no_fault bytes n Version short version len (h, is_head, long) = (version refl).1 (head_says h n bytes is_head).1
no_fault bytes n Length short version len (h, is_head, long) = (len refl).2 (subst IsMessageLength (sym (head_says h n bytes is_head).2) long)

-- what is reported of a fault of the header
pub recorded_of : {X : Type 0} (r : Result X MessageFault) (e : HeadFault) (k : MessageFault) → IsErrAnd r (λ m. m ≡ message_fault e) → r ≡ Err k → k ≡ message_fault e
recorded_of (Ok x) e k h is = absurd cc
recorded_of (Err m) e k h is = cc

pub not_truncated : (e : HeadFault) → message_fault e ≢ Truncated
not_truncated Short k = absurd cc
not_truncated Version k = absurd cc
not_truncated Length k = absurd cc

pub not_trailing : (e : HeadFault) → message_fault e ≢ Trailing
not_trailing Short k = absurd cc
not_trailing Version k = absurd cc
not_trailing Length k = absurd cc
