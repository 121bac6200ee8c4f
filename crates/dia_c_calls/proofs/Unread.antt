-- Bytes that are no message have no lines, and a verdict.
use Rattle.std.proofs.Common.{◌≡◌, ◌≢◌, ℕ, ◌<◌, ◌≤◌, Bool, true, false, List, Option, Some, Result, Ok, Err, length, take, drop, sym, subst, ◌∙◌}
use Rattle.std.specs.Prelude.{◌↔◌, IfSome, slice_index}
use Rattle.dia_wire.specs.declared.header.MessageFault.{MessageFault}
use Rattle.dia_wire.specs.declared.header.MessageFault.TheVariants as message
use Rattle.dia_wire.specs.Number.{number}
use Rattle.dia_wire.specs.Wire.{BeginsMessage, IsMessageLength}
use Rattle.dia_book.specs.Dictionary.{Dictionary}
use Rattle.dia_io.specs.declared.Exit.{Exit}
use Rattle.dia_io.specs.declared.Exit.TheVariants.{Bad}
use Rattle.dia_run.specs.Outcome.{IsMessageShown, listing_exit, listing, short, version, bad_length, truncated, trailing}
use Rattle.dia_c_calls.specs.declared.verdict.Verdict.{Verdict}
use Rattle.dia_c_calls.specs.declared.listing.Unshown.TheVariants as unshown
use Rattle.dia_c_calls.specs.Comparisons.{holds_of}
use Rattle.dia_c_calls.specs.Listings.{HasShown}
use Rattle.dia_c_calls.specs.Verdicts.{IsHeadVerdict, IsNoMessage, no_message}

module _ {A : Type 0} (r : Result A MessageFault) (bytes : List ℕ) (is_short : (r ≡ Err message.Short) ↔ (length bytes < 20))
    (is_version : (r ≡ Err message.Version) ↔ ((20 ≤ length bytes) × (slice_index bytes 0 ≢ 1)))
    (is_length : (r ≡ Err message.Length) ↔ ((20 ≤ length bytes) × (slice_index bytes 0 ≡ 1) × ¬ IsMessageLength (number (take 3 (drop 1 bytes)))))
    (is_truncated : (r ≡ Err message.Truncated) ↔ ((n : ℕ) × BeginsMessage bytes n × (length bytes < n)))
    (is_trailing : (r ≡ Err message.Trailing) ↔ ((n : ℕ) × BeginsMessage bytes n × (n < length bytes))) where
  -- the fault that is found has its verdict
  pub unread_as : (fault : MessageFault) (v : Verdict) → r ≡ Err fault → v ≡ no_message fault → IsNoMessage bytes v
  unread_as message.Short v is recorded = IsNoMessage.head (IsHeadVerdict.short (is_short.0 is) recorded)
  unread_as message.Version v is recorded = let (long, other) = is_version.0 is in IsNoMessage.head (IsHeadVerdict.version long other recorded)
  unread_as message.Length v is recorded = let (long, one, bad) = is_length.0 is in IsNoMessage.head (IsHeadVerdict.message_length long one bad recorded)
  unread_as message.Truncated v is recorded = let (n, begins, less) = is_truncated.0 is in IsNoMessage.truncated n begins less recorded
  unread_as message.Trailing v is recorded = let (n, begins, more) = is_trailing.0 is in IsNoMessage.trailing n begins more recorded

  no_error : (x : A) (fault : MessageFault) → r ≡ Ok x → r ≡ Err fault → ⊥
  no_error x fault ok err = let e : Ok x ≡ Err fault = sym ok ∙ err in cc

  never_bad : (bad : Bool) → Bad ≡ listing_exit bad → ⊥
  never_bad true e = cc
  never_bad false e = cc

  -- where none is found, the lines are reported
  pub never_refused : (x : A) (d : Dictionary) (text : List ℕ) → r ≡ Ok x → IsMessageShown d bytes text Bad → ⊥
  never_refused x d text ok (listing rows texts bad are written same ends) = never_bad bad ends
  never_refused x d text ok (short less refuses) = no_error x _ ok (is_short.1 less)
  never_refused x d text ok (version long other refuses) = no_error x _ ok (is_version.1 (long, other))
  never_refused x d text ok (bad_length long one bad refuses) = no_error x _ ok (is_length.1 (long, one, bad))
  never_refused x d text ok (truncated len begins less refuses) = no_error x _ ok (is_truncated.1 (len, begins, less))
  never_refused x d text ok (trailing len begins more refuses) = no_error x _ ok (is_trailing.1 (len, begins, more))

pub same_verdict : (x v : Verdict) → unshown.NoMessage x ≡ unshown.NoMessage v → v ≡ x
same_verdict x v e = cc

-- the lines of a message are those that are answered
pub has_shown : (d : Dictionary) (bytes : List ℕ) (answer : Option (List ℕ)) (holds : ℕ) (text : List ℕ) (exit : Exit) → answer ≡ Some text → IsMessageShown d bytes text exit
    → exit ≢ Bad → holds ≡ holds_of exit → IfSome answer (λ t. HasShown d bytes t holds)
has_shown d bytes answer holds text exit is shown not_bad same = subst (λ (o : Option (List ℕ)). IfSome o (λ t. HasShown d bytes t holds)) (sym is) (exit, shown, not_bad, same)
