-- What is said of a message, as numbers.
use Rattle.std.specs.Prelude.{◌≡◌, ◌≢◌, ◌≤◌, ◌<◌, ℕ, ◌⊎◌, nat_eq, List, length, take, drop, replicate, slice_index, Result, Ok, Err, if◌then◌else◌}
use Rattle.dia_book.specs.Dictionary.{Dictionary}
use Rattle.dia_terms.specs.declared.Unknown.{Unknown}
use Rattle.dia_terms.specs.declared.Unknown.TheVariants as unknown
use Rattle.dia_terms.specs.declared.Levels.{Levels}
use Rattle.dia_terms.specs.declared.Levels.TheVariants as levels
use Rattle.dia_check.specs.declared.fault.Fault.{Fault}
use Rattle.dia_check.specs.declared.fault.Subject.TheVariants as subject
use Rattle.dia_check.specs.declared.fault.Subject.{Subject}
use Rattle.dia_check.specs.declared.fault.Selected.{Selected}
use Rattle.dia_check.specs.declared.fault.Refusal.{Refusal}
use Rattle.dia_check.specs.declared.fault.Refusal.TheVariants as refusal
use Rattle.dia_wire.specs.Number.{number}
use Rattle.dia_wire.specs.Wire.{BeginsMessage, IsMessageLength}
use Rattle.dia_wire.specs.declared.header.MessageFault.{MessageFault}
use Rattle.dia_wire.specs.declared.header.MessageFault.TheVariants as message
use Rattle.dia_check.specs.declared.fault.Reason.TheVariants as reason
use Rattle.dia_check.specs.Faults.{IsAnswer, simple}
use Rattle.dia_check.specs.Reasons.{row_of}
use Rattle.dia_c_calls.specs.declared.verdict.Verdict.{Verdict}

abbrev pub IsUnknownPolicy : ℕ → Type 0
IsUnknownPolicy n = (n ≡ 0) ⊎ (n ≡ 1)

-- 1 is refused, and any other number accepted
abbrev pub policy_of : ℕ → Unknown
policy_of n = if nat_eq n 1 then unknown.Refused else unknown.Kept

-- the greatest number is no limit
abbrev pub limit_of : ℕ → Levels
limit_of n = if nat_eq n 4294967295 then levels.Any else levels.AtMost n

-- fields that may be added are zeros
abbrev pub no_fields : List ℕ
no_fields = replicate 4 0

abbrev pub said : ℕ → ℕ → Verdict
said outcome command = record { outcome = outcome; command = command; code = 0; place = 0; reason = 0; subject = 0; avp_code = 0; avp_vendor = 0; reserved = no_fields }

abbrev pub recorded_of : Fault → Subject → Verdict
recorded_of f subject.Nothing = record { outcome = 1; command = 0; code = f.code; place = f.place; reason = row_of f.reason; subject = 0; avp_code = 0; avp_vendor = 0; reserved = no_fields }
recorded_of f (subject.Avp key) = record { outcome = 1; command = 0; code = f.code; place = f.place; reason = row_of f.reason; subject = 1; avp_code = key.code; avp_vendor = key.vendor; reserved = no_fields }
recorded_of f subject.Wildcard = record { outcome = 1; command = 0; code = f.code; place = f.place; reason = row_of f.reason; subject = 2; avp_code = 0; avp_vendor = 0; reserved = no_fields }

abbrev pub fault_verdict : Fault → Verdict
fault_verdict f = recorded_of f f.subject

-- the verdict of an answer; out of memory has none
abbrev pub IsVerdict : Result Selected Refusal → Verdict → Type 0
IsVerdict (Ok found) verdict = verdict ≡ said 0 found.def
IsVerdict (Err (refusal.Fault f)) verdict = verdict ≡ fault_verdict f
IsVerdict (Err refusal.Truncated) verdict = verdict ≡ said 2 0
IsVerdict (Err refusal.Trailing) verdict = verdict ≡ said 3 0
IsVerdict (Err refusal.NoMemory) verdict = ⊥
IsVerdict (Err refusal.Spent) verdict = ⊥

-- the verdict is that of the answer of a check
abbrev pub IsVerdictOn : Dictionary → Unknown → Levels → List ℕ → Verdict → Type 0
IsVerdictOn d u most bytes verdict = (answer : Result Selected Refusal) × IsAnswer d u most bytes answer × IsVerdict answer verdict

-- the same, with the policy and the limit of these numbers
abbrev pub Answers : Dictionary → ℕ → ℕ → List ℕ → Verdict → Type 0
Answers d unknown levels bytes verdict = IsVerdictOn d (policy_of unknown) (limit_of levels) bytes verdict

-- no message begins with the bytes: there are fewer than a header has, the version is not 1, or no message has this Message Length
pub data IsHeadVerdict (bytes : List ℕ) (verdict : Verdict) : Type 0 where
  short : length bytes < 20 → verdict ≡ said 2 0 → IsHeadVerdict bytes verdict
  version : 20 ≤ length bytes → slice_index bytes 0 ≢ 1 → verdict ≡ fault_verdict (simple 0 reason.Version) → IsHeadVerdict bytes verdict
  message_length : 20 ≤ length bytes → slice_index bytes 0 ≡ 1 → ¬ IsMessageLength (number (take 3 (drop 1 bytes)))
      → verdict ≡ fault_verdict (simple 1 reason.Length) → IsHeadVerdict bytes verdict

-- the verdict on bytes that have this fault
abbrev pub no_message : MessageFault → Verdict
no_message message.Short = said 2 0
no_message message.Version = fault_verdict (simple 0 reason.Version)
no_message message.Length = fault_verdict (simple 1 reason.Length)
no_message message.Truncated = said 2 0
no_message message.Trailing = said 3 0

-- the bytes are no message: none begins with them, or one does that has more or fewer bytes
pub data IsNoMessage (bytes : List ℕ) (verdict : Verdict) : Type 0 where
  head : IsHeadVerdict bytes verdict → IsNoMessage bytes verdict
  truncated : (n : ℕ) → BeginsMessage bytes n → length bytes < n → verdict ≡ said 2 0 → IsNoMessage bytes verdict
  trailing : (n : ℕ) → BeginsMessage bytes n → n < length bytes → verdict ≡ said 3 0 → IsNoMessage bytes verdict
