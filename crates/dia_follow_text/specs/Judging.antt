-- What `check` reports of a message that was captured.
use Rattle.std.specs.Prelude.{◌≡◌, ℕ, List, [], take, Option, None, Some}
use Rattle.dia_wire.specs.declared.header.HeadFault.{HeadFault}
use Rattle.dia_wire.specs.declared.header.HeadFault.TheVariants as fault
use Rattle.dia_io.specs.declared.Exit.{Exit}
use Rattle.dia_io.specs.declared.Exit.TheVariants.{Yes, No, Bad}
use Rattle.dia_dict.specs.Dictionary.{Dictionary}
use Rattle.dia_run.specs.Outcome.{IsJudged}
use Rattle.dia_run.specs.Texts.{line}
use Rattle.dia_follow.specs.declared.Body.{Body}
use Rattle.dia_follow.specs.declared.Body.TheVariants.{Cut, Gap, Known}
use Rattle.dia_follow.specs.declared.Judged.{Judged}
use Rattle.dia_follow.specs.declared.Judged.TheVariants.{Unasked, Passed, Invalid}
use Rattle.dia_follow.specs.declared.Seen.{Seen}
use Rattle.dia_follow.specs.declared.Seen.TheVariants.{Unread, Message}
use Rattle.dia_follow_text.specs.declared.options.Check.{Check}

-- the bytes of a message of this length, unless some are missing
abbrev pub counted_of : List ℕ → ℕ → Body → Option (List ℕ)
counted_of bytes n Cut = None
counted_of bytes n (Gap at) = Some (take n bytes)
counted_of bytes n (Known c) = Some (take n bytes)

abbrev pub counted_unread : List ℕ → HeadFault → Option (List ℕ)
counted_unread bytes fault.Short = None
counted_unread bytes fault.Version = Some bytes
counted_unread bytes fault.Length = Some bytes

abbrev pub counted : List ℕ → Seen → Option (List ℕ)
counted bytes (Unread f) = counted_unread bytes f
counted bytes (Message m) = counted_of bytes m.length m.body

abbrev pub judged_of : Exit → Judged
judged_of Yes = Passed
judged_of No = Invalid
judged_of Bad = Invalid

-- one that bytes are missing of isn't checked
abbrev pub IsChecked : Dictionary → Check → Option (List ℕ) → Judged → List ℕ → Type 0
IsChecked d check None judged verdict = (judged ≡ Passed) × (verdict ≡ [])
IsChecked d check (Some bytes) judged verdict = (exit : Exit) × IsJudged check.unknown check.levels d bytes (line verdict) exit × (judged ≡ judged_of exit)

-- what is found of a message, and the line of `check`
abbrev pub IsJudgedAs : Dictionary → Option Check → List ℕ → Seen → Judged → List ℕ → Type 0
IsJudgedAs d None bytes seen judged verdict = (judged ≡ Unasked) × (verdict ≡ [])
IsJudgedAs d (Some check) bytes seen judged verdict = IsChecked d check (counted bytes seen) judged verdict
