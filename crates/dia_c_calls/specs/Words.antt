-- The words of the numbers of c/dia.h, and the line of a verdict.
use Rattle.std.specs.Prelude.{◌≡◌, ℕ, ◌==◌, ◌≤◌, if◌then◌else◌, List, ◌++◌, length, Option, Some, None, codes}
use Rattle.dia_book.specs.Dictionary.{Dictionary, groups}
use Rattle.dia_dict.specs.declared.fault.DictKind.TheVariants as kind
use Rattle.dia_dict.specs.Words.{kind_word}
use Rattle.dia_check.specs.declared.fault.Fault.{Fault}
use Rattle.dia_check.specs.declared.fault.Reason.TheVariants as reason
use Rattle.dia_check.specs.Reasons.{reason_word}
use Rattle.dia_run.specs.Texts.{line}
use Rattle.dia_run.specs.Verdict.{fault_line}
use Rattle.dia_c_calls.specs.declared.verdict.Verdict.{Verdict}
use Rattle.dia_c_calls.specs.Names.{IsCommandName}
use Rattle.dia_c_calls.specs.Verdicts.{fault_verdict, said}

-- the word of a status
abbrev pub status_text : ℕ → Option (List ℕ)
status_text n = if n == 0 then Some (codes "ok") else if n == 1 then Some (codes "refused") else if n == 2 then Some (codes "none") else if n == 3 then Some (codes "no memory")
    else if n == 4 then Some (codes "no room") else if n == 5 then Some (codes "is open") else if n == 6 then Some (codes "is closed") else if n == 7 then Some (codes "bad argument")
    else if n == 8 then Some (codes "outputs left") else if n == 9 then Some (codes "spent") else None

-- the word of a reason, as lines of `check` have it
abbrev pub reason_text : ℕ → Option (List ℕ)
reason_text n = if n == 0 then Some (reason_word reason.Version) else if n == 1 then Some (reason_word reason.Length) else if n == 2 then Some (reason_word reason.Bits)
    else if n == 3 then Some (reason_word reason.Command) else if n == 4 then Some (reason_word reason.Application) else if n == 5 then Some (reason_word reason.Proxiable)
    else if n == 6 then Some (reason_word reason.AvpLength) else if n == 7 then Some (reason_word reason.Unknown) else if n == 8 then Some (reason_word reason.MBit)
    else if n == 9 then Some (reason_word reason.Missing) else if n == 10 then Some (reason_word reason.NotAllowed) else if n == 11 then Some (reason_word reason.TooMany)
    else if n == 12 then Some (reason_word reason.LeafLength) else if n == 13 then Some (reason_word reason.LeafValue) else if n == 14 then Some (reason_word reason.Depth) else None

-- the word of a kind of problem, as answers in JSON have it
abbrev pub kind_text : ℕ → Option (List ℕ)
kind_text n = if n == 0 then Some (codes "not text") else if n == 1 then Some (codes "syntax") else if n == 2 then Some (codes "number") else if n == 3 then Some (codes "limit")
    else if n == 10 then Some (kind_word kind.Limit) else if n == 11 then Some (kind_word kind.DuplicateName) else if n == 12 then Some (kind_word kind.NoGroupFormat)
    else if n == 13 then Some (kind_word kind.HeaderMismatch) else if n == 14 then Some (kind_word kind.DuplicateKey) else if n == 15 then Some (kind_word kind.DuplicateCommand)
    else if n == 16 then Some (kind_word kind.UndefinedName) else if n == 17 then Some (kind_word kind.RepeatedSlot) else if n == 18 then Some (kind_word kind.MinOverMax)
    else if n == 19 then Some (kind_word kind.RequiredMin) else if n == 20 then Some (kind_word kind.OptionalMin) else if n == 30 then Some (codes "no commands")
    else if n == 31 then Some (codes "no command") else None

-- the line that `diacmd check` writes where a check has this verdict, without its line feed
pub data IsVerdictText (d : Dictionary) (v : Verdict) (text : List ℕ) : Type 0 where
  valid : (name : List ℕ) → v ≡ said 0 v.command → length (groups d) ≤ v.command → IsCommandName d v.command name → text ≡ codes "valid " ++ name → IsVerdictText d v text
  fault : (f : Fault) → v ≡ fault_verdict f → line text ≡ fault_line d f → IsVerdictText d v text
  truncated : v ≡ said 2 0 → text ≡ codes "truncated" → IsVerdictText d v text
  trailing : v ≡ said 3 0 → text ≡ codes "trailing" → IsVerdictText d v text
