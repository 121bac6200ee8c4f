-- How a line is read: what each function of the reader takes from the front of a text, with what follows, or the text from where
-- it fails.
use Rattle.std.specs.Prelude.{ℕ, nat_lt, ◌-◌, ◌==◌, ◌||◌, ◌&&◌, Bool, not, if◌then◌else◌, List, [], ◌∷◌, length, take, drop}
use Rattle.std.specs.Prelude.{reverse, codes, Option, Some, None, is_some, Result, Ok, Err}
use Rattle.std.specs.Char.{is_ascii_digit}
use Rattle.std.specs.List.{find, prefix_len}
use Rattle.std.specs.Str.{bytes_eq}
use Rattle.dia_accepted.specs.declared.line.Reason.{Reason}
use Rattle.dia_accepted.specs.declared.line.Reason.TheVariants as reasons
use Rattle.dia_accepted.specs.declared.line.Verdict.{Verdict}
use Rattle.dia_accepted.specs.declared.line.Verdict.TheVariants.{Breaks, Undecided}
use Rattle.dia_accepted.specs.Lines.{PlainLine, reason_word}
use Rattle.dia_accepted.specs.Words.{begins, is_name_byte, is_path_byte, subject_len}

-- the part that was found, or the text at which there is none
abbrev pub or_at : {X Y : Type 0} → List ℕ → Option X → (X → Result Y (List ℕ)) → Result Y (List ℕ)
or_at text None f = Err text
or_at text (Some x) f = f x

abbrev pub and_then : {X Y : Type 0} → Result X (List ℕ) → (X → Result Y (List ℕ)) → Result Y (List ℕ)
and_then (Ok x) f = f x
and_then (Err rest) f = Err rest

-- ---- words

-- no space (32)
abbrev pub is_of_word : ℕ → Bool
is_of_word c = not (c == 32)

abbrev pub first_word : List ℕ → List ℕ
first_word text = take (prefix_len is_of_word text) text

-- what follows the first word and a space
abbrev pub after_word : List ℕ → List ℕ
after_word text = drop 1 (drop (prefix_len is_of_word text) text)

abbrev pub all_reasons : List Reason
all_reasons = reasons.Command ∷ reasons.Application ∷ reasons.Proxiable ∷ reasons.Missing ∷ reasons.TooMany ∷ reasons.NotAllowed
    ∷ reasons.Order ∷ reasons.Unknown ∷ reasons.MBit ∷ reasons.Format ∷ reasons.Meaning ∷ []

abbrev pub is_named : List ℕ → Reason → Bool
is_named letters reason = bytes_eq letters (reason_word reason)

abbrev pub reason_named : List ℕ → Option Reason
reason_named letters = find (is_named letters) all_reasons

-- ---- parts

abbrev pub path_read : List ℕ → Option (Option (List ℕ) × List ℕ)
path_read text =
    if begins text (codes "*") then Some (None, drop 1 text)
    else if nat_lt 0 (prefix_len is_name_byte text)
    then Some (Some (take (prefix_len is_path_byte text) text), drop (prefix_len is_path_byte text) text)
    else None

abbrev pub colon_read : List ℕ → Option (List ℕ)
colon_read text = if begins text (codes ": ") then Some (drop 2 text) else None

abbrev pub undecided_by : List ℕ → Option Reason → Verdict × List ℕ
undecided_by text None = (Undecided None, text)
undecided_by text (Some reason) = (Undecided (Some reason), after_word text)

abbrev pub undecided_read : List ℕ → Verdict × List ℕ
undecided_read text = undecided_by text (reason_named (first_word text))

abbrev pub verdict_by : List ℕ → Option Reason → Option (Verdict × List ℕ)
verdict_by text None = if bytes_eq (first_word text) (codes "undecided") then Some (undecided_read (after_word text)) else None
verdict_by text (Some reason) = Some (Breaks reason, after_word text)

abbrev pub verdict_read : List ℕ → Option (Verdict × List ℕ)
verdict_read text = verdict_by text (reason_named (first_word text))

abbrev pub subject_read : List ℕ → Option (List ℕ × List ℕ)
subject_read text =
    if nat_lt 0 (prefix_len is_name_byte text)
    then Some (take (subject_len text) text, drop (subject_len text) text)
    else None

-- ---- the end of a line of `--once`

-- no comma (44)
abbrev pub is_of_part : ℕ → Bool
is_of_part c = not (c == 44)

-- what follows the last comma, and what precedes it
abbrev pub last_part : List ℕ → List ℕ
last_part text = drop (length text - prefix_len is_of_part (reverse text)) text

abbrev pub before_last : List ℕ → List ℕ
before_last text = take (length text - prefix_len is_of_part (reverse text) - 1) text

abbrev pub is_path : List ℕ → Bool
is_path text = nat_lt 0 (prefix_len is_name_byte text) && prefix_len is_path_byte text == length text

-- ` command`, or ` commands`
abbrev pub is_noun : List ℕ → Bool
is_noun text = bytes_eq text (codes " command") || bytes_eq text (codes " commands")

abbrev pub is_count : List ℕ → Bool
is_count text = nat_lt 0 (prefix_len is_ascii_digit text) && is_noun (drop (prefix_len is_ascii_digit text) text)

-- ` in N commands`
abbrev pub is_counting : List ℕ → Bool
is_counting part = begins part (codes " in ") && is_count (drop 4 part)

-- ` first in PATH`
abbrev pub is_placing : List ℕ → Bool
is_placing part = begins part (codes " first in ") && is_path (drop 10 part)

-- what precedes `, in N commands, first in PATH`
abbrev pub detail_read : List ℕ → Option (List ℕ)
detail_read text =
    if is_placing (last_part text) && (is_counting (last_part (before_last text)) && nat_lt 0 (length (before_last (before_last text))))
    then Some (before_last (before_last text))
    else None

-- ---- lines

-- verdict and subject
abbrev pub Front : Type 0
Front = Verdict × List ℕ

abbrev pub front_read : List ℕ → Result (Front × List ℕ) (List ℕ)
front_read text =
    or_at text (verdict_read text) (λ v. or_at v.1 (subject_read v.1) (λ s. or_at s.1 (colon_read s.1) (λ rest. Ok ((v.0, s.0), rest))))

abbrev pub line_by : Option (List ℕ) → Front → List ℕ → PlainLine
line_by path front detail = record { path = path; verdict = front.0; subject = front.1; detail = detail }

abbrev pub answer_by : Option (List ℕ) → Front × List ℕ → Result PlainLine (List ℕ)
answer_by path found = if length found.1 == 0 then Err found.1 else Ok (line_by path found.0 found.1)

abbrev pub answer_read : List ℕ → Result PlainLine (List ℕ)
answer_read words = or_at words (path_read words) (λ p. or_at p.1 (colon_read p.1) (λ text. and_then (front_read text) (answer_by p.0)))

abbrev pub once_by : Front × List ℕ → Result PlainLine (List ℕ)
once_by found = or_at [] (detail_read found.1) (λ detail. Ok (line_by None found.0 detail))

abbrev pub once_read : List ℕ → Result PlainLine (List ℕ)
once_read words = and_then (front_read words) once_by

abbrev pub or_once : List ℕ → Result PlainLine (List ℕ) → Result PlainLine (List ℕ)
or_once words (Ok line) = Ok line
or_once words (Err rest) = if is_some (verdict_read words) then once_read words else Err rest

abbrev pub line_read : List ℕ → Result PlainLine (List ℕ)
line_read words = or_once words (answer_read words)
