-- The causes of lines: reason, subject and detail; and the lines of `--once`, one for each cause.
use Rattle.std.specs.Prelude.{ℕ, nat_eq, ◌==◌, ◌&&◌, Bool, not, if◌then◌else◌, List, [], ◌∷◌, ◌++◌, map, filter, codes}
use Rattle.std.specs.Fmt.{decimal}
use Rattle.std.specs.List.{count_by}
use Rattle.std.specs.Str.{bytes_eq}
use Rattle.dia_accepted.specs.Accepted.{PlainRecorded}
use Rattle.dia_accepted.specs.Words.{cause_text, path_of}

-- each member once, where it occurs first
abbrev pub each_once : {X : Type 0} → (X → X → Bool) → List X → List X
each_once same [] = []
each_once same (x ∷ xs) = x ∷ filter (λ y. not (same x y)) (each_once same xs)

-- this is the cause of the line: its reason, subject and detail
abbrev pub has_cause : List ℕ → PlainRecorded → Bool
has_cause cause t = bytes_eq cause (cause_text t.words)

-- two lines have one cause
abbrev pub same_cause : PlainRecorded → PlainRecorded → Bool
same_cause s t = has_cause (cause_text s.words) t

-- and are of one command
abbrev pub same_cause_of_command : PlainRecorded → PlainRecorded → Bool
same_cause_of_command s t = nat_eq s.command t.command && same_cause s t

-- the first line of each cause
abbrev pub causes_of : List PlainRecorded → List PlainRecorded
causes_of recorded = each_once same_cause recorded

-- how many commands have a line with the cause of this one
abbrev pub commands_with : List PlainRecorded → PlainRecorded → ℕ
commands_with recorded t = count_by (same_cause t) (each_once same_cause_of_command recorded)

abbrev pub noun : ℕ → List ℕ
noun n = if n == 1 then codes "command" else codes "commands"

-- `REASON SUBJECT: DETAIL, in N commands, first in PATH`
abbrev pub once_words : ℕ → List ℕ → List ℕ
once_words n words = cause_text words ++ codes ", in " ++ decimal n ++ codes " " ++ noun n ++ codes ", first in " ++ path_of words

abbrev pub once_line : ℕ → PlainRecorded → PlainRecorded
once_line n t = record { command = t.command; words = once_words n t.words; message = t.message }

-- a line for each cause, in the order of the first places, with how many commands have it; the message is that of the first place
abbrev pub once_of : List PlainRecorded → List PlainRecorded
once_of recorded = map (λ t. once_line (commands_with recorded t) t) (causes_of recorded)
