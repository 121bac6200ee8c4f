-- The words of a line, `PATH: REASON SUBJECT: DETAIL`, and what of them has to be the same where a line is accepted.
use Rattle.std.specs.Prelude.{ℕ, nat_eq, nat_lt, ◌==◌, ◌||◌, ◌&&◌, ◌+◌, ◌-◌, Bool, if◌then◌else◌, true, false, not, List, [], ◌∷◌, ◌++◌, length, take, drop, codes, reverse}
use Rattle.std.specs.Char.{is_ascii_alphanumeric, is_ascii_digit}
use Rattle.std.specs.List.{after_first, prefix_len, starts_with}
use Rattle.std.specs.Str.{trim_end}

-- no colon (58)
abbrev pub is_of_path : ℕ → Bool
is_of_path c = not (c == 58)

-- the path: all before the first colon
abbrev pub path_of : List ℕ → List ℕ
path_of words = take (prefix_len is_of_path words) words

-- the rest, from the colon on
abbrev pub cause_of : List ℕ → List ℕ
cause_of words = drop (prefix_len is_of_path words) words

-- a text without the space (32) that it begins with
abbrev pub after_space : List ℕ → List ℕ
after_space [] = []
after_space (c ∷ cs) = if c == 32 then cs else c ∷ cs

-- `REASON SUBJECT: DETAIL`
abbrev pub cause_text : List ℕ → List ℕ
cause_text words = after_space (after_first (λ c. c == 58) words)

-- no `/` (47), and no `[` (91), after which the path says for which application B has the command
abbrev pub is_of_command : ℕ → Bool
is_of_command c = not (c == 47 || c == 91)

-- the command of a path: its first name
abbrev pub command_of : List ℕ → List ℕ
command_of path = take (prefix_len is_of_command path) path

abbrev pub is_of_name : ℕ → Bool
is_of_name c = not (c == 47)

-- the last name of a path, with its application
abbrev pub last_of : List ℕ → List ℕ
last_of path = drop (length path - prefix_len is_of_name (reverse path)) path

abbrev pub begins : List ℕ → List ℕ → Bool
begins words front = starts_with nat_eq words front

-- the reason is one of a level: how often AVPs occur in it, or in which order
abbrev pub has_level_reason : List ℕ → Bool
has_level_reason cause =
    begins cause (codes ": missing ") || (begins cause (codes ": too-many ") || (begins cause (codes ": not-allowed ") || begins cause (codes ": order ")))

-- or so it is undecided
abbrev pub has_undecided_level : List ℕ → Bool
has_undecided_level cause =
    begins cause (codes ": undecided missing ") || (begins cause (codes ": undecided too-many ")
    || (begins cause (codes ": undecided not-allowed ") || begins cause (codes ": undecided order ")))

abbrev pub is_of_level : List ℕ → Bool
is_of_level cause = has_level_reason cause || has_undecided_level cause

-- what counts of a path: the command; for a break of a level also the last name
abbrev pub scope : Bool → List ℕ → List ℕ
scope true path = command_of path ++ 47 ∷ last_of path
scope false path = command_of path

abbrev pub scoped : List ℕ → List ℕ → List ℕ
scoped path cause = scope (is_of_level cause) path ++ cause

-- what counts of a line: the way to a group doesn't, nor the place of an AVP that breaks by itself
abbrev pub counted : List ℕ → List ℕ
counted words = scoped (path_of words) (cause_of words)

-- the same with `*` as path
abbrev pub anywhere : List ℕ → List ℕ
anywhere words = scoped (codes "*") (cause_of words)

-- ---- a line of the list: its entry, and what may follow it

-- no `#` (35)
abbrev pub is_no_hash : ℕ → Bool
is_no_hash c = not (c == 35)

abbrev pub before_hash : List ℕ → List ℕ
before_hash line = take (prefix_len is_no_hash line) line

-- white space ends the text, or it is empty
abbrev pub ends_blank : List ℕ → Bool
ends_blank text = nat_lt (length (trim_end text)) (length text) || length text == 0

-- the entry: no comment, which begins with the first `#` of the line if white space or nothing precedes it, and no white space at its end
abbrev pub entry_text : List ℕ → List ℕ
entry_text line = if ends_blank (before_hash line) then trim_end (before_hash line) else trim_end line

-- there is no entry
abbrev pub is_skipped : List ℕ → Bool
is_skipped line = length (entry_text line) == 0

-- ---- the bytes of names

-- a letter, a digit or a dash (45)
abbrev pub is_name_byte : ℕ → Bool
is_name_byte c = is_ascii_alphanumeric c || c == 45

-- or what joins names, and the signs of `[application N]`
abbrev pub is_path_byte : ℕ → Bool
is_path_byte c = is_name_byte c || (c == 47 || (c == 91 || (c == 93 || c == 32)))

-- ---- the bytes of a subject

-- how many digits begin the text
abbrev pub digits_in : List ℕ → ℕ
digits_in text = prefix_len is_ascii_digit text

abbrev pub after_code : List ℕ → List ℕ
after_code text = drop (digits_in text) text

-- a code, a colon and a vendor begin the text
abbrev pub begins_key : List ℕ → Bool
begins_key text = nat_lt 0 (digits_in text) && (begins (after_code text) (codes ":") && nat_lt 0 (digits_in (drop 1 (after_code text))))

abbrev pub key_len : List ℕ → ℕ
key_len text = digits_in text + 1 + digits_in (drop 1 (after_code text))

-- how many bytes of a subject begin the text: `CODE:VENDOR`, or a name
abbrev pub subject_len : List ℕ → ℕ
subject_len text = if begins_key text then key_len text else prefix_len is_name_byte text

-- ---- of which command an entry is

-- the command of what counts of an entry; `*` for all
abbrev pub command_in : List ℕ → List ℕ
command_in text = command_of (path_of text)
