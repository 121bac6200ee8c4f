-- The message that a text writes, line by line, or its first fault.
use Rattle.std.specs.Prelude.{◌≡◌, ℕ, ◌+◌, ◌-◌, ◌≤◌, ◌^◌, ◌==◌, nat_lt, Bool, not, if◌then◌else◌, List, [], ◌∷◌, ◌++◌, length, drop, Option, Some, None, Result, Ok, Err, String, string_bytes}
use Rattle.std.specs.List.{slice_split, list_any, flat_map}
use Rattle.dia_data.specs.Shown.{hex_byte}
use Rattle.dia_wire.specs.declared.Header.{Header}
use Rattle.dia_wire.specs.Written.{header_bytes}
use Rattle.dia_book.specs.Dictionary.{Dictionary}
use Rattle.dia_text.specs.declared.fault.Kind.{Kind}
use Rattle.dia_text.specs.declared.fault.Kind.TheVariants.{Syntax, Braces, Limit}
use Rattle.dia_text.specs.declared.fault.Wanted.{Wanted}
use Rattle.dia_text.specs.declared.fault.Wanted.TheVariants as want
use Rattle.dia_text.specs.declared.fault.Misfit.{Misfit}
use Rattle.dia_text.specs.declared.fault.NotRead.{NotRead}
use Rattle.dia_text.specs.declared.fault.NotRead.TheVariants as not_read
use Rattle.dia_text.specs.declared.fault.Fault.{Fault}
use Rattle.dia_text.specs.declared.fault.NotMade.{NotMade}
use Rattle.dia_text.specs.declared.fault.NotMade.TheVariants as not_made
use Rattle.std.specs.Global.{Vec}
use Rattle.dia_text.specs.Words.{first_word}
use Rattle.dia_text.specs.Reading.{◌>>=◌}
use Rattle.dia_text.specs.Drafts.{Level, Frame, added, no_level}
use Rattle.dia_text.specs.Avps.{in_line}
use Rattle.dia_text.specs.Lines.{line_of, header_of}

abbrev pub lines : List ℕ → List (List ℕ)
lines text = slice_split (λ b. b == 10) text

-- a fault in the line l, which has this number
abbrev pub fault_in : List ℕ → ℕ → Misfit → Fault
fault_in l n m = record { kind = m.kind; line = n; at = Some (length l - m.left); wanted = m.wanted }

-- a fault at the end of a line
abbrev pub fault_at : ℕ → Kind → Wanted → Fault
fault_at n kind wanted = record { kind = kind; line = n; at = None; wanted = wanted }

-- the same fault, n lines further on
abbrev pub further : ℕ → Fault → Fault
further n f = record { kind = f.kind; line = n + f.line; at = f.at; wanted = f.wanted }

abbrev pub finished : Header → List Frame → List ℕ → ℕ → Result (List ℕ) Fault
finished header (f ∷ fs) bytes n = Err (fault_at n Braces want.ClosingBrace)
finished header [] bytes n =
    if nat_lt (20 + length bytes) (2 ^ 24) then Ok (header_bytes header (20 + length bytes) ++ bytes) else Err (fault_at n Limit want.ShorterMessage)

abbrev pub step : Result Level Misfit → List ℕ → ℕ → (Level → Result (List ℕ) Fault) → Result (List ℕ) Fault
step (Ok level) l n more = more level
step (Err m) l n more = Err (fault_in l n m)

-- what a line adds
abbrev pub line_added : Dictionary → List ℕ → Level → Result Level Misfit
line_added d l level = line_of d l >>= λ line. in_line d l line (added level line)

-- the lines after the first n, which end with the line of the header
abbrev pub body_from : Dictionary → Header → ℕ → List (List ℕ) → Level → Result (List ℕ) Fault
body_from d header n [] level = finished header level.outer level.bytes n
body_from d header n (l ∷ ls) level = step (line_added d l level) l (n + 1) (body_from d header (n + 1) ls)

abbrev pub begin : Result (Option Header) Misfit → List ℕ → ℕ → Result (List ℕ) Fault → (Header → Result (List ℕ) Fault) → Result (List ℕ) Fault
begin (Ok None) l n more body = more
begin (Ok (Some header)) l n more body = body header
begin (Err m) l n more body = Err (fault_in l n m)

-- the lines after the first n, which are blank. A text that ends too early has its fault on its last line
abbrev pub message_from : Dictionary → ℕ → List (List ℕ) → Result (List ℕ) Fault
message_from d n [] = Err (fault_at n Syntax want.HeaderLine)
message_from d n (l ∷ ls) = begin (header_of d l) l (n + 1) (message_from d (n + 1) ls) (λ header. body_from d header (n + 1) ls no_level)

abbrev pub made : Dictionary → List ℕ → Result (List ℕ) Fault
made d text = message_from d 0 (lines text)

-- ---- what the program answers

abbrev pub placed : NotRead → List ℕ → ℕ → NotMade
placed not_read.NoMemory l n = not_made.NoMemory
placed (not_read.Misfit m) l n = not_made.Fault (fault_in l n m)

abbrev pub Misses : NotMade → Result (List ℕ) Fault → Type 0
Misses not_made.NoMemory read = Unit {0}
Misses (not_made.Fault fault) read = read ≡ Err fault

-- the bytes that are read, or the fault, unless memory was refused
abbrev pub IsMade : Result (Vec ℕ) NotMade → Result (List ℕ) Fault → Type 0
IsMade (Ok bytes) read = read ≡ Ok bytes.items
IsMade (Err e) read = Misses e read

-- the header, and how many lines were read up to it
abbrev pub IsBegun : Dictionary → List (List ℕ) → Result (Header × ℕ) NotMade → Type 0
IsBegun d ls (Ok found) = (message_from d 0 ls ≡ body_from d found.0 found.1 (drop found.1 ls) no_level) × (found.1 ≤ length ls)
IsBegun d ls (Err e) = Misses e (message_from d 0 ls)

-- ---- several messages, with empty lines between them

abbrev pub is_empty : List ℕ → Bool
is_empty l = length l == 0

-- whether one of the lines has a word
abbrev pub has_word : List (List ℕ) → Bool
has_word ls = list_any (λ l. not (length (first_word l) == 0)) ls

-- hexadecimal digits, and a line feed
abbrev pub digits_line : List ℕ → List ℕ
digits_line bytes = flat_map hex_byte bytes ++ (10 ∷ [])

-- the line of a message that is written after n lines of the text, or its fault by its line in the text
abbrev pub recorded_after : ℕ → Result (List ℕ) Fault → Result (List ℕ) Fault
recorded_after n (Ok bytes) = Ok (digits_line bytes)
recorded_after n (Err f) = Err (further n f)

abbrev pub part_text : Dictionary → ℕ → List (List ℕ) → Result (List ℕ) Fault
part_text d n ls = if has_word ls then recorded_after n (message_from d 0 ls) else Ok []

-- one text after another, or the first fault
abbrev pub then_text : Result (List ℕ) Fault → Result (List ℕ) Fault → Result (List ℕ) Fault
then_text (Ok a) (Ok b) = Ok (a ++ b)
then_text (Ok a) (Err f) = Err f
then_text (Err f) more = Err f

-- the lines of the messages of parts, of which the first is after n lines of the text
abbrev pub parts_text : Dictionary → ℕ → List (List (List ℕ)) → Result (List ℕ) Fault
parts_text d n [] = Ok []
parts_text d n (p ∷ ps) = then_text (part_text d n p) (parts_text d (n + length p + 1) ps)

-- a line for each message of a text. A text without a word has its fault on its last line
abbrev pub made_lines : Dictionary → List ℕ → Result (List ℕ) Fault
made_lines d text =
    if has_word (lines text) then parts_text d 0 (slice_split is_empty (lines text)) else Err (fault_at (length (lines text)) Syntax want.HeaderLine)

-- ---- what the program answers for it

abbrev pub IsMadeText : {A : Type 0} → Result (String A) NotMade → Result (List ℕ) Fault → Type 0
IsMadeText (Ok text) read = read ≡ Ok (string_bytes text)
IsMadeText (Err e) read = Misses e read

abbrev pub IsPartAdded : Result (List ℕ) Fault → Result (Unit {0}) NotMade → List ℕ → List ℕ → Type 0
IsPartAdded read (Ok u) old new = (text : List ℕ) × (read ≡ Ok text) × (new ≡ old ++ text)
IsPartAdded read (Err e) old new = Misses e read

-- a fault is on one of the first n lines
abbrev pub IsWithin : ℕ → NotMade → Type 0
IsWithin n (not_made.Fault f) = f.line ≤ n
IsWithin n not_made.NoMemory = Unit {0}

abbrev pub after_lines : ℕ → NotMade → NotMade
after_lines n (not_made.Fault f) = not_made.Fault (further n f)
after_lines n not_made.NoMemory = not_made.NoMemory
