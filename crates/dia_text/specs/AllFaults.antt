-- All faults of a text: each line is judged as if the faulty lines before it were absent. Only, the first line of a message is that of its header, and a line that ends in `{` opens a group, also where they are faulty.
use Rattle.std.specs.Prelude.{◌≡◌, ℕ, ◌+◌, ◌-◌, ◌^◌, ◌==◌, ◌&&◌, nat_lt, Bool, true, false, if◌then◌else◌, List, [], ◌∷◌, ◌++◌, length, slice_index, take, Option, Some, None, Result, Ok, Err, ⊤}
use Rattle.dia_wire.specs.declared.Header.{Header}
use Rattle.dia_book.specs.Dictionary.{Dictionary}
use Rattle.dia_text.specs.declared.fault.Kind.TheVariants.{Syntax, Braces, Limit}
use Rattle.dia_text.specs.declared.fault.Wanted.TheVariants as want
use Rattle.dia_text.specs.declared.fault.Misfit.{Misfit}
use Rattle.dia_text.specs.declared.fault.Misread.{Misread}
use Rattle.dia_text.specs.declared.fault.Misread.TheVariants as misread
use Rattle.dia_text.specs.declared.fault.NotRead.{NotRead}
use Rattle.dia_text.specs.declared.fault.NotRead.TheVariants as not_read
use Rattle.dia_text.specs.declared.fault.Fault.{Fault}
use Rattle.dia_text.specs.declared.draft.Opened.{Opened}
use Rattle.dia_text.specs.declared.line.Head.{Head}
use Rattle.dia_text.specs.Lines.{header_of}
use Rattle.dia_text.specs.Drafts.{Level, Frame, Occurs}
use Rattle.dia_text.specs.Made.{lines, fault_in, fault_at, line_added, is_empty, has_word}
use Rattle.dia_text.specs.Drafts.{no_level}

-- the most faults that are reported with their places
abbrev pub max_faults : ℕ
max_faults = 20

-- what a line leads to, and its faults. Before the header of a message there is no level
pub record Step : Type 0 where
  pub next : Option Level
  pub faults : List Fault

-- the line of a header, or one before it
abbrev pub begun : List ℕ → ℕ → Result (Option Header) Misfit → Step
begun l n (Ok None) = record { next = None; faults = [] }
begun l n (Ok (Some header)) = record { next = Some no_level; faults = [] }
begun l n (Err m) = record { next = Some no_level; faults = fault_in l n m ∷ [] }

-- the last byte is an opening brace (123)
abbrev pub opens : List ℕ → Bool
opens l = nat_lt 0 (length l) && (slice_index l (length l - 1) == 123)

-- an AVP of which nothing is known
abbrev pub unknown : Head
unknown = record { code = record { code = 0; vendor = None }; flags = 0; said_length = None }

-- the group of a faulty line is open all the same
abbrev pub left_out : List ℕ → Level → Level
left_out l level = if opens l then record { outer = record { before = level.bytes; head = unknown } ∷ level.outer; bytes = [] } else level

-- a line after the header
abbrev pub judged : List ℕ → ℕ → Level → Result Level Misfit → Step
judged l n level (Ok next) = record { next = Some next; faults = [] }
judged l n level (Err m) = record { next = Some (left_out l level); faults = fault_in l n m ∷ [] }

abbrev pub line_step : Dictionary → List ℕ → ℕ → Option Level → Step
line_step d l n None = begun l n (header_of d l)
line_step d l n (Some level) = judged l n level (line_added d l level)

-- what is wrong where a message ends, on line n
abbrev pub unfinished : List Frame → List ℕ → ℕ → List Fault
unfinished (f ∷ fs) bytes n = fault_at n Braces want.ClosingBrace ∷ []
unfinished [] bytes n = if nat_lt (20 + length bytes) (2 ^ 24) then [] else fault_at n Limit want.ShorterMessage ∷ []

abbrev pub end_faults : ℕ → Option Level → List Fault
end_faults n None = []
end_faults n (Some level) = unfinished level.outer level.bytes n

-- the line after the first n; an empty one ends a message
abbrev pub step_of : Dictionary → List ℕ → ℕ → Option Level → Step
step_of d l n at = if is_empty l then record { next = None; faults = end_faults n at } else line_step d l (n + 1) at

-- the faults of the lines after the first n
abbrev pub faults_from : Dictionary → ℕ → Option Level → List (List ℕ) → List Fault
faults_from d n at [] = end_faults n at
faults_from d n at (l ∷ ls) = (step_of d l n at).faults ++ faults_from d (n + 1) (step_of d l n at).next ls

-- in the order of the lines. A text without a word has its fault on its last line
abbrev pub all_faults : Dictionary → List ℕ → List Fault
all_faults d text = if has_word (lines text) then faults_from d 0 None (lines text) else fault_at (length (lines text)) Syntax want.HeaderLine ∷ []

-- ---- what the program answers

-- the first of these faults, and how many there are
abbrev pub AreCounted : List Fault → List Fault → ℕ → Type 0
AreCounted faults first count = (first ≡ take max_faults faults) × (count ≡ length faults)

-- where a text is, as the program has it
abbrev pub IsAt : Option Level → Bool → List ℕ → List Opened → Type 0
IsAt None begun out groups = (begun ≡ false) × (out ≡ []) × (groups ≡ [])
IsAt (Some level) begun out groups = (begun ≡ true) × Occurs level.outer level.bytes out groups

-- a line that can't be added changes nothing
abbrev pub IsLeft : {A : Type 0} → Result (Unit {0}) Misread → A → A → Type 0
IsLeft (Ok u) old new = ⊤
IsLeft (Err misread.NoMemory) old new = ⊤
IsLeft (Err (misread.Fault kind)) old new = new ≡ old

abbrev pub IsLeftAt : {A : Type 0} → Result (Unit {0}) NotRead → A → A → Type 0
IsLeftAt (Ok u) old new = ⊤
IsLeftAt (Err not_read.NoMemory) old new = ⊤
IsLeftAt (Err (not_read.Misfit m)) old new = new ≡ old
