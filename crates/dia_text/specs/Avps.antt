-- The parts of lines: an AVP, the opening brace of a group, or a closing brace; and what each adds.
use Rattle.std.specs.Prelude.{◌≡◌, ℕ, ◌==◌, if◌then◌else◌, List, [], ◌∷◌, length, Some, Result, Ok, Err, codes}
use Rattle.dia_terms.specs.Names.{same_bytes}
use Rattle.dia_book.specs.Dictionary.{Dictionary}
use Rattle.dia_text.specs.declared.fault.Kind.{Kind}
use Rattle.dia_text.specs.declared.fault.Kind.TheVariants.{Syntax, Braces}
use Rattle.dia_text.specs.declared.fault.Wanted.{Wanted}
use Rattle.dia_text.specs.declared.fault.Wanted.TheVariants as want
use Rattle.dia_text.specs.declared.fault.Misfit.{Misfit}
use Rattle.dia_text.specs.declared.fault.NotRead.{NotRead}
use Rattle.dia_text.specs.declared.draft.Opened.{Opened}
use Rattle.dia_text.specs.declared.line.Head.{Head}
use Rattle.dia_text.specs.Words.{unblanked, first_word, after_word}
use Rattle.dia_text.specs.Reading.{◌>>=◌, FailsAt, misfit, at_word}
use Rattle.dia_text.specs.Fields.{flags_field, length_field, padding_field}
use Rattle.dia_text.specs.Keys.{code_of, default_flags, format_at}
use Rattle.dia_text.specs.Values.{value_at, after_note}
use Rattle.dia_text.specs.PlainLines.{PlainLine, Blank, Leaf, Open, Close}
use Rattle.dia_text.specs.Drafts.{Level, Occurs}

-- the letters of flags, in their order (RFC 6733 section 4.1)
abbrev pub avp_letters : List (ℕ × ℕ)
avp_letters = (86, 128) ∷ (77, 64) ∷ (80, 32) ∷ []

-- no word follows
abbrev pub no_more : List ℕ → Result (Unit {0}) Misfit
no_more text = if length (first_word text) == 0 then Ok tt else Err (misfit text want.LineEnd Syntax)

-- the word of an AVP, its flags, and its length if it is written
unfoldable pub head_at : Dictionary → List ℕ → Result (Head × List ℕ) Misfit
head_at d text = do
  code ← at_word text want.AvpName (code_of d (first_word text))
  flags ← flags_field avp_letters want.AvpFlags (Some (default_flags d code)) want.AvpFlags (after_word text)
  len ← length_field flags.1
  Ok (record { code = code; flags = flags.0; said_length = len.0 }, len.1)

-- a value, what is noted after it, and the padding if it is written
unfoldable pub data_at : Dictionary → Head → List ℕ → Result (PlainLine × List ℕ) Misfit
data_at d head text = do
  value ← value_at (format_at d head.code) text
  padding ← padding_field (after_note (format_at d head.code) value.0 value.1)
  Ok (Leaf head value.0 padding.0, padding.1)

-- what follows a closing brace
unfoldable pub close_at : List ℕ → Result (PlainLine × List ℕ) Misfit
close_at text = do
  padding ← padding_field text
  Ok (Close padding.0, padding.1)

-- an AVP with its data, or with the opening brace of its members
unfoldable pub avp_at : Dictionary → List ℕ → Result (PlainLine × List ℕ) Misfit
avp_at d text = do
  head ← head_at d text
  if same_bytes (first_word head.1) (codes "{") then Ok (Open head.0, after_word head.1) else data_at d head.0 head.1

-- a part of a line, and what follows it
unfoldable pub part_at : Dictionary → List ℕ → Result (PlainLine × List ℕ) Misfit
part_at d text = if same_bytes (first_word text) (codes "}") then close_at (after_word text) else avp_at d text

-- ---- parts that can be read, and can't be added

-- how many bytes of a line are left from the value of its AVP on
abbrev pub value_left : Result (Head × List ℕ) Misfit → ℕ
value_left (Ok x) = length (unblanked x.1)
value_left (Err m) = m.left

-- what could be in place of a closing brace
abbrev pub brace_wanted : Kind → Wanted
brace_wanted Braces = want.OpenGroup
brace_wanted kind = want.ShorterGroup

-- a value with more data than an AVP has
abbrev pub value_misfit : Dictionary → List ℕ → Kind → Misfit
value_misfit d l kind = record { kind = kind; wanted = want.ShorterData; left = value_left (head_at d l) }

-- a closing brace, or a value
abbrev pub line_misfit : Dictionary → List ℕ → PlainLine → Kind → Misfit
line_misfit d l (Close pad) kind = misfit l (brace_wanted kind) kind
line_misfit d l Blank kind = value_misfit d l kind
line_misfit d l (Leaf head bytes pad) kind = value_misfit d l kind
line_misfit d l (Open head) kind = value_misfit d l kind

abbrev pub in_line : Dictionary → List ℕ → PlainLine → Result Level Kind → Result Level Misfit
in_line d l line (Ok level) = Ok level
in_line d l line (Err kind) = Err (line_misfit d l line kind)

-- the line was added, unless memory was refused
abbrev pub IsTaken : Result Level Misfit → Result (Unit {0}) NotRead → List ℕ → List Opened → Type 0
IsTaken read (Ok u) out groups = (level : Level) × (read ≡ Ok level) × Occurs level.outer level.bytes out groups
IsTaken read (Err e) out groups = FailsAt e read
