-- Reading from left to right: what was read, or the first fault.
use Rattle.std.specs.Prelude.{◌≡◌, ℕ, List, length, Option, Some, None, Result, Ok, Err}
use Rattle.dia_text.specs.declared.fault.Kind.{Kind}
use Rattle.dia_text.specs.declared.fault.Wanted.{Wanted}
use Rattle.dia_text.specs.declared.fault.Misfit.{Misfit}
use Rattle.dia_text.specs.declared.fault.Misread.{Misread}
use Rattle.dia_text.specs.declared.fault.Misread.TheVariants as misread
use Rattle.dia_text.specs.declared.fault.NotRead.{NotRead}
use Rattle.dia_text.specs.declared.fault.NotRead.TheVariants as not_read
use Rattle.dia_text.specs.Words.{unblanked}

infixl 10 ◌>>=◌
abbrev pub ◌>>=◌ : {A B E : Type 0} → Result A E → (A → Result B E) → Result B E
(Ok x) >>= f = f x
(Err e) >>= f = Err e

abbrev pub some_or : {A : Type 0} → Option A → Kind → Result A Kind
some_or (Some x) kind = Ok x
some_or None kind = Err kind

-- ---- the place of a fault

-- the first word of a text is at fault, or there is none where one is wanted: what could be there, and how many bytes are left from there on
abbrev pub misfit : List ℕ → Wanted → Kind → Misfit
misfit text wanted kind = record { kind = kind; wanted = wanted; left = length (unblanked text) }

-- what was read of the first word of a text, or its misfit
abbrev pub at_word : {A : Type 0} → List ℕ → Wanted → Result A Kind → Result A Misfit
at_word text wanted (Ok x) = Ok x
at_word text wanted (Err kind) = Err (misfit text wanted kind)

-- ---- what the program answers

-- what a function that takes no memory answered, seen by view, is what reading gives
abbrev pub IsRead : {X Y E : Type 0} → (X → Y) → Result X E → Result Y E → Type 0
IsRead view (Ok x) read = read ≡ Ok (view x)
IsRead view (Err e) read = read ≡ Err e

-- what a function of the program answered of a word, seen by view, is what reading gives, unless memory was refused
abbrev pub Fails : {Y : Type 0} → Misread → Result Y Kind → Type 0
Fails misread.NoMemory read = Unit {0}
Fails (misread.Fault kind) read = read ≡ Err kind

abbrev pub Gives : {X Y : Type 0} → (X → Y) → Result X Misread → Result Y Kind → Type 0
Gives view (Ok x) read = read ≡ Ok (view x)
Gives view (Err e) read = Fails e read

-- the same of a text of words
abbrev pub FailsAt : {Y : Type 0} → NotRead → Result Y Misfit → Type 0
FailsAt not_read.NoMemory read = Unit {0}
FailsAt (not_read.Misfit m) read = read ≡ Err m

abbrev pub Reads : {X Y : Type 0} → (X → Y) → Result X NotRead → Result Y Misfit → Type 0
Reads view (Ok x) read = read ≡ Ok (view x)
Reads view (Err e) read = FailsAt e read

-- a fault of the first word of a text
abbrev pub at_text : Misread → List ℕ → Wanted → NotRead
at_text misread.NoMemory text wanted = not_read.NoMemory
at_text (misread.Fault kind) text wanted = not_read.Misfit (misfit text wanted kind)
