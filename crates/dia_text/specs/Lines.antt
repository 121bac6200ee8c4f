-- The lines of a text: what each says, over any dictionary.
use Rattle.std.specs.Prelude.{ℕ, ◌^◌, ◌==◌, if◌then◌else◌, List, [], ◌∷◌, length, Option, Some, None, Result, Ok, codes}
use Rattle.dia_terms.specs.Names.{same_bytes}
use Rattle.dia_wire.specs.declared.Header.{Header}
use Rattle.dia_book.specs.Dictionary.{Dictionary}
use Rattle.dia_text.specs.declared.fault.Kind.TheVariants.{Value}
use Rattle.dia_text.specs.declared.fault.Wanted.TheVariants as want
use Rattle.dia_text.specs.declared.fault.Misfit.{Misfit}
use Rattle.dia_text.specs.declared.commands.Start.{Start}
use Rattle.dia_text.specs.Words.{first_word, after_word}
use Rattle.dia_text.specs.Numbers.{any_below}
use Rattle.dia_text.specs.Reading.{◌>>=◌, some_or, at_word}
use Rattle.dia_text.specs.Fields.{number_field, flags_field}
use Rattle.dia_text.specs.Keys.{start_named}
use Rattle.dia_text.specs.PlainLines.{PlainLine, Blank, Leaf, Open, Close}
use Rattle.dia_text.specs.Avps.{no_more, part_at}
use Rattle.dia_text.specs.Groups.{group_at}

-- the letters of flags, in their order (RFC 6733 section 3)
abbrev pub header_letters : List (ℕ × ℕ)
header_letters = (82, 128) ∷ (80, 64) ∷ (69, 32) ∷ (84, 16) ∷ []

-- ---- lines of AVPs

-- a part that is alone on its line, or a group with its members
abbrev pub whole_line : Dictionary → PlainLine → List ℕ → Result PlainLine Misfit
whole_line d (Open head) rest = if length (first_word rest) == 0 then Ok (Open head) else group_at d head rest
whole_line d Blank rest = no_more rest >>= λ end. Ok Blank
whole_line d (Leaf head bytes pad) rest = no_more rest >>= λ end. Ok (Leaf head bytes pad)
whole_line d (Close pad) rest = no_more rest >>= λ end. Ok (Close pad)

-- a line in a message, after its header
unfoldable pub line_of : Dictionary → List ℕ → Result PlainLine Misfit
line_of d text =
    if length (first_word text) == 0 then Ok Blank
    else (part_at d text >>= λ part. whole_line d part.0 part.1)

-- ---- the line of a header

-- `code N`, or a command of the dictionary
unfoldable pub start_at : Dictionary → List ℕ → Result (Start × List ℕ) Misfit
start_at d text =
    if same_bytes (first_word text) (codes "code")
    then (at_word (after_word text) want.CommandCode (some_or (any_below (2 ^ 24) (first_word (after_word text))) Value) >>= λ code.
    Ok (record { code = code; flags = None; app = None }, after_word (after_word text)))
    else (at_word text want.CommandName (start_named d (first_word text)) >>= λ start. Ok (start, after_word text))

-- the numbers after the flags
abbrev pub header_after : Start → ℕ → List ℕ → Result Header Misfit
header_after start flags text = do
  app ← number_field (codes "app") start.app want.App text
  hop ← number_field (codes "hop") None want.Hop app.1
  e2e ← number_field (codes "end") None want.End hop.1
  end ← no_more e2e.1
  Ok (record { flags = flags; code = start.code; app = app.0; hop = hop.0; e2e = e2e.0 })

unfoldable pub header_at : Dictionary → List ℕ → Result Header Misfit
header_at d text = do
  start ← start_at d text
  flags ← flags_field header_letters want.CommandFlags start.0.flags want.Flags start.1
  header_after start.0 flags.0 flags.1

-- a line before the header, or the header
unfoldable pub header_of : Dictionary → List ℕ → Result (Option Header) Misfit
header_of d text =
    if length (first_word text) == 0 then Ok None
    else (header_at d text >>= λ header. Ok (Some header))
