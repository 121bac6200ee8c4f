-- A group with its members on one line, between braces and with commas between them.
use Rattle.std.specs.Prelude.{ℕ, zero, suc, ◌==◌, Bool, true, false, if◌then◌else◌, List, [], length, Option, None, Result, Ok, Err, codes}
use Rattle.dia_terms.specs.Names.{same_bytes}
use Rattle.dia_book.specs.Dictionary.{Dictionary}
use Rattle.dia_text.specs.declared.fault.Kind.TheVariants.{Syntax, Braces}
use Rattle.dia_text.specs.declared.fault.Wanted.TheVariants as want
use Rattle.dia_text.specs.declared.fault.Misfit.{Misfit}
use Rattle.dia_text.specs.declared.line.Head.{Head}
use Rattle.dia_text.specs.Words.{first_word, after_word}
use Rattle.dia_text.specs.Reading.{◌>>=◌, misfit}
use Rattle.dia_text.specs.PlainLines.{PlainLine, Blank, Leaf, Open, Close}
use Rattle.dia_text.specs.Drafts.{Level, Frame, added, no_level}
use Rattle.dia_text.specs.Avps.{no_more, part_at, in_line}

-- a part of a group, which needs its closing brace
unfoldable pub member_at : Dictionary → List ℕ → Result (PlainLine × List ℕ) Misfit
member_at d text = if length (first_word text) == 0 then Err (misfit text want.ClosingBrace Braces) else part_at d text

-- what follows the comma after a member; or the closing brace after it
unfoldable pub separated : List ℕ → Result (List ℕ) Misfit
separated text =
    if same_bytes (first_word text) (codes ",") then Ok (after_word text)
    else if same_bytes (first_word text) (codes "}") then Ok text
    else Err (misfit text want.NextMember Syntax)

-- nothing separates an opening brace from the first member
abbrev pub after_part : PlainLine → List ℕ → Result (List ℕ) Misfit
after_part Blank text = Ok text
after_part (Open head) text = Ok text
after_part (Leaf head bytes pad) text = separated text
after_part (Close pad) text = separated text

-- the brace that closes the group of the line
abbrev pub is_last : PlainLine → List Frame → Bool
is_last (Close pad) [] = true
is_last line outer = false

abbrev pub padding_of : PlainLine → Option (List ℕ)
padding_of (Close pad) = pad
padding_of line = None

-- the group of this head, whose members write its data; up to so many parts are read, of which each has a byte or more
unfoldable pub group_from : ℕ → Dictionary → Head → Level → List ℕ → Result PlainLine Misfit
group_from zero d head level text = Err (misfit text want.ClosingBrace Braces)
group_from (suc n) d head level text = do
  part ← member_at d text
  if is_last part.0 level.outer
      then (no_more part.1 >>= λ end. Ok (Leaf head level.bytes (padding_of part.0)))
      else (in_line d text part.0 (added level part.0) >>= λ next. after_part part.0 part.1 >>= λ rest. group_from n d head next rest)

-- what follows the opening brace of a group: its members, and the closing brace
abbrev pub group_at : Dictionary → Head → List ℕ → Result PlainLine Misfit
group_at d head text = group_from (length text) d head no_level text
