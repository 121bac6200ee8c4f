-- Kinds of bytes.
use Rattle.std.specs.Prelude.{ℕ, Bool}
use Rattle.std.specs.Char.{is_ascii_digit, is_ascii_graphic}
use Rattle.dia_terms.specs.Names.{is_run_byte}
use Rattle.dia_show.specs.declared.byte_kinds.ByteKind.{ByteKind}
use Rattle.dia_show.specs.declared.byte_kinds.ByteKind.TheVariants as kind
use Rattle.dia_show.specs.Listing.{is_printing}
use Rattle.dia_show.specs.Words.{is_blank}

abbrev pub is_of : ByteKind → ℕ → Bool
is_of kind.Blank = is_blank
is_of kind.Name = is_run_byte
is_of kind.Digit = is_ascii_digit
is_of kind.Graphic = is_ascii_graphic
is_of kind.Printing = is_printing
