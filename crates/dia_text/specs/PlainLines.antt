-- What a line, or a part of one, says.
use Rattle.std.specs.Prelude.{ℕ, List, Option}
use Rattle.std.specs.Option.{option_map}
use Rattle.dia_text.specs.declared.line.Head.{Head}
use Rattle.dia_text.specs.declared.line.Line.{Line}
use Rattle.dia_text.specs.declared.line.Line.TheVariants as line

-- what a line says
pub data PlainLine : Type 0 where
  Blank : PlainLine
  Leaf : (head : Head) (bytes : List ℕ) (padding : Option (List ℕ)) → PlainLine
  Open : (head : Head) → PlainLine
  Close : (padding : Option (List ℕ)) → PlainLine

-- a line of the program without where its bytes lie in memory
abbrev pub plain_line : Line → PlainLine
plain_line line.Blank = Blank
plain_line (line.Leaf head bytes padding) = Leaf head bytes.items (option_map (λ p. p.items) padding)
plain_line (line.Open head) = Open head
plain_line (line.Close padding) = Close (option_map (λ p. p.items) padding)
