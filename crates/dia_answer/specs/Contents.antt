-- What an answer is made of, whatever its form.
use Rattle.std.specs.Prelude.{ℕ, List, Option, None}
use Rattle.dia_answer.specs.declared.contents.Extent.{Extent}
use Rattle.dia_answer.specs.declared.contents.Extent.TheVariants as extent

-- the data of Error-Message or Failed-AVP, or none
abbrev pub full : Extent → Option (List ℕ) → Option (List ℕ)
full extent.Full found = found
full extent.Bare found = None
