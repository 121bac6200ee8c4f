-- The texts that have marks.
use Rattle.std.specs.Prelude.{ℕ, List}
use Rattle.dia_breaking_places.specs.declared.marks.Marks.{Marks}

abbrev pub text_in : Marks → List ℕ
text_in marks = marks.text.now
