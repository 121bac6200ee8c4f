-- Kinds of bytes.
use Rattle.std.specs.Prelude.{ℕ, ◌==◌, ◌&&◌, not, Bool}
use Rattle.dia_explain_places.specs.declared.runs.Kind.{Kind}
use Rattle.dia_explain_places.specs.declared.runs.Kind.TheVariants as kind
use Rattle.dia_explain_places.specs.Places.{is_inner, is_white}

abbrev pub is_of : Kind → ℕ → Bool
is_of kind.Feed = λ c. c == 10
is_of kind.Line = λ c. not (c == 10)
is_of kind.Shown = λ c. not (c == 10) && not (c == 13)
is_of kind.Digit = λ c. not (is_white c)
is_of kind.First = λ c. not (is_inner c)
is_of kind.Inner = is_inner
