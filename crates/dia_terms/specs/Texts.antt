-- White space in texts.
use Rattle.std.specs.Prelude.{ℕ, Bool, not, ◌||◌, ◌==◌, List, filter}

-- a space, a tab, a carriage return or a line feed
abbrev pub is_white : ℕ → Bool
is_white c = c == 32 || c == 9 || c == 13 || c == 10

-- the text without its white space
abbrev pub digits_of : List ℕ → List ℕ
digits_of text = filter (λ c. not (is_white c)) text
