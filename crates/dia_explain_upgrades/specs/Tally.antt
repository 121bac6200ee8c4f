-- How many lines are left, and how many causes they have.
use Rattle.std.specs.Prelude.{ℕ, List, ◌++◌, ◌==◌, if◌then◌else◌, codes}
use Rattle.std.specs.Fmt.{decimal}

abbrev pub line_word : ℕ → List ℕ
line_word lines = if lines == 1 then codes " line, " else codes " lines, "

abbrev pub cause_word : ℕ → List ℕ
cause_word causes = if causes == 1 then codes " cause" else codes " causes"

-- the number of lines, the number of causes, and the names of the two dictionaries
abbrev pub tally_text : ℕ → ℕ → List ℕ → List ℕ → List ℕ
tally_text lines causes first second = decimal lines ++ line_word lines ++ decimal causes ++ cause_word causes
    ++ codes ": what " ++ first ++ codes " sends and " ++ second ++ codes " accepts\n"
