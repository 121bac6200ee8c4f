-- Parts that are added one after the other.
use Rattle.std.proofs.Common.{◌≡◌, ℕ, List, ◌++◌, ap, ◌∙◌, append_assoc}
use Rattle.std.specs.Prelude.{codes}
use Rattle.std.specs.Fmt.{decimal}
use Rattle.json.specs.Print.{quoted}
use Rattle.dia_explain_places.specs.Places.{column_at, line_at}
use Rattle.dia_lint_text.specs.Lines.{place_json}

pub four_parts : (old first second third fourth a b c d : List ℕ) → a ≡ old ++ first → b ≡ a ++ second → c ≡ b ++ third → d ≡ c ++ fourth
    → d ≡ old ++ (((first ++ second) ++ third) ++ fourth)
four_parts old first second third fourth a b c d one two three four =
    four ∙ ap (λ t. t ++ fourth) (three ∙ ap (λ t. t ++ third) (two ∙ ap (λ t. t ++ second) one ∙ append_assoc old first second) ∙ append_assoc old (first ++ second) third)
    ∙ append_assoc old ((first ++ second) ++ third) fourth

pub two_parts : (old first second a b : List ℕ) → a ≡ old ++ first → b ≡ a ++ second → b ≡ old ++ (first ++ second)
two_parts old first second a b one two = two ∙ ap (λ t. t ++ second) one ∙ append_assoc old first second

pub place_is : (file text : List ℕ) (at line column : ℕ) → line ≡ line_at text at → column ≡ column_at text at
    → codes ",\"file\":" ++ quoted file ++ codes ",\"line\":" ++ decimal line ++ codes ",\"column\":" ++ decimal column ≡ place_json file text at
place_is file text at line column is_line is_column =
    λ i. codes ",\"file\":" ++ quoted file ++ codes ",\"line\":" ++ decimal (is_line i) ++ codes ",\"column\":" ++ decimal (is_column i)
