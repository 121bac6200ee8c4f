-- What `show` tells as JSON, from its parts.
use Rattle.std.proofs.Common.{◌≡◌, ℕ, Bool, List, ◌++◌, codes, refl, subst, sym, inl, ◌∙◌, append_assoc}
use Rattle.std.specs.Prelude.{string_bytes}
use Rattle.std.specs.Fmt.{decimal}
use Rattle.serde_json.proofs.OnLiterals.{serde_json_on_literals}
use Rattle.dia_dict.specs.Dictionary.{Dictionary}
use Rattle.dia_io.specs.declared.Exit.{Exit}
use Rattle.dia_io.specs.declared.Inputs.{Inputs}
use Rattle.dia_report.specs.declared.reporting.Answered.{Answered}
use Rattle.dia_refused_json.specs.Members.{json_line}
use Rattle.dia_run.specs.Texts.{IsDictionaryText}
use Rattle.dia_show.specs.declared.manner.Manner.{Manner as AnyManner}
use Rattle.dia_show.specs.declared.reporting.Answered.{Answered as Shown}
use Rattle.dia_show.specs.Manners.{plain_manner_of}
use Rattle.dia_show.specs.Words.{IsValuesText, plain_words}
use Rattle.dia_show.specs.declared.reading.BadValues.TheVariants as values
use Rattle.dia_json.specs.Whole.{IsShowJson, ShowsJson, values_members}

-- with a dictionary and words
pub shown_with : (names : Bool) (m : AnyManner) (d : Dictionary) (inputs : Inputs) (text : List ℕ) (exit : Exit) → IsDictionaryText inputs.first d
    → IsValuesText inputs.table (plain_words m.words) × (m.names ≡ names) → ShowsJson (plain_manner_of m) d inputs text exit → IsShowJson names inputs text exit
shown_with names m d inputs text exit is_dict words shows = inl (
  d,
  plain_words m.words,
  is_dict,
  words.0,
  subst (λ (n : Bool). ShowsJson (record { words = plain_words m.words; names = n }) d inputs text exit) words.1 shows,
)

-- the same answer
pub same_outcome : (P : List ℕ → Exit → Type 0) (a : Answered) (s : Shown) → s.text ≡ a.text → s.exit ≡ a.exit → P (string_bytes a.text) a.exit → P (string_bytes s.text) s.exit
same_outcome P a s text exit p = rw (text, exit) p

-- ---- words of values that are refused

pub long_is : json_line (values_members values.TooLong) ≡ codes "{\"error\":\"values\",\"kind\":\"too long\"}\n"
unfolding serde_json_on_literals
long_is = refl

pub no_text_is : (at : ℕ) → json_line (values_members (values.NotText at)) ≡ codes "{\"error\":\"values\",\"kind\":\"not text\"}\n"
unfolding serde_json_on_literals
no_text_is at = refl

abbrev numbered_text : List ℕ → ℕ → List ℕ → List ℕ
numbered_text front n rest = front ++ (decimal n ++ rest)

numbered_ends : (front : List ℕ) (n : ℕ) → numbered_text front n (codes "}\n") ≡ numbered_text front n (codes "}") ++ codes "\n"
numbered_ends front n = simp append_assoc

syntax_is : (n : ℕ) → json_line (values_members (values.Syntax n)) ≡ numbered_text (codes "{\"error\":\"values\",\"kind\":\"syntax\",\"line\":") n (codes "}") ++ codes "\n"
unfolding serde_json_on_literals
syntax_is n = refl

pub syntax_recorded : (n : ℕ) (text : List ℕ) → text ≡ numbered_text (codes "{\"error\":\"values\",\"kind\":\"syntax\",\"line\":") n (codes "}\n") → text ≡ json_line (values_members (values.Syntax n))
syntax_recorded n text is = is ∙ numbered_ends (codes "{\"error\":\"values\",\"kind\":\"syntax\",\"line\":") n ∙ sym (syntax_is n)

duplicate_is : (n : ℕ) → json_line (values_members (values.Duplicate n)) ≡ numbered_text (codes "{\"error\":\"values\",\"kind\":\"duplicate\",\"line\":") n (codes "}") ++ codes "\n"
unfolding serde_json_on_literals
duplicate_is n = refl

pub duplicate_recorded : (n : ℕ) (text : List ℕ) → text ≡ numbered_text (codes "{\"error\":\"values\",\"kind\":\"duplicate\",\"line\":") n (codes "}\n") → text ≡ json_line (values_members (values.Duplicate n))
duplicate_recorded n text is = is ∙ numbered_ends (codes "{\"error\":\"values\",\"kind\":\"duplicate\",\"line\":") n ∙ sym (duplicate_is n)

limit_is : (n : ℕ) → json_line (values_members (values.Limit n)) ≡ numbered_text (codes "{\"error\":\"values\",\"kind\":\"limit\",\"line\":") n (codes "}") ++ codes "\n"
unfolding serde_json_on_literals
limit_is n = refl

pub limit_recorded : (n : ℕ) (text : List ℕ) → text ≡ numbered_text (codes "{\"error\":\"values\",\"kind\":\"limit\",\"line\":") n (codes "}\n") → text ≡ json_line (values_members (values.Limit n))
limit_recorded n text is = is ∙ numbered_ends (codes "{\"error\":\"values\",\"kind\":\"limit\",\"line\":") n ∙ sym (limit_is n)
