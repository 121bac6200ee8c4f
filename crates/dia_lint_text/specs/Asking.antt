-- Which rules are asked for.
use Rattle.std.specs.Prelude.{ℕ, ◌==◌, ◌&&◌, ◌||◌, not, Bool, true, false, if◌then◌else◌, List, [], ◌∷◌, ◌++◌, find, Option, Some, None, slice_get, unwrap_or}
use Rattle.std.specs.List.{list_any}
use Rattle.std.specs.Option.{option_copied}
use Rattle.dia_terms.specs.declared.Unknown.{Unknown}
use Rattle.dia_terms.specs.Names.{same_bytes}
use Rattle.dia_lint.specs.Words.{names_rule, rule_number, rules, set_of, set_word}
use Rattle.dia_lint.specs.declared.rule.Rule.{Rule}
use Rattle.dia_lint.specs.declared.rule.RuleSet.{RuleSet}
use Rattle.dia_lint.specs.declared.rule.RuleSet.TheVariants.{Exact, Guidelines, More}
use Rattle.dia_lint_text.specs.declared.asked.Asked.{Asked}

-- what is asked: the policy, the words of `--only` and `--except`, whether lines are JSON objects, and the word for the dictionary
pub record Question : Type 0 where
  pub unknown : Unknown
  pub only : Option (List ℕ)
  pub except : Option (List ℕ)
  pub json : Bool
  pub file : List ℕ

abbrev pub question : Asked → Question
question a = record { unknown = a.unknown; only = option_copied a.only; except = option_copied a.except; json = a.json; file = a.file.now }

-- the words of a text from the rest of one on, with commas (44) between them
abbrev pub words_from : List ℕ → List ℕ → List (List ℕ)
words_from word [] = word ∷ []
words_from word (c ∷ cs) = if c == 44 then word ∷ words_from [] cs else words_from (word ++ c ∷ []) cs

-- those of a text, if there is one
abbrev pub words_of : Option (List ℕ) → List (List ℕ)
words_of None = []
words_of (Some text) = words_from [] text

-- the word is that of the rule, or that of its set
abbrev pub chooses : Rule → List ℕ → Bool
chooses r word = same_bytes word (set_word (set_of r)) || names_rule word r

-- it names no rule and no set
abbrev pub is_strange : List ℕ → Bool
is_strange word = not (list_any (λ r. chooses r word) rules)

abbrev pub is_more : RuleSet → Bool
is_more Exact = false
is_more Guidelines = false
is_more More = true

-- without `--only` each rule but those of the set `more`
abbrev pub is_wanted : List (List ℕ) → Rule → Bool
is_wanted [] r = not (is_more (set_of r))
is_wanted (word ∷ words) r = list_any (chooses r) (word ∷ words)

abbrev pub is_chosen : List (List ℕ) → List (List ℕ) → Rule → Bool
is_chosen only except r = is_wanted only r && not (list_any (chooses r) except)

-- the rule is asked for
abbrev pub is_asked : Question → Rule → Bool
is_asked q r = is_chosen (words_of q.only) (words_of q.except) r

-- some rule is
abbrev pub asks : Question → Bool
asks q = list_any (is_asked q) rules

-- the first word that names no rule
abbrev pub stranger : Question → Option (List ℕ)
stranger q = find is_strange (words_of q.only ++ words_of q.except)

-- ---- a table of them

-- by the number of the rule
abbrev pub has_in : List Bool → Rule → Bool
has_in chosen r = unwrap_or (slice_get chosen (rule_number r)) false
