-- What is answered, from its parts.
use Rattle.std.proofs.Common.{◌≡◌, ℕ, List, Result, Ok, Err, Bool, sym, subst}
use Rattle.std.specs.Prelude.{◌↔◌, IfOk, string_bytes}
use Rattle.dia_io.specs.declared.Exit.{Exit}
use Rattle.dia_differences.specs.Same.{IsSameDictionary}
use Rattle.dia_io.specs.declared.Exit.TheVariants as exits
use Rattle.dia_io.specs.declared.Inputs.{Inputs}
use Rattle.dia_dict.specs.Dictionary.{Dictionary}
use Rattle.dia_terms.specs.declared.Sends.{Sends}
use Rattle.dia_terms.specs.declared.Unknown.{Unknown}
use Rattle.dia_report.specs.declared.Refused.TheVariants.{Bad}
use Rattle.dia_report.specs.declared.BadInput.{BadInput}
use Rattle.dia_report.specs.declared.reporting.Answered.{Answered}
use Rattle.dia_report.specs.Refusals.{RecordsOf, dictionary_line}
use Rattle.dia_run.specs.Texts.{IsDictionaryText, IsNoDictionaryText}
use Rattle.dia_refused_json.specs.Recording.{refused_text}
use Rattle.dia_diff.specs.Outcome.{AreLines, IsDiffOutcome, IsDiffText, answered, no_first, no_second, same_text}

module _ {E : Type 0} (sends : Sends) (unknown : Unknown) (json : Bool) (inputs : Inputs) where
  pub bad_first : (why : BadInput) (r : Result Answered E) → RecordsOf (λ recorded. (w : List ℕ) × IsNoDictionaryText inputs.first w × (recorded ≡ dictionary_line 1 w)) (Bad why)
      → IfOk r (λ a. string_bytes a.text ≡ refused_text json inputs.first why) → IfOk r (λ a. a.exit ≡ exits.Bad)
      → IfOk r (λ a. IsDiffOutcome sends unknown json inputs (string_bytes a.text) a.exit)
  bad_first why (Ok a) lacks text exit = no_first why lacks text exit
  bad_first why (Err e) lacks text exit = tt

  pub bad_second : (d : Dictionary) (why : BadInput) (r : Result Answered E) → IsDictionaryText inputs.first d
      → RecordsOf (λ recorded. (w : List ℕ) × IsNoDictionaryText inputs.second w × (recorded ≡ dictionary_line 2 w)) (Bad why)
      → IfOk r (λ a. string_bytes a.text ≡ refused_text json inputs.second why) → IfOk r (λ a. a.exit ≡ exits.Bad)
      → IfOk r (λ a. IsDiffOutcome sends unknown json inputs (string_bytes a.text) a.exit)
  bad_second d why (Ok a) is lacks text exit = no_second why (d, is, lacks) text exit
  bad_second d why (Err e) is lacks text exit = tt

  pub by_dictionaries : (a b : Dictionary) (r : Result Answered E) → IsDictionaryText inputs.first a → IsDictionaryText inputs.second b
      → IfOk r (λ x. IsDiffText a b sends unknown json x.exit (string_bytes x.text)) → IfOk r (λ x. IsDiffOutcome sends unknown json inputs (string_bytes x.text) x.exit)
  by_dictionaries a b (Ok x) is_a is_b text = answered a b is_a is_b text
  by_dictionaries a b (Err e) is_a is_b text = tt

module _ {E : Type 0} (a b : Dictionary) (sends : Sends) (unknown : Unknown) (json : Bool) (count : ℕ) (lines : (count ≡ 0) ↔ IsSameDictionary a b) where
  pub without_lines : (r : Result Answered E) → count ≡ 0 → IfOk r (λ x. x.exit ≡ exits.Yes) → IfOk r (λ x. string_bytes x.text ≡ same_text json)
      → IfOk r (λ x. IsDiffText a b sends unknown json x.exit (string_bytes x.text))
  without_lines (Ok x) none exit text = subst (λ (e : Exit). IsDiffText a b sends unknown json e (string_bytes x.text)) (sym exit) (lines.0 none, text)
  without_lines (Err e) none exit text = tt

  pub with_lines : (r : Result Answered E) → (count ≡ 0 → ⊥) → IfOk r (λ x. x.exit ≡ exits.No) → IfOk r (λ x. AreLines a b sends unknown json (string_bytes x.text))
      → IfOk r (λ x. IsDiffText a b sends unknown json x.exit (string_bytes x.text))
  with_lines (Ok x) some exit text = subst (λ (e : Exit). IsDiffText a b sends unknown json e (string_bytes x.text)) (sym exit) (λ same. some (lines.1 same), text)
  with_lines (Err e) some exit text = tt
