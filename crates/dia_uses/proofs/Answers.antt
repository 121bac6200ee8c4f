-- What is answered, from its parts.
use Rattle.std.proofs.Common.{◌≡◌, ℕ, ◌<◌, ◌≤◌, List, length, Result, Ok, Err, Bool, sym, subst, ◌∙◌, arith}
use Rattle.std.specs.Prelude.{IfOk, string_bytes}
use Rattle.std.proofs.lemmas.List.{nil_from_length}
use Rattle.dia_io.specs.declared.Exit.{Exit}
use Rattle.dia_io.specs.declared.Exit.TheVariants as exits
use Rattle.dia_io.specs.declared.Inputs.{Inputs}
use Rattle.dia_wire.specs.declared.Key.{Key}
use Rattle.dia_dict.specs.Dictionary.{Dictionary}
use Rattle.dia_places.specs.Asked.{AreKeysOf, IsFirstUnknown}
use Rattle.dia_places.specs.Paths.{ArePaths, Path}
use Rattle.dia_report.specs.declared.Refused.TheVariants.{Bad}
use Rattle.dia_report.specs.declared.BadInput.{BadInput}
use Rattle.dia_report.specs.declared.reporting.Answered.{Answered}
use Rattle.dia_report.specs.Refusals.{RecordsOf, dictionary_line}
use Rattle.dia_run.specs.Texts.{IsDictionaryText, IsNoDictionaryText}
use Rattle.dia_uses.specs.Ended.{IsEnded, IsListed}
use Rattle.dia_refused_json.specs.Recording.{refused_text}
use Rattle.dia_uses.specs.Outcome.{IsUsesOutcome, IsUsesText, all_lines, answered, nowhere_text, refused, unknown_text}
use Rattle.dia_uses.proofs.FoundPlaces.{no_place, some_place}

pub bad_dictionary : {E : Type 0} (json : Bool) (avps : List (List ℕ)) (inputs : Inputs) (why : BadInput) (r : Result Answered E)
    → RecordsOf (λ recorded. (w : List ℕ) × IsNoDictionaryText inputs.first w × (recorded ≡ dictionary_line 1 w)) (Bad why)
    → IfOk r (λ a. string_bytes a.text ≡ refused_text json inputs.first why) → IfOk r (λ a. a.exit ≡ exits.Bad)
    → IfOk r (λ a. IsUsesOutcome json avps inputs (string_bytes a.text) a.exit)
bad_dictionary json avps inputs why (Ok a) lacks text exit = refused why lacks text exit
bad_dictionary json avps inputs why (Err e) lacks text exit = tt

pub by_dictionary : {E : Type 0} (json : Bool) (avps : List (List ℕ)) (inputs : Inputs) (d : Dictionary) (r : Result Answered E)
    → IsDictionaryText inputs.first d → IfOk r (λ a. IsUsesText json d avps a.exit (string_bytes a.text))
    → IfOk r (λ a. IsUsesOutcome json avps inputs (string_bytes a.text) a.exit)
by_dictionary json avps inputs d (Ok a) is text = answered d is text
by_dictionary json avps inputs d (Err e) is text = tt

-- ---- by the words

listed_text : (json : Bool) (d : Dictionary) (avps : List (List ℕ)) (keys : List Key) (exit : Exit) (text : List ℕ)
    → AreKeysOf d avps keys → IsListed json d keys exit text → IsUsesText json d avps exit text
listed_text json d avps keys exits.Yes text are h = (keys, are, h.0, h.1)
listed_text json d avps keys exits.No text are h = (keys, are, h.0, h.1)
listed_text json d avps keys exits.Bad text are h = absurd h

pub of_keys : {E : Type 0} (json : Bool) (d : Dictionary) (avps : List (List ℕ)) (keys : List Key) (r : Result Answered E) → AreKeysOf d avps keys
    → IfOk r (λ a. IsListed json d keys a.exit (string_bytes a.text)) → IfOk r (λ a. IsUsesText json d avps a.exit (string_bytes a.text))
of_keys json d avps keys (Ok a) are listed = listed_text json d avps keys a.exit (string_bytes a.text) are listed
of_keys json d avps keys (Err e) are listed = tt

pub of_unknown : {E : Type 0} (json : Bool) (d : Dictionary) (avps : List (List ℕ)) (word : List ℕ) (r : Result Answered E) → IsFirstUnknown d avps word
    → IfOk r (λ a. string_bytes a.text ≡ unknown_text json word) → IfOk r (λ a. a.exit ≡ exits.Bad) → IfOk r (λ a. IsUsesText json d avps a.exit (string_bytes a.text))
of_unknown json d avps word (Ok a) first text exit = subst (λ (x : Exit). IsUsesText json d avps x (string_bytes a.text)) (sym exit) (word, first, text)
of_unknown json d avps word (Err e) first text exit = tt

-- ---- by the lines

ended_text : (json : Bool) (d : Dictionary) (keys : List Key) (paths : List Path) (lines : List ℕ) (exit : Exit) (text : List ℕ) → ArePaths d paths → lines ≡ all_lines json d paths keys
    → IsEnded json lines exit text → IsListed json d keys exit text
ended_text json d keys paths lines exits.Yes text are is (same, some) =
    (some_place json d paths keys are (subst (λ (xs : List ℕ). 0 < length xs) is some), (paths, are, same ∙ is))
ended_text json d keys paths lines exits.No text are is (same, none) = (no_place json d paths keys are (sym is ∙ none), same)
ended_text json d keys paths lines exits.Bad text are is h = absurd h

pub of_lines : {E : Type 0} (json : Bool) (d : Dictionary) (keys : List Key) (paths : List Path) (lines : List ℕ) (r : Result Answered E) → ArePaths d paths → lines ≡ all_lines json d paths keys
    → IfOk r (λ a. IsEnded json lines a.exit (string_bytes a.text)) → IfOk r (λ a. IsListed json d keys a.exit (string_bytes a.text))
of_lines json d keys paths lines (Ok a) are is ended = ended_text json d keys paths lines a.exit (string_bytes a.text) are is ended
of_lines json d keys paths lines (Err e) are is ended = tt

pub of_nowhere : {E : Type 0} (json : Bool) (lines : List ℕ) (r : Result Answered E) → length lines ≤ 0
    → IfOk r (λ a. string_bytes a.text ≡ nowhere_text json) → IfOk r (λ a. a.exit ≡ exits.No) → IfOk r (λ a. IsEnded json lines a.exit (string_bytes a.text))
of_nowhere json lines (Ok a) none text exit = subst (λ (x : Exit). IsEnded json lines x (string_bytes a.text)) (sym exit) (text, nil_from_length lines (omega arith))
of_nowhere json lines (Err e) none text exit = tt
