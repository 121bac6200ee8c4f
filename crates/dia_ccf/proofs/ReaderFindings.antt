-- What the reader found, said of the text.
use Rattle.std.proofs.Common.{◌≡◌, ℕ, zero, suc, ◌≤◌, ◌+◌, List, [], ◌∷◌, length, drop, map, refl, sym, ap, ◌∙◌, arith, add-one, length-drop}
use Rattle.std.specs.Prelude.{slice_get}
use Rattle.std.proofs.lemmas.List.{length-map}
use Rattle.std.proofs.lemmas.Simd.{map-map}
use Rattle.dia_ccf.specs.declared.fault.CcfFault.TheVariants as faults
use Rattle.dia_ccf.specs.declared.reading.refusal.Refusal.{Refusal}
use Rattle.dia_ccf.specs.declared.reading.refusal.Refusal.TheVariants as refusal
use Rattle.dia_ccf.specs.Plain.{PlainSource}
use Rattle.dia_ccf.specs.Tokens.{Token, Placed, placed_tokens, tokens, line_at}
use Rattle.dia_ccf.specs.Grammar.{Derives}
use Rattle.dia_ccf.specs.Faults.{IsFault, token_place, place_of, line_of}
use Rattle.dia_ccf.specs.LexerTokens.{capped, tokens_from, left_from}
use Rattle.dia_ccf.specs.Machine.{Between, Reads, Stops, outcome}
use Rattle.dia_ccf.specs.ReaderFunctions.{nothing_read}
use Rattle.dia_ccf.proofs.MachineSoundness.{sound}
use Rattle.dia_ccf.proofs.MachineCompleteness.{complete}
use Rattle.dia_ccf.proofs.CappedNumbers.{reads_uncapped, stops_uncapped}
use Rattle.dia_ccf.proofs.FirstFault.{Is_recorded, recorded}

pub get_dropped : {X : Type 0} (n : ℕ) (xs : List X) → slice_get (drop n xs) 0 ≡ slice_get xs n
get_dropped zero [] = refl
get_dropped zero (x ∷ xs) = refl
get_dropped (suc n) [] = refl
get_dropped (suc n) (x ∷ xs) = get_dropped n xs

-- the tokens of the text as the reader begins
pub all_left : (text : List ℕ) (at : ℕ) → placed_tokens text ≡ tokens_from text at → left_from text at ≡ map capped (tokens text)
all_left text at h = ap (map (λ placed. capped placed.token)) (sym h) ∙ sym (map-map capped (λ (p : Placed). p.token) (placed_tokens text))

pub found : (text : List ℕ) (s : PlainSource) → outcome (nothing_read, Between) (map capped (tokens text)) ≡ Reads s → Derives (tokens text) s
found text s h = sound (tokens text) s (reads_uncapped (nothing_read, Between) (tokens text) s h)

pub only : (text : List ℕ) (s t : PlainSource) → outcome (nothing_read, Between) (map capped (tokens text)) ≡ Reads s → Derives (tokens text) t → s ≡ t
only text s t h d =
    let e = reads_uncapped (nothing_read, Between) (tokens text) s h in
    let k = complete (tokens text) t d in
    cc

pub never : (text : List ℕ) (t : PlainSource) (k : Refusal) (rest : List Token) → outcome (nothing_read, Between) (map capped (tokens text)) ≡ Stops k rest → Derives (tokens text) t → ⊥
never text t k rest h d =
    let e = stops_uncapped (nothing_read, Between) (tokens text) k rest h in
    let f = sym e.1 ∙ complete (tokens text) t d in
    absurd cc

-- ---- faults

module _ (text : List ℕ) (taken at : ℕ) (counted : drop taken (placed_tokens text) ≡ tokens_from text at)
    (reached : taken ≤ length (placed_tokens text)) (lies : token_place text (slice_get (tokens_from text at) 0) ≡ at) where
  pub place_is : at ≡ place_of text taken
  place_is = sym lies ∙ ap (token_place text) (ap (λ (ps : List Placed). slice_get ps 0) (sym counted) ∙ get_dropped taken (placed_tokens text))

  line_is : line_at text at ≡ line_of text taken
  line_is = ap (line_at text) place_is

  left_length : (rest : List Token) → map capped rest ≡ left_from text at → length (tokens text) ≡ taken + length rest
  left_length rest h =
      let a = sym (length-map rest capped) ∙ ap (λ (f : List Token). length f) h ∙ length-map (tokens_from text at) (λ placed. capped placed.token) in
      let b = ap (λ (f : List Placed). length f) (sym counted) ∙ length-drop taken (placed_tokens text) in
      let c = length-map (placed_tokens text) (λ (p : Placed). p.token) in
      omega arith

  pub occurs : (k : Refusal) → outcome (nothing_read, Between) (map capped (tokens text)) ≡ Stops k (left_from text at) → Is_recorded (tokens text) taken k
  occurs k h =
      let e = stops_uncapped (nothing_read, Between) (tokens text) k (left_from text at) h in
      recorded (tokens text) taken k e.0 e.1 (left_length e.0 e.2)

  pub syntax_recorded : outcome (nothing_read, Between) (map capped (tokens text)) ≡ Stops refusal.Syntax (left_from text at) → IsFault text (faults.Syntax (taken + 1) (line_at text at))
  syntax_recorded h = let t = occurs refusal.Syntax h in (taken, add-one taken, line_is, t.first, t.no_number refl, t.no_limit refl)

  pub number_recorded : outcome (nothing_read, Between) (map capped (tokens text)) ≡ Stops refusal.Number (left_from text at) → IsFault text (faults.Number (line_at text at))
  number_recorded h = let t = occurs refusal.Number h in (taken, line_is, t.first, t.number refl)

  pub limit_recorded : outcome (nothing_read, Between) (map capped (tokens text)) ≡ Stops refusal.Limit (left_from text at) → IsFault text (faults.Limit (line_at text at))
  limit_recorded h = let t = occurs refusal.Limit h in (taken, line_is, t.first, t.limit refl)
