-- What stays as it was when the reader goes on to the next token.
use Rattle.std.proofs.Common.{◌≡◌, ℕ, zero, suc, ◌+◌, ◌-◌, ◌<◌, ◌≤◌, List, [], ◌∷◌, ◌++◌, length, map, take, drop, drop-drop, length-drop, Option, Some, None, refl, sym, ap, ◌∙◌, arith}
use Rattle.std.specs.Prelude.{slice_get, IsSome}
use Rattle.std.specs.Option.{option_map}
use Rattle.std.proofs.lemmas.List.{drop-map}
use Rattle.dia_ccf.specs.declared.lexer.Token.{Token as LexerToken}
use Rattle.dia_ccf.specs.declared.wanted.Wanted.{Wanted}
use Rattle.dia_ccf.specs.declared.wanted.Wanted.TheVariants.{Item}
use Rattle.dia_ccf.specs.Tokens.{Token, Placed, placed_tokens}
use Rattle.dia_ccf.specs.Faults.{token_place}
use Rattle.dia_ccf.specs.Refusals.{place_before}
use Rattle.dia_ccf.specs.LexerTokens.{tokens_from, left_from, capped, shown, ahead, sees}
use Rattle.dia_ccf.specs.Wanting.{following, after_all}
use Rattle.dia_ccf.proofs.WantedAfter.{after_all-more}
use Rattle.dia_ccf.proofs.ReaderFindings.{get_dropped}

take_next : {X : Type 0} (n : ℕ) (xs : List X) (x : X) (rest : List X) → drop n xs ≡ x ∷ rest → take (suc n) xs ≡ take n xs ++ x ∷ []
take_next zero [] x rest h = absurd cc
take_next zero (y ∷ ys) x rest h = let e : y ≡ x = cc in ap (λ z. z ∷ []) e
take_next (suc n) [] x rest h = absurd cc
take_next (suc n) (y ∷ ys) x rest h = ap (λ zs. y ∷ zs) (take_next n ys x rest h)

first_place : (text : List ℕ) (ps : List Placed) (token : Token) (rest : List Token) (at : ℕ) → map (λ placed. capped placed.token) ps ≡ token ∷ rest
    → token_place text (slice_get ps 0) ≡ at → option_map (λ p. p.at) (slice_get ps 0) ≡ Some at
first_place text [] token rest at seen h = absurd cc
first_place text (p ∷ ps) token rest at seen h = ap (λ (n : ℕ). Some n) h

module _ (text : List ℕ) (taken at : ℕ) (token : Token) (rest : List Token) (counted : drop taken (placed_tokens text) ≡ tokens_from text at)
    (begins : left_from text at ≡ token ∷ rest) where
  wants_one : (w : Wanted) → w ≡ after_all Item (take taken (left_from text 0)) → following w token ≡ after_all Item (take (taken + 1) (left_from text 0))
  wants_one w h =
      let seen = drop-map (λ (placed : Placed). capped placed.token) taken (placed_tokens text) ∙ ap (map (λ (placed : Placed). capped placed.token)) counted ∙ begins in
      let more : taken + 1 ≡ suc taken = omega arith in
      ap (λ (v : Wanted). following v token) h ∙ sym (after_all-more Item (take taken (left_from text 0)) token)
      ∙ ap (after_all Item) (sym (take_next taken (left_from text 0) token rest seen)) ∙ ap (λ (n : ℕ). after_all Item (take n (left_from text 0))) (sym more)

  before_one : token_place text (slice_get (tokens_from text at) 0) ≡ at → Some at ≡ place_before text (taken + 1)
  before_one lies =
      let more : taken + 1 ≡ suc taken = omega arith in
      sym (first_place text (tokens_from text at) token rest at begins lies) ∙ ap (λ (ps : List Placed). option_map (λ p. p.at) (slice_get ps 0)) (sym counted)
      ∙ ap (option_map (λ (p : Placed). p.at)) (get_dropped taken (placed_tokens text)) ∙ ap (place_before text) (sym more)

-- what is wanted after the token ahead, and its place
pub wants_next : (text : List ℕ) (taken at end : ℕ) (token : Option LexerToken) (w : Wanted) → IsSome token → drop taken (placed_tokens text) ≡ tokens_from text at
    → left_from text at ≡ sees token (left_from text end) → w ≡ after_all Item (take taken (left_from text 0)) → after_all w (ahead token) ≡ after_all Item (take (taken + 1) (left_from text 0))
wants_next text taken at end None w some counted begins h = absurd cc
wants_next text taken at end (Some token) w some counted begins h = wants_one text taken at (shown token) (left_from text end) counted begins w h

pub before_next : (text : List ℕ) (taken at end : ℕ) (token : Option LexerToken) → IsSome token → drop taken (placed_tokens text) ≡ tokens_from text at
    → left_from text at ≡ sees token (left_from text end) → token_place text (slice_get (tokens_from text at) 0) ≡ at → Some at ≡ place_before text (taken + 1)
before_next text taken at end None some counted begins lies = absurd cc
before_next text taken at end (Some token) some counted begins lies = before_one text taken at (shown token) (left_from text end) counted begins lies

pub earlier_next : (text : List ℕ) (taken : ℕ) (last : Option ℕ) → last ≡ place_before text taken → last ≡ place_before text ((taken + 1) - 1)
earlier_next text taken last h = let same : (taken + 1) - 1 ≡ taken = omega arith in h ∙ ap (place_before text) (sym same)

-- ---- how far the next token is

one_ahead : (token : Option LexerToken) → IsSome token → length (ahead token) ≡ 1
one_ahead None some = absurd cc
one_ahead (Some token) some = refl

pub few_next : (taken at end to : ℕ) (token : Option LexerToken) → IsSome token → taken ≤ at → at + length (ahead token) ≤ end → end ≤ to → taken + 1 ≤ to
few_next taken at end to token some few long further = omega (arith, few, long, further, one_ahead token some)

not_last : (ps : List Placed) (token : Token) (rest : List Token) → map (λ placed. capped placed.token) ps ≡ token ∷ rest → 0 < length ps
not_last [] token rest h = absurd cc
not_last (p ∷ ps) token rest h = omega arith

pub reached_next : (text : List ℕ) (taken at end : ℕ) (token : Option LexerToken) → IsSome token → drop taken (placed_tokens text) ≡ tokens_from text at
    → left_from text at ≡ sees token (left_from text end) → taken + 1 ≤ length (placed_tokens text)
reached_next text taken at end None some counted begins = absurd cc
reached_next text taken at end (Some token) some counted begins =
    omega (arith, not_last (tokens_from text at) (shown token) (left_from text end) begins, ap length counted, length-drop taken (placed_tokens text))

pub counted_next : (text : List ℕ) (taken at end to : ℕ) (token : Option LexerToken) → IsSome token → drop taken (placed_tokens text) ≡ tokens_from text at
    → drop (length (ahead token)) (tokens_from text at) ≡ tokens_from text end → tokens_from text end ≡ tokens_from text to → drop (taken + 1) (placed_tokens text) ≡ tokens_from text to
counted_next text taken at end to token some counted rest same =
    let one = one_ahead token some in
    let more : taken + length (ahead token) ≡ taken + 1 = ap (λ (n : ℕ). taken + n) one in
    sym (drop-drop (length (ahead token)) taken (placed_tokens text) ∙ ap (λ (n : ℕ). drop n (placed_tokens text)) more)
    ∙ ap (drop (length (ahead token))) counted ∙ rest ∙ same

-- what the reader has gone past
pub left_next : (text : List ℕ) (at end to : ℕ) (token : Option LexerToken) → IsSome token → left_from text at ≡ sees token (left_from text end)
    → tokens_from text end ≡ tokens_from text to → left_from text at ≡ ahead token ++ left_from text to
left_next text at end to None some begins same = absurd cc
left_next text at end to (Some token) some begins same =
    begins ∙ ap (λ (ps : List Placed). shown token ∷ map (λ placed. capped placed.token) ps) same

pub taken_next : (taken : ℕ) (token : Option LexerToken) → IsSome token → taken + 1 ≡ taken + length (ahead token)
taken_next taken token some = ap (λ (n : ℕ). taken + n) (sym (one_ahead token some))
