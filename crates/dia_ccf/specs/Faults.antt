-- What is reported of a text that is no dictionary: the first token with which no text can begin.
use Rattle.std.specs.Prelude.{◌≡◌, ℕ, suc, ◌+◌, ◌<◌, ◌≤◌, List, [], ◌∷◌, ◌++◌, length, take, Option, Some, None, slice_get, codes, ⊤}
use Rattle.dia_ccf.specs.declared.fault.CcfFault.{CcfFault}
use Rattle.dia_ccf.specs.declared.fault.CcfFault.TheVariants as fault
use Rattle.dia_ccf.specs.Limits.{max_name}
use Rattle.dia_ccf.specs.Plain.{PlainSource}
use Rattle.dia_ccf.specs.Tokens.{Token, Number, Name, Placed, placed_tokens, tokens, line_at}
use Rattle.dia_ccf.specs.Grammar.{Derives}

-- some text of the grammar, of whatever length, begins with these tokens
abbrev pub CanBegin : List Token → Type 0
CanBegin front = (rest : List Token) × (source : PlainSource) × Derives (front ++ rest) source

-- the first k tokens can begin a text and the first k + 1 can not: either no token follows, or it does not fit
pub record IsFirstFault (ts : List Token) (k : ℕ) : Type 0 where
  pub before : CanBegin (take k ts)
  pub here : k < length ts → ¬ CanBegin (take (k + 1) ts)
  pub within : k ≤ length ts
  pub no_text : (source : PlainSource) → ¬ Derives ts source

-- another token in the place of token k fits
abbrev pub Fits : List Token → ℕ → Token → Type 0
Fits ts k other = CanBegin (take k ts ++ other ∷ [])

-- token k is a number, and some other number fits there
abbrev pub IsNumberFault : List Token → ℕ → Type 0
IsNumberFault ts k = (n : ℕ) × (slice_get ts k ≡ Some (Number n)) × (other : ℕ) × Fits ts k (Number other)

-- token k is a name above the limit, and a short one fits there
abbrev pub IsLimitFault : List Token → ℕ → Type 0
IsLimitFault ts k = (name : List ℕ) × (slice_get ts k ≡ Some (Name name)) × (max_name < length name) × Fits ts k (Name (codes "a"))

-- the place of token k, and after the last token the end of the text
abbrev pub token_place : List ℕ → Option Placed → ℕ
token_place text None = length text
token_place text (Some token) = token.at

abbrev pub place_of : List ℕ → ℕ → ℕ
place_of text k = token_place text (slice_get (placed_tokens text) k)

abbrev pub line_of : List ℕ → ℕ → ℕ
line_of text k = line_at text (place_of text k)

-- what is reported of a text within the limit. Tokens count from 1
abbrev pub IsFault : List ℕ → CcfFault → Type 0
IsFault text (fault.Syntax token line) = (k : ℕ) × (token ≡ suc k) × (line ≡ line_of text k) × IsFirstFault (tokens text) k × (¬ IsNumberFault (tokens text) k) × (¬ IsLimitFault (tokens text) k)
IsFault text (fault.Number line) = (k : ℕ) × (line ≡ line_of text k) × IsFirstFault (tokens text) k × IsNumberFault (tokens text) k
IsFault text (fault.Limit line) = (k : ℕ) × (line ≡ line_of text k) × IsFirstFault (tokens text) k × IsLimitFault (tokens text) k
IsFault text fault.NoMemory = ⊤
