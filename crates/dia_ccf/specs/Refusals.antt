-- What is reported of a text that is refused: why, at which place, and what would fit there.
use Rattle.std.specs.Prelude.{◌≡◌, ℕ, zero, suc, ◌-◌, ◌≤◌, ◌<◌, ◌↔◌, List, [], ◌∷◌, ◌++◌, length, take, Option, None, slice_get, IsTrue, ⊤}
use Rattle.std.specs.Option.{option_map}
use Rattle.dia_ccf.specs.declared.fault.CcfFault.{CcfFault}
use Rattle.dia_ccf.specs.declared.fault.CcfFault.TheVariants as fault
use Rattle.dia_ccf.specs.declared.refused.Refused.{Refused}
use Rattle.dia_ccf.specs.declared.refused.Refused.TheVariants as refused
use Rattle.dia_ccf.specs.declared.refused.Misfit.{Misfit}
use Rattle.dia_ccf.specs.declared.wanted.Wanted.{Wanted}
use Rattle.dia_ccf.specs.Limits.{max_text}
use Rattle.dia_ccf.specs.Plain.{PlainSource}
use Rattle.dia_ccf.specs.Tokens.{Token, placed_tokens, tokens}
use Rattle.dia_ccf.specs.Grammar.{Derives}
use Rattle.dia_ccf.specs.Faults.{CanBegin, IsFirstFault, IsFault, place_of}
use Rattle.dia_ccf.specs.Wanting.{fits, may_end}

abbrev pub fault_of : Refused → CcfFault
fault_of refused.TooLong = fault.Limit 0
fault_of refused.NoMemory = fault.NoMemory
fault_of (refused.At misfit) = misfit.fault

-- exactly these tokens can follow the front in a text of the grammar, and the end is wanted where the front is a whole text
pub record IsWanted (front : List Token) (wanted : Wanted) : Type 0 where
  pub fitting : (token : Token) → IsTrue (fits wanted token) ↔ CanBegin (front ++ token ∷ [])
  pub ending : IsTrue (may_end wanted) ↔ ((source : PlainSource) × Derives front source)

-- the place of the token before token k
abbrev pub place_before : List ℕ → ℕ → Option ℕ
place_before text zero = None
place_before text (suc k) = option_map (λ p. p.at) (slice_get (placed_tokens text) k)

pub record IsMisfit (text : List ℕ) (misfit : Misfit) : Type 0 where
  pub token : ℕ
  pub first : IsFirstFault (tokens text) token
  pub recorded : IsFault text misfit.fault
  pub no_memory : ¬ (misfit.fault ≡ fault.NoMemory)
  pub place : misfit.at ≡ place_of text token
  pub last : misfit.last ≡ place_before text token
  pub earlier : misfit.earlier ≡ place_before text (token - 1)
  pub wanted : IsWanted (take token (tokens text)) misfit.wanted

abbrev pub IsRefused : List ℕ → Refused → Type 0
IsRefused text refused.TooLong = max_text < length text
IsRefused text refused.NoMemory = ⊤
IsRefused text (refused.At misfit) = (length text ≤ max_text) × IsMisfit text misfit
