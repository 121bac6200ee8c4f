-- The problems of the text of a dictionary.
use Rattle.std.specs.Prelude.{◌≡◌, ◌≢◌, ◌<◌, ℕ, List, length, Some, None}
use Rattle.std.specs.Str.{IsUtf8}
use Rattle.dia_ccf.specs.declared.fault.CcfFault.{CcfFault}
use Rattle.dia_ccf.specs.declared.fault.CcfFault.TheVariants as ccf
use Rattle.dia_ccf.specs.Plain.{PlainSource}
use Rattle.dia_ccf.specs.CanonicalText.{canonical}
use Rattle.dia_ccf.specs.Tokens.{tokens}
use Rattle.dia_ccf.specs.Grammar.{Derives}
use Rattle.dia_ccf.specs.Faults.{IsFault}
use Rattle.dia_ccf.specs.Limits.{max_text}
use Rattle.dia_dict.specs.declared.fault.DictKind.{DictKind}
use Rattle.dia_dict.specs.declared.fault.DictKind.TheVariants as kind
use Rattle.dia_book.specs.Dictionary.{Dictionary}
use Rattle.dia_dict.specs.Resolution.{resolved, first_wrong, wrong}
use Rattle.dia_c_calls.specs.declared.opening.Problem.{Problem}

-- the text's source names this dictionary
abbrev pub IsTextOf : List ℕ → Dictionary → Type 0
IsTextOf text d = IsUtf8 text × (source : PlainSource) × Derives (tokens text) source × (first_wrong source ≡ None) × (d ≡ resolved source)

abbrev pub problem : ℕ → ℕ → ℕ → Problem
problem kind line token = record { kind = kind; line = line; token = token }

abbrev pub problem_of : CcfFault → Problem
problem_of (ccf.Syntax token line) = problem 1 line token
problem_of (ccf.Number line) = problem 2 line 0
problem_of (ccf.Limit line) = problem 3 line 0
problem_of ccf.NoMemory = problem 0 0 0

abbrev pub number_of : DictKind → ℕ
number_of kind.Limit = 10
number_of kind.DuplicateName = 11
number_of kind.NoGroupFormat = 12
number_of kind.HeaderMismatch = 13
number_of kind.DuplicateKey = 14
number_of kind.DuplicateCommand = 15
number_of kind.UndefinedName = 16
number_of kind.RepeatedSlot = 17
number_of kind.MinOverMax = 18
number_of kind.RequiredMin = 19
number_of kind.OptionalMin = 20

-- the first thing that is wrong with the definitions of a source has this number
abbrev pub IsProblemOf : PlainSource → Problem → Type 0
IsProblemOf source p = (k : DictKind) × (name : List ℕ) × (slot : List ℕ) × (first_wrong source ≡ Some (wrong k name slot)) × (p ≡ problem (number_of k) 0 0)

-- no source is read of the text, and this is why
pub data IsUnread (text : List ℕ) (p : Problem) : Type 0 where
  not_text : ¬ IsUtf8 text → p ≡ problem 0 0 0 → IsUnread text p
  too_long : max_text < length text → p ≡ problem 3 0 0 → IsUnread text p
  fault : (f : CcfFault) → IsFault text f → f ≢ ccf.NoMemory → p ≡ problem_of f → IsUnread text p

-- the text is no dictionary, and this is why
pub data HasProblem (text : List ℕ) (p : Problem) : Type 0 where
  unread : IsUnread text p → HasProblem text p
  wrong_source : (s : PlainSource) → Derives (tokens text) s → IsProblemOf s p → HasProblem text p

-- the canonical text of the text's source
abbrev pub IsRenderedOf : List ℕ → List ℕ → Type 0
IsRenderedOf text rendered = IsUtf8 text × (source : PlainSource) × Derives (tokens text) source × (rendered ≡ canonical source)
