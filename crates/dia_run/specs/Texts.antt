-- What the texts of the inputs say, and what is reported of one that says nothing.
use Rattle.std.specs.Prelude.{◌≡◌, ◌≢◌, ℕ, ◌⊎◌, List, [], ◌∷◌, ◌++◌, None, Some, Ok, codes, IsOk}
use Rattle.std.specs.Str.{IsUtf8}
use Rattle.std.specs.Str.Lossy.{utf8_valid_len}
pub use Rattle.dia_terms.specs.Texts.{digits_of}
use Rattle.hex.specs.Hex.{decode_of}
use Rattle.dia_ccf.specs.declared.CcfFault.{CcfFault}
use Rattle.dia_ccf.specs.declared.CcfFault.TheVariants as ccf
use Rattle.dia_ccf.specs.declared.Refused.{Refused as NoText}
use Rattle.dia_ccf.specs.declared.Refused.TheVariants as unread
use Rattle.dia_ccf.specs.Limits.{max_text}
use Rattle.dia_ccf.specs.declared.source.Source.{Source}
use Rattle.dia_ccf.specs.Places.{IsPlaced}
use Rattle.dia_ccf.specs.Plain.{PlainSource}
use Rattle.dia_ccf.specs.Tokens.{tokens}
use Rattle.dia_ccf.specs.Grammar.{Derives}
use Rattle.dia_ccf.specs.Faults.{IsFault}
use Rattle.dia_dict.specs.Dictionary.{Dictionary, IsDictionary}
use Rattle.dia_dict.specs.Resolution.{resolved, first_wrong, Wrong}
use Rattle.dia_io.specs.declared.Input.{Input}
use Rattle.dia_io.specs.Inputs.{Holds, IsOver}
use Rattle.dia_terms.specs.Limits.{max_message_text}
use Rattle.dia_report.specs.Refusals.{fault_text, wrong_text}

-- a text and its line feed
abbrev pub line : List ℕ → List ℕ
line text = text ++ 10 ∷ []

-- the input is no text: this many of its bytes are the longest front that is UTF-8
abbrev pub IsNoText : Input → ℕ → ℕ → Type 0
IsNoText input limit at = (bytes : List ℕ) × Holds input limit bytes × (¬ IsUtf8 bytes) × (at ≡ utf8_valid_len bytes)

-- ---- dictionaries

-- the input is the text of this source
abbrev pub IsSourceText : Input → PlainSource → Type 0
IsSourceText input source = (text : List ℕ) × Holds input max_text text × IsUtf8 text × Derives (tokens text) source

-- the parts of the source have their offsets in the input's text
abbrev pub IsPlacedIn : Input → Source → Type 0
IsPlacedIn input source = (text : List ℕ) × Holds input max_text text × IsPlaced text source

-- what is reported of a text that the grammar refuses
abbrev pub refused_text : NoText → List ℕ
refused_text unread.TooLong = codes "too long"
refused_text unread.NoMemory = []
refused_text (unread.At misfit) = fault_text misfit.fault

-- the input is no dictionary text, and this is why
pub data IsNoSourceText (input : Input) (why : List ℕ) : Type 0 where
  too_long : IsOver input max_text → why ≡ codes "too long" → IsNoSourceText input why
  not_text : (text : List ℕ) → Holds input max_text text → ¬ IsUtf8 text → why ≡ codes "not text" → IsNoSourceText input why
  fault : (text : List ℕ) (f : CcfFault) → Holds input max_text text → IsUtf8 text → IsFault text f → f ≢ ccf.NoMemory
      → why ≡ fault_text f → IsNoSourceText input why

-- the input is the text of a source that names this dictionary
abbrev pub IsDictionaryText : Input → Dictionary → Type 0
IsDictionaryText input d = (source : PlainSource) × IsSourceText input source × (first_wrong source ≡ None)
    × (d ≡ resolved source) × IsDictionary d

-- the input names no dictionary, and this is why
abbrev pub IsNoDictionaryText : Input → List ℕ → Type 0
IsNoDictionaryText input why = IsNoSourceText input why ⊎ ((source : PlainSource) × (wrong : Wrong) × IsSourceText input source
    × (first_wrong source ≡ Some wrong) × (why ≡ wrong_text wrong))

-- ---- messages

-- the input is hexadecimal text of these bytes
abbrev pub IsMessageText : Input → List ℕ → Type 0
IsMessageText input bytes = (text : List ℕ) × Holds input max_message_text text × (decode_of (digits_of text) ≡ Ok bytes)

-- the input is no hexadecimal text within the limit, and this is reported
pub data IsNoMessageText (input : Input) (recorded : List ℕ) : Type 0 where
  too_long : IsOver input max_message_text → recorded ≡ codes "message: too long" → IsNoMessageText input recorded
  not_hexadecimal : (text : List ℕ) → Holds input max_message_text text → ¬ IsOk (decode_of (digits_of text))
      → recorded ≡ codes "message: not hexadecimal" → IsNoMessageText input recorded

-- the text spells no bytes
abbrev pub SpellsNone : List ℕ → Type 0
SpellsNone text = ¬ IsOk (decode_of (digits_of text))

-- the front of the text spells these bytes, and this is the rest of it
pub record SpellsFirst (text bytes rest : List ℕ) : Type 0 where
  pub digits : List ℕ
  pub parts : digits_of text ≡ digits ++ digits_of rest
  pub spells : decode_of digits ≡ Ok bytes
