-- The AVPs of an answer (RFC 6733 sections 6.2, 7.2, 7.3 and 7.5).
use Rattle.std.specs.Prelude.{ℕ, zero, ◌==◌, ◌||◌, ◌&&◌, Bool, true, false, bit_and, List, [], ◌∷◌, Option, Some, None, MatchOption, IsTrue}
use Rattle.std.specs.Option.{option_map_or}
use Rattle.dia_wire.specs.declared.Key.{Key}
use Rattle.dia_wire.specs.Wire.{PlainAvp, key_of, IsTooLong}
use Rattle.dia_data.specs.Plain.{PlainFormat, AnyBytes, OctetString, Grouped, Utf8String}
use Rattle.dia_data.specs.Leaf.{IsLeaf}
use Rattle.dia_book.specs.declared.MRule.{MRule}
use Rattle.dia_book.specs.declared.MRule.TheVariants.{MustNot}
use Rattle.dia_book.specs.declared.DRule.{DRule}
use Rattle.dia_book.specs.Keys.{same_key}
use Rattle.dia_book.specs.Dictionary.{Dictionary}
use Rattle.dia_terms.specs.declared.Unknown.{Unknown}
use Rattle.dia_terms.specs.declared.Levels.{Levels}
use Rattle.dia_valid.specs.Valid.{known, AllFit, is_listed, has_wildcard}
use Rattle.dia_answer.specs.Dictionaries.{base_key}

-- ---- keys (RFC 6733 section 4.5)

abbrev pub error_message : Key
error_message = base_key 281

-- the codes of an answer's own AVPs, and of those of a node or of a route
abbrev pub is_own_code : ℕ → Bool
is_own_code code =
    (code == 257) || (code == 263) || (code == 264) || (code == 265) || (code == 266) || (code == 267) || (code == 268) || (code == 269) || (code == 278) || (code == 279)
    || (code == 281) || (code == 282) || (code == 283) || (code == 284) || (code == 293) || (code == 294) || (code == 296) || (code == 297) || (code == 299)

-- what an answer never copies as an AVP that its definition requires: its own AVPs, and those of a node or of a route (our profile)
abbrev pub is_own : Key → Bool
is_own key = (key.vendor == 0) && is_own_code key.code

-- ---- AVPs that are made

abbrev pub rule_flag : MRule → ℕ
rule_flag MustNot = 0
rule_flag rule = 64

-- the M flag is set, unless the AVP's rule forbids it
abbrev pub m_flag : Dictionary → Key → ℕ
m_flag d key = option_map_or (λ e. rule_flag e.rule) (known d key) 64

-- an AVP of the base protocol
abbrev pub own : Dictionary → ℕ → List ℕ → PlainAvp
own d code bytes = record { code = code; flags = m_flag d (base_key code); vendor = None; bytes = bytes }

-- ---- AVPs of the request

-- a copy: no Vendor-ID in place of 0
abbrev pub copied_by : Option ℕ → PlainAvp → PlainAvp
copied_by (Some zero) v = record { code = v.code; flags = bit_and v.flags 127; vendor = None; bytes = v.bytes }
copied_by vendor v = v

abbrev pub copied : PlainAvp → PlainAvp
copied v = copied_by v.vendor v

-- a message has room for the AVP, and it is as the dictionary says, by itself
pub record IsFit (d : Dictionary) (u : Unknown) (most : Levels) (v : PlainAvp) : Type 0 where
  pub room : ¬ IsTooLong (v ∷ [])
  pub fits : AllFit d u most (v ∷ [])

-- the AVPs of a key that fit
abbrev pub IsFitOf : Dictionary → Unknown → Levels → Key → PlainAvp → Type 0
IsFitOf d u most key v = IsTrue (same_key key (key_of v)) × IsFit d u most v

-- ---- what an answer may hold

abbrev pub TakesData : Dictionary → Key → List ℕ → Type 0
TakesData d key bytes = MatchOption (known d key) ⊥ (λ e. IsLeaf e.format bytes)

-- a rule lists the key, or there is a wildcard
abbrev pub may_hold : List DRule → Key → Bool
may_hold rules key = is_listed rules key || has_wildcard rules

abbrev pub is_text : PlainFormat → Bool
is_text Utf8String = true
is_text (AnyBytes OctetString) = true
is_text format = false

abbrev pub is_nest : PlainFormat → Bool
is_nest Grouped = true
is_nest (AnyBytes OctetString) = true
is_nest format = false

abbrev pub has_format : (PlainFormat → Bool) → Dictionary → Key → Bool
has_format p d key = option_map_or (λ e. p e.format) (known d key) false

-- Error-Message, or an AVP that a rule lists
abbrev pub may_be_unlisted : List DRule → PlainAvp → Bool
may_be_unlisted rules v = same_key (key_of v) error_message || is_listed rules (key_of v)
