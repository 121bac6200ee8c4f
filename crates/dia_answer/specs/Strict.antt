-- Answers by the dictionary itself, whose Failed-AVP may be a group (RFC 6733 section 7.5).
use Rattle.std.specs.Prelude.{◌≡◌, ℕ, List, None, IfSome}
use Rattle.dia_wire.specs.declared.Header.{Header}
use Rattle.dia_wire.specs.declared.Key.{Key}
use Rattle.dia_wire.specs.Wire.{PlainAvp, IsMessage}
use Rattle.dia_book.specs.Dictionary.{Dictionary}
use Rattle.dia_terms.specs.declared.Unknown.{Unknown}
use Rattle.dia_terms.specs.declared.Levels.{Levels}
use Rattle.dia_valid.specs.Valid.{known, AllFit}
use Rattle.dia_answer.specs.Dictionaries.{failed_avp}
use Rattle.dia_answer.specs.Bodies.{of_key, origin_host, origin_realm, result_code}

-- the message's Failed-AVP, if it has one, is as the dictionary says
abbrev pub HasFittingFailed : Dictionary → Unknown → Levels → List ℕ → Type 0
HasFittingFailed d u most bytes = (h : Header) (avps : List PlainAvp) → IsMessage h avps bytes → AllFit d u most (of_key failed_avp avps)

-- the dictionary defines no group of the key
abbrev pub IsNoGroup : Dictionary → Key → Type 0
IsNoGroup d key = IfSome (known d key) (λ e. e.group ≡ None)

-- what each answer has are no groups (sections 6.3, 6.4 and 7.1)
pub record AreNoGroups (d : Dictionary) : Type 0 where
  pub code : IsNoGroup d result_code
  pub host : IsNoGroup d origin_host
  pub realm : IsNoGroup d origin_realm
