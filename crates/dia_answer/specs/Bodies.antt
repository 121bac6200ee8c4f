-- The AVPs of an answer, in their order (RFC 6733 sections 3.2, 6.2, 7.1, 7.3 and 7.5).
use Rattle.std.specs.Prelude.{◌≡◌, ℕ, ◌<◌, ◌≤◌, ◌⊎◌, ◌&&◌, Bool, true, not, if◌then◌else◌, List, [], ◌∷◌, ◌++◌, length, map, filter, find, flat_map}
use Rattle.std.specs.Prelude.{Option, Some, None, MatchOption}
use Rattle.std.specs.Bool.{MatchBool}
use Rattle.std.specs.List.{list_all}
use Rattle.dia_wire.specs.declared.Key.{Key}
use Rattle.dia_wire.specs.Wire.{PlainAvp, key_of}
use Rattle.dia_book.specs.declared.DRule.{DRule}
use Rattle.dia_book.specs.Keys.{same_key}
use Rattle.dia_book.specs.Dictionary.{Dictionary, lists_key}
use Rattle.dia_terms.specs.declared.Unknown.{Unknown}
use Rattle.dia_terms.specs.declared.Levels.{Levels}
use Rattle.dia_valid.specs.Valid.{is_listed}
use Rattle.dia_answer.specs.declared.forms.Form.{Form}
use Rattle.dia_answer.specs.declared.forms.Form.TheVariants as form
use Rattle.dia_answer.specs.Dictionaries.{base_key, failed_avp}
use Rattle.dia_answer.specs.Stocks.{error_message, is_own, own, copied, IsFitOf, TakesData, may_hold, is_text, is_nest, has_format}

-- ---- keys (RFC 6733 section 4.5)

abbrev pub session_id : Key
session_id = base_key 263

abbrev pub origin_host : Key
origin_host = base_key 264

abbrev pub result_code : Key
result_code = base_key 268

abbrev pub proxy_info : Key
proxy_info = base_key 284

abbrev pub origin_realm : Key
origin_realm = base_key 296

-- ---- some AVPs of a list

-- those of a key
abbrev pub of_key : Key → List PlainAvp → List PlainAvp
of_key key avps = filter (λ v. same_key key (key_of v)) avps

-- each has the key
abbrev pub AllOf : Key → List PlainAvp → Type 0
AllOf key avps = list_all (λ v. same_key key (key_of v)) avps ≡ true

-- these are those with P, in order
abbrev pub AreThose : (PlainAvp → Type 0) → List PlainAvp → List PlainAvp → Type 0
AreThose P [] these = these ≡ []
AreThose P (v ∷ avps) these = ((others : List PlainAvp) × P v × (these ≡ v ∷ others) × AreThose P avps others) ⊎ ((¬ P v) × AreThose P avps these)

-- these are the first n of them, or all where there are fewer
pub record AreFirst (P : PlainAvp → Type 0) (n : ℕ) (avps these : List PlainAvp) : Type 0 where
  pub front : List PlainAvp
  pub rest : List PlainAvp
  pub parts : avps ≡ front ++ rest
  pub those : AreThose P front these
  pub most : length these ≤ n
  pub all : length these < n → rest ≡ []

-- ---- what an answer is made of

pub record Parts : Type 0 where
  pub unknown : Unknown
  pub levels : Levels
  -- the AVPs of the request
  pub request : List PlainAvp
  -- the data of Result-Code, Origin-Host, Origin-Realm, Error-Message and Failed-AVP
  pub code : List ℕ
  pub host : List ℕ
  pub realm : List ℕ
  pub line : Option (List ℕ)
  pub failed : Option (List ℕ)

-- the data of the request's first Session-Id, if the dictionary takes them (section 6.2)
abbrev pub IsSession : Dictionary → List PlainAvp → List PlainAvp → Type 0
IsSession d request these = MatchOption (find (λ v. same_key (key_of v) session_id) request) (these ≡ [])
    (λ v. (TakesData d session_id v.bytes × (these ≡ own d 263 v.bytes ∷ [])) ⊎ ((¬ TakesData d session_id v.bytes) × (these ≡ [])))

-- Error-Message (section 7.3), where the dictionary has it as a text and the definition may hold it
abbrev pub error_messages : Dictionary → List DRule → Option (List ℕ) → List PlainAvp
error_messages d rules None = []
error_messages d rules (Some line) = if has_format is_text d error_message && may_hold rules error_message then record { code = 281; flags = 0; vendor = None; bytes = line } ∷ [] else []

-- the command's own answer has Failed-AVP, or isn't taken
abbrev pub may_fail : Form → List DRule → Bool
may_fail form.Own rules = true
may_fail f rules = may_hold rules failed_avp

-- Failed-AVP (section 7.5), where the dictionary has it as a group or as octets and the definition may hold it
abbrev pub failed_avps : Dictionary → Form → List DRule → Option (List ℕ) → List PlainAvp
failed_avps d f rules None = []
failed_avps d f rules (Some bytes) = if has_format is_nest d failed_avp && may_fail f rules then own d 279 bytes ∷ [] else []

-- the first AVPs of the request that fit, as many as a rule requires; none of a key that is never copied, and none for the wildcard
abbrev pub AreRequired : Dictionary → Unknown → Levels → List PlainAvp → DRule → List PlainAvp → Type 0
AreRequired d u most request rule these = MatchOption rule.key (these ≡ []) (λ key. MatchBool (is_own key) (these ≡ []) (AreFirst (IsFitOf d u most key) rule.min request these))

-- those of each rule
abbrev pub AreRequiredAll : Dictionary → Unknown → Levels → List PlainAvp → List DRule → List PlainAvp → Type 0
AreRequiredAll d u most request [] these = these ≡ []
AreRequiredAll d u most request (rule ∷ rules) these =
    (first : List PlainAvp) × (others : List PlainAvp) × (these ≡ first ++ others) × AreRequired d u most request rule first × AreRequiredAll d u most request rules others

-- what the command's own answer requires beside its own AVPs
abbrev pub AreCopies : Dictionary → Unknown → Levels → List PlainAvp → Form → List DRule → List PlainAvp → Type 0
AreCopies d u most request form.Own rules these = AreRequiredAll d u most request rules these
AreCopies d u most request f rules these = these ≡ []

-- the AVPs of an answer by the rules of a definition, in the order of their sources
pub record IsStock (d : Dictionary) (f : Form) (rules : List DRule) (p : Parts) (avps : List PlainAvp) : Type 0 where
  pub session : List PlainAvp
  pub copies : List PlainAvp
  pub proxies : List PlainAvp
  pub parts : avps ≡ session ++ (own d 268 p.code ∷ own d 264 p.host ∷ own d 296 p.realm ∷ []) ++ error_messages d rules p.line ++ failed_avps d f rules p.failed ++ map copied copies ++ map copied proxies
  pub is_session : IsSession d p.request session
  pub are_copies : AreCopies d p.unknown p.levels p.request f rules copies
  -- each Proxy-Info that fits (section 6.2)
  pub are_proxies : AreThose (IsFitOf d p.unknown p.levels proxy_info) p.request proxies

-- for each rule the AVPs of its key, and then those that no rule lists
abbrev pub in_order : List DRule → List PlainAvp → List PlainAvp
in_order rules avps = flat_map (λ rule. filter (λ v. lists_key (key_of v) rule) avps) rules ++ filter (λ v. not (is_listed rules (key_of v))) avps
