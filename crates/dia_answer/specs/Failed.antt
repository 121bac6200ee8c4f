-- The data of Failed-AVP (RFC 6733 sections 7.1.5 and 7.5): the known groups around the fault, each with its head and one member, and in the innermost the AVP that shows the fault.
use Rattle.std.specs.Prelude.{◌≡◌, ℕ, ◌+◌, ◌-◌, ◌==◌, ◌&&◌, nat_lt, nat_le, bit_and, bit_or, Bool, false, not, if◌then◌else◌, List, [], ◌∷◌, ◌++◌, length, take, drop, find, count_by, replicate, slice_index}
use Rattle.std.specs.Prelude.{Option, Some, None, MatchOption, unwrap_or, option_and_then, slice_get}
use Rattle.std.specs.Option.{option_map, option_map_or, option_or}
use Rattle.byteorder.specs.Endian.{big_bytes}
use Rattle.dia_wire.specs.declared.Header.{Header}
use Rattle.dia_wire.specs.declared.Key.{Key}
use Rattle.dia_wire.specs.Lengths.{header_length}
use Rattle.dia_wire.specs.Number.{number}
use Rattle.dia_wire.specs.Wire.{PlainAvp, key_of, head_length, avp_length, padded_length, BeginsWith, BeginsWithNone}
use Rattle.dia_wire.specs.Written.{avp_bytes, vendor_bytes}
use Rattle.dia_breaking_data.specs.TheData.{the_data}
use Rattle.dia_book.specs.declared.Class.TheVariants.{Request}
use Rattle.dia_book.specs.declared.DRule.{DRule}
use Rattle.dia_book.specs.Keys.{same_key}
use Rattle.dia_book.specs.Dictionary.{Dictionary, definitions, lists_key, selected}
use Rattle.dia_valid.specs.Valid.{group_at, is_listed, is_wildcard, known}
use Rattle.dia_check.specs.declared.Fault.{Fault}
use Rattle.dia_check.specs.declared.Reason.{Reason}
use Rattle.dia_check.specs.declared.Reason.TheVariants as reason
use Rattle.dia_check.specs.declared.Subject.{Subject}
use Rattle.dia_check.specs.declared.Subject.TheVariants.{Nothing, Avp, Wildcard}
use Rattle.dia_answer.specs.Requests.{AreFront, IsOfHeader}
use Rattle.dia_answer.specs.Stocks.{m_flag}

-- ---- the groups around a place

-- a level of AVPs: its rules, its bytes, its AVPs up to bytes with which none begins, and a place in bytes from its first
pub record PlainLevel : Type 0 where
  pub rules : List DRule
  pub bytes : List ℕ
  pub avps : List PlainAvp
  pub place : ℕ

-- a known group with its rules, and a place in its data
pub record PlainInside : Type 0 where
  pub group : PlainAvp
  pub rules : List DRule
  pub place : ℕ

-- the AVP, if it is a known group that begins before the place and doesn't end before it
abbrev pub entered : Dictionary → ℕ → PlainAvp → Option PlainInside
entered d n v = if nat_lt 0 n && nat_le n (avp_length v) then option_map (λ g. record { group = v; rules = g.rules; place = n - head_length v.vendor }) (group_at d v) else None

-- the one of these AVPs that is such a group
abbrev pub entered_in : Dictionary → ℕ → List PlainAvp → Option PlainInside
entered_in d n [] = None
entered_in d n (v ∷ avps) = option_or (entered d n v) (entered_in d (n - padded_length v) avps)

-- a group, and its data as a level
pub record PlainStep : Type 0 where
  pub group : PlainAvp
  pub level : PlainLevel

abbrev pub IsStep : Dictionary → PlainLevel → PlainStep → Type 0
IsStep d l s =
    (entered_in d l.place l.avps ≡ Some (record { group = s.group; rules = s.level.rules; place = s.level.place })) × (s.level.bytes ≡ s.group.bytes) × AreFront s.level.avps s.level.bytes

-- all groups around the place, the outermost first
abbrev pub IsWay : Dictionary → PlainLevel → List PlainStep → Type 0
IsWay d l [] = entered_in d l.place l.avps ≡ None
IsWay d l (s ∷ way) = IsStep d l s × IsWay d s.level way

-- ---- the level of a fault

-- the AVPs that begin before the place
abbrev pub begun : ℕ → List PlainAvp → List PlainAvp
begun n [] = []
begun n (v ∷ avps) = if nat_lt 0 n then v ∷ begun (n - padded_length v) avps else []

-- an AVP counts for the rule that the subject is of
abbrev pub counts : List DRule → Subject → Key → Bool
counts rules Nothing key = false
counts rules (Avp wanted) key = same_key key wanted
counts rules Wildcard key = not (is_listed rules key)

abbrev pub is_rule_of : Subject → DRule → Bool
is_rule_of Nothing rule = false
is_rule_of (Avp key) rule = lists_key key rule
is_rule_of Wildcard rule = is_wildcard rule

-- the least count of that rule
abbrev pub least_count : List DRule → Subject → ℕ
least_count rules subject = option_map_or (λ rule. rule.min) (find (is_rule_of subject) rules) 0

-- how many AVPs that begin before the place count for it
abbrev pub count_before : PlainLevel → Subject → ℕ
count_before l subject = count_by (λ v. counts l.rules subject (key_of v)) (begun l.place l.avps)

-- the fault can be one of the level: an AVP is missing before the place, or bytes are there
abbrev pub may_have : Reason → Subject → PlainLevel → Bool
may_have reason.Missing subject l = nat_lt (count_before l subject) (least_count l.rules subject)
may_have r subject l = nat_lt l.place (length l.bytes)

-- the groups up to the last whose level passes
abbrev pub kept : Bool → PlainStep → List PlainStep → List PlainStep
kept false s [] = []
kept passes s way = s ∷ way

abbrev pub up_to : (PlainLevel → Bool) → List PlainStep → List PlainStep
up_to p [] = []
up_to p (s ∷ way) = kept (p s.level) s (up_to p way)

abbrev pub innermost : PlainLevel → List PlainStep → PlainLevel
innermost l [] = l
innermost l (s ∷ way) = innermost s.level way

-- the body of the request as a level, and the groups around its fault: those around the place, but for the innermost ones that can't have the fault
pub record IsAround (d : Dictionary) (rules : List DRule) (body : List ℕ) (f : Fault) (outer : PlainLevel) (groups : List PlainStep) : Type 0 where
  pub front : AreFront outer.avps body
  pub is_outer : outer ≡ record { rules = rules; bytes = body; avps = outer.avps; place = f.place - header_length }
  pub way : List PlainStep
  pub is_way : IsWay d outer way
  pub are_groups : groups ≡ up_to (may_have f.reason f.subject) way

-- how many bytes the heads of the groups take
abbrev pub heads_length : List PlainStep → ℕ
heads_length [] = 0
heads_length (s ∷ groups) = head_length s.group.vendor + heads_length groups

-- ---- the AVP that shows the fault

-- least data of a known AVP: zeros where they are data of it; none of a group
abbrev pub least_data : Dictionary → Key → List ℕ
least_data d key = unwrap_or (option_and_then (λ e. the_data e.format) (known d key)) []

abbrev pub vendor_flag : Key → ℕ
vendor_flag key = if key.vendor == 0 then 0 else 128

abbrev pub vendor_of : Key → Option ℕ
vendor_of key = if key.vendor == 0 then None else Some key.vendor

-- an example of a missing AVP
abbrev pub example : Dictionary → Key → PlainAvp
example d key = record { code = key.code; flags = bit_or (m_flag d key) (vendor_flag key); vendor = vendor_of key; bytes = least_data d key }

-- the head of an AVP, with zero bytes for those that aren't there
abbrev pub filled_head : List ℕ → List ℕ
filled_head bytes = take 12 (bytes ++ replicate 12 0)

abbrev pub head_vendor : List ℕ → Option ℕ
head_vendor head = if bit_and (slice_index head 4) 128 == 0 then None else Some (number (take 4 (drop 8 head)))

abbrev pub head_key : List ℕ → Key
head_key head = record { code = number (take 4 head); vendor = unwrap_or (head_vendor head) 0 }

-- an AVP with this head, and with least data where the level has all of its head
abbrev pub of_head : Dictionary → ℕ → List ℕ → PlainAvp
of_head d room head = record {
  code = number (take 4 head);
  flags = slice_index head 4;
  vendor = head_vendor head;
  bytes = if nat_lt room (head_length (head_vendor head)) then [] else least_data d (head_key head);
}

-- the AVP that these bytes begin with a bad length, corrected
abbrev pub corrected : Dictionary → List ℕ → PlainAvp
corrected d bytes = of_head d (length bytes) (filled_head bytes)

-- the AVP with which the bytes begin, if there is one
abbrev pub BeginsBy : List ℕ → Option PlainAvp → Type 0
BeginsBy bytes None = BeginsWithNone bytes
BeginsBy bytes (Some v) = (rest : List ℕ) × BeginsWith v bytes rest

-- the bytes of the level from the place on
abbrev pub here : PlainLevel → List ℕ
here l = drop l.place l.bytes

-- an example of what is missing; the AVP with a corrected length; and else the AVP at the place as it came
abbrev pub IsShown : Dictionary → Reason → Subject → List ℕ → Option PlainAvp → Type 0
IsShown d reason.Missing (Avp key) bytes shown = shown ≡ Some (example d key)
IsShown d reason.Missing subject bytes shown = shown ≡ None
IsShown d reason.AvpLength subject bytes shown = shown ≡ Some (corrected d bytes)
IsShown d r subject bytes shown = BeginsBy bytes shown

-- ---- all

-- the head of an AVP of this length
abbrev pub head_bytes : PlainAvp → ℕ → List ℕ
head_bytes v len = big_bytes 4 v.code ++ (v.flags ∷ big_bytes 3 len) ++ vendor_bytes v.vendor

-- each group with its head, its length made anew, and the next one in it
abbrev pub nested : List PlainStep → List ℕ → List ℕ
nested [] inner = inner
nested (s ∷ groups) inner = head_bytes s.group (head_length s.group.vendor + length (nested groups inner)) ++ nested groups inner

abbrev pub shown_bytes : Option PlainAvp → List ℕ
shown_bytes shown = option_map_or avp_bytes shown []

-- nothing where there is neither a group nor an AVP
abbrev pub wrapped : List PlainStep → Option PlainAvp → Option (List ℕ)
wrapped [] None = None
wrapped groups shown = Some (nested groups (shown_bytes shown))

pub record IsFailedIn (d : Dictionary) (rules : List DRule) (body : List ℕ) (f : Fault) (failed : Option (List ℕ)) : Type 0 where
  pub outer : PlainLevel
  pub groups : List PlainStep
  pub around : IsAround d rules body f outer groups
  pub shown : Option PlainAvp
  pub is_shown : IsShown d f.reason f.subject (here (innermost outer groups)) shown
  pub is_data : failed ≡ wrapped groups shown

-- the rules of the request's command
abbrev pub request_rules : Dictionary → Header → Option (List DRule)
request_rules d h = option_map (λ c. c.rules) (option_and_then (λ c. slice_get (definitions d) c) (selected d h.code Request h.app))

-- the data of Failed-AVP for the fault of a request; it holds AVPs, so a fault of the header has none (section 7.5)
pub record IsFailed (d : Dictionary) (h : Header) (request : List ℕ) (f : Fault) (failed : Option (List ℕ)) : Type 0 where
  pub of_header : IsOfHeader f.reason → failed ≡ None
  pub of_body : ¬ IsOfHeader f.reason → MatchOption (request_rules d h) (failed ≡ None) (λ rules. IsFailedIn d rules (drop header_length request) f failed)
