-- What RFC 6733 and RFC 7423 recommend of a command or a group, by its rules alone: a finding where it isn't so.
use Rattle.std.specs.Prelude.{ℕ, nat_eq, nat_le, nat_lt, Bool, true, false, not, ◌&&◌, ◌||◌, if◌then◌else◌, List, [], ◌++◌, Option, Some, None, is_some, option_and_then, option_to_list, position, slice_get}
use Rattle.std.specs.Option.{option_eq, option_map_or, option_or}
use Rattle.dia_book.specs.declared.Class.TheVariants as classes
use Rattle.dia_book.specs.declared.DefHead.{DefHead}
use Rattle.dia_book.specs.declared.DefHead.TheVariants.{Group, Command, Error}
use Rattle.dia_book.specs.declared.DRule.{DRule}
use Rattle.dia_book.specs.declared.Pxy.TheVariants as pxy
use Rattle.dia_book.specs.Dictionary.{Dictionary, definitions, is_fixed, lists_key}
use Rattle.dia_valid.specs.Rules.{rule_of, rules_in, wildcard_of}
use Rattle.dia_valid.specs.Valid.{is_wildcard}
use Rattle.dia_lint.specs.BaseAvps.{base_key}
use Rattle.dia_lint.specs.declared.base_avps.BaseAvp.{BaseAvp}
use Rattle.dia_lint.specs.declared.base_avps.BaseAvp.TheVariants as base
use Rattle.dia_lint.specs.declared.detail.Detail.{Detail}
use Rattle.dia_lint.specs.declared.detail.Detail.TheVariants as detail
use Rattle.dia_lint.specs.declared.finding.Finding.{Finding}
use Rattle.dia_lint.specs.declared.finding.Named.TheVariants as named
use Rattle.dia_lint.specs.declared.finding.Place.{Place}
use Rattle.dia_lint.specs.declared.finding.Place.TheVariants as place
use Rattle.dia_lint.specs.declared.finding.Subject.TheVariants as subject
use Rattle.dia_lint.specs.declared.guidelines.Head.{Head}
use Rattle.dia_lint.specs.declared.rule.Rule.{Rule}
use Rattle.dia_lint.specs.declared.rule.Rule.TheVariants as rule

-- ---- what rules say of an AVP (RFC 6733 section 3.2)

-- the rule lets AVPs in: its greatest count is above 0
abbrev pub lets_in : DRule → Bool
lets_in r = not (option_eq nat_eq r.max (Some 0))

abbrev pub lists : List DRule → BaseAvp → Bool
lists rules avp = option_map_or lets_in (rule_of rules (base_key avp)) false

abbrev pub is_required : List DRule → BaseAvp → Bool
is_required rules avp = option_map_or (λ r. nat_lt 0 r.min) (rule_of rules (base_key avp)) false

-- the rule that counts the AVP: its own, else the wildcard
abbrev pub counting_rule : List DRule → BaseAvp → Option DRule
counting_rule rules avp = option_or (rule_of rules (base_key avp)) (wildcard_of rules)

abbrev pub takes : List DRule → BaseAvp → Bool
takes rules avp = option_map_or lets_in (counting_rule rules avp) false

abbrev pub takes_any_number : List DRule → BaseAvp → Bool
takes_any_number rules avp = option_map_or (λ r. not (is_some r.max)) (counting_rule rules avp) false

-- its rule is fixed and the first
abbrev pub comes_first : List DRule → BaseAvp → Bool
comes_first rules avp = option_map_or (λ r. is_fixed r && lists_key (base_key avp) r) (slice_get rules 0) false

-- ---- findings

-- the place of the AVP's rule, else that of the head
abbrev pub rule_or_head : ℕ → List DRule → BaseAvp → Place
rule_or_head def rules avp = option_map_or (λ i. place.Rule def i) (position (lists_key (base_key avp)) rules) (place.Head def)

abbrev pub at_head : ℕ → Rule → Detail → Finding
at_head def r what = record { rule = r; place = place.Head def; subject = subject.Definition def; detail = what }

abbrev pub at_rule : ℕ → List DRule → Rule → BaseAvp → Detail → Finding
at_rule def rules r avp what = record { rule = r; place = rule_or_head def rules avp; subject = subject.Definition def; detail = what }

abbrev pub about : ℕ → List DRule → Rule → BaseAvp → Detail → Finding
about def rules r avp what = record { rule = r; place = rule_or_head def rules avp; subject = subject.Within def (named.Base avp); detail = what }

abbrev pub only_if : Bool → Finding → Option Finding
only_if test finding = if test then Some finding else None

-- ---- commands

abbrev pub is_request : Head → Bool
is_request head = elim head.class [ classes.Request ↦ true | classes.Answer ↦ false | classes.Error ↦ false ]

-- the P flag may be set
abbrev pub is_proxiable : Head → Bool
is_proxiable head = elim head.p [ pxy.Clear ↦ false | pxy.Set ↦ true | pxy.Either ↦ true ]

-- the head of a command, and none of a group
abbrev pub command_head : DefHead → Option Head
command_head (Group key) = None
command_head (Command code class app p) = Some (record { class = class; code = Some code; app = app; p = p })
command_head (Error p) = Some (record { class = classes.Error; code = None; app = None; p = p })

-- ---- routing

-- each message has Origin-Host and Origin-Realm (RFC 6733 sections 6.3 and 6.4)
abbrev pub no_origin : ℕ → List DRule → BaseAvp → Option Finding
no_origin def rules avp = only_if (not (is_required rules avp)) (about def rules rule.NoOrigin avp detail.NotRequired)

-- a request that may be proxied has Destination-Realm (RFC 6733 section 6.6)
abbrev pub no_realm : ℕ → Head → List DRule → Option Finding
no_realm def head rules =
    only_if (is_request head && (is_proxiable head && not (is_required rules base.DestinationRealm)))
    (at_rule def rules rule.NoRealm base.DestinationRealm (detail.BaseNotRequired base.DestinationRealm))

-- one that isn't proxied has neither Destination-Realm nor Destination-Host (RFC 6733 section 6.1)
abbrev pub realm_unrouted : ℕ → Head → List DRule → BaseAvp → Option Finding
realm_unrouted def head rules avp = only_if (is_request head && (not (is_proxiable head) && lists rules avp)) (about def rules rule.RealmUnrouted avp detail.NotProxiable)

-- nor has an answer (RFC 6733 section 6.2)
abbrev pub realm_answered : ℕ → Head → List DRule → BaseAvp → Option Finding
realm_answered def head rules avp = only_if (not (is_request head) && lists rules avp) (about def rules rule.RealmAnswered avp detail.AnswerHasNone)

-- each relay adds a Route-Record to a request (RFC 6733 section 6.1.9)
abbrev pub no_route_record : ℕ → Head → List DRule → Option Finding
no_route_record def head rules =
    only_if (is_request head && (is_proxiable head && not (takes_any_number rules base.RouteRecord)))
    (at_rule def rules rule.NoRouteRecord base.RouteRecord detail.NotAnyNumber)

-- each proxy may add a Proxy-Info, which the answer repeats (RFC 6733 sections 6.1.9 and 6.2)
abbrev pub no_proxy_info : ℕ → Head → List DRule → Option Finding
no_proxy_info def head rules =
    only_if (is_proxiable head && not (takes_any_number rules base.ProxyInfo)) (at_rule def rules rule.NoProxyInfo base.ProxyInfo detail.NotAnyNumber)

-- ---- results

-- the first Application-ID of vendors (RFC 3588 section 11.3)
abbrev pub first_of_vendors : ℕ
first_of_vendors = 16777216

abbrev pub is_of_vendor : Head → Bool
is_of_vendor head = option_map_or (λ app. nat_le first_of_vendors app) head.app false

-- an answer has Result-Code; in a vendor's application it may have Experimental-Result (RFC 6733 sections 7.1 and 7.6)
abbrev pub no_result : ℕ → Head → List DRule → Option Finding
no_result def head rules =
    if is_request head then None
    else if is_of_vendor head then only_if (not (lists rules base.ResultCode) && not (lists rules base.ExperimentalResult)) (at_head def rule.NoResult detail.NoResult)
    else only_if (not (is_required rules base.ResultCode)) (at_rule def rules rule.NoResult base.ResultCode (detail.BaseNotRequired base.ResultCode))

-- an answer may have Failed-AVP (RFC 6733 section 7.5)
abbrev pub no_failed_avp : ℕ → Head → List DRule → Option Finding
no_failed_avp def head rules = only_if (not (is_request head) && not (takes rules base.FailedAvp)) (at_rule def rules rule.NoFailedAvp base.FailedAvp detail.NoFailedAvp)

-- ---- sessions

-- Session-Id follows the header immediately (RFC 6733 section 8.8)
abbrev pub session_place : ℕ → List DRule → Option Finding
session_place def rules = only_if (lists rules base.SessionId && not (comes_first rules base.SessionId)) (at_rule def rules rule.SessionPlace base.SessionId detail.NotFirst)

abbrev pub is_of_application : Head → Bool
is_of_application head = option_map_or (λ app. nat_lt 0 app) head.app false

-- a command of an application has Session-Id or Auth-Session-State (RFC 7423 section 5.5)
abbrev pub no_session : ℕ → Head → List DRule → Option Finding
no_session def head rules =
    only_if (is_of_application head && (not (lists rules base.SessionId) && not (is_required rules base.AuthSessionState))) (at_head def rule.NoSession detail.NoSession)

-- ---- numbers

-- the Command Codes for experiments (RFC 6733 section 3)
abbrev pub first_experimental : ℕ
first_experimental = 16777214

abbrev pub last_experimental : ℕ
last_experimental = 16777215

abbrev pub reserved_code : ℕ → Head → Option Finding
reserved_code def head =
    option_and_then (λ code. only_if (nat_eq code first_experimental || nat_eq code last_experimental) (at_head def rule.Reserved (detail.ForExperiments code))) head.code

-- the Application-ID of relays (RFC 6733 section 2.4)
abbrev pub app_of_relays : ℕ
app_of_relays = 4294967295

abbrev pub reserved_app : ℕ → Head → Option Finding
reserved_app def head = only_if (option_eq nat_eq head.app (Some app_of_relays)) (at_head def rule.Reserved detail.OfRelays)

-- ---- extensions (RFC 7423 section 5.2)

abbrev pub wildcard_or_head : ℕ → List DRule → Place
wildcard_or_head def rules = option_map_or (λ i. place.Rule def i) (position is_wildcard rules) (place.Head def)

abbrev pub others : ℕ → ℕ → Detail
others min max = if nat_eq max 0 then detail.NoOthers else detail.Others min max

-- a wildcard that has a greatest count
abbrev pub counted : ℕ → List DRule → DRule → Option Finding
counted def rules wild =
    option_and_then (λ max. Some (record { rule = rule.Closed; place = wildcard_or_head def rules; subject = subject.Definition def; detail = others wild.min max })) wild.max

-- a command lets in any number of AVPs that it doesn't list
abbrev pub closed_command : ℕ → List DRule → Option Finding
closed_command def rules = option_map_or (counted def rules) (wildcard_of rules) (Some (at_head def rule.Closed detail.NoOthers))

-- a group whose wildcard requires none does
abbrev pub open_to_some : ℕ → List DRule → Option Finding
open_to_some def rules = option_and_then (λ wild. if nat_eq wild.min 0 then counted def rules wild else None) (wildcard_of rules)

-- a group has a wildcard
abbrev pub closed_group : ℕ → List DRule → Option Finding
closed_group def rules = only_if (not (is_some (wildcard_of rules))) (at_head def rule.ClosedGroup detail.NoOthers)

-- ---- all findings of a command, and of a group

abbrev pub origin_lines : ℕ → Head → List DRule → List Finding
origin_lines def head rules =
    [] ++ option_to_list (no_origin def rules base.OriginHost) ++ option_to_list (no_origin def rules base.OriginRealm) ++ option_to_list (no_realm def head rules)

abbrev pub realm_lines : ℕ → Head → List DRule → List Finding
realm_lines def head rules =
    [] ++ option_to_list (realm_unrouted def head rules base.DestinationRealm) ++ option_to_list (realm_unrouted def head rules base.DestinationHost)
    ++ option_to_list (realm_answered def head rules base.DestinationRealm) ++ option_to_list (realm_answered def head rules base.DestinationHost)

abbrev pub hop_lines : ℕ → Head → List DRule → List Finding
hop_lines def head rules = [] ++ option_to_list (no_route_record def head rules) ++ option_to_list (no_proxy_info def head rules)

abbrev pub answer_lines : ℕ → Head → List DRule → List Finding
answer_lines def head rules = [] ++ option_to_list (no_result def head rules) ++ option_to_list (no_failed_avp def head rules)

abbrev pub session_lines : ℕ → Head → List DRule → List Finding
session_lines def head rules = [] ++ option_to_list (session_place def rules) ++ option_to_list (no_session def head rules)

abbrev pub number_lines : ℕ → Head → List DRule → List Finding
number_lines def head rules = [] ++ option_to_list (closed_command def rules) ++ option_to_list (reserved_code def head) ++ option_to_list (reserved_app def head)

-- those of a command by its own rules
abbrev pub own_lines : ℕ → Head → List DRule → List Finding
own_lines def head rules =
    origin_lines def head rules ++ realm_lines def head rules ++ hop_lines def head rules ++ answer_lines def head rules ++ session_lines def head rules ++ number_lines def head rules

-- those of the definition with a number, if it is a command
abbrev pub command_lines : Dictionary → ℕ → List Finding
command_lines d def = option_map_or (λ x. option_map_or (λ head. own_lines def head x.rules) (command_head x.head) []) (slice_get (definitions d) def) []

-- those of a group
abbrev pub group_lines : Dictionary → ℕ → List Finding
group_lines d def = [] ++ option_to_list (open_to_some def (rules_in d def)) ++ option_to_list (closed_group def (rules_in d def))
