-- The words, the sets and the sections of the rules of `lint`.
use Rattle.std.specs.Prelude.{ℕ, Bool, true, false, List, [], ◌∷◌, Option, Some, None, find, codes}
use Rattle.dia_terms.specs.Names.{same_bytes}
use Rattle.dia_lint.specs.declared.rule.Rule.{Rule}
use Rattle.dia_lint.specs.declared.rule.Rule.TheVariants as rule
use Rattle.dia_lint.specs.declared.rule.RuleSet.{RuleSet}
use Rattle.dia_lint.specs.declared.rule.RuleSet.TheVariants.{Exact, Guidelines, More}

abbrev pub rule_word : Rule → List ℕ
rule_word rule.NoMessage = codes "no-message"
rule_word rule.NoLevel = codes "no-level"
rule_word rule.NeverStands = codes "never-stands"
rule_word rule.NeverHeld = codes "never-held"
rule_word rule.SameCommand = codes "same-command"
rule_word rule.TwiceListed = codes "twice-listed"
rule_word rule.SaysNothing = codes "says-nothing"
rule_word rule.NeverListed = codes "never-listed"
rule_word rule.NoAnswer = codes "no-answer"
rule_word rule.NoRequest = codes "no-request"
rule_word rule.PDiffers = codes "p-differs"
rule_word rule.NoError = codes "no-error"
rule_word rule.NoOrigin = codes "no-origin"
rule_word rule.NoRealm = codes "no-realm"
rule_word rule.RealmUnrouted = codes "realm-unrouted"
rule_word rule.RealmAnswered = codes "realm-answered"
rule_word rule.NoRouteRecord = codes "no-route-record"
rule_word rule.NoProxyInfo = codes "no-proxy-info"
rule_word rule.NoResult = codes "no-result"
rule_word rule.NoFailedAvp = codes "no-failed-avp"
rule_word rule.SessionPlace = codes "session-place"
rule_word rule.SessionLost = codes "session-lost"
rule_word rule.NoSession = codes "no-session"
rule_word rule.Closed = codes "closed"
rule_word rule.BaseAvp = codes "base-avp"
rule_word rule.Reserved = codes "reserved"
rule_word rule.ClosedGroup = codes "closed-group"

-- the place of a rule among all, in which findings of one place are reported
abbrev pub rule_number : Rule → ℕ
rule_number rule.NoMessage = 0
rule_number rule.NoLevel = 1
rule_number rule.NeverStands = 2
rule_number rule.NeverHeld = 3
rule_number rule.SameCommand = 4
rule_number rule.TwiceListed = 5
rule_number rule.SaysNothing = 6
rule_number rule.NeverListed = 7
rule_number rule.NoAnswer = 8
rule_number rule.NoRequest = 9
rule_number rule.PDiffers = 10
rule_number rule.NoError = 11
rule_number rule.NoOrigin = 12
rule_number rule.NoRealm = 13
rule_number rule.RealmUnrouted = 14
rule_number rule.RealmAnswered = 15
rule_number rule.NoRouteRecord = 16
rule_number rule.NoProxyInfo = 17
rule_number rule.NoResult = 18
rule_number rule.NoFailedAvp = 19
rule_number rule.SessionPlace = 20
rule_number rule.SessionLost = 21
rule_number rule.NoSession = 22
rule_number rule.Closed = 23
rule_number rule.BaseAvp = 24
rule_number rule.Reserved = 25
rule_number rule.ClosedGroup = 26

-- all rules, in this order
abbrev pub rules : List Rule
rules =
    rule.NoMessage ∷ rule.NoLevel ∷ rule.NeverStands ∷ rule.NeverHeld ∷ rule.SameCommand ∷ rule.TwiceListed ∷
    rule.SaysNothing ∷ rule.NeverListed ∷ rule.NoAnswer ∷ rule.NoRequest ∷ rule.PDiffers ∷ rule.NoError ∷
    rule.NoOrigin ∷ rule.NoRealm ∷ rule.RealmUnrouted ∷ rule.RealmAnswered ∷ rule.NoRouteRecord ∷ rule.NoProxyInfo ∷
    rule.NoResult ∷ rule.NoFailedAvp ∷ rule.SessionPlace ∷ rule.SessionLost ∷ rule.NoSession ∷ rule.Closed ∷
    rule.BaseAvp ∷ rule.Reserved ∷ rule.ClosedGroup ∷ []

-- ---- sets

abbrev pub set_word : RuleSet → List ℕ
set_word Exact = codes "exact"
set_word Guidelines = codes "guidelines"
set_word More = codes "more"

-- the set of a rule: what follows from the meaning of a dictionary, what an RFC recommends, or what is reported only where it is asked for
abbrev pub set_of : Rule → RuleSet
set_of rule.NoMessage = Exact
set_of rule.NoLevel = Exact
set_of rule.NeverStands = Exact
set_of rule.NeverHeld = Exact
set_of rule.SameCommand = Exact
set_of rule.TwiceListed = Exact
set_of rule.SaysNothing = More
set_of rule.NeverListed = More
set_of rule.NoAnswer = Guidelines
set_of rule.NoRequest = Guidelines
set_of rule.PDiffers = Guidelines
set_of rule.NoError = Guidelines
set_of rule.NoOrigin = Guidelines
set_of rule.NoRealm = Guidelines
set_of rule.RealmUnrouted = Guidelines
set_of rule.RealmAnswered = Guidelines
set_of rule.NoRouteRecord = Guidelines
set_of rule.NoProxyInfo = Guidelines
set_of rule.NoResult = Guidelines
set_of rule.NoFailedAvp = Guidelines
set_of rule.SessionPlace = Guidelines
set_of rule.SessionLost = Guidelines
set_of rule.NoSession = Guidelines
set_of rule.Closed = Guidelines
set_of rule.BaseAvp = Guidelines
set_of rule.Reserved = Guidelines
set_of rule.ClosedGroup = More

-- ---- words that name a rule or a set

abbrev pub names_rule : List ℕ → Rule → Bool
names_rule word r = same_bytes word (rule_word r)

abbrev pub rule_named : List ℕ → Option Rule
rule_named word = find (names_rule word) rules

abbrev pub set_named : List ℕ → Option RuleSet
set_named word = find (λ set. same_bytes word (set_word set)) (Exact ∷ Guidelines ∷ More ∷ [])

-- ---- the sections of guidelines

abbrev pub section_of : Rule → Option (List ℕ)
section_of rule.NoMessage = None
section_of rule.NoLevel = None
section_of rule.NeverStands = None
section_of rule.NeverHeld = None
section_of rule.SameCommand = None
section_of rule.TwiceListed = None
section_of rule.SaysNothing = None
section_of rule.NeverListed = None
section_of rule.NoAnswer = Some (codes "RFC 6733 3.1")
section_of rule.NoRequest = Some (codes "RFC 6733 3.1")
section_of rule.PDiffers = Some (codes "RFC 6733 6.2, 7.2")
section_of rule.NoError = Some (codes "RFC 6733 7.2")
section_of rule.NoOrigin = Some (codes "RFC 6733 6.3, 6.4")
section_of rule.NoRealm = Some (codes "RFC 6733 6.6")
section_of rule.RealmUnrouted = Some (codes "RFC 6733 6.1")
section_of rule.RealmAnswered = Some (codes "RFC 6733 6.2")
section_of rule.NoRouteRecord = Some (codes "RFC 6733 6.1.9")
section_of rule.NoProxyInfo = Some (codes "RFC 6733 6.1.9, 6.2")
section_of rule.NoResult = Some (codes "RFC 6733 7.1, 7.6")
section_of rule.NoFailedAvp = Some (codes "RFC 6733 7.5")
section_of rule.SessionPlace = Some (codes "RFC 6733 8.8")
section_of rule.SessionLost = Some (codes "RFC 6733 6.2")
section_of rule.NoSession = Some (codes "RFC 7423 5.5")
section_of rule.Closed = Some (codes "RFC 7423 5.2")
section_of rule.BaseAvp = Some (codes "RFC 6733 4.5")
section_of rule.Reserved = Some (codes "RFC 6733 3, 2.4")
section_of rule.ClosedGroup = Some (codes "RFC 7423 5.2")
