-- What the levels of messages have, and the findings about what none of them has (RFC 6733 sections 3.2 and 4.4).
use Rattle.std.specs.Prelude.{◌⊎◌, ◌≡◌, ℕ, zero, suc, ◌<◌, Bool, true, false, List, length, map, Option, Some, None, option_and_then, slice_get, unwrap_or, Contains}
use Rattle.dia_wire.specs.declared.Key.{Key}
use Rattle.dia_wire.specs.Wire.{PlainAvp, SpellsAll, key_of}
use Rattle.dia_book.specs.declared.DRule.{DRule}
use Rattle.dia_book.specs.Dictionary.{Dictionary, DictEntry, entry_of, group_place}
use Rattle.dia_terms.specs.declared.Levels.TheVariants as levels
use Rattle.dia_terms.specs.declared.Sends.{Sends}
use Rattle.dia_terms.specs.declared.Sends.TheVariants.{Listed}
use Rattle.dia_terms.specs.declared.Unknown.{Unknown}
use Rattle.dia_valid.specs.Rules.{rules_in}
use Rattle.dia_valid.specs.Valid.{IsValidOf, is_listed}
use Rattle.dia_breaking_sites.specs.Sent.{AreBytes, IsSent}
use Rattle.dia_lint.specs.declared.finding.Finding.{Finding}
use Rattle.dia_lint.specs.declared.finding.Named.TheVariants as named
use Rattle.dia_lint.specs.declared.finding.Subject.{Subject}
use Rattle.dia_lint.specs.declared.finding.Subject.TheVariants.{Avp, Within}
use Rattle.dia_lint.specs.declared.rule.Rule.{Rule}
use Rattle.dia_lint.specs.declared.rule.Rule.TheVariants.{NeverHeld, NeverListed, NeverStands}
use Rattle.dia_lint.specs.Exact.{AreNumbered, is_no_level, reported}
use Rattle.dia_lint.specs.Guidelines.{lets_in}

-- ---- levels of messages

-- the number of the definition of a key's group
abbrev pub group_number : Dictionary → Key → Option ℕ
group_number d key = option_and_then (group_place d) (entry_of d key)

-- so many groups below a level, which the definition n reads, is another, which the definition m reads: the data of an AVP are the
-- level of its group
abbrev pub IsBelow : Dictionary → ℕ → ℕ → List PlainAvp → ℕ → List PlainAvp → Type 0
IsBelow d zero n level m inner = (n ≡ m) × (level ≡ inner)
IsBelow d (suc depth) n level m inner = (v : PlainAvp) × (group : ℕ) × (avps : List PlainAvp) × Contains level v × (group_number d (key_of v) ≡ Some group) × SpellsAll avps v.bytes
    × IsBelow d depth group avps m inner

-- a message of the command c with these AVPs has this level of the definition n
abbrev pub HasLevel : Dictionary → ℕ → List PlainAvp → ℕ → List PlainAvp → Type 0
HasLevel d c avps n level = (depth : ℕ) × IsBelow d depth c avps n level

-- a valid message has it
abbrev pub IsValidLevel : Dictionary → Unknown → ℕ → List PlainAvp → Type 0
IsValidLevel d u n level = (bytes : List ℕ) × (c : ℕ) × (valid : IsValidOf d u levels.Any bytes c) × AreBytes bytes × HasLevel d c valid.avps n level

-- a message has it that a side sends
abbrev pub IsSentLevel : Dictionary → Sends → ℕ → List PlainAvp → Type 0
IsSentLevel d who n level = (bytes : List ℕ) × (c : ℕ) × (sent : IsSent d who bytes c) × HasLevel d c sent.avps n level

-- one in which each AVP comes by a rule of its own
abbrev pub IsListedLevel : Dictionary → ℕ → List PlainAvp → Type 0
IsListedLevel d n level = IsSentLevel d Listed n level

abbrev pub HasKey : List PlainAvp → Key → Type 0
HasKey level key = Contains (map key_of level) key

-- ---- what messages have

-- some valid message has an AVP of the key
abbrev pub IsHeld : Dictionary → Unknown → Key → Type 0
IsHeld d u key = (n : ℕ) × (level : List PlainAvp) × IsValidLevel d u n level × HasKey level key

-- some message has one that a side sends
abbrev pub IsHeldBySide : Dictionary → Sends → Key → Type 0
IsHeldBySide d who key = (n : ℕ) × (level : List PlainAvp) × IsSentLevel d who n level × HasKey level key

-- some message has one in which each AVP comes by a rule of its own
abbrev pub IsHeldByRules : Dictionary → Key → Type 0
IsHeldByRules d key = IsHeldBySide d Listed key

-- an AVP is said to be held, by its place
abbrev pub held_at : List Bool → ℕ → Bool
held_at held e = unwrap_or (slice_get held e) false

-- of each AVP of the dictionary whether some message has it that a side sends; where the codes of commands can be in a header
pub record AreHeld (d : Dictionary) (who : Sends) (held : List Bool) : Type 0 where
  pub some : AreNumbered d → (e : ℕ) (entry : DictEntry) → slice_get d.entries e ≡ Some entry → held_at held e ≡ true → IsHeldBySide d who entry.key
  pub none : (e : ℕ) (entry : DictEntry) → slice_get d.entries e ≡ Some entry → held_at held e ≡ false → ¬ IsHeldBySide d who entry.key

-- some valid message has a level of the definition with an AVP of the key, or with one that no rule lists
abbrev pub IsInLevel : Dictionary → Unknown → ℕ → Key → Type 0
IsInLevel d u n key = (level : List PlainAvp) × IsValidLevel d u n level × HasKey level key

abbrev pub IsOtherInLevel : Dictionary → Unknown → ℕ → Type 0
IsOtherInLevel d u n = (key : Key) × (is_listed (rules_in d n) key ≡ false) × IsInLevel d u n key

-- ---- findings

-- there is a finding of the rule about the subject
abbrev pub IsReported : List Finding → Rule → Subject → Type 0
IsReported found rule subject = (x : Finding) × Contains found x × (x.rule ≡ rule) × (x.subject ≡ subject)

-- `never-held` is reported only of AVPs that no valid message has
abbrev pub NeverHeldIsTrue : Dictionary → Unknown → List Finding → Type 0
NeverHeldIsTrue d u found = (e : ℕ) (entry : DictEntry) → slice_get d.entries e ≡ Some entry → IsReported found NeverHeld (Avp e) → ¬ IsHeld d u entry.key

-- `never-listed` only of those that come through wildcards alone
abbrev pub NeverListedIsTrue : Dictionary → List Finding → Type 0
NeverListedIsTrue d found = (e : ℕ) (entry : DictEntry) → slice_get d.entries e ≡ Some entry → IsReported found NeverListed (Avp e) → ¬ IsHeldByRules d entry.key

-- `never-stands` only of rules of which no level of a valid message has an AVP, and of wildcards through which none comes
abbrev pub NeverStandsIsTrue : Dictionary → Unknown → List Finding → Type 0
NeverStandsIsTrue d u found = (n : ℕ) (key : Key) → IsReported found NeverStands (Within n (named.Key key)) → ¬ IsInLevel d u n key

abbrev pub NoOthersIsTrue : Dictionary → Unknown → List Finding → Type 0
NoOthersIsTrue d u found = (n : ℕ) → IsReported found NeverStands (Within n named.Others) → ¬ IsOtherInLevel d u n

-- ---- and of nothing else where commands can be in a header

-- some valid message has a level of the definition
abbrev pub HasValidLevel : Dictionary → Unknown → ℕ → Type 0
HasValidLevel d u n = (level : List PlainAvp) × IsValidLevel d u n level

-- `no-level` is reported of the entry's group
abbrev pub HasNoLevel : Dictionary → List Finding → ℕ → Type 0
HasNoLevel d found e = (n : ℕ) × (group_place d e ≡ Some n) × Contains (reported is_no_level found) n

-- if there is a command, some valid message has each other AVP, unless `no-level` is reported of it
abbrev pub OthersAreHeld : Dictionary → Unknown → List Finding → Type 0
OthersAreHeld d u found = AreNumbered d → 0 < length d.commands → (e : ℕ) (entry : DictEntry) → slice_get d.entries e ≡ Some entry → ¬ HasNoLevel d found e
    → IsReported found NeverHeld (Avp e) ⊎ IsHeld d u entry.key

-- each other AVP that a valid message has comes in some message by rules alone
abbrev pub OthersAreListed : Dictionary → Unknown → List Finding → Type 0
OthersAreListed d u found = AreNumbered d → (e : ℕ) (entry : DictEntry) → slice_get d.entries e ≡ Some entry → IsHeld d u entry.key
    → IsReported found NeverListed (Avp e) ⊎ IsHeldByRules d entry.key

-- where a valid message has a level of the definition, one has such a level with an AVP of each other rule that lets AVPs in, and
-- one through each other wildcard
abbrev pub OthersStand : Dictionary → Unknown → List Finding → Type 0
OthersStand d u found = AreNumbered d → (n : ℕ) (rule : DRule) (key : Key) → Contains (rules_in d n) rule → rule.key ≡ Some key → lets_in rule ≡ true → HasValidLevel d u n
    → IsReported found NeverStands (Within n (named.Key key)) ⊎ IsInLevel d u n key

abbrev pub OtherWildcardsStand : Dictionary → Unknown → List Finding → Type 0
OtherWildcardsStand d u found = AreNumbered d → (n : ℕ) (rule : DRule) → Contains (rules_in d n) rule → rule.key ≡ None → lets_in rule ≡ true → HasValidLevel d u n
    → IsReported found NeverStands (Within n named.Others) ⊎ IsOtherInLevel d u n
