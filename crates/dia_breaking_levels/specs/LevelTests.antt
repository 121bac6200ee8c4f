-- The least lengths of the levels of one definition that break the rules of another, rule by rule (RFC 6733 section 3.2).
use Rattle.std.specs.Prelude.{ℕ, ◌+◌, ◌-◌, ◌*◌, ◌^◌, min, max, nat_le, Bool, true, not, ◌&&◌, ◌||◌, ◌==◌, if◌then◌else◌, List, ◌++◌, filter_map, Option, Some, None, is_some, nat_lt, fold, find}
use Rattle.std.specs.Option.{option_eq, option_map_or}
use Rattle.dia_wire.specs.declared.Key.{Key}
use Rattle.dia_book.specs.Keys.{same_key}
use Rattle.dia_book.specs.declared.DRule.{DRule}
use Rattle.dia_valid.specs.Valid.{is_listed}
use Rattle.dia_valid.specs.Rules.{rule_of, wildcard_of}
use Rattle.dia_breaking_levels.specs.declared.floor.Floor.{Floor}
use Rattle.dia_breaking_levels.specs.declared.line.Line.{Line}
use Rattle.dia_breaking_levels.specs.declared.line.Reason.{Reason}
use Rattle.dia_breaking_levels.specs.declared.line.Reason.TheVariants.{Missing, TooMany, NotAllowed, NotAllowedOther, MissingOthers, TooManyOthers, Order}
use Rattle.dia_breaking_levels.specs.Strangers.{needs}

-- one byte more than the AVPs of a message may have together. It represents all lengths from there on
abbrev pub too_long : ℕ
too_long = 16777193

abbrev pub capped : ℕ → ℕ
capped n = min n too_long

-- what an AVP of a key takes in a level: of a key that a rule lists, and of another, which the wildcard lets in
abbrev pub price : (Key → ℕ) → (Key → ℕ) → List DRule → Key → ℕ
price listed other rules key = if is_listed rules key then listed key else other key

-- the max is none, or m or above
abbrev pub has_room : ℕ → Option ℕ → Bool
has_room m limit = option_map_or (nat_le m) limit true

-- a level with some of its AVPs taken out and others put in
abbrev pub swapped : ℕ → ℕ → ℕ → ℕ
swapped base out into = capped (base - out + into)

-- what a rule's least count takes, where the least AVP by the wildcard has the length `filler`
abbrev pub rule_floor : (Key → ℕ) → ℕ → DRule → ℕ
rule_floor listed filler rule = rule.min * option_map_or listed rule.key filler

-- so many AVPs of one length
abbrev pub many : ℕ → ℕ → ℕ
many n length = capped (n * length)

-- the rule's AVP occurs at least m times
abbrev pub listed_at_least : ℕ → ℕ → ℕ → DRule → ℕ
listed_at_least base length m rule = if has_room m rule.max then swapped base (many rule.min length) (many (max m rule.min) length) else too_long

-- AVPs of this length occur at least m times by the wildcard, where the least by it has the length `filler`
abbrev pub other_at_least : ℕ → ℕ → ℕ → ℕ → Option DRule → ℕ
other_at_least base filler length m None = too_long
other_at_least base filler length m (Some wild) = if has_room m wild.max then swapped base (many (min m wild.min) filler) (many m length) else too_long

-- of the least AVPs by the wildcard at most m occur, and the others have this length at least
abbrev pub refilled : ℕ → ℕ → ℕ → ℕ → Option DRule → ℕ
refilled base filler length m None = base
refilled base filler length m (Some wild) = swapped base (many (wild.min - m) filler) (many (wild.min - m) length)

-- the rule's AVP occurs at most m times
abbrev pub listed_at_most : ℕ → ℕ → DRule → ℕ
listed_at_most base m rule = if nat_le rule.min m then base else too_long

-- ---- the AVPs that the wildcard lets in

-- what an AVP of this rule of the second definition takes by the wildcard of the first, if it comes there and is not left out
abbrev pub inner_length : (Key → ℕ) → List DRule → Option Key → DRule → ℕ
inner_length other a except rule = option_map_or (λ key. if is_listed a key || option_eq same_key except (Some key) then too_long else capped (other key)) rule.key too_long

abbrev pub cheapest : (DRule → ℕ) → List DRule → ℕ
cheapest length rules = fold (λ best rule. min best (length rule)) too_long rules

-- neither definition lists the key
abbrev pub is_outside : List DRule → List DRule → Key → Bool
is_outside a b key = not (is_listed a key) && not (is_listed b key)

-- what an AVP of the first of the keys takes that neither lists
abbrev pub outer_length : (Key → ℕ) → List Key → List DRule → List DRule → ℕ
outer_length other keys a b = option_map_or other (find (is_outside a b) keys) too_long

-- ---- the least level

abbrev pub base_length : (Key → ℕ) → ℕ → List DRule → ℕ
base_length listed filler rules = fold (λ sum rule. capped (sum + many rule.min (option_map_or listed rule.key filler))) 0 rules

-- how many AVPs that the second definition does not list the rules of the first ask for, without its wildcard
abbrev pub needed_up : List DRule → List DRule → ℕ
needed_up b a = fold (λ sum rule. min (sum + needs b rule) (2 ^ 64 - 1)) 0 a

abbrev pub filler : Floor → ℕ
filler f = min f.inner f.outer

-- what the cheapest AVP by the wildcard takes that is not of this key
abbrev pub next_length : Floor → Key → ℕ
next_length f key = if option_eq same_key f.first (Some key) then min f.second f.outer else filler f

-- ---- the least level where a key occurs often or seldom, by its rule and the wildcard

abbrev pub at_least : Floor → (Key → ℕ) → (Key → ℕ) → Key → ℕ → Option DRule → Option DRule → ℕ
at_least f listed other key m None wild = other_at_least f.base (filler f) (other key) m wild
at_least f listed other key m (Some rule) wild = listed_at_least f.base (listed key) m rule

abbrev pub at_most : Floor → Key → ℕ → Option DRule → Option DRule → ℕ
at_most f key m None wild = refilled f.base (filler f) (next_length f key) m wild
at_most f key m (Some rule) wild = listed_at_most f.base m rule

-- at most m of the keys that the second definition does not list, by the wildcard
abbrev pub few_others : Floor → ℕ → Option DRule → ℕ
few_others f m wild = if nat_le f.needed m then refilled f.base (filler f) f.inner (m - f.needed) wild else too_long

-- ---- the levels of one definition

-- what an AVP of the first of the keys takes that the definition does not list
abbrev pub least_filler : (Key → ℕ) → List Key → List DRule → ℕ
least_filler other keys a = option_map_or other (find (λ key. not (is_listed a key)) keys) too_long

abbrev pub least_length : (Key → ℕ) → (Key → ℕ) → List Key → List DRule → ℕ
least_length listed other keys a = base_length listed (least_filler other keys a) a

-- the key, whose rule is this, occurs once or more
abbrev pub once : (Key → ℕ) → (Key → ℕ) → ℕ → ℕ → Key → Option DRule → Option DRule → ℕ
once listed other base filler key None wild = other_at_least base filler (other key) 1 wild
once listed other base filler key (Some rule) wild = listed_at_least base (listed key) 1 rule

abbrev pub length_once : (Key → ℕ) → (Key → ℕ) → List Key → List DRule → Key → ℕ
length_once listed other keys a key = once listed other (least_length listed other keys a) (least_filler other keys a) key (rule_of a key) (wildcard_of a)

-- ---- the least level for a reason and a rule

-- fewer of the rule's key than it asks for
abbrev pub missing_length : Floor → List DRule → DRule → ℕ
missing_length f a rule = option_map_or (λ key. if rule.min == 0 then too_long else at_most f key (rule.min - 1) (rule_of a key) f.wild) rule.key too_long

-- more of it than the rule allows
abbrev pub too_many_length : Floor → (Key → ℕ) → (Key → ℕ) → List DRule → DRule → ℕ
too_many_length f listed other a rule = option_map_or (λ key. option_map_or (λ max. at_least f listed other key (max + 1) (rule_of a key) f.wild) rule.max too_long) rule.key too_long

-- one of a rule of the first definition's key, which the second does not list and has no wildcard for
abbrev pub not_allowed_length : Floor → (Key → ℕ) → List DRule → DRule → ℕ
not_allowed_length f listed b rule = option_map_or (λ key. if f.lets_in || is_listed b key then too_long else listed_at_least f.base (listed key) 1 rule) rule.key too_long

-- one by the first's wildcard that neither lists
abbrev pub not_allowed_other_length : Floor → DRule → ℕ
not_allowed_other_length f rule = if f.lets_in || is_some rule.key then too_long else other_at_least f.base (filler f) f.outer 1 f.wild

-- fewer by the second's wildcard than it asks for
abbrev pub missing_others_length : Floor → DRule → ℕ
missing_others_length f rule = if is_some rule.key || (rule.min == 0) then too_long else few_others f (rule.min - 1) f.wild

-- more than it allows
abbrev pub too_many_others_length : ℕ → DRule → ℕ
too_many_others_length most rule = if is_some rule.key || not (is_some rule.max) then too_long else most

abbrev pub length_of : Reason → Floor → ℕ → (Key → ℕ) → (Key → ℕ) → List DRule → List DRule → DRule → ℕ
length_of Missing f most listed other a b rule = missing_length f a rule
length_of TooMany f most listed other a b rule = too_many_length f listed other a rule
length_of NotAllowed f most listed other a b rule = not_allowed_length f listed b rule
length_of NotAllowedOther f most listed other a b rule = not_allowed_other_length f rule
length_of MissingOthers f most listed other a b rule = missing_others_length f rule
length_of TooManyOthers f most listed other a b rule = too_many_others_length most rule
length_of Order f most listed other a b rule = too_long

abbrev pub line_of : Reason → Floor → ℕ → (Key → ℕ) → (Key → ℕ) → List DRule → List DRule → DRule → Option Line
line_of reason f most listed other a b rule =
    if nat_lt (length_of reason f most listed other a b rule) too_long then Some
    (record { reason = reason; key = rule.key; following = None; length = length_of reason f most listed other a b rule }) else None

-- the lines of each reason of counts, in the order of the rules
abbrev pub lines_of : Floor → ℕ → (Key → ℕ) → (Key → ℕ) → List DRule → List DRule → List Line
lines_of f most listed other a b =
    filter_map (line_of Missing f most listed other a b) b ++ filter_map (line_of TooMany f most listed other a b) b
    ++ filter_map (line_of NotAllowed f most listed other a b) a ++ filter_map (line_of NotAllowedOther f most listed other a b) a
    ++ filter_map (line_of MissingOthers f most listed other a b) b ++ filter_map (line_of TooManyOthers f most listed other a b) b
