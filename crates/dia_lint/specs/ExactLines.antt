-- The findings about valid messages, with their places and details, one after the other: those of the groups, those of the commands,
-- and then those of the AVPs.
use Rattle.std.specs.Prelude.{◌≡◌, ℕ, ◌+◌, nat_eq, nat_lt, nat_le, Bool, false, ◌||◌, ◌&&◌, if◌then◌else◌, find, List, [], ◌∷◌, ◌++◌, length, Option, Some, slice_get}
use Rattle.std.specs.Option.{option_eq, option_map_or}
use Rattle.dia_wire.specs.declared.Key.{Key}
use Rattle.dia_book.specs.declared.DRule.{DRule}
use Rattle.dia_book.specs.declared.DefHead.{DefHead}
use Rattle.dia_book.specs.declared.DefHead.TheVariants.{Group}
use Rattle.dia_book.specs.Keys.{same_key}
use Rattle.dia_book.specs.Dictionary.{Dictionary, PlainDefinition, definitions, group_place, groups}
use Rattle.dia_terms.specs.declared.Unknown.{Unknown}
use Rattle.dia_valid.specs.Rules.{rules_in}
use Rattle.dia_breaking_levels.specs.LevelTests.{too_long}
use Rattle.dia_breaking_shortest.specs.Lengths.{entry_length}
use Rattle.dia_lint.specs.declared.detail.Detail.{Detail}
use Rattle.dia_lint.specs.declared.detail.Detail.TheVariants as detail
use Rattle.dia_lint.specs.declared.finding.Finding.{Finding}
use Rattle.dia_lint.specs.declared.finding.Place.TheVariants as place
use Rattle.dia_lint.specs.declared.finding.Subject.TheVariants as subject
use Rattle.dia_lint.specs.declared.levels.LevelCost.{LevelCost}
use Rattle.dia_lint.specs.declared.reached.Reached.{Reached}
use Rattle.dia_lint.specs.declared.rule.Rule.{Rule}
use Rattle.dia_lint.specs.declared.rule.Rule.TheVariants.{NeverHeld, NeverListed, NeverStands, NoLevel, NoMessage}
use Rattle.dia_lint.specs.Costs.{level_of, sender_of}
use Rattle.dia_lint.specs.Gathered.{gathered}
use Rattle.dia_lint.specs.Guidelines.{at_head}
use Rattle.dia_lint.specs.ListedAvps.{is_listed_avp}
use Rattle.dia_lint.specs.OwnRules.{named_by}
use Rattle.dia_lint.specs.Ways.{Side, AreOfSide, IsReached, cost_of, has_in, way_in, with_rule}
use Rattle.dia_lint.specs.WayLines.{IsListedReached, is_long_group, rule_length}

-- ---- a definition whose least level no message has room for

-- no AVPs meet the least count of the rule, where a shortest one that no rule lists takes so much
abbrev pub is_unmet : Side → (filler : ℕ) → DRule → Bool
is_unmet s filler rule = nat_lt 0 rule.min && nat_le too_long (rule_length s filler rule)

-- the definition of the key's own group
abbrev pub is_of : DefHead → Key → Bool
is_of (Group own) key = same_key own key
is_of head key = false

abbrev pub unmet_by : DefHead → DRule → Detail
unmet_by head rule = option_map_or (λ key. if is_of head key then detail.NeedsItself else detail.Needs key) rule.key detail.NeedsOthers

-- its first rule that is unmet is at fault, or else all least counts together are
abbrev pub unmet : Side → PlainDefinition → Detail
unmet s def = option_map_or (unmet_by def.head) (find (is_unmet s (cost_of s def.rules).filler) def.rules) detail.TooLong

abbrev pub unmet_in : Side → ℕ → Detail
unmet_in s n = option_map_or (unmet s) (slice_get (definitions s.book) n) detail.TooLong

-- of a group of which no AVP fits
abbrev pub level_lines : Side → (e n : ℕ) → List Finding
level_lines s e n = if nat_le too_long (entry_length s.lengths e) then at_head n NoLevel (unmet_in s n) ∷ [] else []

-- of a command without a valid message
abbrev pub message_lines : Side → ℕ → List Finding
message_lines s n = if nat_le too_long (level_of s.book s.sends s.lengths s.others n) then at_head n NoMessage (unmet_in s n) ∷ [] else []

-- ---- rules of which no message has an AVP

-- why: of its key none fits, whose shortest one takes so much, or there is no room for one
abbrev pub why_never : DRule → ℕ → Detail
why_never rule size = option_map_or (λ key. if nat_le too_long size then detail.ThereIsNo key else detail.NoRoom) rule.key detail.NoneLeft

-- of the rule at a place of a definition, whose levels have so much around them
abbrev pub stands_lines : Side → LevelCost → (n way at : ℕ) → DRule → List Finding
stands_lines s cost n way at rule =
    if option_eq nat_eq rule.max (Some 0) || nat_le (way + with_rule cost rule (rule_length s cost.filler rule)) too_long then [] else record {
      rule = NeverStands;
      place = place.Rule n at;
      subject = subject.Within n (named_by rule.key);
      detail = why_never rule (rule_length s cost.filler rule);
    } ∷ []

abbrev pub rule_lines : Side → (n way : ℕ) → List DRule → ℕ → List Finding
rule_lines s n way rules at = option_map_or (stands_lines s (cost_of s rules) n way at) (slice_get rules at) []

abbrev pub rules_lines : Side → (n way : ℕ) → List Finding
rules_lines s n way = gathered (rule_lines s n way (rules_in s.book n)) (length (rules_in s.book n))

-- of a definition with a level in some message
abbrev pub definition_lines : Side → ℕ → Option ℕ → List Finding
definition_lines s n way = option_map_or (rules_lines s n) way []

-- ---- all

abbrev pub group_lines : Side → Reached → ℕ → List Finding
group_lines s r e = option_map_or (λ n. level_lines s e n ++ definition_lines s n (way_in r e)) (group_place s.book e) []

abbrev pub command_lines : Side → Reached → ℕ → List Finding
command_lines s r i = message_lines s (length (groups s.book) + i) ++ definition_lines s (length (groups s.book) + i) (way_in r (length s.book.entries + i))

abbrev pub of_avp : ℕ → Rule → Detail → Finding
of_avp e rule what = record { rule = rule; place = place.Avp e; subject = subject.Avp e; detail = what }

-- why no message has an AVP by rules alone: no rule lists it, or each message with it has an AVP that comes through a wildcard
abbrev pub why_never_listed : Dictionary → ℕ → Detail
why_never_listed d e = if is_listed_avp d e then detail.NotByRulesAlone else detail.OnlyWildcards

-- of an AVP, by what messages have, and by what they have through rules
abbrev pub avp_lines : Side → Reached → Reached → ℕ → List Finding
avp_lines s r listed e =
    if is_long_group s e then [] else if has_in r e then (if has_in listed e then [] else of_avp e NeverListed (why_never_listed s.book e) ∷ []) else of_avp e NeverHeld detail.NotHeld ∷ []

-- of AVPs, if there is a command
pub data AreAvpLines (s : Side) (r : Reached) (lines : List Finding) : Type 0 where
  Without_commands : (none : length s.book.commands ≡ 0) (no_lines : lines ≡ []) → AreAvpLines s r lines
  With_commands : (listed : Reached) (is_listed : IsListedReached s.book listed) (are : lines ≡ gathered (avp_lines s r listed) (length s.book.entries)) → AreAvpLines s r lines

-- they were added
abbrev pub AddsAvpLines : Side → Reached → (old new : List Finding) → Type 0
AddsAvpLines s r old new = (lines : List Finding) × AreAvpLines s r lines × (new ≡ old ++ lines)

pub record AreExactLines (d : Dictionary) (u : Unknown) (found : List Finding) : Type 0 where
  pub side : Side
  pub of_book : side.book ≡ d
  pub sends : side.sends ≡ sender_of u
  pub are_lengths : AreOfSide side
  pub reached : Reached
  pub is_reached : IsReached side reached
  pub avps : List Finding
  pub are_avps : AreAvpLines side reached avps
  pub all : found ≡ (gathered (group_lines side reached) (length side.book.entries) ++ gathered (command_lines side reached) (length side.book.commands)) ++ avps
