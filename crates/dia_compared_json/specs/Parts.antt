-- What fails a test of a pair, as JSON values: parts of the two dictionaries.
use Rattle.std.specs.Prelude.{ℕ, ◌+◌, List, [], Option, None, Some, codes, option_and_then, position, slice_get}
use Rattle.std.specs.Option.{option_map, option_map_or}
use Rattle.serde_json.specs.Data.{Data, Members, member, no_members, null, object, string}
use Rattle.dia_wire.specs.declared.Key.{Key}
use Rattle.dia_book.specs.declared.DRule.{DRule}
use Rattle.dia_book.specs.Dictionary.{Dictionary, PlainDefinition, definitions, group_place}
use Rattle.dia_valid.specs.Valid.{is_wildcard}
use Rattle.dia_compat.specs.declared.PairKind.{PairKind}
use Rattle.dia_compat.specs.declared.PairKind.TheVariants as kind
use Rattle.dia_compat.specs.declared.Failing.{Failing}
use Rattle.dia_compat.specs.declared.Failing.TheVariants as failing
use Rattle.dia_compat.specs.PairTests.{command_named, entry_named}
use Rattle.dia_compared_json.specs.declared.parts.Part.{Part}
use Rattle.dia_compared_json.specs.declared.parts.Part.TheVariants as part
use Rattle.dia_compared_json.specs.Objects.{avp_value, command_value, declared_value, rule_members}

-- ---- a side of a pair

-- a dictionary, and what a name of the pair denotes in it: the definition of a command or of a Grouped AVP, and the AVP
pub record Side : Type 0 where
  pub dictionary : Dictionary
  pub definition : Option PlainDefinition
  pub avp : Option Key

-- where the AVP is the entry at this place
abbrev pub avp_side : Dictionary → Option ℕ → Side
avp_side d place = record {
  dictionary = d;
  definition = option_and_then (slice_get (definitions d)) (option_and_then (group_place d) place);
  avp = option_and_then (λ i. option_map (λ e. e.key) (slice_get d.entries i)) place;
}

abbrev pub side_of : Dictionary → PairKind → List ℕ → Side
side_of d kind.Command name = record { dictionary = d; definition = option_and_then (slice_get d.commands) (command_named d name); avp = None }
side_of d kind.Avp name = avp_side d (entry_named d name)

abbrev pub rules_of : Side → List DRule
rules_of s = option_map_or (λ c. c.rules) s.definition []

-- ---- the text of a part

-- a rule by its place, from 0. Where there is none it is null
abbrev pub rule_of : Dictionary → List DRule → ℕ → Data
rule_of d rules i = option_map_or (λ r. object (rule_members d (i + 1) r)) (slice_get rules i) null

abbrev pub rule_value : Side → Option ℕ → Data
rule_value s place = option_map_or (rule_of s.dictionary (rules_of s)) place null

abbrev pub part_value : Side → Part → Data
part_value s part.Nothing = null
part_value s (part.Rule place) = rule_value s place
part_value s (part.Avp key) = avp_value s.dictionary key
part_value s (part.Declaration key) = declared_value s.dictionary key
part_value s part.Own = declared_value s.dictionary s.avp
part_value s part.Command = command_value s.definition
part_value s (part.Other place) = command_value (slice_get s.dictionary.commands place)

-- ---- the report of a failing

-- what fails, in a word
abbrev pub why_word : Failing → List ℕ
why_word (failing.Fixed first second) = codes "fixed"
why_word (failing.Counts first second) = codes "counts"
why_word (failing.Unlisted first) = codes "unlisted"
why_word (failing.Uncovered first) = codes "uncovered"
why_word (failing.Required second) = codes "required"
why_word (failing.Crowded first second) = codes "crowded"
why_word (failing.NoWildcard first) = codes "no-wildcard"
why_word (failing.CountsAsOther first wildcard) = codes "counts-as-other"
why_word (failing.WildcardMost first second) = codes "wildcard-most"
why_word (failing.WildcardLeast first second) = codes "wildcard-least"
why_word (failing.NotCounted second wildcard) = codes "not-counted"
why_word (failing.Stranger first key) = codes "stranger"
why_word (failing.LetIn first key) = codes "let-in"
why_word failing.FirstName = codes "first-name"
why_word failing.SecondName = codes "second-name"
why_word failing.Keys = codes "keys"
why_word failing.MRules = codes "m-rules"
why_word failing.Formats = codes "formats"
why_word failing.Heads = codes "heads"
why_word failing.PFlags = codes "p-flags"
why_word failing.Unserved = codes "unserved"
why_word (failing.NotBeside second) = codes "not-beside"

-- what the first dictionary says of it
abbrev pub sent_part : Side → Failing → Part
sent_part a (failing.Fixed first second) = part.Rule first
sent_part a (failing.Counts first second) = part.Rule (Some first)
sent_part a (failing.Unlisted first) = part.Rule (Some first)
sent_part a (failing.Uncovered first) = part.Rule (Some first)
sent_part a (failing.Required second) = part.Nothing
sent_part a (failing.Crowded first second) = part.Rule (Some first)
sent_part a (failing.NoWildcard first) = part.Rule (Some first)
sent_part a (failing.CountsAsOther first wildcard) = part.Rule (Some first)
sent_part a (failing.WildcardMost first second) = part.Rule (Some first)
sent_part a (failing.WildcardLeast first second) = part.Rule first
sent_part a (failing.NotCounted second wildcard) = part.Rule (position is_wildcard (rules_of a))
sent_part a (failing.Stranger first key) = part.Rule (Some first)
sent_part a (failing.LetIn first key) = part.Rule (Some first)
sent_part a failing.FirstName = part.Nothing
sent_part a failing.SecondName = part.Nothing
sent_part a failing.Keys = part.Own
sent_part a failing.MRules = part.Own
sent_part a failing.Formats = part.Own
sent_part a failing.Heads = part.Command
sent_part a failing.PFlags = part.Command
sent_part a failing.Unserved = part.Command
sent_part a (failing.NotBeside second) = part.Command

-- the AVP that a rule names
abbrev pub key_at : Side → ℕ → Option Key
key_at s place = option_and_then (λ r. r.key) (slice_get (rules_of s) place)

-- what the second dictionary says of it: of an AVP without a pair, its declaration of the same AVP
abbrev pub accepted_part : Side → Failing → Part
accepted_part a (failing.Fixed first second) = part.Rule (Some second)
accepted_part a (failing.Counts first second) = part.Rule (Some second)
accepted_part a (failing.Unlisted first) = part.Nothing
accepted_part a (failing.Uncovered first) = part.Declaration (key_at a first)
accepted_part a (failing.Required second) = part.Rule (Some second)
accepted_part a (failing.Crowded first second) = part.Rule (Some second)
accepted_part a (failing.NoWildcard first) = part.Nothing
accepted_part a (failing.CountsAsOther first wildcard) = part.Rule (Some wildcard)
accepted_part a (failing.WildcardMost first second) = part.Rule (Some second)
accepted_part a (failing.WildcardLeast first second) = part.Rule (Some second)
accepted_part a (failing.NotCounted second wildcard) = part.Rule (Some wildcard)
accepted_part a (failing.Stranger first key) = part.Declaration (Some key)
accepted_part a (failing.LetIn first key) = part.Declaration (Some key)
accepted_part a failing.FirstName = part.Nothing
accepted_part a failing.SecondName = part.Nothing
accepted_part a failing.Keys = part.Own
accepted_part a failing.MRules = part.Own
accepted_part a failing.Formats = part.Own
accepted_part a failing.Heads = part.Command
accepted_part a failing.PFlags = part.Command
accepted_part a failing.Unserved = part.Nothing
accepted_part a (failing.NotBeside second) = part.Other second

-- what else there is: the rule of the second that its wildcard doesn't count, or the AVP that a wildcard lets in
abbrev pub more_members : Side → Side → Failing → Members
more_members a b (failing.NotCounted second wildcard) = member (codes "listed") (part_value b (part.Rule (Some second))) no_members
more_members a b (failing.Stranger first key) = member (codes "avp") (part_value b (part.Avp key)) no_members
more_members a b (failing.LetIn first key) = member (codes "avp") (part_value a (part.Avp key)) no_members
more_members a b f = no_members

abbrev pub failing_value : Side → Side → Failing → Data
failing_value a b f = object (member (codes "why") (string (why_word f)) (member (codes "sent") (part_value a (sent_part a f))
    (member (codes "accepted") (part_value b (accepted_part a f)) (more_members a b f))))
