-- AVPs that the receiver ignores: a rule of the sender lists them, and the receiver accepts them by a wildcard alone, in a level that
-- both sides read (RFC 6733 sections 3.2 and 4.1).
use Rattle.std.specs.Prelude.{ℕ, nat_eq, Bool, false, not, ◌&&◌, if◌then◌else◌, List, [], Option, Some, None, is_some, option_and_then, slice_get}
use Rattle.std.specs.List.{filter_map, flat_map, list_any}
use Rattle.std.specs.Option.{option_eq, option_map, option_map_or, option_or}
use Rattle.dia_wire.specs.declared.Key.{Key}
use Rattle.dia_book.specs.Keys.{same_key}
use Rattle.dia_book.specs.declared.definition.DRule.{DRule}
use Rattle.dia_book.specs.Dictionary.{entry_of}
use Rattle.dia_breaking.specs.OwnKeys.{data_key, flags_key}
use Rattle.dia_breaking.specs.declared.line.Cause.{Cause}
use Rattle.dia_breaking.specs.declared.line.Line.{Line as Breach}
use Rattle.dia_breaking.specs.declared.line.Place.{Place}
use Rattle.dia_breaking.specs.declared.line.Place.TheVariants as places
use Rattle.dia_breaking.specs.declared.line.Site.{Site}
use Rattle.dia_differences.specs.declared.owner.Owner.{Owner}
use Rattle.dia_differences.specs.declared.owner.Owner.TheVariants as owners
use Rattle.dia_differences.specs.Matching.{listed_at}
use Rattle.dia_differences.specs.Owners.{rules_of}
use Rattle.dia_diff.specs.declared.ignored.Readers.{Readers}
use Rattle.dia_diff.specs.declared.origins.Origin.{Origin}
use Rattle.dia_diff.specs.declared.origins.Origin.TheVariants.{Header, Ignored}
use Rattle.dia_diff.specs.Origins.{Found, Route, command_for}

-- ---- one AVP

-- the rule lets AVPs in: its greatest count is above 0
abbrev pub lets_in : DRule → Bool
lets_in rule = not (option_eq nat_eq rule.max (Some 0))

-- a wildcard of the rules does
abbrev pub lets_others_in : List DRule → Bool
lets_others_in rules = option_map_or lets_in (option_and_then (slice_get rules) (listed_at None rules)) false

-- a rule for the key is among them
abbrev pub lists : List DRule → Key → Bool
lists rules key = is_some (listed_at (Some key) rules)

-- the key of the AVPs that break by themselves: that aren't known, or by their flags or data
abbrev pub broken_key : Cause → Option Key
broken_key cause = option_or (flags_key cause) (data_key cause)

-- a line of `breaking` is about such AVPs of the key
abbrev pub is_broken : List Breach → Key → Bool
is_broken lines key = list_any (λ line. option_map_or (λ broken. same_key broken key) (broken_key line.cause) false) lines

-- ---- levels

abbrev pub readers : Owner → Owner → Readers
readers own other = record { own = own; other = other }

-- those of commands, and those of a group of both
abbrev pub command_readers : Route → Found → ℕ → Option Readers
command_readers r f read_as = option_map (λ j. readers (owners.Command f.place) (owners.Command j)) (command_for r.between.receiver f.code f.class read_as)

abbrev pub group_readers : Route → Key → Option Readers
group_readers r key = option_and_then (λ i. option_map (λ j. readers (owners.Avp i) (owners.Avp j)) (entry_of r.between.receiver key)) (entry_of r.between.sender key)

-- the definitions by which both sides read the level at a place
abbrev pub readers_at : Route → Found → Place → Option Readers
readers_at r f (places.Command app read_as is_recorded proxiable) = command_readers r f read_as
readers_at r f (places.Group key outer) = group_readers r key

-- of a site, if the receiver reads a level there
abbrev pub site_readers : Route → Found → Site → Option Readers
site_readers r f site = if site.is_read then readers_at r f site.place else None

-- ---- what is ignored

-- what it is about that the AVPs of the key are ignored: their level; but the headers, where the commands don't correspond
abbrev pub of_commands : List (Option ℕ) → ℕ → ℕ → Key → Origin
of_commands commands i j key = if option_eq (option_eq nat_eq) (slice_get commands i) (Some (Some j)) then Ignored (owners.Command i) (owners.Command j) key else Header i (Some j) None

abbrev pub origin_between : List (Option ℕ) → Owner → Owner → Key → Origin
origin_between commands (owners.Command i) (owners.Command j) key = of_commands commands i j key
origin_between commands own other key = Ignored own other key

-- the sender's rule lets AVPs of the key in, none of the receiver's lists them, and they don't break by themselves
abbrev pub is_ignored : Route → (Key → Bool) → Readers → DRule → Key → Bool
is_ignored r broken by rule key = lets_in rule && (not (lists (rules_of r.between.receiver by.other) key) && not (broken key))

abbrev pub ignored_by : Route → (Key → Bool) → Readers → DRule → Option Origin
ignored_by r broken by rule = option_and_then (λ key. if is_ignored r broken by rule key then Some (origin_between r.commands by.own by.other key) else None) rule.key

-- the sender's rules: none where the receiver's wildcard lets no AVPs in
abbrev pub open_rules : Route → Readers → List DRule
open_rules r by = if lets_others_in (rules_of r.between.receiver by.other) then rules_of r.between.sender by.own else []

abbrev pub ignored_between : Route → (Key → Bool) → Readers → List Origin
ignored_between r broken by = filter_map (ignored_by r broken by) (open_rules r by)

abbrev pub ignored_at : Route → Found → (Key → Bool) → Site → List Origin
ignored_at r f broken site = option_map_or (ignored_between r broken) (site_readers r f site) []

-- in the levels of a command's messages
abbrev pub ignored_unless : Route → Found → (Key → Bool) → List Origin
ignored_unless r f broken = flat_map (ignored_at r f broken) f.answer.sites

abbrev pub ignored : Route → Found → List Origin
ignored r f = ignored_unless r f (is_broken f.answer.lines)
