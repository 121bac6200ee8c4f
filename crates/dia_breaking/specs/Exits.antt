-- Where the levels of a definition lead.
use Rattle.std.specs.Prelude.{◌≡◌, ℕ, ◌-◌, List, Option, MatchOption, All, map}
use Rattle.std.specs.List.{filter_map}
use Rattle.std.specs.Option.{option_map, option_and_then}
use Rattle.std.specs.HashMap.{get}
use Rattle.dia_wire.specs.declared.Key.{Key}
use Rattle.dia_book.specs.Keys.{same_key}
use Rattle.dia_book.specs.declared.DRule.{DRule}
use Rattle.dia_book.specs.Dictionary.{Dictionary}
use Rattle.dia_breaking_shortest.specs.Floors.{shortest_head}
use Rattle.dia_breaking.specs.declared.exits.Exits.{Exits}
use Rattle.dia_breaking.specs.declared.exits.Inner.{Inner}
use Rattle.dia_breaking.specs.declared.exits.Outlook.{Outlook}
use Rattle.dia_breaking.specs.declared.keys.Recording.{Recording}
use Rattle.dia_breaking.specs.declared.levels.LevelCost.{LevelCost}
use Rattle.dia_breaking.specs.Lengths.{Costs}
use Rattle.dia_breaking.specs.LevelCosts.{cost_in, with_listed}
use Rattle.dia_breaking.specs.Outlooks.{group_rules}
use Rattle.dia_breaking.specs.Taken.{AreGroups}

-- the place of the rule's key in the record, if it is there, and the length of a least level that has an AVP of it
abbrev pub exit_by : Recording → (Key → ℕ) → LevelCost → DRule → Option (ℕ × ℕ)
exit_by recording listed cost rule = option_and_then (λ key. option_map (λ place. (place, with_listed cost rule (listed key))) (get same_key recording.places key)) rule.key

-- those of the rules, in their order, with the costs of their levels
pub record AreExits (recording : Recording) (k : Costs) (rules : List DRule) (exits : Exits) : Type 0 where
  pub base : exits.base ≡ (cost_in k rules).base
  pub listed_are : exits.listed.items ≡ filter_map (exit_by recording k.listed (cost_in k rules)) rules
  pub beside : exits.beside ≡ (cost_in k rules).beside

-- of a group of both: what its least level takes, and where A's levels lead
pub record IsInner (da : Dictionary) (recording : Recording) (k : Costs) (key : Key) (inner : Inner) : Type 0 where
  pub least : inner.least ≡ k.listed key - shortest_head key
  pub exits : AreExits recording k (group_rules da key) inner.exits

-- a group of both has such a level, and no other AVP has one
abbrev pub IsInnerOrNone : Dictionary → Dictionary → Recording → Costs → Key → Option Inner → Type 0
IsInnerOrNone da db recording k key inner = MatchOption inner (¬ AreGroups da db key) (λ inner. AreGroups da db key × IsInner da recording k key inner)

-- of an AVP of which there is something to report: its least length through a wildcard, and its group, if it is one for both
pub record IsOutlook (da db : Dictionary) (recording : Recording) (k : Costs) (outlook : Outlook) : Type 0 where
  pub other_is : outlook.other ≡ k.other outlook.key
  pub inner_is : IsInnerOrNone da db recording k outlook.key outlook.inner

-- of all that is recorded, in its order
abbrev pub AreOutlooks : Dictionary → Dictionary → Recording → Costs → List Outlook → Type 0
AreOutlooks da db recording k outlooks = (map (λ outlook. outlook.key) outlooks ≡ map (λ own. own.key) recording.own.items) × All (IsOutlook da db recording k) outlooks
