-- What is found of the level of a command, before its sites are walked.
use Rattle.std.proofs.Common.{◌≡◌, ℕ, ◌+◌, Bool, true, false, List, [], ◌∷◌, ◌++◌, map, take, Some, refl, sym, ap, subst, ◌∙◌, true≢false}
use Rattle.std.specs.Prelude.{nat_le, slice_get}
use Rattle.std.proofs.lemmas.List.{map_push}
use Rattle.dia_book.specs.Dictionary.{Dictionary}
use Rattle.dia_valid.specs.Rules.{rules_in}
use Rattle.dia_breaking_sites.specs.Selection.{max_body}
use Rattle.dia_breaking_levels.specs.declared.line.Line.{Line as LevelLine}
use Rattle.dia_breaking_ways.specs.Walks.{plain_exits}
use Rattle.dia_breaking.specs.declared.apps.BothApps.{BothApps}
use Rattle.dia_breaking.specs.declared.exits.Exits.{Exits}
use Rattle.dia_breaking.specs.declared.heads.Head.{Head}
use Rattle.dia_breaking.specs.declared.keys.Recording.{Recording}
use Rattle.dia_breaking.specs.declared.readings.Reading.{Reading}
use Rattle.dia_breaking.specs.declared.start.Start.{Start}
use Rattle.dia_breaking.specs.Exits.{AreExits}
use Rattle.dia_breaking.specs.Headers.{AreApps}
use Rattle.dia_breaking.specs.Lengths.{Costs}
use Rattle.dia_breaking.specs.Nodes.{exits_in}
use Rattle.dia_breaking.specs.Readings.{AreReadings}
use Rattle.dia_breaking.specs.TheLines.{AreIfRoom, AreLevels, IsCommandLevel, IsStartOf}
use Rattle.dia_breaking.proofs.Lists.{one_more}

-- ---- readings

pub with_room : (Are : List Reading → Type 0) (readings : List Reading) (room : Bool) → room ≡ true → Are readings → AreIfRoom room Are readings
with_room Are readings true e recorded = recorded
with_room Are readings false e recorded = absurd (true≢false (sym e))

-- ---- how levels break for a reading

module _ (da db : Dictionary) (k : Costs) where
  module _ (head : Head) (reading : Reading) (lines : List LevelLine) (own : IsCommandLevel da db k head reading lines) where
    added_level : (readings : List Reading) (levels : List (List LevelLine)) → AreLevels (IsCommandLevel da db k head) readings levels
        → AreLevels (IsCommandLevel da db k head) (readings ++ reading ∷ []) (levels ++ lines ∷ [])
    added_level [] levels are = subst (λ (ls : List (List LevelLine)). AreLevels (IsCommandLevel da db k head) (reading ∷ []) (ls ++ lines ∷ [])) (sym are) (own, refl)
    added_level (x ∷ readings) [] are = absurd are
    added_level (x ∷ readings) (l ∷ levels) are = (are.0, added_level readings levels are.1)

    pub one_level_more : {V : Type 0} (readings : List Reading) (i : ℕ) (old new : List V) (level : V) (items : V → List LevelLine) → slice_get readings i ≡ Some reading → new ≡ old ++ level ∷ [] → items level ≡ lines
        → AreLevels (IsCommandLevel da db k head) (take i readings) (map items old) → AreLevels (IsCommandLevel da db k head) (take (i + 1) readings) (map items new)
    one_level_more readings i old new level items at is same are =
        subst (λ (xs : List Reading). AreLevels (IsCommandLevel da db k head) xs (map items new)) (sym (one_more readings i reading at))
        (subst (λ (ls : List (List LevelLine)). AreLevels (IsCommandLevel da db k head) (take i readings ++ reading ∷ []) ls)
        (sym (ap (map items) is ∙ map_push items old level ∙ ap (λ (ls : List LevelLine). map items old ++ ls ∷ []) same)) (added_level (take i readings) (map items old) are))

-- ---- the start

module _ (da db : Dictionary) (recording : Recording) (k : Costs) (c : ℕ) (start : Start) (both : BothApps) (exits : Exits) where
  pub start_found : AreApps da both.first → AreApps db both.second → AreExits recording k (rules_in da c) exits → start.base ≡ exits.base → plain_exits start.exits ≡ exits_in exits
      → AreIfRoom (nat_le exits.base max_body) (AreReadings da db both c start.head) start.readings.items
      → AreLevels (IsCommandLevel da db k start.head) start.readings.items (map (λ lines. lines.items) start.levels.items) → IsStartOf da db recording k c start
  start_found in_a in_b are_exits base_is exits_are readings levels = record {
    both = both;
    exits = exits;
    are_first = in_a;
    are_second = in_b;
    are_exits = are_exits;
    base_is = base_is;
    exits_are = exits_are;
    readings_are = subst (λ (n : ℕ). AreIfRoom (nat_le n max_body) (AreReadings da db both c start.head) start.readings.items) (sym base_is) readings;
    levels_are = levels;
  }
