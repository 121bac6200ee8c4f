-- Where levels lead, and how they break, is one: of groups, and of a command.
use Rattle.std.proofs.Common.{◌≡◌, ℕ, Bool, true, false, List, [], ◌∷◌, ◌++◌, map, filter, Option, Some, None, refl, sym, ap, subst, ◌∙◌}
use Rattle.std.specs.Prelude.{All, IfSome, MatchOption, nat_le, option_and_then, option_to_list}
use Rattle.std.specs.List.{filter_map}
use Rattle.std.specs.HashMap.{get}
use Rattle.std.specs.Option.{option_map, option_map_or}
use Rattle.std.proofs.lemmas.List.Elements.{All-head, All-tail}
use Rattle.dia_wire.specs.declared.Key.{Key}
use Rattle.dia_book.specs.declared.Class.{Class}
use Rattle.dia_book.specs.declared.DRule.{DRule}
use Rattle.dia_book.specs.Dictionary.{Dictionary}
use Rattle.dia_book.specs.Keys.{same_key}
use Rattle.dia_valid.specs.Rules.{rules_in}
use Rattle.dia_breaking_sites.specs.Selection.{max_body}
use Rattle.dia_breaking_levels.specs.declared.line.Line.{Line as LevelLine}
use Rattle.dia_breaking_levels.proofs.ExactLines.{lines_one}
use Rattle.dia_breaking_ways.specs.Walks.{plain_exits}
use Rattle.dia_breaking.specs.declared.apps.Apps.{Apps}
use Rattle.dia_breaking.specs.declared.exits.Exits.{Exits}
use Rattle.dia_breaking.specs.declared.exits.Inner.{Inner}
use Rattle.dia_breaking.specs.declared.exits.Outlook.{Outlook}
use Rattle.dia_breaking.specs.declared.heads.Head.{Head}
use Rattle.dia_breaking.specs.declared.keys.Recording.{Recording}
use Rattle.dia_breaking.specs.declared.readings.Reading.{Reading}
use Rattle.dia_breaking.specs.declared.start.Start.{Start}
use Rattle.dia_breaking.specs.Exits.{AreExits, IsInnerOrNone, IsOutlook, exit_by}
use Rattle.dia_breaking.specs.Headers.{AreApps, apps_of, row_app, both_apps}
use Rattle.dia_breaking.specs.Lengths.{Costs, other_in, others_in}
use Rattle.dia_breaking.specs.LevelCosts.{cost_in, with_listed}
use Rattle.dia_breaking.specs.Listing.{lines_in}
use Rattle.dia_breaking.specs.Nodes.{exits_in, level_in, node_in}
use Rattle.dia_breaking.specs.Outlooks.{group_rules}
use Rattle.dia_breaking.specs.Readings.{AreReadings, as_sent, reading_after}
use Rattle.dia_breaking.specs.TheLines.{AreLinesOf, AreIfRoom, AreLevels, AreLinesBetween, HasLevelLines, IsCommandLevel, IsStartOf}
use Rattle.dia_breaking.specs.RecordedApps.{AreRecordedApps, IsLeastUnnamed, selects}
use Rattle.dia_breaking.proofs.OneSolution.{first_key, one_list_of_apps, rest_keys}

-- ---- where levels lead

module _ (k : Costs) (t next : Recording) (places : (key : Key) → get same_key t.places key ≡ get same_key next.places key) where
  pub one_exits : (rules : List DRule) (x y : Exits) → AreExits t k rules x → AreExits next k rules y → (x.base ≡ y.base) × (exits_in x ≡ exits_in y)
  one_exits rules x y is are =
      let cost = cost_in k rules in
      let moved : filter_map (exit_by t k.listed cost) rules ≡ filter_map (exit_by next k.listed cost) rules =
      λ i. filter_map (λ (rule : DRule). option_and_then (λ (key : Key). option_map (λ (place : ℕ). (place, with_listed cost rule (k.listed key))) (places key i)) rule.key) rules in
      let lists : x.listed.items ≡ y.listed.items = is.listed_are ∙ moved ∙ sym are.listed_are in
      let beside : x.beside ≡ y.beside = is.beside ∙ sym are.beside in
      (is.base ∙ sym are.base, λ i. record { listed = lists i; beside = beside i })

  -- ---- groups

  module _ (da db : Dictionary) where
    abbrev HasLines : Key → Option Inner → Type 0
    HasLines key found = IfSome found (λ inner. AreLinesOf k (group_rules da key) (group_rules db key) inner.lines.items)

    abbrev lines_by : Option Inner → List LevelLine
    lines_by found = option_map_or (λ inner. inner.lines.items) found []

    one_inner : (key : Key) (x y : Option Inner) → IsInnerOrNone da db t k key x → IsInnerOrNone da db next k key y → HasLines key x → HasLines key y
        → (option_map level_in x ≡ option_map level_in y) × (lines_by x ≡ lines_by y)
    one_inner key None None is are lines more = (refl, refl)
    one_inner key None (Some y) is are lines more = absurd (is are.0)
    one_inner key (Some x) None is are lines more = absurd (are is.0)
    one_inner key (Some x) (Some y) is are lines more =
        let exits = one_exits (group_rules da key) x.exits y.exits is.1.exits are.1.exits in
        let least : x.least ≡ y.least = is.1.least ∙ sym are.1.least in
        let same = lines_one k.listed (other_in k (group_rules da key)) (others_in k (group_rules da key)) (group_rules da key) (group_rules db key) x.lines.items y.lines.items lines more in
        (λ i. Some (record { least = least i; exits = exits.1 i }), same)

    abbrev IsKept : Recording → Outlook → Type 0
    IsKept recording outlook = IsOutlook da db recording k outlook

    abbrev HasKeptLines : Outlook → Type 0
    HasKeptLines outlook = HasLevelLines da db k outlook

    one_outlook : (x y : Outlook) → x.key ≡ y.key → IsKept t x → IsKept next y → HasKeptLines x → HasKeptLines y → (node_in x ≡ node_in y) × (lines_in x ≡ lines_in y)
    one_outlook x y same is are lines more =
        let moved = subst (λ (key : Key). IsInnerOrNone da db next k key y.inner) (sym same) are.inner_is in
        let moved_lines = subst (λ (key : Key). HasLines key y.inner) (sym same) more in
        let both = one_inner x.key x.inner y.inner is.inner_is moved lines moved_lines in
        let out : x.other ≡ y.other = is.other_is ∙ ap k.other same ∙ sym are.other_is in
        (λ i. record { other = out i; level = both.0 i }, both.1)

    pub one_list_of_outlooks : (xs ys : List Outlook) → map (λ (outlook : Outlook). outlook.key) xs ≡ map (λ (outlook : Outlook). outlook.key) ys → All (IsKept t) xs → All (IsKept next) ys
        → All HasKeptLines xs → All HasKeptLines ys → (map node_in xs ≡ map node_in ys) × (map lines_in xs ≡ map lines_in ys)
    one_list_of_outlooks [] [] same is are lines more = (refl, refl)
    one_list_of_outlooks [] (y ∷ ys) same is are lines more = absurd (let bad : [] ≡ y.key ∷ map (λ (outlook : Outlook). outlook.key) ys = same in cc)
    one_list_of_outlooks (x ∷ xs) [] same is are lines more = absurd (let bad : x.key ∷ map (λ (outlook : Outlook). outlook.key) xs ≡ [] = same in cc)
    one_list_of_outlooks (x ∷ xs) (y ∷ ys) same is are lines more =
        let first = one_outlook x y (ap (λ (ks : List Key). first_key ks x.key) same)
        (All-head (IsKept t) x xs is) (All-head (IsKept next) y ys are) (All-head HasKeptLines x xs lines) (All-head HasKeptLines y ys more) in
        let rest = one_list_of_outlooks xs ys (ap rest_keys same)
        (All-tail (IsKept t) x xs is) (All-tail (IsKept next) y ys are) (All-tail HasKeptLines x xs lines) (All-tail HasKeptLines y ys more) in
        (λ i. first.0 i ∷ rest.0 i, λ i. first.1 i ∷ rest.1 i)

-- ---- the applications of a command

same_apps : (d : Dictionary) (x y : Apps) → AreApps d x → AreApps d y → (code : ℕ) (class : Class) → apps_of x code class ≡ apps_of y code class
same_apps d x y is are code class = ap (λ (rows : List (Class × ℕ)). filter_map (row_app class) rows) (is code ∙ sym (are code))

module _ (da : Dictionary) (c : ℕ) (head : Head) (apps : List ℕ) where
  abbrev AreOpenBy : List ℕ → List ℕ → Type 0
  AreOpenBy first second = (found : Option ℕ) × IsLeastUnnamed first second found × (apps ≡ filter (selects da c head) second ++ option_to_list found)

  abbrev AreRecordedBy : List ℕ → List ℕ → Type 0
  AreRecordedBy first second = MatchOption head.app (AreOpenBy first second) (λ app. apps ≡ app ∷ [])

  recorded_by : (x y first second : Apps) → apps_of x head.code head.class ≡ apps_of first head.code head.class → apps_of y head.code head.class ≡ apps_of second head.code head.class
      → AreRecordedApps da (both_apps x y) c head apps → AreRecordedApps da (both_apps first second) c head apps
  recorded_by x y first second p q are =
      subst (λ (named : List ℕ). AreRecordedBy (apps_of first head.code head.class) named) q
      (subst (λ (named : List ℕ). AreRecordedBy named (apps_of y head.code head.class)) p are)

module _ (da db : Dictionary) (x y first second : Apps) (a : AreApps da x) (b : AreApps db y) (a_too : AreApps da first) (b_too : AreApps db second) (c : ℕ) (head : Head) where
  one_room : (has_room : Bool) (readings others : List Reading) → AreIfRoom has_room (AreReadings da db (both_apps x y) c head) readings
      → AreIfRoom has_room (AreReadings da db (both_apps first second) c head) others → readings ≡ others
  one_room true readings others (apps, recorded, is) (more, recorded_too, are) =
      let same : apps ≡ more = one_list_of_apps da x y c head apps more recorded
      (recorded_by da c head more first second x y (same_apps da first x a_too a head.code head.class) (same_apps db second y b_too b head.code head.class) recorded_too) in
      is ∙ ap (λ (apps : List ℕ). map as_sent apps ++ option_to_list (reading_after da db head)) same ∙ sym are
  one_room false readings others is are = is ∙ sym are

-- ---- the levels of a command

module _ (da db : Dictionary) (k : Costs) where
  one_between : (is_read : Bool) (a b : Option ℕ) (x y : List LevelLine) → AreLinesBetween da db k is_read a b x → AreLinesBetween da db k is_read a b y → x ≡ y
  one_between false a b x y is are = is ∙ sym are
  one_between true None b x y is are = is ∙ sym are
  one_between true (Some a) None x y is are = is ∙ sym are
  one_between true (Some a) (Some b) x y is are = lines_one k.listed (other_in k (rules_in da a)) (others_in k (rules_in da a)) (rules_in da a) (rules_in db b) x y is are

  one_level : (head : Head) (reading : Reading) (x y : List LevelLine) → IsCommandLevel da db k head reading x → IsCommandLevel da db k head reading y → x ≡ y
  one_level head reading x y is are = one_between _ _ _ x y is are

  one_levels : (head : Head) (readings : List Reading) (xs ys : List (List LevelLine)) → AreLevels (IsCommandLevel da db k head) readings xs
      → AreLevels (IsCommandLevel da db k head) readings ys → xs ≡ ys
  one_levels head [] xs ys is are = is ∙ sym are
  one_levels head (reading ∷ readings) [] ys is are = absurd is
  one_levels head (reading ∷ readings) (x ∷ xs) [] is are = absurd are
  one_levels head (reading ∷ readings) (x ∷ xs) (y ∷ ys) is are =
      let first = one_level head reading x y is.0 are.0 in
      let rest = one_levels head readings xs ys is.1 are.1 in
      λ i. first i ∷ rest i

-- ---- the start

abbrev pub levels_in : Start → List (List LevelLine)
levels_in start = map (λ lines. lines.items) start.levels.items

-- of two starts the same is used
pub record AreSame (s r : Start) : Type 0 where
  pub head : s.head ≡ r.head
  pub base : s.base ≡ r.base
  pub exits : plain_exits s.exits ≡ plain_exits r.exits
  pub readings : s.readings.items ≡ r.readings.items
  pub levels : levels_in s ≡ levels_in r

module _ (da db : Dictionary) (k : Costs) (t next : Recording) (places : (key : Key) → get same_key t.places key ≡ get same_key next.places key) (c : ℕ) where
  pub one_start : (s r : Start) → s.head ≡ r.head → IsStartOf da db t k c s → IsStartOf da db next k c r → AreSame s r
  one_start s r head is are =
      let both = one_exits k t next places (rules_in da c) is.exits are.exits is.are_exits are.are_exits in
      let base : s.base ≡ r.base = is.base_is ∙ both.0 ∙ sym are.base_is in
      let by_base = subst (λ (n : ℕ). AreIfRoom (nat_le n max_body) (AreReadings da db are.both c r.head) r.readings.items) (sym base) are.readings_are in
      let by_head = subst (λ (h : Head). AreIfRoom (nat_le s.base max_body) (AreReadings da db are.both c h) r.readings.items) (sym head) by_base in
      let readings = one_room da db is.both.first is.both.second are.both.first are.both.second is.are_first is.are_second are.are_first are.are_second c s.head
      (nat_le s.base max_body) s.readings.items r.readings.items is.readings_are by_head in
      let of_head = subst (λ (h : Head). AreLevels (IsCommandLevel da db k h) r.readings.items (levels_in r)) (sym head) are.levels_are in
      let of_readings = subst (λ (all : List Reading). AreLevels (IsCommandLevel da db k s.head) all (levels_in r)) (sym readings) of_head in
      record {
        head = head;
        base = base;
        exits = is.exits_are ∙ both.1 ∙ sym are.exits_are;
        readings = readings;
        levels = one_levels da db k s.head s.readings.items (levels_in s) (levels_in r) is.levels_are of_readings;
      }
