-- What there is to report of a key has its place, and each level with an AVP of the key leads to it.
use Rattle.std.proofs.Common.{◌≡◌, ℕ, ◌+◌, ◌≤◌, Bool, true, false, List, [], map, Option, Some, None, refl, sym, ap, subst, ◌∙◌, arith}
use Rattle.std.specs.Prelude.{◌||◌, is_some, IsSome, Contains, position, slice_get, option_and_then}
use Rattle.std.specs.HashMap.{get}
use Rattle.std.specs.List.{filter_map}
use Rattle.std.specs.Option.{option_map, option_map_or}
use Rattle.std.proofs.lemmas.Bool.{and_from, both_ways}
use Rattle.std.proofs.lemmas.Option.{none-some, same_Some}
use Rattle.dia_wire.specs.declared.Key.{Key}
use Rattle.dia_book.specs.Keys.{same_key}
use Rattle.dia_book.specs.declared.DRule.{DRule}
use Rattle.dia_book.specs.Dictionary.{Dictionary, PlainDefinition, AreRules, IsDictionary, definitions, entry_of, lists_key}
use Rattle.dia_book.proofs.Members.{at_Contains, at_filter_map, at_map, into_map, position-is_some}
use Rattle.dia_book.proofs.SameKeys.{same_key-equal, same_key-refl, same_key-true}
use Rattle.dia_terms.specs.declared.Unknown.{Unknown}
use Rattle.dia_terms.specs.declared.Sends.{Sends}
use Rattle.dia_valid.proofs.Entries.{at_position}
use Rattle.dia_valid.specs.Valid.{is_listed}
use Rattle.dia_valid.specs.Rules.{rules_in}
use Rattle.dia_valid.proofs.Members.{IsIn, all_of, any_in, at_in, contains_in, in_any, in_at, in_filter_map, into_filter, some_of}
use Rattle.dia_breaking_sites.specs.Sent.{StandAsSent}
use Rattle.dia_breaking_sites.specs.Selection.{max_body}
use Rattle.dia_breaking_avps.specs.Sent.{group_of}
use Rattle.dia_breaking_shortest.specs.Floors.{total}
use Rattle.dia_breaking_ways.specs.Walks.{Leads, By_rule, By_wildcard, IsUnlisted}
use Rattle.dia_breaking.specs.declared.exits.Exits.{Exits}
use Rattle.dia_breaking.specs.declared.exits.Outlook.{Outlook}
use Rattle.dia_breaking.specs.declared.keys.Own.{Own}
use Rattle.dia_breaking.specs.declared.keys.Recording.{Recording}
use Rattle.dia_breaking.specs.declared.levels.LevelCost.{LevelCost}
use Rattle.dia_breaking.specs.Exits.{AreOutlooks, IsOutlook, exit_by}
use Rattle.dia_breaking.specs.Lengths.{Costs, costs_by, listed_length, other_in, other_length, others_in}
use Rattle.dia_breaking.specs.LevelCosts.{IsCostOf, PicksShortest, cost_in, with_listed}
use Rattle.dia_breaking.specs.Meanings.{IsReadAsOther}
use Rattle.dia_breaking.specs.Nodes.{exits_in, node_in}
use Rattle.dia_breaking.specs.Taken.{AreGroups}
use Rattle.dia_breaking.specs.Recording.{IsExactlyOwn, IsExactRecording, is_news}
use Rattle.dia_breaking.specs.Sides.{sides}
use Rattle.dia_breaking.proofs.SentPrices.{other_open, stand_open, stand_placed, stand_price}
use Rattle.dia_breaking.proofs.LevelCosts.{cost_of as is_cost, one_is_shortest}
use Rattle.dia_breaking.proofs.Lists.{all_in, contains_at}
use Rattle.dia_breaking.proofs.SentKeys.{sent_of}
use Rattle.dia_breaking.proofs.Shortest.{lists_some}

by_own : (b c d : Bool) → b ≡ true → ((b || c) || d) ≡ true
by_own true c d e = refl
by_own false c d e = absurd (both_ways false refl e)

by_group : (b c d : Bool) → c ≡ true → ((b || c) || d) ≡ true
by_group true c d e = refl
by_group false true d e = refl
by_group false false d e = absurd (both_ways false refl e)

by_other : (b c d : Bool) → d ≡ true → ((b || c) || d) ≡ true
by_other true c d e = refl
by_other false true d e = refl
by_other false false d e = e

module _ (da db : Dictionary) (who : Sends) (u : Unknown) (lengths : List ℕ) (others : List Key) (recording : Recording) (outlooks : List Outlook) (records : IsExactRecording (sides da db who u) recording)
    (are : AreOutlooks da db recording (costs_by da who lengths others) outlooks) where
  abbrev pub listed : Key → ℕ
  listed = listed_length da who lengths

  abbrev pub other : Key → ℕ
  other = other_length da who lengths

  abbrev pub k : Costs
  k = costs_by da who lengths others

  abbrev pub cost : List DRule → LevelCost
  cost rules = cost_in k rules

  -- ---- places

  -- what is recorded of a key
  pub record Kept (key : Key) : Type 0 where
    pub place : ℕ
    pub own : Own
    pub outlook : Outlook
    pub is_place : get same_key recording.places key ≡ Some place
    pub is_own : slice_get recording.own.items place ≡ Some own
    pub own_key : own.key ≡ key
    pub is_outlook : slice_get outlooks place ≡ Some outlook
    pub outlook_key : outlook.key ≡ key
    pub has : IsOutlook da db recording k outlook

  pub key_at : (place : ℕ) (q : Key) (own : Own) → get same_key recording.places q ≡ Some place → slice_get recording.own.items place ≡ Some own → own.key ≡ q
  key_at place q own at is =
      let (x, here, same) = at_position (λ (o : Own). same_key o.key q) recording.own.items place (sym (records.places q) ∙ at) in
      let one : x ≡ own = same_Some x own (sym here ∙ is) in
      ap (λ (o : Own). o.key) (sym one) ∙ same_key-true x.key q same

  -- what is reported has its place
  placed : (key : Key) (x : Own) → IsIn x recording.own.items → x.key ≡ key → Kept key
  placed key x inside same =
      let has_key : Own → Bool = λ o. same_key o.key key in
      let a = at_in recording.own.items x inside in
      let (place, e) = some_of (position has_key recording.own.items) (position-is_some has_key recording.own.items a.place x a.at (same_key-equal x.key key same)) in
      let (own, here, t) = at_position has_key recording.own.items place e in
      let own_key : own.key ≡ key = same_key-true own.key key t in
      let o = at_map (λ (outlook : Outlook). outlook.key) outlooks place own.key
      (subst (λ (xs : List Key). slice_get xs place ≡ Some own.key) (sym are.0) (into_map (λ (own : Own). own.key) recording.own.items place own here)) in
      record {
        place = place;
        own = own;
        outlook = o.0;
        is_place = records.places key ∙ e;
        is_own = here;
        own_key = own_key;
        is_outlook = o.1;
        outlook_key = o.2 ∙ own_key;
        has = all_in (IsOutlook da db recording k) outlooks o.0 are.1 (contains_at outlooks place o.0 o.1);
      }

  -- what is found of each key that is sent
  pub record Found (key : Key) : Type 0 where
    pub own : Own
    pub inside : IsIn own records.all
    pub own_key : own.key ≡ key
    pub exact : IsExactlyOwn (sides da db who u) own

  pub found : (key : Key) → Contains records.keys key → Found key
  found key there =
      let a = at_Contains records.keys key there in
      let (x, at, same) = at_map (λ (own : Own). own.key) records.all a.place key (subst (λ (xs : List Key). slice_get xs a.place ≡ Some key) (sym records.each.0) a.at) in
      let inside = in_at records.all a.place x at in
      record { own = x; inside = inside; own_key = same; exact = all_of (IsExactlyOwn (sides da db who u)) records.all x records.each.1 inside }

  -- that of which there is something to report is recorded
  news_kept : (key : Key) (f : Found key) → is_news f.own ≡ true → Kept key
  news_kept key f news = placed key f.own (subst (λ (xs : List Own). IsIn f.own xs) (sym records.recorded_are) (into_filter is_news records.all f.own f.inside news)) f.own_key

  kept : (key : Key) → IsSome (entry_of da key) → ((own : Own) → IsExactlyOwn (sides da db who u) own → own.key ≡ key → is_news own ≡ true) → Kept key
  kept key known news = let f = found key ((sent_of da db who records.keys records.sent).own key known) in news_kept key f (news f.own f.exact f.own_key)

  pub own_kept : (key : Key) (f : Found key) → f.own.breaks ≡ true → Kept key
  own_kept key f breaks = news_kept key f (by_own f.own.breaks f.own.is_group f.own.is_other breaks)

  pub other_kept : (key : Key) → IsSome (entry_of da key) → IsReadAsOther (sides da db who u) key → Kept key
  other_kept key known is = kept key known (λ own exact same.
      by_other own.breaks own.is_group own.is_other (exact.other.1 (subst (λ (q : Key). IsReadAsOther (sides da db who u) q) (sym same) is)))

  pub group_kept : (key : Key) → IsSome (entry_of da key) → AreGroups da db key → Kept key
  group_kept key known both = kept key known (λ own exact same.
      let here : AreGroups da db own.key = subst (λ (q : Key). AreGroups da db q) (sym same) both in
      by_group own.breaks own.is_group own.is_other (exact.group ∙ and_from (is_some (group_of da own.key)) (is_some (group_of db own.key)) here.0 here.1))

  -- ---- where levels lead

  exit_key : (c : LevelCost) (rule : DRule) (place n : ℕ) → exit_by recording listed c rule ≡ Some (place, n) → (q : Key) × (rule.key ≡ Some q) × (get same_key recording.places q ≡ Some place)
  exit_key c rule place n e = by rule.key refl e
    where
      by_place : (q : Key) → rule.key ≡ Some q → (o : Option ℕ) → get same_key recording.places q ≡ o → option_map {U = ℕ × ℕ} (λ (m : ℕ). (m, with_listed c rule (listed q))) o ≡ Some (place, n)
          → (q : Key) × (rule.key ≡ Some q) × (get same_key recording.places q ≡ Some place)
      by_place q is None at e = absurd (none-some (place, n) e)
      by_place q is (Some m) at e = (q, is, at ∙ ap (λ (p : ℕ × ℕ). Some p.0) (same_Some (m, with_listed c rule (listed q)) (place, n) e))

      by : (o : Option Key) → rule.key ≡ o
          → option_and_then (λ (q : Key). option_map {U = ℕ × ℕ} (λ (m : ℕ). (m, with_listed c rule (listed q))) (get same_key recording.places q)) o ≡ Some (place, n)
          → (q : Key) × (rule.key ≡ Some q) × (get same_key recording.places q ≡ Some place)
      by None is e = absurd (none-some (place, n) e)
      by (Some q) is e = by_place q is (get same_key recording.places q) refl e

  -- by a cost of levels that is no more than they take
  module _ (rules : List DRule) (exits : Exits) (c : LevelCost) (listed_are : exits.listed.items ≡ filter_map (exit_by recording listed c) rules) (beside_is : exits.beside ≡ c.beside)
      (costs : IsCostOf listed (other_in k rules) rules c) (keys : List Key) (stand : StandAsSent who rules keys) (room : total listed keys ≤ max_body) (key : Key) (comes : Contains keys key) where
    abbrev pub Led : ℕ → Type 0
    Led place = (inner : ℕ) × Leads (map node_in outlooks) (exits_in exits) place inner × (inner ≤ total listed keys)

    by_rule : (p : Kept key) → is_listed rules key ≡ true → Led p.place
    by_rule p e =
        let (rule, i, l) = any_in (lists_key key) rules e in
        let is : rule.key ≡ Some key = lists_some key rule l in
        let exit : exit_by recording listed c rule ≡ Some (p.place, with_listed c rule (listed key)) =
        ap (λ (o : Option Key). option_and_then (λ (q : Key). option_map {U = ℕ × ℕ} (λ (m : ℕ). (m, with_listed c rule (listed q))) (get same_key recording.places q)) o) is
        ∙ ap (λ (o : Option ℕ). option_map {U = ℕ × ℕ} (λ (m : ℕ). (m, with_listed c rule (listed key))) o) p.is_place in
        let inside = in_filter_map (exit_by recording listed c) rules rule (p.place, with_listed c rule (listed key)) i exit in
        let lists : Contains exits.listed.items (p.place, with_listed c rule (listed key)) =
        contains_in exits.listed.items (p.place, with_listed c rule (listed key)) (subst (λ (xs : List (ℕ × ℕ)). IsIn (p.place, with_listed c rule (listed key)) xs) (sym listed_are) inside) in
        let least = costs.listed_within key rule (contains_in rules rule i, is) keys (stand_placed who rules keys stand) comes in
        let alike = stand_price da who lengths rules keys stand in
        (with_listed c rule (listed key), By_rule lists, omega (arith, least, alike))

    unlisted : (q : Key) (p : Kept q) → is_listed rules q ≡ false → IsUnlisted exits.listed.items p.place
    unlisted q p e n inside =
        let a = at_Contains exits.listed.items (p.place, n) inside in
        let (j, rule, at, is) = at_filter_map (exit_by recording listed c) rules a.place (p.place, n) (subst (λ (xs : List (ℕ × ℕ)). slice_get xs a.place ≡ Some (p.place, n)) listed_are a.at) in
        let (key, is_key, at_key) = exit_key c rule p.place n is in
        let alike : key ≡ q = sym (key_at p.place key p.own at_key p.is_own) ∙ p.own_key in
        let lists : lists_key q rule ≡ true = ap (λ (o : Option Key). option_map_or (same_key q) o false) (is_key ∙ ap (λ (k : Key). Some k) alike) ∙ same_key-refl q in
        both_ways (is_listed rules q) e (in_any (lists_key q) rules rule (in_at rules j rule at) lists)

    -- where the key comes through the wildcard, another may that takes no more
    pub by_wildcard : is_listed rules key ≡ false → (q : Key) (p : Kept q) → is_listed rules q ≡ false → other q ≤ other key → Led p.place
    by_wildcard e q p none le =
        let least = costs.others_within key e keys (stand_placed who rules keys stand) comes in
        let alike = stand_price da who lengths rules keys stand in
        let own : other_in k rules key ≡ other key = other_open da who lengths rules key (stand_open who rules keys stand key comes e) in
        let is_other : p.outlook.other ≡ other q = p.has.other_is ∙ ap other p.outlook_key in (
          exits.beside + p.outlook.other,
          By_wildcard (node_in p.outlook) (into_map node_in outlooks p.place p.outlook p.is_outlook) (unlisted q p none) refl,
          omega (arith, least, alike, own, beside_is, is_other, room, le),
        )

    pub led : (p : Kept key) → Led p.place
    led p = by (is_listed rules key) refl
      where
        by : (b : Bool) → is_listed rules key ≡ b → Led p.place
        by true e = by_rule p e
        by false e = by_wildcard e key p e (omega arith)

  pub costs_at : IsDictionary da → PicksShortest da db k → (def : ℕ) (x : PlainDefinition) → slice_get (definitions da) def ≡ Some x
      → IsCostOf listed (other_in k x.rules) x.rules (cost x.rules)
  costs_at sa shortest def x at =
      let rules : rules_in da def ≡ x.rules = ap (λ (o : Option PlainDefinition). option_map_or (λ (y : PlainDefinition). y.rules) o []) at in
      subst (λ (rs : List DRule). IsCostOf listed (other_in k rs) rs (cost rs)) rules
      (is_cost listed (other_in k (rules_in da def)) (others_in k (rules_in da def)) (rules_in da def) (cost (rules_in da def))
      (subst AreRules (sym rules) (all_in (λ (def : PlainDefinition). AreRules def.rules) (definitions da) x sa.rules (contains_at (definitions da) def x at)))
      (one_is_shortest (other_in k (rules_in da def)) (others_in k (rules_in da def)) (rules_in da def) db (shortest def)) refl refl)
