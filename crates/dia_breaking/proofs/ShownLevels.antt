-- The messages of lines of levels show them.
use Rattle.std.proofs.Common.{◌≡◌, ℕ, zero, suc, ◌+◌, ◌≤◌, Bool, true, false, take, List, [], ◌∷◌, ◌++◌, length, map, Option, Some, None, refl, sym, ap, subst, ◌∙◌, arith, inl, inr}
use Rattle.std.specs.Prelude.{◌⊎◌, ◌^◌, ◌<◌, Contains, min, nat_le, is_some, IfSome, IsSome, MatchOption, slice_get, option_and_then, unwrap_or}
use Rattle.std.specs.List.{filter_map}
use Rattle.std.specs.Option.{option_map, option_map_or}
use Rattle.std.proofs.lemmas.List.{length-map}
use Rattle.std.proofs.lemmas.Option.{none-some, same_Some, slice_get_within}
use Rattle.dia_wire.specs.declared.Key.{Key}
use Rattle.dia_book.specs.declared.Class.{Class}
use Rattle.dia_book.specs.declared.DRule.{DRule}
use Rattle.dia_book.specs.Dictionary.{Dictionary, DictEntry, IsDictionary, PlainDefinition, entry_of, group_place, selected}
use Rattle.dia_book.proofs.Members.{at_map, into_left, into_map, into_right}
use Rattle.dia_terms.specs.declared.Levels.TheVariants as levels
use Rattle.dia_terms.specs.declared.Sends.{Sends}
use Rattle.dia_terms.specs.declared.Unknown.{Unknown}
use Rattle.dia_valid.specs.Valid.{IsValidOf, class_of, known}
use Rattle.dia_valid.specs.Rules.{rules_in}
use Rattle.dia_valid.proofs.GroupNumbers.{group_there}
use Rattle.dia_valid.proofs.KnownKeys.{known_by_entry}
use Rattle.dia_valid.proofs.Members.{IsIn, at_in, contains_in, in_append, in_at, in_contains, some_of, there_is}
use Rattle.dia_breaking_sites.specs.Sent.{AreBytes, own_policy}
use Rattle.dia_breaking_sites.specs.Selection.{max_body}
use Rattle.dia_breaking_avps.specs.Sent.{group_of}
use Rattle.dia_breaking_levels.specs.declared.line.Line.{Line as LevelLine}
use Rattle.dia_breaking_levels.specs.declared.line.Part.{Part}
use Rattle.dia_breaking_levels.specs.Chosen.{IsLineLevel, least_parts}
use Rattle.dia_breaking_levels.specs.Levels.{ShowsAt}
use Rattle.dia_breaking_levels.specs.Showing.{part_keys}
use Rattle.dia_breaking_levels.proofs.FloorFacts.{rules_in_are}
use Rattle.dia_breaking_levels.proofs.ShownLines.{lines_shown}
use Rattle.dia_breaking_shortest.specs.Bytes.{parts_bytes}
use Rattle.dia_breaking_shortest.proofs.FloorsOfLengths.{in_map}
use Rattle.dia_breaking_ways.specs.declared.graph.Step.{Step}
use Rattle.dia_breaking_ways.specs.Walks.{IsWalk}
use Rattle.dia_breaking.specs.declared.exits.Inner.{Inner}
use Rattle.dia_breaking.specs.declared.exits.Outlook.{Outlook}
use Rattle.dia_breaking.specs.declared.heads.Head.{Head}
use Rattle.dia_breaking.specs.declared.line.Cause.{Cause}
use Rattle.dia_breaking.specs.declared.line.Cause.TheVariants as causes
use Rattle.dia_breaking.specs.declared.line.Line.{Line}
use Rattle.dia_breaking.specs.declared.line.Site.{Site}
use Rattle.dia_breaking.specs.declared.own_breaks.OwnBreaks.{OwnBreaks}
use Rattle.dia_breaking.specs.declared.own_lines.Kind.{Kind}
use Rattle.dia_breaking.specs.declared.own_lines.Kind.TheVariants as kinds
use Rattle.dia_breaking.specs.declared.readings.Reading.{Reading}
use Rattle.dia_breaking.specs.declared.start.Start.{Start}
use Rattle.dia_breaking.specs.Exits.{IsOutlook, IsInnerOrNone}
use Rattle.dia_breaking.specs.Headers.{HasHead, head_in}
use Rattle.dia_breaking.specs.Lengths.{Costs, other_in, others_in}
use Rattle.dia_breaking.specs.Listing.{Recorded, Basis, IsListing, IsWalkFrom, basis_of, command_levels, group_levels, header_causes, header_line, header_lines, level_lines, lines_in, lines_of, numbers, own_lines, start_of, subject, records}
use Rattle.dia_breaking.specs.Corrected.{BreaksOnceCorrected, is_of_header}
use Rattle.dia_breaking.specs.Messages.{AreParts, IsAlone, IsInnermost, IsMessageFor, IsShowingLevel, Stock, command_head, group_number, header_bytes, levels_on, read_number, reads_in, sent_number, shortest_avp}
use Rattle.dia_breaking.specs.Nodes.{node_in}
use Rattle.dia_breaking.specs.Orders.{of_each}
use Rattle.dia_breaking.specs.Outlooks.{group_rules}
use Rattle.dia_breaking.specs.Readings.{AreReadings}
use Rattle.dia_breaking.specs.ShownLines.{ShowsRecorded}
use Rattle.dia_breaking.specs.Sides.{Sides, sides}
use Rattle.dia_breaking.specs.Sites.{command_site, command_sites, group_site, group_sites, other_head, read_site, refused_site}
use Rattle.dia_breaking.specs.TheLines.{AreFacts, AreIfRoom, AreLevels, AreLinesBetween, AreLinesOf, AreTheLines, Facts, HasLevelLines, IsCommandLevel, IsStartOf, costs_in}
use Rattle.dia_breaking.specs.RecordedMessages.{BreaksAsRecorded}
use Rattle.dia_breaking.specs.Words.{head_at, path_to}
use Rattle.dia_breaking.proofs.CostsOfSides.{AreCostsOf, have_listed, have_other_in, one_costs}
use Rattle.dia_breaking.proofs.Lists.{all_in, contains_at}
use Rattle.dia_breaking.proofs.LookedHeaders.{IsLookedAt, looked_at, reading_sent}
use Rattle.dia_breaking.proofs.Outlooks.{rules_of_group}
use Rattle.dia_breaking.proofs.PlacedLevels.{at_kept}
use Rattle.dia_breaking.proofs.ReadNumbers.{read_by_numbers}
use Rattle.dia_breaking.proofs.RecordedLevels.{from_each, from_sorted, level_in, no_head_level, no_own_level, of_levels}
use Rattle.dia_breaking.proofs.TooLong.{app_says}

-- ---- groups

-- the number of a group of a key is that of its definition
numbered_group : (d : Dictionary) (key : Key) (x : PlainDefinition) → group_of d key ≡ Some x → (def : ℕ) × (group_number d key ≡ Some def) × (rules_in d def ≡ group_rules d key)
numbered_group d key x is = by (entry_of d key) refl
  where
    by : (o : Option ℕ) → entry_of d key ≡ o → (def : ℕ) × (group_number d key ≡ Some def) × (rules_in d def ≡ group_rules d key)
    by None e =
        let unknown : known d key ≡ None = ap (λ (o : Option ℕ). option_and_then (λ (n : ℕ). slice_get d.entries n) o) e in
        absurd (none-some x (sym (ap (λ (o : Option DictEntry). option_and_then (λ (e : DictEntry). e.group) o) unknown) ∙ is))
    by (Some i) e =
        let (entry, at, knows) = known_by_entry d key i e in
        let group : entry.group ≡ Some x = sym (ap (λ (o : Option DictEntry). option_and_then (λ (e : DictEntry). e.group) o) knows) ∙ is in
        let there = group_there d i entry x at group in
        let def : ℕ = length (filter_map (λ (y : DictEntry). y.group) (take i d.entries)) in
        let number_is : group_number d key ≡ Some def = ap (λ (o : Option ℕ). option_and_then (group_place d) o) e ∙ there.0 in
        (def, number_is, rules_of_group d key def (Some def) refl (there.1 ∙ sym is))

-- ---- the level of a line

-- at the site with this number a level is read by definitions that have the line
record HasLevelLine (s : Sides) (k : Costs) (c : ℕ) (sites : List Site) (number : ℕ) (line : LevelLine) : Type 0 where
  site : Site
  sent : ℕ
  read : ℕ
  found : List LevelLine
  is_site : slice_get sites number ≡ Some site
  is_sent : sent_number s c site.place ≡ Some sent
  is_read : read_number s c site.place ≡ Some read
  exact : AreLinesOf k (rules_in s.sender sent) (rules_in s.receiver read) found
  inside : IsIn line found

level_reading : (P : Reading → List LevelLine → Type 0) (readings : List Reading) (all : List (List LevelLine)) → AreLevels P readings all → (i : ℕ) (found : List LevelLine)
    → slice_get all i ≡ Some found → (r : Reading) × (slice_get readings i ≡ Some r) × P r found
level_reading P [] all are i found at = absurd (none-some found (sym (ap (λ (ls : List (List LevelLine)). slice_get ls i) are) ∙ at))
level_reading P (q ∷ readings) [] are i found at = absurd are
level_reading P (q ∷ readings) (ls ∷ all) are zero found at = (q, refl, subst (P q) (same_Some ls found at) are.0)
level_reading P (q ∷ readings) (ls ∷ all) are (suc i) found at = level_reading P readings all are.1 i found at

module _ (da db : Dictionary) (who : Sends) (u : Unknown) (made : Facts) (start : Start) (c : ℕ) (sites : List Site) (recorded : List Recorded)
    (facts : AreFacts (sides da db who u) made) (head_is : HasHead da c start.head)
    (is_start : IsStartOf da db made.recording (costs_in (sides da db who u) made) c start) (listing : IsListing db (basis_of start made.own made.outlooks) sites recorded)
    (few : length sites ≤ 18446744073709551615) (code : ℕ) (class : Class) (app : ℕ) (looked : IsLookedAt da db c start.head code class app) where
  abbrev s : Sides
  s = sides da db who u

  abbrev basis : Basis
  basis = basis_of start made.own made.outlooks

  abbrev k : Costs
  k = costs_in s made

  abbrev head : Head
  head = start.head

  abbrev readings : List Reading
  readings = start.readings.items

  abbrev from : ℕ
  from = unwrap_or (start_of db basis) 0

  abbrev count : ℕ
  count = length readings

  abbrev own_sites : List Site
  own_sites = command_sites db head readings

  head_here : head_at da c ≡ Some head
  head_here = ap (λ (o : Option PlainDefinition). option_and_then (λ (x : PlainDefinition). head_in x.head) o) head_is.1 ∙ head_is.2

  -- ---- of the command

  between : (t : Bool) (a b : Option ℕ) (found : List LevelLine) (line : LevelLine) → AreLinesBetween da db k t a b found → IsIn line found
      → (x : ℕ) × (y : ℕ) × (a ≡ Some x) × (b ≡ Some y) × AreLinesOf k (rules_in da x) (rules_in db y) found
  between false a b found line are i = absurd (subst (IsIn line) are i)
  between true None b found line are i = absurd (subst (IsIn line) are i)
  between true (Some x) None found line are i = absurd (subst (IsIn line) are i)
  between true (Some x) (Some y) found line are i = (x, y, refl, refl, are)

  of_command : (i : ℕ) (found : List LevelLine) (line : LevelLine) → slice_get basis.levels i ≡ Some found → IsIn line found → HasLevelLine s k c sites i line
  of_command i found line at inside =
      let (r, r_at, is) = level_reading (IsCommandLevel da db k head) readings basis.levels is_start.levels_are i found at in
      let (x, y, x_is, y_is, exact) =
      between (command_site db head r).is_read (selected da head.code head.class r.app) (selected db head.code head.class r.read_as) found line is inside in
      let own_is = sent_here (nat_le start.base max_body) i r r_at is_start.readings_are in
      let same : x ≡ c = same_Some x c (sym x_is ∙ own_is) in
      record {
        site = command_site db head r;
        sent = c;
        read = y;
        found = found;
        is_site = ap (λ (xs : List Site). slice_get xs i) listing.sites_are ∙ into_left own_sites (group_sites made.own from count listing.steps) i (command_site db head r)
            (into_map (command_site db head) readings i r r_at);
        is_sent = sent_by (other_head db head r.read_as) r;
        is_read = read_by (other_head db head r.read_as) r ∙ y_is;
        exact = subst (λ (n : ℕ). AreLinesOf k (rules_in da n) (rules_in db y) found) same exact;
        inside = inside;
      }
    where
      sent_here : (t : Bool) (i : ℕ) (r : Reading) → slice_get readings i ≡ Some r → AreIfRoom t (AreReadings da db is_start.both c head) readings
          → selected da head.code head.class r.app ≡ Some c
      sent_here true i r at are =
          reading_sent da db is_start.both.first is_start.both.second is_start.are_first is_start.are_second c head looked.own looked.sent looked.how readings are i r at
      sent_here false i r at are = absurd (none-some r (sym (ap (λ (rs : List Reading). slice_get rs i) are) ∙ at))

      sent_by : (o : Option Head) (r : Reading) → sent_number s c (option_map_or (read_site head r) o (refused_site head r)).place ≡ Some c
      sent_by None r = refl
      sent_by (Some other) r = refl

      read_by : (o : Option Head) (r : Reading) → read_number s c (option_map_or (read_site head r) o (refused_site head r)).place ≡ selected db head.code head.class r.read_as
      read_by None r = ap (λ (o : Option Head). option_and_then (λ (h : Head). selected db h.code h.class r.read_as) o) head_here
      read_by (Some other) r = ap (λ (o : Option Head). option_and_then (λ (h : Head). selected db h.code h.class r.read_as) o) head_here

  -- ---- of a group

  abbrev site_of : Step → Option Site
  site_of step = option_map (λ (one : OwnBreaks). group_site from count step one.key) (slice_get made.own step.place)

  own_at : (place : ℕ) (outlook : Outlook) → slice_get made.outlooks place ≡ Some outlook → (one : OwnBreaks) × (slice_get made.own place ≡ Some one) × (one.key ≡ outlook.key)
  own_at place outlook at =
      let keys : map (λ (o : Outlook). o.key) made.outlooks ≡ map (λ (one : OwnBreaks). one.key) made.own = facts.are_outlooks.0 ∙ sym facts.are_own.keys in
      at_map (λ (one : OwnBreaks). one.key) made.own place outlook.key
      (subst (λ (ks : List Key). slice_get ks place ≡ Some outlook.key) keys (into_map (λ (o : Outlook). o.key) made.outlooks place outlook at))

  walk_is : (j : ℕ) (step : Step) → slice_get listing.steps j ≡ Some step → IsWalk basis.graph listing.steps listing.reached
  walk_is j step at = by (is_some (start_of db basis)) listing.is_walk
    where
      by : (t : Bool) → IsWalkFrom t basis.graph listing.steps listing.reached → IsWalk basis.graph listing.steps listing.reached
      by true walk = walk
      by false none = absurd (none-some step (sym (ap (λ (xs : List Step). slice_get xs j) none.0) ∙ at))

  each_site : (i : ℕ) (step : Step) → slice_get listing.steps i ≡ Some step → IsSome (site_of step)
  each_site i step at =
      let walk = walk_is i step at in
      let to = walk.to_reached i step at in
      let within = slice_get_within listing.reached step.place (Some to.reach) to.is_reach in
      let nodes : length listing.reached ≡ length (map node_in made.outlooks) = walk.each in
      let there = there_is made.outlooks step.place (let mapped = length-map made.outlooks node_in in omega (arith, within, nodes, mapped)) in
      let one = own_at step.place there.0 there.1 in
      ap (λ (o : Option OwnBreaks). is_some (option_map (λ (one : OwnBreaks). group_site from count step one.key) o)) one.1

  of_group : (j : ℕ) (step : Step) (t : Recorded) (line : LevelLine) → slice_get listing.steps j ≡ Some step → IsIn t (group_levels count (map lines_in made.outlooks) j step)
      → level_in t.cause ≡ Some line → HasLevelLine s k c sites t.site line
  of_group j step t line at i records_it = by (slice_get (map lines_in made.outlooks) step.place) refl i
    where
      place : ℕ
      place = min (count + j) 18446744073709551615

      at_inner : (outlook : Outlook) (o : Option Inner) → outlook.inner ≡ o → slice_get made.outlooks step.place ≡ Some outlook → t.site ≡ place
          → IsIn line (option_map_or (λ (inner : Inner). inner.lines.items) o []) → HasLevelLine s k c sites t.site line
      at_inner outlook None e here is_place inside = absurd inside
      at_inner outlook (Some inner) e here is_place inside =
          let all = all_in (HasLevelLines da db k) made.outlooks outlook facts.have_lines (contains_at made.outlooks step.place outlook here) in
          let exact : AreLinesOf k (group_rules da outlook.key) (group_rules db outlook.key) inner.lines.items =
          subst (λ (o : Option Inner). IfSome o (λ inner. AreLinesOf k (group_rules da outlook.key) (group_rules db outlook.key) inner.lines.items)) e all in
          let is = all_in (IsOutlook da db made.recording k) made.outlooks outlook facts.are_outlooks.1 (contains_at made.outlooks step.place outlook here) in
          let groups = (subst (λ (o : Option Inner). IsInnerOrNone da db made.recording k outlook.key o) e is.inner_is).0 in
          let x = some_of (group_of da outlook.key) groups.0 in
          let y = some_of (group_of db outlook.key) groups.1 in
          let (a, a_is, a_rules) = numbered_group da outlook.key x.0 x.1 in
          let (b, b_is, b_rules) = numbered_group db outlook.key y.0 y.1 in
          let one = own_at step.place outlook here in
          let site = group_site from count step one.0.key in
          let own_site : site_of step ≡ Some site = ap (λ (o : Option OwnBreaks). option_map (λ (one : OwnBreaks). group_site from count step one.key) o) one.1 in
          let size = length-map readings (command_site db head) in
          let whole : slice_get sites (count + j) ≡ Some site =
          ap (λ (n : ℕ). slice_get sites (n + j)) (sym size) ∙ ap (λ (xs : List Site). slice_get xs (length own_sites + j)) listing.sites_are
          ∙ into_right own_sites (group_sites made.own from count listing.steps) j site (at_kept site_of listing.steps each_site j step site at own_site) in
          let within = slice_get_within sites (count + j) site whole in
          let number_is : t.site ≡ count + j = is_place ∙ (let same : min (count + j) 18446744073709551615 ≡ count + j = omega (arith, within, few) in same) in
          record {
            site = site;
            sent = a;
            read = b;
            found = inner.lines.items;
            is_site = ap (λ (n : ℕ). slice_get sites n) number_is ∙ whole;
            is_sent = ap (λ (q : Key). group_number da q) one.2 ∙ a_is;
            is_read = ap (λ (q : Key). group_number db q) one.2 ∙ b_is;
            exact = subst (λ (rs : List DRule). AreLinesOf k rs (rules_in db b) inner.lines.items) (sym a_rules)
                (subst (λ (rs : List DRule). AreLinesOf k (group_rules da outlook.key) rs inner.lines.items) (sym b_rules) exact);
            inside = inside;
          }

      by : (o : Option (List LevelLine)) → slice_get (map lines_in made.outlooks) step.place ≡ o → IsIn t (option_map_or (level_lines place step.way) o []) → HasLevelLine s k c sites t.site line
      by None e h = absurd h
      by (Some found) e h =
          let (outlook, here, same) = at_map lines_in made.outlooks step.place found e in
          let parts = of_levels place step.way found t line h records_it in
          at_inner outlook outlook.inner refl here parts.0 (subst (IsIn line) (sym same) parts.1)

  -- ---- of all

  level_of : (t : Recorded) (line : LevelLine) → IsIn t recorded → level_in t.cause ≡ Some line → HasLevelLine s k c sites t.site line
  level_of t line i records_it =
      own_data (in_append _ (by kinds.Data) t (from_sorted (λ (x : Recorded). x.site) (lines_of db basis (numbers from count) listing.steps listing.reached) recorded t listing.lines_are i))
    where
      heads : List Recorded
      heads = of_each (header_lines db head start.base) readings

      own_levels : List Recorded
      own_levels = of_each command_levels basis.levels

      inner : List Recorded
      inner = of_each (group_levels count (map lines_in made.outlooks)) listing.steps

      by : Kind → List Recorded
      by kind = own_lines kind from count made.own listing.reached

      none : level_in t.cause ≡ None → HasLevelLine s k c sites t.site line
      none e = absurd (none-some line (sym e ∙ records_it))

      of_own : (kind : Kind) → IsIn t (by kind) → HasLevelLine s k c sites t.site line
      of_own kind j = none (no_own_level kind from count made.own listing.reached t j)

      at_head : IsIn t heads → HasLevelLine s k c sites t.site line
      at_head j =
          let (n, r, at, h) = from_each (header_lines db head start.base) readings t j in
          let p = at_in (header_lines db head start.base n r) t h in
          let (cause, here, same) = at_map (header_line start.base n) (header_causes db head r.read_as) p.place t p.at in
          none (ap (λ (x : Recorded). level_in x.cause) (sym same) ∙ no_head_level db head r.read_as cause (in_at (header_causes db head r.read_as) p.place cause here))

      at_levels : IsIn t heads ⊎ IsIn t own_levels → HasLevelLine s k c sites t.site line
      at_levels (inl j) = at_head j
      at_levels (inr j) =
          let (n, found, at, h) = from_each command_levels basis.levels t j in
          let parts = of_levels n 0 found t line h records_it in
          subst (λ (m : ℕ). HasLevelLine s k c sites m line) (sym parts.0) (of_command n found line at parts.1)

      at_inner : IsIn t (heads ++ own_levels) ⊎ IsIn t inner → HasLevelLine s k c sites t.site line
      at_inner (inl j) = at_levels (in_append heads own_levels t j)
      at_inner (inr j) =
          let (n, step, at, h) = from_each (group_levels count (map lines_in made.outlooks)) listing.steps t j in
          of_group n step t line at h records_it

      unknown : IsIn t (heads ++ own_levels ++ inner) ⊎ IsIn t (by kinds.Unknown) → HasLevelLine s k c sites t.site line
      unknown (inl j) = at_inner (in_append (heads ++ own_levels) inner t j)
      unknown (inr j) = of_own kinds.Unknown j

      flags : IsIn t (heads ++ own_levels ++ inner ++ by kinds.Unknown) ⊎ IsIn t (by kinds.MBit) → HasLevelLine s k c sites t.site line
      flags (inl j) = unknown (in_append (heads ++ own_levels ++ inner) (by kinds.Unknown) t j)
      flags (inr j) = of_own kinds.MBit j

      own_data : IsIn t (heads ++ own_levels ++ inner ++ by kinds.Unknown ++ by kinds.MBit) ⊎ IsIn t (by kinds.Data) → HasLevelLine s k c sites t.site line
      own_data (inl j) = flags (in_append (heads ++ own_levels ++ inner ++ by kinds.Unknown) (by kinds.MBit) t j)
      own_data (inr j) = of_own kinds.Data j

-- ---- the message

pub level_lines_shown : (s : Sides) (k : Stock) (c : ℕ) (sites : List Site) (lines : List Line) (line : Line) (recorded : LevelLine) (bytes : List ℕ)
    → IsDictionary s.sender → IsDictionary s.receiver → length sites < 2 ^ 64 → AreTheLines s c sites (map records lines) → AreCostsOf s k.costs
    → Contains lines line → line.cause ≡ causes.Level recorded → AreBytes bytes → BreaksAsRecorded s k c sites line bytes → ShowsRecorded s k c sites line recorded bytes
level_lines_shown s k c sites lines line recorded bytes sa sb few all costs inside cause are broken = by (command_head s.sender c) broken.message
  where
    following : (site : Site) × (slice_get (path_to sites line.site) 0 ≡ Some site) × BreaksOnceCorrected s c site.place bytes
    following = broken.following (ap is_of_header cause)

    sent : IsValidOf s.sender (own_policy s.sends) levels.Any bytes c
    sent = following.2.sent

    is_head : head_in sent.command.head ≡ Some all.start.head
    is_head = ap (λ (y : PlainDefinition). head_in y.head) (same_Some sent.command all.head_is.0 (sym sent.is_command ∙ all.head_is.1)) ∙ all.head_is.2

    looked : IsLookedAt s.sender s.receiver c all.start.head sent.header.code (class_of sent.header.flags) sent.header.app
    looked = looked_at s.sender s.receiver sa sb c sent.command sent.is_command all.start.head is_head sent.header.code (class_of sent.header.flags) sent.header.app sent.select
        (app_says sent.header sent.avps bytes sent.message are)

    here : HasLevelLine s (costs_in s all.made) c sites line.site recorded
    here = level_of s.sender s.receiver s.sends s.unknown all.made all.start c sites (map records lines) all.facts all.head_is all.is_start all.is_listing (omega (arith, few)) sent.header.code
        (class_of sent.header.flags) sent.header.app looked (records line) recorded (in_map records lines line (in_contains lines line inside)) (ap (λ (q : Cause). level_in (subject q)) cause)

    costs_are : k.costs ≡ costs_in s all.made
    costs_are = one_costs s all.made k.costs all.facts costs

    shown : (parts : List Part)
        → IsLineLevel (reads_in k.costs (rules_in s.sender here.sent) (rules_in s.receiver here.read)) recorded parts
        → ShowsAt (rules_in s.sender here.sent) (rules_in s.receiver here.read) (part_keys parts) recorded.reason recorded.key
    shown parts level =
        let made = all.made in
        let costs_here = costs_in s made in
        let rules = rules_in s.sender here.sent in
        let moved : IsLineLevel (reads_in costs_here rules (rules_in s.receiver here.read)) recorded parts =
        subst (λ (q : Costs). IsLineLevel (reads_in q rules (rules_in s.receiver here.read)) recorded parts) costs_are level in
        lines_shown costs_here.listed (other_in costs_here rules) (others_in costs_here rules) rules (rules_in s.receiver here.read) here.found recorded parts
        (rules_in_are s.sender here.sent sa) (rules_in_are s.receiver here.read sb) (have_listed s.sender s.sends made.lengths) (have_other_in s.sender s.sends made.lengths made.others rules) here.exact
        (contains_in here.found recorded here.inside) moved

    of_parts : (head : Head) (inner : List ℕ) (parts : List Part) → AreParts s k c here.site.place here.sent (causes.Level recorded) parts → inner ≡ parts_bytes (shortest_avp s k) parts
        → bytes ≡ header_bytes head line (slice_get (path_to sites line.site) 0) ++ levels_on s k c line.length (path_to sites line.site) inner → ShowsRecorded s k c sites line recorded bytes
    of_parts head inner parts made inner_is bytes_are =
        let numbers = read_by_numbers s c here.site.place here.sent here.read here.is_sent here.is_read in
        let shows = shown parts (subst (λ (o : Option ℕ). MatchOption o (parts ≡ least_parts (others_in k.costs (rules_in s.sender here.sent)) (rules_in s.sender here.sent))
        (λ other. IsLineLevel (reads_in k.costs (rules_in s.sender here.sent) (rules_in s.receiver other)) recorded parts)) here.is_read made) in
        record {
          head = head;
          site = here.site;
          own = numbers.own;
          other = numbers.other;
          parts = parts;
          is_site = here.is_site;
          are_read = numbers.are_read;
          message = bytes_are ∙ ap (λ (xs : List ℕ). header_bytes head line (slice_get (path_to sites line.site) 0) ++ levels_on s k c line.length (path_to sites line.site) xs) inner_is;
          shows = subst (λ (rs : List DRule). ShowsAt rs numbers.other.rules (part_keys parts) recorded.reason recorded.key) numbers.own_rules
              (subst (λ (rs : List DRule). ShowsAt (rules_in s.sender here.sent) rs (part_keys parts) recorded.reason recorded.key) numbers.other_rules shows);
        }

    of_message : (head : Head) → IsMessageFor s k c sites line head bytes → ShowsRecorded s k c sites line recorded bytes
    of_message head (inner, innermost, bytes_are) =
        let at = subst (λ (o : Option Site). IsInnermost s k c line.cause o inner) here.is_site innermost in
        let alone : IsAlone s k c here.site.place (causes.Level recorded) inner = subst (λ (q : Cause). IsShowingLevel s k c q here.site.place inner) cause at in
        let (parts, made, inner_is) = subst (λ (o : Option ℕ). MatchOption o (inner ≡ [])
        (λ def. (parts : List Part) × AreParts s k c here.site.place def (causes.Level recorded) parts × (inner ≡ parts_bytes (shortest_avp s k) parts))) here.is_sent alone in
        of_parts head inner parts made inner_is bytes_are

    by : (o : Option Head) → MatchOption o (bytes ≡ []) (λ head. IsMessageFor s k c sites line head bytes) → ShowsRecorded s k c sites line recorded bytes
    by None none = let size = broken.size in let empty : length bytes ≡ 0 = ap length none in absurd (omega (arith, size, empty))
    by (Some head) message = of_message head message
