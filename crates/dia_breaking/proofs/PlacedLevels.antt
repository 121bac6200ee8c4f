-- The keys of a level that is reached are placed by B, where the level is free of the lines.
use Rattle.std.proofs.Common.{◌≡◌, ℕ, zero, suc, ◌+◌, ◌-◌, ◌≤◌, min, List, [], ◌∷◌, ◌++◌, length, map, Option, Some, refl, sym, ap, subst, ◌∙◌, arith, inl, inr}
use Rattle.std.specs.Prelude.{◌⊎◌, is_some, IsSome, IfSome, Contains, slice_get}
use Rattle.std.specs.List.{filter_map, cons_option}
use Rattle.std.specs.Option.{option_map, option_map_or}
use Rattle.std.proofs.lemmas.List.{length-map}
use Rattle.std.proofs.lemmas.Option.{none-some, same_Some, slice_get_within}
use Rattle.dia_wire.specs.declared.Key.{Key}
use Rattle.dia_wire.specs.Wire.{PlainAvp, key_of}
use Rattle.dia_book.specs.declared.DRule.{DRule}
use Rattle.dia_book.specs.Dictionary.{Dictionary, PlainDefinition, AreRules, IsDictionary, definitions}
use Rattle.dia_book.proofs.Members.{at_map, into_map, into_right}
use Rattle.dia_terms.specs.declared.Unknown.{Unknown}
use Rattle.dia_terms.specs.declared.Sends.{Sends}
use Rattle.dia_valid.specs.Valid.{Placed}
use Rattle.dia_valid.specs.Rules.{rules_in}
use Rattle.dia_valid.proofs.Members.{IsIn, in_contains, in_filter_map, some_of, there_is}
use Rattle.dia_breaking_sites.specs.Sites.{IsLevelOf}
use Rattle.dia_breaking_sites.specs.Selection.{max_body}
use Rattle.dia_breaking_avps.specs.Sent.{group_of}
use Rattle.dia_breaking_shortest.specs.Floors.{AreFloors, total}
use Rattle.dia_breaking_levels.specs.declared.line.Line.{Line as LevelLine}
use Rattle.dia_breaking_levels.specs.Levels.{FirstIsShortest, Shows, ShowsAt}
use Rattle.dia_breaking_levels.specs.LevelTests.{price}
use Rattle.dia_breaking_ways.specs.Walks.{IsWalk, PlainExits}
use Rattle.dia_breaking_ways.specs.declared.graph.Step.{Step}
use Rattle.dia_breaking_ways.specs.declared.graph.Reach.{Reach}
use Rattle.dia_breaking.specs.declared.exits.Inner.{Inner}
use Rattle.dia_breaking.specs.declared.exits.Outlook.{Outlook}
use Rattle.dia_breaking.specs.declared.line.Cause.TheVariants as causes
use Rattle.dia_breaking.specs.declared.line.Line.{Line}
use Rattle.dia_breaking.specs.declared.line.Site.{Site}
use Rattle.dia_breaking.specs.declared.own_breaks.OwnBreaks.{OwnBreaks}
use Rattle.dia_breaking.specs.Free.{IsFreeLevel, IsReadBy}
use Rattle.dia_breaking.specs.SentLevels.{IsSentKeys}
use Rattle.dia_breaking.specs.LevelCosts.{PicksShortest}
use Rattle.dia_breaking.specs.Lengths.{Costs, other_in, others_in}
use Rattle.dia_breaking.specs.Nodes.{node_in}
use Rattle.dia_breaking.specs.Listing.{Recorded, group_levels, level_lines, lines_in, with_room}
use Rattle.dia_breaking.specs.Orders.{of_each}
use Rattle.dia_breaking.specs.Outlooks.{group_rules}
use Rattle.dia_breaking.specs.Sites.{group_site, group_sites}
use Rattle.dia_breaking.specs.TheLines.{AreFacts, AreLinesOf, Facts, HasLevelLines, costs_in}
use Rattle.dia_breaking.specs.Sides.{sides}
use Rattle.dia_breaking.proofs.SentPrices.{stand_placed, stand_price}
use Rattle.dia_breaking.proofs.SentLevels.{sent_keys}
use Rattle.dia_breaking.proofs.EachLevelLine.{exact_each}
use Rattle.dia_breaking.proofs.Lists.{all_in, contains_at}
use Rattle.dia_breaking.proofs.ReadLevels.{IsStepTo, def_of, graph}
use Rattle.dia_breaking.proofs.RecordedLines.{IsRecordedIn, cause_is, in_each, with_enough}

-- ---- lists

-- where nothing is left out, each is at its place
pub at_kept : {X Y : Type 0} (f : X → Option Y) (xs : List X) → ((i : ℕ) (x : X) → slice_get xs i ≡ Some x → IsSome (f x)) → (i : ℕ) (x : X) (y : Y) → slice_get xs i ≡ Some x → f x ≡ Some y
    → slice_get (filter_map f xs) i ≡ Some y
at_kept f [] all i x y at is = absurd (none-some x at)
at_kept {X} {Y} f (z ∷ xs) all zero x y at is =
    subst (λ (o : Option Y). slice_get (cons_option o (filter_map f xs)) 0 ≡ Some y) (sym (ap f (same_Some z x at) ∙ is)) refl
at_kept {X} {Y} f (z ∷ xs) all (suc i) x y at is =
    let w = some_of (f z) (all 0 z refl) in
    subst (λ (o : Option Y). slice_get (cons_option o (filter_map f xs)) (suc i) ≡ Some y) (sym w.1) (at_kept f xs (λ k a here. all (suc k) a here) i x y at is)

pub rules_of_def : (d : Dictionary) (def : ℕ) (x : PlainDefinition) → slice_get (definitions d) def ≡ Some x → rules_in d def ≡ x.rules
rules_of_def d def x at = ap (λ (o : Option PlainDefinition). option_map_or (λ (y : PlainDefinition). y.rules) o []) at

pub sound_rules : (d : Dictionary) (def : ℕ) (x : PlainDefinition) → IsDictionary d → slice_get (definitions d) def ≡ Some x → AreRules x.rules
sound_rules d def x sound at = all_in (λ (y : PlainDefinition). AreRules y.rules) (definitions d) x sound.rules (contains_at (definitions d) def x at)

-- the line of a level is reported, if a message has room for it
pub level_recorded : (site way : ℕ) (found : List LevelLine) (line : LevelLine) → Contains found line → way + line.length ≤ max_body
    → IsIn (record { site = site; cause = causes.Level line; length = way + line.length }) (level_lines site way found)
level_recorded site way found line inside room =
    in_filter_map (λ (l : LevelLine). with_room site (way + l.length) (causes.Level l)) found line (record { site = site; cause = causes.Level line; length = way + line.length }) (in_contains found line inside)
    (with_enough site (way + line.length) (causes.Level line) room)

module _ (da db : Dictionary) (who : Sends) (u : Unknown) (made : Facts) (facts : AreFacts (sides da db who u) made) (sa : IsDictionary da) (sb : IsDictionary db)
    (shortest : PicksShortest da db (costs_in (sides da db who u) made)) (floors : AreFloors da who (costs_in (sides da db who u) made).listed) where
  abbrev k : Costs
  k = costs_in (sides da db who u) made

  -- a level is as B's rules say, if none of its lines shows that a message has room for
  pub level_placed : (x y : PlainDefinition) (a b : ℕ) → slice_get (definitions da) a ≡ Some x → slice_get (definitions db) b ≡ Some y → (found : List LevelLine)
      → AreLinesOf k x.rules y.rules found → (way : ℕ) → way ≤ max_body → (avps : List PlainAvp) → IsLevelOf da who x.rules (max_body - way) avps
      → ((line : LevelLine) → Contains found line → way + line.length ≤ max_body → ¬ ShowsAt x.rules y.rules (map key_of avps) line.reason line.key) → Placed y.rules (map key_of avps)
  level_placed x y a b at_a at_b found exact way fits avps level refuses =
      by (exact_each k.listed (other_in k x.rules) (others_in k x.rules) x.rules y.rules found (sound_rules da a x sa at_a) (sound_rules db b y sb at_b) first exact (map key_of avps)
      (stand_placed who x.rules (map key_of avps) keep.0) (omega (arith, same, room)))
    where
      keep : IsSentKeys who k.listed x.rules (max_body - way) (map key_of avps)
      keep = sent_keys da db who u k.listed floors x.rules (max_body - way) avps level

      room : total k.listed (map key_of avps) ≤ max_body - way
      room = keep.1

      same : total (price k.listed (other_in k x.rules) x.rules) (map key_of avps) ≡ total k.listed (map key_of avps)
      same = stand_price da who made.lengths x.rules (map key_of avps) keep.0

      first : FirstIsShortest (other_in k x.rules) (others_in k x.rules) x.rules y.rules
      first =
          subst (λ (rs : List DRule). FirstIsShortest (other_in k rs) (others_in k rs) rs y.rules) (rules_of_def da a x at_a)
          (subst (λ (rs : List DRule). FirstIsShortest (other_in k (rules_in da a)) (others_in k (rules_in da a)) (rules_in da a) rs) (rules_of_def db b y at_b) (shortest a b))

      by : Placed y.rules (map key_of avps) ⊎ ((line : LevelLine) × Contains found line × Shows (price k.listed (other_in k x.rules) x.rules) x.rules y.rules (map key_of avps) line)
          → Placed y.rules (map key_of avps)
      by (inl placed) = placed
      by (inr (line, inside, (shows, le))) = absurd (refuses line inside (omega (arith, same, le, room, fits)) shows)

  -- ---- the level of a group

  -- what is recorded of the keys that are reported is at their places
  same_place : (place : ℕ) (outlook : Outlook) → slice_get made.outlooks place ≡ Some outlook → (one : OwnBreaks) × (slice_get made.own place ≡ Some one) × (one.key ≡ outlook.key)
  same_place place outlook at =
      let keys : map (λ (o : Outlook). o.key) made.outlooks ≡ map (λ (one : OwnBreaks). one.key) made.own = facts.are_outlooks.0 ∙ sym facts.are_own.keys in
      at_map (λ (one : OwnBreaks). one.key) made.own place outlook.key
      (subst (λ (ks : List Key). slice_get ks place ≡ Some outlook.key) keys (into_map (λ (o : Outlook). o.key) made.outlooks place outlook at))

  module _ (start : PlainExits) (steps : List Step) (reached : List (Option Reach)) (top under : PlainDefinition)
      (walk : IsWalk (graph da db who u made.lengths made.others made.recording made.outlooks facts.is_recording facts.are_outlooks sa shortest floors start steps reached top under) steps reached)
      (sites : List Site) (lines : List Line) (c first count : ℕ) (own : List Site) (is_count : length own ≡ count) (sites_are : sites ≡ own ++ group_sites made.own first count steps) (few : length sites ≤ 18446744073709551615)
      (recorded : (t : Recorded) → IsIn t (of_each (group_levels count (map lines_in made.outlooks)) steps) → IsRecordedIn lines t) where
    abbrev here : Step → Option Site
    here step = option_map (λ (one : OwnBreaks). group_site first count step one.key) (slice_get made.own step.place)

    -- each step leads to a group, so each has its site
    each_site : (i : ℕ) (step : Step) → slice_get steps i ≡ Some step → IsSome (here step)
    each_site i step at =
        let s = walk.to_reached i step at in
        let within = slice_get_within reached step.place (Some s.reach) s.is_reach in
        let nodes : length reached ≡ length (map node_in made.outlooks) = walk.each in
        let outlooks = length-map made.outlooks (λ (o : Outlook). o.key) in
        let owns = length-map made.own (λ (one : OwnBreaks). one.key) in
        let mapped = length-map made.outlooks node_in in
        let keys = ap length (facts.are_outlooks.0 ∙ sym facts.are_own.keys) in
        let one = there_is made.own step.place (omega (arith, within, nodes, outlooks, owns, mapped, keys)) in
        ap (λ (o : Option OwnBreaks). is_some (option_map (λ (one : OwnBreaks). group_site first count step one.key) o)) one.1

    site_at : (j : ℕ) (step : Step) (site : Site) → slice_get steps j ≡ Some step → here step ≡ Some site → slice_get sites (min (count + j) 18446744073709551615) ≡ Some site
    site_at j step site at is =
        let whole : slice_get sites (count + j) ≡ Some site =
        ap (λ (n : ℕ). slice_get sites (n + j)) (sym is_count) ∙ ap (λ (xs : List Site). slice_get xs (length own + j)) sites_are
        ∙ into_right own (group_sites made.own first count steps) j site (at_kept here steps each_site j step site at is) in
        let within = slice_get_within sites (count + j) site whole in
        let number : min (count + j) 18446744073709551615 ≡ count + j = omega (arith, within, few) in
        ap (λ (n : ℕ). slice_get sites n) number ∙ whole

    module _ (j way : ℕ) (x y : PlainDefinition) (avps : List PlainAvp) (way_fits : way ≤ max_body) (level : IsLevelOf da who x.rules (max_body - way) avps)
        (s : IsStepTo da db who u made.lengths made.others made.recording made.outlooks facts.is_recording facts.are_outlooks sa shortest steps j way x y)
        (free : IsFreeLevel da db u sites lines c x y avps) where
      abbrev found : List LevelLine
      found = s.inner.lines.items

      found_is : lines_in s.outlook ≡ found
      found_is = ap (λ (o : Option Inner). option_map_or (λ (inner : Inner). inner.lines.items) o []) s.is_inner

      exact : AreLinesOf k x.rules y.rules found
      exact =
          let all = all_in (HasLevelLines da db k) made.outlooks s.outlook facts.have_lines (contains_at made.outlooks s.step.place s.outlook s.is_outlook) in
          let own = subst (λ (o : Option Inner). IfSome o (λ inner. AreLinesOf k (group_rules da s.outlook.key) (group_rules db s.outlook.key) inner.lines.items)) s.is_inner all in
          subst (λ (rs : List DRule). AreLinesOf k rs y.rules found) (ap (λ (o : Option PlainDefinition). option_map_or (λ (g : PlainDefinition). g.rules) o []) s.is_sent)
          (subst (λ (rs : List DRule). AreLinesOf k (group_rules da s.outlook.key) rs found)
          (ap (λ (o : Option PlainDefinition). option_map_or (λ (g : PlainDefinition). g.rules) o []) s.is_read) own)

      one : (one : OwnBreaks) × (slice_get made.own s.step.place ≡ Some one) × (one.key ≡ s.outlook.key)
      one = same_place s.step.place s.outlook s.is_outlook

      abbrev site : Site
      site = group_site first count s.step one.0.key

      is_here : here s.step ≡ Some site
      is_here = ap (λ (o : Option OwnBreaks). option_map (λ (one : OwnBreaks). group_site first count s.step one.key) o) one.1

      read : IsReadBy da db c site.place x y
      read = (ap (λ (key : Key). group_of da key) one.2 ∙ s.is_sent, ap (λ (key : Key). group_of db key) one.2 ∙ s.is_read)

      line_recorded : (line : LevelLine) → Contains found line → way + line.length ≤ max_body
          → IsRecordedIn lines (record { site = min (count + j) 18446744073709551615; cause = causes.Level line; length = s.step.way + line.length })
      line_recorded line inside room =
          let number = min (count + j) 18446744073709551615 in
          let line_here : Recorded = record { site = number; cause = causes.Level line; length = s.step.way + line.length } in
          let way_is = s.is_way in
          let whole = level_recorded number s.step.way found line inside (omega (arith, way_is, room)) in
          let at_place : slice_get (map lines_in made.outlooks) s.step.place ≡ Some found = into_map lines_in made.outlooks s.step.place s.outlook s.is_outlook ∙ ap (λ (ls : List LevelLine). Some ls) found_is in
          let part = subst (λ (o : Option (List LevelLine)). IsIn line_here (option_map_or (level_lines number s.step.way) o [])) (sym at_place) whole in
          recorded line_here (in_each (group_levels count (map lines_in made.outlooks)) steps j s.step line_here s.at part)

      pub group_placed : Placed y.rules (map key_of avps)
      group_placed =
          let a = def_of da s.outlook.key x s.is_sent in
          let b = def_of db s.outlook.key y s.is_read in
          level_placed x y a.0 b.0 a.1 b.1 found exact way way_fits avps level
          (λ line inside room shows.
          let t = line_recorded line inside room in
          free.level t.line line t.inside (cause_is t.line.cause (causes.Level line) t.cause refl) (site, ap (λ (n : ℕ). slice_get sites n) t.site ∙ site_at j s.step site s.at is_here, read) shows)
