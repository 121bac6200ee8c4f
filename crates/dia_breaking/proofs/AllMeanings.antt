-- The meanings that are found are all.
use Rattle.std.proofs.Common.{◌≡◌, ℕ, ◌-◌, ◌≤◌, Bool, true, List, [], length, map, Option, Some, None, refl, sym, ap, subst, ◌∙◌, arith, inl, inr}
use Rattle.std.specs.Prelude.{◌⊎◌, is_some, IsSome, Contains, slice_get, option_and_then, unwrap_or, if◌then◌else◌}
use Rattle.std.specs.Option.{option_map}
use Rattle.std.proofs.lemmas.Option.{none-some, same_Some}
use Rattle.dia_wire.specs.declared.Key.{Key}
use Rattle.dia_wire.specs.Wire.{PlainAvp, key_of}
use Rattle.dia_book.specs.Dictionary.{Dictionary, DictEntry, PlainDefinition, IsDictionary, entry_of}
use Rattle.dia_book.proofs.Members.{at_filter_map, at_map, into_map, position-is_some}
use Rattle.dia_terms.specs.declared.Unknown.{Unknown}
use Rattle.dia_terms.specs.declared.Sends.{Sends}
use Rattle.dia_valid.proofs.Members.{IsIn, all_of, at_in, in_append, in_at, in_contains}
use Rattle.dia_breaking_sites.specs.Selection.{max_body}
use Rattle.dia_breaking_shortest.specs.Floors.{AreFloors}
use Rattle.dia_breaking_ways.specs.Walks.{IsWalk, plain_exits}
use Rattle.dia_breaking_ways.specs.declared.graph.Step.{Step}
use Rattle.dia_breaking_ways.specs.declared.graph.Reach.{Reach}
use Rattle.dia_breaking.specs.declared.exits.Outlook.{Outlook}
use Rattle.dia_breaking.specs.declared.keys.Own.{Own}
use Rattle.dia_breaking.specs.declared.keys.Recording.{Recording}
use Rattle.dia_breaking.specs.declared.line.Cause.TheVariants as causes
use Rattle.dia_breaking.specs.declared.line.Line.{Line}
use Rattle.dia_breaking.specs.declared.line.Site.{Site}
use Rattle.dia_breaking.specs.declared.own_breaks.OwnBreaks.{OwnBreaks}
use Rattle.dia_breaking.specs.declared.own_lines.Kind.TheVariants as kinds
use Rattle.dia_breaking.specs.declared.start.Start.{Start}
use Rattle.dia_breaking.specs.Exits.{AreOutlooks}
use Rattle.dia_breaking.specs.Headers.{IsCommandPlace}
use Rattle.dia_breaking.specs.Lengths.{costs_by}
use Rattle.dia_breaking.specs.LevelCosts.{PicksShortest}
use Rattle.dia_breaking.specs.Listing.{Recorded, Basis, AreMeanings, IsWalkFrom, basis_of, own_cause, own_lines, sites_of, start_of, records}
use Rattle.dia_breaking.specs.Meanings.{IsReadAsOther}
use Rattle.dia_breaking.specs.Orders.{IsInOrderOf}
use Rattle.dia_breaking.specs.OwnBreaks.{AreOwnBreaks, IsOwnBreaks}
use Rattle.dia_breaking.specs.Sites.{command_sites, group_site, group_sites, site_number}
use Rattle.dia_breaking.specs.Recording.{IsExactRecording}
use Rattle.dia_breaking.specs.TheLines.{AreFacts, Facts, IsStartOf, costs_in}
use Rattle.dia_breaking.specs.TheMeanings.{AreMeant, HoldsOfLevels, IsMeant, IsReadAsSent}
use Rattle.dia_breaking.specs.Sides.{sides, answer}
use Rattle.dia_breaking.proofs.SentLevels.{sent_keys}
use Rattle.dia_breaking.proofs.ReadLevels.{AtLevel, each_level, way_of}
use Rattle.dia_breaking.proofs.Reached.{Kept, listed, other_kept}
use Rattle.dia_breaking.proofs.Shortest.{first_is_shortest}
use Rattle.dia_breaking.proofs.RecordedLines.{cause_is, in_sorted, own_recorded, recorded_in}
use Rattle.dia_breaking.proofs.TopLevels.{top_level}

-- ---- what lines report

meant_by : (meanings : List Line) (key : Key) (recorded : Recorded) → IsIn recorded (map records meanings) → recorded.cause ≡ causes.Meaning key → IsMeant meanings key
meant_by meanings key recorded i is = let t = recorded_in meanings recorded i in (t.line, t.inside, cause_is t.line.cause (causes.Meaning key) (t.cause ∙ is) refl)

module _ (da db : Dictionary) (who : Sends) (u : Unknown) (lengths : List ℕ) (others : List Key) (recording : Recording) (outlooks : List Outlook) (records_all : IsExactRecording (sides da db who u) recording)
    (are : AreOutlooks da db recording (costs_by da who lengths others) outlooks) (owns : List OwnBreaks)
    (are_own : AreOwnBreaks (sides da db who u) (listed da db who u lengths others recording outlooks records_all are) recording.own.items owns) (first count : ℕ) (reached : List (Option Reach))
    (recorded : List Recorded) (order : IsInOrderOf (λ (line : Recorded). line.site) (own_lines kinds.Meaning first count owns reached) recorded) where
  -- what is reached of an AVP that is read as another format is reported
  meaning_recorded : (key : Key) (p : Kept da db who u lengths others recording outlooks records_all are key) → IsReadAsOther (sides da db who u) key → (reach : Reach)
      → slice_get reached p.place ≡ Some (Some reach) → reach.length ≤ max_body → (line : Recorded) × IsIn line recorded × (line.cause ≡ causes.Meaning key)
  meaning_recorded key p is reach at room =
      let (one, here, same) = at_map (λ (one : OwnBreaks). one.key) owns p.place p.own.key (subst (λ (xs : List Key). slice_get xs p.place ≡ Some p.own.key) (sym are_own.keys)
      (own_key_at p.place p.own p.is_own)) in
      let its : one.key ≡ key = same ∙ p.own_key in
      let own = all_of (IsOwnBreaks (sides da db who u) (listed da db who u lengths others recording outlooks records_all are)) owns one are_own.each (in_at owns p.place one here) in
      let reads = own.other.1 (subst (λ (q : Key). IsReadAsOther (sides da db who u) q) (sym its) is) in
      let site : ℕ = site_number first count reach.level in
      let line : Recorded = record { site = site; cause = causes.Meaning one.key; length = reach.length } in
      let cause : own_cause kinds.Meaning one reach.length ≡ Some (causes.Meaning one.key, reach.length) =
      ap (λ (b : Bool). if b then Some (causes.Meaning one.key, reach.length) else None) reads in
      let inside = own_recorded kinds.Meaning first count owns reached p.place one reach (causes.Meaning one.key) reach.length here at cause room in
      (line, in_sorted (λ (line : Recorded). line.site) (own_lines kinds.Meaning first count owns reached) recorded line order inside, ap (λ (q : Key). causes.Meaning q) its)
    where
      own_key_at : (place : ℕ) (own : Own) → slice_get recording.own.items place ≡ Some own → slice_get (map (λ (own : Own). own.key) recording.own.items) place ≡ Some own.key
      own_key_at place own at = into_map (λ (own : Own). own.key) recording.own.items place own at

-- ---- the walk begins

module _ (db : Dictionary) (basis : Basis) (at count : ℕ) (steps : List Step) where
  pub no_group_here : (app : ℕ) (site : Site) → IsCommandPlace app site.place → IsIn site (group_sites basis.own at count steps) → ⊥
  no_group_here app site is i =
      let a = at_in (group_sites basis.own at count steps) site i in
      let (j, step, here, e) = at_filter_map (λ (step : Step). option_map (λ (one : OwnBreaks). group_site at count step one.key) (slice_get basis.own step.place)) steps a.place site a.at in
      by step (slice_get basis.own step.place) e
    where
      by : (step : Step) (o : Option OwnBreaks) → option_map (λ (one : OwnBreaks). group_site at count step one.key) o ≡ Some site → ⊥
      by step None e = none-some site e
      by step (Some one) e = subst (λ (s : Site). IsCommandPlace app s.place) (sym (same_Some (group_site at count step one.key) site e)) is

  pub begins : (app : ℕ) (sites : List Site) (site : Site) → sites ≡ sites_of db basis at count steps → Contains sites site → site.is_read ≡ true → IsCommandPlace app site.place
      → is_some (start_of db basis) ≡ true
  begins app sites site are inside read is =
      by (in_append own (group_sites basis.own at count steps) site (subst (λ (xs : List Site). IsIn site xs) are (in_contains sites site inside)))
    where
      own : List Site
      own = command_sites db basis.head basis.readings

      by : IsIn site own ⊎ IsIn site (group_sites basis.own at count steps) → is_some (start_of db basis) ≡ true
      by (inl i) = let a = at_in own site i in position-is_some (λ (s : Site). s.is_read) own a.place site a.at read
      by (inr i) = absurd (no_group_here app site is i)

-- ---- all

module _ (da db : Dictionary) (who : Sends) (u : Unknown) (made : Facts) (start : Start) (c : ℕ) (sites : List Site) (lines meanings : List Line) (sa : IsDictionary da) (sb : IsDictionary db)
    (facts : AreFacts (sides da db who u) made) (floors : AreFloors da who (costs_in (sides da db who u) made).listed)
    (is_start : IsStartOf da db made.recording (costs_in (sides da db who u) made) c start) (listing : AreMeanings db (basis_of start made.own made.outlooks) sites (map records meanings)) where
  abbrev basis : Basis
  basis = basis_of start made.own made.outlooks

  shortest : PicksShortest da db (costs_in (sides da db who u) made)
  shortest = first_is_shortest da db who made.lengths made.others sa sb facts.are_others

  known_here : (key : Key) → IsReadAsOther (sides da db who u) key → IsSome (entry_of da key)
  known_here key is = by (entry_of da key) refl
    where
      by : (o : Option ℕ) → entry_of da key ≡ o → IsSome (entry_of da key)
      by None e = absurd (none-some is.formats.sent
          (sym (ap (λ (o : Option ℕ). option_map (λ (x : DictEntry). x.format) (option_and_then (λ i. slice_get da.entries i) o)) e) ∙ is.formats.sent_is))
      by (Some i) e = ap (λ (o : Option ℕ). is_some o) e

  pub all_meant : HoldsOfLevels (sides da db who u) (answer c sites lines) (AreMeant (sides da db who u) meanings)
  all_meant bytes sent app site other level a b inner lies =
      each_level da db who u made.lengths made.others made.recording made.outlooks facts.is_recording facts.are_outlooks sa shortest floors (plain_exits start.exits) listing.steps listing.reached sent.command other walk
      (AreMeant (sides da db who u) meanings) meant a b inner sent.command other sent.avps lies
      (top_level da db who u made start c sa facts floors is_start shortest listing.steps listing.reached bytes sent other)
    where
      from : ℕ
      from = unwrap_or (start_of db basis) 0

      walk : IsWalk basis.graph listing.steps listing.reached
      walk = subst (λ (b : Bool). IsWalkFrom b basis.graph listing.steps listing.reached)
          (begins db basis from (length basis.readings) listing.steps app sites site listing.sites_are level.inside level.is_read level.place) listing.is_walk

      meant : (x y : PlainDefinition) (avps : List PlainAvp)
          → AtLevel da db who u made.lengths made.others made.recording made.outlooks facts.is_recording facts.are_outlooks sa shortest floors (plain_exits start.exits) listing.steps listing.reached sent.command other x y avps
          → AreMeant (sides da db who u) meanings x y avps
      meant x y avps l v comes is =
          let key = key_of v in
          let p = other_kept da db who u made.lengths made.others made.recording made.outlooks facts.is_recording facts.are_outlooks key (known_here key is) is in
          let w = way_of da db who u made.lengths made.others made.recording made.outlooks facts.is_recording facts.are_outlooks sa shortest floors (plain_exits start.exits) listing.steps listing.reached sent.command other walk
          x y avps l v comes p in
          let le = w.2 in
          let keep = sent_keys da db who u (costs_in (sides da db who u) made).listed floors x.rules (max_body - l.stage.way) avps l.level in
          let room = keep.1 in
          let fits = l.within in
          let t = meaning_recorded da db who u made.lengths made.others made.recording made.outlooks facts.is_recording facts.are_outlooks made.own facts.are_own from (length basis.readings) listing.reached
          (map records meanings) listing.lines_are key p is w.0 w.1 (omega (arith, le, room, fits)) in
          meant_by meanings key t.0 t.1 t.2

-- where none is reported, none is read so
pub none_meant : (da db : Dictionary) (who : Sends) (u : Unknown) (c : ℕ) (sites : List Site) (lines meanings : List Line) → meanings ≡ []
    → HoldsOfLevels (sides da db who u) (answer c sites lines) (AreMeant (sides da db who u) meanings) → HoldsOfLevels (sides da db who u) (answer c sites lines) (IsReadAsSent (sides da db who u))
none_meant da db who u c sites lines meanings none all bytes sent app site other level a b inner lies v comes is =
    let (line, inside, cause) = all bytes sent app site other level a b inner lies v comes is in
    no_member line (subst (λ (xs : List Line). IsIn line xs) none (in_contains meanings line inside))
  where
    no_member : (line : Line) → IsIn line [] → ⊥
    no_member line i = i
