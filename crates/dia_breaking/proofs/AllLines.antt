-- The lines of a command report all that breaks: a message that is free of them is valid under B.
use Rattle.std.proofs.Common.{◌≡◌, ℕ, zero, suc, ◌+◌, ◌-◌, ◌<◌, ◌≤◌, Bool, true, false, List, [], ◌∷◌, ◌++◌, length, map, Option, Some, None, refl, sym, ap, subst, ◌∙◌, arith, inl, inr}
use Rattle.std.specs.Prelude.{◌⊎◌, ◌&&◌, not, is_some, IfSome, slice_get, option_and_then, unwrap_or, if◌then◌else◌}
use Rattle.std.specs.Option.{option_map_or}
use Rattle.std.proofs.lemmas.Bool.{both_ways, le-leb}
use Rattle.std.proofs.lemmas.List.{length-map}
use Rattle.std.proofs.lemmas.Option.{same_Some}
use Rattle.dia_wire.specs.declared.Header.{Header}
use Rattle.dia_wire.specs.Wire.{PlainAvp, key_of, HasP, IsMessage}
use Rattle.dia_book.specs.declared.DRule.{DRule}
use Rattle.dia_book.specs.Dictionary.{Dictionary, PlainDefinition, AreRules, IsDictionary, definitions, has_command, selected}
use Rattle.dia_book.proofs.Members.{at_map, into_left, into_map}
use Rattle.dia_terms.specs.declared.Unknown.{Unknown}
use Rattle.dia_terms.specs.declared.Levels.TheVariants as levels
use Rattle.dia_terms.specs.declared.Sends.{Sends}
use Rattle.dia_valid.specs.Valid.{AllFit, AllowsP, IsValid, Placed, class_of}
use Rattle.dia_valid.specs.Rules.{rules_in}
use Rattle.dia_valid.proofs.Members.{IsIn, at_in, in_append, in_contains, in_left, in_right, there_is}
use Rattle.dia_breaking_sites.specs.Sent.{IsSent}
use Rattle.dia_breaking_sites.specs.Sites.{AreAsked, IsLevelOf, IsReadAlone}
use Rattle.dia_breaking_sites.specs.Selection.{IsSelected, max_body}
use Rattle.dia_breaking_sites.proofs.LevelsOfB.{levels_read}
use Rattle.dia_breaking_sites.proofs.SafeMessages.{small_app}
use Rattle.dia_breaking_shortest.specs.Floors.{AreFloors, total}
use Rattle.dia_breaking_shortest.proofs.FloorsOfLengths.{in_map}
use Rattle.dia_breaking_levels.proofs.AloneBounds.{least_within}
use Rattle.dia_breaking_levels.specs.declared.line.Line.{Line as LevelLine}
use Rattle.dia_breaking_levels.specs.LevelTests.{price}
use Rattle.dia_breaking_ways.specs.Walks.{IsWalk, plain_exits}
use Rattle.dia_breaking.specs.declared.heads.Head.{Head}
use Rattle.dia_breaking.specs.declared.line.Cause.{Cause}
use Rattle.dia_breaking.specs.declared.line.Cause.TheVariants as causes
use Rattle.dia_breaking.specs.declared.line.Line.{Line}
use Rattle.dia_breaking.specs.declared.line.Site.{Site}
use Rattle.dia_breaking.specs.declared.own_lines.Kind.{Kind}
use Rattle.dia_breaking.specs.declared.own_lines.Kind.TheVariants as kinds
use Rattle.dia_breaking.specs.declared.readings.Reading.{Reading}
use Rattle.dia_breaking.specs.declared.start.Start.{Start}
use Rattle.dia_breaking.specs.Free.{AreValidWhereFree, HasThisP, IsFree, IsFreeLevel, IsReadBy, RecordsFlags}
use Rattle.dia_breaking.specs.Headers.{HasHead, IsCommandPlace, RecordsRefusal, allows, head_in}
use Rattle.dia_breaking.specs.LevelCosts.{PicksShortest}
use Rattle.dia_breaking.specs.Lengths.{Costs, other_in, others_in}
use Rattle.dia_breaking.specs.Listing.{Recorded, Basis, IsListing, IsWalkFrom, basis_of, command_levels, flag_causes, header_causes, header_line, header_lines, own_lines, refusal, start_of, records}
use Rattle.dia_breaking.specs.Corrected.{AreValidOnceCorrected, IsLevelAt, IsCorrectedFor}
use Rattle.dia_breaking.specs.Readings.{AreReadings}
use Rattle.dia_breaking.specs.Sites.{command_site, command_sites, group_sites, other_head, read_site, refused_site}
use Rattle.dia_breaking.specs.TheLines.{AreFacts, AreIfRoom, AreLinesBetween, AreLinesOf, Facts, IsCommandLevel, IsStartOf, costs_in}
use Rattle.dia_breaking.specs.Words.{head_at}
use Rattle.dia_breaking.specs.Sides.{sides, answer}
use Rattle.dia_breaking.proofs.AllMeanings.{begins, no_group_here}
use Rattle.dia_breaking.proofs.SentPrices.{stand_placed, stand_price}
use Rattle.dia_breaking.proofs.SentLevels.{sent_keys}
use Rattle.dia_breaking.proofs.InRange.{command_within}
use Rattle.dia_breaking.proofs.LevelCosts.{one_is_shortest}
use Rattle.dia_breaking.proofs.Lists.{contains_at}
use Rattle.dia_breaking.proofs.LookedHeaders.{IsLookedAt, looked_at, reading_of, reading_sent}
use Rattle.dia_breaking.proofs.OwnFits.{IsOfLines, each_fits}
use Rattle.dia_breaking.proofs.PlacedLevels.{group_placed, level_placed, level_recorded, rules_of_def, sound_rules}
use Rattle.dia_breaking.proofs.ReadLevels.{AtLevel, IsReadAt, each_level}
use Rattle.dia_breaking.proofs.Shortest.{first_is_shortest}
use Rattle.dia_breaking.proofs.RecordedHeaders.{allows_head, allows_holds, head_allows, holds_allows, is_set, read_at}
use Rattle.dia_breaking.proofs.RecordedLines.{AllRecorded, IsRecordedIn, cause_is, from_data, from_flags, from_groups, from_heads, from_levels, from_unknown, in_each, recorded_of}
use Rattle.dia_breaking.proofs.TopLevels.{top_level}
use Rattle.dia_breaking.proofs.SitesOfReadings.{levels_at, command_head, place_of, read_by, IsReadingOf}

module _ (da db : Dictionary) (who : Sends) (u : Unknown) (made : Facts) (start : Start) (c : ℕ) (sites : List Site) (lines : List Line) (sa : IsDictionary da) (sb : IsDictionary db)
    (facts : AreFacts (sides da db who u) made) (floors : AreFloors da who (costs_in (sides da db who u) made).listed) (head_is : HasHead da c start.head)
    (is_start : IsStartOf da db made.recording (costs_in (sides da db who u) made) c start) (listing : IsListing db (basis_of start made.own made.outlooks) sites (map records lines))
    (few : length sites ≤ 18446744073709551615) where
  abbrev basis : Basis
  basis = basis_of start made.own made.outlooks

  abbrev k : Costs
  k = costs_in (sides da db who u) made

  abbrev head : Head
  head = start.head

  abbrev readings : List Reading
  readings = start.readings.items

  abbrev from : ℕ
  from = unwrap_or (start_of db basis) 0

  abbrev count : ℕ
  count = length readings

  abbrev own : List Site
  own = command_sites db head readings

  shortest : PicksShortest da db k
  shortest = first_is_shortest da db who made.lengths made.others sa sb facts.are_others

  recorded_here : (recorded : Recorded) → AllRecorded db basis from count listing.steps listing.reached recorded → IsRecordedIn lines recorded
  recorded_here recorded i = recorded_of db basis from count listing.steps listing.reached lines listing.lines_are recorded i

  own_recorded_here : (kind : Kind) (t : Recorded) → IsOfLines kind → IsIn t (own_lines kind from count made.own listing.reached) → IsRecordedIn lines t
  own_recorded_here kinds.Unknown t of i = recorded_here t (from_unknown db basis from count listing.steps listing.reached t i)
  own_recorded_here kinds.MBit t of i = recorded_here t (from_flags db basis from count listing.steps listing.reached t i)
  own_recorded_here kinds.Data t of i = recorded_here t (from_data db basis from count listing.steps listing.reached t i)
  own_recorded_here kinds.Meaning t of i = absurd of

  module _ (bytes : List ℕ) (sent : IsSent da who bytes c) where
    abbrev x : PlainDefinition
    x = sent.command

    is_head : head_in x.head ≡ Some head
    is_head = ap (λ (y : PlainDefinition). head_in y.head) (same_Some x head_is.0 (sym sent.is_command ∙ head_is.1)) ∙ head_is.2

    looked : IsLookedAt da db c head sent.header.code (class_of sent.header.flags) sent.header.app
    looked = looked_at da db sa sb c x sent.is_command head is_head sent.header.code (class_of sent.header.flags) sent.header.app sent.select (small_app da who bytes c sent)

    -- a message has room for a least level
    base_within : start.base ≤ max_body
    base_within =
        let top = top_level da db who u made start c sa facts floors is_start shortest listing.steps listing.reached bytes sent x in
        let keep = sent_keys da db who u k.listed floors x.rules (max_body - top.stage.way) sent.avps top.level in
        let same = stand_price da who made.lengths x.rules (map key_of sent.avps) keep.0 in
        let rules = rules_of_def da c x sent.is_command in
        let least = least_within k.listed (other_in k (rules_in da c)) (others_in k (rules_in da c)) (rules_in da c) start.base
        (subst (λ (rs : List DRule). AreRules rs) (sym rules) (sound_rules da c x sa sent.is_command)) (is_start.base_is ∙ is_start.are_exits.base)
        (one_is_shortest (other_in k (rules_in da c)) (others_in k (rules_in da c)) (rules_in da c) db (shortest c)) (map key_of sent.avps)
        (subst (λ (rs : List DRule). Placed rs (map key_of sent.avps)) (sym rules) (stand_placed who x.rules (map key_of sent.avps) keep.0)) in
        let moved = ap (λ (rs : List DRule). total (price k.listed (other_in k rs) rs) (map key_of sent.avps)) rules in
        let room = keep.1 in
        omega (arith, least, moved, same, room)

    are_readings : AreReadings da db is_start.both c head readings
    are_readings = subst (λ (b : Bool). AreIfRoom b (AreReadings da db is_start.both c head) readings) (le-leb start.base max_body base_within) is_start.readings_are

    sent_by : (i : ℕ) (r : Reading) → slice_get readings i ≡ Some r → selected da head.code head.class r.app ≡ Some c
    sent_by i r at =
        reading_sent da db is_start.both.first is_start.both.second is_start.are_first is_start.are_second c head looked.own looked.sent looked.how readings are_readings i r at

    -- ---- the levels of a message, where its own is read so

    module _ (y : PlainDefinition) (r : IsReadingOf db head readings y) where
      abbrev site : Site
      site = command_site db head r.reading

      other_is : other_head db head r.reading.read_as ≡ Some r.its
      other_is = ap (λ (o : Option ℕ). option_and_then (head_at db) o) r.select ∙ ap (λ (o : Option PlainDefinition). option_and_then (λ (z : PlainDefinition). head_in z.head) o) r.is_other ∙ r.is_its

      is_read : site.is_read ≡ true
      is_read = ap (λ (o : Option Head). (option_map_or (read_site head r.reading) o (refused_site head r.reading)).is_read) other_is

      is_place : IsCommandPlace r.reading.read_as site.place
      is_place = place_of head r.reading (other_head db head r.reading.read_as)

      at_site : slice_get sites r.place ≡ Some site
      at_site = ap (λ (xs : List Site). slice_get xs r.place) listing.sites_are ∙ into_left own (group_sites made.own from count listing.steps) r.place site (into_map (command_site db head) readings r.place r.reading r.at)

      read_here : IsReadBy da db c site.place x y
      read_here = read_at da db c x head site.place r.reading.read_as r.number y sent.is_command is_head is_place r.select r.is_other

      walk : IsWalk basis.graph listing.steps listing.reached
      walk = subst (λ (b : Bool). IsWalkFrom b basis.graph listing.steps listing.reached)
          (begins db basis from count listing.steps r.reading.read_as sites site listing.sites_are (contains_at sites r.place site at_site) is_read is_place) listing.is_walk

      abbrev LevelHere : PlainDefinition → PlainDefinition → List PlainAvp → Type 0
      LevelHere a b avps = AtLevel da db who u made.lengths made.others made.recording made.outlooks facts.is_recording facts.are_outlooks sa shortest floors (plain_exits start.exits) listing.steps
          listing.reached x y a b avps

      abbrev Free : PlainDefinition → PlainDefinition → List PlainAvp → Type 0
      Free a b avps = IsFreeLevel da db u sites lines c a b avps

      -- how the level of the command breaks B's rules
      own_levels : (found : List LevelLine) × (slice_get basis.levels r.place ≡ Some found) × AreLinesOf k x.rules y.rules found
      own_levels =
          let (found, at, is) = levels_at (IsCommandLevel da db k head) readings basis.levels is_start.levels_are r.place r.reading r.at in
          let read = subst (λ (b : Bool). AreLinesBetween da db k b (selected da head.code head.class r.reading.app) (selected db head.code head.class r.reading.read_as) found) is_read is in
          let first = subst (λ (o : Option ℕ). AreLinesBetween da db k true o (selected db head.code head.class r.reading.read_as) found) (sent_by r.place r.reading r.at) read in
          let both : AreLinesOf k (rules_in da c) (rules_in db r.number) found = subst (λ (o : Option ℕ). AreLinesBetween da db k true (Some c) o found) r.select first in (
            found,
            at,
            subst (λ (rs : List DRule). AreLinesOf k rs y.rules found) (rules_of_def da c x sent.is_command)
                (subst (λ (rs : List DRule). AreLinesOf k (rules_in da c) rs found) (rules_of_def db r.number y r.is_other) both),
          )

      top_placed : (avps : List PlainAvp) → IsLevelOf da who x.rules (max_body - 0) avps → Free x y avps → Placed y.rules (map key_of avps)
      top_placed avps level free =
          let (found, at, exact) = own_levels in
          level_placed da db who u made facts sa sb shortest floors x y c r.number sent.is_command r.is_other found exact 0 (omega arith) avps level (λ line inside room shows.
          let recorded : Recorded = record { site = r.place; cause = causes.Level line; length = 0 + line.length } in
          let there = in_each command_levels basis.levels r.place found recorded at (level_recorded r.place 0 found line inside room) in
          let t = recorded_here recorded (from_levels db basis from count listing.steps listing.reached recorded there) in
          free.level t.line line t.inside (cause_is t.line.cause (causes.Level line) t.cause refl) (site, ap (λ (n : ℕ). slice_get sites n) t.site ∙ at_site, read_here) shows)

      at_top : (way : ℕ) (a b : PlainDefinition) (avps : List PlainAvp) → way ≡ 0 → a ≡ x → b ≡ y → IsLevelOf da who a.rules (max_body - way) avps → Free a b avps → Placed b.rules (map key_of avps)
      at_top way a b avps none same_a same_b level free =
          subst (λ (d : PlainDefinition). Placed d.rules (map key_of avps)) (sym same_b)
          (top_placed avps (subst (λ (d : PlainDefinition). IsLevelOf da who d.rules (max_body - 0) avps) same_a (subst (λ (n : ℕ). IsLevelOf da who a.rules (max_body - n) avps) none level))
          (subst (λ (d : PlainDefinition). Free d y avps) same_a (subst (λ (d : PlainDefinition). Free a d avps) same_b free)))

      placed_at : (a b : PlainDefinition) (avps : List PlainAvp) → LevelHere a b avps → Free a b avps → Placed b.rules (map key_of avps)
      placed_at a b avps l free = by l.number l.is_read
        where
          by : (n : ℕ) → IsReadAt da db who u made.lengths made.others made.recording made.outlooks facts.is_recording facts.are_outlooks sa shortest floors (plain_exits start.exits) listing.steps
              listing.reached x y n l.stage.way a b → Placed b.rules (map key_of avps)
          by zero (none, same_a, same_b) = at_top l.stage.way a b avps none same_a same_b l.level free
          by (suc j) s =
              group_placed da db who u made facts sa sb shortest floors (plain_exits start.exits) listing.steps listing.reached x y walk sites lines c from count own
              (length-map readings (command_site db head)) listing.sites_are few (λ t i. recorded_here t (from_groups db basis from count listing.steps listing.reached t i)) j l.stage.way a b avps l.within
              l.level s free

      read_alone : (a b : PlainDefinition) (avps : List PlainAvp) → LevelHere a b avps → Free a b avps → IsReadAlone da db u a b avps
      read_alone a b avps l free = (
        placed_at a b avps l free,
        λ v comes. each_fits da db who u made facts sa shortest floors (plain_exits start.exits) listing.steps listing.reached x y walk sites lines c from count own_recorded_here a b avps l free v comes,
      )

      all_read : AreAsked da db Free x y sent.avps → Placed y.rules (map key_of sent.avps) × AllFit db u levels.Any sent.avps
      all_read asked = levels_read da db who u x y sent.avps sent.sent (λ a b inner lies.
          each_level da db who u made.lengths made.others made.recording made.outlooks facts.is_recording facts.are_outlooks sa shortest floors (plain_exits start.exits) listing.steps listing.reached x y walk
          (λ p q avps. Free p q avps → IsReadAlone da db u p q avps) read_alone a b inner x y sent.avps lies
          (top_level da db who u made start c sa facts floors is_start shortest listing.steps listing.reached bytes sent y) (asked a b inner lies))

    -- ---- the header

    -- what is reported for a reading
    head_recorded : (i : ℕ) (r : Reading) → slice_get readings i ≡ Some r → (cause : Cause) → IsIn cause (header_causes db head r.read_as)
        → IsRecordedIn lines (header_line start.base i cause)
    head_recorded i r at cause inside =
        recorded_here (header_line start.base i cause) (from_heads db basis from count listing.steps listing.reached (header_line start.base i cause)
        (in_each (header_lines db head start.base) readings i r (header_line start.base i cause) at (in_map (header_line start.base i) (header_causes db head r.read_as) cause inside)))

    module _ (i : ℕ) (r : Reading) (at : slice_get readings i ≡ Some r) where
      -- where B selects no definition
      refused : selected db head.code head.class r.read_as ≡ None → RecordsRefusal lines
      refused none = by (has_command db head.code head.class) refl
        where
          other_none : other_head db head r.read_as ≡ None
          other_none = ap (λ (o : Option ℕ). option_and_then (head_at db) o) none

          recorded : IsRecordedIn lines (header_line start.base i (refusal db head))
          recorded = head_recorded i r at (refusal db head)
              (subst (λ (o : Option Head). IsIn (refusal db head) (option_map_or (λ other. flag_causes head other false ++ flag_causes head other true) o (refusal db head ∷ []))) (sym other_none) (inl refl))

          by : (b : Bool) → has_command db head.code head.class ≡ b → RecordsRefusal lines
          by true is = let e = ap (λ (b : Bool). if b then causes.Application else causes.Command) is in
              (recorded.line, recorded.inside, inr (cause_is recorded.line.cause causes.Application (recorded.cause ∙ e) refl))
          by false is = let e = ap (λ (b : Bool). if b then causes.Application else causes.Command) is in
              (recorded.line, recorded.inside, inl (cause_is recorded.line.cause causes.Command (recorded.cause ∙ e) refl))

    -- where B's definition forbids the P flag
    flags_recorded : (y : PlainDefinition) (r : IsReadingOf db head readings y) (set : Bool) → HasThisP set sent.header.flags → allows r.its.p set ≡ false
        → RecordsFlags da db sites lines c y sent.header.flags
    flags_recorded y r set has none =
        (t.line, set, x, t.inside, cause_is t.line.cause (causes.Proxiable set) t.cause refl, (site y r, ap (λ (n : ℕ). slice_get sites n) t.site ∙ at_site y r, read_here y r), has)
      where
        may : allows head.p set ≡ true
        may = holds_allows head.p set sent.header.flags has (head_allows x.head head sent.header.flags is_head sent.proxiable)

        one : flag_causes head r.its set ≡ causes.Proxiable set ∷ []
        one = ap (λ (b : Bool). if b && not (allows r.its.p set) then causes.Proxiable set ∷ [] else []) may ∙ ap (λ (b : Bool). if not b then causes.Proxiable set ∷ [] else []) none

        here : IsIn (causes.Proxiable set) (flag_causes head r.its set)
        here = subst (λ (cs : List Cause). IsIn (causes.Proxiable set) cs) (sym one) (inl refl)

        both : (b : Bool) → IsIn (causes.Proxiable set) (flag_causes head r.its b) → IsIn (causes.Proxiable set) (flag_causes head r.its false ++ flag_causes head r.its true)
        both false i = in_left (flag_causes head r.its false) (flag_causes head r.its true) (causes.Proxiable set) i
        both true i = in_right (flag_causes head r.its false) (flag_causes head r.its true) (causes.Proxiable set) i

        t : IsRecordedIn lines (header_line start.base r.place (causes.Proxiable set))
        t = head_recorded r.place r.reading r.at (causes.Proxiable set)
            (subst (λ (o : Option Head). IsIn (causes.Proxiable set) (option_map_or (λ other. flag_causes head other false ++ flag_causes head other true) o (refusal db head ∷ []))) (sym (other_is y r))
            (both set here))

    -- B's definition allows it, where what is reported of it doesn't hold
    allowed : (y : PlainDefinition) → IsReadingOf db head readings y → (RecordsFlags da db sites lines c y sent.header.flags → AllowsP y.head sent.header.flags) → AllowsP y.head sent.header.flags
    allowed y r asked = by (is_set sent.header.flags)
      where
        of : (set : Bool) → HasThisP set sent.header.flags → (b : Bool) → allows r.its.p set ≡ b → AllowsP y.head sent.header.flags
        of set has true may = allows_head y.head r.its sent.header.flags r.is_its (allows_holds r.its.p set sent.header.flags has may)
        of set has false none = asked (flags_recorded y r set has none)

        by : HasP sent.header.flags ⊎ (¬ HasP sent.header.flags) → AllowsP y.head sent.header.flags
        by (inl has) = of true has (allows r.its.p true) refl
        by (inr none) = of false none (allows r.its.p false) refl

    -- one reading is as B selects for the header
    reading_here : (i : ℕ) × (r : Reading) × (slice_get readings i ≡ Some r)
        × (selected db head.code head.class r.read_as ≡ selected db sent.header.code (class_of sent.header.flags) sent.header.app)
    reading_here =
        let (i, r, at, same) =
        reading_of da db is_start.both.first is_start.both.second is_start.are_first is_start.are_second c head looked.own looked.sent looked.how readings are_readings in
        (i, r, at, same ∙ looked.read)

    valid_free : IsFree da db u sites lines c sent.header x sent.avps → IsValid db u levels.Any bytes
    valid_free free = by (selected db sent.header.code (class_of sent.header.flags) sent.header.app) refl
      where
        by : (o : Option ℕ) → selected db sent.header.code (class_of sent.header.flags) sent.header.app ≡ o → IsValid db u levels.Any bytes
        by None none =
            let (i, r, at, same) = reading_here in
            let some = free.selects (refused i r at (same ∙ none)) in
            absurd (both_ways (is_some (selected db sent.header.code (class_of sent.header.flags) sent.header.app)) (ap (λ (o : Option ℕ). is_some o) none) some)
        by (Some n) select =
            let (i, r, at, same) = reading_here in
            let within = subst (λ (o : Option ℕ). IfSome o (λ m. m < length (definitions db))) select
            (command_within db sent.header.code (class_of sent.header.flags) sent.header.app (selected db sent.header.code (class_of sent.header.flags) sent.header.app) refl) in
            let (y, at_y) = there_is (definitions db) n within in
            let (its, is_its) = command_head db sb sent.header.code (class_of sent.header.flags) sent.header.app n y select at_y in
            let reading : IsReadingOf db head readings y =
            record { place = i; reading = r; at = at; number = n; select = same ∙ select; is_other = at_y; its = its; is_its = is_its } in
            let here : IsSelected db sent.header y = (n, select, at_y) in
            let read = all_read y reading (free.levels y here) in (
              n,
              record {
                header = sent.header;
                avps = sent.avps;
                command = y;
                message = sent.message;
                no_error_request = sent.no_error_request;
                no_repeated_answer = sent.no_repeated_answer;
                select = select;
                is_command = at_y;
                proxiable = allowed y reading (free.proxiable y here);
                placed = read.0;
                fit = read.1;
              },
            )

    -- ---- once the header is fixed

    reading_at : (app : ℕ) (site : Site) (y : PlainDefinition) → IsLevelAt (sides da db who u) sites c app site x y → IsReadingOf db head readings y
    reading_at app site y level =
        by (in_append own (group_sites made.own from count listing.steps) site (subst (λ (xs : List Site). IsIn site xs) listing.sites_are (in_contains sites site level.inside)))
      where
        by : IsIn site own ⊎ IsIn site (group_sites made.own from count listing.steps) → IsReadingOf db head readings y
        by (inr i) = absurd (no_group_here db basis from count listing.steps app site level.place i)
        by (inl i) =
            let a = at_in own site i in
            let (r, at, same) = at_map (command_site db head) readings a.place site a.at in
            let (h, n, is_h, select, at_y) = read_by da db c head r x y (other_head db head r.read_as) (subst (λ (p : Site). IsReadBy da db c p.place x y) (sym same) level.read) in
            let here = subst (λ (g : Head). selected db g.code g.class r.read_as ≡ Some n) (same_Some h head (sym is_h ∙ is_head)) select in
            let (its, is_its) = command_head db sb head.code head.class r.read_as n y here at_y in
            record { place = a.place; reading = r; at = at; number = n; select = here; is_other = at_y; its = its; is_its = is_its }

    valid_corrected : (corrected : List ℕ) (app : ℕ) (site : Site) (y : PlainDefinition) (header : Header) → IsLevelAt (sides da db who u) sites c app site x y
        → AreAsked da db (IsFreeLevel da db u sites lines c) x y sent.avps → IsCorrectedFor db y sent.header header → IsMessage header sent.avps corrected → IsValid db u levels.Any corrected
    valid_corrected corrected app site y header level asked mends message =
        let (n, select, at_y) = mends.selected in
        let read = all_read y (reading_at app site y level) asked in (
          n,
          record {
            header = header;
            avps = sent.avps;
            command = y;
            message = message;
            no_error_request = λ request error. sent.no_error_request ((mends.flags 7 (λ e. omega (arith, e))).0 request) ((mends.flags 5 (λ e. omega (arith, e))).0 error);
            no_repeated_answer = λ repeated. (mends.flags 7 (λ e. omega (arith, e))).1 (sent.no_repeated_answer ((mends.flags 4 (λ e. omega (arith, e))).0 repeated));
            select = select;
            is_command = at_y;
            proxiable = mends.allowed;
            placed = read.0;
            fit = read.1;
          },
        )

  pub lines_free : AreValidWhereFree (sides da db who u) (answer c sites lines)
  lines_free bytes sent free = valid_free bytes sent free

  pub lines_corrected : AreValidOnceCorrected (sides da db who u) (answer c sites lines)
  lines_corrected bytes corrected sent app site other header level asked mends message = valid_corrected bytes sent corrected app site other header level asked mends message
