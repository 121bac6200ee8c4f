-- Each AVP of a level that is reached fits B by itself, where the level is free of the lines.
use Rattle.std.proofs.Common.{◌≡◌, ℕ, ◌+◌, ◌-◌, ◌<◌, ◌≤◌, Bool, true, false, List, [], length, map, Option, Some, None, refl, sym, ap, subst, ◌∙◌, arith, inl, inr}
use Rattle.std.specs.Prelude.{◌⊎◌, ⊤, is_some, IsSome, MatchOption, Contains, slice_get, option_and_then}
use Rattle.std.specs.Option.{option_map, option_map_or}
use Rattle.std.proofs.lemmas.Bool.{cases_lt}
use Rattle.std.proofs.lemmas.Option.{none-some}
use Rattle.dia_wire.specs.declared.Key.{Key}
use Rattle.dia_wire.specs.Wire.{PlainAvp, key_of}
use Rattle.dia_data.specs.Leaf.{IsLeaf}
use Rattle.dia_book.specs.declared.DRule.{DRule}
use Rattle.dia_book.specs.Dictionary.{Dictionary, DictEntry, PlainDefinition, IsDictionary, entry_of}
use Rattle.dia_book.proofs.Members.{at_map, into_map}
use Rattle.dia_terms.specs.declared.Unknown.{Unknown}
use Rattle.dia_terms.specs.declared.Sends.{Sends}
use Rattle.dia_terms.specs.declared.Sends.TheVariants.{Any}
use Rattle.dia_valid.specs.Valid.{Fits as AvpFits, IsAccepted, IsLevel, MHolds, is_listed, known}
use Rattle.dia_valid.specs.Valid.{HasFlags}
use Rattle.dia_valid.specs.Rules.{rules_in}
use Rattle.dia_valid.proofs.Members.{IsIn, all_of, in_at, in_contains, some_of}
use Rattle.dia_breaking_sites.specs.Sent.{AreBytes, IsSentLevel, IsSentWithin, own_policy}
use Rattle.dia_breaking_sites.specs.Sites.{FitsAlone}
use Rattle.dia_breaking_sites.specs.Selection.{max_body}
use Rattle.dia_breaking_sites.proofs.Members.{in_all}
use Rattle.dia_breaking_data.specs.Shortest.{witness_bytes}
use Rattle.dia_breaking_avps.specs.declared.breaking.DataBreak.{DataBreak}
use Rattle.dia_breaking_avps.specs.declared.breaking.DataBreak.TheVariants.{Fits, Groups, Data, LeastLevel, EightBytes, Undecided}
use Rattle.dia_breaking_avps.specs.declared.breaking.HeadBreak.{HeadBreak}
use Rattle.dia_breaking_avps.specs.declared.breaking.HeadBreak.TheVariants as head_breaks
use Rattle.dia_breaking_avps.specs.Breaks.{AcceptsFlags, IsDataBreak, IsHeadBreak}
use Rattle.dia_breaking_avps.specs.Sent.{IsAcceptedData, IsSentData, group_of}
use Rattle.dia_breaking_avps.proofs.Alone.{of_data, sent_data, sent_flags}
use Rattle.dia_breaking_avps.proofs.ShorterData.{shorter_accepted}
use Rattle.dia_breaking_shortest.specs.Floors.{AreFloors, padded, shortest_head, total}
use Rattle.dia_breaking_shortest.proofs.BytesOfAvps.{data_bytes}
use Rattle.dia_breaking_shortest.proofs.FloorsOfAvps.{rounded_more}
use Rattle.dia_breaking_ways.specs.Walks.{IsWalk, PlainExits}
use Rattle.dia_breaking_ways.specs.declared.graph.Step.{Step}
use Rattle.dia_breaking_ways.specs.declared.graph.Reach.{Reach}
use Rattle.dia_breaking.specs.declared.keys.Own.{Own}
use Rattle.dia_breaking.specs.declared.line.Cause.{Cause}
use Rattle.dia_breaking.specs.declared.line.Cause.TheVariants as causes
use Rattle.dia_breaking.specs.declared.line.Line.{Line}
use Rattle.dia_breaking.specs.declared.line.Site.{Site}
use Rattle.dia_breaking.specs.declared.own_breaks.OwnBreaks.{OwnBreaks}
use Rattle.dia_breaking.specs.declared.own_lines.Kind.{Kind}
use Rattle.dia_breaking.specs.declared.own_lines.Kind.TheVariants as kinds
use Rattle.dia_breaking.specs.Free.{IsFreeLevel, OccursIn}
use Rattle.dia_breaking.specs.LevelCosts.{PicksShortest}
use Rattle.dia_breaking.specs.Listing.{Recorded, data_length, head_cause, own_cause, own_lines, with_data}
use Rattle.dia_breaking.specs.OwnBreaks.{IsOwnBreaks}
use Rattle.dia_breaking.specs.OwnKeys.{data_key, flags_key}
use Rattle.dia_breaking.specs.SentKeys.{AreSentKeys, IsStrange}
use Rattle.dia_breaking.specs.Taken.{AreGroups, IsDataTaken}
use Rattle.dia_breaking.specs.Recording.{BreaksNothing}
use Rattle.dia_breaking.specs.TheLines.{AreFacts, Facts, costs_in}
use Rattle.dia_breaking.specs.Sides.{sides}
use Rattle.dia_breaking.proofs.SentPrices.{strange_least}
use Rattle.dia_breaking.proofs.SentLevels.{data_beside, key_contained, sent_keys}
use Rattle.dia_breaking.proofs.ReadLevels.{AtLevel, Reaches, graph, total_has, way_beside, way_of}
use Rattle.dia_breaking.proofs.Reached.{Found, Kept, found, own_kept}
use Rattle.dia_breaking.proofs.SentKeys.{sent_of}
use Rattle.dia_breaking.proofs.Shortest.{unlisted}
use Rattle.dia_breaking.proofs.OwnBreaks.{has_group}
use Rattle.dia_breaking.proofs.Tellings.{any_data, strange_flags}
use Rattle.dia_breaking.proofs.RecordedLines.{IsRecordedIn, own_recorded, subject_data, subject_flags}

-- an AVP whose flags B accepts, and whose data it accepts, or in which both dictionaries see a level, fits alone
module _ (da db : Dictionary) (u : Unknown) (v : PlainAvp) where
  abbrev IsRead : Type 0
  IsRead = IsAcceptedData db u (key_of v) v.bytes ⊎ AreGroups da db (key_of v)

  abbrev Inner : List DRule → List ℕ → Type 0
  Inner rules bytes = IsSome (group_of da (key_of v)) ⊎ IsLevel (AvpFits db u 0) rules bytes

  of_group : IsSome (group_of da (key_of v)) → (y : PlainDefinition) (o : Option DictEntry) → option_and_then (λ e. e.group) o ≡ Some y → MatchOption o (IsAccepted u v.flags) (λ e. MHolds e.rule v.flags)
      → MatchOption o (IsAccepted u v.flags) (λ e. MHolds e.rule v.flags × MatchOption e.group (IsLeaf e.format v.bytes) (λ group. Inner group.rules v.bytes))
  of_group sent y None is flags = absurd (none-some y is)
  of_group sent y (Some e) is flags =
      (flags, subst (λ (o : Option PlainDefinition). MatchOption o (IsLeaf e.format v.bytes) (λ group. Inner group.rules v.bytes)) (sym is) (inl sent))

  by_parts : HasFlags db u (key_of v) v.flags → IsRead → FitsAlone da db u v
  by_parts flags (inl accepted) = of_data da db u v (known db (key_of v)) flags accepted
  by_parts flags (inr both) = let y = some_of (group_of db (key_of v)) both.1 in (0, of_group both.0 y.0 (known db (key_of v)) y.1 flags)

-- the kinds that lines report
abbrev pub IsOfLines : Kind → Type 0
IsOfLines kinds.Unknown = ⊤
IsOfLines kinds.MBit = ⊤
IsOfLines kinds.Data = ⊤
IsOfLines kinds.Meaning = ⊥

-- of an AVP that A doesn't know, and that is sent, any is
sends_any : (d : Dictionary) (who : Sends) (key : Key) (bytes : List ℕ) → entry_of d key ≡ None → IsSentData d who key bytes → who ≡ Any
sends_any d who key bytes none sent =
    subst (λ (o : Option DictEntry). MatchOption o (who ≡ Any) (λ e. MatchOption e.group (IsLeaf e.format bytes) (λ group. (n : ℕ) × IsSentLevel who (IsSentWithin d who n) group.rules bytes)))
    (ap (λ (o : Option ℕ). option_and_then (λ i. slice_get d.entries i) o) none) sent

module _ (da db : Dictionary) (who : Sends) (u : Unknown) (made : Facts) (facts : AreFacts (sides da db who u) made) (sa : IsDictionary da)
    (shortest : PicksShortest da db (costs_in (sides da db who u) made)) (floors : AreFloors da who (costs_in (sides da db who u) made).listed) (start : PlainExits) (steps : List Step)
    (reached : List (Option Reach)) (top under : PlainDefinition)
    (walk : IsWalk (graph da db who u made.lengths made.others made.recording made.outlooks facts.is_recording facts.are_outlooks sa shortest floors start steps reached top under) steps reached)
    (sites : List Site) (lines : List Line) (c first count : ℕ) (recorded : (kind : Kind) (t : Recorded) → IsOfLines kind → IsIn t (own_lines kind first count made.own reached) → IsRecordedIn lines t) where
  abbrev floor : Key → ℕ
  floor = (costs_in (sides da db who u) made).listed

  abbrev KeptHere : Key → Type 0
  KeptHere key = Kept da db who u made.lengths made.others made.recording made.outlooks facts.is_recording facts.are_outlooks key

  abbrev FoundHere : Key → Type 0
  FoundHere key = Found da db who u made.lengths made.others made.recording made.outlooks facts.is_recording facts.are_outlooks key

  abbrev pub LevelHere : PlainDefinition → PlainDefinition → List PlainAvp → Type 0
  LevelHere x y avps =
      AtLevel da db who u made.lengths made.others made.recording made.outlooks facts.is_recording facts.are_outlooks sa shortest floors start steps reached top under x y avps

  keys_sent : AreSentKeys da db who facts.is_recording.keys
  keys_sent = sent_of da db who facts.is_recording.keys facts.is_recording.sent

  -- how it breaks is recorded, too
  record KeptOwn (key : Key) (place : ℕ) : Type 0 where
    one : OwnBreaks
    at : slice_get made.own place ≡ Some one
    is_key : one.key ≡ key
    is : IsOwnBreaks (sides da db who u) floor one

  kept_own : (key : Key) (p : KeptHere key) → KeptOwn key p.place
  kept_own key p =
      let (one, here, same) = at_map (λ (one : OwnBreaks). one.key) made.own p.place p.own.key
      (subst (λ (xs : List Key). slice_get xs p.place ≡ Some p.own.key) (sym facts.are_own.keys) (into_map (λ (own : Own). own.key) made.recording.own.items p.place p.own p.is_own)) in
      record { one = one; at = here; is_key = same ∙ p.own_key; is = all_of (IsOwnBreaks (sides da db who u) floor) made.own one facts.are_own.each (in_at made.own p.place one here) }

  module _ (x y : PlainDefinition) (avps : List PlainAvp) (l : LevelHere x y avps) (free : IsFreeLevel da db u sites lines c x y avps) (v : PlainAvp) (comes : Contains avps v) where
    abbrev key : Key
    key = key_of v

    sent : IsSentWithin da who l.level.sent.0 v
    sent = in_all (IsSentWithin da who l.level.sent.0) avps v l.level.sent.1 (in_contains avps v comes)

    are : AreBytes v.bytes
    are = data_bytes avps l.level.bytes v l.level.spelled l.level.are_bytes (in_contains avps v comes)

    flags_sent : HasFlags da (own_policy who) key v.flags
    flags_sent = sent_flags da who l.level.sent.0 v sent

    data_sent : IsSentData da who key v.bytes
    data_sent = sent_data da who l.level.sent.0 v sent

    abbrev HasFlagsHere : Type 0
    HasFlagsHere = HasFlags db u key v.flags

    abbrev HasDataHere : Type 0
    HasDataHere = IsAcceptedData db u key v.bytes

    -- where it is reported that flags of an AVP that is reached break, they don't here
    flags_recorded : (q : Key) (place : ℕ) (o : KeptOwn q place) (reach : Reach) → slice_get reached place ≡ Some (Some reach) → OccursIn da db key q → (kind : Kind) → IsOfLines kind → (cause : Cause) (n : ℕ)
        → own_cause kind o.one reach.length ≡ Some (cause, n) → n ≤ max_body → flags_key cause ≡ Some o.one.key → HasFlagsHere
    flags_recorded q place o reach at occurs kind of cause n is room its =
        let t = recorded kind _ of (own_recorded kind first count made.own reached place o.one reach cause n o.at at is room) in
        free.flags t.line q v t.inside (sym (subject_flags t.line.cause) ∙ ap flags_key t.cause ∙ its ∙ ap (λ (k : Key). Some k) o.is_key) comes occurs

    flags_here : (q : Key) (place : ℕ) (o : KeptOwn q place) (reach : Reach) → slice_get reached place ≡ Some (Some reach) → reach.length ≤ max_body → OccursIn da db key q
        → (found : HeadBreak) → o.one.breaks.head ≡ Some found → HasFlagsHere
    flags_here q place o reach at room occurs (head_breaks.Unknown m) is =
        flags_recorded q place o reach at occurs kinds.Unknown tt (causes.Unknown o.one.key m) reach.length
        (ap (λ (h : Option HeadBreak). option_map {U = Cause × ℕ} (λ (cause : Cause). (cause, reach.length)) (option_and_then (head_cause kinds.Unknown o.one.key) h)) is) room refl
    flags_here q place o reach at room occurs (head_breaks.MBit m) is =
        flags_recorded q place o reach at occurs kinds.MBit tt (causes.MBit o.one.key m) reach.length
        (ap (λ (h : Option HeadBreak). option_map {U = Cause × ℕ} (λ (cause : Cause). (cause, reach.length)) (option_and_then (head_cause kinds.MBit o.one.key) h)) is) room refl

    -- where nothing is reported of its flags, B accepts them all
    silent_flags : (q : Key) (place : ℕ) (o : KeptOwn q place) → o.one.breaks.head ≡ None → AcceptsFlags da db who u q
    silent_flags q place o is = subst (λ (k : Key). AcceptsFlags da db who u k) o.is_key (subst (λ (h : Option HeadBreak). IsHeadBreak da db who u o.one.key h) is o.is.head)

    -- a message has room for what is reached from this level
    within_room : (reach : Reach) → reach.length ≤ l.stage.way + total floor (map key_of avps) → reach.length ≤ max_body
    within_room reach le =
        let keep = sent_keys da db who u floor floors x.rules (max_body - l.stage.way) avps l.level in
        let room = keep.1 in
        let fits = l.within in
        omega (arith, le, room, fits)

    -- ---- its own key

    module _ (p : KeptHere key) (o : KeptOwn key p.place) (reach : Reach) (at : slice_get reached p.place ≡ Some (Some reach)) (short : reach.length ≤ l.stage.way + total floor (map key_of avps))
        (room : reach.length ≤ max_body) where
      breaks : (r : DataBreak) → o.one.breaks.data ≡ r → IsDataBreak da db who u key r
      breaks r is = subst (λ (k : Key). IsDataBreak da db who u k r) o.is_key (subst (λ (d : DataBreak). IsDataBreak da db who u o.one.key d) is o.is.content)

      -- where it is reported that its data break, they don't here
      data_recorded : (n : ℕ) → data_length o.one reach.length o.one.breaks.data ≡ Some n → n ≤ max_body → HasDataHere
      data_recorded n is fits =
          let cause = causes.Format o.one.key None in
          let made_of = ap (λ (h : Option ℕ). option_map {U = Cause × ℕ} (λ (m : ℕ). (causes.Format o.one.key None, m)) h) is in
          let t = recorded kinds.Data _ tt (own_recorded kinds.Data first count made.own reached p.place o.one reach cause n o.at at made_of fits) in
          free.content t.line key v t.inside (sym (subject_data t.line.cause) ∙ ap data_key t.cause ∙ ap (λ (k : Key). Some k) o.is_key) comes refl

      -- where a message has no room for the shortest data that break, those of this AVP are shorter
      shorter : (least : List ℕ) → max_body < reach.length - o.one.least + padded (shortest_head o.one.key + length least) → length v.bytes < length least
      shorter least over = by (cases_lt (length v.bytes) (length least))
        where
          by : (length v.bytes < length least) ⊎ (length least ≤ length v.bytes) → length v.bytes < length least
          by (inl less) = less
          by (inr le) =
              let more = rounded_more (shortest_head key + length least) (shortest_head key + length v.bytes) (omega (arith, le)) in
              let head : padded (shortest_head o.one.key + length least) ≡ padded (shortest_head key + length least) = ap (λ (k : Key). padded (shortest_head k + length least)) o.is_key in
              let least_is : o.one.least ≡ floor key = o.is.least ∙ ap floor o.is_key in
              let beside = data_beside da db who u floor floors x.rules (max_body - l.stage.way) avps v l.level comes in
              let has = total_has floor (map key_of avps) key (in_contains (map key_of avps) key (key_contained avps v comes)) in
              let fits = l.within in
              absurd (omega (arith, over, more, head, least_is, beside, has, fits, short))

      data_here : (r : DataBreak) → o.one.breaks.data ≡ r → IsRead da db u v
      data_here Fits is = inl (breaks Fits is v.bytes are data_sent)
      data_here (Groups a b) is = let both = breaks (Groups a b) is in inr (has_group da key a both.0, has_group db key b both.1)
      data_here LeastLevel is = inl (data_recorded reach.length (ap (data_length o.one reach.length) is) room)
      data_here EightBytes is = inl (data_recorded reach.length (ap (data_length o.one reach.length) is) room)
      data_here Undecided is = inl (data_recorded reach.length (ap (data_length o.one reach.length) is) room)
      data_here (Data w) is = inl (by (cases_lt max_body (with_data o.one reach.length w)))
        where
          by : (max_body < with_data o.one reach.length w) ⊎ (with_data o.one reach.length w ≤ max_body) → HasDataHere
          by (inr fits) = data_recorded (with_data o.one reach.length w) (ap (data_length o.one reach.length) is) fits
          by (inl over) =
              let h = breaks (Data w) is in
              shorter_accepted da db who u key (witness_bytes w) v.bytes h.0 h.1 data_sent (shorter (witness_bytes w) (omega (arith, over)))

    own_fits : (p : KeptHere key) → FitsAlone da db u v
    own_fits p = by_parts da db u v (by o.one.breaks.head refl) (data_here p o w.0 w.1 w.2 (within_room w.0 w.2) o.one.breaks.data refl)
      where
        o : KeptOwn key p.place
        o = kept_own key p

        w : Reaches da db who u made.lengths made.others made.recording made.outlooks facts.is_recording facts.are_outlooks sa shortest floors start steps reached top under walk x y avps l p.place
        w = way_of da db who u made.lengths made.others made.recording made.outlooks facts.is_recording facts.are_outlooks sa shortest floors start steps reached top under walk x y avps l v comes p

        by : (h : Option HeadBreak) → o.one.breaks.head ≡ h → HasFlagsHere
        by None is = silent_flags key p.place o is v.flags flags_sent
        by (Some found) is = flags_here key p.place o w.0 w.1 (within_room w.0 w.2) (inl refl) found is

    -- what breaks nothing fits
    silent_fits : BreaksNothing da db who u key → FitsAlone da db u v
    silent_fits (flags, how) = by_parts da db u v (flags v.flags flags_sent) (by how)
      where
        by : AreGroups da db key ⊎ IsDataTaken da db who u key → IsRead da db u v
        by (inl both) = inr both
        by (inr taken) = inl (taken.0 v.bytes are data_sent)

    by_found : FoundHere key → FitsAlone da db u v
    by_found f = by f.own.breaks refl
      where
        by : (b : Bool) → f.own.breaks ≡ b → FitsAlone da db u v
        by true e = own_fits (own_kept da db who u made.lengths made.others made.recording made.outlooks facts.is_recording facts.are_outlooks key f e)
        by false e = silent_fits (subst (λ (k : Key). BreaksNothing da db who u k) f.own_key (f.exact.silent.0 e))

    -- ---- a key that neither knows: another represents it

    module _ (none_a : entry_of da key ≡ None) (none_b : entry_of db key ≡ None) (q : Key) (strange : IsStrange da db q) (vendor : q.vendor ≡ 0) where
      not_listed : (k : Key) → entry_of da k ≡ None → is_listed x.rules k ≡ false
      not_listed k none =
          let rules : rules_in da l.def ≡ x.rules = ap (λ (o : Option PlainDefinition). option_map_or (λ (y : PlainDefinition). y.rules) o []) l.at_def in
          subst (λ (rs : List DRule). is_listed rs k ≡ false) rules (unlisted da l.def k sa none)

      by_flags : HasFlagsHere → FitsAlone da db u v
      by_flags has = by_parts da db u v has (inl (any_data db u key v.bytes none_b))

      by_accepted : AcceptsFlags da db who u q → FitsAlone da db u v
      by_accepted accepts = by_flags (strange_flags da db who u q key strange (none_a, none_b) accepts v.flags flags_sent)

      stranger_fits : KeptHere q → FitsAlone da db u v
      stranger_fits p = by o.one.breaks.head refl
        where
          o : KeptOwn q p.place
          o = kept_own q p

          w : Reaches da db who u made.lengths made.others made.recording made.outlooks facts.is_recording facts.are_outlooks sa shortest floors start steps reached top under walk x y avps l p.place
          w = way_beside da db who u made.lengths made.others made.recording made.outlooks facts.is_recording facts.are_outlooks sa shortest floors start steps reached top under walk x y avps l v comes
              (not_listed key none_a) q p (not_listed q strange.0) (strange_least da who made.lengths q key strange.0 vendor none_a)

          by : (h : Option HeadBreak) → o.one.breaks.head ≡ h → FitsAlone da db u v
          by None is = by_accepted (silent_flags q p.place o is)
          by (Some found) is = by_flags (flags_here q p.place o w.0 w.1 (within_room w.0 w.2) (inr (strange, (none_a, none_b))) found is)

      by_stranger : FoundHere q → FitsAlone da db u v
      by_stranger f = by f.own.breaks refl
        where
          by : (b : Bool) → f.own.breaks ≡ b → FitsAlone da db u v
          by true e = stranger_fits (own_kept da db who u made.lengths made.others made.recording made.outlooks facts.is_recording facts.are_outlooks q f e)
          by false e = by_accepted (subst (λ (k : Key). BreaksNothing da db who u k) f.own_key (f.exact.silent.0 e)).0

    -- ---- each

    found_in : (q : Key) → Contains facts.is_recording.keys q → FoundHere q
    found_in q there = found da db who u made.lengths made.others made.recording made.outlooks facts.is_recording facts.are_outlooks q there

    pub each_fits : FitsAlone da db u v
    each_fits = by (entry_of da key) refl (entry_of db key) refl
      where
        any : entry_of da key ≡ None → who ≡ Any
        any none = sends_any da who key v.bytes none data_sent

        by : (a : Option ℕ) → entry_of da key ≡ a → (b : Option ℕ) → entry_of db key ≡ b → FitsAlone da db u v
        by (Some i) in_a b in_b = by_found (found_in key (keys_sent.own key (ap (λ (o : Option ℕ). is_some o) in_a)))
        by None in_a (Some i) in_b = by_found (found_in key (keys_sent.others (any in_a) key (ap (λ (o : Option ℕ). is_some o) in_b)))
        by None in_a None in_b =
            let (q, there, strange, vendor) = keys_sent.strange (any in_a) in
            by_stranger in_a in_b q strange vendor (found_in q there)
