-- Lines of AVPs by themselves: which AVPs they report, and that messages have room for them.
use Rattle.std.proofs.Common.{◌≡◌, ℕ, zero, suc, ◌+◌, ◌≤◌, Bool, true, false, List, [], ◌∷◌, ◌++◌, length, map, Option, Some, None, refl, sym, ap, subst, ◌∙◌, arith, inl, inr}
use Rattle.std.specs.Prelude.{◌⊎◌, ⊤, ◌&&◌, min, not, is_some, nat_le, slice_get, option_and_then, option_to_list, unwrap_or, if◌then◌else◌}
use Rattle.std.specs.Option.{option_map, option_map_or}
use Rattle.std.proofs.lemmas.Option.{none-some, same_Some}
use Rattle.dia_wire.specs.declared.Key.{Key}
use Rattle.dia_book.specs.Dictionary.{Dictionary, has_command}
use Rattle.dia_book.proofs.Members.{at_filter_map, at_map, into_map}
use Rattle.dia_terms.specs.declared.Sends.{Sends}
use Rattle.dia_terms.specs.declared.Unknown.{Unknown}
use Rattle.dia_valid.specs.Rules.{rules_in}
use Rattle.dia_valid.proofs.Members.{IsIn, at_in, in_append, in_at}
use Rattle.dia_breaking_sites.specs.Selection.{max_body}
use Rattle.dia_breaking_avps.specs.Breaks.{IsHeadBreak, RefusesFlag}
use Rattle.dia_breaking_avps.specs.declared.breaking.HeadBreak.{HeadBreak}
use Rattle.dia_breaking_avps.specs.declared.breaking.HeadBreak.TheVariants as head_breaks
use Rattle.dia_breaking_levels.specs.declared.line.Line.{Line as LevelLine}
use Rattle.dia_breaking_ways.specs.Walks.{Graph, HasExits, IsReached, IsWalk, PlainLevel, Stage, level_of, stage_at, stage_by, stage_of}
use Rattle.dia_breaking_ways.specs.declared.graph.Reach.{Reach}
use Rattle.dia_breaking_ways.specs.declared.graph.Step.{Step}
use Rattle.dia_breaking.specs.declared.exits.Outlook.{Outlook}
use Rattle.dia_breaking.specs.declared.heads.Head.{Head}
use Rattle.dia_breaking.specs.declared.line.Cause.{Cause}
use Rattle.dia_breaking.specs.declared.line.Cause.TheVariants as causes
use Rattle.dia_breaking.specs.declared.line.Site.{Site}
use Rattle.dia_breaking.specs.declared.own_breaks.OwnBreaks.{OwnBreaks}
use Rattle.dia_breaking.specs.declared.own_lines.Kind.{Kind}
use Rattle.dia_breaking.specs.declared.own_lines.Kind.TheVariants as kinds
use Rattle.dia_breaking.specs.declared.start.Start.{Start}
use Rattle.dia_breaking.specs.Headers.{allows}
use Rattle.dia_breaking.specs.Lengths.{listed_length}
use Rattle.dia_breaking.specs.Listing.{Recorded, Basis, IsListing, IsWalkFrom, basis_of, command_levels, data_length, flag_causes, group_levels, head_cause, header_causes, header_line, header_lines, level_lines, lines_in, lines_of, numbers, own_cause, own_line, own_lines, reach_at, reached_line, refusal, start_of, with_room}
use Rattle.dia_breaking.specs.Orders.{of_each}
use Rattle.dia_breaking.specs.OwnBreaks.{IsOwnBreaks}
use Rattle.dia_breaking.specs.Sides.{Sides, sides}
use Rattle.dia_breaking.specs.Sites.{other_head, site_number}
use Rattle.dia_breaking.specs.TheLines.{AreFacts, Facts, IsStartOf, costs_in}
use Rattle.dia_breaking.proofs.Lists.{all_in, contains_at}
use Rattle.dia_breaking.proofs.RecordedLevels.{from_each, from_sorted}
use Rattle.dia_breaking.proofs.WalkGraphs.{lead_takes}

-- what is reported of AVPs by themselves: the key, and M, where it is of their flags
abbrev pub own_key : Cause → Option Key
own_key causes.Command = None
own_key causes.Application = None
own_key (causes.Proxiable set) = None
own_key (causes.Level line) = None
own_key (causes.Unknown key m) = Some key
own_key (causes.MBit key m) = Some key
own_key (causes.Format key found) = Some key
own_key (causes.LevelAsLeaf key) = None
own_key (causes.Meaning key) = None

-- B refuses this flag, if the cause is of one
abbrev pub RefusesRecorded : Sides → Cause → Type 0
RefusesRecorded s (causes.Unknown key m) = RefusesFlag s.sender s.receiver s.sends s.unknown key m
RefusesRecorded s (causes.MBit key m) = RefusesFlag s.sender s.receiver s.sends s.unknown key m
RefusesRecorded s cause = ⊤

-- ---- the levels that a walk leads to

stage_exits : (graph : Graph) (steps : List Step) (number : ℕ) (stage : Stage) → stage_at graph steps number ≡ Some stage → HasExits graph stage.exits
stage_exits graph steps zero stage is = inl (ap (λ (s : Stage). s.exits) (sym (same_Some (record { way = 0; wild = false; exits = graph.start }) stage is)))
stage_exits graph steps (suc i) stage is = by_step (slice_get steps i) is
  where
    by_level : (step : Step) (o : Option PlainLevel) → level_of graph step.place ≡ o → option_map (stage_by step) o ≡ Some stage
        → HasExits graph stage.exits
    by_level step None at e = absurd (none-some stage e)
    by_level step (Some level) at e =
        inr (step.place, level, at, ap (λ (s : Stage). s.exits) (sym (same_Some (stage_by step level) stage e)))

    by_step : (o : Option Step) → option_and_then (stage_of graph) o ≡ Some stage → HasExits graph stage.exits
    by_step None e = absurd (none-some stage e)
    by_step (Some step) e = by_level step (level_of graph step.place) refl e

-- ---- what is reported

-- it is reported of this AVP, to which a walk leads
record IsRecordedOf (kind : Kind) (own : List OwnBreaks) (reached : List (Option Reach)) (recorded : Recorded) : Type 0 where
  place : ℕ
  one : OwnBreaks
  reach : Reach
  at : slice_get own place ≡ Some one
  is_reach : slice_get reached place ≡ Some (Some reach)
  size : ℕ
  cause : own_cause kind one reach.length ≡ Some (recorded.cause, size)

reach_there : (reached : List (Option Reach)) (place : ℕ) (reach : Reach) → reach_at reached place ≡ Some reach → slice_get reached place ≡ Some (Some reach)
reach_there reached place reach is = by (slice_get reached place) refl is
  where
    by : (o : Option (Option Reach)) → slice_get reached place ≡ o → option_and_then (λ (r : Option Reach). r) o ≡ Some reach → slice_get reached place ≡ Some (Some reach)
    by None at e = absurd (none-some reach e)
    by (Some r) at e = at ∙ ap (λ (x : Option Reach). Some x) e

recorded_of_own : (kind : Kind) (first count : ℕ) (own : List OwnBreaks) (reached : List (Option Reach)) (recorded : Recorded) → IsIn recorded (own_lines kind first count own reached) → IsRecordedOf kind own reached recorded
recorded_of_own kind first count own reached recorded i =
    let (place, one, at, here) = from_each (reached_line kind first count reached) own recorded i in
    by place one at (reach_at reached place) refl here
  where
    listed : (o : Option Recorded) → IsIn recorded (option_to_list o) → o ≡ Some recorded
    listed None h = absurd h
    listed (Some t) (inl e) = ap (λ (x : Recorded). Some x) (sym e)
    listed (Some t) (inr h) = absurd h

    cause_of : (site size : ℕ) (cause : Cause) → with_room site size cause ≡ Some recorded → cause ≡ recorded.cause
    cause_of site size cause is = of (nat_le size max_body) is
      where
        of : (t : Bool) → (if t then Some (let line : Recorded = record { site = site; cause = cause; length = size } in line) else None) ≡ Some recorded → cause ≡ recorded.cause
        of true e = ap (λ (t : Recorded). t.cause) (same_Some (let line : Recorded = record { site = site; cause = cause; length = size } in line) recorded e)
        of false e = absurd (none-some recorded e)

    made : (place : ℕ) (one : OwnBreaks) (reach : Reach) → slice_get own place ≡ Some one → reach_at reached place ≡ Some reach → (o : Option (Cause × ℕ)) → own_cause kind one reach.length ≡ o
        → option_and_then (λ (found : Cause × ℕ). with_room (site_number first count reach.level) found.1 found.0) o ≡ Some recorded → IsRecordedOf kind own reached recorded
    made place one reach at is None h e = absurd (none-some recorded e)
    made place one reach at is (Some found) h e = record {
      place = place;
      one = one;
      reach = reach;
      at = at;
      is_reach = reach_there reached place reach is;
      size = found.1;
      cause = h ∙ ap (λ (cause : Cause). let pair : Cause × ℕ = (cause, found.1) in Some pair) (cause_of (site_number first count reach.level) found.1 found.0 e);
    }

    by : (place : ℕ) (one : OwnBreaks) → slice_get own place ≡ Some one → (o : Option Reach) → reach_at reached place ≡ o → IsIn recorded (option_to_list (option_and_then (own_line kind first count one) o))
        → IsRecordedOf kind own reached recorded
    by place one at None is h = absurd h
    by place one at (Some reach) is h = made place one reach at is (own_cause kind one reach.length) refl (listed (own_line kind first count one reach) h)

-- ---- the cause of an AVP

module _ (s : Sides) (one : OwnBreaks) (head : IsHeadBreak s.sender s.receiver s.sends s.unknown one.key one.breaks.head) (size : ℕ) where
  -- the cause is of the AVP's key, and of a flag that B refuses
  abbrev IsOfOwn : Cause → Type 0
  IsOfOwn cause = (own_key cause ≡ Some one.key) × RefusesRecorded s cause

  of_head : (kind : Kind) (o : Option HeadBreak) → one.breaks.head ≡ o → (cause : Cause) (n : ℕ)
      → option_map (λ (c : Cause). let pair : Cause × ℕ = (c, size) in pair) (option_and_then (head_cause kind one.key) o) ≡ Some (cause, n) → IsOfOwn cause
  of_head kind None is cause n e = absurd (none-some (cause, n) e)
  of_head kinds.Unknown (Some (head_breaks.Unknown m)) is cause n e =
      let refused = subst (IsHeadBreak s.sender s.receiver s.sends s.unknown one.key) is head in
      subst (λ (c : Cause). (own_key c ≡ Some one.key) × RefusesRecorded s c) (ap (λ (p : Cause × ℕ). p.0) (same_Some (causes.Unknown one.key m, size) (cause, n) e)) (refl, refused.1.0)
  of_head kinds.MBit (Some (head_breaks.MBit m)) is cause n e =
      let refused = subst (IsHeadBreak s.sender s.receiver s.sends s.unknown one.key) is head in
      subst (λ (c : Cause). (own_key c ≡ Some one.key) × RefusesRecorded s c) (ap (λ (p : Cause × ℕ). p.0) (same_Some (causes.MBit one.key m, size) (cause, n) e)) (refl, refused.1.0)
  of_head kinds.Unknown (Some (head_breaks.MBit m)) is cause n e = absurd (none-some (cause, n) e)
  of_head kinds.MBit (Some (head_breaks.Unknown m)) is cause n e = absurd (none-some (cause, n) e)
  of_head kinds.Data (Some (head_breaks.Unknown m)) is cause n e = absurd (none-some (cause, n) e)
  of_head kinds.Data (Some (head_breaks.MBit m)) is cause n e = absurd (none-some (cause, n) e)
  of_head kinds.Meaning (Some (head_breaks.Unknown m)) is cause n e = absurd (none-some (cause, n) e)
  of_head kinds.Meaning (Some (head_breaks.MBit m)) is cause n e = absurd (none-some (cause, n) e)

  of_data : (o : Option ℕ) (cause : Cause) (n : ℕ) → option_map (λ (m : ℕ). let pair : Cause × ℕ = (causes.Format one.key None, m) in pair) o ≡ Some (cause, n) → IsOfOwn cause
  of_data None cause n e = absurd (none-some (cause, n) e)
  of_data (Some m) cause n e =
      subst (λ (c : Cause). (own_key c ≡ Some one.key) × RefusesRecorded s c) (ap (λ (p : Cause × ℕ). p.0) (same_Some (causes.Format one.key None, m) (cause, n) e)) (refl, tt)

  of_other : (t : Bool) (cause : Cause) (n : ℕ) → (if t then Some (let pair : Cause × ℕ = (causes.Meaning one.key, size) in pair) else None) ≡ Some (cause, n) → own_key cause ≡ None
  of_other true cause n e = ap (λ (p : Cause × ℕ). own_key p.0) (sym (same_Some (causes.Meaning one.key, size) (cause, n) e))
  of_other false cause n e = absurd (none-some (cause, n) e)

  of_kind : (kind : Kind) (cause : Cause) (n : ℕ) → own_cause kind one size ≡ Some (cause, n) → (own_key cause ≡ None) ⊎ IsOfOwn cause
  of_kind kinds.Data cause n e = inr (of_data (data_length one size one.breaks.data) cause n e)
  of_kind kinds.Meaning cause n e = inl (of_other one.is_other cause n e)
  of_kind kinds.Unknown cause n e = inr (of_head kinds.Unknown one.breaks.head refl cause n e)
  of_kind kinds.MBit cause n e = inr (of_head kinds.MBit one.breaks.head refl cause n e)

-- ---- the lines of the header and of levels

no_head_key : (db : Dictionary) (head : Head) (app : ℕ) (cause : Cause) → IsIn cause (header_causes db head app) → own_key cause ≡ None
no_head_key db head app cause = by (other_head db head app)
  where
    refused : (t : Bool) → own_key (if t then causes.Application else causes.Command) ≡ None
    refused true = refl
    refused false = refl

    flags : (set t : Bool) → IsIn cause (if t then causes.Proxiable set ∷ [] else []) → own_key cause ≡ None
    flags set true (inl e) = ap own_key e
    flags set true (inr i) = absurd i
    flags set false i = absurd i

    both : (other : Head) → IsIn cause (flag_causes head other false) ⊎ IsIn cause (flag_causes head other true) → own_key cause ≡ None
    both other (inl i) = flags false (allows head.p false && not (allows other.p false)) i
    both other (inr i) = flags true (allows head.p true && not (allows other.p true)) i

    by : (o : Option Head) → IsIn cause (option_map_or (λ other. flag_causes head other false ++ flag_causes head other true) o (refusal db head ∷ [])) → own_key cause ≡ None
    by None (inl e) = ap own_key e ∙ refused (has_command db head.code head.class)
    by None (inr i) = absurd i
    by (Some other) i = both other (in_append (flag_causes head other false) (flag_causes head other true) cause i)

no_level_key : (site way : ℕ) (found : List LevelLine) (recorded : Recorded) → IsIn recorded (level_lines site way found) → own_key recorded.cause ≡ None
no_level_key site way found recorded i =
    let p = at_in (level_lines site way found) recorded i in
    let h = at_filter_map (λ (l : LevelLine). with_room site (way + l.length) (causes.Level l)) found p.place recorded p.at in
    by (nat_le (way + h.1.length) max_body) h.1 h.3
  where
    by : (t : Bool) (l : LevelLine) → (if t then Some (let line : Recorded = record { site = site; cause = causes.Level l; length = way + l.length } in line) else None) ≡ Some recorded → own_key recorded.cause ≡ None
    by true l e = ap (λ (t : Recorded). own_key t.cause) (sym (same_Some (let line : Recorded = record { site = site; cause = causes.Level l; length = way + l.length } in line) recorded e))
    by false l e = absurd (none-some recorded e)

-- ---- all lines

-- messages have room for an AVP of the key; and B refuses the flag that is reported
pub record IsOwnLine (s : Sides) (made : Facts) (cause : Cause) (key : Key) : Type 0 where
  pub room : listed_length s.sender s.sends made.lengths key ≤ max_body
  pub refuses : RefusesRecorded s cause

module _ (da db : Dictionary) (who : Sends) (u : Unknown) (made : Facts) (start : Start) (c : ℕ) (sites : List Site) (recorded : List Recorded) (facts : AreFacts (sides da db who u) made)
    (is_start : IsStartOf da db made.recording (costs_in (sides da db who u) made) c start) (listing : IsListing db (basis_of start made.own made.outlooks) sites recorded) where
  abbrev s : Sides
  s = sides da db who u

  abbrev basis : Basis
  basis = basis_of start made.own made.outlooks

  abbrev from : ℕ
  from = unwrap_or (start_of db basis) 0

  abbrev count : ℕ
  count = length start.readings.items

  walk_is : (place : ℕ) (reach : Reach) → slice_get listing.reached place ≡ Some (Some reach) → IsWalk basis.graph listing.steps listing.reached
  walk_is place reach at = by (is_some (start_of db basis)) listing.is_walk
    where
      by : (t : Bool) → IsWalkFrom t basis.graph listing.steps listing.reached → IsWalk basis.graph listing.steps listing.reached
      by true walk = walk
      by false none = absurd (none-some (Some reach) (sym (ap (λ (xs : List (Option Reach)). slice_get xs place) none.1) ∙ at))

  outlook_at : (place : ℕ) (one : OwnBreaks) → slice_get made.own place ≡ Some one → (outlook : Outlook) × (slice_get made.outlooks place ≡ Some outlook) × (outlook.key ≡ one.key)
  outlook_at place one at =
      let keys : map (λ (o : Outlook). o.key) made.outlooks ≡ map (λ (one : OwnBreaks). one.key) made.own = facts.are_outlooks.0 ∙ sym facts.are_own.keys in
      at_map (λ (o : Outlook). o.key) made.outlooks place one.key
      (subst (λ (ks : List Key). slice_get ks place ≡ Some one.key) (sym keys) (into_map (λ (one : OwnBreaks). one.key) made.own place one at))

  -- a walk leads only to AVPs that messages have room for
  has_room : (place : ℕ) (one : OwnBreaks) (reach : Reach) → slice_get made.own place ≡ Some one → slice_get listing.reached place ≡ Some (Some reach)
      → listed_length da who made.lengths one.key ≤ max_body
  has_room place one reach at is_reach =
      let walk = walk_is place reach is_reach in
      let reached : IsReached basis.graph listing.steps place reach.level reach.length reach.wild = (walk.shortest place (Some reach) is_reach).0 in
      let (outlook, here, same) = outlook_at place one at in
      let from_here = stage_exits basis.graph listing.steps reach.level reached.stage reached.is_stage in
      let low = lead_takes da db who u made.lengths made.others made.recording made.outlooks facts.is_recording facts.are_outlooks (rules_in da c) is_start.exits basis.graph.start reached.stage.exits max_body
      place reached.inner outlook is_start.are_exits is_start.exits_are from_here reached.leads here in
      let key : listed_length da who made.lengths outlook.key ≡ listed_length da who made.lengths one.key = ap (listed_length da who made.lengths) same in
      let total = reached.is_total in
      let room = reached.has_room in
      omega (arith, low, key, total, room)

  pub own_recorded : (t : Recorded) (key : Key) → IsIn t recorded → own_key t.cause ≡ Some key → IsOwnLine s made t.cause key
  own_recorded t key i is =
      own_data (in_append _ (by kinds.Data) t (from_sorted (λ (x : Recorded). x.site) (lines_of db basis (numbers from count) listing.steps listing.reached) recorded t listing.lines_are i))
    where
      heads : List Recorded
      heads = of_each (header_lines db basis.head basis.base) basis.readings

      own_levels : List Recorded
      own_levels = of_each command_levels basis.levels

      inner : List Recorded
      inner = of_each (group_levels count (map lines_in made.outlooks)) listing.steps

      by : Kind → List Recorded
      by kind = own_lines kind from count made.own listing.reached

      none : own_key t.cause ≡ None → IsOwnLine s made t.cause key
      none e = absurd (none-some key (sym e ∙ is))

      of_own : (kind : Kind) → IsIn t (by kind) → IsOwnLine s made t.cause key
      of_own kind j =
          let found = recorded_of_own kind from count made.own listing.reached t j in
          let own = all_in (IsOwnBreaks s (costs_in s made).listed) made.own found.one facts.are_own.each (contains_at made.own found.place found.one found.at) in
          either found own (of_kind s found.one own.head found.reach.length kind t.cause found.size found.cause)
        where
          either : (found : IsRecordedOf kind made.own listing.reached t) → IsOwnBreaks s (costs_in s made).listed found.one
              → (own_key t.cause ≡ None) ⊎ ((own_key t.cause ≡ Some found.one.key) × RefusesRecorded s t.cause) → IsOwnLine s made t.cause key
          either found own (inl e) = none e
          either found own (inr (e, refused)) =
              let same : found.one.key ≡ key = same_Some found.one.key key (sym e ∙ is) in
              record {
                room = subst (λ (k : Key). listed_length da who made.lengths k ≤ max_body) same (has_room found.place found.one found.reach found.at found.is_reach);
                refuses = refused;
              }

      at_head : IsIn t heads → IsOwnLine s made t.cause key
      at_head j =
          let (n, r, at, h) = from_each (header_lines db basis.head basis.base) basis.readings t j in
          let p = at_in (header_lines db basis.head basis.base n r) t h in
          let (cause, here, same) = at_map (header_line basis.base n) (header_causes db basis.head r.read_as) p.place t p.at in
          none (ap (λ (x : Recorded). own_key x.cause) (sym same) ∙ no_head_key db basis.head r.read_as cause (in_at (header_causes db basis.head r.read_as) p.place cause here))

      at_inner : IsIn t (heads ++ own_levels) ⊎ IsIn t inner → IsOwnLine s made t.cause key
      at_inner (inl j) = at_levels (in_append heads own_levels t j)
        where
          at_levels : IsIn t heads ⊎ IsIn t own_levels → IsOwnLine s made t.cause key
          at_levels (inl j) = at_head j
          at_levels (inr j) = let (n, found, at, h) = from_each command_levels basis.levels t j in none (no_level_key n 0 found t h)
      at_inner (inr j) =
          let (n, step, at, h) = from_each (group_levels count (map lines_in made.outlooks)) listing.steps t j in
          at_group n step (slice_get (map lines_in made.outlooks) step.place) h
        where
          at_group : (n : ℕ) (step : Step) (o : Option (List LevelLine)) → IsIn t (option_map_or (level_lines (min (count + n) 18446744073709551615) step.way) o []) → IsOwnLine s made t.cause key
          at_group n step None h = absurd h
          at_group n step (Some found) h = none (no_level_key (min (count + n) 18446744073709551615) step.way found t h)

      unknown : IsIn t (heads ++ own_levels ++ inner) ⊎ IsIn t (by kinds.Unknown) → IsOwnLine s made t.cause key
      unknown (inl j) = at_inner (in_append (heads ++ own_levels) inner t j)
      unknown (inr j) = of_own kinds.Unknown j

      flags : IsIn t (heads ++ own_levels ++ inner ++ by kinds.Unknown) ⊎ IsIn t (by kinds.MBit) → IsOwnLine s made t.cause key
      flags (inl j) = unknown (in_append (heads ++ own_levels ++ inner) (by kinds.Unknown) t j)
      flags (inr j) = of_own kinds.MBit j

      own_data : IsIn t (heads ++ own_levels ++ inner ++ by kinds.Unknown ++ by kinds.MBit) ⊎ IsIn t (by kinds.Data) → IsOwnLine s made t.cause key
      own_data (inl j) = flags (in_append (heads ++ own_levels ++ inner ++ by kinds.Unknown) (by kinds.MBit) t j)
      own_data (inr j) = of_own kinds.Data j
