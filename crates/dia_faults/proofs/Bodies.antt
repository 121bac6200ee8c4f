-- How the faults of a body are collected, level by level.
use Rattle.std.proofs.Common.{◌≡◌, ◌≢◌, ℕ, suc, ◌+◌, ◌-◌, ◌*◌, ◌<◌, ◌≤◌, List, [], ◌∷◌, ◌++◌, length, map, drop, Some, None, refl, sym, ap, subst, ◌∙◌, arith, append_assoc, get_or, inl, inr}
use Rattle.std.specs.Prelude.{slice_get, ◌⊎◌}
use Rattle.std.proofs.lemmas.List.{length-append, length-drop, map-append}
use Rattle.std.proofs.lemmas.Option.{same_Some, slice_get_cases, slice_get_within}
use Rattle.dia_wire.specs.declared.Key.{Key}
use Rattle.dia_wire.specs.Wire.{PlainAvp, key_of, head_length, avp_length, padded_length, BeginsWith, BeginsWithNone}
use Rattle.dia_wire.proofs.Spelling.{rounded-le, at_least_8}
use Rattle.dia_book.specs.declared.DRule.{DRule}
use Rattle.dia_book.specs.Dictionary.{Dictionary, IsDictionary, PlainDefinition, definitions}
use Rattle.dia_terms.specs.declared.Unknown.{Unknown}
use Rattle.dia_terms.specs.declared.Levels.{Levels}
use Rattle.dia_valid.specs.Valid.{fixed_rules}
use Rattle.dia_valid.proofs.RunsOfOneKeyMore.{at_start}
use Rattle.dia_check.specs.declared.fault.Fault.{Fault}
use Rattle.dia_check.specs.declared.open_levels.Wrong.{Wrong}
use Rattle.dia_check.specs.Levels.{Level}
use Rattle.dia_check.specs.Recording.{recorded}
use Rattle.dia_check.specs.Walks.{Found, Rest as AnyRest, following, inside, whole, fault_of}
use Rattle.dia_check.proofs.FaultlessLevels.{met_none}
use Rattle.dia_check.proofs.FirstFaults.{begun_room}
use Rattle.dia_faults.specs.declared.collector.Collector.{Collector}
use Rattle.dia_faults.specs.declared.listing.Rest.{Rest}
use Rattle.dia_faults.specs.Collecting.{Adds}
use Rattle.dia_faults.specs.Levels.{AreOwn, IsListing, IsOpened, at, at_end, broken_here, ended, broken, leaf, group}
use Rattle.dia_faults.specs.Rules.{AreMissingAtEnd}
use Rattle.dia_faults.specs.States.{HasRules, IsCounted, count_of, rest_keys}
use Rattle.dia_faults.proofs.Collecting.{adds_both, adds_none}
use Rattle.dia_faults.proofs.Nested.{AreNested, IsRestOf, few_rules, nested_inner, nested_pop, nested_push, nested_renew, nested_to}
use Rattle.dia_faults.proofs.Own.{JudgedAvp}

-- ---- what is owed of the levels that wait: the innermost first, and then what is left of those round it

module _ (d : Dictionary) (u : Unknown) (most : Levels) where
  abbrev pub Owes : List AnyRest → AnyRest → List Found → Type 0
  Owes [] s fs = IsListing d u most s fs
  Owes (q ∷ qs) s fs = (inner : List Found) × (outer : List Found) × Owes qs s inner × IsListing d u most q outer × (fs ≡ inner ++ outer)

  Owes-front : (qs : List AnyRest) (s next : AnyRest) (front fs : List Found) → ((gs : List Found) → IsListing d u most next gs → IsListing d u most s (front ++ gs))
      → Owes qs next fs → Owes qs s (front ++ fs)
  Owes-front [] s next front fs go h = go fs h
  Owes-front (q ∷ qs) s next front fs go (inner, outer, h, left, parts) =
      (front ++ inner, outer, Owes-front qs s next front inner go h, left, ap (λ (t : List Found). front ++ t) parts ∙ sym (append_assoc front inner outer))

  Owes-group : (qs : List AnyRest) (s : AnyRest) (v : PlainAvp) (rest : List ℕ) (g : PlainDefinition) (own : List Wrong) (fs : List Found) → BeginsWith v s.bytes rest → AreOwn d u most s v own
      → IsOpened d most s.level.depth v (Some g) → Owes (qs ++ following s v rest ∷ []) (inside s v g) fs → Owes qs s (map (at s.at) own ++ fs)
  Owes-group [] s v rest g own fs begins is_own opened (inner, outer, h, left, parts) =
      group v rest own g inner outer begins is_own opened h left (ap (λ (t : List Found). map (at s.at) own ++ t) parts)
  Owes-group (q ∷ qs) s v rest g own fs begins is_own opened (inner, outer, h, left, parts) =
      let front = map (at s.at) own in
      (front ++ inner, outer, Owes-group qs s v rest g own inner begins is_own opened h, left, ap (λ (t : List Found). front ++ t) parts ∙ sym (append_assoc front inner outer))

  Owes-end : (qs : List AnyRest) (q s : AnyRest) (front fs : List Found) → IsListing d u most s front → Owes qs q fs → Owes (qs ++ q ∷ []) s (front ++ fs)
  Owes-end [] q s front fs done h = (front, fs, done, h, refl)
  Owes-end (p ∷ qs) q s front fs done (inner, outer, h, left, parts) =
      (front ++ inner, outer, Owes-end qs q s front inner done h, left, ap (λ (t : List Found). front ++ t) parts ∙ sym (append_assoc front inner outer))

-- ---- what is collected

pub recorded_at : (place : ℕ) (ws : List Wrong) → map fault_of (map (at place) ws) ≡ map (recorded place) ws
recorded_at place [] = refl
recorded_at place (w ∷ ws) = ap (λ (fs : List Fault). recorded place w ∷ fs) (recorded_at place ws)

pub recorded_at_end : (level : Level) (ws : List Wrong) → map fault_of (map (at_end level) ws) ≡ map (recorded level.end) ws
recorded_at_end level [] = refl
recorded_at_end level (w ∷ ws) = ap (λ (fs : List Fault). recorded level.end w ∷ fs) (recorded_at_end level ws)

no_bytes : (bytes : List ℕ) → length bytes ≡ 0 → bytes ≡ []
no_bytes [] h = refl
no_bytes (b ∷ bytes) h = absurd (omega (arith, h))

-- nothing is counted of a level yet
pub none_counted : (counts : List (ℕ × ℕ)) (start : ℕ) (rules : List DRule) → length rules ≤ 1024 → ((i : ℕ) → i < 1024 → count_of counts start i ≡ 0) → IsCounted counts start 0 rules []
none_counted counts start rules few fresh = record {
  ends = at_start (fixed_rules rules);
  counted = λ i rule here. let lt = slice_get_within rules i rule here in fresh i (omega (arith, lt, few)) ∙ sym (met_none rules i rule);
}

module _ (d : Dictionary) (sound : IsDictionary d) (u : Unknown) (most : Levels) (start : AnyRest) (limit : ℕ) (before : Collector) where
  -- the faults so far, and those that are owed, are those of the whole
  pub record IsUnderWay (now : Collector) (counts : List (ℕ × ℕ)) (rs : List Rest) (r : Rest) : Type 0 where
    pub qs : List AnyRest
    pub s : AnyRest
    pub nested : AreNested d counts 0 0 limit rs r qs s
    pub fresh : (n i : ℕ) → s.at < n → i < 1024 → count_of counts n i ≡ 0
    pub found : List Found
    pub added : Adds before now (map fault_of found)
    pub goes_on : (more : List Found) → Owes d u most qs s more → IsListing d u most start (found ++ more)

  module _ (now : Collector) (counts : List (ℕ × ℕ)) (rs : List Rest) (r : Rest) (w : IsUnderWay now counts rs r) where
    pub inner : IsRestOf d counts (length rs) r w.s
    inner = subst (λ (n : ℕ). IsRestOf d counts n r w.s) (let e : 0 + length rs ≡ length rs = omega arith in e) (nested_inner d counts 0 0 limit rs r w.qs w.s w.nested)

    pub place_is : r.end - length r.bytes.now ≡ w.s.at
    place_is = let i = inner in let size = i.size in let e = i.is_end in let b = ap (λ (t : List ℕ). length t) i.is_bytes in omega (arith, size, e, b)

    pub low : (length r.bytes.now ≤ r.end) × (r.end < 4294967296) × (r.start ≤ r.end - length r.bytes.now)
    low =
        let i = inner in let size = i.size in let e = i.is_end in let b = ap (λ (t : List ℕ). length t) i.is_bytes in let small = i.within in let from = i.after_start in let is = i.is_start in
        let p = place_is in
        (omega (arith, size, e, b), omega (arith, small, e), omega (arith, p, from, is))

    -- ---- an AVP

    module _ (v : PlainAvp) (rest : List ℕ) (begins : BeginsWith v r.bytes.now rest) where
      pub here : BeginsWith v w.s.bytes rest
      here = subst (λ (t : List ℕ). BeginsWith v t rest) inner.is_bytes begins

      pub room : (padded_length v + length rest ≡ length r.bytes.now) × (avp_length v ≤ padded_length v) × (8 ≤ head_length v.vendor)
      room = let whole_length = begun_room d u most w.s v rest here in let b = ap (λ (t : List ℕ). length t) inner.is_bytes in (omega (arith, whole_length, b), rounded-le (avp_length v), at_least_8 v.vendor)

      pub few : length w.s.earlier < 4294967295
      few = let i = inner in let f = i.few in let size = i.size in let small = i.within in let (a, b, c) = room in let e = ap (λ (t : List ℕ). length t) i.is_bytes in omega (arith, f, size, small, a, b, c, e)

      module _ (next : Rest) (new : List (ℕ × ℕ)) (after : Collector) (is_rest : next.bytes.now ≡ rest) (same_end : next.end ≡ r.end) (same_def : next.def ≡ r.def)
          (same_start : next.start ≡ r.start) (others : (n i : ℕ) → i < 1024 → n ≢ r.start → count_of new n i ≡ count_of counts n i)
          (judged : JudgedAvp d u most v (r.end - length r.bytes.now) w.s now after new r.start next.run) where
        renewed : (k : ℕ) → IsRestOf d counts k r w.s → IsRestOf d new k next (following w.s v rest)
        renewed k h =
            let size = h.size in let from = h.after_start in let f = h.few in let all = begun_room d u most w.s v rest here in let more = length-append w.s.earlier (v ∷ []) in
            let (a, b, c) = room in
            record {
              is_bytes = is_rest;
              is_start = same_start ∙ h.is_start;
              is_end = same_end ∙ h.is_end;
              deep = h.deep;
              size = omega (arith, size, all);
              after_start = omega (arith, from);
              few = omega (arith, f, more, b, c);
              within = h.within;
              has = subst (λ (n : ℕ). HasRules d n w.s.level.rules) (sym same_def) h.has;
              counted = subst (λ (n : ℕ). IsCounted new n next.run w.s.level.rules (map key_of (w.s.earlier ++ v ∷ []))) (sym same_start)
                  (subst (λ (ks : List Key). IsCounted new r.start next.run w.s.level.rules ks) (sym (map-append key_of w.s.earlier (v ∷ []))) judged.1);
            }

        nested_after : AreNested d new 0 0 limit rs next w.qs (following w.s v rest)
        nested_after = nested_renew d sound counts new r next w.s (following w.s v rest) (λ n i lt ne. others n i lt (λ e. ne (e ∙ inner.is_start))) renewed refl 0 0 limit rs w.qs w.nested

        fresh_after : (n i : ℕ) → w.s.at < n → i < 1024 → count_of new n i ≡ 0
        fresh_after n i lt small =
            let is_start = inner.is_start in let from = inner.after_start in
            others n i small (λ e. omega (arith, lt, is_start, from, e)) ∙ w.fresh n i lt small

        abbrev own : List Wrong
        own = judged.0.0

        all_added : Adds before after (map fault_of (w.found ++ map (at w.s.at) own))
        all_added =
            let here_recorded = subst (λ (p : ℕ). Adds now after (map (recorded p) own)) place_is judged.0.2 in
            subst (Adds before after) (sym (map-append fault_of w.found (map (at w.s.at) own)))
            (adds_both before now after (map fault_of w.found) (map fault_of (map (at w.s.at) own)) w.added (subst (Adds now after) (sym (recorded_at w.s.at own)) here_recorded))

        pub leaf_passed : IsOpened d most w.s.level.depth v None → IsUnderWay after new rs next
        leaf_passed opened = record {
          qs = w.qs;
          s = following w.s v rest;
          nested = nested_after;
          fresh = λ n i lt small. fresh_after n i (omega (arith, lt)) small;
          found = w.found ++ map (at w.s.at) own;
          added = all_added;
          goes_on = λ more h. subst (IsListing d u most start) (sym (append_assoc w.found (map (at w.s.at) own) more))
              (w.goes_on (map (at w.s.at) own ++ more) (Owes-front d u most w.qs w.s (following w.s v rest) (map (at w.s.at) own) more
              (λ gs k. leaf v rest own gs here judged.0.1 opened k refl) h));
        }

        module _ (g : PlainDefinition) (def : ℕ) (is_def : slice_get (definitions d) def ≡ Some g) (opened : IsOpened d most w.s.level.depth v (Some g)) (first : Rest)
            (is_data : first.bytes.now ≡ v.bytes) (ends : first.end ≡ r.end - length r.bytes.now + avp_length v) (begins_at : first.start ≡ r.end - length r.bytes.now + head_length v.vendor)
            (same_number : first.def ≡ def) (no_run : first.run ≡ 0) where
          start_is : first.start ≡ w.s.at + head_length v.vendor
          start_is = let p = place_is in omega (arith, begins_at, p)

          fresh_here : (i : ℕ) → i < 1024 → count_of new (w.s.at + head_length v.vendor) i ≡ 0
          fresh_here i small = let (a, b, c) = room in fresh_after (w.s.at + head_length v.vendor) i (omega (arith, c)) small

          inside_rest : (k : ℕ) → w.s.level.depth ≡ k → IsRestOf d new (suc k) first (inside w.s v g)
          inside_rest k deep =
              let (a, b, c) = room in let size = inner.size in let small = inner.within in let all = begun_room d u most w.s v rest here in let p = place_is in
              let has : HasRules d first.def g.rules = record { definition = g; is_definition = ap (λ (n : ℕ). slice_get (definitions d) n) same_number ∙ is_def; is_rules = refl } in
              record {
                is_bytes = is_data;
                is_start = start_is;
                is_end = omega (arith, ends, p);
                deep = ap (λ (n : ℕ). suc n) deep;
                size = omega arith;
                after_start = omega arith;
                few = omega arith;
                within = omega (arith, size, small, all, b);
                has = has;
                counted = subst (λ (n : ℕ). IsCounted new n first.run g.rules []) (sym start_is)
                    (subst (λ (n : ℕ). IsCounted new (w.s.at + head_length v.vendor) n g.rules []) (sym no_run)
                    (none_counted new (w.s.at + head_length v.vendor) g.rules (few_rules d sound first.def g.rules has) fresh_here));
              }

          pub group_entered : IsUnderWay after new (rs ++ next ∷ []) first
          group_entered =
              let (a, b, c) = room in let from = inner.after_start in let deep = inner.deep in
              let zero_more : 0 + length rs ≡ length rs = omega arith in
              record {
                qs = w.qs ++ following w.s v rest ∷ [];
                s = inside w.s v g;
                nested = nested_push d new 0 0 limit rs next w.qs (following w.s v rest) first (inside w.s v g) nested_after (inside_rest (0 + length rs) (deep ∙ sym zero_more)) (omega (arith, from, c))
                    (omega (arith, b));
                fresh = λ n i lt small. fresh_after n i (omega (arith, lt)) small;
                found = w.found ++ map (at w.s.at) own;
                added = all_added;
                goes_on = λ more h. subst (IsListing d u most start) (sym (append_assoc w.found (map (at w.s.at) own) more))
                    (w.goes_on (map (at w.s.at) own ++ more) (Owes-group d u most w.qs w.s v rest g own more here judged.0.1 opened h));
              }

    -- ---- the end of a level

    pub end_found : (after : Collector) → length r.bytes.now ≡ 0
        → ((wrongs : List Wrong) × AreMissingAtEnd w.s.level.rules (rest_keys w.s) wrongs × Adds now after (map (recorded r.end) wrongs))
        → (front : List Found) × IsListing d u most w.s front × Adds now after (map fault_of front)
    end_found after none (wrongs, is, added) = (
      map (at_end w.s.level) wrongs,
      ended wrongs (sym inner.is_bytes ∙ no_bytes r.bytes.now none) is refl,
      subst (Adds now after) (sym (recorded_at_end w.s.level wrongs)) (subst (λ (p : ℕ). Adds now after (map (recorded p) wrongs)) inner.is_end added),
    )

    pub broken_found : (after : Collector) → 0 < length r.bytes.now → BeginsWithNone r.bytes.now → Adds now after (recorded (r.end - length r.bytes.now) broken_here ∷ [])
        → (front : List Found) × IsListing d u most w.s front × Adds now after (map fault_of front)
    broken_found after some none added = (
      at w.s.at broken_here ∷ [],
      broken (subst (λ (t : List ℕ). 0 < length t) inner.is_bytes some) (subst BeginsWithNone inner.is_bytes none) refl,
      subst (λ (p : ℕ). Adds now after (recorded p broken_here ∷ [])) place_is added,
    )

    module _ (after : Collector) (done : (front : List Found) × IsListing d u most w.s front × Adds now after (map fault_of front)) where
      front_added : Adds before after (map fault_of (w.found ++ done.0))
      front_added = subst (Adds before after) (sym (map-append fault_of w.found done.0)) (adds_both before now after (map fault_of w.found) (map fault_of done.0) w.added done.2)

      pub level_closed : (os : List Rest) (o : Rest) → rs ≡ os ++ o ∷ [] → IsUnderWay after counts os o
      level_closed os o is_all =
          let (ps, q, is, others, to) = nested_pop d counts 0 0 limit os o r w.qs w.s (subst (λ (l : List Rest). AreNested d counts 0 0 limit l r w.qs w.s) is_all w.nested) in
          let size = inner.size in
          record {
            qs = ps;
            s = q;
            nested = others;
            fresh = λ n i lt small. w.fresh n i (omega (arith, lt, to, size)) small;
            found = w.found ++ done.0;
            added = front_added;
            goes_on = λ more h. subst (IsListing d u most start) (sym (append_assoc w.found done.0 more))
                (w.goes_on (done.0 ++ more) (subst (λ (l : List AnyRest). Owes d u most l w.s (done.0 ++ more)) (sym is) (Owes-end d u most ps q w.s done.0 more done.1 h)));
          }

      pub all_closed : length rs ≡ 0 → (fs : List Found) × IsListing d u most start fs × Adds before after (map fault_of fs)
      all_closed none = (w.found ++ done.0, w.goes_on done.0 (by rs w.qs none w.nested), front_added)
        where
          by : (os : List Rest) (qs : List AnyRest) → length os ≡ 0 → AreNested d counts 0 0 limit os r qs w.s → Owes d u most qs w.s done.0
          by [] [] none h = done.1
          by [] (q ∷ qs) none h = absurd h
          by (o ∷ os) qs none h = absurd (omega (arith, none))

-- ---- the measure: what is left to read, and how many levels wait

abbrev pub left_of : ℕ → Rest → List Rest → ℕ
left_of limit r rs = 2 * (limit - (r.end - length r.bytes.now)) + length rs

module _ (d : Dictionary) (sound : IsDictionary d) (u : Unknown) (most : Levels) (start : AnyRest) (limit : ℕ) (before now : Collector) (counts : List (ℕ × ℕ)) (rs : List Rest) (r : Rest)
    (w : IsUnderWay d sound u most start limit before now counts rs r) where
  reached : (w.s.at ≤ w.s.level.end) × (w.s.level.end ≤ limit) × (r.end ≡ w.s.level.end) × (r.end - length r.bytes.now ≡ w.s.at) × (w.s.at + length r.bytes.now ≡ w.s.level.end)
  reached =
      let i = inner d sound u most start limit before now counts rs r w in let size = i.size in let b = ap (λ (t : List ℕ). length t) i.is_bytes in
      (omega (arith, size), nested_to d counts 0 0 limit rs r w.qs w.s w.nested, i.is_end, place_is d sound u most start limit before now counts rs r w, omega (arith, size, b))

  pub less_following : (v : PlainAvp) (next : Rest) → BeginsWith v r.bytes.now next.bytes.now → next.end ≡ r.end → left_of limit next rs < left_of limit r rs
  less_following v next begins same_end =
      let (a, b, c, e, f) = reached in let (padded, longer, eight) = room d sound u most start limit before now counts rs r w v next.bytes.now begins in
      omega (arith, a, b, c, e, f, padded, longer, eight, same_end)

  pub less_inside : (v : PlainAvp) (rest : List ℕ) (next first : Rest) (waiting : List Rest) → BeginsWith v r.bytes.now rest → waiting ≡ rs ++ next ∷ [] → first.bytes.now ≡ v.bytes
      → first.end ≡ r.end - length r.bytes.now + avp_length v → left_of limit first waiting < left_of limit r rs
  less_inside v rest next first waiting begins is_all is_data ends =
      let (a, b, c, e, f) = reached in let (padded, longer, eight) = room d sound u most start limit before now counts rs r w v rest begins in
      let many = ap (λ (l : List Rest). length l) is_all in let more = length-append rs (next ∷ []) in let data_length = ap (λ (t : List ℕ). length t) is_data in
      omega (arith, a, b, c, e, f, padded, longer, eight, ends, many, more, data_length)

  pub less_closed : (os : List Rest) (o : Rest) → rs ≡ os ++ o ∷ [] → left_of limit o os < left_of limit r rs
  less_closed os o is_all =
      let (ps, q, is, others, to) = nested_pop d counts 0 0 limit os o r w.qs w.s (subst (λ (l : List Rest). AreNested d counts 0 0 limit l r w.qs w.s) is_all w.nested) in
      let (a, b, c, e, f) = reached in let i = nested_inner d counts 0 0 limit os o ps q others in let size = i.size in let is_end = i.is_end in let bytes = ap (λ (t : List ℕ). length t) i.is_bytes in
      let many = ap (λ (l : List Rest). length l) is_all in let more = length-append os (o ∷ []) in
      omega (arith, a, b, c, e, f, to, size, is_end, bytes, many, more)

-- ---- the beginning

pub some_definition : (d : Dictionary) (def : ℕ) → def < length (definitions d) → (x : PlainDefinition) × (slice_get (definitions d) def ≡ Some x)
some_definition d def lt = by (slice_get_cases (definitions d) def).1
  where
    by : ((x : PlainDefinition) × (def < length (definitions d)) × (slice_get (definitions d) def ≡ Some x) × (get_or (definitions d) def x ≡ x)) ⊎
        ((length (definitions d) ≤ def) × (slice_get (definitions d) def ≡ None)) → (x : PlainDefinition) × (slice_get (definitions d) def ≡ Some x)
    by (inl (x, lt', at_def, got)) = (x, at_def)
    by (inr (le, none)) = absurd (omega (arith, le, lt))

-- the command that the clause names is the one that was looked up
pub of_command : (d : Dictionary) (u : Unknown) (most : Levels) (def : ℕ) (bytes : List ℕ) (before after : Collector) (x command : PlainDefinition) → slice_get (definitions d) def ≡ Some x
    → slice_get (definitions d) def ≡ Some command → (fs : List Found) × IsListing d u most (whole x.rules bytes) fs × Adds before after (map fault_of fs)
    → (fs : List Found) × IsListing d u most (whole command.rules bytes) fs × Adds before after (map fault_of fs)
of_command d u most def bytes before after x command is other h =
    subst (λ (y : PlainDefinition). (fs : List Found) × IsListing d u most (whole y.rules bytes) fs × Adds before after (map fault_of fs)) (same_Some x command (sym is ∙ other)) h

pub started : (d : Dictionary) (sound : IsDictionary d) (u : Unknown) (most : Levels) (command : PlainDefinition) (bytes : List ℕ) (before : Collector) (counts : List (ℕ × ℕ)) (r : Rest)
    → 20 ≤ length bytes → length bytes < 4294967296 → slice_get (definitions d) r.def ≡ Some command → ((n i : ℕ) → count_of counts n i ≡ 0)
    → r.bytes.now ≡ drop 20 bytes → r.end ≡ length bytes → r.start ≡ 20 → r.run ≡ 0
    → IsUnderWay d sound u most (whole command.rules bytes) (length bytes) before before counts [] r
started d sound u most command bytes before counts r long few is_def none is_bytes is_end is_start no_run =
    let size = length-drop 20 bytes in
    let has : HasRules d r.def command.rules = record { definition = command; is_definition = is_def; is_rules = refl } in
    record {
      qs = [];
      s = whole command.rules bytes;
      nested = (
        record {
          is_bytes = is_bytes;
          is_start = is_start;
          is_end = is_end;
          deep = refl;
          size = omega (arith, size, long);
          after_start = omega arith;
          few = omega arith;
          within = few;
          has = has;
          counted = subst (λ (n : ℕ). IsCounted counts r.start n command.rules []) (sym no_run)
              (none_counted counts r.start command.rules (few_rules d sound r.def command.rules has) (λ i small. none r.start i));
        },
        omega arith,
        omega arith,
      );
      fresh = λ n i lt small. none n i;
      found = [];
      added = adds_none before;
      goes_on = λ more h. h;
    }
