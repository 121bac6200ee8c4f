-- What isn't reported to be in no message, some message has.
use Rattle.std.proofs.Common.{◌≡◌, ℕ, ◌+◌, ◌<◌, ◌≤◌, Bool, true, false, List, [], ◌∷◌, ◌++◌, length, Option, Some, None, refl, sym, ap, subst, ◌∙◌, arith, inl, inr}
use Rattle.std.specs.Prelude.{◌⊎◌, nat_eq, nat_le, ◌||◌, ◌&&◌, if◌then◌else◌, is_some, option_and_then, slice_get, unwrap_or, Contains}
use Rattle.std.specs.List.{flat_map}
use Rattle.std.specs.Option.{option_eq, option_map_or}
use Rattle.std.proofs.lemmas.Bool.{leb-true}
use Rattle.std.proofs.lemmas.List.Elements.{Contains-append_left, Contains-append_right}
use Rattle.std.proofs.lemmas.Option.{none-some, same_Some, slice_get_within}
use Rattle.dia_wire.specs.declared.Key.{Key}
use Rattle.dia_wire.specs.Wire.{PlainAvp}
use Rattle.dia_book.specs.declared.DRule.{DRule}
use Rattle.dia_book.specs.Dictionary.{Dictionary, DictEntry, PlainDefinition, IsDictionary, definitions, entry_of, group_place}
use Rattle.dia_book.proofs.Members.{at_Contains, at_filter_map}
use Rattle.dia_terms.specs.declared.Sends.{Sends}
use Rattle.dia_terms.specs.declared.Sends.TheVariants.{Listed}
use Rattle.dia_terms.specs.declared.Unknown.{Unknown}
use Rattle.dia_valid.specs.Rules.{rules_in}
use Rattle.dia_valid.specs.Valid.{class_of, is_listed}
use Rattle.dia_valid.proofs.Members.{IsIn, contains_in, in_at, in_contains, in_left, in_right}
use Rattle.dia_breaking_levels.specs.LevelTests.{too_long}
use Rattle.dia_breaking_levels.proofs.LeastLevels.{not_true}
use Rattle.dia_breaking_shortest.specs.Lengths.{entry_length, length_of, unknown_length}
use Rattle.dia_breaking_shortest.proofs.FloorsOfLengths.{entry_at}
use Rattle.dia_breaking_sites.specs.Sent.{IsSent}
use Rattle.dia_breaking_ways.specs.declared.graph.Reach.{Reach}
use Rattle.dia_breaking_ways.specs.declared.graph.Step.{Step}
use Rattle.dia_lint.specs.declared.finding.Finding.{Finding}
use Rattle.dia_lint.specs.declared.finding.Named.{Named}
use Rattle.dia_lint.specs.declared.finding.Named.TheVariants as named
use Rattle.dia_lint.specs.declared.finding.Subject.{Subject}
use Rattle.dia_lint.specs.declared.finding.Subject.TheVariants.{Avp, Within}
use Rattle.dia_lint.specs.declared.reached.Reached.{Reached}
use Rattle.dia_lint.specs.declared.rule.Rule.{Rule}
use Rattle.dia_lint.specs.declared.rule.Rule.TheVariants.{NeverHeld, NeverListed, NeverStands}
use Rattle.dia_lint.specs.Costs.{AreLengths, other_length, sender_of}
use Rattle.dia_lint.specs.Exact.{AreNumbered, NoLevelIsExact}
use Rattle.dia_lint.specs.Gathered.{gathered, is_of_ways, reports, way_of as way_of_finding, ways_in}
use Rattle.dia_lint.specs.Guidelines.{lets_in}
use Rattle.dia_lint.specs.Held.{HasLevel, HasNoLevel, IsHeld, IsHeldByRules, IsHeldBySide, IsInLevel, IsOtherInLevel, IsReported, IsSentLevel, IsValidLevel, OthersAreHeld, OthersAreListed, OthersStand, OtherWildcardsStand}
use Rattle.dia_lint.specs.OwnRules.{named_by}
use Rattle.dia_lint.specs.WayLines.{IsListedReached, IsReachedBy, Reported, avp_part, command_part, definition_part, group_part, is_long_group, rule_length, rules_part, stands_part}
use Rattle.dia_lint.specs.Ways.{Side, AreOfSide, IsReached, cost_of, has_in, listed_in, other_in, way_in, with_listed, with_other, with_rule}
use Rattle.dia_lint.proofs.ChosenLevels.{listed_chosen, other_chosen}
use Rattle.dia_lint.proofs.Fillers.{filler_is}
use Rattle.dia_lint.proofs.HeldLevels.{IsPlaceOf}
use Rattle.dia_lint.proofs.HostedLevels.{Hosts, IsHosted, IsMadeIn, made_in, of_step, reached_entry}
use Rattle.dia_lint.proofs.MadeLevels.{filler_key}
use Rattle.dia_lint.proofs.Messages.{no_level_exact, others_same, valid_of}
use Rattle.dia_lint.proofs.Reported.{entry_there, in_gathered, own_place}
use Rattle.dia_lint.proofs.WayFindings.{At, has_entry, selected_command, valid_level}
use Rattle.dia_lint.proofs.WayTruths.{AreAvpWays}
use Rattle.dia_lint.proofs.FoundWays.{rules_at}

-- ---- what is reported

pub reported_of : (found : List Finding) (rule : Rule) (subject : Subject) → Contains (ways_in found) (reports rule subject) → IsReported found rule subject
reported_of found rule subject inside =
    let a = at_Contains (ways_in found) (reports rule subject) inside in
    let (j, x, at, is) = at_filter_map way_of_finding found a.place (reports rule subject) a.at in
    by x (contains_in found x (in_at found j x at)) (is_of_ways x.rule) is
  where
    by : (x : Finding) → Contains found x → (b : Bool) → (if b then Some (reports x.rule x.subject) else None) ≡ Some (reports rule subject) → IsReported found rule subject
    by x has false e = absurd (none-some (reports rule subject) e)
    by x has true e =
        let same = same_Some (reports x.rule x.subject) (reports rule subject) e in
        (x, has, ap (λ (y : Reported). y.0) same, ap (λ (y : Reported). y.1) same)

into_flat_map : {X Y : Type 0} (f : X → List Y) (xs : List X) (x : X) (y : Y) → IsIn x xs → IsIn y (f x) → IsIn y (flat_map f xs)
into_flat_map f [] x y i j = absurd i
into_flat_map f (z ∷ xs) x y (inl same) j = in_left (f z) (flat_map f xs) y (subst (λ w. IsIn y (f w)) same j)
into_flat_map f (z ∷ xs) x y (inr i) j = in_right (f z) (flat_map f xs) y (into_flat_map f xs x y i j)

-- ---- what a side sends is valid, or comes by rules

valid_level_of : (d : Dictionary) (u : Unknown) (n : ℕ) (avps : List PlainAvp) → IsSentLevel d (sender_of u) n avps → IsValidLevel d u n avps
valid_level_of d u n avps (bytes, c, sent, has) =
    let valid = valid_of d u bytes c sent in
    (bytes, c, valid.0, sent.are_bytes, subst (λ (vs : List PlainAvp). HasLevel d c vs n avps) (sym valid.1) has)

module _ (s : Side) (is : IsDictionary s.book) (are : AreOfSide s) (r : Reached) (reached : IsReached s r) (numbered : AreNumbered s.book) where
  abbrev IsPlace : ℕ → ℕ → Type 0
  IsPlace n place = IsPlaceOf s is are reached.steps reached.reached reached.walk n place

  -- ---- AVPs that are reached

  hosted : (e : ℕ) → e < length s.book.entries → has_in r e ≡ true → IsHosted s is are reached.steps reached.reached reached.walk numbered e
  hosted e within has = by (slice_get reached.reached e) refl (sym (ap (λ (o : Option Bool). unwrap_or o false) (reached.by_walk.avps.each e within)) ∙ has)
    where
      by : (o : Option (Option Reach)) → slice_get reached.reached e ≡ o → is_some (option_and_then (λ (way : Option Reach). way) o) ≡ true
          → IsHosted s is are reached.steps reached.reached reached.walk numbered e
      by None at t = absurd (let bad : false ≡ true = t in cc)
      by (Some None) at t = absurd (let bad : false ≡ true = t in cc)
      by (Some (Some reach)) at t = reached_entry s is are reached.steps reached.reached reached.walk numbered e reach within at

  -- the key of the entry at a place
  one_key : (e : ℕ) (entry : DictEntry) (key : Key) → slice_get s.book.entries e ≡ Some entry → entry_of s.book key ≡ Some e → key ≡ entry.key
  one_key e entry key at place =
      let h = entry_at s.book key e place in
      let here : slice_get s.book.entries e ≡ Some h.entry = subst (λ (p : ℕ). slice_get s.book.entries p ≡ Some h.entry) (same_Some h.place e (sym h.is_place ∙ place)) h.at in
      sym h.own ∙ ap (λ (x : DictEntry). x.key) (same_Some h.entry entry (sym here ∙ at))

  -- some message has an AVP of the entry
  pub record IsMade (key : Key) : Type 0 where
    pub n : ℕ
    pub level : IsMadeIn s n key
    pub short : listed_in s key < too_long

  pub held : (e : ℕ) (entry : DictEntry) → slice_get s.book.entries e ≡ Some entry → has_in r e ≡ true → IsMade entry.key
  held e entry at has =
      let h = hosted e (slice_get_within s.book.entries e entry at) has in
      subst IsMade (one_key e entry h.key at h.is_place) (record { n = h.n; level = h.level; short = h.short })

  -- ---- definitions with a level

  one_number : (n m place : ℕ) → IsPlace n place → IsPlace m place → n ≡ m
  one_number n m place (inl a) (inl b) = same_Some n m (sym a ∙ b)
  one_number n m place (inl a) (inr (i, lt, number, is_place)) =
      let (entry, at) = entry_there s.book s.lengths place n a in absurd (let within = slice_get_within s.book.entries place entry at in omega (arith, within, is_place))
  one_number n m place (inr (i, lt, number, is_place)) (inl b) =
      let (entry, at) = entry_there s.book s.lengths place m b in absurd (let within = slice_get_within s.book.entries place entry at in omega (arith, within, is_place))
  one_number n m place (inr (i, lt, number, is_place)) (inr (j, less, other, is_other)) = omega (arith, number, is_place, other, is_other)

  -- messages take so much around levels of the definition
  pub record HasWayTo (n : ℕ) : Type 0 where
    pub place : ℕ
    pub way : ℕ
    pub def : PlainDefinition
    pub is_place : IsPlace n place
    pub is_way : way_in r place ≡ Some way
    pub is_def : slice_get (definitions s.book) n ≡ Some def
    pub some : 0 < way
    pub hosts : Hosts s n def.rules way

  pub way_to : (n : ℕ) (level : List PlainAvp) → At s is are r reached n level → HasWayTo n
  way_to n level l =
      let x = reached.walk.to_reached l.number l.step l.at in
      let within = slice_get_within reached.reached l.step.place (Some x.reach) x.is_reach in
      let known = reached.by_walk.each l.step (contains_in reached.steps l.step (in_at reached.steps l.number l.step l.at)) within in
      let from = reached.by_walk.ways l.step.place known.0 known.1 in
      let step : Step = from.0 in
      let a = at_Contains reached.steps step from.1 in
      let o = of_step s is are reached.steps reached.reached reached.walk numbered a.place step a.at in
      let own : IsPlace o.n l.step.place = subst (IsPlace o.n) from.2 o.is_place in
      let number : o.n ≡ n = one_number o.n n l.step.place own l.is_place in
      let inside = o.inside in
      let same_way : step.way ≡ known.0 = from.3 in
      record {
        place = l.step.place;
        way = known.0;
        def = inside.def;
        is_place = l.is_place;
        is_way = ap (λ (w : Option (Option ℕ)). option_and_then (λ (way : Option ℕ). way) w) known.1;
        is_def = subst (λ (k : ℕ). slice_get (definitions s.book) k ≡ Some inside.def) number inside.is_def;
        some = subst (λ (w : ℕ). 0 < w) same_way inside.some;
        hosts = subst (λ (k : ℕ). Hosts s k inside.def.rules known.0) number (subst (Hosts s o.n inside.def.rules) same_way inside.hosts);
      }

  in_book : (n : ℕ) (w : HasWayTo n) → Contains (definitions s.book) w.def
  in_book n w = contains_in (definitions s.book) w.def (in_at (definitions s.book) n w.def w.is_def)

  -- a level with an AVP of a rule that a message has room for
  pub by_rule : (n : ℕ) (w : HasWayTo n) (rule : DRule) (key : Key) → Contains w.def.rules rule → rule.key ≡ Some key → w.way + with_rule (cost_of s w.def.rules) rule (rule_length s (cost_of s w.def.rules).filler rule) ≤ too_long
      → IsMadeIn s n key
  by_rule n w rule key has own fits =
      let cost = cost_of s w.def.rules in
      let size : with_rule cost rule (rule_length s cost.filler rule) ≡ with_listed cost rule (listed_in s key) =
      ap (λ (o : Option Key). option_map_or (λ (q : Key). with_listed cost rule (rule_length s cost.filler rule)) o (with_other cost cost.filler)) own
      ∙ ap (λ (o : Option Key). with_listed cost rule (option_map_or (listed_in s) o cost.filler)) own in
      let some = w.some in
      made_in s n w.way w.def.rules key (with_listed cost rule (listed_in s key)) w.hosts
      (listed_chosen s is are w.def (in_book n w) rule has key own (omega (arith, size, some, fits))) (omega (arith, size, fits))

  -- and one with an AVP that comes through the wildcard
  pub by_wildcard : (n : ℕ) (w : HasWayTo n) (rule : DRule) → ((key : Key) → other_in s key ≡ listed_in s key) → rule.key ≡ None
      → w.way + with_rule (cost_of s w.def.rules) rule (rule_length s (cost_of s w.def.rules).filler rule) ≤ too_long → (key : Key) × (is_listed w.def.rules key ≡ false) × IsMadeIn s n key
  by_wildcard n w rule same none fits =
      let cost = cost_of s w.def.rules in
      let size : with_rule cost rule (rule_length s cost.filler rule) ≡ with_other cost cost.filler =
      ap (λ (o : Option Key). option_map_or (λ (q : Key). with_listed cost rule (rule_length s cost.filler rule)) o (with_other cost cost.filler)) none in
      let some = w.some in
      let short : cost.beside + cost.filler < too_long = omega (arith, size, some, fits) in
      let (key, is_length, free, small) = filler_key s.book s.sends s.lengths is are.spelled are.exact cost.filler w.def (in_book n w)
      (filler_is s.book s.lengths is w.def (in_book n w) s.sends s.others are.exact are.are_others) (omega (arith, short)) in
      let other : other_in s key ≡ cost.filler = same key ∙ is_length in (
        key,
        free,
        made_in s n w.way w.def.rules key (cost.beside + other_in s key) w.hosts
            (other_chosen s is are w.def (in_book n w) key free small (omega (arith, other, short))) (omega (arith, other, size, fits)),
      )

-- ---- AVPs that a side sends

by_side : (s : Side) (is : IsDictionary s.book) (are : AreOfSide s) (r : Reached) (reached : IsReached s r) → AreNumbered s.book → (e : ℕ) (entry : DictEntry)
    → slice_get s.book.entries e ≡ Some entry → has_in r e ≡ true → IsHeldBySide s.book s.sends entry.key
by_side s is are r reached numbered e entry at has =
    let h = held s is are r reached numbered e entry at has in
    (h.n, h.level.avps, h.level.sent, h.level.has)

pub held_by_side : (d : Dictionary) (who : Sends) (r : Reached) → IsDictionary d → IsReachedBy d who r → AreNumbered d → (e : ℕ) (entry : DictEntry) → slice_get d.entries e ≡ Some entry → has_in r e ≡ true
    → IsHeldBySide d who entry.key
held_by_side d who r is (s, book, sends, are, reached) =
    subst (λ (b : Dictionary). AreNumbered b → (e : ℕ) (entry : DictEntry) → slice_get b.entries e ≡ Some entry → has_in r e ≡ true → IsHeldBySide b who entry.key) book
    (subst (λ (w : Sends). AreNumbered s.book → (e : ℕ) (entry : DictEntry) → slice_get s.book.entries e ≡ Some entry → has_in r e ≡ true → IsHeldBySide s.book w entry.key) sends
    (by_side s (subst IsDictionary (sym book) is) are r reached))

-- ---- what isn't reported

module _ (u : Unknown) (s : Side) (is : IsDictionary s.book) (are : AreOfSide s) (r : Reached) (reached : IsReached s r) (sends : s.sends ≡ sender_of u) (x : List Reported) (found : List Finding)
    (all : ways_in found ≡ (gathered (group_part s r) (length s.book.entries) ++ gathered (command_part s r) (length s.book.commands)) ++ x) (avps : AreAvpWays s r x) where
  valid_in : (n : ℕ) (key : Key) → IsMadeIn s n key → IsInLevel s.book u n key
  valid_in n key m = (m.avps, valid_level_of s.book u n m.avps (subst (λ (w : Sends). IsSentLevel s.book w n m.avps) sends m.sent), m.has)

  into_levels : (rule : Rule) (subject : Subject) → Contains (gathered (group_part s r) (length s.book.entries) ++ gathered (command_part s r) (length s.book.commands)) (reports rule subject)
      → IsReported found rule subject
  into_levels rule subject inside =
      reported_of found rule subject (subst (λ (ws : List Reported). Contains ws (reports rule subject)) (sym all)
      (Contains-append_left (gathered (group_part s r) (length s.book.entries) ++ gathered (command_part s r) (length s.book.commands)) x (reports rule subject) inside))

  into_avps : (rule : Rule) (subject : Subject) → Contains x (reports rule subject) → IsReported found rule subject
  into_avps rule subject inside =
      reported_of found rule subject (subst (λ (ws : List Reported). Contains ws (reports rule subject)) (sym all)
      (Contains-append_right (gathered (group_part s r) (length s.book.entries) ++ gathered (command_part s r) (length s.book.commands)) x (reports rule subject) inside))

  -- ---- AVPs

  own_lengths : AreLengths s.book (sender_of u) s.lengths s.others
  own_lengths = subst (λ (w : Sends). AreLengths s.book w s.lengths s.others) sends are

  own_length : (e : ℕ) (entry : DictEntry) → slice_get s.book.entries e ≡ Some entry → listed_in s entry.key ≡ entry_length s.lengths e
  own_length e entry at = ap (λ (o : Option ℕ). option_map_or (entry_length s.lengths) o (unknown_length s.sends entry.key)) (own_place s.book e entry is at)

  -- a group of which some AVP fits, or no group
  short_group : (e : ℕ) → entry_length s.lengths e < too_long → is_long_group s e ≡ false
  short_group e short = by (is_some (group_place s.book e)) (nat_le too_long (entry_length s.lengths e)) refl
    where
      by : (b c : Bool) → nat_le too_long (entry_length s.lengths e) ≡ c → (b && c) ≡ false
      by false c test = refl
      by true false test = refl
      by true true test = absurd (let le = leb-true too_long (entry_length s.lengths e) test in omega (arith, le, short))

  no_long_group : (e : ℕ) (entry : DictEntry) → NoLevelIsExact s.book u found → slice_get s.book.entries e ≡ Some entry → ¬ HasNoLevel s.book found e → is_long_group s e ≡ false
  no_long_group e entry exact at other = by (group_place s.book e) refl (nat_le too_long (entry_length s.lengths e)) refl
    where
      by : (o : Option ℕ) → group_place s.book e ≡ o → (b : Bool) → nat_le too_long (entry_length s.lengths e) ≡ b → (is_some o && b) ≡ false
      by None place b test = refl
      by (Some n) place false test = refl
      by (Some n) place true test =
          let le = leb-true too_long (entry_length s.lengths e) test in
          let own = own_length e entry at in
          let same : listed_in s entry.key ≡ length_of s.book (sender_of u) s.lengths entry.key = ap (λ (w : Sends). length_of s.book w s.lengths entry.key) sends in
          let none = (no_level_exact s.book u s.lengths s.others is own_lengths entry.key (are.spelled e entry at)).0 (omega (arith, le, own, same)) in
          absurd (other (n, place, (exact e n entry at place).1 none))

  -- what is reported of an AVP, by tests
  abbrev avp_lines : ℕ → Bool → Bool → Bool → List Reported
  avp_lines e a b c = if a then [] else if b then (if c then [] else reports NeverListed (Avp e) ∷ []) else reports NeverHeld (Avp e) ∷ []

  into_part : (listed : Reached) (e : ℕ) (b c : Bool) (rule : Rule) → e < length s.book.entries → x ≡ gathered (avp_part s r listed) (length s.book.entries) → is_long_group s e ≡ false → has_in r e ≡ b
      → has_in listed e ≡ c → avp_lines e false b c ≡ reports rule (Avp e) ∷ [] → IsReported found rule (Avp e)
  into_part listed e b c rule within is_x is_a is_b is_c one =
      let part : avp_part s r listed e ≡ reports rule (Avp e) ∷ [] =
      ap (λ (t : Bool). avp_lines e t (has_in r e) (has_in listed e)) is_a ∙ ap (λ (t : Bool). avp_lines e false t (has_in listed e)) is_b ∙ ap (λ (t : Bool). avp_lines e false b t) is_c ∙ one in
      into_avps rule (Avp e) (subst (λ (ws : List Reported). Contains ws (reports rule (Avp e))) (sym is_x)
      (in_gathered (avp_part s r listed) (length s.book.entries) e (reports rule (Avp e)) within (subst (λ (ws : List Reported). Contains ws (reports rule (Avp e))) (sym part) (0, omega arith, refl))))

  pub others_are_held : NoLevelIsExact s.book u found → OthersAreHeld s.book u found
  others_are_held exact numbered some e entry at other = by avps (has_in r e) refl
    where
      by : AreAvpWays s r x → (b : Bool) → has_in r e ≡ b → IsReported found NeverHeld (Avp e) ⊎ IsHeld s.book u entry.key
      by w true is_b = let h = held s is are r reached numbered e entry at is_b in let level = valid_in h.n entry.key h.level in inr (h.n, level.0, level.1, level.2)
      by (inl (none, nothing)) false is_b = absurd (omega (arith, none, some))
      by (inr (listed, of, is_x)) false is_b =
          inl (into_part listed e false (has_in listed e) NeverHeld (slice_get_within s.book.entries e entry at) is_x (no_long_group e entry exact at other) is_b refl refl)

  -- a dictionary with a valid message has a command
  has_command : (n : ℕ) (level : List PlainAvp) → IsValidLevel s.book u n level → 0 < length s.book.commands
  has_command n level (bytes, c, valid, are_bytes, below) =
      let (i, number, at) = selected_command s.book valid.header.code (class_of valid.header.flags) valid.header.app c valid.command valid.select valid.is_command in
      let within = slice_get_within s.book.commands i valid.command at in
      omega (arith, within)

  pub others_are_listed : OthersAreListed s.book u found
  others_are_listed numbered e entry at (n, level, valid, has) = by avps
    where
      within : e < length s.book.entries
      within = slice_get_within s.book.entries e entry at

      has_it : has_in r e ≡ true
      has_it = has_entry s is are r reached n level entry.key e (valid_level u s is are r reached sends n level valid) has (own_place s.book e entry is at) within

      short : is_long_group s e ≡ false
      short = let h = held s is are r reached numbered e entry at has_it in let less = h.short in let own = own_length e entry at in short_group e (omega (arith, less, own))

      of_listed : (listed : Reached) → IsListedReached s.book listed → x ≡ gathered (avp_part s r listed) (length s.book.entries) → (c : Bool) → has_in listed e ≡ c
          → IsReported found NeverListed (Avp e) ⊎ IsHeldByRules s.book entry.key
      of_listed listed of is_x true is_c = inr (held_by_side s.book Listed listed is of numbered e entry at is_c)
      of_listed listed of is_x false is_c = inl (into_part listed e true false NeverListed within is_x short has_it is_c refl)

      by : AreAvpWays s r x → IsReported found NeverListed (Avp e) ⊎ IsHeldByRules s.book entry.key
      by (inl (none, nothing)) = absurd (let some = has_command n level valid in omega (arith, none, some))
      by (inr (listed, of, is_x)) = of_listed listed of is_x (has_in listed e) refl

  -- ---- rules

  -- a message has room for a level with an AVP of the rule
  abbrev leaves_room : ℕ → ℕ → DRule → Bool
  leaves_room n way rule = nat_le (way + with_rule (cost_of s (rules_in s.book n)) rule (rule_length s (cost_of s (rules_in s.book n)).filler rule)) too_long

  module _ (numbered : AreNumbered s.book) (n : ℕ) (w : HasWayTo s is are r reached numbered n) (rule : DRule) (has : Contains (rules_in s.book n) rule) where
    is_reported : lets_in rule ≡ true → leaves_room n w.way rule ≡ false → IsReported found NeverStands (Within n (named_by rule.key))
    is_reported lets none = into_levels NeverStands (Within n (named_by rule.key)) (by w.is_place)
      where
        part : stands_part s (cost_of s (rules_in s.book n)) n w.way rule ≡ reports NeverStands (Within n (named_by rule.key)) ∷ []
        part =
            ap (λ (b : Bool). if b || leaves_room n w.way rule then [] else reports NeverStands (Within n (named_by rule.key)) ∷ []) (not_true (option_eq nat_eq rule.max (Some 0)) lets)
            ∙ ap (λ (b : Bool). if b then [] else reports NeverStands (Within n (named_by rule.key)) ∷ []) none

        inside : Contains (rules_part s n w.way) (reports NeverStands (Within n (named_by rule.key)))
        inside =
            contains_in (rules_part s n w.way) (reports NeverStands (Within n (named_by rule.key)))
            (into_flat_map (stands_part s (cost_of s (rules_in s.book n)) n w.way) (rules_in s.book n) rule (reports NeverStands (Within n (named_by rule.key))) (in_contains (rules_in s.book n) rule has)
            (subst (IsIn (reports NeverStands (Within n (named_by rule.key)))) (sym part) (inl refl)))

        of_definition : Contains (definition_part s n (way_in r w.place)) (reports NeverStands (Within n (named_by rule.key)))
        of_definition = subst (λ (o : Option ℕ). Contains (definition_part s n o) (reports NeverStands (Within n (named_by rule.key)))) (sym w.is_way) inside

        by : IsPlaceOf s is are reached.steps reached.reached reached.walk n w.place
            → Contains (gathered (group_part s r) (length s.book.entries) ++ gathered (command_part s r) (length s.book.commands)) (reports NeverStands (Within n (named_by rule.key)))
        by (inl place) =
            let (entry, at) = entry_there s.book s.lengths w.place n place in
            Contains-append_left (gathered (group_part s r) (length s.book.entries)) (gathered (command_part s r) (length s.book.commands)) (reports NeverStands (Within n (named_by rule.key)))
            (in_gathered (group_part s r) (length s.book.entries) w.place (reports NeverStands (Within n (named_by rule.key))) (slice_get_within s.book.entries w.place entry at)
            (subst (λ (o : Option ℕ). Contains (option_map_or (λ (m : ℕ). definition_part s m (way_in r w.place)) o []) (reports NeverStands (Within n (named_by rule.key)))) (sym place) of_definition))
        by (inr (i, lt, number, place)) =
            Contains-append_right (gathered (group_part s r) (length s.book.entries)) (gathered (command_part s r) (length s.book.commands)) (reports NeverStands (Within n (named_by rule.key)))
            (in_gathered (command_part s r) (length s.book.commands) i (reports NeverStands (Within n (named_by rule.key))) lt
            (subst (λ (k : ℕ). Contains (definition_part s k (way_in r (length s.book.entries + i))) (reports NeverStands (Within n (named_by rule.key)))) number
            (subst (λ (p : ℕ). Contains (definition_part s n (way_in r p)) (reports NeverStands (Within n (named_by rule.key)))) place of_definition)))

    rules : rules_in s.book n ≡ w.def.rules
    rules = rules_at s.book n w.def w.is_def

    fits : leaves_room n w.way rule ≡ true → w.way + with_rule (cost_of s w.def.rules) rule (rule_length s (cost_of s w.def.rules).filler rule) ≤ too_long
    fits test =
        subst (λ (rs : List DRule). w.way + with_rule (cost_of s rs) rule (rule_length s (cost_of s rs).filler rule) ≤ too_long) rules
        (leb-true (w.way + with_rule (cost_of s (rules_in s.book n)) rule (rule_length s (cost_of s (rules_in s.book n)).filler rule)) too_long test)

    stands_or : (key : Key) → rule.key ≡ Some key → lets_in rule ≡ true → IsReported found NeverStands (Within n (named.Key key)) ⊎ IsInLevel s.book u n key
    stands_or key own lets = by (leaves_room n w.way rule) refl
      where
        by : (b : Bool) → leaves_room n w.way rule ≡ b → IsReported found NeverStands (Within n (named.Key key)) ⊎ IsInLevel s.book u n key
        by true test = inr (valid_in n key (by_rule s is are r reached numbered n w rule key (subst (λ (rs : List DRule). Contains rs rule) rules has) own (fits test)))
        by false test = inl (subst (λ (name : Named). IsReported found NeverStands (Within n name)) (ap named_by own) (is_reported lets test))

    other_or : rule.key ≡ None → lets_in rule ≡ true → IsReported found NeverStands (Within n named.Others) ⊎ IsOtherInLevel s.book u n
    other_or own lets = by (leaves_room n w.way rule) refl
      where
        same : (key : Key) → other_in s key ≡ listed_in s key
        same = subst (λ (v : Sends). (key : Key) → other_length s.book v s.lengths key ≡ length_of s.book v s.lengths key) (sym sends) (others_same s.book u s.lengths s.others is own_lengths)

        by : (b : Bool) → leaves_room n w.way rule ≡ b → IsReported found NeverStands (Within n named.Others) ⊎ IsOtherInLevel s.book u n
        by true test =
            let (key, free, level) = by_wildcard s is are r reached numbered n w rule same own (fits test) in
            inr (key, subst (λ (rs : List DRule). is_listed rs key ≡ false) (sym rules) free, valid_in n key level)
        by false test = inl (subst (λ (name : Named). IsReported found NeverStands (Within n name)) (ap named_by own) (is_reported lets test))

  pub others_stand : OthersStand s.book u found
  others_stand numbered n rule key has own lets (level, valid) =
      stands_or numbered n (way_to s is are r reached numbered n level (valid_level u s is are r reached sends n level valid)) rule has key own lets

  pub other_wildcards_stand : OtherWildcardsStand s.book u found
  other_wildcards_stand numbered n rule has own lets (level, valid) =
      other_or numbered n (way_to s is are r reached numbered n level (valid_level u s is are r reached sends n level valid)) rule has own lets
