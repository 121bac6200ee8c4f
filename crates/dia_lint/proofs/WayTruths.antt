-- Each finding about what no message has is true.
use Rattle.std.proofs.Common.{◌≡◌, ℕ, ◌+◌, ◌-◌, ◌<◌, ◌≤◌, Bool, true, false, List, [], ◌++◌, length, Option, Some, None, Result, Ok, Err, refl, sym, ap, subst, ◌∙◌, arith, inl, inr}
use Rattle.std.specs.Prelude.{◌⊎◌, IfSome, OnOk, option_and_then, slice_get, Contains}
use Rattle.std.specs.Option.{option_map, option_map_or}
use Rattle.std.proofs.lemmas.List.Elements.{Contains-append_cases}
use Rattle.std.proofs.lemmas.Option.{none-some, same_Some, slice_get_within}
use Rattle.dia_wire.specs.declared.Key.{Key}
use Rattle.dia_wire.specs.Wire.{PlainAvp}
use Rattle.dia_book.specs.declared.DefHead.{DefHead}
use Rattle.dia_book.specs.declared.DefHead.TheVariants.{Group}
use Rattle.dia_book.specs.declared.DRule.{DRule}
use Rattle.dia_book.specs.Dictionary.{Dictionary, DictEntry, IsCommandHead, PlainDefinition, IsDictionary, definitions, group_place, groups}
use Rattle.dia_book.proofs.Members.{at_Contains, into_right}
use Rattle.dia_terms.specs.declared.Sends.{Sends}
use Rattle.dia_terms.specs.declared.Sends.TheVariants.{Listed}
use Rattle.dia_terms.specs.declared.Unknown.{Unknown}
use Rattle.dia_valid.specs.Rules.{rules_in}
use Rattle.dia_valid.specs.Valid.{is_listed}
use Rattle.dia_valid.proofs.GroupNumbers.{group_number, number_of}
use Rattle.dia_valid.proofs.Members.{IsIn, all_of, at_some, contains_in, in_at, there_is}
use Rattle.dia_breaking_levels.specs.LevelTests.{too_long, least_filler}
use Rattle.dia_breaking_ways.specs.declared.graph.Reach.{Reach}
use Rattle.dia_breaking_ways.specs.declared.graph.Step.{Step}
use Rattle.dia_breaking_ways.specs.Walks.{PlainLevel, level_of}
use Rattle.dia_lint.specs.declared.finding.Finding.{Finding}
use Rattle.dia_lint.specs.declared.finding.Named.{Named}
use Rattle.dia_lint.specs.declared.finding.Named.TheVariants as named
use Rattle.dia_lint.specs.declared.finding.Subject.{Subject}
use Rattle.dia_lint.specs.declared.finding.Subject.TheVariants.{Avp, Within}
use Rattle.dia_lint.specs.declared.reached.Reached.{Reached}
use Rattle.dia_lint.specs.declared.rule.Rule.TheVariants.{NeverHeld, NeverListed, NeverStands}
use Rattle.dia_lint.specs.Costs.{sender_of}
use Rattle.dia_lint.specs.Gathered.{Adds, gathered, reports, ways_in}
use Rattle.dia_lint.specs.Held.{HasKey, IsHeldBySide, NeverHeldIsTrue, NeverListedIsTrue, NeverStandsIsTrue, NoOthersIsTrue}
use Rattle.dia_lint.specs.OwnRules.{named_by}
use Rattle.dia_lint.specs.ExactLines.{AddsAvpLines, AreAvpLines, With_commands, Without_commands, avp_lines}
use Rattle.dia_lint.specs.WayLines.{rule_length, IsListedReached, IsReachedBy, Reported, avp_part, command_part, group_part}
use Rattle.dia_lint.specs.Ways.{Side, AreOfSide, IsReached, cost_of, graph_in, has_in, listed_in, other_in, way_in, with_listed, with_other, with_rule}
use Rattle.dia_lint.proofs.Fillers.{filler_least}
use Rattle.dia_lint.proofs.FoundWays.{rules_at}
use Rattle.dia_lint.proofs.HeldLevels.{IsPlaceOf, other_within, rule_within}
use Rattle.dia_lint.proofs.Projections.{adds_nothing, adds_projected, of_entries}
use Rattle.dia_lint.proofs.Reported.{own_place}
use Rattle.dia_lint.proofs.WayFindings.{At, IsOfAvp, IsOfLevels, entry_in, has_entry, is_held_rule, is_listed_rule, is_stands_rule, number_in, of_avps, of_commands, of_groups, reported_in, sent_level, valid_level}

both_ways : {X : Type 0} (b : Bool) → b ≡ true → b ≡ false → X
both_ways b e f = absurd (let bad : true ≡ false = sym e ∙ f in cc)

-- ---- names

abbrev name_in : Subject → Named
name_in (Within n name) = name
name_in subject = named.Others

abbrev is_key_name : Named → Bool
is_key_name (named.Key key) = true
is_key_name name = false

abbrev key_in_name : Named → Key → Key
key_in_name (named.Key key) other = key
key_in_name name other = other

key_named : (key : Key) (o : Option Key) → named.Key key ≡ named_by o → o ≡ Some key
key_named key None e = both_ways true refl (ap is_key_name e)
key_named key (Some k) e = ap (λ (n : Named). Some (key_in_name n key)) (sym e)

others_named : (o : Option Key) → named.Others ≡ named_by o → o ≡ None
others_named None e = refl
others_named (Some k) e = both_ways true refl (ap is_key_name (sym e))

-- ---- the place of a definition

abbrev key_in : DefHead → Key → Key
key_in (Group key) other = key
key_in head other = other

-- the number of a group is that of one entry
one_entry : (d : Dictionary) (n e i : ℕ) → IsDictionary d → group_place d e ≡ Some n → group_place d i ≡ Some n → e ≡ i
one_entry d n e i is at_e at_i =
    let x = there e at_e in
    let y = there i at_i in
    let (g, is_g, def_g) = group_number d e n x.0 x.1 at_e in
    let (h, is_h, def_h) = group_number d i n y.0 y.1 at_i in
    let same : g ≡ h = same_Some g h (sym def_g ∙ def_h) in
    let head_g = head_of e x.0 x.1 g is_g in
    let head_h = head_of i y.0 y.1 h is_h in
    let heads : Group x.0.key ≡ Group y.0.key = sym head_g ∙ ap (λ (z : PlainDefinition). z.head) same ∙ head_h in
    is.distinct_keys e i x.0 y.0 x.1 y.1 (ap (λ (head : DefHead). key_in head x.0.key) heads)
  where
    there : (j : ℕ) → group_place d j ≡ Some n → (x : DictEntry) × (slice_get d.entries j ≡ Some x)
    there j h = by (slice_get d.entries j) refl
      where
        by : (o : Option DictEntry) → slice_get d.entries j ≡ o → (x : DictEntry) × (slice_get d.entries j ≡ Some x)
        by None at = absurd (none-some n (sym (ap (λ (o : Option DictEntry). option_and_then (λ (x : DictEntry). option_map (λ _. number_of d j) x.group) o) at) ∙ h))
        by (Some x) at = (x, at)

    head_of : (j : ℕ) (x : DictEntry) → slice_get d.entries j ≡ Some x → (g : PlainDefinition) → x.group ≡ Some g → g.head ≡ Group x.key
    head_of j x at g is_g =
        let all = all_of (λ (y : DictEntry). IfSome y.group (λ (z : PlainDefinition). (z.name ≡ y.name) × (z.head ≡ Group y.key))) d.entries x is.group_heads (in_at d.entries j x at) in
        (at_some (λ (z : PlainDefinition). (z.name ≡ x.name) × (z.head ≡ Group x.key)) x.group g all is_g).1

-- no group has the number of a command
no_group : (d : Dictionary) (n e i : ℕ) → IsDictionary d → group_place d e ≡ Some n → i < length d.commands → n ≡ length (groups d) + i → ⊥
no_group d n e i is at within number =
    let (command, there) = there_is d.commands i within in
    let def : slice_get (definitions d) n ≡ Some command = ap (slice_get (definitions d)) number ∙ into_right (groups d) d.commands i command there in
    let (x, here) = entry_there e at in
    let (g, is_g, def_g) = group_number d e n x here at in
    let same : g ≡ command = same_Some g command (sym def_g ∙ def) in
    let all = all_of (λ (y : DictEntry). IfSome y.group (λ (z : PlainDefinition). (z.name ≡ y.name) × (z.head ≡ Group y.key))) d.entries x is.group_heads (in_at d.entries e x here) in
    let head : command.head ≡ Group x.key = ap (λ (z : PlainDefinition). z.head) (sym same) ∙ (at_some (λ (z : PlainDefinition). (z.name ≡ x.name) × (z.head ≡ Group x.key)) x.group g all is_g).1 in
    subst IsCommandHead head (all_of (λ (c : PlainDefinition). IsCommandHead c.head) d.commands command is.command_heads (in_at d.commands i command there))
  where
    entry_there : (j : ℕ) → group_place d j ≡ Some n → (x : DictEntry) × (slice_get d.entries j ≡ Some x)
    entry_there j h = by (slice_get d.entries j) refl
      where
        by : (o : Option DictEntry) → slice_get d.entries j ≡ o → (x : DictEntry) × (slice_get d.entries j ≡ Some x)
        by None at = absurd (none-some n (sym (ap (λ (o : Option DictEntry). option_and_then (λ (x : DictEntry). option_map (λ _. number_of d j) x.group) o) at) ∙ h))
        by (Some x) at = (x, at)

-- ---- of AVPs that a side sends

sent_has : (s : Side) (is : IsDictionary s.book) (are : AreOfSide s) (r : Reached) (reached : IsReached s r) (e : ℕ) (entry : DictEntry) → slice_get s.book.entries e ≡ Some entry
    → IsHeldBySide s.book s.sends entry.key → has_in r e ≡ true
sent_has s is are r reached e entry at (n, level, sent, has) =
    has_entry s is are r reached n level entry.key e (sent_level s is are r reached n level sent) has (own_place s.book e entry is at) (slice_get_within s.book.entries e entry at)

pub held_has : (d : Dictionary) (who : Sends) (r : Reached) → IsDictionary d → IsReachedBy d who r → (e : ℕ) (entry : DictEntry) → slice_get d.entries e ≡ Some entry → IsHeldBySide d who entry.key
    → has_in r e ≡ true
held_has d who r is (s, book, sends, are, reached) =
    subst (λ (b : Dictionary). (e : ℕ) (entry : DictEntry) → slice_get b.entries e ≡ Some entry → IsHeldBySide b who entry.key → has_in r e ≡ true) book
    (subst (λ (w : Sends). (e : ℕ) (entry : DictEntry) → slice_get s.book.entries e ≡ Some entry → IsHeldBySide s.book w entry.key → has_in r e ≡ true) sends
    (sent_has s (subst IsDictionary (sym book) is) are r reached))

-- ---- what is reported

-- of AVPs, if there is a command
abbrev pub AreAvpWays : Side → Reached → List Reported → Type 0
AreAvpWays s r x = ((length s.book.commands ≡ 0) × (x ≡ [])) ⊎ ((listed : Reached) × IsListedReached s.book listed × (x ≡ gathered (avp_part s r listed) (length s.book.entries)))

pub record Unreached (s : Side) (r : Reached) (old new : List Finding) : Type 0 where
  pub ways : List Reported
  pub adds : Adds [] [] ways old new
  pub are : AreAvpWays s r ways

pub unreached : (s : Side) (r : Reached) (old new : List Finding) → AddsAvpLines s r old new → Unreached s r old new
unreached s r old new (lines, are, added) = by are
  where
    by : AreAvpLines s r lines → Unreached s r old new
    by (Without_commands none no_lines) = record { ways = []; adds = adds_nothing lines old new no_lines added; are = inl (none, refl) }
    by (With_commands listed is are) = record {
      ways = gathered (avp_part s r listed) (length s.book.entries);
      adds = adds_projected [] [] (gathered (avp_part s r listed) (length s.book.entries)) (gathered (avp_lines s r listed) (length s.book.entries)) old new (of_entries s r listed (length s.book.entries))
          (added ∙ ap (λ (xs : List Finding). old ++ xs) are);
      are = inr (listed, is, refl);
    }

module _ (u : Unknown) (s : Side) (is : IsDictionary s.book) (are : AreOfSide s) (r : Reached) (reached : IsReached s r) (sends : s.sends ≡ sender_of u) (x : List Reported) (found : List Finding)
    (all : ways_in found ≡ (gathered (group_part s r) (length s.book.entries) ++ gathered (command_part s r) (length s.book.commands)) ++ x) (avps : AreAvpWays s r x) where
  abbrev IsFound : Reported → Type 0
  IsFound y = IsOfLevels s r y ⊎ ((listed : Reached) × IsListedReached s.book listed × ((e : ℕ) × (e < length s.book.entries) × IsOfAvp r listed e y))

  parts : (y : Reported) → Contains (ways_in found) y → IsFound y
  parts y inside = by (Contains-append_cases (gathered (group_part s r) (length s.book.entries) ++ gathered (command_part s r) (length s.book.commands)) x y (subst (λ (ws : List Reported). Contains ws y) all inside))
    where
      by_levels : Contains (gathered (group_part s r) (length s.book.entries)) y ⊎ Contains (gathered (command_part s r) (length s.book.commands)) y → IsFound y
      by_levels (inl c) = inl (of_groups s r y c)
      by_levels (inr c) = inl (of_commands s r y c)

      by_avps : AreAvpWays s r x → Contains x y → IsFound y
      by_avps (inl (commands, none)) c = absurd (let h = subst (λ (ws : List Reported). Contains ws y) none c in let lt = h.1 in omega (arith, lt))
      by_avps (inr (listed, of, is_x)) c = inr (listed, of, of_avps s r listed (length s.book.entries) y (subst (λ (ws : List Reported). Contains ws y) is_x c))

      by : Contains (gathered (group_part s r) (length s.book.entries) ++ gathered (command_part s r) (length s.book.commands)) y ⊎ Contains x y → IsFound y
      by (inl c) = by_levels (Contains-append_cases (gathered (group_part s r) (length s.book.entries)) (gathered (command_part s r) (length s.book.commands)) y c)
      by (inr c) = by_avps avps c

  pub never_held : NeverHeldIsTrue s.book u found
  never_held e entry at is_reported (n, level, valid, has) = by (parts (reports NeverHeld (Avp e)) (reported_in found NeverHeld (Avp e) refl is_reported))
    where
      holds : has_in r e ≡ true
      holds = has_entry s is are r reached n level entry.key e (valid_level u s is are r reached sends n level valid) has (own_place s.book e entry is at) (slice_get_within s.book.entries e entry at)

      by : IsFound (reports NeverHeld (Avp e)) → ⊥
      by (inl l) = both_ways true refl (ap (λ (y : Reported). is_held_rule y.0) l.rule.is)
      by (inr (listed, of, (i, lt, inl (same, lacks)))) = both_ways (has_in r e) holds (ap (has_in r) (ap (λ (y : Reported). entry_in y.1) same) ∙ lacks)
      by (inr (listed, of, (i, lt, inr (same, lacks)))) = both_ways true refl (ap (λ (y : Reported). is_held_rule y.0) same)

  pub never_listed : NeverListedIsTrue s.book found
  never_listed e entry at is_reported held = by (parts (reports NeverListed (Avp e)) (reported_in found NeverListed (Avp e) refl is_reported))
    where
      by : IsFound (reports NeverListed (Avp e)) → ⊥
      by (inl l) = both_ways true refl (ap (λ (y : Reported). is_listed_rule y.0) l.rule.is)
      by (inr (listed, of, (i, lt, inl (same, lacks)))) = both_ways true refl (ap (λ (y : Reported). is_listed_rule y.0) same)
      by (inr (listed, of, (i, lt, inr (same, lacks)))) =
          both_ways (has_in listed e) (held_has s.book Listed listed is of e entry at held) (ap (has_in listed) (ap (λ (y : Reported). entry_in y.1) same) ∙ lacks)

  -- ---- rules

  one_place : (n p q : ℕ) → IsPlaceOf s is are reached.steps reached.reached reached.walk n p → IsPlaceOf s is are reached.steps reached.reached reached.walk n q → p ≡ q
  one_place n p q (inl a) (inl b) = one_entry s.book n p q is a b
  one_place n p q (inl a) (inr (i, lt, number, place)) = absurd (no_group s.book n p i is a lt number)
  one_place n p q (inr (i, lt, number, place)) (inl b) = absurd (no_group s.book n q i is b lt number)
  one_place n p q (inr (i, lt, number, place)) (inr (j, lt', number', place')) = omega (arith, number, place, number', place')

  -- steps to one place have one way
  one_way : (a b : Step) → Contains reached.steps a → Contains reached.steps b → a.place ≡ b.place → a.way ≡ b.way
  one_way a b in_a in_b same =
      let i = at_Contains reached.steps a in_a in
      let j = at_Contains reached.steps b in_b in
      let x = reached.walk.to_reached i.place a i.at in
      let y = reached.walk.to_reached j.place b j.at in
      let level : x.level ≡ y.level = same_Some x.level y.level (sym x.is_level ∙ ap (level_of (graph_in s)) same ∙ y.is_level) in
      let reach : x.reach ≡ y.reach = same_Some x.reach y.reach (same_Some (Some x.reach) (Some y.reach) (sym x.is_reach ∙ ap (slice_get reached.reached) same ∙ y.is_reach)) in
      ap (λ (t : Step). t.way) x.is_step ∙ ap (λ (l : PlainLevel). x.reach.length - l.least) level ∙ ap (λ (w : Reach). w.length - y.level.least) reach ∙ sym (ap (λ (t : Step). t.way) y.is_step)

  way_there : (place way : ℕ) → way_in r place ≡ Some way → slice_get r.ways.items place ≡ Some (Some way)
  way_there place way = by (slice_get r.ways.items place) refl
    where
      by : (o : Option (Option ℕ)) → slice_get r.ways.items place ≡ o → option_and_then (λ (w : Option ℕ). w) o ≡ Some way → slice_get r.ways.items place ≡ Some (Some way)
      by None at e = absurd (none-some way e)
      by (Some w) at e = at ∙ ap (λ (v : Option ℕ). Some v) e

  -- the way that is known is that of the step to the level
  same_way : (y : Reported) (l : IsOfLevels s r y) (level : List PlainAvp) (at : At s is are r reached l.n level) → at.step.way ≡ l.way
  same_way y l level at =
      let (step, has, place, way) = reached.by_walk.ways l.place l.way (way_there l.place l.way l.is_way) in
      let own = one_place l.n at.step.place l.place at.is_place l.is_place in
      one_way at.step step (in_steps at) has (own ∙ sym place) ∙ way
    where
      in_steps : (a : At s is are r reached l.n level) → Contains reached.steps a.step
      in_steps a = contains_in reached.steps a.step (in_at reached.steps a.number a.step a.at)

  module _ (n : ℕ) (name : Named) (level : List PlainAvp) (l : IsOfLevels s r (reports NeverStands (Within n name))) (here : At s is are r reached n level) where
    number : n ≡ l.n
    number = ap (λ (y : Reported). number_in y.1) l.rule.is

    pub names : name ≡ named_by l.rule.rule.key
    names = ap (λ (y : Reported). name_in y.1) l.rule.is

    at : At s is are r reached l.n level
    at = subst (λ (k : ℕ). At s is are r reached k level) number here

    -- what the finding says: no message has room for a level with an AVP of the rule
    too_long_for : (m : ℕ) → m ≡ with_rule (cost_of s at.x.rules) l.rule.rule (rule_length s (cost_of s at.x.rules).filler l.rule.rule) → m ≤ too_long - at.step.way → ⊥
    too_long_for m size within =
        let rules = rules_at s.book l.n at.x at.is_def in
        let long = l.rule.long in
        let same = same_way (reports NeverStands (Within n name)) l level at in
        let costs : with_rule (cost_of s (rules_in s.book l.n)) l.rule.rule (rule_length s (cost_of s (rules_in s.book l.n)).filler l.rule.rule)
        ≡ with_rule (cost_of s at.x.rules) l.rule.rule (rule_length s (cost_of s at.x.rules).filler l.rule.rule) =
        ap (λ (rs : List DRule). with_rule (cost_of s rs) l.rule.rule (rule_length s (cost_of s rs).filler l.rule.rule)) rules in
        let fits = at.within in
        omega (arith, long, same, costs, size, within, fits)

    rule_there : IsIn l.rule.rule at.x.rules
    rule_there = subst (IsIn l.rule.rule) (rules_at s.book l.n at.x at.is_def) l.rule.is_rule

    pub no_key : (key : Key) → l.rule.rule.key ≡ Some key → HasKey level key → ⊥
    no_key key own has =
        let size : with_listed (cost_of s at.x.rules) l.rule.rule (listed_in s key) ≡ with_rule (cost_of s at.x.rules) l.rule.rule (rule_length s (cost_of s at.x.rules).filler l.rule.rule) =
        sym (ap (λ (o : Option Key). option_map_or (λ (q : Key). with_listed (cost_of s at.x.rules) l.rule.rule (rule_length s (cost_of s at.x.rules).filler l.rule.rule)) o
        (with_other (cost_of s at.x.rules) (cost_of s at.x.rules).filler)) own
        ∙ ap (λ (o : Option Key). with_listed (cost_of s at.x.rules) l.rule.rule (option_map_or (listed_in s) o (cost_of s at.x.rules).filler)) own) in
        too_long_for (with_listed (cost_of s at.x.rules) l.rule.rule (listed_in s key)) size
        (rule_within s is are reached.steps reached.reached reached.walk l.n level at key l.rule.rule has rule_there own)

    pub no_other : (key : Key) → l.rule.rule.key ≡ None → is_listed (rules_in s.book n) key ≡ false → HasKey level key → ⊥
    no_other key own none has =
        let rules = ap (rules_in s.book) number ∙ rules_at s.book l.n at.x at.is_def in
        let free : is_listed at.x.rules key ≡ false = subst (λ (rs : List DRule). is_listed rs key ≡ false) rules none in
        let inside = contains_in (definitions s.book) at.x (in_at (definitions s.book) l.n at.x at.is_def) in
        let least : least_filler (other_in s) s.others at.x.rules ≤ other_in s key = filler_least s.book s.lengths is at.x inside s.sends s.others are.exact are.are_others key free in
        let within = other_within s is are reached.steps reached.reached reached.walk l.n level at key has free in
        let size : with_other (cost_of s at.x.rules) (least_filler (other_in s) s.others at.x.rules) ≡ with_rule (cost_of s at.x.rules) l.rule.rule (rule_length s (cost_of s at.x.rules).filler l.rule.rule) =
        sym (ap (λ (o : Option Key). option_map_or (λ (q : Key). with_listed (cost_of s at.x.rules) l.rule.rule (rule_length s (cost_of s at.x.rules).filler l.rule.rule)) o
        (with_other (cost_of s at.x.rules) (cost_of s at.x.rules).filler)) own) in
        too_long_for (with_other (cost_of s at.x.rules) (least_filler (other_in s) s.others at.x.rules)) size (omega (arith, least, within))

  pub never_stands : NeverStandsIsTrue s.book u found
  never_stands n key is_reported (level, valid, has) = by (parts (reports NeverStands (Within n (named.Key key))) (reported_in found NeverStands (Within n (named.Key key)) refl is_reported))
    where
      by : IsFound (reports NeverStands (Within n (named.Key key))) → ⊥
      by (inl l) =
          let here = valid_level u s is are r reached sends n level valid in
          no_key n (named.Key key) level l here key (key_named key l.rule.rule.key (names n (named.Key key) level l here)) has
      by (inr (listed, of, (i, lt, inl (same, lacks)))) = both_ways true refl (ap (λ (y : Reported). is_stands_rule y.0) same)
      by (inr (listed, of, (i, lt, inr (same, lacks)))) = both_ways true refl (ap (λ (y : Reported). is_stands_rule y.0) same)

  pub no_others : NoOthersIsTrue s.book u found
  no_others n is_reported (key, none, (level, valid, has)) = by (parts (reports NeverStands (Within n named.Others)) (reported_in found NeverStands (Within n named.Others) refl is_reported))
    where
      by : IsFound (reports NeverStands (Within n named.Others)) → ⊥
      by (inl l) =
          let here = valid_level u s is are r reached sends n level valid in
          no_other n named.Others level l here key (others_named l.rule.rule.key (names n named.Others level l here)) none has
      by (inr (listed, of, (i, lt, inl (same, lacks)))) = both_ways true refl (ap (λ (y : Reported). is_stands_rule y.0) same)
      by (inr (listed, of, (i, lt, inr (same, lacks)))) = both_ways true refl (ap (λ (y : Reported). is_stands_rule y.0) same)
