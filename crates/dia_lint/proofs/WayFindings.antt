-- Findings about what no message has are true.
use Rattle.std.proofs.Common.{◌≡◌, ℕ, ◌+◌, ◌<◌, Bool, true, false, List, [], ◌∷◌, length, map, Option, Some, None, refl, sym, ap, subst, ◌∙◌, arith, inl, inr}
use Rattle.std.specs.Prelude.{◌⊎◌, nat_eq, nat_le, ◌||◌, if◌then◌else◌, is_some, option_and_then, slice_get, unwrap_or, Contains, position}
use Rattle.std.specs.List.{flat_map}
use Rattle.std.specs.Option.{option_eq, option_map, option_map_or, option_or}
use Rattle.std.proofs.lemmas.Bool.{leb-false}
use Rattle.std.proofs.lemmas.Option.{none-some, same_Some, slice_get_within}
use Rattle.dia_wire.specs.declared.Key.{Key}
use Rattle.dia_wire.specs.Wire.{PlainAvp, key_of}
use Rattle.dia_book.specs.declared.Class.{Class}
use Rattle.dia_book.specs.declared.DRule.{DRule}
use Rattle.dia_book.specs.Dictionary.{Dictionary, PlainDefinition, IsDictionary, definitions, entry_of, group_place, groups, is_command, selected}
use Rattle.dia_book.proofs.Members.{at_append, at_map, at_Contains}
use Rattle.dia_terms.specs.declared.Sends.{Sends}
use Rattle.dia_terms.specs.declared.Unknown.{Unknown}
use Rattle.dia_valid.specs.Rules.{rules_in}
use Rattle.dia_valid.specs.Valid.{class_of}
use Rattle.dia_valid.proofs.Members.{IsIn, contains_in, in_append, in_at, in_contains, in_filter_map}
use Rattle.dia_breaking_levels.specs.LevelTests.{too_long}
use Rattle.dia_breaking_sites.specs.Sent.{AreSentAvps, StandAsSent}
use Rattle.dia_breaking_shortest.proofs.BytesOfAvps.{body_bytes}
use Rattle.dia_breaking_ways.specs.declared.graph.Reach.{Reach}
use Rattle.dia_lint.specs.declared.finding.Finding.{Finding}
use Rattle.dia_lint.specs.declared.finding.Subject.{Subject}
use Rattle.dia_lint.specs.declared.finding.Subject.TheVariants.{Avp, Within}
use Rattle.dia_lint.specs.declared.reached.Reached.{Reached}
use Rattle.dia_lint.specs.declared.rule.Rule.{Rule}
use Rattle.dia_lint.specs.declared.rule.Rule.TheVariants.{NeverHeld, NeverListed, NeverStands}
use Rattle.dia_lint.specs.Costs.{sender_of}
use Rattle.dia_lint.specs.Gathered.{gathered, is_of_ways, reports, way_of as way_of_finding, ways_in}
use Rattle.dia_lint.specs.Held.{HasKey, IsReported, IsSentLevel, IsValidLevel}
use Rattle.dia_lint.specs.OwnRules.{named_by}
use Rattle.dia_lint.specs.WayLines.{Reported, avp_part, command_part, definition_part, group_part, is_long_group, rule_length, rules_part, stands_part}
use Rattle.dia_lint.specs.Ways.{Side, AreOfSide, IsReached, cost_of, has_in, way_in, with_rule}
use Rattle.dia_lint.proofs.HeldLevels.{AtLevel, each_below, top_level, way_of}
use Rattle.dia_lint.proofs.Messages.{body_short, sent_avps, sent_stand}
use Rattle.dia_lint.proofs.Reported.{gathered_in}

-- ---- what is reported

pub reported_in : (found : List Finding) (rule : Rule) (subject : Subject) → is_of_ways rule ≡ true → IsReported found rule subject → Contains (ways_in found) (reports rule subject)
reported_in found rule subject of_ways (x, inside, is_rule, is_subject) =
    let own : way_of_finding x ≡ Some (reports rule subject) =
    ap (λ (b : Bool). if b then Some (reports x.rule x.subject) else None) (ap is_of_ways is_rule ∙ of_ways)
    ∙ ap (λ (r : Rule). Some (reports r x.subject)) is_rule ∙ ap (λ (t : Subject). Some (reports rule t)) is_subject in
    contains_in (ways_in found) (reports rule subject) (in_filter_map way_of_finding found x (reports rule subject) (in_contains found x inside) own)

in_flat_map : {X Y : Type 0} (f : X → List Y) (xs : List X) (y : Y) → IsIn y (flat_map f xs) → (x : X) × IsIn x xs × IsIn y (f x)
in_flat_map f [] y i = absurd i
in_flat_map {X} {Y} f (x ∷ xs) y i = by (in_append (f x) (flat_map f xs) y i) (in_flat_map f xs y)
  where
    by : IsIn y (f x) ⊎ IsIn y (flat_map f xs) → (IsIn y (flat_map f xs) → (z : X) × IsIn z xs × IsIn y (f z)) → (z : X) × IsIn z (x ∷ xs) × IsIn y (f z)
    by (inl here) ih = (x, inl refl, here)
    by (inr later) ih = let (z, j, own) = ih later in (z, inr j, own)

abbrev pub is_held_rule : Rule → Bool
is_held_rule NeverHeld = true
is_held_rule rule = false

abbrev pub is_stands_rule : Rule → Bool
is_stands_rule NeverStands = true
is_stands_rule rule = false

abbrev pub is_listed_rule : Rule → Bool
is_listed_rule NeverListed = true
is_listed_rule rule = false

not_both : (b : Bool) → b ≡ true → b ≡ false → ⊥
not_both b e f = let bad : true ≡ false = sym e ∙ f in cc

abbrev pub entry_in : Subject → ℕ
entry_in (Avp e) = e
entry_in subject = 0

abbrev pub number_in : Subject → ℕ
number_in (Within n name) = n
number_in subject = 0

-- a rule of which no message has room for an AVP
pub record IsTooLong (s : Side) (n way : ℕ) (y : Reported) : Type 0 where
  pub rule : DRule
  pub is_rule : IsIn rule (rules_in s.book n)
  pub is : y ≡ reports NeverStands (Within n (named_by rule.key))
  pub long : too_long < way + with_rule (cost_of s (rules_in s.book n)) rule (rule_length s (cost_of s (rules_in s.book n)).filler rule)

too_long_of : (s : Side) (n way : ℕ) (y : Reported) → Contains (rules_part s n way) y → IsTooLong s n way y
too_long_of s n way y inside =
    let cost = cost_of s (rules_in s.book n) in
    let (rule, i, own) = in_flat_map (stands_part s cost n way) (rules_in s.book n) y (in_contains (rules_part s n way) y inside) in
    by rule i (option_eq nat_eq rule.max (Some 0)) (nat_le (way + with_rule cost rule (rule_length s cost.filler rule)) too_long) refl own
  where
    by : (rule : DRule) → IsIn rule (rules_in s.book n) → (b c : Bool) → nat_le (way + with_rule (cost_of s (rules_in s.book n)) rule (rule_length s (cost_of s (rules_in s.book n)).filler rule)) too_long ≡ c
        → IsIn y (if b || c then [] else reports NeverStands (Within n (named_by rule.key)) ∷ []) → IsTooLong s n way y
    by rule i true c e j = absurd j
    by rule i false true e j = absurd j
    by rule i false false e (inl same) =
        record { rule = rule; is_rule = i; is = same; long = leb-false (way + with_rule (cost_of s (rules_in s.book n)) rule (rule_length s (cost_of s (rules_in s.book n)).filler rule)) too_long e }
    by rule i false false e (inr none) = absurd none

-- of a definition whose levels have a way
pub record IsOfLevels (s : Side) (r : Reached) (y : Reported) : Type 0 where
  pub n : ℕ
  pub place : ℕ
  pub way : ℕ
  pub is_place : (group_place s.book place ≡ Some n) ⊎ ((i : ℕ) × (i < length s.book.commands) × (n ≡ length (groups s.book) + i) × (place ≡ length s.book.entries + i))
  pub is_way : way_in r place ≡ Some way
  pub rule : IsTooLong s n way y

of_definition : (s : Side) (r : Reached) (n place : ℕ) (y : Reported)
    → (group_place s.book place ≡ Some n) ⊎ ((i : ℕ) × (i < length s.book.commands) × (n ≡ length (groups s.book) + i) × (place ≡ length s.book.entries + i))
    → Contains (definition_part s n (way_in r place)) y → IsOfLevels s r y
of_definition s r n place y is_place = by (way_in r place) refl
  where
    by : (o : Option ℕ) → way_in r place ≡ o → Contains (definition_part s n o) y → IsOfLevels s r y
    by None e (k, lt, at) = absurd (omega (arith, lt))
    by (Some way) e inside = record { n = n; place = place; way = way; is_place = is_place; is_way = e; rule = too_long_of s n way y inside }

pub of_groups : (s : Side) (r : Reached) (y : Reported) → Contains (gathered (group_part s r) (length s.book.entries)) y → IsOfLevels s r y
of_groups s r y inside = let (e, lt, own) = gathered_in (group_part s r) (length s.book.entries) y inside in by e (group_place s.book e) refl own
  where
    by : (e : ℕ) (o : Option ℕ) → group_place s.book e ≡ o → Contains (option_map_or (λ (n : ℕ). definition_part s n (way_in r e)) o []) y → IsOfLevels s r y
    by e None is (k, lt, at) = absurd (omega (arith, lt))
    by e (Some n) is own = of_definition s r n e y (inl is) own

pub of_commands : (s : Side) (r : Reached) (y : Reported) → Contains (gathered (command_part s r) (length s.book.commands)) y → IsOfLevels s r y
of_commands s r y inside =
    let (i, lt, own) = gathered_in (command_part s r) (length s.book.commands) y inside in
    of_definition s r (length (groups s.book) + i) (length s.book.entries + i) y (inr (i, lt, refl, refl)) own

-- an AVP that no message has, or that only wildcards let in
abbrev pub IsOfAvp : Reached → Reached → ℕ → Reported → Type 0
IsOfAvp r listed e y = ((y ≡ reports NeverHeld (Avp e)) × (has_in r e ≡ false)) ⊎ ((y ≡ reports NeverListed (Avp e)) × (has_in listed e ≡ false))

pub of_avps : (s : Side) (r listed : Reached) (n : ℕ) (y : Reported) → Contains (gathered (avp_part s r listed) n) y → (e : ℕ) × (e < n) × IsOfAvp r listed e y
of_avps s r listed n y inside =
    let (e, lt, own) = gathered_in (avp_part s r listed) n y inside in
    (e, lt, by e (is_long_group s e) (has_in r e) (has_in listed e) refl refl (in_contains (avp_part s r listed e) y own))
  where
    by : (e : ℕ) (a b c : Bool) → has_in r e ≡ b → has_in listed e ≡ c
        → IsIn y (if a then [] else if b then (if c then [] else reports NeverListed (Avp e) ∷ []) else reports NeverHeld (Avp e) ∷ []) → IsOfAvp r listed e y
    by e true b c f g i = absurd i
    by e false true true f g i = absurd i
    by e false true false f g (inl same) = inr (same, g)
    by e false true false f g (inr none) = absurd none
    by e false false c f g (inl same) = inl (same, f)
    by e false false c f g (inr none) = absurd none

-- ---- commands

-- the command that is selected
pub selected_command : (d : Dictionary) (code : ℕ) (class : Class) (app c : ℕ) (command : PlainDefinition) → selected d code class app ≡ Some c → slice_get (definitions d) c ≡ Some command
    → (i : ℕ) × (c ≡ length (groups d) + i) × (slice_get d.commands i ≡ Some command)
selected_command d code class app c command is at =
    let first = first_number (option_or (position (λ (x : PlainDefinition). is_command code class (Some app) x.head) d.commands) (position (λ (x : PlainDefinition). is_command code class None x.head) d.commands)) is in
    by first.0 first.1 (at_append (groups d) d.commands c command at)
  where
    first_number : (o : Option ℕ) → option_map (λ (i : ℕ). length (groups d) + i) o ≡ Some c → (i : ℕ) × (length (groups d) + i ≡ c)
    first_number None e = absurd (none-some c e)
    first_number (Some i) e = (i, same_Some (length (groups d) + i) c e)

    by : (i : ℕ) → length (groups d) + i ≡ c → (slice_get (groups d) c ≡ Some command) ⊎ ((j : ℕ) × (c ≡ length (groups d) + j) × (slice_get d.commands j ≡ Some command))
        → (i : ℕ) × (c ≡ length (groups d) + i) × (slice_get d.commands i ≡ Some command)
    by i e (inl here) = absurd (let within = slice_get_within (groups d) c command here in omega (arith, within, e))
    by i e (inr there) = there

-- ---- AVPs that no message has

module _ (s : Side) (is : IsDictionary s.book) (are : AreOfSide s) (r : Reached) (reached : IsReached s r) where
  abbrev pub At : ℕ → List PlainAvp → Type 0
  At n avps = AtLevel s is are reached.steps reached.reached reached.walk n avps

  -- a level that has an AVP reaches it
  pub has_entry : (n : ℕ) (level : List PlainAvp) (key : Key) (e : ℕ) → At n level → HasKey level key → entry_of s.book key ≡ Some e → e < length s.book.entries → has_in r e ≡ true
  has_entry n level key e l has at within =
      let a = at_Contains (map key_of level) key has in
      let (v, place, own) = at_map key_of level a.place key a.at in
      let inside = contains_in level v (in_at level a.place v place) in
      let w = way_of s is are reached.steps reached.reached reached.walk n level l v inside e (ap (entry_of s.book) own ∙ at) in
      let here : slice_get r.avps.items e ≡ Some true =
      reached.by_walk.avps.each e within ∙ ap (λ (o : Option (Option Reach)). Some (is_some (option_and_then (λ (way : Option Reach). way) o))) w.at in
      ap (λ (o : Option Bool). unwrap_or o false) here

-- the level of a valid message is reached
module _ (u : Unknown) (s : Side) (is : IsDictionary s.book) (are : AreOfSide s) (r : Reached) (reached : IsReached s r) (sends : s.sends ≡ sender_of u) where
  pub valid_level : (n : ℕ) (level : List PlainAvp) → IsValidLevel s.book u n level → At s is are r reached n level
  valid_level n level (bytes, c, valid, all, (depth, below)) =
      let (i, number, at) = selected_command s.book valid.header.code (class_of valid.header.flags) valid.header.app c valid.command valid.select valid.is_command in
      let m = valid.message in
      let top = top_level s is are reached.steps reached.reached reached.walk i valid.command valid.avps at m.body (body_short valid.header valid.avps bytes m all)
      (body_bytes valid.header valid.avps bytes m all) m.is_body
      (subst (λ (w : Sends). StandAsSent w valid.command.rules (map key_of valid.avps)) (sym sends) (sent_stand u valid.command.rules (map key_of valid.avps) valid.placed))
      (subst (λ (w : Sends). AreSentAvps s.book w valid.avps) (sym sends) (sent_avps s.book u valid.avps valid.fit)) in
      each_below s is are reached.steps reached.reached reached.walk depth c valid.avps n level below (subst (λ (k : ℕ). At s is are r reached k valid.avps) (sym number) top)

-- that of a message that the side sends
module _ (s : Side) (is : IsDictionary s.book) (are : AreOfSide s) (r : Reached) (reached : IsReached s r) where
  pub sent_level : (n : ℕ) (level : List PlainAvp) → IsSentLevel s.book s.sends n level → At s is are r reached n level
  sent_level n level (bytes, c, sent, (depth, below)) =
      let (i, number, at) = selected_command s.book sent.header.code (class_of sent.header.flags) sent.header.app c sent.command sent.select sent.is_command in
      let m = sent.message in
      let top = top_level s is are reached.steps reached.reached reached.walk i sent.command sent.avps at m.body (body_short sent.header sent.avps bytes m sent.are_bytes)
      (body_bytes sent.header sent.avps bytes m sent.are_bytes) m.is_body sent.stand sent.sent in
      each_below s is are reached.steps reached.reached reached.walk depth c sent.avps n level below (subst (λ (k : ℕ). At s is are r reached k sent.avps) (sym number) top)
