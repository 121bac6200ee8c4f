-- What the findings about valid messages report, by their rules.
use Rattle.std.proofs.Common.{◌≡◌, ℕ, zero, suc, ◌+◌, ◌≤◌, Bool, true, false, List, [], ◌∷◌, ◌++◌, length, take, Option, Some, None, refl, sym, ap, subst, ◌∙◌, arith}
use Rattle.std.specs.Prelude.{◌||◌, if◌then◌else◌, nat_eq, nat_le, slice_get}
use Rattle.std.specs.List.{flat_map}
use Rattle.std.specs.Option.{option_eq, option_map_or}
use Rattle.std.proofs.lemmas.List.{append-nil, take_all}
use Rattle.std.proofs.lemmas.List.Elements.{All-append, All-cons, filter_map-append}
use Rattle.dia_book.specs.declared.DRule.{DRule}
use Rattle.dia_book.specs.Dictionary.{group_place, groups}
use Rattle.dia_valid.specs.Rules.{rules_in}
use Rattle.dia_valid.proofs.Members.{there_is}
use Rattle.dia_breaking_levels.specs.LevelTests.{too_long}
use Rattle.dia_breaking_shortest.specs.Lengths.{entry_length}
use Rattle.dia_lint.specs.declared.finding.Finding.{Finding}
use Rattle.dia_lint.specs.declared.levels.LevelCost.{LevelCost}
use Rattle.dia_lint.specs.declared.reached.Reached.{Reached}
use Rattle.dia_lint.specs.declared.rule.Rule.TheVariants.{NeverHeld, NeverListed, NeverStands, NoLevel, NoMessage}
use Rattle.dia_lint.specs.declared.finding.Subject.TheVariants.{Avp, Within}
use Rattle.dia_lint.specs.declared.finding.Place.TheVariants as place
use Rattle.dia_lint.specs.declared.detail.Detail.TheVariants as detail
use Rattle.dia_lint.specs.Costs.{level_of}
use Rattle.dia_lint.specs.Exact.{AreOfMessages, is_no_level, is_no_message, is_of_messages, reported}
use Rattle.dia_lint.specs.ExactLines.{avp_lines, command_lines, definition_lines, group_lines, level_lines, message_lines, of_avp, rule_lines, rules_lines, stands_lines, unmet_in, why_never, why_never_listed}
use Rattle.dia_lint.specs.Gathered.{Adds, gathered, long_command, long_commands, long_group, long_groups, reports, way_of, ways_in}
use Rattle.dia_lint.specs.Guidelines.{at_head}
use Rattle.dia_lint.specs.OwnRules.{named_by}
use Rattle.dia_lint.specs.WayLines.{Reported, avp_part, command_part, definition_part, group_part, is_long_group, rule_length, rules_part, stands_part}
use Rattle.dia_lint.specs.Ways.{Side, cost_of, has_in, way_in, with_rule}
use Rattle.dia_lint.proofs.Added.{adds_pushed, one_part_more, one_rule_more}
use Rattle.dia_lint.proofs.Reported.{about}

-- they report these commands and groups, and these ways
pub record Projects (xs : List Finding) (m l : List ℕ) (w : List Reported) : Type 0 where
  pub messages : reported is_no_message xs ≡ m
  pub levels : reported is_no_level xs ≡ l
  pub ways : ways_in xs ≡ w
  pub own : AreOfMessages xs

none : Projects [] [] [] []
none = record { messages = refl; levels = refl; ways = refl; own = λ k d lt. absurd (omega (arith, lt)) }

one : (x : Finding) (m l : List ℕ) (w : List Reported) → reported is_no_message (x ∷ []) ≡ m → reported is_no_level (x ∷ []) ≡ l → ways_in (x ∷ []) ≡ w → is_of_messages x.rule ≡ true → Projects (x ∷ []) m l w
one x m l w messages levels ways own =
    record { messages = messages; levels = levels; ways = ways; own = All-cons (λ (y : Finding). is_of_messages y.rule ≡ true) x [] own (λ k d lt. absurd (omega (arith, lt))) }

both : (xs ys : List Finding) (m n k l : List ℕ) (v w : List Reported) → Projects xs m k v → Projects ys n l w → Projects (xs ++ ys) (m ++ n) (k ++ l) (v ++ w)
both xs ys m n k l v w first second = record {
  messages = filter_map-append (about is_no_message) xs ys ∙ ap (λ (ns : List ℕ). ns ++ reported is_no_message ys) first.messages ∙ ap (λ (ns : List ℕ). m ++ ns) second.messages;
  levels = filter_map-append (about is_no_level) xs ys ∙ ap (λ (ns : List ℕ). ns ++ reported is_no_level ys) first.levels ∙ ap (λ (ns : List ℕ). k ++ ns) second.levels;
  ways = filter_map-append way_of xs ys ∙ ap (λ (ns : List Reported). ns ++ ways_in ys) first.ways ∙ ap (λ (ns : List Reported). v ++ ns) second.ways;
  own = All-append (λ (x : Finding). is_of_messages x.rule ≡ true) xs ys first.own second.own;
}

all : (f : ℕ → List Finding) (m l : ℕ → List ℕ) (w : ℕ → List Reported) → ((i : ℕ) → Projects (f i) (m i) (l i) (w i)) → (n : ℕ) → Projects (gathered f n) (gathered m n) (gathered l n) (gathered w n)
all f m l w each zero = none
all f m l w each (suc n) = both (gathered f n) (f n) (gathered m n) (m n) (gathered l n) (l n) (gathered w n) (w n) (all f m l w each n) (each n)

abbrev nothing : ℕ → List ℕ
nothing i = []

gathered_nothing : (n : ℕ) → gathered nothing n ≡ []
gathered_nothing zero = refl
gathered_nothing (suc n) = append-nil (gathered nothing n) ∙ gathered_nothing n

-- ---- rules

stands : (s : Side) (cost : LevelCost) (n way at : ℕ) (rule : DRule) → Projects (stands_lines s cost n way at rule) [] [] (stands_part s cost n way rule)
stands s cost n way at rule = by (option_eq nat_eq rule.max (Some 0) || nat_le (way + with_rule cost rule (rule_length s cost.filler rule)) too_long)
  where
    found : Finding
    found = record { rule = NeverStands; place = place.Rule n at; subject = Within n (named_by rule.key); detail = why_never rule (rule_length s cost.filler rule) }

    by : (b : Bool) → Projects (if b then [] else found ∷ []) [] [] (if b then [] else reports NeverStands (Within n (named_by rule.key)) ∷ [])
    by true = none
    by false = one found [] [] (reports NeverStands (Within n (named_by rule.key)) ∷ []) refl refl refl refl

-- parts by elements are those of the list
gathered_elements : {X Y : Type 0} (f : X → List Y) (xs : List X) (k : ℕ) → k ≤ length xs → gathered (λ i. option_map_or f (slice_get xs i) []) k ≡ flat_map f (take k xs)
gathered_elements f xs zero le = refl
gathered_elements {X} {Y} f xs (suc k) le =
    let (x, at) = there_is xs k (omega (arith, le)) in
    let same : k + 1 ≡ suc k = omega arith in
    ap (λ (ys : List Y). ys ++ option_map_or f (slice_get xs k) []) (gathered_elements f xs k (omega (arith, le)))
    ∙ ap (λ (o : Option X). flat_map f (take k xs) ++ option_map_or f o []) at ∙ one_rule_more f xs k x at ∙ ap (λ (n : ℕ). flat_map f (take n xs)) same

of_rules : (s : Side) (n way : ℕ) → Projects (rules_lines s n way) [] [] (rules_part s n way)
of_rules s n way =
    let rules = rules_in s.book n in
    let part = stands_part s (cost_of s rules) n way in
    let size = length rules in
    let ways = gathered_elements part rules size (omega arith) ∙ ap (flat_map part) (take_all size rules (omega arith)) in
    subst (λ (ws : List Reported). Projects (rules_lines s n way) [] [] ws) ways
    (subst (λ (ns : List ℕ). Projects (rules_lines s n way) ns ns (gathered (λ i. option_map_or part (slice_get rules i) []) size)) (gathered_nothing size)
    (all (rule_lines s n way rules) nothing nothing (λ i. option_map_or part (slice_get rules i) []) (λ i. each i (slice_get rules i)) size))
  where
    each : (i : ℕ) (o : Option DRule) → Projects (option_map_or (stands_lines s (cost_of s (rules_in s.book n)) n way i) o []) [] [] (option_map_or (stands_part s (cost_of s (rules_in s.book n)) n way) o [])
    each i None = none
    each i (Some rule) = stands s (cost_of s (rules_in s.book n)) n way i rule

of_definition : (s : Side) (n : ℕ) (way : Option ℕ) → Projects (definition_lines s n way) [] [] (definition_part s n way)
of_definition s n None = none
of_definition s n (Some way) = of_rules s n way

-- ---- groups

of_group : (s : Side) (r : Reached) (e : ℕ) → Projects (group_lines s r e) [] (long_group s.book s.lengths e) (group_part s r e)
of_group s r e = by (group_place s.book e)
  where
    level : (n : ℕ) (b : Bool) → Projects (if b then at_head n NoLevel (unmet_in s n) ∷ [] else []) [] (if b then n ∷ [] else []) []
    level n true = one (at_head n NoLevel (unmet_in s n)) [] (n ∷ []) [] refl refl refl refl
    level n false = none

    by : (o : Option ℕ) → Projects (option_map_or (λ n. level_lines s e n ++ definition_lines s n (way_in r e)) o []) [] (option_map_or (λ def. if nat_le too_long (entry_length s.lengths e) then def ∷ [] else []) o []) (option_map_or (λ n. definition_part s n (way_in r e)) o [])
    by None = none
    by (Some n) =
        let long = if nat_le too_long (entry_length s.lengths e) then n ∷ [] else [] in
        subst (λ (ns : List ℕ). Projects (level_lines s e n ++ definition_lines s n (way_in r e)) [] ns (definition_part s n (way_in r e))) (append-nil long)
        (both (level_lines s e n) (definition_lines s n (way_in r e)) [] [] long [] [] (definition_part s n (way_in r e)) (level n (nat_le too_long (entry_length s.lengths e))) (of_definition s n (way_in r e)))

pub of_groups : (s : Side) (r : Reached) (n : ℕ) → Projects (gathered (group_lines s r) n) [] (long_groups s.book s.lengths n) (gathered (group_part s r) n)
of_groups s r n = subst (λ (ns : List ℕ). Projects (gathered (group_lines s r) n) ns (long_groups s.book s.lengths n) (gathered (group_part s r) n)) (gathered_nothing n)
    (all (group_lines s r) nothing (long_group s.book s.lengths) (group_part s r) (of_group s r) n)

-- ---- commands

of_command : (s : Side) (r : Reached) (i : ℕ) → Projects (command_lines s r i) (long_command (level_of s.book s.sends s.lengths s.others) (length (groups s.book)) i) [] (command_part s r i)
of_command s r i =
    let n = length (groups s.book) + i in
    let way = way_in r (length s.book.entries + i) in
    let long = long_command (level_of s.book s.sends s.lengths s.others) (length (groups s.book)) i in
    subst (λ (ns : List ℕ). Projects (command_lines s r i) ns [] (command_part s r i)) (append-nil long)
    (both (message_lines s n) (definition_lines s n way) long [] [] [] [] (definition_part s n way) (level n (nat_le too_long (level_of s.book s.sends s.lengths s.others n))) (of_definition s n way))
  where
    level : (n : ℕ) (b : Bool) → Projects (if b then at_head n NoMessage (unmet_in s n) ∷ [] else []) (if b then n ∷ [] else []) [] []
    level n true = one (at_head n NoMessage (unmet_in s n)) (n ∷ []) [] [] refl refl refl refl
    level n false = none

pub of_commands : (s : Side) (r : Reached) (n : ℕ)
    → Projects (gathered (command_lines s r) n) (long_commands (level_of s.book s.sends s.lengths s.others) (length (groups s.book)) n) [] (gathered (command_part s r) n)
of_commands s r n =
    let long = long_command (level_of s.book s.sends s.lengths s.others) (length (groups s.book)) in
    subst (λ (ns : List ℕ). Projects (gathered (command_lines s r) n) (gathered long n) ns (gathered (command_part s r) n)) (gathered_nothing n)
    (all (command_lines s r) long nothing (command_part s r) (of_command s r) n)

-- ---- AVPs

of_entry : (s : Side) (r listed : Reached) (e : ℕ) → Projects (avp_lines s r listed e) [] [] (avp_part s r listed e)
of_entry s r listed e = by (is_long_group s e) (has_in r e) (has_in listed e)
  where
    by : (long has is : Bool) → Projects (if long then [] else if has then (if is then [] else of_avp e NeverListed (why_never_listed s.book e) ∷ []) else of_avp e NeverHeld detail.NotHeld ∷ []) [] [] (if long then [] else if has then (if is then [] else reports NeverListed (Avp e) ∷ []) else reports NeverHeld (Avp e) ∷ [])
    by true has is = none
    by false true true = none
    by false true false = one (of_avp e NeverListed (why_never_listed s.book e)) [] [] (reports NeverListed (Avp e) ∷ []) refl refl refl refl
    by false false is = one (of_avp e NeverHeld detail.NotHeld) [] [] (reports NeverHeld (Avp e) ∷ []) refl refl refl refl

pub of_entries : (s : Side) (r listed : Reached) (n : ℕ) → Projects (gathered (avp_lines s r listed) n) [] [] (gathered (avp_part s r listed) n)
of_entries s r listed n = subst (λ (ns : List ℕ). Projects (gathered (avp_lines s r listed) n) ns ns (gathered (avp_part s r listed) n)) (gathered_nothing n)
    (all (avp_lines s r listed) nothing nothing (avp_part s r listed) (of_entry s r listed) n)

-- ---- added

pub adds_projected : (m l : List ℕ) (w : List Reported) (xs old new : List Finding) → Projects xs m l w → new ≡ old ++ xs → Adds m l w old new
adds_projected m l w xs old new are is = adds_pushed m l w old new xs is are.messages are.levels are.ways are.own

pub adds_nothing : (xs old new : List Finding) → xs ≡ [] → new ≡ old ++ xs → Adds [] [] [] old new
adds_nothing xs old new empty is = adds_projected [] [] [] xs old new (subst (λ (ys : List Finding). Projects ys [] [] []) (sym empty) none) is
