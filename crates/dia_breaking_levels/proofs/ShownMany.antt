-- The levels that are written for lines of too many AVPs of a key, and of one that is not allowed, have it so often.
use Rattle.std.proofs.Common.{◌≡◌, ℕ, ◌+◌, ◌-◌, ◌^◌, ◌<◌, ◌≤◌, Bool, true, false, cond, List, Option, Some, None, refl, sym, ap, subst, ◌∙◌, arith}
use Rattle.std.specs.Prelude.{min, max, ◌||◌, is_some, count_by, if◌then◌else◌, Contains}
use Rattle.std.specs.Option.{option_map_or}
use Rattle.dia_wire.specs.declared.Key.{Key}
use Rattle.dia_book.specs.Keys.{same_key}
use Rattle.dia_book.specs.declared.DRule.{DRule}
use Rattle.dia_book.proofs.SameKeys.{same_key-refl, same_key-true}
use Rattle.dia_valid.specs.Valid.{is_listed}
use Rattle.dia_valid.specs.Rules.{rule_of, wildcard_of}
use Rattle.dia_valid.proofs.Members.{IsIn, contains_in}
use Rattle.dia_valid.proofs.RulesOfKeys.{is_listed_by}
use Rattle.dia_breaking_levels.specs.declared.demand.Wanted.{Wanted}
use Rattle.dia_breaking_levels.specs.declared.floor.Floor.{Floor}
use Rattle.dia_breaking_levels.specs.declared.line.Reason.TheVariants.{NotAllowed, NotAllowedOther, TooMany}
use Rattle.dia_breaking_levels.specs.Chosen.{PlainDemand, Reads, above_greatest, cheapest_key, count_of, demand, extra_at, level_parts, not_allowed_demand, other_count, outer_key, reads_between, too_many_demand, wants}
use Rattle.dia_breaking_levels.specs.CountsAndRanks.{AreSound, times}
use Rattle.dia_breaking_levels.specs.Exact.{floor_between}
use Rattle.dia_breaking_levels.specs.Levels.{ShowsAt}
use Rattle.dia_breaking_levels.specs.LevelTests.{too_long, at_least, filler, has_room, many, swapped, listed_at_least, other_at_least, not_allowed_length, not_allowed_other_length, too_many_length}
use Rattle.dia_breaking_levels.specs.Showing.{HaveLengths, part_keys}
use Rattle.dia_breaking_levels.proofs.CountsAndRanks.{one_rule}
use Rattle.dia_breaking_levels.proofs.LeastLevels.{not_both}
use Rattle.dia_breaking_levels.proofs.LevelBounds.{is_wild}
use Rattle.dia_breaking_levels.proofs.LineBounds.{is_rule, no_rule}
use Rattle.dia_breaking_levels.proofs.OtherBounds.{counted_some}
use Rattle.dia_breaking_levels.proofs.PartKeys.{of_key, of_other, of_rule, of_rule-key, of_rule-wild, of_wild, passing_plain}
use Rattle.dia_breaking_levels.proofs.RuleSums.{one_of_sum}
use Rattle.dia_breaking_levels.proofs.ShownFew.{as_many, neither_of, unless_false, unless_true}
use Rattle.dia_breaking_levels.proofs.ShownFillers.{outer_found}

-- ---- numbers

-- AVPs that fit with others are no more than what they take
fit_beside : (base out m length : ℕ) → 0 < length → swapped base out (many m length) < too_long → m < too_long
fit_beside base out m length some short = let le = as_many m length some in omega (arith, short, le)

-- a level with so many by the wildcard has room for them
by_wildcard : (base filler length m : ℕ) (wild : Option DRule) → 0 < length → other_at_least base filler length m wild < too_long → (w : DRule) × (wild ≡ Some w) × (m < too_long)
by_wildcard base filler length m None some short = absurd (omega (arith, short))
by_wildcard base filler length m (Some w) some short =
    let parts = unless_false (has_room m w.max) (swapped base (many (min m w.min) filler) (many m length)) short in
    (w, refl, fit_beside base (many (min m w.min) filler) m length some parts.1)

by_rule : (base length m : ℕ) (rule : DRule) → 0 < length → listed_at_least base length m rule < too_long → m < too_long
by_rule base length m rule some short =
    let parts = unless_false (has_room m rule.max) (swapped base (many rule.min length) (many (max m rule.min) length)) short in
    let le = fit_beside base (many rule.min length) (max m rule.min) length some parts.1 in
    omega (arith, le)

module _ (a : List DRule) where
  abbrev level : PlainDemand → List Key
  level d = part_keys (level_parts a d)

  abbrev is_of : Key → Key → Bool
  is_of key k = same_key k key

  -- the level has what one of its rules has
  least_of : (p : Key → Bool) (d : PlainDemand) (s : DRule) → ((i : ℕ) → extra_at d i ≡ 0) → IsIn s a → of_rule p a d 0 s ≤ count_by p (level d)
  least_of p d s plain i =
      let all = passing_plain p a d plain in
      let one = one_of_sum (of_rule p a d 0) a s i in
      omega (arith, all, one)

  -- a key that is wanted occurs as often: by its rule
  pub wanted_listed : (key : Key) (m : ℕ) (second : Option Wanted) (rest : Option Key) (s : DRule) → IsIn s a → s.key ≡ Some key → m ≤ 2 ^ 32 - 1
      → m ≤ times key (level (demand (wants (Some key) m) second rest))
  wanted_listed key m second rest s i e within =
      let d = demand (wants (Some key) m) second rest in
      let least = least_of (is_of key) d s (λ j. refl) i in
      let own : of_rule (is_of key) a d 0 s ≡ cond (same_key key key) (min (min (max (max (if same_key key key then m else 0) (count_of second key)) s.min + 0) (2 ^ 64 - 1)) (2 ^ 32 - 1)) 0 =
      of_rule-key (is_of key) a d 0 s key e in
      let here : cond (same_key key key) (min (min (max (max (if same_key key key then m else 0) (count_of second key)) s.min + 0) (2 ^ 64 - 1)) (2 ^ 32 - 1)) 0
      ≡ min (min (max (max m (count_of second key)) s.min + 0) (2 ^ 64 - 1)) (2 ^ 32 - 1) =
      ap (λ (t : Bool). cond t (min (min (max (max (if t then m else 0) (count_of second key)) s.min + 0) (2 ^ 64 - 1)) (2 ^ 32 - 1)) 0) (same_key-refl key) in
      omega (arith, least, own, here, within)

  -- or by the wildcard
  pub wanted_other : (key : Key) (m : ℕ) (second : Option Wanted) (rest : Option Key) (w : DRule) → wildcard_of a ≡ Some w → is_listed a key ≡ false → m ≤ 2 ^ 32 - 1
      → m ≤ times key (level (demand (wants (Some key) m) second rest))
  wanted_other key m second rest w is none within =
      let d = demand (wants (Some key) m) second rest in
      let there = is_wild a w is in
      let least = least_of (is_of key) d w (λ j. refl) there.0 in
      let own = of_rule-wild (is_of key) a d 0 w there.1 in
      let first : of_other (is_of key) a (wants (Some key) m) ≡ min m (2 ^ 32 - 1) =
      ap (λ (t : Bool). if t then 0 else cond (same_key key key) (min m (2 ^ 32 - 1)) 0) none ∙ ap (λ (t : Bool). cond t (min m (2 ^ 32 - 1)) 0) (same_key-refl key) in
      let rest_part = of_key (is_of key) rest (w.min - other_count a (wants (Some key) m) - other_count a second - 0) in
      let parts : of_wild (is_of key) a d w.min 0 ≡ of_other (is_of key) a (wants (Some key) m) + of_other (is_of key) a second + 0 + rest_part = refl in
      omega (arith, least, own, first, parts, within)

module _ (listed other : Key → ℕ) (keys : List Key) (a b : List DRule) (sound_b : AreSound b) (have : HaveLengths listed) (have_other : HaveLengths other) where
  abbrev r : Reads
  r = reads_between a b listed other keys

  abbrev f : Floor
  f = floor_between listed other keys a b

  -- ---- too many

  above_is : (key : Key) (rule : DRule) (m : ℕ) → IsIn rule b → rule.key ≡ Some key → rule.max ≡ Some m → above_greatest b (Some key) ≡ m + 1
  above_is key rule m i e is = by (rule_of b key) refl
    where
      by : (o : Option DRule) → rule_of b key ≡ o → above_greatest b (Some key) ≡ m + 1
      by None h = absurd (not_both (is_listed b key) (is_listed_by b key rule i e) (no_rule b key h))
      by (Some t) h =
          let there = is_rule b key t h in
          let same : t ≡ rule = one_rule b t rule sound_b there.0 i (there.1 ∙ sym e) in
          ap (λ (o : Option DRule). option_map_or (λ s. option_map_or (λ most. most + 1) s.max 0) o 0) h ∙ ap (λ (s : DRule). option_map_or (λ most. most + 1) s.max 0) same
          ∙ ap (λ (o : Option ℕ). option_map_or (λ most. most + 1) o 0) is

  often : (key : Key) (m : ℕ) → at_least f listed other key m (rule_of a key) f.wild < too_long → m ≤ times key (level a (demand (wants (Some key) m) None (cheapest_key r)))
  often key m short = by (rule_of a key) refl
    where
      by : (o : Option DRule) → rule_of a key ≡ o → m ≤ times key (level a (demand (wants (Some key) m) None (cheapest_key r)))
      by (Some s) h =
          let there = is_rule a key s h in
          let least : listed_at_least f.base (listed key) m s < too_long = subst (λ (o : Option DRule). at_least f listed other key m o f.wild < too_long) h short in
          let few = by_rule f.base (listed key) m s (have key) least in
          wanted_listed a key m None (cheapest_key r) s there.0 there.1 (omega (arith, few))
      by None h =
          let least : other_at_least f.base (filler f) (other key) m f.wild < too_long = subst (λ (o : Option DRule). at_least f listed other key m o f.wild < too_long) h short in
          let few = by_wildcard f.base (filler f) (other key) m f.wild (have_other key) least in
          wanted_other a key m None (cheapest_key r) few.0 few.1 (no_rule a key h) (let lt = few.2 in omega (arith, lt))

  pub too_many_shown : (rule : DRule) → IsIn rule b → too_many_length f listed other a rule < too_long → ShowsAt a b (level a (too_many_demand r rule.key)) TooMany rule.key
  too_many_shown rule i short = by rule.key rule.max refl refl
    where
      by : (o : Option Key) (most : Option ℕ) → rule.key ≡ o → rule.max ≡ most → ShowsAt a b (level a (too_many_demand r o)) TooMany o
      by None most e is =
          let long : too_many_length f listed other a rule ≡ too_long =
          ap (λ (o : Option Key). option_map_or (λ k. option_map_or (λ max. at_least f listed other k (max + 1) (rule_of a k) f.wild) rule.max too_long) o too_long) e in
          absurd (omega (arith, long, short))
      by (Some key) None e is =
          let long : too_many_length f listed other a rule ≡ too_long =
          ap (λ (o : Option Key). option_map_or (λ k. option_map_or (λ max. at_least f listed other k (max + 1) (rule_of a k) f.wild) rule.max too_long) o too_long) e
          ∙ ap (λ (o : Option ℕ). option_map_or (λ max. at_least f listed other key (max + 1) (rule_of a key) f.wild) o too_long) is in
          absurd (omega (arith, long, short))
      by (Some key) (Some m) e is =
          let own : too_many_length f listed other a rule ≡ at_least f listed other key (m + 1) (rule_of a key) f.wild =
          ap (λ (o : Option Key). option_map_or (λ k. option_map_or (λ max. at_least f listed other k (max + 1) (rule_of a k) f.wild) rule.max too_long) o too_long) e
          ∙ ap (λ (o : Option ℕ). option_map_or (λ max. at_least f listed other key (max + 1) (rule_of a key) f.wild) o too_long) is in
          let least = often key (m + 1) (omega (arith, own, short)) in
          let count : m + 1 ≤ times key (level a (too_many_demand r (Some key))) =
          subst (λ (n : ℕ). m + 1 ≤ times key (level a (demand (wants (Some key) n) None (cheapest_key r)))) (sym (above_is key rule m i e is)) least in
          (rule, m, (contains_in b rule i, e), is, omega (arith, count))

  -- ---- not allowed

  comes : (key : Key) (d : PlainDemand) → 1 ≤ times key (level a d) → Contains (level a d) key
  comes key d some =
      let found = counted_some (is_of a key) (level a d) some in
      let same : found.0 ≡ key = same_key-true found.0 key found.2 in
      contains_in (level a d) key (subst (λ (k : Key). IsIn k (level a d)) same found.1)

  pub not_allowed_shown : (rule : DRule) → IsIn rule a → not_allowed_length f listed b rule < too_long → ShowsAt a b (level a (not_allowed_demand r rule.key)) NotAllowed rule.key
  not_allowed_shown rule i short = by rule.key refl
    where
      by : (o : Option Key) → rule.key ≡ o → ShowsAt a b (level a (not_allowed_demand r o)) NotAllowed o
      by None e =
          let long : not_allowed_length f listed b rule ≡ too_long =
          ap (λ (o : Option Key). option_map_or (λ k. if f.lets_in || is_listed b k then too_long else listed_at_least f.base (listed k) 1 rule) o too_long) e in
          absurd (omega (arith, long, short))
      by (Some key) e =
          let own : not_allowed_length f listed b rule ≡ (if f.lets_in || is_listed b key then too_long else listed_at_least f.base (listed key) 1 rule) =
          ap (λ (o : Option Key). option_map_or (λ k. if f.lets_in || is_listed b k then too_long else listed_at_least f.base (listed k) 1 rule) o too_long) e in
          let free = neither_of f.lets_in (is_listed b key) (unless_true (f.lets_in || is_listed b key) (listed_at_least f.base (listed key) 1 rule) (omega (arith, own, short))).0 in
          let some = wanted_listed a key 1 None (cheapest_key r) rule i e (omega arith) in
          (comes key (not_allowed_demand r (Some key)) some, free.1, free.0)

  pub not_allowed_other_shown : (rule : DRule) → IsIn rule a → not_allowed_other_length f rule < too_long
      → ShowsAt a b (level a (not_allowed_demand r (outer_key r))) NotAllowedOther rule.key
  not_allowed_other_shown rule i short = by rule.key (outer_key r) refl refl
    where
      parts : (f.lets_in || is_some rule.key) ≡ false × (other_at_least f.base (filler f) f.outer 1 f.wild < too_long)
      parts = unless_true (f.lets_in || is_some rule.key) (other_at_least f.base (filler f) f.outer 1 f.wild) short

      free : (f.lets_in ≡ false) × (is_some rule.key ≡ false)
      free = neither_of f.lets_in (is_some rule.key) parts.0

      room : (base low length : ℕ) (wild : Option DRule) → other_at_least base low length 1 wild < too_long → (w : DRule) × (wild ≡ Some w) × (length < too_long)
      room base low length None less = absurd (omega (arith, less))
      room base low length (Some w) less =
          let le = (unless_false (has_room 1 w.max) (swapped base (many (min 1 w.min) low) (many 1 length)) less).1 in
          (w, refl, omega (arith, le))

      by : (o key : Option Key) → rule.key ≡ o → outer_key r ≡ key → ShowsAt a b (level a (not_allowed_demand r key)) NotAllowedOther o
      by (Some k) key e is = absurd (let bad : true ≡ false = sym (ap (λ (o : Option Key). is_some o) e) ∙ free.1 in cc)
      by None None e is =
          let long : f.outer ≡ too_long = ap (λ (o : Option Key). option_map_or other o too_long) is in
          let less = (room f.base (filler f) f.outer f.wild parts.1).2 in
          absurd (omega (arith, long, less))
      by None (Some key) e is =
          let wild = room f.base (filler f) f.outer f.wild parts.1 in
          let out = outer_found listed other keys a b key is in
          let some = wanted_other a key 1 None (cheapest_key r) wild.0 wild.1 out.0 (omega arith) in
          (key, comes key (not_allowed_demand r (Some key)) some, out.0, out.1, free.0)
