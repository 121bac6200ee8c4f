-- What is computed of a definition's levels with an AVP is no more than what such levels take.
use Rattle.std.proofs.Common.{◌≡◌, ℕ, zero, suc, ◌+◌, ◌-◌, ◌*◌, ◌≤◌, min, max, Bool, true, false, List, [], ◌∷◌, Option, Some, None, refl, sym, ap, subst, ◌∙◌, arith, inl, inr}
use Rattle.std.specs.Prelude.{◌⊎◌, nat_eq, nat_le, nat_lt, ◌||◌, ◌&&◌, not, if◌then◌else◌, fold, find, slice_get, length}
use Rattle.std.specs.Option.{option_eq, option_map_or}
use Rattle.std.proofs.lemmas.Bool.{leb-true, ltb-true, ltb-false, le-leb}
use Rattle.std.proofs.Math.Dec.{eqb-suc-zero}
use Rattle.std.proofs.lemmas.Option.{slice_get_within}
use Rattle.std.proofs.Math.Nat.{mul-le-mul_right}
use Rattle.dia_wire.specs.declared.Key.{Key}
use Rattle.dia_book.specs.declared.DRule.{DRule}
use Rattle.dia_book.specs.Dictionary.{Dictionary, PlainDefinition, AreRules, definitions}
use Rattle.dia_valid.specs.Valid.{is_listed}
use Rattle.dia_valid.specs.Rules.{HasRule, rules_in, rule_of, wildcard_of}
use Rattle.dia_valid.proofs.Members.{in_contains}
use Rattle.dia_valid.proofs.RulesOfKeys.{is_listed_by}
use Rattle.dia_breaking_levels.specs.Levels.{FirstIsShortest, OtherIsShortest}
use Rattle.dia_breaking_levels.specs.LevelTests.{too_long, capped, has_room, swapped, many, listed_at_least, other_at_least, base_length, least_filler, least_length, length_once, once, is_outside}
use Rattle.dia_breaking_levels.proofs.AloneBounds.{with_within}
use Rattle.dia_breaking_levels.proofs.CountsAndRanks.{rules_sound, one_rule}
use Rattle.dia_breaking_levels.proofs.LineBounds.{is_rule, no_rule}
use Rattle.dia_breaking.specs.declared.levels.LevelCost.{LevelCost}
use Rattle.dia_breaking.specs.LevelCosts.{IsCostOf, beside_of, with_listed, with_other}

-- ---- lengths

-- with n or more of an AVP of this length, n of them being there already
kept : (base n length : ℕ) → base ≤ too_long → base ≤ swapped base (many n length) (many n length)
kept base n length le = omega (arith, le)

-- one of a rule that asks for none
one_more : (base length : ℕ) → capped (base + length) ≤ swapped base (many 0 length) (many 1 length)
one_more base length =
    let none : 0 * length ≡ 0 = omega arith in
    let one : 1 * length ≡ length = omega arith in
    omega (arith, none, one)

-- a long one
long_one : (base n length : ℕ) → too_long ≤ length → too_long ≤ swapped base (many n length) (many (max 1 n) length)
long_one base zero length long = let h = one_more base length in omega (arith, h, long)
long_one base (suc n) length long =
    let one : 1 * length ≡ length = omega arith in
    let more : 1 * length ≤ suc n * length = mul-le-mul_right {m = 1} {n = suc n} length (omega arith) in
    let same : max 1 (suc n) ≡ suc n = omega arith in
    subst (λ (k : ℕ). too_long ≤ swapped base (many (suc n) length) (many k length)) (sym same) (omega (arith, one, more, long))

listed_room : (base length : ℕ) (rule : DRule) (own : ℕ) → own ≡ base → base ≤ too_long
    → (if nat_le too_long length then too_long else if nat_lt 0 rule.min then own else capped (own + length)) ≤ swapped base (many rule.min length) (many (max 1 rule.min) length)
listed_room base length rule own same le = by (nat_le too_long length) refl (nat_lt 0 rule.min) refl
  where
    by : (b : Bool) → nat_le too_long length ≡ b → (c : Bool) → nat_lt 0 rule.min ≡ c
        → (if b then too_long else if c then own else capped (own + length)) ≤ swapped base (many rule.min length) (many (max 1 rule.min) length)
    by true e c f = long_one base rule.min length (leb-true too_long length e)
    by false e true f =
        let some = ltb-true 0 rule.min f in
        let one : max 1 rule.min ≡ rule.min = omega (arith, some) in
        let h = kept base rule.min length le in
        let all : base ≤ swapped base (many rule.min length) (many (max 1 rule.min) length) = subst (λ (n : ℕ). base ≤ swapped base (many rule.min length) (many n length)) (sym one) h in
        omega (arith, same, all)
    by false e false f =
        let none = ltb-false 0 rule.min f in
        let zero_is : rule.min ≡ 0 = omega (arith, none) in
        let h : capped (base + length) ≤ swapped base (many rule.min length) (many (max 1 rule.min) length) =
        subst (λ (n : ℕ). capped (base + length) ≤ swapped base (many n length) (many (max 1 n) length)) (sym zero_is) (one_more base length) in
        omega (arith, same, h)

-- the max is 0, or there is room for one
zero_or_room : (m : Option ℕ) → ((option_eq nat_eq m (Some 0) ≡ true) × (has_room 1 m ≡ false)) ⊎ ((option_eq nat_eq m (Some 0) ≡ false) × (has_room 1 m ≡ true))
zero_or_room None = inr (refl, refl)
zero_or_room (Some zero) = inl (refl, refl)
zero_or_room (Some (suc n)) = inr (eqb-suc-zero n, le-leb 1 (suc n) (omega arith))

-- with an AVP of a rule
listed_le : (cost : LevelCost) (rule : DRule) (base length : ℕ) → cost.base ≡ base → base ≤ too_long → with_listed cost rule length ≤ listed_at_least base length 1 rule
listed_le cost rule base length same le = by (zero_or_room rule.max)
  where
    IsBelow : Bool → Bool → Type 0
    IsBelow b c = (if b || nat_le too_long length then too_long else if nat_lt 0 rule.min then cost.base else capped (cost.base + length))
        ≤ (if c then swapped base (many rule.min length) (many (max 1 rule.min) length) else too_long)

    by : ((option_eq nat_eq rule.max (Some 0) ≡ true) × (has_room 1 rule.max ≡ false)) ⊎ ((option_eq nat_eq rule.max (Some 0) ≡ false) × (has_room 1 rule.max ≡ true))
        → IsBelow (option_eq nat_eq rule.max (Some 0)) (has_room 1 rule.max)
    by (inl (e, f)) = subst (λ (b : Bool). IsBelow b (has_room 1 rule.max)) (sym e) (subst (λ (c : Bool). IsBelow true c) (sym f) (omega arith))
    by (inr (e, f)) = subst (λ (b : Bool). IsBelow b (has_room 1 rule.max)) (sym e) (subst (λ (c : Bool). IsBelow false c) (sym f) (listed_room base length rule cost.base same le))

other_room : (base filler length : ℕ) (wild : DRule) (own : ℕ) → own ≡ (if nat_le too_long base || nat_le too_long filler then too_long else if nat_lt 0 wild.min then base - filler else base)
    → base ≤ too_long → filler ≤ length → capped (own + length) ≤ swapped base (many (min 1 wild.min) filler) (many 1 length)
other_room base filler length wild own is le shortest = any (nat_le too_long filler) refl is
  where
    one : many 1 length ≡ capped length
    one = let h : 1 * length ≡ length = omega arith in omega (arith, h)

    by : (b : Bool) → nat_le too_long base ≡ b → (c : Bool) → nat_lt 0 wild.min ≡ c → own ≡ (if b then too_long else if c then base - filler else base)
        → capped (own + length) ≤ swapped base (many (min 1 wild.min) filler) (many 1 length)
    by b e true f is =
        let some = ltb-true 0 wild.min f in
        let least : min 1 wild.min ≡ 1 = omega (arith, some) in
        let first : many (min 1 wild.min) filler ≡ capped filler = ap (λ (n : ℕ). many n filler) least ∙ (let h : 1 * filler ≡ filler = omega arith in omega (arith, h)) in
        let second = one in
        with_wild b e is (many (min 1 wild.min) filler) first (many 1 length) second
      where
        with_wild : (b : Bool) → nat_le too_long base ≡ b → own ≡ (if b then too_long else base - filler) → (out : ℕ) → out ≡ capped filler → (into : ℕ) → into ≡ capped length
            → capped (own + length) ≤ swapped base out into
        with_wild true e is out o into i = let long = leb-true too_long base e in omega (arith, is, o, i, long, shortest)
        with_wild false e is out o into i = omega (arith, is, o, i, shortest)
    by b e false f is =
        let none = ltb-false 0 wild.min f in
        let least : min 1 wild.min ≡ 0 = omega (arith, none) in
        let first : many (min 1 wild.min) filler ≡ 0 = ap (λ (n : ℕ). many n filler) least ∙ (let h : 0 * filler ≡ 0 = omega arith in omega (arith, h)) in
        without b e is (many (min 1 wild.min) filler) first (many 1 length) one
      where
        without : (b : Bool) → nat_le too_long base ≡ b → own ≡ (if b then too_long else base) → (out : ℕ) → out ≡ 0 → (into : ℕ) → into ≡ capped length → capped (own + length) ≤ swapped base out into
        without true e is out o into i = let long = leb-true too_long base e in omega (arith, is, o, i, long)
        without false e is out o into i = omega (arith, is, o, i)

    or_none : (b : Bool) → (b || false) ≡ b
    or_none true = refl
    or_none false = refl

    -- a long one
    beyond : (out into : ℕ) → into ≡ capped length → too_long ≤ filler → capped (own + length) ≤ swapped base out into
    beyond out into i long = omega (arith, i, long, shortest)

    any : (b : Bool) → nat_le too_long filler ≡ b → own ≡ (if nat_le too_long base || b then too_long else if nat_lt 0 wild.min then base - filler else base)
        → capped (own + length) ≤ swapped base (many (min 1 wild.min) filler) (many 1 length)
    any true e is = beyond (many (min 1 wild.min) filler) (many 1 length) one (leb-true too_long filler e)
    any false e is =
        by (nat_le too_long base) refl (nat_lt 0 wild.min) refl
        (is ∙ ap (λ (b : Bool). if b then too_long else if nat_lt 0 wild.min then base - filler else base) (or_none (nat_le too_long base)))

-- with one by the wildcard
other_le : (cost : LevelCost) (base filler length : ℕ) (w : Option DRule) → cost.beside ≡ option_map_or (beside_of base filler) w too_long → base ≤ too_long → filler ≤ length
    → with_other cost length ≤ other_at_least base filler length 1 w
other_le cost base filler length None is le shortest = omega arith
other_le cost base filler length (Some wild) is le shortest = by (zero_or_room wild.max)
  where
    by : ((option_eq nat_eq wild.max (Some 0) ≡ true) × (has_room 1 wild.max ≡ false)) ⊎ ((option_eq nat_eq wild.max (Some 0) ≡ false) × (has_room 1 wild.max ≡ true))
        → with_other cost length ≤ (if has_room 1 wild.max then swapped base (many (min 1 wild.min) filler) (many 1 length) else too_long)
    by (inl (e, f)) = subst (λ (c : Bool). with_other cost length ≤ (if c then swapped base (many (min 1 wild.min) filler) (many 1 length) else too_long)) (sym f) (omega arith)
    by (inr (e, f)) =
        let own : cost.beside ≡ (if nat_le too_long base || nat_le too_long filler then too_long else if nat_lt 0 wild.min then base - filler else base) =
        is ∙ ap (λ (b : Bool). if b || nat_le too_long base || nat_le too_long filler then too_long else if nat_lt 0 wild.min then base - filler else base) e in
        subst (λ (c : Bool). with_other cost length ≤ (if c then swapped base (many (min 1 wild.min) filler) (many 1 length) else too_long)) (sym f)
        (other_room base filler length wild cost.beside own le shortest)

fold_most : (step : ℕ → DRule → ℕ) → ((s : ℕ) (r : DRule) → step s r ≤ too_long) → (rules : List DRule) (s : ℕ) → s ≤ too_long → fold step s rules ≤ too_long
fold_most step most [] s le = le
fold_most step most (r ∷ rules) s le = fold_most step most rules (step s r) (most s r)

base_most : (listed : Key → ℕ) (filler : ℕ) (rules : List DRule) → base_length listed filler rules ≤ too_long
base_most listed filler rules = fold_most (λ sum rule. capped (sum + many rule.min (option_map_or listed rule.key filler))) (λ s r. omega arith) rules 0 (omega arith)

-- ---- the cost of a definition

pub cost_of : (listed other : Key → ℕ) (others : List Key) (rules : List DRule) (cost : LevelCost) → AreRules rules → OtherIsShortest other others rules
    → cost.base ≡ least_length listed other others rules
    → cost.beside ≡ option_map_or (beside_of (least_length listed other others rules) (least_filler other others rules)) (wildcard_of rules) too_long → IsCostOf listed other rules cost
cost_of listed other others rules cost are shortest is_base is_beside = record {
  listed_within = λ key rule has keys placed comes.
      let all = with_within listed other others rules key (length_once listed other others rules key) are refl shortest keys placed comes in
      let least = listed_once key rule has (rule_of rules key) refl in
      omega (arith, all, least);
  others_within = λ key none keys placed comes.
      let all = with_within listed other others rules key (length_once listed other others rules key) are refl shortest keys placed comes in
      let least = other_once key none (rule_of rules key) refl in
      omega (arith, all, least);
}
  where
    base : ℕ
    base = least_length listed other others rules

    most : least_length listed other others rules ≤ too_long
    most = base_most listed (least_filler other others rules) rules

    listed_once : (key : Key) (rule : DRule) → HasRule rules key rule → (o : Option DRule) → rule_of rules key ≡ o
        → with_listed cost rule (listed key) ≤ once listed other (least_length listed other others rules) (least_filler other others rules) key o (wildcard_of rules)
    listed_once key rule has None e = absurd (
        let i = in_contains rules rule has.0 in
        let some = is_listed_by rules key rule i has.1 in
        let none = no_rule rules key e in
        let bad : false ≡ true = sym none ∙ some in cc)
    listed_once key rule has (Some r) e =
        let own = is_rule rules key r e in
        let same : rule ≡ r = one_rule rules rule r (rules_sound rules are) (in_contains rules rule has.0) own.0 (has.1 ∙ sym own.1) in
        subst (λ (s : DRule). with_listed cost rule (listed key) ≤ listed_at_least (least_length listed other others rules) (listed key) 1 s) same
        (listed_le cost rule (least_length listed other others rules) (listed key) is_base most)

    other_once : (key : Key) → is_listed rules key ≡ false → (o : Option DRule) → rule_of rules key ≡ o
        → with_other cost (other key) ≤ once listed other (least_length listed other others rules) (least_filler other others rules) key o (wildcard_of rules)
    other_once key none None e = other_le cost (least_length listed other others rules) (least_filler other others rules) (other key) (wildcard_of rules) is_beside most (shortest key none)
    other_once key none (Some r) e = absurd (
        let own = is_rule rules key r e in
        let some = is_listed_by rules key r own.0 own.1 in
        let bad : false ≡ true = sym none ∙ some in cc)

pub cost_with : (listed other : Key → ℕ) (others : List Key) (rules : List DRule) (base filler beside : ℕ) (o : Option DRule) → AreRules rules → base ≡ least_length listed other others rules
    → o ≡ wildcard_of rules
    → filler ≡ least_filler other others rules → beside ≡ option_map_or (beside_of base filler) o too_long → OtherIsShortest other others rules
    → IsCostOf listed other rules (record { base = base; beside = beside })
cost_with listed other others rules base filler beside o are is_base is_wild is_filler is_beside shortest =
    cost_of listed other others rules (record { base = base; beside = beside }) are shortest is_base
    (is_beside ∙ ap (λ (n : ℕ). option_map_or (beside_of n filler) o too_long) is_base ∙ ap (λ (n : ℕ). option_map_or (beside_of (least_length listed other others rules) n) o too_long) is_filler
    ∙ ap (λ (w : Option DRule). option_map_or (beside_of (least_length listed other others rules) (least_filler other others rules)) w too_long) is_wild)

-- ---- the first of the others

find_same : {X : Type 0} (p q : X → Bool) → ((x : X) → p x ≡ q x) → (xs : List X) → find p xs ≡ find q xs
find_same p q same [] = refl
find_same {X} p q same (x ∷ xs) = ap (λ (b : Bool). if b then Some x else find p xs) (same x) ∙ ap (λ (o : Option X). if q x then Some x else o) (find_same p q same xs)

and_none : (b : Bool) → (b && true) ≡ b
and_none true = refl
and_none false = refl

-- what holds of pairs of definitions holds of one, by one of the second dictionary that isn't there
pub one_is_shortest : (other : Key → ℕ) (keys : List Key) (a : List DRule) (db : Dictionary) → ((y : ℕ) → FirstIsShortest other keys a (rules_in db y)) → OtherIsShortest other keys a
one_is_shortest other keys a db all = λ key none.
    let le = subst (λ (b : List DRule). FirstIsShortest other keys a b) (no_rules (slice_get (definitions db) (length (definitions db))) refl) (all (length (definitions db))) key none refl in
    let same = ap (λ (o : Option Key). option_map_or other o too_long) (find_same (is_outside a []) (λ q. not (is_listed a q)) (λ q. and_none (not (is_listed a q))) keys) in
    omega (arith, le, same)
  where
    no_rules : (o : Option PlainDefinition) → slice_get (definitions db) (length (definitions db)) ≡ o → rules_in db (length (definitions db)) ≡ []
    no_rules None e = ap (λ (o : Option PlainDefinition). option_map_or (λ x. x.rules) o []) e
    no_rules (Some x) e = absurd (let within = slice_get_within (definitions db) (length (definitions db)) x e in omega (arith, within))
