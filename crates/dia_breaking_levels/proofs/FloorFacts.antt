-- What is computed of the least level is right, and the definitions of a dictionary are sound.
use Rattle.std.proofs.Common.{◌≡◌, ℕ, ◌+◌, ◌-◌, ◌^◌, ◌<◌, Bool, List, [], Option, Some, None, refl, sym, ap, subst, ◌∙◌, arith}
use Rattle.std.specs.Prelude.{◌==◌, min, find, option_and_then, slice_get, Result, Ok, Err, IfOk, Contains}
use Rattle.std.specs.Option.{option_map_or}
use Rattle.std.proofs.lemmas.Option.{none-some}
use Rattle.std.proofs.lemmas.List.Elements.{Contains-append_left}
use Rattle.dia_wire.specs.declared.Key.{Key}
use Rattle.dia_book.specs.declared.DRule.{DRule}
use Rattle.dia_book.specs.Dictionary.{Dictionary, PlainDefinition, IsDictionary, AreRules, definitions}
use Rattle.dia_valid.specs.Valid.{has_wildcard}
use Rattle.dia_valid.specs.Rules.{rules_in, wildcard_of}
use Rattle.dia_valid.proofs.Members.{in_at, all_of}
use Rattle.dia_breaking_levels.specs.declared.floor.Floor.{Floor}
use Rattle.dia_breaking_levels.specs.declared.line.Line.{Line}
use Rattle.dia_breaking_levels.specs.declared.steps.Step.{Step}
use Rattle.dia_breaking_levels.specs.Exact.{least_inner, first_inner, floor_between, AreOrderLines, HasOrderLines, AreLevelLines}
use Rattle.dia_breaking_levels.specs.Levels.{FirstIsShortest}
use Rattle.dia_breaking_levels.specs.LevelTests.{filler, is_outside, inner_length, cheapest, outer_length, base_length, needed_up, lines_of}
use Rattle.dia_breaking_levels.specs.Strangers.{needed}
use Rattle.dia_breaking_levels.specs.Steps.{greatest, steps, IsLeastTaken, IsTakenInOrder, IsLeastOver, IsLeastMost, IsLongUnbounded}
use Rattle.dia_breaking_levels.specs.LevelTests.{swapped}
use Rattle.dia_breaking_levels.proofs.FloorBounds.{base_within, needed_within, needed_is, inner_within, inner_less}
use Rattle.dia_breaking_levels.proofs.LineBounds.{IsFloor}

abbrev floor_at : ℕ → ℕ → Option Key → ℕ → ℕ → ℕ → Option DRule → Bool → Floor
floor_at base inner first second outer needed wild lets_in = record { base = base; inner = inner; first = first; second = second; outer = outer; needed = needed; wild = wild; lets_in = lets_in }

no_rules : AreRules []
no_rules = record {
  fixed_first = ([], [], refl, refl, refl);
  distinct = λ i j r s at at' e. absurd (none-some r at);
  fixed_keys = λ i d lt. absurd (omega (arith, lt));
  bounds = λ i d lt. absurd (omega (arith, lt));
  least = λ i d lt. absurd (omega (arith, lt));
  few = omega arith;
}

pub rules_in_are : (d : Dictionary) (def : ℕ) → IsDictionary d → AreRules (rules_in d def)
rules_in_are d def is = by (slice_get (definitions d) def) refl
  where
    by : (o : Option PlainDefinition) → slice_get (definitions d) def ≡ o → AreRules (option_map_or (λ x. x.rules) o [])
    by None e = no_rules
    by (Some x) e = all_of (λ (def : PlainDefinition). AreRules def.rules) (definitions d) x is.rules (in_at (definitions d) def x e)

pub is_floor : (f : Floor) (listed other : Key → ℕ) (keys : List Key) (a b : List DRule) → f.base ≡ base_length listed (min f.inner f.outer) a → f.inner ≡ cheapest (inner_length other a None) b
    → f.second ≡ cheapest (inner_length other a f.first) b → f.outer ≡ outer_length other keys a b → f.needed ≡ needed_up b a → FirstIsShortest other keys a b → IsFloor f listed other a b
is_floor f listed other keys a b base inner second outer need shortest = record {
  base = let all = base_within listed (filler f) a in omega (arith, all, base);
  inner = λ q none lists. let all = inner_within other a b None q none lists (λ e. none-some q e) in omega (arith, all, inner);
  second = λ q none lists apart. let all = inner_within other a b f.first q none lists apart in omega (arith, all, second);
  outer = λ q none free. let all = shortest q none free in omega (arith, all, outer);
  ordered = let all = inner_less other a b f.first in omega (arith, all, inner, second);
  needed = let all = needed_within b a in omega (arith, all, need);
}

-- the rest of what is wanted, where the count of what is needed is capped
pub over_is : (listed : Key → ℕ) (f : Floor) (a b : List DRule) (max next wanted low n c : ℕ) (items : List Step) → max < 2 ^ 32 → f.needed ≡ needed_up b a → next ≡ max → wanted ≡ next + 1 - f.needed
    → low ≡ filler f
    → items ≡ steps listed low f.outer b wanted a → IsLeastTaken wanted items c → IsTakenInOrder wanted items c → n ≡ swapped f.base 0 c → IsLeastOver listed f a b max n
over_is listed f a b max next wanted low n c items small need up left low_is all least taken length =
    let exact = needed_is b a in
    let want : wanted ≡ max + 1 - needed b a = omega (arith, small, need, up, exact, left) in
    let both : IsLeastTaken wanted items c × IsTakenInOrder wanted items c = (least, taken) in
    let first : IsLeastTaken wanted (steps listed low f.outer b wanted a) c × IsTakenInOrder wanted (steps listed low f.outer b wanted a) c =
    subst (λ (xs : List Step). IsLeastTaken wanted xs c × IsTakenInOrder wanted xs c) all both in
    let second : IsLeastTaken wanted (steps listed (filler f) f.outer b wanted a) c × IsTakenInOrder wanted (steps listed (filler f) f.outer b wanted a) c =
    subst (λ (k : ℕ). IsLeastTaken wanted (steps listed k f.outer b wanted a) c × IsTakenInOrder wanted (steps listed k f.outer b wanted a) c) low_is first in
    let last = subst (λ (w : ℕ). IsLeastTaken w (steps listed (filler f) f.outer b w a) c × IsTakenInOrder w (steps listed (filler f) f.outer b w a) c) want second in
    (c, length, last.0, last.1)

pub most_at : (listed : Key → ℕ) (f : Floor) (a b : List DRule) (max n : ℕ) → greatest b ≡ Some max → IsLeastOver listed f a b max n → IsLeastMost listed f a b n
most_at listed f a b max n is over = λ m e.
    let same : Some max ≡ Some m = sym is ∙ e in
    let own : max ≡ m = ap (λ (o : Option ℕ). option_map_or (λ x. x) o max) same in
    subst (λ (k : ℕ). IsLeastOver listed f a b k n) own over

-- of a length, or of none
pub most_if : (listed : Key → ℕ) (f : Floor) (a b : List DRule) (max : ℕ) {E : Type 0} (r : Result ℕ E) → greatest b ≡ Some max → IfOk r (IsLeastOver listed f a b max)
    → IfOk r (IsLeastMost listed f a b)
most_if listed f a b max (Ok n) is over = most_at listed f a b max n is over
most_if listed f a b max (Err e) is over = over

-- where the wildcard has a greatest count, there is nothing to show
pub bounded : (b : List DRule) (max : ℕ) {E : Type 0} (r : Result ℕ E) → greatest b ≡ Some max → IfOk r (IsLongUnbounded b)
bounded b max (Ok n) is = λ e. absurd (none-some max (sym e ∙ is))
bounded b max (Err e) is = tt

-- what is computed of the least level is one floor
pub floor_is : (f : Floor) (listed other : Key → ℕ) (keys : List Key) (a b : List DRule) → f.base ≡ base_length listed (min f.inner f.outer) a → f.inner ≡ least_inner other a b
    → f.first ≡ option_and_then (λ r. r.key) (find (λ r. inner_length other a None r == f.inner) b) → f.second ≡ cheapest (inner_length other a f.first) b → f.outer ≡ outer_length other keys a b
    → f.needed ≡ needed_up b a → f.wild ≡ wildcard_of a → f.lets_in ≡ has_wildcard b → f ≡ floor_between listed other keys a b
floor_is f listed other keys a b base inner first second outer need wild lets_in =
    let inner_is = least_inner other a b in
    let outer_is = outer_length other keys a b in
    let base_is : f.base ≡ base_length listed (min inner_is outer_is) a =
    base ∙ ap (λ (n : ℕ). base_length listed (min n f.outer) a) inner ∙ ap (λ (n : ℕ). base_length listed (min inner_is n) a) outer in
    let first_is : f.first ≡ first_inner other a b = first ∙ ap (λ (n : ℕ). option_and_then (λ (r : DRule). r.key) (find (λ (r : DRule). inner_length other a None r == n) b)) inner in
    let second_is : f.second ≡ cheapest (inner_length other a (first_inner other a b)) b = second ∙ ap (λ (k : Option Key). cheapest (inner_length other a k) b) first_is in
    made f.base (base_length listed (min inner_is outer_is) a) f.inner inner_is f.first (first_inner other a b) f.second (cheapest (inner_length other a (first_inner other a b)) b) f.outer outer_is
    f.needed (needed_up b a)
    f.wild (wildcard_of a) f.lets_in (has_wildcard b) base_is inner first_is second_is outer need wild lets_in
  where
    made : (b1 b2 i1 i2 : ℕ) (f1 f2 : Option Key) (s1 s2 o1 o2 n1 n2 : ℕ) (w1 w2 : Option DRule) (l1 l2 : Bool) → b1 ≡ b2 → i1 ≡ i2 → f1 ≡ f2 → s1 ≡ s2 → o1 ≡ o2 → n1 ≡ n2 → w1 ≡ w2 → l1 ≡ l2
        → floor_at b1 i1 f1 s1 o1 n1 w1 l1 ≡ floor_at b2 i2 f2 s2 o2 n2 w2 l2
    made b1 b2 i1 i2 f1 f2 s1 s2 o1 o2 n1 n2 w1 w2 l1 l2 eb ei ef es eo en ew el =
        ap (λ (v : ℕ). floor_at v i1 f1 s1 o1 n1 w1 l1) eb ∙ ap (λ (v : ℕ). floor_at b2 v f1 s1 o1 n1 w1 l1) ei ∙ ap (λ (v : Option Key). floor_at b2 i2 v s1 o1 n1 w1 l1) ef
        ∙ ap (λ (v : ℕ). floor_at b2 i2 f2 v o1 n1 w1 l1) es ∙ ap (λ (v : ℕ). floor_at b2 i2 f2 s2 v n1 w1 l1) eo ∙ ap (λ (v : ℕ). floor_at b2 i2 f2 s2 o2 v w1 l1) en
        ∙ ap (λ (v : Option DRule). floor_at b2 i2 f2 s2 o2 n2 v l1) ew ∙ ap (λ (v : Bool). floor_at b2 i2 f2 s2 o2 n2 w2 v) el

-- the lines of counts, and after them those of the order
pub lines_exact : (f : Floor) (most : ℕ) (listed other : Key → ℕ) (keys : List Key) (a b : List DRule) (outer : Option Key) (lines all : List Line) → f ≡ floor_between listed other keys a b
    → IsLeastMost listed f a b most
    → IsLongUnbounded b most → outer ≡ find (is_outside a b) keys → lines ≡ lines_of f most listed other a b → HasOrderLines f listed other a b outer lines all
    → AreLevelLines listed other keys a b all
lines_exact f most listed other keys a b outer lines all is least none outer_is same has = (
  lines,
  has.0,
  has.1,
  (most, subst (λ (g : Floor). IsLeastMost listed g a b most) is least, none, same ∙ ap (λ (g : Floor). lines_of g most listed other a b) is),
  subst (λ (g : Floor). AreOrderLines g listed other a b (find (is_outside a b) keys) b has.0) is (subst (λ (o : Option Key). AreOrderLines f listed other a b o b has.0) outer_is has.2),
)

-- those of counts are among them
pub counts_kept : (f : Floor) (listed other : Key → ℕ) (a b : List DRule) (outer : Option Key) (lines all : List Line) → HasOrderLines f listed other a b outer lines all → (line : Line)
    → Contains lines line → Contains all line
counts_kept f listed other a b outer lines all has line there = subst (λ (ls : List Line). Contains ls line) (sym has.1) (Contains-append_left lines has.0 line there)
