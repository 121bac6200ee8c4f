-- A pass makes lengths less, and preserves what holds of them.
use Rattle.std.proofs.Common.{◌≡◌, ℕ, zero, suc, ◌+◌, ◌<◌, ◌≤◌, Bool, true, false, List, [], ◌∷◌, ◌++◌, length, Some, None, get_or, refl, sym, ap, subst, ◌∙◌, arith, inl, inr}
use Rattle.std.specs.Prelude.{◌⊎◌, slice_get, slice_set, nat_lt, sum_by, IfSome, OnOk, Result, Ok, Err, if◌then◌else◌}
use Rattle.std.proofs.lemmas.Bool.{cases_eq, cases_lt, ltb-true, ltb-false}
use Rattle.std.proofs.lemmas.List.{length-set, get_or-set_same, get_or-set_other}
use Rattle.std.proofs.lemmas.List.Elements.{All-push}
use Rattle.std.proofs.lemmas.List.Sums.{sum_by-set}
use Rattle.dia_wire.specs.declared.Key.{Key}
use Rattle.dia_book.specs.declared.DRule.{DRule}
use Rattle.dia_book.specs.Dictionary.{Dictionary, DictEntry, group_place}
use Rattle.dia_valid.specs.Rules.{rules_in}
use Rattle.dia_terms.specs.declared.Sends.{Sends}
use Rattle.dia_breaking_levels.specs.LevelTests.{too_long, base_length}
use Rattle.dia_breaking_shortest.specs.declared.lookup.Least.{Least}
use Rattle.dia_breaking_shortest.specs.declared.order.Ranked.{Ranked}
use Rattle.dia_breaking_shortest.specs.Floors.{shortest_head}
use Rattle.dia_breaking_shortest.specs.Least.{IsFirstUnknown}
use Rattle.dia_breaking_shortest.specs.Lengths.{entry_length, length_of, IsLeafLength, IsOrder, filler_of, filler_length, group_length}
use Rattle.dia_breaking_shortest.specs.Passes.{IsWhole, IsLess, IsSettledBy, IsSettled, AreAbove, AreKept, AreNoShorter, AreSettled, length_in, total_length}
use Rattle.dia_breaking_shortest.proofs.AboveLengths.{TakesNoMore, above_on, value_of}
use Rattle.dia_breaking_shortest.proofs.FloorsOfAvps.{rounded_up}
use Rattle.dia_breaking_shortest.proofs.LeafLengths.{head_long}

pub entry_is : (xs : List ℕ) (e : ℕ) → entry_length xs e ≡ get_or xs e too_long
entry_is [] e = refl
entry_is (x ∷ xs) zero = refl
entry_is (x ∷ xs) (suc e) = entry_is xs e

set_same : (xs : List ℕ) (i n : ℕ) → i < length xs → entry_length (slice_set xs i n) i ≡ n
set_same xs i n within = entry_is (slice_set xs i n) i ∙ get_or-set_same xs i n too_long within

set_other : (xs : List ℕ) (i n e : ℕ) → (e ≡ i → ⊥) → entry_length (slice_set xs i n) e ≡ entry_length xs e
set_other xs i n e other = entry_is (slice_set xs i n) e ∙ get_or-set_other xs i e n too_long other ∙ sym (entry_is xs e)

set_no_more : (xs : List ℕ) (i n e : ℕ) → i < length xs → n ≤ entry_length xs i → entry_length (slice_set xs i n) e ≤ entry_length xs e
set_no_more xs i n e within le = by (cases_eq e i)
  where
    by : (e ≡ i) ⊎ (e ≡ i → ⊥) → entry_length (slice_set xs i n) e ≤ entry_length xs e
    by (inl same) = subst (λ (k : ℕ). entry_length (slice_set xs i n) k ≤ entry_length xs k) (sym same) (let own = set_same xs i n within in omega (arith, own, le))
    by (inr other) = let same = set_other xs i n e other in omega (arith, same)

set_heads : (xs : List ℕ) (i n : ℕ) → i < length xs → 8 ≤ n → ((e : ℕ) → 8 ≤ entry_length xs e) → (e : ℕ) → 8 ≤ entry_length (slice_set xs i n) e
set_heads xs i n within head all e = by (cases_eq e i)
  where
    by : (e ≡ i) ⊎ (e ≡ i → ⊥) → 8 ≤ entry_length (slice_set xs i n) e
    by (inl same) = subst (λ (k : ℕ). 8 ≤ entry_length (slice_set xs i n) k) (sym same) (let own = set_same xs i n within in omega (arith, own, head))
    by (inr other) = let same = set_other xs i n e other in let more = all e in omega (arith, same, more)

set_total : (xs : List ℕ) (i n : ℕ) → i < length xs → n < entry_length xs i → sum_by (λ k. k) (slice_set xs i n) < sum_by (λ k. k) xs
set_total xs i n within less =
    let sum = sum_by-set (λ k. k) xs i n too_long within in
    let own = entry_is xs i in
    omega (arith, sum, own, less)

-- nothing is changed
pub not_less : (d : Dictionary) (old new : Least) → IsWhole d old → new.sends ≡ old.sends → new.unknown ≡ old.unknown → new.lengths.items ≡ old.lengths.items
    → IsLess d old new false
not_less d old new whole sends unknown same = record {
  sends = sends;
  unknown = unknown;
  whole = ap length same ∙ whole;
  no_more = λ e. let own = ap (λ (xs : List ℕ). entry_length xs e) same in omega (arith, own);
  heads = λ all e. subst (λ (xs : List ℕ). 8 ≤ entry_length xs e) (sym same) (all e);
  total = let own = ap (λ (xs : List ℕ). sum_by (λ k. k) xs) same in omega (arith, own);
  less = λ e. absurd (let bad : false ≡ true = e in cc);
  same = λ e. same;
  leaves = λ e entry at none. ap (λ (xs : List ℕ). entry_length xs e) same;
  above = λ before. subst (λ (s : Sends). AreAbove d s new.lengths.items) (sym sends) (subst (AreAbove d old.sends) (sym same) before);
}

-- one length is less
pub one_less : (d : Dictionary) (old new : Least) (i n : ℕ) → IsWhole d old → new.sends ≡ old.sends → new.unknown ≡ old.unknown → new.lengths.items ≡ slice_set old.lengths.items i n
    → i < length old.lengths.items → 8 ≤ n → n < entry_length old.lengths.items i
    → ((entry : DictEntry) → slice_get d.entries i ≡ Some entry → entry.group ≡ None → ⊥) → TakesNoMore d old.sends old.lengths.items i n → IsLess d old new true
one_less d old new i n whole sends unknown is within head less no_leaf takes =
    let xs = old.lengths.items in
    let sum = set_total xs i n within less in
    let own = ap (λ (ys : List ℕ). sum_by (λ k. k) ys) is in
    let each : (e : ℕ) → entry_length new.lengths.items e ≤ entry_length xs e =
    λ e. subst (λ (ys : List ℕ). entry_length ys e ≤ entry_length xs e) (sym is) (set_no_more xs i n e within (omega (arith, less))) in
    let others : (e : ℕ) → (e ≡ i → ⊥) → entry_length new.lengths.items e ≡ entry_length xs e = λ e other. ap (λ (ys : List ℕ). entry_length ys e) is ∙ set_other xs i n e other in
    record {
      sends = sends;
      unknown = unknown;
      whole = ap length is ∙ length-set xs i n ∙ whole;
      no_more = each;
      heads = λ all e. subst (λ (ys : List ℕ). 8 ≤ entry_length ys e) (sym is) (set_heads xs i n within head all e);
      total = omega (arith, sum, own);
      less = λ e. omega (arith, sum, own);
      same = λ e. absurd (let bad : true ≡ false = e in cc);
      leaves = λ e entry at none. others e (λ own_place. no_leaf entry (subst (λ (k : ℕ). slice_get d.entries k ≡ Some entry) own_place at) none);
      above = λ before. subst (λ (s : Sends). AreAbove d s new.lengths.items) (sym sends)
          (above_on d old.sends xs new.lengths.items i n each others (ap (λ (ys : List ℕ). entry_length ys i) is ∙ set_same xs i n within) takes before);
    }

-- one after the other
pub less_and_less : (d : Dictionary) (old mid new : Least) (a b c : Bool) → IsLess d old mid a → IsLess d mid new b → (c ≡ true → (a ≡ true) ⊎ (b ≡ true)) → (c ≡ false → (a ≡ false) × (b ≡ false))
    → IsLess d old new c
less_and_less d old mid new a b c x y some none = record {
  sends = y.sends ∙ x.sends;
  unknown = y.unknown ∙ x.unknown;
  whole = y.whole;
  no_more = λ e. let first = x.no_more e in let second = y.no_more e in omega (arith, first, second);
  heads = λ all. y.heads (x.heads all);
  total = let first = x.total in let second = y.total in omega (arith, first, second);
  less = λ e. by (some e);
  same = λ e. y.same (none e).1 ∙ x.same (none e).0;
  leaves = λ e entry at no_group. y.leaves e entry at no_group ∙ x.leaves e entry at no_group;
  above = λ before. y.above (x.above before);
}
  where
    by : (a ≡ true) ⊎ (b ≡ true) → total_length new < total_length old
    by (inl e) = let first = x.less e in let second = y.total in omega (arith, first, second)
    by (inr e) = let first = x.total in let second = y.less e in omega (arith, first, second)

-- what is retained stays so
pub kept_on : (d : Dictionary) (old new : Least) (changed : Bool) → AreKept d old → IsLess d old new changed → AreKept d new
kept_on d old new changed kept less = record {
  whole = less.whole;
  unknown = subst (IsFirstUnknown d) (sym less.unknown) kept.unknown;
  within = λ e. (less.heads (λ i. (kept.within i).0) e, let first = (kept.within e).1 in let second = less.no_more e in omega (arith, first, second));
  leaves = λ e entry at none. subst (IsLeafLength entry) (sym (less.leaves e entry at none)) (kept.leaves e entry at none);
  above = less.above kept.above;
}

-- and so with one more of its own length
pub pushed_ranks : (f : Key → ℕ) (xs new : List Ranked) (r : Ranked) → new ≡ xs ++ r ∷ [] → AreNoShorter f xs → r.length ≡ f r.key → AreNoShorter f new
pushed_ranks f xs new r is ranks same = subst (AreNoShorter f) (sym is) (All-push (λ (x : Ranked). f x.key ≤ x.length) xs r ranks (omega (arith, same)))

-- where none is changed, what is settled stays so
pub settled_on : (d : Dictionary) (old new : Least) (order : List Ranked) (e : ℕ) → IsLess d old new false → IsSettled d old order e → IsSettled d new order e
settled_on d old new order e less s =
    let first = subst (λ (x : Sends). IsSettledBy d x old.unknown old.lengths.items order e) (sym less.sends) s in
    let second = subst (λ (x : Key). IsSettledBy d new.sends x old.lengths.items order e) (sym less.unknown) first in
    subst (λ (x : List ℕ). IsSettledBy d new.sends new.unknown x order e) (sym (less.same refl)) second

order_on : (d : Dictionary) (old new : Least) (order : List Ranked) → IsLess d old new false → IsOrder (length_in d old) d.entries order → IsOrder (length_in d new) d.entries order
order_on d old new order less o =
    let first = subst (λ (x : Sends). IsOrder (length_of d x old.lengths.items) d.entries order) (sym less.sends) o in
    subst (λ (x : List ℕ). IsOrder (length_of d new.sends x) d.entries order) (sym (less.same refl)) first

pub all_settled : (d : Dictionary) (old new : Least) (order : List Ranked) (changed : Bool) → changed ≡ false → IsLess d old new changed → IsOrder (length_in d old) d.entries order
    → ((e : ℕ) → e < length d.entries → IsSettled d new order e) → AreSettled d new
all_settled d old new order changed none less o settled =
    (order, order_on d old new order (subst (IsLess d old new) none less) o, settled)

-- the length of a group is no less than a head
pub group_heads : (length : Key → ℕ) (filler : ℕ) (key : Key) (rules : List DRule) → 8 ≤ group_length length filler key rules
group_heads length filler key rules =
    let long = head_long key in
    let up = rounded_up (shortest_head key + base_length length filler rules) in
    omega (arith, long, up)

-- a group's length is made less, or is no more than its least level makes it
pub lowered : (d : Dictionary) (old new : Least) (i n : ℕ) (changed : Bool) → IsWhole d old → i < length d.entries → new.sends ≡ old.sends → new.unknown ≡ old.unknown
    → new.lengths.items ≡ (if changed then slice_set old.lengths.items i n else old.lengths.items) → 8 ≤ n
    → changed ≡ nat_lt n (entry_length old.lengths.items i)
    → ((entry : DictEntry) → slice_get d.entries i ≡ Some entry → entry.group ≡ None → ⊥) → TakesNoMore d old.sends old.lengths.items i n → IsLess d old new changed
lowered d old new i n true whole within sends unknown lengths head test no_leaf takes =
    one_less d old new i n whole sends unknown lengths (omega (arith, within, whole)) head (ltb-true n (entry_length old.lengths.items i) (sym test)) no_leaf takes
lowered d old new i n false whole within sends unknown lengths head test no_leaf takes = not_less d old new whole sends unknown lengths

-- a pass goes one entry further
pub pass_on : (d : Dictionary) (old mid new : Least) (order : List Ranked) (i : ℕ) (a b c : Bool) → IsLess d old mid a → (a ≡ false → (e : ℕ) → e < i → IsSettled d mid order e) → IsLess d mid new b
    → (b ≡ false → IsSettled d new order i) → (c ≡ true → (a ≡ true) ⊎ (b ≡ true)) → (c ≡ false → (a ≡ false) × (b ≡ false))
    → IsLess d old new c × (c ≡ false → (e : ℕ) → e < i + 1 → IsSettled d new order e)
pass_on d old mid new order i a b c x before y here some none = (
  less_and_less d old mid new a b c x y some none,
  λ e k within. by k (cases_lt k i) (none e) within,
)
  where
    by : (k : ℕ) → (k < i) ⊎ (i ≤ k) → (a ≡ false) × (b ≡ false) → k < i + 1 → IsSettled d new order k
    by k (inl lt) e within = settled_on d mid new order k (subst (IsLess d mid new) e.1 y) (before e.0 k lt)
    by k (inr le) e within = let own : i ≡ k = omega (arith, le, within) in subst (λ (m : ℕ). IsSettled d new order m) own (here e.1)

-- the length that is not less
pub settled_by : (d : Dictionary) (old new : Least) (order : List Ranked) (i def n : ℕ) (key : Key) → IsLess d old new false → group_place d i ≡ Some def
    → IfSome (slice_get d.entries i) (λ e. key ≡ e.key)
    → n ≡ group_length (length_in d old) (filler_length (filler_of old.sends old.unknown order (rules_in d def))) key (rules_in d def) → false ≡ nat_lt n (entry_length old.lengths.items i)
    → IsSettled d new order i
settled_by d old new order i def n key less place key_is is test = settled_on d old new order i less (λ entry group at some.
    let le = ltb-false n (entry_length old.lengths.items i) (sym test) in
    let value = value_of d (length_in d old) (λ rules. filler_length (filler_of old.sends old.unknown order rules)) i def n key entry group at some place key_is is in
    omega (arith, le, value))

-- what holds however a call ends
pub always : (P : Type 0) {X E : Type 0} (r : Result X E) → P → OnOk r P
always P (Ok x) p = p
always P (Err e) p = tt
