-- Which rule a key has: in a list of rules, in the runs of fixed rules, and at its slot.
use Rattle.std.proofs.Common.{◌≡◌, ◌≢◌, ℕ, suc, ◌+◌, ◌<◌, ◌≤◌, Bool, true, false, List, [], ◌∷◌, ◌++◌, length, Option, Some, None, refl, sym, ap, subst, ◌∙◌, arith, inl, inr, append_assoc}
use Rattle.std.proofs.Common.{cond}
use Rattle.std.specs.Prelude.{IfSome, slice_get, count_by, position, option_and_then}
use Rattle.std.specs.Option.{option_map_or}
use Rattle.std.specs.List.{AllByRecursion}
use Rattle.std.proofs.lemmas.Bool.{false_from_ne_true}
use Rattle.std.proofs.lemmas.Option.{same_Some}
use Rattle.dia_wire.specs.declared.Key.{Key}
use Rattle.dia_book.specs.declared.DRule.{DRule}
use Rattle.dia_book.specs.Keys.{same_key}
use Rattle.dia_book.proofs.SameKeys.{same_key-refl, same_key-true}
use Rattle.dia_book.specs.Dictionary.{Dictionary, is_fixed, lists_key, PlainDefinition, definitions, slot_at, slot_of}
use Rattle.dia_valid.specs.Valid.{InBounds, Runs, is_listed}
use Rattle.dia_valid.proofs.LongestRuns.{AreDistinct}
use Rattle.dia_book.specs.declared.Slot.{Slot}
use Rattle.dia_book.specs.declared.Slot.TheVariants.{Fixed, Loose, Unlisted}
use Rattle.dia_book.proofs.LookUpsByName.{find-place}
use Rattle.dia_valid.specs.Rules.{rule_of, rules_in}
use Rattle.dia_valid.proofs.Members.{IsIn, all_append, all_map, any_in, count_all, count_append, count_none, in_all, in_any}

pub key_of_test : (key : Key) (o : Option Key) → option_map_or (same_key key) o false ≡ true → o ≡ Some key
key_of_test key None h = absurd (let e : false ≡ true = h in cc)
key_of_test key (Some k) h = ap (λ (x : Key). Some x) (sym (same_key-true key k h))

pub lists : (r : DRule) (key : Key) → r.key ≡ Some key → lists_key key r ≡ true
lists r key h = ap (λ (o : Option Key). option_map_or (same_key key) o false) h ∙ same_key-refl key

pub listed : (rules : List DRule) (key : Key) → is_listed rules key ≡ true → (r : DRule) × IsIn r rules × (r.key ≡ Some key)
listed rules key h = let s = any_in (lists_key key) rules h in (s.0, s.1, key_of_test key s.0.key s.2)

pub is_listed_by : (rules : List DRule) (key : Key) (r : DRule) → IsIn r rules → r.key ≡ Some key → is_listed rules key ≡ true
is_listed_by rules key r i e = in_any (lists_key key) rules r i (lists r key e)

abbrev pub times : Key → List Key → ℕ
times k keys = count_by (λ q. same_key q k) keys

pub not_same : (q k : Key) → q ≢ k → same_key q k ≡ false
not_same q k h = false_from_ne_true (same_key q k) (λ e. h (same_key-true q k e))

pub other_run : (r : DRule) (run : List Key) (k : Key) → r.key ≢ Some k → AllByRecursion (λ key. r.key ≡ Some key) run → times k run ≡ 0
other_run r run k other all = count_none (λ (q : Key). same_key q k) run (λ q i.
    not_same q k (λ e. other (in_all (λ (key : Key). r.key ≡ Some key) q run all i ∙ ap (λ (x : Key). Some x) e)))

pub own_run : (r : DRule) (run : List Key) (k : Key) → r.key ≡ Some k → AllByRecursion (λ key. r.key ≡ Some key) run → times k run ≡ length run
own_run r run k own all = count_all (λ (q : Key). same_key q k) run (all_map (λ (q : Key). r.key ≡ Some q) (λ (q : Key). same_key q k ≡ true)
    (λ q e. ap (λ (x : Key). same_key x k) (same_Some q k (sym e ∙ own)) ∙ same_key-refl k) run all)

pub runs_none : (rules : List DRule) (keys rest : List Key) (k : Key) → Runs rules keys rest → AllByRecursion (λ r. r.key ≢ Some k) rules → times k keys ≡ times k rest
runs_none [] keys rest k h none = ap (times k) h
runs_none (r ∷ rules) keys rest k (run, after, parts, all, bounds, more) none =
    let here = ap (times k) parts in
    let both = count_append (λ (q : Key). same_key q k) run after in
    let zeros = other_run r run k none.0 all in
    let ih = runs_none rules after rest k more none.1 in
    omega (arith, here, both, zeros, ih)

pub runs_some : (rules : List DRule) (keys rest : List Key) (k : Key) (r : DRule) → Runs rules keys rest → AreDistinct rules → IsIn r rules → r.key ≡ Some k
    → (n : ℕ) × (times k keys ≡ n + times k rest) × InBounds r n
runs_some [] keys rest k r h distinct i e = absurd i
runs_some (s ∷ rules) keys rest k r (run, after, parts, all, bounds, more) distinct (inl same) e =
    let here = ap (times k) parts in
    let both = count_append (λ (q : Key). same_key q k) run after in
    let own : s.key ≡ Some k = ap (λ (x : DRule). x.key) (sym same) ∙ e in
    let ones = own_run s run k own all in
    let following = runs_none rules after rest k more (all_map (λ (t : DRule). (key : Key) → s.key ≡ Some key → t.key ≢ Some key) (λ (t : DRule). t.key ≢ Some k) (λ t new. new k own) rules distinct.0) in
    (length run, omega (arith, here, both, ones, following), subst (λ (t : DRule). InBounds t (length run)) (sym same) bounds)
runs_some (s ∷ rules) keys rest k r (run, after, parts, all, bounds, more) distinct (inr i) e =
    let here = ap (times k) parts in
    let both = count_append (λ (q : Key). same_key q k) run after in
    let zeros = other_run s run k (λ own. in_all (λ (t : DRule). (key : Key) → s.key ≡ Some key → t.key ≢ Some key) r rules distinct.0 i k own e) all in
    let ih = runs_some rules after rest k r more distinct.1 i e in
    (ih.0, omega (arith, here, both, zeros, ih.1), ih.2)

-- the key is of a run of one of these rules, and of none of those
pub record IsRunKey (rules others : List DRule) (key : Key) : Type 0 where
  pub rule : DRule
  pub is_rule : IsIn rule rules
  pub is_key : rule.key ≡ Some key
  pub allowed : IfSome rule.max (λ m. 0 < m)
  pub no_other : AllByRecursion (λ s. s.key ≢ Some key) others

pub above_zero : (m : Option ℕ) (n : ℕ) → IfSome m (λ k. suc n ≤ k) → IfSome m (λ k. 0 < k)
above_zero None n h = tt
above_zero (Some k) n h = omega (arith, h)

pub run_keys : (r : DRule) (rules : List DRule) (run : List Key) → AllByRecursion (λ key. r.key ≡ Some key) run → IfSome r.max (λ m. 0 < m) → AllByRecursion (IsRunKey (r ∷ rules) []) run
run_keys r rules [] all ok = tt
run_keys r rules (key ∷ run) all ok = (record { rule = r; is_rule = inl refl; is_key = all.0; allowed = ok; no_other = tt }, run_keys r rules run all.1 ok)

pub run_of : (r : DRule) (rules : List DRule) (run : List Key) → AllByRecursion (λ key. r.key ≡ Some key) run → InBounds r (length run) → AllByRecursion (IsRunKey (r ∷ rules) []) run
run_of r rules [] all bounds = tt
run_of r rules (key ∷ run) all bounds = run_keys r rules (key ∷ run) all (above_zero r.max (length run) bounds.1)

pub later : (r : DRule) (rules others : List DRule) (key : Key) → IsRunKey rules others key → IsRunKey (r ∷ rules) others key
later r rules others key k = record { rule = k.rule; is_rule = inr k.is_rule; is_key = k.is_key; allowed = k.allowed; no_other = k.no_other }

-- what is before the rest is runs
pub all_middle : (fa : List DRule) (keys rest : List Key) → Runs fa keys rest → (middle : List Key) × (keys ≡ middle ++ rest) × AllByRecursion (IsRunKey fa []) middle
all_middle [] keys rest h = ([], h, tt)
all_middle (r ∷ fa) keys rest (run, after, parts, all, bounds, more) =
    let ih = all_middle fa after rest more in (
      run ++ ih.0,
      parts ∙ ap (λ (f : List Key). run ++ f) ih.1 ∙ sym (append_assoc run ih.0 rest),
      all_append (IsRunKey (r ∷ fa) []) run ih.0 (run_of r fa run all bounds) (all_map (IsRunKey fa []) (IsRunKey (r ∷ fa) []) (later r fa []) ih.0 ih.2),
    )

abbrev pub place_in : Slot → Option ℕ
place_in (Fixed i) = Some i
place_in (Loose i) = Some i
place_in Unlisted = None

pub slot_place : (rules : List DRule) (o : Option ℕ) → option_and_then (slice_get rules) (place_in (option_map_or (slot_at rules) o Unlisted)) ≡ option_and_then (slice_get rules) o
slot_place rules None = refl
slot_place rules (Some i) = by (slice_get rules i) refl
  where
    kind : (r : DRule) (b : Bool) → slice_get rules i ≡ Some r → option_and_then (slice_get rules) (place_in (cond b (Fixed i) (Loose i))) ≡ slice_get rules i
    kind r true e = refl
    kind r false e = refl

    by : (o : Option DRule) → slice_get rules i ≡ o → option_and_then (slice_get rules) (place_in (option_map_or (λ rule. cond (is_fixed rule) (Fixed i) (Loose i)) o Unlisted)) ≡ slice_get rules i
    by None e = sym e
    by (Some r) e = kind r (is_fixed r) e

pub no_rule : (p : Option ℕ) → option_and_then (slice_get (let none : List DRule = [] in none)) p ≡ None
no_rule None = refl
no_rule (Some i) = refl

-- the rule at the slot of a key is the key's
pub rule_at : (d : Dictionary) (def : ℕ) (key : Key) (s : Slot) → IfSome (slice_get (definitions d) def) (λ x. s ≡ slot_of x.rules key)
    → option_and_then (slice_get (rules_in d def)) (place_in s) ≡ rule_of (rules_in d def) key
rule_at d def key s is = by (slice_get (definitions d) def) is
  where
    by : (o : Option PlainDefinition) → IfSome o (λ x. s ≡ slot_of x.rules key) → option_and_then (slice_get (option_map_or (λ x. x.rules) o [])) (place_in s) ≡ rule_of
        (option_map_or (λ x. x.rules) o []) key
    by None h = no_rule (place_in s)
    by (Some x) h = ap (λ (t : Slot). option_and_then (slice_get x.rules) (place_in t)) h ∙ slot_place x.rules (position (lists_key key) x.rules) ∙ sym (find-place (lists_key key) x.rules)
