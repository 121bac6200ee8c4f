-- The keys of a level are where the rules say exactly where the longest runs are.
use Rattle.std.proofs.Common.{◌≡◌, ◌≢◌, ℕ, suc, ◌+◌, Bool, true, false, ◌&&◌, cond, eqb, List, [], ◌∷◌, ◌++◌, length, take, drop, sum, Option, Some, None, refl, sym, ap, subst, ◌∙◌, arith}
use Rattle.std.specs.Option.{option_map_or}
use Rattle.std.specs.List.{prefix_len, AllByRecursion}
use Rattle.std.specs.Cmp.Derive.{both_true}
use Rattle.std.proofs.lemmas.Bool.{eqb-true, eq-eqb}
use Rattle.std.proofs.lemmas.List.Sums.{sum_by-cons}
use Rattle.std.proofs.lemmas.List.Folds.{length-prefix_len}
use Rattle.std.proofs.lemmas.List.{take-append-drop, drop-drop, drop_at}
use Rattle.dia_wire.specs.declared.Key.{Key}
use Rattle.dia_book.specs.declared.DRule.{DRule}
use Rattle.dia_book.specs.Keys.{same_key}
use Rattle.dia_book.specs.Dictionary.{lists_key}
use Rattle.dia_valid.specs.Valid.{InBounds, Runs}
use Rattle.dia_valid.specs.LongestRuns.{runs}

abbrev is_of : DRule → Key → Bool
is_of rule key = lists_key key rule

pub sum-cons : (n : ℕ) (ns : List ℕ) → sum (n ∷ ns) ≡ n + sum ns
sum-cons n ns = sum_by-cons (λ (k : ℕ). k) n ns

-- each rule's bounds hold of its number
abbrev pub AllInBounds : List DRule → List ℕ → Type 0
AllInBounds [] ns = Unit {0}
AllInBounds (r ∷ rs) [] = ⊥
AllInBounds (r ∷ rs) (n ∷ ns) = InBounds r n × AllInBounds rs ns

-- ---- the longest front that passes

take_passes : {X : Type 0} (p : X → Bool) (P : X → Type 0) → (x : X) (xs : List X) (b : Bool) → p x ≡ b → (b ≡ true → P x) → AllByRecursion P (take (prefix_len p xs) xs)
    → AllByRecursion P (take (cond b (1 + prefix_len p xs) 0) (x ∷ xs))
take_passes p P x xs true e h rest = let k : 1 + prefix_len p xs ≡ suc (prefix_len p xs) = omega arith in rw k (h refl, rest)
take_passes p P x xs false e h rest = tt

prefix_passes : {X : Type 0} (p : X → Bool) (P : X → Type 0) → ((x : X) → p x ≡ true → P x) → (xs : List X) → AllByRecursion P (take (prefix_len p xs) xs)
prefix_passes p P h [] = tt
prefix_passes p P h (x ∷ xs) = take_passes p P x xs (p x) refl (h x) (prefix_passes p P h xs)

-- a front that passes, and then one that does not
prefix_len-run : {X : Type 0} (p : X → Bool) (run after : List X) → AllByRecursion (λ x. p x ≡ true) run → prefix_len p after ≡ 0 → prefix_len p (run ++ after) ≡ length run
prefix_len-run p [] after h e = e
prefix_len-run p (x ∷ run) after h e = rw (h.0, prefix_len-run p run after h.1 e) (omega arith)

-- ---- keys

and_true : (a b : Bool) → (a && b) ≡ true → (a ≡ true) × (b ≡ true)
and_true true b h = (refl, h)
and_true false b h = absurd cc

same_keys : (a b : Key) → same_key a b ≡ true → b ≡ a
same_keys a b h =
    let both = and_true (eqb a.code b.code) (eqb a.vendor b.vendor) h in
    ap (λ (c : ℕ). record { code = c; vendor = b.vendor }) (sym (eqb-true a.code b.code both.0)) ∙ ap (λ (w : ℕ). record { code = a.code; vendor = w }) (sym (eqb-true a.vendor b.vendor both.1))

key_of_test : (key : Key) (o : Option Key) → option_map_or (same_key key) o false ≡ true → o ≡ Some key
key_of_test key None h = absurd cc
key_of_test key (Some k) h = ap (λ (x : Key). Some x) (same_keys key k h)

test_of_key : (key : Key) → option_map_or (same_key key) (Some key) false ≡ true
test_of_key key = both_true (eq-eqb key.code key.code refl) (eq-eqb key.vendor key.vendor refl)

pub is_of-key : (rule : DRule) (key : Key) → is_of rule key ≡ true → rule.key ≡ Some key
is_of-key rule key h = key_of_test key rule.key h

key-is_of : (rule : DRule) (key : Key) → rule.key ≡ Some key → is_of rule key ≡ true
key-is_of rule key h = ap (λ (o : Option Key). option_map_or (same_key key) o false) h ∙ test_of_key key

-- ---- the longest runs are runs

pub longest_are_runs : (rules : List DRule) (keys : List Key) → AllInBounds rules (runs rules keys) → Runs rules keys (drop (sum (runs rules keys)) keys)
longest_are_runs [] keys h = refl
longest_are_runs (r ∷ rules) keys h =
    let n = prefix_len (is_of r) keys in
    let rest = longest_are_runs rules (drop n keys) h.1 in (
      take n keys,
      drop n keys,
      sym (take-append-drop n keys),
      prefix_passes (is_of r) (λ key. r.key ≡ Some key) (is_of-key r) keys,
      subst (InBounds r) (sym (length-prefix_len (is_of r) keys)) h.0,
      subst (Runs rules (drop n keys)) (drop-drop (sum (runs rules (drop n keys))) n keys ∙ ap (λ (k : ℕ). drop k keys) (sym (sum-cons n (runs rules (drop n keys))))) rest,
    )

-- ---- and there are no others

-- no rule has the key of this one
abbrev pub IsNewKey : DRule → List DRule → Type 0
IsNewKey r rules = AllByRecursion (λ s. (key : Key) → r.key ≡ Some key → s.key ≢ Some key) rules

-- each rule's key is none of those that follow
abbrev pub AreDistinct : List DRule → Type 0
AreDistinct [] = Unit {0}
AreDistinct (r ∷ rules) = IsNewKey r rules × AreDistinct rules

-- no key is one of these rules'
abbrev pub AreOthers : List DRule → List Key → Type 0
AreOthers rules keys = AllByRecursion (λ r. prefix_len (is_of r) keys ≡ 0) rules

false_of : (r : DRule) (key : Key) (b : Bool) → is_of r key ≡ b → r.key ≢ Some key → b ≡ false
false_of r key true e h = absurd (h (is_of-key r key e))
false_of r key false e h = refl

-- where a run of another rule's key comes first, the rule's run is empty
starts_other : (r s : DRule) (run after : List Key) → ((key : Key) → r.key ≡ Some key → s.key ≢ Some key) → AllByRecursion (λ key. s.key ≡ Some key) run
    → prefix_len (is_of r) after ≡ 0 → prefix_len (is_of r) (run ++ after) ≡ 0
starts_other r s [] after new all e = e
starts_other r s (key ∷ run) after new all e = rw (false_of r key (is_of r key) refl (λ h. new key h all.0)) refl

-- no later run nor what follows begins with the key of an earlier rule
none_starts : (r : DRule) (rules : List DRule) (keys rest : List Key) → Runs rules keys rest → IsNewKey r rules → prefix_len (is_of r) rest ≡ 0 → prefix_len (is_of r) keys ≡ 0
none_starts r [] keys rest h new e = rw h e
none_starts r (s ∷ rules) keys rest (run, after, parts, all, bounds, more) new e =
    rw parts (starts_other r s run after new.0 all (none_starts r rules after rest more new.1 e))

passes_of : (r : DRule) (run : List Key) → AllByRecursion (λ key. r.key ≡ Some key) run → AllByRecursion (λ key. is_of r key ≡ true) run
passes_of r [] h = tt
passes_of r (key ∷ run) h = (key-is_of r key h.0, passes_of r run h.1)

pub runs_are_longest : (rules : List DRule) (keys rest : List Key) → Runs rules keys rest → AreDistinct rules → AreOthers rules rest
    → AllInBounds rules (runs rules keys) × (drop (sum (runs rules keys)) keys ≡ rest)
runs_are_longest [] keys rest h distinct others = (tt, h)
runs_are_longest (r ∷ rules) keys rest (run, after, parts, all, bounds, more) distinct others =
    let stops = none_starts r rules after rest more distinct.0 others.0 in
    let n : prefix_len (is_of r) keys ≡ length run = rw parts (prefix_len-run (is_of r) run after (passes_of r run all) stops) in
    let following : drop (prefix_len (is_of r) keys) keys ≡ after = ap (λ (k : ℕ). drop k keys) n ∙ ap (λ (f : List Key). drop (length run) f) parts ∙ drop_at run after (length run) refl in
    let ih = runs_are_longest rules after rest more distinct.1 others.1 in (
      (subst (InBounds r) (sym n) bounds, subst (λ (f : List Key). AllInBounds rules (runs rules f)) (sym following) ih.0),
      ap (λ (k : ℕ). drop k keys) (sum-cons (prefix_len (is_of r) keys) (runs rules (drop (prefix_len (is_of r) keys) keys)))
          ∙ sym (drop-drop (sum (runs rules (drop (prefix_len (is_of r) keys) keys))) (prefix_len (is_of r) keys) keys)
          ∙ ap (λ (f : List Key). drop (sum (runs rules f)) f) following ∙ ih.1,
    )
