-- Definitions whose rules have the same normal form have the same levels.
use Rattle.std.proofs.Common.{◌≡◌, ℕ, zero, suc, ◌-◌, ◌≤◌, Bool, true, false, cond, List, [], ◌∷◌, ◌++◌, length, take, drop, Option, Some, None, refl, sym, ap, subst, ◌∙◌, arith, inl, inr}
use Rattle.std.specs.Prelude.{◌⊎◌, ◌↔◌, not, ◌||◌, count_by, IfSome, IsSome}
use Rattle.std.specs.Option.{option_map, option_map_or}
use Rattle.std.specs.List.{AllByRecursion}
use Rattle.std.proofs.lemmas.Bool.{false_from_ne_true}
use Rattle.std.proofs.lemmas.List.{append-nil, take-append-drop}
use Rattle.std.proofs.lemmas.Option.{none-some, same_Some}
use Rattle.dia_wire.specs.declared.Key.{Key}
use Rattle.dia_book.specs.declared.DRule.{DRule}
use Rattle.dia_book.specs.Dictionary.{AreRules, lists_key}
use Rattle.dia_book.specs.Keys.{same_key}
use Rattle.dia_valid.specs.Valid.{InBounds, Placed, Runs, is_listed}
use Rattle.dia_valid.proofs.Members.{IsIn, all_in, at_some, contains_in, count_all, count_cons, in_all, in_contains, when_some}
use Rattle.dia_valid.proofs.RulesOfKeys.{is_listed_by, listed, lists}
use Rattle.dia_lint.specs.LevelParts.{AreAlike, AreAmong, AskSame, MayFollow, Meets, Parts, bounds, is_other, parts_of, settled, settled_by}
use Rattle.dia_lint.proofs.LevelsOfParts.{placed_by_parts}
use Rattle.dia_lint.proofs.SoundRules.{differ, nil_of, sound}

-- ---- parts that ask the same

pub same_back : (p q : Parts) → AskSame p q → AskSame q p
same_back p q same = record { firsts = sym same.firsts; anys = same.back; back = same.anys; others = sym same.others }

listed_too : (xs ys : List DRule) (key : Key) → AreAmong xs ys → is_listed xs key ≡ true → is_listed ys key ≡ true
listed_too xs ys key among h =
    let (r, ir, e) = listed xs key h in
    let (t, it, same, within) = among r (contains_in xs r ir) in
    is_listed_by ys key t (in_contains ys t it) (sym same ∙ e)

pub same_test : (a b : Bool) → (a ≡ true → b ≡ true) → (b ≡ true → a ≡ true) → a ≡ b
same_test true b to from = sym (to refl)
same_test false b to from = sym (false_from_ne_true b (λ h. differ false (from h) refl))

pub same_listed : (xs ys : List DRule) (key : Key) → AreAmong xs ys → AreAmong ys xs → is_listed xs key ≡ is_listed ys key
same_listed xs ys key to from = same_test (is_listed xs key) (is_listed ys key) (listed_too xs ys key to) (listed_too ys xs key from)

in_same : (r t : DRule) (n : ℕ) → bounds r ≡ bounds t → InBounds r n → InBounds t n
in_same r t n same within =
    let least : r.min ≡ t.min = ap (λ (b : ℕ × Option ℕ). b.0) same in
    let most : r.max ≡ t.max = ap (λ (b : ℕ × Option ℕ). b.1) same in
    (subst (λ (k : ℕ). k ≤ n) least within.0, subst (λ (o : Option ℕ). IfSome o (λ max. n ≤ max)) most within.1)

pub same_count : (p q : Key → Bool) (xs : List Key) → ((key : Key) → p key ≡ q key) → count_by p xs ≡ count_by q xs
same_count p q [] h = refl
same_count p q (x ∷ xs) h =
    let one_if : Bool → ℕ = λ b. cond b 1 0 in
    let one = ap one_if (h x) in
    let ih = same_count p q xs h in
    omega (arith, count_cons p x xs, count_cons q x xs, one, ih)

module _ (p q : Parts) (same : AskSame p q) (keys : List Key) (m : Meets p keys) where
  first_listed : (key : Key) → is_listed p.firsts key ≡ is_listed q.firsts key
  first_listed key = ap (λ (xs : List DRule). is_listed xs key) same.firsts

  any_listed : (key : Key) → is_listed p.anys key ≡ is_listed q.anys key
  any_listed key = same_listed p.anys q.anys key same.anys same.back

  follows_too : (key : Key) → MayFollow p key → MayFollow q key
  follows_too key (inl h) = inl (listed_too p.anys q.anys key same.anys h)
  follows_too key (inr (some, first, any)) = inr (others_too (p.others) (q.others) same.others some, sym (first_listed key) ∙ first, sym (any_listed key) ∙ any)
    where
      others_too : (o u : Option DRule) → option_map bounds o ≡ option_map bounds u → IsSome o → IsSome u
      others_too None u e some = absurd (let f : false ≡ true = some in cc)
      others_too (Some w) None e some = absurd (none-some (bounds w) (sym e))
      others_too (Some w) (Some v) e some = refl

  any_count : (t : DRule) → IsIn t q.anys → InBounds t (count_by (λ key. lists_key key t) m.rest)
  any_count t it =
      let (r, ir, e, within) = same.back t (contains_in q.anys t it) in
      let own = in_all (λ (x : DRule). InBounds x (count_by (λ key. lists_key key x) m.rest)) r p.anys m.counts (in_contains p.anys r ir) in
      let counts : count_by (λ key. lists_key key r) m.rest ≡ count_by (λ key. lists_key key t) m.rest = ap (λ (o : Option Key). count_by (λ key. option_map_or (same_key key) o false) m.rest)
      (sym e) in
      subst (InBounds t) counts (in_same r t (count_by (λ key. lists_key key r) m.rest) (sym within) own)

  other_count : (v : DRule) → q.others ≡ Some v → InBounds v (count_by (is_other q) m.rest)
  other_count v of = by (p.others) refl
    where
      is_same : (key : Key) → is_other p key ≡ is_other q key
      is_same key = ap (λ (b : Bool). not (b || is_listed p.anys key)) (first_listed key) ∙ ap (λ (b : Bool). not (is_listed q.firsts key || b)) (any_listed key)

      by : (o : Option DRule) → p.others ≡ o → InBounds v (count_by (is_other q) m.rest)
      by None none = absurd (none-some (bounds v) (sym (ap (option_map bounds) none) ∙ same.others ∙ ap (option_map bounds) of))
      by (Some w) is =
          let within : bounds w ≡ bounds v = same_Some (bounds w) (bounds v) (sym (ap (option_map bounds) is) ∙ same.others ∙ ap (option_map bounds) of) in
          let own = at_some (λ (x : DRule). InBounds x (count_by (is_other p) m.rest)) p.others w m.others is in
          subst (InBounds v) (same_count (is_other p) (is_other q) m.rest is_same) (in_same w v (count_by (is_other p) m.rest) within own)

  pub meets_too : Meets q keys
  meets_too = record {
    rest = m.rest;
    runs = subst (λ (xs : List DRule). Runs xs keys m.rest) same.firsts m.runs;
    follow = all_in (MayFollow q) m.rest (λ key i. follows_too key (in_all (MayFollow p) key m.rest m.follow i));
    counts = all_in (λ (t : DRule). InBounds t (count_by (λ key. lists_key key t) m.rest)) q.anys any_count;
    others = when_some (λ (v : DRule). InBounds v (count_by (is_other q) m.rest)) q.others other_count;
  }

-- ---- the last of the first AVPs, where none follow

runs_split : (xs ys : List DRule) (keys rest : List Key) → Runs (xs ++ ys) keys rest → (middle : List Key) × Runs xs keys middle × Runs ys middle rest
runs_split [] ys keys rest h = (keys, refl, h)
runs_split (x ∷ xs) ys keys rest (run, after, parts, all, within, more) =
    let (middle, first, last) = runs_split xs ys after rest more in (middle, (run, after, parts, all, within, first), last)

runs_join : (xs ys : List DRule) (keys middle rest : List Key) → Runs xs keys middle → Runs ys middle rest → Runs (xs ++ ys) keys rest
runs_join [] ys keys middle rest first last = subst (λ (ks : List Key). Runs ys ks rest) (sym first) last
runs_join (x ∷ xs) ys keys middle rest (run, after, parts, all, within, more) last = (run, after, parts, all, within, runs_join xs ys after middle rest more last)

abbrev with_none : List DRule → Parts
with_none firsts = record { firsts = firsts; anys = []; others = None }

abbrev with_any : List DRule → List DRule → Parts
with_any firsts anys = record { firsts = firsts; anys = anys; others = None }

nothing_follows : (firsts : List DRule) (key : Key) → MayFollow (with_none firsts) key → ⊥
nothing_follows firsts key (inl h) = let e : false ≡ true = h in differ false e refl
nothing_follows firsts key (inr (some, a, b)) = let e : false ≡ true = some in differ false e refl

no_rest : (firsts : List DRule) (rest : List Key) → AllByRecursion (MayFollow (with_none firsts)) rest → rest ≡ []
no_rest firsts [] h = refl
no_rest firsts (key ∷ rest) h = absurd (nothing_follows firsts key h.0)

is_of_last : (firsts : List DRule) (l : DRule) (key : Key) → MayFollow (with_any firsts (l ∷ [])) key → l.key ≡ Some key
is_of_last firsts l key (inr (some, a, b)) = absurd (let e : false ≡ true = some in cc)
is_of_last firsts l key (inl h) = let (r, ir, e) = listed (l ∷ []) key h in by r ir e
  where
    by : (r : DRule) → IsIn r (l ∷ []) → r.key ≡ Some key → l.key ≡ Some key
    by r (inl same) e = ap (λ (x : DRule). x.key) (sym same) ∙ e
    by r (inr i) e = absurd i

last_follows : (gs : List DRule) (l : DRule) (keys : List Key) → Meets (with_none (gs ++ l ∷ [])) keys → Meets (with_any gs (l ∷ [])) keys
last_follows gs l keys m = by (runs_split gs (l ∷ []) keys m.rest m.runs)
  where
    by : (middle : List Key) × Runs gs keys middle × Runs (l ∷ []) middle m.rest → Meets (with_any gs (l ∷ [])) keys
    by (middle, first, (run, after, parts, all, within, last)) =
        let none = no_rest (gs ++ l ∷ []) m.rest m.follow in
        let same : middle ≡ run = parts ∙ ap (λ (ks : List Key). run ++ ks) (last ∙ none) ∙ append-nil run in
        let counted = count_all (λ (key : Key). lists_key key l) run (all_in (λ (key : Key). lists_key key l ≡ true) run (λ key i. lists l key (in_all (λ (k : Key). l.key ≡ Some k) key run all i))) in
        record {
          rest = run;
          runs = subst (Runs gs keys) same first;
          follow = all_in (MayFollow (with_any gs (l ∷ []))) run (λ key i. inl (is_listed_by (l ∷ []) key l (inl refl) (in_all (λ (k : Key). l.key ≡ Some k) key run all i)));
          counts = (subst (InBounds l) (sym counted) within, tt);
          others = tt;
        }

last_is_first : (gs : List DRule) (l : DRule) (keys : List Key) → Meets (with_any gs (l ∷ [])) keys → Meets (with_none (gs ++ l ∷ [])) keys
last_is_first gs l keys m =
    let own = λ (key : Key) (i : IsIn key m.rest). is_of_last gs l key (in_all (MayFollow (with_any gs (l ∷ []))) key m.rest m.follow i) in
    let all = all_in (λ (key : Key). l.key ≡ Some key) m.rest own in
    let counted = count_all (λ (key : Key). lists_key key l) m.rest (all_in (λ (key : Key). lists_key key l ≡ true) m.rest (λ key i. lists l key (own key i))) in
    record {
      rest = [];
      runs = runs_join gs (l ∷ []) keys m.rest [] m.runs (m.rest, [], sym (append-nil m.rest), all, subst (InBounds l) counted m.counts.0, refl);
      follow = tt;
      counts = tt;
      others = tt;
    }

pub parted : (firsts : List DRule) → firsts ≡ take (length firsts - 1) firsts ++ drop (length firsts - 1) firsts
parted firsts = sym (take-append-drop (length firsts - 1) firsts)

last_from : (xs : List DRule) (n : ℕ) → length xs ≡ suc n → (l : DRule) × (drop n xs ≡ l ∷ [])
last_from [] n e = absurd (omega (arith, e))
last_from (x ∷ xs) zero e = (x, ap (λ (ys : List DRule). x ∷ ys) (nil_of xs (omega (arith, e))))
last_from (x ∷ xs) (suc n) e = last_from xs n (omega (arith, e))

pub last_one : (firsts : List DRule) → (firsts ≡ []) ⊎ ((l : DRule) × (drop (length firsts - 1) firsts ≡ l ∷ []))
last_one [] = inl refl
last_one (x ∷ xs) = inr (last_from (x ∷ xs) (length (x ∷ xs) - 1) (omega arith))

settles : (firsts : List DRule) (keys : List Key) → Meets (with_none firsts) keys ↔ Meets (settled_by firsts [] None) keys
settles firsts keys = by (last_one firsts)
  where
    by : (firsts ≡ []) ⊎ ((l : DRule) × (drop (length firsts - 1) firsts ≡ l ∷ [])) → Meets (with_none firsts) keys ↔ Meets (settled_by firsts [] None) keys
    by (inl none) = subst (λ (xs : List DRule). Meets (with_none xs) keys ↔ Meets (settled_by xs [] None) keys) (sym none) (λ m. m, λ m. m)
    by (inr (l, last)) =
        let whole : firsts ≡ take (length firsts - 1) firsts ++ l ∷ [] = parted firsts ∙ ap (λ (xs : List DRule). take (length firsts - 1) firsts ++ xs) last in (
          λ m. subst (λ (xs : List DRule). Meets (with_any (take (length firsts - 1) firsts) xs) keys) (sym last)
              (last_follows (take (length firsts - 1) firsts) l keys (subst (λ (xs : List DRule). Meets (with_none xs) keys) whole m)),
          λ m. subst (λ (xs : List DRule). Meets (with_none xs) keys) (sym whole)
              (last_is_first (take (length firsts - 1) firsts) l keys (subst (λ (xs : List DRule). Meets (with_any (take (length firsts - 1) firsts) xs) keys) last m)),
        )

pub meets_settled : (p : Parts) (keys : List Key) → Meets p keys ↔ Meets (settled p) keys
meets_settled p keys = by p.firsts p.anys p.others
  where
    by : (firsts anys : List DRule) (others : Option DRule) → Meets (record { firsts = firsts; anys = anys; others = others }) keys ↔ Meets (settled_by firsts anys others) keys
    by firsts [] None = settles firsts keys
    by firsts [] (Some w) = (λ m. m, λ m. m)
    by firsts (r ∷ anys) others = (λ m. m, λ m. m)

-- ---- definitions

placed_too : (a b : List DRule) → AreRules a → AreRules b → AskSame (settled (parts_of a)) (settled (parts_of b)) → (keys : List Key) → Placed a keys → Placed b keys
placed_too a b are are' same keys p =
    let own = (meets_settled (parts_of a) keys).0 ((placed_by_parts a (sound a are) keys).0 p) in
    let other = meets_too (settled (parts_of a)) (settled (parts_of b)) same keys own in
    (placed_by_parts b (sound b are') keys).1 ((meets_settled (parts_of b) keys).1 other)

pub alike_placed : (a b : List DRule) → AreRules a → AreRules b → AreAlike a b → (keys : List Key) → Placed a keys ↔ Placed b keys
alike_placed a b are are' same keys = (placed_too a b are are' same keys, placed_too b a are' are (same_back (settled (parts_of a)) (settled (parts_of b)) same) keys)
