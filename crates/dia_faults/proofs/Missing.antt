-- The rules that are met too seldom, found by going from one rule with a least count to the next.
use Rattle.std.proofs.Common.{◌≡◌, ℕ, zero, suc, ◌-◌, ◌<◌, ◌≤◌, Bool, List, [], ◌∷◌, ◌++◌, map, Option, Some, None, refl, sym, ap, subst, ◌∙◌, arith, inl, inr, append_assoc}
use Rattle.std.specs.Prelude.{nat_lt, slice_get, if◌then◌else◌, ◌⊎◌}
use Rattle.std.proofs.lemmas.Bool.{le-ltb, lt-ltb}
use Rattle.std.proofs.lemmas.List.{append-nil}
use Rattle.dia_book.specs.declared.DRule.{DRule}
use Rattle.dia_book.specs.declared.RuleKind.TheVariants.{Fixed}
use Rattle.dia_book.specs.Shapes.{IsFirstWanted}
use Rattle.dia_check.specs.declared.open_levels.Wrong.{Wrong}
use Rattle.dia_check.specs.Recording.{recorded}
use Rattle.dia_check.proofs.Uniqueness.{le_split}
use Rattle.dia_faults.specs.declared.collector.Collector.{Collector}
use Rattle.dia_faults.specs.Collecting.{Adds}
use Rattle.dia_faults.specs.Rules.{missing, missing_at, missing_from}
use Rattle.dia_faults.proofs.Collecting.{adds_none, adds_wrongs}

-- what a look-up behind the rules answers
abbrev pub no_rule : DRule
no_rule = record { kind = Fixed; key = None; min = 0; max = None }

-- counts that are the same where there are rules
pub missing_same : (c d : ℕ → DRule → ℕ) (rules : List DRule) (i n : ℕ) → ((j : ℕ) (rule : DRule) → slice_get rules j ≡ Some rule → c j rule ≡ d j rule)
    → missing_from c rules i n ≡ missing_from d rules i n
missing_same c d rules i zero same = refl
missing_same c d rules i (suc n) same =
    ap (λ (ws : List Wrong). ws ++ missing_from c rules (suc i) n) (one (slice_get rules i) refl)
    ∙ ap (λ (ws : List Wrong). missing_at d i (slice_get rules i) ++ ws) (missing_same c d rules (suc i) n same)
  where
    one : (o : Option DRule) → slice_get rules i ≡ o → missing_at c i o ≡ missing_at d i o
    one None at = refl
    one (Some rule) at = ap (λ (k : ℕ). if nat_lt k rule.min then missing rule ∷ [] else []) (same i rule at)

module _ (c : ℕ → DRule → ℕ) (rules : List DRule) where
  -- rules without a least count are not missing
  none_at : (i : ℕ) (o : Option DRule) → ((rule : DRule) → o ≡ Some rule → rule.min ≡ 0) → missing_at c i o ≡ []
  none_at i None none = refl
  none_at i (Some rule) none =
      ap (λ (k : ℕ). if nat_lt (c i rule) k then missing rule ∷ [] else []) (none rule refl) ∙ ap (λ (b : Bool). if b then missing rule ∷ [] else []) (le-ltb (c i rule) 0 (omega arith))

  skip : (n from place : ℕ) → from ≤ place → ((i : ℕ) (rule : DRule) → from ≤ i → i < place → slice_get rules i ≡ Some rule → rule.min ≡ 0)
      → missing_from c rules from n ≡ missing_from c rules place (n - (place - from))
  skip zero from place le none = let e : 0 - (place - from) ≡ 0 = omega arith in ap (missing_from c rules place) (sym e)
  skip (suc n) from place le none =
      by (le_split from place le) (λ lt. skip n (suc from) place (omega (arith, lt)) (λ i rule from' to at. none i rule (omega (arith, from')) to at))
    where
      by : (from < place) ⊎ (from ≡ place) → (from < place → missing_from c rules (suc from) n ≡ missing_from c rules place (n - (place - suc from)))
          → missing_from c rules from (suc n) ≡ missing_from c rules place (suc n - (place - from))
      by (inl lt) more =
          let here : missing_at c from (slice_get rules from) ≡ [] = none_at from (slice_get rules from) (λ rule at. none from rule (omega arith) lt at) in
          let e : n - (place - suc from) ≡ suc n - (place - from) = omega (arith, lt) in
          ap (λ (ws : List Wrong). ws ++ missing_from c rules (suc from) n) here ∙ more lt ∙ ap (missing_from c rules place) e
      by (inr same) more =
          let e : suc n ≡ suc n - (place - from) = omega (arith, same) in
          ap (λ (k : ℕ). missing_from c rules k (suc n)) same ∙ ap (missing_from c rules place) e

  skip_to : (from place to : ℕ) → IsFirstWanted rules from place → missing_from c rules from (to - from) ≡ missing_from c rules place (to - place)
  skip_to from place to first =
      let le = first.following in
      let e : (to - from) - (place - from) ≡ to - place = omega (arith, le) in
      skip (to - from) from place first.following first.none_before ∙ ap (missing_from c rules place) e

  module _ (from to at : ℕ) where
    -- the missing rules before one were added
    pub record IsAdding (before now : Collector) (rule : ℕ) : Type 0 where
      pub front : List Wrong
      pub parts : missing_from c rules from (to - from) ≡ front ++ missing_from c rules rule (to - rule)
      pub added : Adds before now (map (recorded at) front)

    pub started : (before : Collector) (rule : ℕ) → IsFirstWanted rules from rule → IsAdding before before rule
    started before rule first = record { front = []; parts = skip_to from rule to first; added = adds_none before }

    pub next : (before now new : Collector) (rule : ℕ) (r : DRule) (more : List Wrong) (start after : ℕ) → rule < to → slice_get rules rule ≡ Some r → missing_at c rule (Some r) ≡ more
        → start ≡ suc rule → IsFirstWanted rules start after → IsAdding before now rule → Adds now new (map (recorded at) more) → IsAdding before new after
    next before now new rule r more start after lt here is following first so_far added = record {
      front = so_far.front ++ more;
      parts =
          let e : to - rule ≡ suc (to - suc rule) = omega (arith, lt) in
          let one : missing_at c rule (slice_get rules rule) ≡ more = ap (missing_at c rule) here ∙ is in
          so_far.parts ∙ ap (λ (k : ℕ). so_far.front ++ missing_from c rules rule k) e
          ∙ ap (λ (ws : List Wrong). so_far.front ++ (ws ++ missing_from c rules (suc rule) (to - suc rule))) one
          ∙ ap (λ (ws : List Wrong). so_far.front ++ (more ++ ws)) (ap (λ (k : ℕ). missing_from c rules k (to - k)) (sym following) ∙ skip_to start after to first)
          ∙ sym (append_assoc so_far.front more (missing_from c rules after (to - after)));
      added = adds_wrongs at before now new so_far.front more so_far.added added;
    }

    -- a rule that was looked at, and added where it is met too seldom
    pub stepped : (now new : Collector) (rule n : ℕ) (r : DRule) → n ≡ c rule r
        → ((n < r.min) × ((x : Wrong) × (p : Collector) × (x ≡ missing r) × (new ≡ p) × Adds now p (recorded at x ∷ []))) ⊎ ((r.min ≤ n) × (new ≡ now))
        → Adds now new (map (recorded at) (missing_at c rule (Some r)))
    stepped now new rule n r is (inl (lt, (x, p, is_x, is_p, added))) =
        let one : missing_at c rule (Some r) ≡ missing r ∷ [] = ap (λ (b : Bool). if b then missing r ∷ [] else []) (lt-ltb (c rule r) r.min (omega (arith, lt, is))) in
        subst (λ (ws : List Wrong). Adds now new (map (recorded at) ws)) (sym one)
        (subst (λ (y : Wrong). Adds now new (recorded at y ∷ [])) is_x (subst (λ (q : Collector). Adds now q (recorded at x ∷ [])) (sym is_p) added))
    stepped now new rule n r is (inr (le, same)) =
        let none : missing_at c rule (Some r) ≡ [] = ap (λ (b : Bool). if b then missing r ∷ [] else []) (le-ltb (c rule r) r.min (omega (arith, le, is))) in
        subst (λ (ws : List Wrong). Adds now new (map (recorded at) ws)) (sym none) (subst (λ (q : Collector). Adds now q []) (sym same) (adds_none now))

    pub finished : (before now : Collector) (rule : ℕ) → to ≤ rule → IsAdding before now rule → Adds before now (map (recorded at) (missing_from c rules from (to - from)))
    finished before now rule le so_far =
        let e : to - rule ≡ 0 = omega (arith, le) in
        subst (λ (ws : List Wrong). Adds before now (map (recorded at) ws))
        (sym (so_far.parts ∙ ap (λ (k : ℕ). so_far.front ++ missing_from c rules rule k) e ∙ append-nil so_far.front)) so_far.added
