-- What one more reason that was met changes.
use Rattle.std.proofs.Common.{◌≡◌, ℕ, zero, suc, ◌+◌, ◌<◌, ◌≤◌, ◌||◌, not, Bool, true, false, List, [], ◌∷◌, ◌++◌, length, map, filter, take, Some, refl, sym, ap, ap₂, subst}
use Rattle.std.proofs.Common.{◌∙◌, arith}
use Rattle.std.specs.Prelude.{⊤, cond, if◌then◌else◌}
use Rattle.std.specs.List.{list_any}
use Rattle.std.proofs.lemmas.Bool.{false≢true}
use Rattle.std.proofs.lemmas.List.{append-nil, length-append, length-take, map-append, map_push, take_all, take-append-le}
use Rattle.std.proofs.lemmas.List.Elements.{filter-append}
use Rattle.std.proofs.lemmas.List.Folds.{list_any-append}
use Rattle.dia_captures.specs.declared.reasons.Seen.{Seen}
use Rattle.dia_captures.specs.Counts.{again, counted, most_reasons, once, once_each, other_places, places, seen, seen_if_any, seen_more, recorded_reasons}

-- ---- each element of a list

abbrev pub Each : {A : Type 0} → (A → Type 0) → List A → Type 0
Each P [] = ⊤
Each P (x ∷ xs) = P x × Each P xs

pub Each-map : {A : Type 0} (P Q : A → Type 0) (xs : List A) → ((x : A) → P x → Q x) → Each P xs → Each Q xs
Each-map P Q [] f h = tt
Each-map P Q (x ∷ xs) f h = (f x h.0, Each-map P Q xs f h.1)

Each-following : {A : Type 0} (P : A → Type 0) (b : Bool) (x : A) (xs : List A) → P x → Each P xs → Each P (cond b (x ∷ xs) xs)
Each-following P true x xs here h = (here, h)
Each-following P false x xs here h = h

Each-filter : {A : Type 0} (P : A → Type 0) (p : A → Bool) (xs : List A) → Each P xs → Each P (filter p xs)
Each-filter P p [] h = tt
Each-filter P p (x ∷ xs) h = Each-following P (p x) x (filter p xs) h.0 (Each-filter P p xs h.1)

Each-take : {A : Type 0} (P : A → Type 0) (n : ℕ) (xs : List A) → Each P xs → Each P (take n xs)
Each-take P zero xs h = tt
Each-take P (suc n) [] h = tt
Each-take P (suc n) (x ∷ xs) h = (h.0, Each-take P n xs h.1)

pub map_each : {A B : Type 0} (f g : A → B) (xs : List A) → Each (λ x. f x ≡ g x) xs → map f xs ≡ map g xs
map_each f g [] h = refl
map_each {B = B} f g (x ∷ xs) h = ap₂ (λ (y : B) (ys : List B). y ∷ ys) h.0 (map_each f g xs h.1)

filter_each : {A : Type 0} (p q : A → Bool) (xs : List A) → Each (λ x. p x ≡ q x) xs → filter p xs ≡ filter q xs
filter_each p q [] h = refl
filter_each {A = A} p q (x ∷ xs) h =
    ap (λ (b : Bool). cond b (x ∷ filter p xs) (filter p xs)) h.0 ∙ ap (λ (ys : List A). cond (q x) (x ∷ ys) ys) (filter_each p q xs h.1)

filter_none : {A : Type 0} (p : A → Bool) (xs : List A) → Each (λ x. p x ≡ false) xs → filter p xs ≡ []
filter_none p [] h = refl
filter_none p (x ∷ xs) h = ap (λ (b : Bool). cond b (x ∷ filter p xs) (filter p xs)) h.0 ∙ filter_none p xs h.1

pub either_false : (a b : Bool) → (a || b) ≡ false → (a ≡ false) × (b ≡ false)
either_false true b h = absurd (false≢true (sym h))
either_false false b h = (refl, h)

none_of : {A : Type 0} (p : A → Bool) (xs : List A) → list_any p xs ≡ false → Each (λ x. p x ≡ false) xs
none_of p [] h = tt
none_of p (x ∷ xs) h = let (here, rest) = either_false (p x) (list_any p xs) h in (here, none_of p xs rest)

or_true : (a : Bool) → (a || true) ≡ true
or_true true = refl
or_true false = refl

-- ---- counts

pub counted_more : (n : ℕ) → counted (counted n + 1) ≡ counted (n + 1)
counted_more n = grind arith

pub seen_once : (place : ℕ) → seen (place ∷ []) ≡ once place
seen_once place = refl

pub seen_again : (ps : List ℕ) (place : ℕ) → 0 < length ps → seen (ps ++ place ∷ []) ≡ again (seen ps)
seen_again [] place some = absurd (omega (arith, some))
seen_again (p ∷ ps) place some =
    ap (λ (n : ℕ). record { times = counted n; first = p }) (length-append (p ∷ ps) (place ∷ []))
    ∙ ap (λ (n : ℕ). record { times = n; first = p }) (sym (counted_more (length (p ∷ ps))))

pub seen_if_more : (ps : List ℕ) (place : ℕ) → seen_if_any (ps ++ place ∷ []) ≡ seen_more place (seen_if_any ps)
seen_if_more [] place = refl
seen_if_more (p ∷ ps) place = ap (λ (s : Seen). Some s) (seen_again (p ∷ ps) place (omega arith))

-- ---- reasons

module _ {R : Type 0} (same : R → R → Bool) (alike : (a b : R) → same a b ≡ true → a ≡ b) (itself : (a : R) → same a a ≡ true) where
  abbrev pub is_among : List R → R → Bool
  is_among rs r = list_any (λ s. same s r) rs

  abbrev reasons : List (ℕ × R) → List R
  reasons mets = map (λ m. m.1) mets

  -- where it isn't one, the other one isn't it
  other : (a b : R) → same a b ≡ false → same b a ≡ false
  other a b isnt = by (same b a) refl
    where
      by : (c : Bool) → same b a ≡ c → c ≡ false
      by false is = refl
      by true is = let e : true ≡ false = sym (itself a) ∙ ap (λ (x : R). same a x) (sym (alike b a is)) ∙ isnt in absurd cc

  after_new : (g r : R) (xs : List R) → filter (λ s. not (same g s)) (xs ++ r ∷ []) ≡ filter (λ s. not (same g s)) xs ++ filter (λ s. not (same g s)) (r ∷ [])
  after_new g r xs = filter-append (λ s. not (same g s)) xs (r ∷ [])

  kept_last : (g r : R) → same g r ≡ false → filter (λ s. not (same g s)) (r ∷ []) ≡ r ∷ []
  kept_last g r isnt = ap (λ (b : Bool). cond (not b) (r ∷ []) []) isnt

  dropped_last : (g r : R) → same g r ≡ true → filter (λ s. not (same g s)) (r ∷ []) ≡ []
  dropped_last g r is = ap (λ (b : Bool). cond (not b) (r ∷ []) []) is

  once_more_new : (rs : List R) (r : R) → is_among rs r ≡ false → once_each same (rs ++ r ∷ []) ≡ once_each same rs ++ r ∷ []
  once_more_new [] r none = refl
  once_more_new (g ∷ gs) r none =
      let (here, rest) = either_false (same g r) (is_among gs r) none in
      ap (λ (xs : List R). g ∷ filter (λ s. not (same g s)) xs) (once_more_new gs r rest)
      ∙ ap (λ (xs : List R). g ∷ xs) (after_new g r (once_each same gs) ∙ ap (λ (xs : List R). filter (λ s. not (same g s)) (once_each same gs) ++ xs) (kept_last g r here))

  once_more_known : (rs : List R) (r : R) → is_among rs r ≡ true → once_each same (rs ++ r ∷ []) ≡ once_each same rs
  once_more_known [] r some = absurd (false≢true some)
  once_more_known (g ∷ gs) r some = by (is_among gs r) refl (same g r) refl (once_more_known gs r)
    where
      by : (a : Bool) → is_among gs r ≡ a → (b : Bool) → same g r ≡ b → (is_among gs r ≡ true → once_each same (gs ++ r ∷ []) ≡ once_each same gs)
          → once_each same (g ∷ (gs ++ r ∷ [])) ≡ once_each same (g ∷ gs)
      by true known b is before = ap (λ (xs : List R). g ∷ filter (λ s. not (same g s)) xs) (before known)
      by false new true is before =
          ap (λ (xs : List R). g ∷ filter (λ s. not (same g s)) xs) (once_more_new gs r new)
          ∙ ap (λ (xs : List R). g ∷ xs) (after_new g r (once_each same gs)
          ∙ ap (λ (xs : List R). filter (λ s. not (same g s)) (once_each same gs) ++ xs) (dropped_last g r is) ∙ append-nil (filter (λ s. not (same g s)) (once_each same gs)))
      by false new false isnt before =
          let e : false ≡ true = sym (ap₂ (λ (x y : Bool). x || y) isnt new) ∙ some in absurd cc

  -- what counts as another one isn't left out
  among_filtered : (g r : R) → same g r ≡ false → (xs : List R) → is_among (filter (λ s. not (same g s)) xs) r ≡ is_among xs r
  among_filtered g r isnt [] = refl
  among_filtered g r isnt (x ∷ xs) = by (same g x) refl (among_filtered g r isnt xs)
    where
      by : (b : Bool) → same g x ≡ b → is_among (filter (λ s. not (same g s)) xs) r ≡ is_among xs r → is_among (cond (not (same g x)) (x ∷ filter (λ s. not (same g s)) xs)
          (filter (λ s. not (same g s)) xs)) r ≡ (same x r || is_among xs r)
      by true is before =
          ap (λ (b : Bool). is_among (cond (not b) (x ∷ filter (λ s. not (same g s)) xs) (filter (λ s. not (same g s)) xs)) r) is
          ∙ before ∙ sym (ap (λ (b : Bool). b || is_among xs r) (ap (λ (y : R). same y r) (sym (alike g x is)) ∙ isnt))
      by false differs before =
          ap (λ (b : Bool). is_among (cond (not b) (x ∷ filter (λ s. not (same g s)) xs) (filter (λ s. not (same g s)) xs)) r) differs
          ∙ ap (λ (b : Bool). same x r || b) before

  among_once : (rs : List R) (r : R) → is_among (once_each same rs) r ≡ is_among rs r
  among_once [] r = refl
  among_once (g ∷ gs) r = by (same g r) refl (among_once gs r)
    where
      by : (b : Bool) → same g r ≡ b → is_among (once_each same gs) r ≡ is_among gs r → (same g r || is_among (filter (λ s. not (same g s)) (once_each same gs)) r) ≡ (same g r || is_among gs r)
      by true is before = ap (λ (b : Bool). b || is_among (filter (λ s. not (same g s)) (once_each same gs)) r) is ∙ sym (ap (λ (b : Bool). b || is_among gs r) is)
      by false differs before = ap (λ (b : Bool). same g r || b) (among_filtered g r differs (once_each same gs) ∙ before)

  among_front : (n : ℕ) (xs : List R) (r : R) → is_among (take n xs) r ≡ true → is_among xs r ≡ true
  among_front zero xs r h = absurd (false≢true h)
  among_front (suc n) [] r h = absurd (false≢true h)
  among_front (suc n) (x ∷ xs) r h = by (same x r) refl (among_front n xs r)
    where
      by : (b : Bool) → same x r ≡ b → (is_among (take n xs) r ≡ true → is_among xs r ≡ true) → (same x r || is_among xs r) ≡ true
      by true is before = ap (λ (b : Bool). b || is_among xs r) is
      by false differs before = ap (λ (b : Bool). b || is_among xs r) differs ∙ before (sym (ap (λ (b : Bool). b || is_among (take n xs) r) differs) ∙ h)

  -- each reason was met
  all_met : (rs : List R) → Each (λ s. list_any (same s) rs ≡ true) (once_each same rs)
  all_met [] = tt
  all_met (g ∷ gs) = (
    ap (λ (b : Bool). b || list_any (same g) gs) (itself g),
    Each-filter (λ s. list_any (same s) (g ∷ gs) ≡ true) (λ s. not (same g s)) (once_each same gs)
        (Each-map (λ s. list_any (same s) gs ≡ true) (λ s. list_any (same s) (g ∷ gs) ≡ true) (once_each same gs)
        (λ s h. ap (λ (b : Bool). same s g || b) h ∙ or_true (same s g)) (all_met gs)),
  )

  somewhere : (mets : List (ℕ × R)) (s : R) → list_any (same s) (reasons mets) ≡ true → 0 < length (places same mets s)
  somewhere [] s h = absurd (false≢true h)
  somewhere (m ∷ mets) s h = by (same s m.1) refl (somewhere mets s)
    where
      by : (b : Bool) → same s m.1 ≡ b → (list_any (same s) (reasons mets) ≡ true → 0 < length (places same mets s))
          → 0 < length (map (λ (m : ℕ × R). m.0) (cond (same s m.1) (m ∷ filter (λ m. same s m.1) mets) (filter (λ m. same s m.1) mets)))
      by true is before = subst (λ (b : Bool). 0 < length (map (λ (m : ℕ × R). m.0) (cond b (m ∷ filter (λ m. same s m.1) mets) (filter (λ m. same s m.1) mets)))) (sym is) (omega arith)
      by false differs before = subst (λ (b : Bool). 0 < length (map (λ (m : ℕ × R). m.0) (cond b (m ∷ filter (λ m. same s m.1) mets) (filter (λ m. same s m.1) mets)))) (sym differs)
          (before (sym (ap (λ (b : Bool). b || list_any (same s) (reasons mets)) differs) ∙ h))

  -- ---- one more that was met

  module _ (mets : List (ℕ × R)) (place : ℕ) (r : R) where
    abbrev recorded : List R
    recorded = recorded_reasons same mets

    abbrev more : List (ℕ × R)
    more = mets ++ (place, r) ∷ []

    more_reasons : reasons more ≡ reasons mets ++ r ∷ []
    more_reasons = map_push (λ (m : ℕ × R). m.1) mets (place, r)

    places_more : (s : R) → places same more s ≡ places same mets s ++ cond (same s r) (place ∷ []) []
    places_more s =
        ap (map (λ (m : ℕ × R). m.0)) (filter-append (λ m. same s m.1) mets ((place, r) ∷ []))
        ∙ map-append (λ (m : ℕ × R). m.0) (filter (λ m. same s m.1) mets) (filter (λ m. same s m.1) ((place, r) ∷ []))
        ∙ ap (λ (ps : List ℕ). places same mets s ++ ps) (by (same s r))
      where
        by : (b : Bool) → map (λ (m : ℕ × R). m.0) (cond b ((place, r) ∷ []) []) ≡ cond b (place ∷ []) []
        by true = refl
        by false = refl

    abbrev again_where : R → Seen → Seen
    again_where s x = if same s r then again x else x

    -- what is told of a reason that was met
    seen_of_met : (s : R) → list_any (same s) (reasons mets) ≡ true → seen (places same more s) ≡ again_where s (seen (places same mets s))
    seen_of_met s met = ap seen (places_more s) ∙ by (same s r)
      where
        by : (b : Bool) → seen (places same mets s ++ cond b (place ∷ []) []) ≡ (if b then again (seen (places same mets s)) else seen (places same mets s))
        by true = seen_again (places same mets s) place (somewhere mets s met)
        by false = ap seen (append-nil (places same mets s))

    pub Each-recorded : Each (λ s. seen (places same more s) ≡ again_where s (seen (places same mets s))) recorded
    Each-recorded = Each-map (λ s. list_any (same s) (reasons mets) ≡ true) (λ s. seen (places same more s) ≡ again_where s (seen (places same mets s))) recorded seen_of_met
        (Each-take (λ s. list_any (same s) (reasons mets) ≡ true) most_reasons (once_each same (reasons mets)) (all_met (reasons mets)))

    others_where : (kept : List R) → recorded_reasons same more ≡ kept
        → other_places same more ≡ map (λ (m : ℕ × R). m.0) (filter (λ m. not (is_among kept m.1)) mets) ++ cond (not (is_among kept r)) (place ∷ []) []
    others_where kept is =
        ap (λ (k : List R). map (λ (m : ℕ × R). m.0) (filter (λ m. not (is_among k m.1)) more)) is
        ∙ ap (map (λ (m : ℕ × R). m.0)) (filter-append (λ m. not (is_among kept m.1)) mets ((place, r) ∷ []))
        ∙ map-append (λ (m : ℕ × R). m.0) (filter (λ m. not (is_among kept m.1)) mets) (filter (λ m. not (is_among kept m.1)) ((place, r) ∷ []))
        ∙ ap (λ (ps : List ℕ). map (λ (m : ℕ × R). m.0) (filter (λ m. not (is_among kept m.1)) mets) ++ ps) (by (not (is_among kept r)))
      where
        by : (b : Bool) → map (λ (m : ℕ × R). m.0) (cond b ((place, r) ∷ []) []) ≡ cond b (place ∷ []) []
        by true = refl
        by false = refl

    -- it is told already
    pub recorded_known : is_among recorded r ≡ true → recorded_reasons same more ≡ recorded
    recorded_known known =
        ap (λ (rs : List R). take most_reasons (once_each same rs)) more_reasons
        ∙ ap (take most_reasons) (once_more_known (reasons mets) r (sym (among_once (reasons mets) r) ∙ among_front most_reasons (once_each same (reasons mets)) r known))

    pub others_known : is_among recorded r ≡ true → other_places same more ≡ other_places same mets
    others_known known =
        others_where recorded (recorded_known known) ∙ ap (λ (b : Bool). other_places same mets ++ cond (not b) (place ∷ []) []) known ∙ append-nil (other_places same mets)

    -- there is no room for it
    pub recorded_full : is_among recorded r ≡ false → most_reasons ≤ length recorded → recorded_reasons same more ≡ recorded
    recorded_full new full = ap (λ (rs : List R). take most_reasons (once_each same rs)) more_reasons ∙ by (is_among (reasons mets) r) refl
      where
        by : (b : Bool) → is_among (reasons mets) r ≡ b → take most_reasons (once_each same (reasons mets ++ r ∷ [])) ≡ recorded
        by true known = ap (take most_reasons) (once_more_known (reasons mets) r known)
        by false none =
            ap (take most_reasons) (once_more_new (reasons mets) r none)
            ∙ take-append-le most_reasons (once_each same (reasons mets)) (r ∷ []) (grind (arith, length-take most_reasons (once_each same (reasons mets)), full))

    pub others_full : is_among recorded r ≡ false → most_reasons ≤ length recorded → other_places same more ≡ other_places same mets ++ place ∷ []
    others_full new full = others_where recorded (recorded_full new full) ∙ ap (λ (b : Bool). other_places same mets ++ cond (not b) (place ∷ []) []) new

    -- there is room for it
    module _ (new : is_among recorded r ≡ false) (room : length recorded < most_reasons) where
      all_recorded : recorded ≡ once_each same (reasons mets)
      all_recorded = take_all most_reasons (once_each same (reasons mets)) (grind (arith, length-take most_reasons (once_each same (reasons mets)), room))

      never_met : is_among (reasons mets) r ≡ false
      never_met = sym (among_once (reasons mets) r) ∙ ap (λ (k : List R). is_among k r) (sym all_recorded) ∙ new

      pub recorded_new : recorded_reasons same more ≡ recorded ++ r ∷ []
      recorded_new =
          ap (λ (rs : List R). take most_reasons (once_each same rs)) more_reasons ∙ ap (take most_reasons) (once_more_new (reasons mets) r never_met)
          ∙ take_all most_reasons (once_each same (reasons mets) ++ r ∷ [])
          (omega (arith, length-append (once_each same (reasons mets)) (r ∷ []), ap length all_recorded, room))
          ∙ ap (λ (k : List R). k ++ r ∷ []) (sym all_recorded)

      none_met : (ms : List (ℕ × R)) → is_among (reasons ms) r ≡ false → Each (λ (m : ℕ × R). same m.1 r ≡ false) ms
      none_met [] h = tt
      none_met (m ∷ ms) h = let (here, rest) = either_false (same m.1 r) (is_among (reasons ms) r) h in (here, none_met ms rest)

      nowhere : places same mets r ≡ []
      nowhere = ap (map (λ (m : ℕ × R). m.0)) (filter_none (λ m. same r m.1) mets
          (Each-map (λ (m : ℕ × R). same m.1 r ≡ false) (λ m. same r m.1 ≡ false) mets (λ m differs. other m.1 r differs) (none_met mets never_met)))

      pub seen_new : seen (places same more r) ≡ once place
      seen_new = ap seen (places_more r ∙ ap₂ (λ (ps : List ℕ) (b : Bool). ps ++ cond b (place ∷ []) []) nowhere (itself r))

      not_more : (m : ℕ × R) → same m.1 r ≡ false → not (is_among (recorded ++ r ∷ []) m.1) ≡ not (is_among recorded m.1)
      not_more m differs = ap not (list_any-append (λ s. same s m.1) recorded (r ∷ []) ∙ ap (λ (b : Bool). is_among recorded m.1 || (b || false)) (other m.1 r differs) ∙ or_false (is_among recorded m.1))
        where
          or_false : (a : Bool) → (a || (false || false)) ≡ a
          or_false true = refl
          or_false false = refl

      now_recorded : is_among (recorded ++ r ∷ []) r ≡ true
      now_recorded = list_any-append (λ s. same s r) recorded (r ∷ []) ∙ ap (λ (b : Bool). is_among recorded r || (b || false)) (itself r) ∙ or_true (is_among recorded r)

      pub others_new : other_places same more ≡ other_places same mets
      others_new =
          others_where (recorded ++ r ∷ []) recorded_new
          ∙ ap (λ (b : Bool). map (λ (m : ℕ × R). m.0) (filter (λ m. not (is_among (recorded ++ r ∷ []) m.1)) mets) ++ cond (not b) (place ∷ []) []) now_recorded
          ∙ append-nil (map (λ (m : ℕ × R). m.0) (filter (λ m. not (is_among (recorded ++ r ∷ []) m.1)) mets))
          ∙ ap (map (λ (m : ℕ × R). m.0)) (filter_each (λ m. not (is_among (recorded ++ r ∷ []) m.1)) (λ m. not (is_among recorded m.1)) mets
          (Each-map (λ (m : ℕ × R). same m.1 r ≡ false) (λ m. not (is_among (recorded ++ r ∷ []) m.1) ≡ not (is_among recorded m.1)) mets not_more (none_met mets never_met)))
