-- What keys cost of which many are not listed by the other definition.
use Rattle.std.proofs.Common.{◌≡◌, ℕ, ◌+◌, ◌-◌, ◌*◌, ◌≤◌, Bool, true, false, cond, List, [], ◌∷◌, ◌++◌, Option, Some, None, refl, sym, ap, subst, ◌∙◌, arith, inl, inr}
use Rattle.std.specs.Prelude.{◌⊎◌, not, min, ◌&&◌, IfSome, is_some, count_by, if◌then◌else◌}
use Rattle.std.specs.Option.{option_map_or}
use Rattle.std.proofs.Math.Nat.{mul-le-mul_left, mul-le-mul_right, mul_comm, add-mul, mul-add, mul-zero}
use Rattle.std.proofs.lemmas.List.Sums.{sum_by-append}
use Rattle.std.proofs.lemmas.Option.{none-some}
use Rattle.dia_wire.specs.declared.Key.{Key}
use Rattle.dia_book.specs.declared.DRule.{DRule}
use Rattle.dia_book.proofs.SameKeys.{same_key-refl}
use Rattle.dia_valid.specs.Valid.{Placed, is_listed, is_wildcard, counted}
use Rattle.dia_valid.proofs.RuleCounts.{counts_key}
use Rattle.dia_valid.proofs.Members.{IsIn, any_in, contains_in, count_none, count_mono}
use Rattle.dia_breaking_levels.specs.declared.floor.Floor.{Floor}
use Rattle.dia_breaking_levels.specs.declared.steps.Step.{Step}
use Rattle.dia_breaking_levels.specs.CountsAndRanks.{AreSound, strangers, AreInPlace}
use Rattle.dia_breaking_levels.specs.LeastLevels.{total}
use Rattle.dia_breaking_levels.specs.Strangers.{needs, needed}
use Rattle.dia_breaking_levels.specs.LevelTests.{price, rule_floor, filler, swapped}
use Rattle.dia_breaking_levels.specs.Steps.{room_above, steps_of, steps, saved, IsLeastTaken}
use Rattle.dia_breaking_levels.proofs.CountsAndRanks.{placed-in_place}
use Rattle.dia_breaking_levels.proofs.LeastLevels.{share, counts_own, counts_by, not_true}
use Rattle.dia_breaking_levels.proofs.Strangers.{one_stranger, total_strangers, needs_within, needs_none, needs_key}
use Rattle.dia_breaking_levels.proofs.RuleSums.{sum_of, sums_each, share_one}
use Rattle.dia_breaking_levels.proofs.LevelBounds.{own_share, bounds_of, each_floor, rule_price, listed_floor, wild_floor, wild_share, all_shares}
use Rattle.dia_breaking_levels.proofs.FloorBounds.{rule_of_listed}
use Rattle.dia_breaking_levels.proofs.StepBounds.{saved-cons}
use Rattle.dia_breaking_levels.proofs.LineBounds.{IsFloor, cheapest_of}
use Rattle.dia_breaking_levels.proofs.FewBounds.{share_count}

-- ---- sums

sum_add : (f g : DRule → ℕ) (rules : List DRule) → sum_of (λ r. f r + g r) rules ≡ sum_of f rules + sum_of g rules
sum_add f g [] = refl
sum_add f g (r ∷ rules) = let ih = sum_add f g rules in omega (arith, ih)

sum_times : (t : ℕ) (f : DRule → ℕ) (rules : List DRule) → sum_of (λ r. t * f r) rules ≡ t * sum_of f rules
sum_times t f [] = sym (mul-zero t)
sum_times t f (r ∷ rules) = let ih = sum_times t f rules in let all = mul-add t (f r) (sum_of f rules) in omega (arith, ih, all)

needed_sum : (b rules : List DRule) → needed b rules ≡ sum_of (needs b) rules
needed_sum b [] = refl
needed_sum b (r ∷ rules) = let ih = needed_sum b rules in omega (arith, ih)

-- no more than d besides what each needs is enough for d in all
truncated : (x y : DRule → ℕ) (rules : List DRule) (d wanted : ℕ) → ((r : DRule) → IsIn r rules → y r ≤ x r) → sum_of y rules + wanted ≤ sum_of x rules → wanted ≤ d
    → sum_of y rules + wanted ≤ sum_of (λ r. min (x r) (y r + d)) rules
truncated x y [] d wanted each all le = all
truncated x y (r ∷ rules) d wanted each all le =
    let here = each r (inl refl) in
    let rest = sums_each y x rules (λ s i. each s (inr i)) in
    let ih = truncated x y rules d (wanted - (x r - y r)) (λ s i. each s (inr i)) (omega (arith, here, rest, all)) (omega (arith, le)) in
    omega (arith, here, ih, all, le)

-- where some rule counts each key, the shares are all
shares_cover : (f : DRule → Key → Bool) (cost : Key → ℕ) (rules : List DRule) (keys : List Key) → ((q : Key) → IsIn q keys → (r : DRule) × IsIn r rules × (f r q ≡ true)) → total cost keys
    ≤ sum_of (λ r. share cost (f r) keys) rules
shares_cover f cost rules [] cover = omega arith
shares_cover f cost rules (k ∷ keys) cover =
    let ih = shares_cover f cost rules keys (λ q i. cover q (inr i)) in
    let parts = sum_add (λ r. cond (f r k) (cost k) 0) (λ r. share cost (f r) keys) rules in
    let own = cover k (inl refl) in
    let here = one_of rules own.0 own.1 own.2 in
    omega (arith, ih, parts, here)
  where
    one_of : (some : List DRule) (r : DRule) → IsIn r some → f r k ≡ true → cost k ≤ sum_of (λ s. cond (f s k) (cost k) 0) some
    one_of [] r i e = absurd i
    one_of (s ∷ some) r (inl same) e =
        let own : cond (f s k) (cost k) 0 ≡ cost k = ap (λ (b : Bool). cond b (cost k) 0) (ap (λ (t : DRule). f t k) (sym same) ∙ e) in
        omega (arith, own)
    one_of (s ∷ some) r (inr i) e = let ih = one_of some r i e in omega (arith, ih)

saved-append : (t : ℕ) (xs ys : List Step) → saved t (xs ++ ys) ≡ saved t xs + saved t ys
saved-append t xs ys = sum_by-append (λ (step : Step). (t - step.length) * step.count) xs ys

saved_sum : (t : ℕ) (listed : Key → ℕ) (low outer : ℕ) (b : List DRule) (wanted : ℕ) (rules : List DRule)
    → saved t (steps listed low outer b wanted rules) ≡ sum_of (λ r. saved t (steps_of listed low outer b wanted r)) rules
saved_sum t listed low outer b wanted [] = refl
saved_sum t listed low outer b wanted (r ∷ rules) =
    let ih = saved_sum t listed low outer b wanted rules in
    let all = saved-append t (steps_of listed low outer b wanted r) (steps listed low outer b wanted rules) in
    omega (arith, ih, all)

-- ---- numbers of one rule

-- y more of one price: at the price t none does better than all that are cheaper
one_price : (t p y room : ℕ) → y ≤ room → t * y ≤ p * y + (t - p) * room
one_price t p y room le =
    let more = mul-le-mul_left (t - p) le in
    let parts = add-mul p (t - p) y in
    let over : t ≤ p + (t - p) = omega arith in
    let all = mul-le-mul_right y over in
    omega (arith, more, parts, all)

listed_numbers : (t p least n z room : ℕ) → least ≤ n → z ≤ n → z - least ≤ room → least * p + t * z ≤ n * p + t * least + (t - p) * room
listed_numbers t p least n z room low within fits =
    let step = one_price t p (z - least) room fits in
    let parts = mul-add t least (z - least) in
    let over : z ≤ least + (z - least) = omega arith in
    let all = mul-le-mul_left t over in
    let long : least + (z - least) ≤ n = omega (arith, low, within) in
    let cost = mul-le-mul_right p long in
    let split = add-mul least (z - least) p in
    omega (arith, step, parts, all, cost, split, mul_comm p (z - least))

wild_numbers : (t low e outer least n o z room : ℕ) → outer ≡ low + e → least ≤ n → z ≤ o → o ≤ n → z - least ≤ room → least * low + t * z ≤ n * low + o * e + ((t - e) * least + (t - outer) * room)
wild_numbers t low e outer least n o z room is some within have fits =
    let first = one_price t e (min z least) least (omega arith) in
    let second = one_price t outer (z - least) room fits in
    let parts = mul-add t (min z least) (z - least) in
    let whole : t * z ≡ t * (min z least + (z - least)) = ap (λ (k : ℕ). t * k) (omega arith) in
    let dear : outer * (z - least) ≡ (low + e) * (z - least) = ap (λ (k : ℕ). k * (z - least)) is in
    let split = add-mul low e (z - least) in
    let each = mul-add e (min z least) (z - least) in
    let all : e * z ≡ e * (min z least + (z - least)) = ap (λ (k : ℕ). e * k) (omega arith) in
    let most = mul-le-mul_left e within in
    let long : least + (z - least) ≤ n = omega (arith, some, within, have) in
    let cost = mul-le-mul_right low long in
    let sum = add-mul least (z - least) low in
    omega (arith, first, second, parts, whole, dear, split, each, all, most, cost, sum, mul_comm low (z - least), mul_comm e o)

-- what a rule may have more
room_fits : (wanted n z : ℕ) (rule : DRule) → IfSome rule.max (λ max. n ≤ max) → z ≤ n → z - rule.min ≤ wanted → z - rule.min ≤ room_above wanted rule
room_fits wanted n z rule bound within le = by rule.max bound
  where
    by : (o : Option ℕ) → IfSome o (λ max. n ≤ max) → z - rule.min ≤ option_map_or (λ max. max - rule.min) o wanted
    by None h = le
    by (Some most) h = omega (arith, h, within)

module _ (f : Floor) (listed other : Key → ℕ) (a b : List DRule) (keys : List Key) (is : IsFloor f listed other a b) (sound : AreSound a) (placed : Placed a keys) where
  abbrev all_cost : ℕ
  all_cost = total (price listed other a) keys

  in_place : AreInPlace a keys
  in_place = placed-in_place a keys sound placed

  low : (q : Key) → IsIn q keys → is_listed a q ≡ false → filler f ≤ other q
  low = cheapest_of f listed other a b keys is sound placed

  -- of the keys that a rule counts those that the other does not list
  abbrev outside : DRule → ℕ
  outside r = share (one_stranger b) (counts_key a r) keys

  abbrev own : DRule → ℕ
  own r = own_share a listed other (filler f) keys sound placed low r

  covered : (q : Key) → IsIn q keys → (r : DRule) × IsIn r a × (counts_key a r q ≡ true)
  covered q i = by (is_listed a q) refl
    where
      by : (t : Bool) → is_listed a q ≡ t → (r : DRule) × IsIn r a × (counts_key a r q ≡ true)
      by true e = let s = rule_of_listed a q e in (s.0, s.1, counts_by a s.0 q (Some q) s.2 (same_key-refl q))
      by false e =
          let w = any_in is_wildcard a (in_place.allowed q (contains_in keys q i) e) in
          (w.0, w.1, counts_by a w.0 q None (no_key w.0.key w.2) (ap not e))
        where
          no_key : (o : Option Key) → not (is_some o) ≡ true → o ≡ None
          no_key None h = refl
          no_key (Some k) h = absurd (let g : false ≡ true = h in cc)

  all_outside : strangers b keys ≤ sum_of outside a
  all_outside =
      let cover = shares_cover (counts_key a) (one_stranger b) a keys covered in
      let same = total_strangers b keys in
      omega (arith, cover, same)

  within_counted : (r : DRule) → outside r ≤ counted a r keys
  within_counted r =
      let same = share_count (λ (q : Key). not (is_listed b q)) (counts_key a r) keys in
      let less = count_mono (λ (q : Key). counts_key a r q && not (is_listed b q)) (counts_key a r) keys (λ q j h. first_of (counts_key a r q) (not (is_listed b q)) h) in
      omega (arith, same, less)
    where
      first_of : (x y : Bool) → (x && y) ≡ true → x ≡ true
      first_of true y h = refl
      first_of false y h = absurd (let g : false ≡ true = h in cc)

  each_rule : (t wanted : ℕ) (r : DRule) → IsIn r a
      → rule_floor listed (filler f) r + t * min (outside r) (needs b r + wanted) ≤ own r + t * needs b r + saved t (steps_of listed (filler f) f.outer b wanted r)
  each_rule t wanted r i = by r.key refl
    where
      bounds : (r.min ≤ counted a r keys) × IfSome r.max (λ max. counted a r keys ≤ max)
      bounds = bounds_of a listed other (filler f) keys sound placed low r i

      of_listed : (k : Key) → r.key ≡ Some k → (u : Bool) → is_listed b k ≡ u
          → rule_floor listed (filler f) r + t * min (outside r) (needs b r + wanted) ≤ own r + t * needs b r + saved t (steps_of listed (filler f) f.outer b wanted r)
      of_listed k e true g =
          let floor_one = each_floor a listed other (filler f) keys sound placed low r i in
          let same = share_count (λ (q : Key). not (is_listed b q)) (counts_key a r) keys in
          let none = count_none (λ (q : Key). counts_key a r q && not (is_listed b q)) keys (λ q j. no_such q) in
          let empty : min (outside r) (needs b r + wanted) ≡ 0 = omega (arith, same, none) in
          let zero_times : t * min (outside r) (needs b r + wanted) ≡ 0 = ap (λ (n : ℕ). t * n) empty ∙ mul-zero t in
          omega (arith, floor_one, zero_times)
        where
          no_such : (q : Key) → (counts_key a r q && not (is_listed b q)) ≡ false
          no_such q = one (counts_key a r q) refl
            where
              one : (x : Bool) → counts_key a r q ≡ x → (x && not (is_listed b q)) ≡ false
              one false h = refl
              one true h = of_own (counts_own a r q h)
                where
                  of_own : (r.key ≡ Some q) ⊎ ((r.key ≡ None) × (is_listed a q ≡ false)) → not (is_listed b q) ≡ false
                  of_own (inl own_key) =
                      let same_keys : Some k ≡ Some q = sym e ∙ own_key in
                      let is_key : k ≡ q = ap (λ (o : Option Key). option_map_or (λ x. x) o k) same_keys in
                      ap not (ap (is_listed b) (sym is_key) ∙ g)
                  of_own (inr keyless) = absurd (none-some k (sym keyless.0 ∙ e))
      of_listed k e false g =
          let own_floor = listed_floor a listed other (filler f) keys sound placed low r k e in
          let need = needs_key b r k false e g in
          let same : option_map_or listed r.key (filler f) ≡ listed k = ap (λ (o : Option Key). option_map_or listed o (filler f)) e in
          let all = share_one (price listed other a) (counts_key a r) (option_map_or listed r.key (filler f)) keys (rule_price a listed other (filler f) keys sound placed low r i) in
          let long : counted a r keys * listed k ≤ own r = subst (λ (c : ℕ). counted a r keys * c ≤ own r) same all in
          let within = within_counted r in
          let fits = room_fits wanted (counted a r keys) (min (outside r) (needs b r + wanted)) r bounds.1 (omega (arith, within)) (omega (arith, need)) in
          let least = bounds.0 in
          let step = listed_numbers t (listed k) r.min (counted a r keys) (min (outside r) (needs b r + wanted)) (room_above wanted r) least (omega (arith, within)) fits in
          let there : steps_of listed (filler f) f.outer b wanted r ≡ record { length = listed k; count = room_above wanted r } ∷ [] =
          ap (λ (o : Option Key). option_map_or (λ key. if is_listed b key then [] else record { length = listed key; count = room_above wanted r } ∷ []) o
          (record { length = f.outer - filler f; count = r.min } ∷ record { length = f.outer; count = room_above wanted r } ∷ [])) e
          ∙ ap (λ (x : Bool). if x then [] else record { length = listed k; count = room_above wanted r } ∷ []) g in
          let moved = ap (saved t) there in
          let saving = saved-cons t (record { length = listed k; count = room_above wanted r }) [] in
          let none : saved t [] ≡ 0 = refl in
          let times : t * needs b r ≡ t * r.min = ap (λ (n : ℕ). t * n) need in
          omega (arith, own_floor, long, step, moved, saving, none, times)

      by : (o : Option Key) → r.key ≡ o → rule_floor listed (filler f) r + t * min (outside r) (needs b r + wanted) ≤ own r + t * needs b r + saved t (steps_of listed (filler f) f.outer b wanted r)
      by (Some k) e = of_listed k e (is_listed b k) refl
      by None e =
          let own_floor = wild_floor a listed other (filler f) keys sound placed low r e in
          let need = needs_none b r e in
          let same = share_count (λ (q : Key). not (is_listed b q)) (counts_key a r) keys in
          let all = wild_share a listed other (filler f) keys sound placed low r (λ q. not (is_listed b q)) f.outer i e (omega arith)
          (λ q j none free. is.outer q none (not_true (is_listed b q) free)) in
          let within = within_counted r in
          let least = bounds.0 in
          let fits = room_fits wanted (counted a r keys) (min (outside r) (needs b r + wanted)) r bounds.1 (omega (arith, within)) (omega (arith, need)) in
          let outer_is : f.outer ≡ filler f + (f.outer - filler f) = omega arith in
          let step = wild_numbers t (filler f) (f.outer - filler f) f.outer r.min (counted a r keys) (outside r) (min (outside r) (needs b r + wanted)) (room_above wanted r) outer_is least
          (omega arith) within fits in
          let there : steps_of listed (filler f) f.outer b wanted r ≡ record { length = f.outer - filler f; count = r.min } ∷ record { length = f.outer; count = room_above wanted r } ∷ [] =
          ap (λ (o : Option Key). option_map_or (λ key. if is_listed b key then [] else record { length = listed key; count = room_above wanted r } ∷ []) o
          (record { length = f.outer - filler f; count = r.min } ∷ record { length = f.outer; count = room_above wanted r } ∷ [])) e in
          let moved = ap (saved t) there in
          let saving = saved-cons t (record { length = f.outer - filler f; count = r.min }) (record { length = f.outer; count = room_above wanted r } ∷ []) in
          let second = saved-cons t (record { length = f.outer; count = room_above wanted r }) [] in
          let none : saved t [] ≡ 0 = refl in
          let count : outside r * (f.outer - filler f) ≡ count_by (λ q. counts_key a r q && not (is_listed b q)) keys * (f.outer - filler f) = ap (λ (n : ℕ). n * (f.outer - filler f)) same in
          omega (arith, own_floor, need, all, step, moved, saving, second, none, count)

  -- with m or more that the other does not list no keys that are placed cost less
  pub many_others_within : (m n : ℕ) → m ≤ strangers b keys → IsLeastTaken (m - needed b a) (steps listed (filler f) f.outer b (m - needed b a) a) n → swapped f.base 0 n ≤ all_cost
  many_others_within m n enough cut =
      let t = cut.0 in
      let rules = sums_each (λ r. rule_floor listed (filler f) r + t * min (outside r) (needs b r + (m - needed b a)))
      (λ r. own r + t * needs b r + saved t (steps_of listed (filler f) f.outer b (m - needed b a) r)) a (each_rule t (m - needed b a)) in
      let left = sum_add (rule_floor listed (filler f)) (λ r. t * min (outside r) (needs b r + (m - needed b a))) a in
      let left_times = sum_times t (λ r. min (outside r) (needs b r + (m - needed b a))) a in
      let right = sum_add (λ r. own r + t * needs b r) (λ r. saved t (steps_of listed (filler f) f.outer b (m - needed b a) r)) a in
      let right_two = sum_add own (λ r. t * needs b r) a in
      let right_times = sum_times t (needs b) a in
      let savings = saved_sum t listed (filler f) f.outer b (m - needed b a) a in
      let needed_is = needed_sum b a in
      let least = sums_each (needs b) outside a (λ r i. needs_within a b keys r in_place i) in
      let some = all_outside in
      let trunc = truncated outside (needs b) a (m - needed b a) (m - needed b a) (λ r i. needs_within a b keys r in_place i) (omega (arith, enough, some, needed_is, least)) (omega arith) in
      let times = mul-le-mul_left t trunc in
      let split = mul-add t (sum_of (needs b) a) (m - needed b a) in
      let all = all_shares a listed other (filler f) keys sound placed low in
      let base = is.base in
      let last = cut.1 in
      omega (arith, rules, left, left_times, right, right_two, right_times, savings, times, split, all, base, last)
