-- Names of lists and of a dictionary.
use Rattle.std.proofs.Common.{◌≡◌, ℕ, zero, suc, ◌+◌, ◌<◌, ◌≤◌, ◌==◌, Bool, true, false, ◌||◌, cond, Bor, List, [], ◌∷◌, ◌++◌, length, take, find, map, Option, Some, None, refl, sym, ap, subst, ◌∙◌, arith}
use Rattle.std.specs.Prelude.{IfSome, slice_get, slice_index_or}
use Rattle.std.specs.HashSet.{HashSet, IsFromIterResult, contains_by}
use Rattle.std.specs.List.{cons_option, filter_map, list_any}
use Rattle.std.specs.Option.{option_map, option_or}
use Rattle.std.specs.Str.{bytes_eq}
use Rattle.std.specs.Cmp.Lexicographic.{bytes_decides}
use Rattle.std.proofs.lemmas.Bool.{cond-false, cond-true}
use Rattle.std.proofs.lemmas.List.{take_all}
use Rattle.std.proofs.lemmas.List.Elements.{filter_map-append}
use Rattle.std.proofs.lemmas.List.Folds.{find-append}
use Rattle.std.proofs.lemmas.Option.{none-some, same_Some}
use Rattle.dia_dict.specs.Dictionary.{DictEntry}
use Rattle.dia_mask.specs.Choosing.{is_replaceable}
use Rattle.dia_mask_text.specs.declared.choosing.BadName.{BadName}
use Rattle.dia_mask_text.specs.declared.choosing.Why.{Why}
use Rattle.dia_mask_text.specs.Names.{is_listed, names_of, replaceable_in, with_faults}
use Rattle.dia_mask_text.specs.Naming.{fault_of, texts}

-- ---- the names of a list

any_texts : (test : List ℕ → Bool) (names : List (Bor (List ℕ))) → list_any (λ k. test k.now) names ≡ list_any test (texts names)
any_texts test [] = refl
any_texts test (name ∷ names) = ap (λ b. test name.now || b) (any_texts test names)

pub made_set : {S : Type 0} (names : List (Bor (List ℕ))) (set : HashSet (Bor (List ℕ)) S) (list : Option (List ℕ)) → IsFromIterResult (λ (x y : Bor (List ℕ)). bytes_eq x.now y.now) names set → texts names ≡ names_of list
    → (q : List ℕ) → contains_by (λ (k : Bor (List ℕ)). bytes_eq q k.now) set ≡ is_listed list q
made_set names set list made are q =
    made.0 (record { ref_ptr = (0, 0); now = q }) ∙ any_texts (bytes_eq q) names ∙ ap (list_any (bytes_eq q)) are

-- ---- the first that has a fault

module _ {X R : Type 0} (g : X → List ℕ) (h : List ℕ → Option R) where
  here : (ys : List R) (o : Option R) (r : R) → o ≡ Some r → slice_get (cons_option o ys) 0 ≡ Some r
  here ys o r is = ap (λ (x : Option R). slice_get (cons_option x ys) 0) is

  not_here : (ys : List R) (o : Option R) → cons_option o ys ≡ [] → (o ≡ None) × (ys ≡ [])
  not_here ys None none = (refl, none)
  not_here ys (Some r) none = absurd (let z : (r ∷ ys) ≡ [] = none in cc)

  pub first_here : (xs : List X) (i : ℕ) (d : X) (r : R) → i < length xs → filter_map h (map g (take i xs)) ≡ [] → h (g (slice_index_or xs i d)) ≡ Some r → slice_get (filter_map h (map g xs)) 0 ≡ Some r
  first_here [] i d r within none is = absurd (omega (arith, within))
  first_here (x ∷ xs) zero d r within none is = here (filter_map h (map g xs)) (h (g x)) r is
  first_here (x ∷ xs) (suc i) d r within none is =
      let (fails, later) = not_here (filter_map h (map g (take i xs))) (h (g x)) none in
      ap (λ (o : Option R). slice_get (cons_option o (filter_map h (map g xs))) 0) fails ∙ first_here xs i d r (omega (arith, within)) later is

  next : (xs : List X) (i : ℕ) (d : X) → i < length xs → filter_map h (map g (take i xs)) ≡ [] → h (g (slice_index_or xs i d)) ≡ None → filter_map h (map g (take (suc i) xs)) ≡ []
  next [] i d within none fails = absurd (omega (arith, within))
  next (x ∷ xs) zero d within none fails = ap (λ (o : Option R). cons_option o []) fails
  next (x ∷ xs) (suc i) d within none fails =
      let (failed, later) = not_here (filter_map h (map g (take i xs))) (h (g x)) none in
      ap (λ (o : Option R). cons_option o (filter_map h (map g (take (suc i) xs)))) failed ∙ next xs i d (omega (arith, within)) later fails

  pub none_more : (xs : List X) (i : ℕ) (d : X) → i < length xs → filter_map h (map g (take i xs)) ≡ [] → h (g (slice_index_or xs i d)) ≡ None → filter_map h (map g (take (i + 1) xs)) ≡ []
  none_more xs i d within none fails = ap (λ (n : ℕ). filter_map h (map g (take n xs))) (let e : i + 1 ≡ suc i = omega arith in e) ∙ next xs i d within none fails

  pub none_at_all : (xs : List X) (n : ℕ) → length xs ≤ n → filter_map h (map g (take n xs)) ≡ [] → slice_get (filter_map h (map g xs)) 0 ≡ None
  none_at_all xs n all none = ap (λ (ys : List X). slice_get (filter_map h (map g ys)) 0) (sym (take_all n xs all)) ∙ ap (λ (rs : List R). slice_get rs 0) none

-- ---- the first of several lists

first_append : {X : Type 0} (xs ys : List X) → slice_get (xs ++ ys) 0 ≡ option_or (slice_get xs 0) (slice_get ys 0)
first_append [] ys = refl
first_append (x ∷ xs) ys = refl

first_fault : (f : List ℕ → Option Why) (xs ys : List (List ℕ)) → slice_get (with_faults f (xs ++ ys)) 0 ≡ option_or (slice_get (with_faults f xs) 0) (slice_get (with_faults f ys) 0)
first_fault f xs ys =
    ap (λ (t : List (List ℕ × Why)). slice_get t 0) (filter_map-append (λ name. option_map (λ why. (name, why)) (f name)) xs ys)
    ∙ first_append (with_faults f xs) (with_faults f ys)

pub faults_or : (a b : Option BadName) → fault_of (option_or a b) ≡ option_or (fault_of a) (fault_of b)
faults_or None b = refl
faults_or (Some a) b = refl

-- in three lists, and by another fault in the last one
pub first_of_lists : (f g : List ℕ → Option Why) (xs ys zs : List (List ℕ)) (a b c e : Option BadName) → fault_of a ≡ slice_get (with_faults f xs) 0 → fault_of b ≡ slice_get (with_faults f ys) 0
    → fault_of c ≡ slice_get (with_faults f zs) 0 → fault_of e ≡ slice_get (with_faults g zs) 0
    → fault_of (option_or (option_or (option_or a b) c) e) ≡ slice_get (with_faults f (xs ++ ys ++ zs) ++ with_faults g zs) 0
first_of_lists f g xs ys zs a b c e is_a is_b is_c is_e =
    let two : fault_of (option_or a b) ≡ slice_get (with_faults f (xs ++ ys)) 0 =
    faults_or a b ∙ ap (λ (o : Option (List ℕ × Why)). option_or o (fault_of b)) is_a ∙ ap (option_or (slice_get (with_faults f xs) 0)) is_b ∙ sym (first_fault f xs ys) in
    let three : fault_of (option_or (option_or a b) c) ≡ slice_get (with_faults f (xs ++ ys ++ zs)) 0 =
    faults_or (option_or a b) c ∙ ap (λ (o : Option (List ℕ × Why)). option_or o (fault_of c)) two ∙ ap (option_or (slice_get (with_faults f (xs ++ ys)) 0)) is_c ∙ sym (first_fault f (xs ++ ys) zs) in
    faults_or (option_or (option_or a b) c) e ∙ ap (λ (o : Option (List ℕ × Why)). option_or o (fault_of e)) three ∙ ap (option_or (slice_get (with_faults f (xs ++ ys ++ zs)) 0)) is_e
    ∙ sym (first_append (with_faults f (xs ++ ys ++ zs)) (with_faults g zs))

-- ---- the names of a dictionary

place_in : (p : DictEntry → Bool) (xs : List DictEntry) (n : ℕ) (y : DictEntry) → find p (take n xs) ≡ Some y → (i : ℕ) × (i < n) × (slice_get xs i ≡ Some y) × (p y ≡ true)
place_in p [] zero y is = absurd (none-some y is)
place_in p [] (suc n) y is = absurd (none-some y is)
place_in p (x ∷ xs) zero y is = absurd (none-some y is)
place_in p (x ∷ xs) (suc n) y is = by (p x) refl is (place_in p xs n y)
  where
    by : (b : Bool) → p x ≡ b → cond b (Some x) (find p (take n xs)) ≡ Some y
        → (find p (take n xs) ≡ Some y → (i : ℕ) × (i < n) × (slice_get xs i ≡ Some y) × (p y ≡ true))
        → (i : ℕ) × (i < suc n) × (slice_get (x ∷ xs) i ≡ Some y) × (p y ≡ true)
    by true passes same ih = (0, omega arith, same, ap p (sym (same_Some x y same)) ∙ passes)
    by false fails later ih = let (i, less, at, passes) = ih later in (suc i, omega (arith, less), at, passes)

next_taken : (xs : List DictEntry) (n : ℕ) (e : DictEntry) → slice_get xs n ≡ Some e → take (suc n) xs ≡ take n xs ++ e ∷ []
next_taken [] n e at = absurd (none-some e at)
next_taken (x ∷ xs) zero e at = ap (λ (y : DictEntry). y ∷ []) (same_Some x e at)
next_taken (x ∷ xs) (suc n) e at = ap (λ (ys : List DictEntry). x ∷ ys) (next_taken xs n e at)

module _ (entries : List DictEntry) (distinct : (i j : ℕ) (x y : DictEntry) → slice_get entries i ≡ Some x → slice_get entries j ≡ Some y → x.name ≡ y.name → i ≡ j)
    (n : ℕ) (e : DictEntry) (at : slice_get entries n ≡ Some e) (q : List ℕ) where
  none_before : q ≡ e.name → (o : Option DictEntry) → find (λ (x : DictEntry). bytes_eq q x.name) (take n entries) ≡ o → o ≡ None
  none_before same None is = refl
  none_before same (Some y) is =
      let (i, less, there, passes) = place_in (λ (x : DictEntry). bytes_eq q x.name) entries n y is in
      let one : i ≡ n = distinct i n y e there at (sym ((bytes_decides q y.name).0 passes) ∙ same) in
      absurd (omega (arith, less, one))

  found_next : find (λ (x : DictEntry). bytes_eq q x.name) (take (n + 1) entries)
      ≡ option_or (find (λ (x : DictEntry). bytes_eq q x.name) (take n entries)) (cond (bytes_eq q e.name) (Some e) None)
  found_next = ap (λ (k : ℕ). find (λ (x : DictEntry). bytes_eq q x.name) (take k entries)) (let k : n + 1 ≡ suc n = omega arith in k)
      ∙ ap (find (λ (x : DictEntry). bytes_eq q x.name)) (next_taken entries n e at) ∙ find-append (λ (x : DictEntry). bytes_eq q x.name) (take n entries) (e ∷ [])

  pub known_more : (old new : Option Bool) → old ≡ replaceable_in (take n entries) q → new ≡ cond (bytes_eq e.name q) (Some (is_replaceable e.format)) old → new ≡ replaceable_in (take (n + 1) entries) q
  known_more old new before updates = by (bytes_eq e.name q) refl
    where
      either : (o : Option DictEntry) → option_or o None ≡ o
      either None = refl
      either (Some x) = refl

      differ : bytes_eq e.name q ≡ false → (b : Bool) → bytes_eq q e.name ≡ b → b ≡ false
      differ other false is = refl
      differ other true is = absurd (let z : true ≡ false = sym ((bytes_decides e.name q).1 (sym ((bytes_decides q e.name).0 is))) ∙ other in cc)

      by : (b : Bool) → bytes_eq e.name q ≡ b → new ≡ replaceable_in (take (n + 1) entries) q
      by true same =
          let is_q : q ≡ e.name = sym ((bytes_decides e.name q).0 same) in
          updates ∙ cond-true (bytes_eq e.name q) (Some (is_replaceable e.format)) old same
          ∙ sym (ap (λ (o : Option DictEntry). option_map (λ (x : DictEntry). is_replaceable x.format) o) (found_next
          ∙ ap (λ (o : Option DictEntry). option_or o (cond (bytes_eq q e.name) (Some e) None)) (none_before is_q (find (λ (x : DictEntry). bytes_eq q x.name) (take n entries)) refl)
          ∙ cond-true (bytes_eq q e.name) (Some e) None ((bytes_decides q e.name).1 is_q)))
      by false other =
          updates ∙ cond-false (bytes_eq e.name q) (Some (is_replaceable e.format)) old other ∙ before
          ∙ sym (ap (λ (o : Option DictEntry). option_map (λ (x : DictEntry). is_replaceable x.format) o) (found_next
          ∙ ap (option_or (find (λ (x : DictEntry). bytes_eq q x.name) (take n entries))) (cond-false (bytes_eq q e.name) (Some e) None (differ other (bytes_eq q e.name) refl))
          ∙ either (find (λ (x : DictEntry). bytes_eq q x.name) (take n entries))))

-- ---- entries

pub there_is : (xs : List DictEntry) (n : ℕ) → n < length xs → (e : DictEntry) × (slice_get xs n ≡ Some e)
there_is [] n within = absurd (omega (arith, within))
there_is (x ∷ xs) zero within = (x, refl)
there_is (x ∷ xs) (suc n) within = there_is xs n (omega (arith, within))

-- what a look-up of the entry at a place says of it
pub at_entry : (P : DictEntry → Type 0) (xs : List DictEntry) (n k : ℕ) (e : DictEntry) → k ≡ n → IfSome (slice_get xs k) P → slice_get xs n ≡ Some e → P e
at_entry P xs n k e same h at = subst (λ (o : Option DictEntry). IfSome o P) (ap (slice_get xs) same ∙ at) h

-- the first of a list's names that has a fault
pub first_listed : (f : List ℕ → Option Why) (names items : List (Bor (List ℕ))) (list : Option (List ℕ)) (o : Option BadName) → fault_of o ≡ slice_get (with_faults f (texts names)) 0 → names ≡ items
    → texts items ≡ names_of list → fault_of o ≡ slice_get (with_faults f (names_of list)) 0
first_listed f names items list o is same are =
    is ∙ ap (λ (xs : List (Bor (List ℕ))). slice_get (with_faults f (texts xs)) 0) same ∙ ap (λ (t : List (List ℕ)). slice_get (with_faults f t) 0) are
