-- The levels that lie in a level, while some of them wait to be read.
use Rattle.std.proofs.Common.{◌≡◌, ℕ, suc, ◌+◌, ◌<◌, ◌≤◌, List, [], ◌∷◌, ◌++◌, Option, Some, None, length, refl, sym, ap, subst, ◌∙◌, arith, inl, inr}
use Rattle.std.specs.Prelude.{◌⊎◌, ◌↔◌, Contains}
use Rattle.std.specs.List.{filter_map, cons_option}
use Rattle.std.specs.Option.{option_map}
use Rattle.std.proofs.lemmas.Option.{none-some, same_Some}
use Rattle.dia_wire.specs.Wire.{PlainAvp}
use Rattle.dia_book.specs.Dictionary.{Dictionary}
use Rattle.dia_valid.proofs.Members.{IsIn, contains_in, in_contains}
use Rattle.dia_learn.specs.declared.place.Place.{Place}
use Rattle.dia_learn.specs.Levels.{AreLevelsIn, LiesIn, PlainLevel, Reads, group_number, inside, itself, of_group}
use Rattle.dia_learn.specs.Open.{group_in}
use Rattle.dia_learn.proofs.Reading.{one_reading, shorter}

-- ---- how much there is to read

abbrev pub to_read : List (Place × List ℕ) → ℕ
to_read [] = 0
to_read (p ∷ ps) = suc (length p.1) + to_read ps

to_read-append : (ps qs : List (Place × List ℕ)) → to_read (ps ++ qs) ≡ to_read ps + to_read qs
to_read-append [] qs = omega arith
to_read-append (p ∷ ps) qs = let e = to_read-append ps qs in omega (arith, e)

to_read_groups : (d : Dictionary) (avps : List PlainAvp) (bytes : List ℕ) → Reads avps bytes → to_read (filter_map (group_in d) avps) ≤ length bytes
to_read_groups d [] bytes reads = omega arith
to_read_groups d (v ∷ vs) bytes (rest, begins, reads) = by (group_number d v) (to_read_groups d vs rest reads) (shorter v bytes rest begins)
  where
    by : (o : Option ℕ) → to_read (filter_map (group_in d) vs) ≤ length rest → 8 + length v.bytes + length rest ≤ length bytes
        → to_read (cons_option (option_map (λ (def : ℕ). (of_group def, v.bytes)) o) (filter_map (group_in d) vs)) ≤ length bytes
    by (Some def) ih s = omega (arith, ih, s)
    by None ih s = omega (arith, ih, s)

pub less_to_read : (d : Dictionary) (avps : List PlainAvp) (w : Place) (bytes : List ℕ) (before after popped : List (Place × List ℕ)) → Reads avps bytes → before ≡ popped ++ (w, bytes) ∷ []
    → after ≡ popped ++ filter_map (group_in d) avps → to_read after < to_read before
less_to_read d avps w bytes before after popped reads was is =
    let a = ap to_read was ∙ to_read-append popped ((w, bytes) ∷ []) in
    let b = ap to_read is ∙ to_read-append popped (filter_map (group_in d) avps) in
    let c = to_read_groups d avps bytes reads in
    omega (arith, a, b, c)

-- how much there is bounds each level that waits
pub one_fits : (w : Place) (bytes : List ℕ) (before popped : List (Place × List ℕ)) (most : ℕ) → before ≡ popped ++ (w, bytes) ∷ [] → to_read before ≤ most → length bytes < most
one_fits w bytes before popped most was fits =
    let a = ap to_read was ∙ to_read-append popped ((w, bytes) ∷ []) in omega (arith, a, fits)

-- ---- members

in_cases : {X : Type 0} (x : X) (xs ys : List X) → IsIn x (xs ++ ys) → IsIn x xs ⊎ IsIn x ys
in_cases x [] ys h = inr h
in_cases x (z ∷ xs) ys (inl e) = inl (inl e)
in_cases x (z ∷ xs) ys (inr h) = by (in_cases x xs ys h)
  where
    by : IsIn x xs ⊎ IsIn x ys → IsIn x (z ∷ xs) ⊎ IsIn x ys
    by (inl i) = inl (inr i)
    by (inr i) = inr i

in_left : {X : Type 0} (x : X) (xs ys : List X) → IsIn x xs → IsIn x (xs ++ ys)
in_left x [] ys h = absurd h
in_left x (z ∷ xs) ys (inl e) = inl e
in_left x (z ∷ xs) ys (inr h) = inr (in_left x xs ys h)

in_right : {X : Type 0} (x : X) (xs ys : List X) → IsIn x ys → IsIn x (xs ++ ys)
in_right x [] ys h = h
in_right x (z ∷ xs) ys h = inr (in_right x xs ys h)

-- a level that a group of these AVPs is
abbrev IsGroupOf : Dictionary → List PlainAvp → Place × List ℕ → Type 0
IsGroupOf d avps p = (v : PlainAvp) × (def : ℕ) × IsIn v avps × (group_number d v ≡ Some def) × (p ≡ (of_group def, v.bytes))

group_from : (d : Dictionary) (avps : List PlainAvp) (p : Place × List ℕ) → IsIn p (filter_map (group_in d) avps) → IsGroupOf d avps p
group_from d [] p h = absurd h
group_from d (v ∷ vs) p h = by (group_number d v) refl h (λ i. group_from d vs p i)
  where
    on : IsGroupOf d vs p → IsGroupOf d (v ∷ vs) p
    on (x, def, i, is, e) = (x, def, inr i, is, e)

    by : (o : Option ℕ) → group_number d v ≡ o → IsIn p (cons_option (option_map (λ (def : ℕ). (of_group def, v.bytes)) o) (filter_map (group_in d) vs))
        → (IsIn p (filter_map (group_in d) vs) → IsGroupOf d vs p) → IsGroupOf d (v ∷ vs) p
    by (Some def) is (inl e) ih = (v, def, inl refl, is, e)
    by (Some def) is (inr i) ih = on (ih i)
    by None is i ih = on (ih i)

group_to : (d : Dictionary) (avps : List PlainAvp) (v : PlainAvp) (def : ℕ) → IsIn v avps → group_number d v ≡ Some def → IsIn (of_group def, v.bytes) (filter_map (group_in d) avps)
group_to d [] v def h is = absurd h
group_to d (w ∷ ws) v def (inl e) is = by (group_number d w) (ap (group_number d) (sym e) ∙ is)
  where
    by : (o : Option ℕ) → o ≡ Some def → IsIn (of_group def, v.bytes) (cons_option (option_map (λ (n : ℕ). (of_group n, w.bytes)) o) (filter_map (group_in d) ws))
    by (Some n) same = inl (λ i. (of_group (same_Some def n (sym same) i), (e i).bytes))
    by None same = absurd (none-some def same)
group_to d (w ∷ ws) v def (inr h) is = by (group_number d w) (group_to d ws v def h is)
  where
    by : (o : Option ℕ) → IsIn (of_group def, v.bytes) (filter_map (group_in d) ws)
        → IsIn (of_group def, v.bytes) (cons_option (option_map (λ (n : ℕ). (of_group n, w.bytes)) o) (filter_map (group_in d) ws))
    by (Some n) i = inr i
    by None i = i

-- ---- the levels that lie in one: these are done, and the others lie in those that wait

pub record Covers (d : Dictionary) (w : Place) (bytes : List ℕ) (done : List PlainLevel) (waits : List (Place × List ℕ)) : Type 0 where
  pub sound : (l : PlainLevel) → IsIn l done → LiesIn d l w bytes
  pub waiting : (p : Place × List ℕ) → IsIn p waits → (l : PlainLevel) → LiesIn d l p.0 p.1 → LiesIn d l w bytes
  pub complete : (l : PlainLevel) → LiesIn d l w bytes → IsIn l done ⊎ ((p : Place × List ℕ) × IsIn p waits × LiesIn d l p.0 p.1)

pub all_wait : (d : Dictionary) (w : Place) (bytes : List ℕ) (waits : List (Place × List ℕ)) → waits ≡ (w, bytes) ∷ [] → Covers d w bytes [] waits
all_wait d w bytes waits is = subst (Covers d w bytes []) (sym is) (record {
  sound = λ l h. absurd h;
  waiting = one;
  complete = λ l lies. inr ((w, bytes), inl refl, lies);
})
  where
    one : (p : Place × List ℕ) → IsIn p ((w, bytes) ∷ []) → (l : PlainLevel) → LiesIn d l p.0 p.1 → LiesIn d l w bytes
    one p (inl e) l lies = subst (λ (q : Place × List ℕ). LiesIn d l q.0 q.1) e lies
    one p (inr h) l lies = absurd h

module _ (d : Dictionary) (w : Place) (bytes : List ℕ) (done : List PlainLevel) (before after popped : List (Place × List ℕ)) (x : Place) (level : List ℕ) (avps : List PlainAvp)
    (reads : Reads avps level) (was : before ≡ popped ++ (x, level) ∷ []) (is : after ≡ popped ++ filter_map (group_in d) avps) (c : Covers d w bytes done before) where
  abbrev pub own : PlainLevel
  own = record { place = x; avps = avps }

  popped_waits : (p : Place × List ℕ) → IsIn p popped → IsIn p before
  popped_waits p i = subst (IsIn p) (sym was) (in_left p popped ((x, level) ∷ []) i)

  here : (l : PlainLevel) → LiesIn d l x level → LiesIn d l w bytes
  here l lies = c.waiting (x, level) (subst (IsIn (x, level)) (sym was) (in_right (x, level) popped ((x, level) ∷ []) (inl refl))) l lies

  sound_now : (l : PlainLevel) → IsIn l (own ∷ done) → LiesIn d l w bytes
  sound_now l (inl e) = here l (subst (λ (m : PlainLevel). LiesIn d m x level) (sym e) (itself refl reads))
  sound_now l (inr i) = c.sound l i

  waiting_now : (p : Place × List ℕ) → IsIn p after → (l : PlainLevel) → LiesIn d l p.0 p.1 → LiesIn d l w bytes
  waiting_now p i l lies = by (in_cases p popped (filter_map (group_in d) avps) (subst (IsIn p) is i))
    where
      group : IsGroupOf d avps p → LiesIn d l w bytes
      group (v, def, i', number, e) = here l (inside avps v def reads (contains_in avps v i') number (subst (λ (q : Place × List ℕ). LiesIn d l q.0 q.1) e lies))

      by : IsIn p popped ⊎ IsIn p (filter_map (group_in d) avps) → LiesIn d l w bytes
      by (inl i') = c.waiting p (popped_waits p i') l lies
      by (inr i') = group (group_from d avps p i')

  abbrev Is : PlainLevel → Type 0
  Is l = IsIn l (own ∷ done) ⊎ ((p : Place × List ℕ) × IsIn p after × LiesIn d l p.0 p.1)

  waits_after : (p : Place × List ℕ) (l : PlainLevel) → IsIn p (popped ++ filter_map (group_in d) avps) → LiesIn d l p.0 p.1 → Is l
  waits_after p l i lies = inr (p, subst (IsIn p) (sym is) i, lies)

  in_level : (l : PlainLevel) → LiesIn d l x level → Is l
  in_level l (itself e r) =
      let same = one_reading l.avps avps level r reads in
      inl (inl (λ i. record { place = e i; avps = same i }))
  in_level l (inside around v def r has number lies) =
      let same = one_reading around avps level r reads in
      let i = subst (IsIn v) same (in_contains around v has) in
      waits_after (of_group def, v.bytes) l (in_right _ popped (filter_map (group_in d) avps) (group_to d avps v def i number)) lies

  complete_now : (l : PlainLevel) → LiesIn d l w bytes → Is l
  complete_now l lies = by (c.complete l lies)
    where
      one : (p : Place × List ℕ) → IsIn p popped ⊎ IsIn p ((x, level) ∷ []) → LiesIn d l p.0 p.1 → Is l
      one p (inl i) lies' = waits_after p l (in_left p popped (filter_map (group_in d) avps) i) lies'
      one p (inr (inl e)) lies' = in_level l (subst (λ (q : Place × List ℕ). LiesIn d l q.0 q.1) e lies')
      one p (inr (inr i)) lies' = absurd i

      by : IsIn l done ⊎ ((p : Place × List ℕ) × IsIn p before × LiesIn d l p.0 p.1) → Is l
      by (inl i) = inl (inr i)
      by (inr (p, i, lies')) = one p (in_cases p popped ((x, level) ∷ []) (subst (IsIn p) was i)) lies'

  pub one_read : Covers d w bytes (own ∷ done) after
  one_read = record { sound = sound_now; waiting = waiting_now; complete = complete_now }

pub none_waits : (d : Dictionary) (w : Place) (bytes : List ℕ) (done : List PlainLevel) (waits : List (Place × List ℕ)) → waits ≡ [] → Covers d w bytes done waits → AreLevelsIn d w bytes done
none_waits d w bytes done waits none c l = (λ has. c.sound l (in_contains done l has), λ lies. contains_in done l (by (c.complete l lies)))
  where
    by : IsIn l done ⊎ ((p : Place × List ℕ) × IsIn p waits × LiesIn d l p.0 p.1) → IsIn l done
    by (inl i) = i
    by (inr (p, i, lies)) = absurd (subst (IsIn p) none i)
