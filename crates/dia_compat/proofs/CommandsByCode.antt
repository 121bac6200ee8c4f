-- Which commands of B may be selected for messages of a command of A: those of its code, or the one that is selected.
use Rattle.std.proofs.Common.{◌≡◌, ◌≢◌, ℕ, zero, suc, ◌+◌, arith, Bool, true, false, not, cond, ◌&&◌, ◌==◌, List, [], ◌∷◌}
use Rattle.std.proofs.Common.{◌++◌, map, filter, take, Option, Some, None, option_to_list, refl, sym, ap, subst, ◌∙◌, inl, inr}
use Rattle.std.specs.Prelude.{◌⊎◌, ◌||◌, slice_get, is_some, option_and_then}
use Rattle.std.specs.List.{list_all, list_any, filter_map, cons_option}
use Rattle.std.proofs.lemmas.Bool.{and_parts, and_from, not-true, false_from_ne_true}
use Rattle.std.proofs.lemmas.Option.{same_Some}
use Rattle.std.proofs.lemmas.List.Elements.{filter-append}
use Rattle.dia_book.specs.declared.Class.{Class}
use Rattle.dia_book.specs.declared.Class.TheVariants as classes
use Rattle.dia_book.specs.declared.Pxy.{Pxy}
use Rattle.dia_book.specs.declared.DefHead.{DefHead}
use Rattle.dia_book.specs.declared.DefHead.TheVariants.{Group, Command, Error}
use Rattle.dia_book.specs.Dictionary.{Dictionary, PlainDefinition, IsDictionary, IsSameSelector, definitions, groups, selected, is_command, same_class}
use Rattle.dia_book.proofs.Members.{into_right}
use Rattle.dia_compat.specs.Closed.{IsError}
use Rattle.dia_compat.specs.Sides.{Sides}
use Rattle.dia_compat.specs.PairTests.{names_app, is_wanted, serves, is_selected}
use Rattle.dia_valid.proofs.Members.{IsIn, in_at, at_in, any_in, in_any, taken}
use Rattle.dia_valid.proofs.SelectedCommands.{Choice, NoChoice, choose, Reads, reads, class_same}

-- ---- what holds of some members alone

pub one_filtered : {X : Type 0} (p : X → Bool) (xs : List X) (i : ℕ) (x : X) → slice_get xs i ≡ Some x → filter p (take (i + 1) xs) ≡ filter p (take i xs) ++ filter p (x ∷ [])
one_filtered p xs i x at = ap (filter p) (taken xs i x at) ∙ filter-append p (take i xs) (x ∷ [])

none_both : (b : Bool) → b ≡ true → b ≡ false → ⊥
none_both b e f = let g : true ≡ false = sym e ∙ f in cc

pub and_true : (b : Bool) → (b && true) ≡ b
and_true true = refl
and_true false = refl

pub any_kept : {X : Type 0} (p q : X → Bool) → ((x : X) → p x ≡ true → q x ≡ true) → (xs : List X) → list_any p (filter q xs) ≡ list_any p xs
any_kept p q implied [] = refl
any_kept {X} p q implied (x ∷ xs) = by (p x) (q x) refl refl (any_kept p q implied xs)
  where
    by : (a b : Bool) → p x ≡ a → q x ≡ b → list_any p (filter q xs) ≡ list_any p xs → list_any p (cond b (x ∷ filter q xs) (filter q xs)) ≡ (a || list_any p xs)
    by a true e f ih = ap (λ (c : Bool). c || list_any p (filter q xs)) e ∙ ap (λ (c : Bool). a || c) ih
    by false false e f ih = ih
    by true false e f ih = absurd (none_both (q x) (implied x e) f)

pub all_kept : {X : Type 0} (p q : X → Bool) → ((x : X) → q x ≡ false → p x ≡ true) → (xs : List X) → list_all p (filter q xs) ≡ list_all p xs
all_kept p q implied [] = refl
all_kept {X} p q implied (x ∷ xs) = by (p x) (q x) refl refl (all_kept p q implied xs)
  where
    by : (a b : Bool) → p x ≡ a → q x ≡ b → list_all p (filter q xs) ≡ list_all p xs → list_all p (cond b (x ∷ filter q xs) (filter q xs)) ≡ (a && list_all p xs)
    by a true e f ih = ap (λ (c : Bool). c && list_all p (filter q xs)) e ∙ ap (λ (c : Bool). a && c) ih
    by true false e f ih = ih
    by false false e f ih = absurd (none_both (p x) (implied x f) e)

pub filter_map_kept : {X Y : Type 0} (h : X → Option Y) (q : X → Bool) → ((x : X) → q x ≡ false → h x ≡ None) → (xs : List X) → filter_map h (filter q xs) ≡ filter_map h xs
filter_map_kept h q none [] = refl
filter_map_kept {X} {Y} h q none (x ∷ xs) = by (q x) refl (filter_map_kept h q none xs)
  where
    by : (b : Bool) → q x ≡ b → filter_map h (filter q xs) ≡ filter_map h xs → filter_map h (cond b (x ∷ filter q xs) (filter q xs)) ≡ cons_option (h x) (filter_map h xs)
    by true f ih = ap (λ (ys : List Y). cons_option (h x) ys) ih
    by false f ih = ih ∙ ap (λ (o : Option Y). cons_option o (filter_map h xs)) (sym (none x f))

pub all_filtered : {X : Type 0} (w p : X → Bool) (xs : List X) → list_all (λ x. not (w x) || p x) xs ≡ list_all p (filter w xs)
all_filtered w p [] = refl
all_filtered {X} w p (x ∷ xs) = by (w x) (all_filtered w p xs)
  where
    by : (b : Bool) → list_all (λ y. not (w y) || p y) xs ≡ list_all p (filter w xs) → ((not b || p x) && list_all (λ y. not (w y) || p y) xs) ≡ list_all p (cond b (x ∷ filter w xs) (filter w xs))
    by true ih = ap (λ (c : Bool). p x && c) ih
    by false ih = ih

pub filter_map_map : {X Y Z : Type 0} (h : Y → Option Z) (f : X → Y) (xs : List X) → filter_map h (map f xs) ≡ filter_map (λ x. h (f x)) xs
filter_map_map h f [] = refl
filter_map_map {X} {Y} {Z} h f (x ∷ xs) = ap (λ (zs : List Z). cons_option (h (f x)) zs) (filter_map_map h f xs)

pub names_filtered : {X Y : Type 0} (w : X → Bool) (name : X → Y) (xs : List X) → filter_map (λ x. cond (w x) (Some (name x)) None) xs ≡ map name (filter w xs)
names_filtered w name [] = refl
names_filtered {X} {Y} w name (x ∷ xs) = by (w x) (names_filtered w name xs)
  where
    by : (b : Bool) → filter_map (λ y. cond (w y) (Some (name y)) None) xs ≡ map name (filter w xs)
        → cons_option (cond b (Some (name x)) None) (filter_map (λ y. cond (w y) (Some (name y)) None) xs) ≡ map name (cond b (x ∷ filter w xs) (filter w xs))
    by true ih = ap (λ (ys : List Y). name x ∷ ys) ih
    by false ih = ih

-- ---- one member that passes

filter_none : {X : Type 0} (p : X → Bool) (xs : List X) → ((x : X) → IsIn x xs → p x ≡ false) → filter p xs ≡ []
filter_none p [] none = refl
filter_none {X} p (x ∷ xs) none = ap (λ (b : Bool). cond b (x ∷ filter p xs) (filter p xs)) (none x (inl refl)) ∙ filter_none p xs (λ y i. none y (inr i))

any_none : {X : Type 0} (p : X → Bool) (xs : List X) → ((x : X) → IsIn x xs → p x ≡ false) → list_any p xs ≡ false
any_none p xs none = false_from_ne_true (list_any p xs) (λ e. let r = any_in p xs e in none_both (p r.0) r.2 (none r.0 r.1))

no_later : (i : ℕ) → suc i ≡ 0 → ⊥
no_later i e = absurd (omega (arith, e))

filter_one : {X : Type 0} (p : X → Bool) (xs : List X) (i : ℕ) (x : X) → slice_get xs i ≡ Some x → p x ≡ true → ((j : ℕ) (y : X) → slice_get xs j ≡ Some y → p y ≡ true → j ≡ i) → filter p xs ≡ x ∷ []
filter_one p [] i x at e one = absurd (let f : None ≡ Some x = at in cc)
filter_one {X} p (y ∷ ys) zero x at e one =
    let same : y ≡ x = same_Some y x at in
    ap (λ (b : Bool). cond b (y ∷ filter p ys) (filter p ys)) (ap p same ∙ e)
    ∙ ap (λ (zs : List X). y ∷ zs) (filter_none p ys (λ z i. false_from_ne_true (p z) (λ f. let r = at_in ys z i in no_later r.place (one (suc r.place) z r.at f))))
    ∙ ap (λ (z : X). z ∷ []) same
filter_one {X} p (y ∷ ys) (suc i) x at e one =
    ap (λ (b : Bool). cond b (y ∷ filter p ys) (filter p ys)) (false_from_ne_true (p y) (λ f. no_later i (sym (one 0 y refl f))))
    ∙ filter_one p ys i x at e (λ j z there f. let s = one (suc j) z there f in omega (arith, s))

module _ (d : Dictionary) (code : ℕ) (class : Class) (app : ℕ) (w : PlainDefinition → Bool) (chosen : (x : Choice d code class app) → w x.command ≡ true)
    (none : NoChoice d code class app → (x : PlainDefinition) → IsIn x d.commands → w x ≡ false) where
  abbrev selection : Option PlainDefinition
  selection = option_and_then (slice_get (definitions d)) (selected d code class app)

  selects : (x : Choice d code class app) → selection ≡ Some x.command
  selects x = ap (option_and_then (slice_get (definitions d))) x.is_selected ∙ into_right (groups d) d.commands x.place x.command x.at

  selects_none : NoChoice d code class app → selection ≡ None
  selects_none x = ap (option_and_then (slice_get (definitions d))) x.is_none

  any_selected : list_any w d.commands ≡ is_some selection
  any_selected = by (choose d code class app)
    where
      by : Choice d code class app ⊎ NoChoice d code class app → list_any w d.commands ≡ is_some selection
      by (inl x) = in_any w d.commands x.command (in_at d.commands x.place x.command x.at) (chosen x) ∙ ap (λ (o : Option PlainDefinition). is_some o) (sym (selects x))
      by (inr x) = any_none w d.commands (none x) ∙ ap (λ (o : Option PlainDefinition). is_some o) (sym (selects_none x))

  only_selected : ((j k : ℕ) (y z : PlainDefinition) → slice_get d.commands j ≡ Some y
      → slice_get d.commands k ≡ Some z → w y ≡ true → w z ≡ true → j ≡ k) → filter w d.commands ≡ option_to_list selection
  only_selected one = by (choose d code class app)
    where
      by : Choice d code class app ⊎ NoChoice d code class app → filter w d.commands ≡ option_to_list selection
      by (inl x) =
          filter_one w d.commands x.place x.command x.at (chosen x) (λ j y at e. one j x.place y x.command at x.at e (chosen x))
          ∙ ap (λ (o : Option PlainDefinition). option_to_list o) (sym (selects x))
      by (inr x) = filter_none w d.commands (none x) ∙ ap (λ (o : Option PlainDefinition). option_to_list o) (sym (selects_none x))

-- ---- a command for one application

module _ (sides : Sides) (sb : IsDictionary sides.second) (code : ℕ) (class : Class) (app : ℕ) (p : Pxy) (other : class ≢ classes.Error) where
  abbrev pub own : DefHead → Bool
  own h = is_command code class (Some app) h

  abbrev open_to : DefHead → Bool
  open_to h = is_command code class None h

  abbrev wanted : DefHead → Bool
  wanted h = is_wanted sides (Command code class (Some app) p) h

  abbrev served : DefHead → Bool
  served h = serves (Command code class (Some app) p) h

  no_error : {A : Type 0} → same_class class classes.Error ≡ true → A
  no_error e = absurd (other (class_same class classes.Error e))

  own_wanted : (h : DefHead) → own h ≡ true → wanted h ≡ true
  own_wanted (Group key) e = absurd (let f : false ≡ true = e in cc)
  own_wanted (Command c cl None q) e = absurd (let f : false ≡ true = (and_parts ((code == c) && same_class class cl) false e).1 in cc)
  own_wanted (Command c cl (Some a) q) e = e
  own_wanted (Error q) e = no_error e

  open_wanted : (h : DefHead) → open_to h ≡ true → names_app sides.second code class app ≡ false → wanted h ≡ true
  open_wanted (Group key) e f = absurd (let g : false ≡ true = e in cc)
  open_wanted (Command c cl None q) e f =
      and_from ((code == c) && same_class class cl) (not (names_app sides.second code class app)) (and_parts ((code == c) && same_class class cl) true e).0 (ap (λ (b : Bool). not b) f)
  open_wanted (Command c cl (Some a) q) e f = absurd (let g : false ≡ true = (and_parts ((code == c) && same_class class cl) false e).1 in cc)
  open_wanted (Error q) e f = no_error e

  wanted_is : (h : DefHead) → wanted h ≡ true → (own h ≡ true) ⊎ ((open_to h ≡ true) × (names_app sides.second code class app ≡ false))
  wanted_is (Group key) e = absurd (let f : false ≡ true = e in cc)
  wanted_is (Command c cl None q) e =
      let s = and_parts ((code == c) && same_class class cl) (not (names_app sides.second code class app)) e in
      inr (and_from ((code == c) && same_class class cl) true s.0 refl, not-true (names_app sides.second code class app) s.1)
  wanted_is (Command c cl (Some a) q) e = inl e
  wanted_is (Error q) e = absurd (let f : false ≡ true = e in cc)

  own_served : (h : DefHead) → own h ≡ true → served h ≡ true
  own_served (Group key) e = absurd (let f : false ≡ true = e in cc)
  own_served (Command c cl None q) e = absurd (let f : false ≡ true = (and_parts ((code == c) && same_class class cl) false e).1 in cc)
  own_served (Command c cl (Some a) q) e = e
  own_served (Error q) e = no_error e

  open_served : (h : DefHead) → open_to h ≡ true → served h ≡ true
  open_served (Group key) e = absurd (let g : false ≡ true = e in cc)
  open_served (Command c cl None q) e = e
  open_served (Command c cl (Some a) q) e = absurd (let g : false ≡ true = (and_parts ((code == c) && same_class class cl) false e).1 in cc)
  open_served (Error q) e = no_error e

  served_is : (h : DefHead) → served h ≡ true → (own h ≡ true) ⊎ (open_to h ≡ true)
  served_is (Group key) e = absurd (let f : false ≡ true = e in cc)
  served_is (Command c cl None q) e = inr e
  served_is (Command c cl (Some a) q) e = inl e
  served_is (Error q) e = absurd (let f : false ≡ true = e in cc)

  named_by : (y : PlainDefinition) (i : ℕ) → slice_get sides.second.commands i ≡ Some y → own y.head ≡ true → names_app sides.second code class app ≡ false → ⊥
  named_by y i at e f = none_both (names_app sides.second code class app) (in_any (λ (c : PlainDefinition). own c.head) sides.second.commands y (in_at sides.second.commands i y at) e) f

  same_for : (y z : PlainDefinition) (a : Option ℕ) → Reads y code class a → Reads z code class a → IsSameSelector y.head z.head
  same_for y z a (inl r) s = absurd (other r.1)
  same_for y z a (inr r) (inl s) = absurd (other s.1)
  same_for y z a (inr r) (inr s) =
      subst (λ (h : DefHead). IsSameSelector h z.head) (sym r.0.head) (subst (λ (h : DefHead). IsSameSelector (Command code class a r.0.p) h) (sym s.0.head) (refl, refl, refl))

  one_wanted : (j k : ℕ) (y z : PlainDefinition) → slice_get sides.second.commands j ≡ Some y → slice_get sides.second.commands k ≡ Some z → wanted y.head ≡ true → wanted z.head ≡ true → j ≡ k
  one_wanted j k y z at there e f = by (wanted_is y.head e) (wanted_is z.head f)
    where
      reads_as : (x : PlainDefinition) (i : ℕ) (a : Option ℕ) → slice_get sides.second.commands i ≡ Some x → is_command code class a x.head ≡ true → Reads x code class a
      reads_as x i a here g = reads sides.second x code class a sb (in_at sides.second.commands i x here) g

      by : ((own y.head ≡ true) ⊎ ((open_to y.head ≡ true) × (names_app sides.second code class app ≡ false))) → ((own z.head ≡ true) ⊎ ((open_to z.head ≡ true) × (names_app sides.second code class app ≡ false))) → j ≡ k
      by (inl g) (inl h) = sb.distinct_selectors j k y z at there (same_for y z (Some app) (reads_as y j (Some app) at g) (reads_as z k (Some app) there h))
      by (inl g) (inr h) = absurd (named_by y j at g h.1)
      by (inr g) (inl h) = absurd (named_by z k there h g.1)
      by (inr g) (inr h) = sb.distinct_selectors j k y z at there (same_for y z None (reads_as y j None at g.0) (reads_as z k None there h.0))

  chosen_wanted : (x : Choice sides.second code class app) → wanted x.command.head ≡ true
  chosen_wanted x = by x.how
    where
      by : (own x.command.head ≡ true) ⊎ ((open_to x.command.head ≡ true) × ((y : PlainDefinition) → IsIn y sides.second.commands → own y.head ≡ false)) → wanted x.command.head ≡ true
      by (inl e) = own_wanted x.command.head e
      by (inr (e, none)) = open_wanted x.command.head e (any_none (λ (c : PlainDefinition). own c.head) sides.second.commands none)

  chosen_served : (x : Choice sides.second code class app) → served x.command.head ≡ true
  chosen_served x = by x.how
    where
      by : (own x.command.head ≡ true) ⊎ ((open_to x.command.head ≡ true) × ((y : PlainDefinition) → IsIn y sides.second.commands → own y.head ≡ false)) → served x.command.head ≡ true
      by (inl e) = own_served x.command.head e
      by (inr (e, none)) = open_served x.command.head e

  none_wanted : NoChoice sides.second code class app → (x : PlainDefinition) → IsIn x sides.second.commands → wanted x.head ≡ false
  none_wanted n x i = false_from_ne_true (wanted x.head) (λ e. by (wanted_is x.head e))
    where
      by : (own x.head ≡ true) ⊎ ((open_to x.head ≡ true) × (names_app sides.second code class app ≡ false)) → ⊥
      by (inl e) = none_both (own x.head) e (n.no_own x i)
      by (inr e) = none_both (open_to x.head) e.0 (n.no_common x i)

  none_served : NoChoice sides.second code class app → (x : PlainDefinition) → IsIn x sides.second.commands → served x.head ≡ false
  none_served n x i = false_from_ne_true (served x.head) (λ e. by (served_is x.head e))
    where
      by : (own x.head ≡ true) ⊎ (open_to x.head ≡ true) → ⊥
      by (inl e) = none_both (own x.head) e (n.no_own x i)
      by (inr e) = none_both (open_to x.head) e (n.no_common x i)

  pub own_only : filter (λ (d : PlainDefinition). wanted d.head) sides.second.commands ≡ option_to_list (option_and_then (slice_get (definitions sides.second)) (selected sides.second code class app))
  own_only = only_selected sides.second code class app (λ (d : PlainDefinition). wanted d.head) chosen_wanted none_wanted one_wanted

  pub own_any : list_any (λ (d : PlainDefinition). served d.head) sides.second.commands ≡ is_some (option_and_then (slice_get (definitions sides.second)) (selected sides.second code class app))
  own_any = any_selected sides.second code class app (λ (d : PlainDefinition). served d.head) chosen_served none_served

-- ---- the command for errors

module _ (sides : Sides) (sb : IsDictionary sides.second) (p : Pxy) where
  abbrev for_errors : DefHead → Bool
  for_errors h = is_wanted sides (Error p) h

  is_error : (y : PlainDefinition) (h : DefHead) → y.head ≡ h → for_errors h ≡ true → IsError y
  is_error y (Group key) e f = absurd (let g : false ≡ true = f in cc)
  is_error y (Command c cl a q) e f = absurd (let g : false ≡ true = f in cc)
  is_error y (Error q) e f = (q, e)

  error_wanted : (y : PlainDefinition) → IsError y → for_errors y.head ≡ true
  error_wanted y r = ap for_errors r.1

  read_error : (y : PlainDefinition) (a : Option ℕ) → Reads y 0 classes.Error a → IsError y
  read_error y a (inl r) = r.0
  read_error y a (inr r) = absurd (r.1 refl)

  one_error : (j k : ℕ) (y z : PlainDefinition) → slice_get sides.second.commands j ≡ Some y → slice_get sides.second.commands k ≡ Some z → for_errors y.head ≡ true → for_errors z.head ≡ true → j ≡ k
  one_error j k y z at there e f =
      let r = is_error y y.head refl e in
      let s = is_error z z.head refl f in
      sb.distinct_selectors j k y z at there
      (subst (λ (h : DefHead). IsSameSelector h z.head) (sym r.1) (subst (λ (h : DefHead). IsSameSelector (Error r.0) h) (sym s.1) tt))

  chosen_error : (x : Choice sides.second 0 classes.Error 0) → for_errors x.command.head ≡ true
  chosen_error x = by x.how
    where
      i : IsIn x.command sides.second.commands
      i = in_at sides.second.commands x.place x.command x.at

      by : (is_command 0 classes.Error (Some 0) x.command.head ≡ true) ⊎ ((is_command 0 classes.Error None x.command.head ≡ true) ×
          ((y : PlainDefinition) → IsIn y sides.second.commands → is_command 0 classes.Error (Some 0) y.head ≡ false)) → for_errors x.command.head ≡ true
      by (inl e) = error_wanted x.command (read_error x.command (Some 0) (reads sides.second x.command 0 classes.Error (Some 0) sb i e))
      by (inr (e, none)) = error_wanted x.command (read_error x.command None (reads sides.second x.command 0 classes.Error None sb i e))

  none_error : NoChoice sides.second 0 classes.Error 0 → (x : PlainDefinition) → IsIn x sides.second.commands → for_errors x.head ≡ false
  none_error n x i = false_from_ne_true (for_errors x.head) (λ e.
      let r = is_error x x.head refl e in
      none_both (is_command 0 classes.Error (Some 0) x.head) (ap (is_command 0 classes.Error (Some 0)) r.1) (n.no_own x i))

  pub error_only : filter (λ (d : PlainDefinition). for_errors d.head) sides.second.commands ≡ option_to_list (option_and_then (slice_get (definitions sides.second)) (selected sides.second 0 classes.Error 0))
  error_only = only_selected sides.second 0 classes.Error 0 (λ (d : PlainDefinition). for_errors d.head) chosen_error none_error one_error

  pub error_any : list_any (λ (d : PlainDefinition). for_errors d.head) sides.second.commands ≡ is_some (option_and_then (slice_get (definitions sides.second)) (selected sides.second 0 classes.Error 0))
  error_any = any_selected sides.second 0 classes.Error 0 (λ (d : PlainDefinition). for_errors d.head) chosen_error none_error

  pub serves_errors : (h : DefHead) → serves (Error p) h ≡ for_errors h
  serves_errors (Group key) = refl
  serves_errors (Command c cl a q) = refl
  serves_errors (Error q) = refl
