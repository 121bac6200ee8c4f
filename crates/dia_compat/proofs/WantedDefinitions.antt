-- The tests on definitions of B show which of them a command of A wants.
use Rattle.std.proofs.Common.{◌≡◌, ◌≢◌, ℕ, zero, suc, ◌+◌, ◌<◌, Bool, true, false, not, cond, ◌&&◌, ◌==◌, List, [], ◌∷◌}
use Rattle.std.proofs.Common.{◌++◌, map, take, Option, Some, None, option_to_list, get_or, refl, sym, ap, subst, ◌∙◌, arith, inl, inr}
use Rattle.std.specs.Prelude.{Contains, slice_get}
use Rattle.std.specs.List.{filter_map, cons_option}
use Rattle.std.proofs.lemmas.Bool.{and_parts, and_from, eqb-true, eq-eqb, not-true}
use Rattle.std.proofs.lemmas.List.{append_assoc, map-append, take_more}
use Rattle.std.proofs.lemmas.List.Elements.{filter_map-append}
use Rattle.std.proofs.lemmas.Option.{none-some, same_Some, slice_get_within, get_or_from_slice_get}
use Rattle.dia_book.specs.declared.Class.{Class}
use Rattle.dia_book.specs.declared.Class.TheVariants as classes
use Rattle.dia_book.specs.declared.Pxy.{Pxy}
use Rattle.dia_book.specs.declared.DefHead.{DefHead}
use Rattle.dia_book.specs.declared.DefHead.TheVariants.{Command, Error}
use Rattle.dia_book.specs.Dictionary.{Dictionary, PlainDefinition, IsDictionary, IsCommandHead, is_command, same_class}
use Rattle.dia_book.proofs.Members.{at_filter_map}
use Rattle.dia_compat.specs.Sides.{Sides}
use Rattle.dia_compat.specs.Closed.{HasCode, NamesApp, IsWanted, error, same_app, no_app, both_none, other_app}
use Rattle.dia_compat.specs.Proposed.{AreBeside}
use Rattle.dia_compat.specs.PairTests.{names_app, wants_app, is_wanted}
use Rattle.dia_compat.specs.WantedNames.{wanted_name, wanted_names, or_alone, names_beside}
use Rattle.dia_valid.proofs.Members.{IsIn, in_at, at_in, in_contains, contains_in, any_in, in_any, all_of, in_filter_map}
use Rattle.dia_valid.proofs.SelectedCommands.{Reads, reads, is_of_code}

-- ---- lists of pairs

abbrev NamePair : Type 0
NamePair = List ℕ × List ℕ

pub filter_map_more : {X Y : Type 0} (h : X → Option Y) (xs : List X) (i : ℕ) (x : X) → slice_get xs i ≡ Some x → filter_map h (take (i + 1) xs) ≡ filter_map h (take i xs) ++ option_to_list (h x)
filter_map_more {X} {Y} h xs i x at =
    ap (filter_map h) (take_more xs i x (slice_get_within xs i x at)) ∙ filter_map-append h (take i xs) (get_or xs i x ∷ [])
    ∙ ap (λ (y : X). filter_map h (take i xs) ++ filter_map h (y ∷ [])) (get_or_from_slice_get xs i x x at) ∙ ap (λ (ys : List Y). filter_map h (take i xs) ++ ys) (one (h x))
  where
    one : (o : Option Y) → cons_option o [] ≡ option_to_list o
    one None = refl
    one (Some y) = refl

pub pairs_more : {X : Type 0} (h : X → Option (List ℕ)) (f : List ℕ → NamePair) (start old new : List NamePair) (xs : List X) (i : ℕ) (x : X) → slice_get xs i ≡ Some x
    → old ≡ start ++ map f (filter_map h (take i xs)) → new ≡ old ++ map f (option_to_list (h x)) → new ≡ start ++ map f (filter_map h (take (i + 1) xs))
pairs_more h f start old new xs i x at before added =
    added ∙ ap (λ (ps : List NamePair). ps ++ map f (option_to_list (h x))) before ∙ append_assoc start (map f (filter_map h (take i xs))) (map f (option_to_list (h x)))
    ∙ ap (λ (ps : List NamePair). start ++ ps) (sym (map-append f (filter_map h (take i xs)) (option_to_list (h x))) ∙ ap (map f) (sym (filter_map_more h xs i x at)))

-- two items of a filtered list, and where they come from
pub record InOrder {X Y : Type 0} (h : (X → Option Y)) (xs : List X) (y z : Y) : Type 0 where
  pub k : ℕ
  pub l : ℕ
  pub before : k < l
  pub x : X
  pub w : X
  pub at_k : slice_get xs k ≡ Some x
  pub at_l : slice_get xs l ≡ Some w
  pub gives_y : h x ≡ Some y
  pub gives_z : h w ≡ Some z

pub filter_map_order : {X Y : Type 0} (h : X → Option Y) (xs : List X) (i j : ℕ) (y z : Y) → i < j → slice_get (filter_map h xs) i ≡ Some y → slice_get (filter_map h xs) j ≡ Some z → InOrder h xs y z
filter_map_order h [] i j y z less at there = absurd (none-some y at)
filter_map_order {X} {Y} h (a ∷ xs) i j y z less at there = by (λ i j lt f g. filter_map_order h xs i j y z lt f g) (λ j g. at_filter_map h xs j z g) (h a) refl i j less at there
  where
    shift : InOrder h xs y z → InOrder h (a ∷ xs) y z
    shift r = record { k = suc r.k; l = suc r.l; before = let lt = r.before in omega arith; x = r.x; w = r.w; at_k = r.at_k; at_l = r.at_l; gives_y = r.gives_y; gives_z = r.gives_z }

    by : ((i j : ℕ) → i < j → slice_get (filter_map h xs) i ≡ Some y → slice_get (filter_map h xs) j ≡ Some z → InOrder h xs y z)
        → ((j : ℕ) → slice_get (filter_map h xs) j ≡ Some z → (l : ℕ) × (w : X) × (slice_get xs l ≡ Some w) × (h w ≡ Some z))
        → (o : Option Y) → h a ≡ o → (i j : ℕ) → i < j → slice_get (cons_option o (filter_map h xs)) i ≡ Some y → slice_get (cons_option o (filter_map h xs)) j ≡ Some z → InOrder h (a ∷ xs) y z
    by ih one None e i j lt f g = shift (ih i j lt f g)
    by ih one (Some n) e i zero lt f g = absurd (omega arith)
    by ih one (Some n) e zero (suc j) lt f g =
        let r = one j g in
        record { k = 0; l = suc r.0; before = omega arith; x = a; w = r.1; at_k = refl; at_l = r.2; gives_y = e ∙ f; gives_z = r.3 }
    by ih one (Some n) e (suc i) (suc j) lt f g = shift (ih i j (omega arith) f g)

-- ---- what is wanted

same_classes : (a b : Class) → same_class a b ≡ true → a ≡ b
same_classes classes.Request classes.Request h = refl
same_classes classes.Answer classes.Answer h = refl
same_classes classes.Error classes.Error h = refl
same_classes a b h = absurd cc

class_self : (a : Class) → same_class a a ≡ true
class_self classes.Request = refl
class_self classes.Answer = refl
class_self classes.Error = refl

-- the test, of applications
names_it : (d : Dictionary) (code : ℕ) (class : Class) (app : ℕ) → IsDictionary d → class ≢ classes.Error → names_app d code class app ≡ true → NamesApp d code class (Some app)
names_it d code class app sound other h =
    let r = any_in (λ (y : PlainDefinition). is_command code class (Some app) y.head) d.commands h in
    by r.0 r.1 (reads d r.0 code class (Some app) sound r.1 r.2)
  where
    by : (c : PlainDefinition) → IsIn c d.commands → Reads c code class (Some app) → NamesApp d code class (Some app)
    by c i (inl e) = absurd (other e.1)
    by c i (inr e) = (c, contains_in d.commands c i, e.0)

is_named : (d : Dictionary) (code : ℕ) (class : Class) (app : ℕ) → NamesApp d code class (Some app) → names_app d code class app ≡ true
is_named d code class app n = in_any (λ (y : PlainDefinition). is_command code class (Some app) y.head) d.commands n.0 (in_contains d.commands n.0 n.1) (is_of_code n.0 code class (Some app) n.2)

not_named : (d : Dictionary) (code : ℕ) (class : Class) (app : ℕ) → not (names_app d code class app) ≡ true → ¬ NamesApp d code class (Some app)
not_named d code class app h n = let f = not-true (names_app d code class app) h in let e : true ≡ false = sym (is_named d code class app n) ∙ f in absurd cc

unnamed : (d : Dictionary) (code : ℕ) (class : Class) (app : ℕ) → IsDictionary d → class ≢ classes.Error → ¬ NamesApp d code class (Some app) → not (names_app d code class app) ≡ true
unnamed d code class app sound other none = by (names_app d code class app) refl
  where
    by : (b : Bool) → names_app d code class app ≡ b → not b ≡ true
    by false e = refl
    by true e = absurd (none (names_it d code class app sound other e))

module _ (sides : Sides) (sa : IsDictionary sides.first) (sb : IsDictionary sides.second) (c : PlainDefinition) (ca : Contains sides.first.commands c) where
  not_error : (code : ℕ) (class : Class) (app : Option ℕ) (p : Pxy) → c.head ≡ Command code class app p → class ≢ classes.Error
  not_error code class app p e = subst IsCommandHead e (all_of (λ (x : PlainDefinition). IsCommandHead x.head) sides.first.commands c sa.command_heads (in_contains sides.first.commands c ca))

  -- what passes the test is wanted
  pub wanted_by_test : (d : PlainDefinition) → Contains sides.second.commands d → (h k : DefHead) → c.head ≡ h → d.head ≡ k → is_wanted sides h k ≡ true → IsWanted sides.first sides.second c d
  wanted_by_test d i (Error p) (Error q) e f t = error i (p, e) (q, f)
  wanted_by_test d i (Command code class x p) (Command other other_class y q) e f t =
      let outer = and_parts ((code == other) && same_class class other_class) (wants_app sides code class x y) t in
      let inner = and_parts (code == other) (same_class class other_class) outer.0 in
      let same_code = eqb-true code other inner.0 in
      let same = same_classes class other_class inner.1 in
      let g : d.head ≡ Command code class y q = f ∙ ap (λ (n : ℕ). Command n other_class y q) (sym same_code) ∙ ap (λ (k : Class). Command code k y q) (sym same) in
      by x y e g outer.1
    where
      by : (x y : Option ℕ) → c.head ≡ Command code class x p → d.head ≡ Command code class y q → wants_app sides code class x y ≡ true → IsWanted sides.first sides.second c d
      by (Some m) (Some n) e g r = same_app code m class i (record { p = p; head = e }) (record { p = q; head = g ∙ ap (λ (k : ℕ). Command code class (Some k) q) (sym (eqb-true m n r)) })
      by (Some m) None e g r = no_app code m class i (record { p = p; head = e }) (record { p = q; head = g }) (not_named sides.second code class m r)
      by None None e g r = both_none code class i (record { p = p; head = e }) (record { p = q; head = g })
      by None (Some n) e g r = other_app code n class i (record { p = p; head = e }) (record { p = q; head = g }) (not_named sides.first code class n r)
  wanted_by_test d i h k e f t = absurd cc

  same_codes : (d : PlainDefinition) (code : ℕ) (class : Class) (x y : Option ℕ) → HasCode c code class x → HasCode d code class y → wants_app sides code class x y ≡ true
      → is_wanted sides c.head d.head ≡ true
  same_codes d code class x y u v r =
      ap (λ (h : DefHead). is_wanted sides h d.head) u.head ∙ ap (λ (h : DefHead). is_wanted sides (Command code class x u.p) h) v.head
      ∙ and_from ((code == code) && same_class class class) (wants_app sides code class x y) (and_from (code == code) (same_class class class) (eq-eqb code code refl) (class_self class)) r

  -- and what is wanted passes it
  pub test_of_wanted : (d : PlainDefinition) → IsWanted sides.first sides.second c d → is_wanted sides c.head d.head ≡ true
  test_of_wanted d (error i x y) = ap (λ (h : DefHead). is_wanted sides h d.head) x.1 ∙ ap (λ (h : DefHead). is_wanted sides (Error x.0) h) y.1
  test_of_wanted d (same_app code app class i x y) = same_codes d code class (Some app) (Some app) x y (eq-eqb app app refl)
  test_of_wanted d (no_app code app class i x y none) = same_codes d code class (Some app) None x y (unnamed sides.second code class app sb (not_error code class (Some app) x.p x.head) none)
  test_of_wanted d (both_none code class i x y) = same_codes d code class None None x y refl
  test_of_wanted d (other_app code app class i x y none) = same_codes d code class None (Some app) x y (unnamed sides.first code class app sa (not_error code class None x.p x.head) none)

  wanted_member : (d : PlainDefinition) → IsWanted sides.first sides.second c d → Contains sides.second.commands d
  wanted_member d (error i x y) = i
  wanted_member d (same_app code app class i x y) = i
  wanted_member d (no_app code app class i x y z) = i
  wanted_member d (both_none code class i x y) = i
  wanted_member d (other_app code app class i x y z) = i

  name_of_wanted : (d : PlainDefinition) → is_wanted sides c.head d.head ≡ true → wanted_name sides c.head d ≡ Some d.name
  name_of_wanted d e = ap (λ (b : Bool). cond b (Some d.name) None) e

  wanted_of_name : (d : PlainDefinition) (name : List ℕ) → wanted_name sides c.head d ≡ Some name → (is_wanted sides c.head d.head ≡ true) × (d.name ≡ name)
  wanted_of_name d name h = by (is_wanted sides c.head d.head) refl h
    where
      by : (b : Bool) → is_wanted sides c.head d.head ≡ b → cond b (Some d.name) None ≡ Some name → (is_wanted sides c.head d.head ≡ true) × (d.name ≡ name)
      by true e g = (e, same_Some d.name name g)
      by false e g = absurd (let f : None ≡ Some name = g in cc)

  -- where the names are among B's commands
  abbrev IsPlaced : ℕ → List ℕ → Type 0
  IsPlaced k name = (d : PlainDefinition) × (slice_get sides.second.commands k ≡ Some d) × (d.name ≡ name)

  one_named_place : (k l : ℕ) (name : List ℕ) → IsPlaced k name → IsPlaced l name → k ≡ l
  one_named_place k l name (d, at, is) (e, there, also) = sb.distinct_commands k l d e at there (is ∙ sym also)

  -- what is paired with the command
  pub are_beside : AreBeside sides.first sides.second c (names_beside sides c)
  are_beside = by (wanted_names sides c.head) refl
    where
      in_names : (d : PlainDefinition) → IsWanted sides.first sides.second c d → IsIn d.name (wanted_names sides c.head)
      in_names d w = in_filter_map (wanted_name sides c.head) sides.second.commands d d.name (in_contains sides.second.commands d (wanted_member d w)) (name_of_wanted d (test_of_wanted d w))

      of_name : (name : List ℕ) → IsIn name (wanted_names sides c.head) → (d : PlainDefinition) × IsWanted sides.first sides.second c d × (d.name ≡ name)
      of_name name i =
          let p = at_in (wanted_names sides c.head) name i in
          let r = at_filter_map (wanted_name sides c.head) sides.second.commands p.place name p.at in
          let w = wanted_of_name r.1 name r.3 in
          (r.1, wanted_by_test r.1 (contains_in sides.second.commands r.1 (in_at sides.second.commands r.0 r.1 r.2)) c.head r.1.head refl refl w.0, w.1)

      by : (ns : List (List ℕ)) → wanted_names sides c.head ≡ ns → AreBeside sides.first sides.second c (or_alone c.name ns)
      by [] e = record {
        each = λ d w. absurd (subst (IsIn d.name) e (in_names d w));
        only = λ name i. inr (λ d w. subst (IsIn d.name) e (in_names d w));
        alone = λ none. refl;
        in_order = λ i j k l d f less at there x y. absurd (one_place i j d f less at there);
      }
        where
          one_place : (i j : ℕ) (d f : PlainDefinition) → i < j → slice_get (c.name ∷ []) i ≡ Some d.name → slice_get (c.name ∷ []) j ≡ Some f.name → ⊥
          one_place i zero d f less at there = omega arith
          one_place i (suc j) d f less at there = none-some f.name there
      by (n ∷ ns) e = record {
        each = λ d w. contains_in (n ∷ ns) d.name (subst (IsIn d.name) e (in_names d w));
        only = λ name i. inl (of_name name (subst (IsIn name) (sym e) (in_contains (n ∷ ns) name i)));
        alone = λ none. let r = of_name n (subst (IsIn n) (sym e) (inl refl)) in absurd (none r.0 r.1);
        in_order = λ i j k l d f less at there x y.
            let r = filter_map_order (wanted_name sides c.head) sides.second.commands i j d.name f.name less (ap (λ (xs : List (List ℕ)). slice_get xs i) e ∙ at)
            (ap (λ (xs : List (List ℕ)). slice_get xs j) e ∙ there) in
            let first = one_named_place k r.k d.name (d, x, refl) (r.x, r.at_k, (wanted_of_name r.x d.name r.gives_y).1) in
            let second = one_named_place l r.l f.name (f, y, refl) (r.w, r.at_l, (wanted_of_name r.w f.name r.gives_z).1) in
            let lt = r.before in omega arith;
      }
