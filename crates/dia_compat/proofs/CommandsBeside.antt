-- The commands of B that are paired with a command of A in the table.
use Rattle.std.proofs.Common.{◌≡◌, ℕ, ◌+◌, ◌<◌, get_or, Bool, true, false, not, cond, ◌&&◌, ◌==◌, List, [], ◌∷◌}
use Rattle.std.proofs.Common.{◌++◌, length, map, filter, take, Option, Some, None, option_to_list, refl, sym, ap, ◌∙◌, inl, inr}
use Rattle.std.specs.Prelude.{◌⊎◌, ◌||◌, slice_get, is_some}
use Rattle.std.specs.List.{list_all, list_any, filter_map}
use Rattle.std.specs.Option.{option_map_or}
use Rattle.std.proofs.lemmas.Bool.{and_parts, and_from}
use Rattle.std.proofs.lemmas.Option.{same_Some, slice_get-get_or}
use Rattle.std.proofs.lemmas.List.{map-append}
use Rattle.std.proofs.lemmas.List.Folds.{list_all-map}
use Rattle.std.specs.Borrow.{Bor}
use Rattle.dia_book.specs.declared.Definition.{Definition}
use Rattle.dia_book.proofs.Lists.{list_any-map}
use Rattle.dia_book.specs.declared.Class.{Class}
use Rattle.dia_book.specs.declared.Pxy.{Pxy}
use Rattle.dia_book.specs.declared.DefHead.{DefHead}
use Rattle.dia_book.specs.declared.DefHead.TheVariants.{Group, Command, Error}
use Rattle.dia_book.specs.Dictionary.{PlainDefinition, IsDictionary, IsCommandHead, definitions, groups, same_class, plain_definition}
use Rattle.dia_book.proofs.Members.{into_map}
use Rattle.dia_compat.specs.CommandsByCode.{has_code, commands_of, only_for, open_code}
use Rattle.dia_compat.specs.Sides.{Sides, Compared}
use Rattle.dia_compat.specs.PairTests.{NamePair, wants_app, is_wanted, serves, serves_app, same_code_and_class, is_proxiable, is_pair, is_ready, is_selected, all_selected, is_command_pair, failed_rules, failed_commands}
use Rattle.dia_compat.specs.declared.checking.Test.TheVariants.{N10}
use Rattle.dia_valid.specs.Rules.{rules_in}
use Rattle.dia_compat.specs.WantedNames.{wanted_name, wanted_names}
use Rattle.dia_valid.proofs.Members.{taken}
use Rattle.dia_valid.proofs.SelectedCommands.{command_at}
use Rattle.dia_compat.proofs.CommandsByCode.{and_true, any_kept, all_kept, filter_map_kept, all_filtered, filter_map_map, names_filtered}
use Rattle.dia_compat.proofs.CommandsByCode.{own, own_only, own_any, error_only, error_any, serves_errors}

-- ---- what is paired with a command

module _ (sides : Sides) (sb : IsDictionary sides.second) where
  -- of a command for one application or for errors, one definition is wanted, the one that is selected
  pub only_wanted : (h : DefHead) → IsCommandHead h → open_code h ≡ None → filter (λ d. is_wanted sides h d.head) sides.second.commands ≡ option_to_list (only_for sides.second h)
  only_wanted (Group key) is single = absurd is
  only_wanted (Command code class None p) is single = absurd (let f : Some code ≡ None = single in cc)
  only_wanted (Command code class (Some app) p) is single = own_only sides sb code class app p is
  only_wanted (Error p) is single = error_only sides sb p

  pub only_served : (h : DefHead) → IsCommandHead h → open_code h ≡ None → list_any (λ d. serves h d.head) sides.second.commands ≡ is_some (only_for sides.second h)
  only_served (Group key) is single = absurd is
  only_served (Command code class None p) is single = absurd (let f : Some code ≡ None = single in cc)
  only_served (Command code class (Some app) p) is single = own_any sides sb code class app p is
  only_served (Error p) is single = any_same (serves_errors sides sb p) sides.second.commands ∙ error_any sides sb p
    where
      any_same : {v w : DefHead → Bool} → ((h : DefHead) → v h ≡ w h) → (cs : List PlainDefinition) → list_any (λ (d : PlainDefinition). v d.head) cs ≡ list_any (λ (d : PlainDefinition). w d.head) cs
      any_same same [] = refl
      any_same {v} {w} same (c ∷ cs) = ap (λ (b : Bool). b || list_any (λ (d : PlainDefinition). v d.head) cs) (same c.head) ∙ ap (λ (b : Bool). w c.head || b) (any_same same cs)

  pub selected_only : (pairs : List NamePair) (c : PlainDefinition) → IsCommandHead c.head → open_code c.head ≡ None
      → is_selected sides pairs c ≡ option_map_or (λ d. list_any (is_pair c.name d.name) pairs) (only_for sides.second c.head) false
  selected_only pairs c is single =
      ap (λ (b : Bool). b && list_all (λ (d : PlainDefinition). not (is_wanted sides c.head d.head) || beside d) sides.second.commands) (only_served c.head is single)
      ∙ ap (λ (b : Bool). is_some (only_for sides.second c.head) && b)
      (all_filtered (λ (d : PlainDefinition). is_wanted sides c.head d.head) beside sides.second.commands ∙ ap (list_all beside) (only_wanted c.head is single))
      ∙ by (only_for sides.second c.head)
    where
      beside : PlainDefinition → Bool
      beside d = list_any (is_pair c.name d.name) pairs

      by : (o : Option PlainDefinition) → (is_some o && list_all beside (option_to_list o)) ≡ option_map_or beside o false
      by None = refl
      by (Some d) = and_true (beside d)

  pub names_only : (h : DefHead) → IsCommandHead h → open_code h ≡ None → wanted_names sides h ≡ map (λ d. d.name) (option_to_list (only_for sides.second h))
  names_only h is single = names_filtered (λ (d : PlainDefinition). is_wanted sides h d.head) (λ (d : PlainDefinition). d.name) sides.second.commands
      ∙ ap (map (λ (d : PlainDefinition). d.name)) (only_wanted h is single)

  -- a command that isn't of the code isn't wanted
  not_of_code : (code : ℕ) (class : Class) (a : Option ℕ) (p : Pxy) (h : DefHead) → has_code code h ≡ false → is_wanted sides (Command code class a p) h ≡ false
  not_of_code code class a p (Group key) e = refl
  not_of_code code class a p (Command c cl b q) e = ap (λ (t : Bool). t && same_class class cl && wants_app sides code class a b) e
  not_of_code code class a p (Error q) e = refl

  is_of_code_too : (code : ℕ) (class : Class) (a : Option ℕ) (p : Pxy) (h : DefHead) → serves (Command code class a p) h ≡ true → has_code code h ≡ true
  is_of_code_too code class a p (Group key) e = absurd (let f : false ≡ true = e in cc)
  is_of_code_too code class a p (Command c cl b q) e = (and_parts (code == c) (same_class class cl) (and_parts ((code == c) && same_class class cl) (serves_app a b) e).0).0
  is_of_code_too code class a p (Error q) e = absurd (let f : false ≡ true = e in cc)

  pub selected_of_code : (pairs : List NamePair) (c : PlainDefinition) (code : ℕ) (class : Class) (a : Option ℕ) (p : Pxy) → c.head ≡ Command code class a p
      → is_selected sides pairs c
      ≡ (list_any (λ d. serves c.head d.head) (commands_of sides.second code) && list_all (λ d. not (is_wanted sides c.head d.head) || list_any (is_pair c.name d.name) pairs) (commands_of sides.second code))
  selected_of_code pairs c code class a p e =
      ap (λ (b : Bool). b && list_all ready sides.second.commands)
      (sym (any_kept (λ (d : PlainDefinition). serves c.head d.head) (λ (d : PlainDefinition). has_code code d.head)
      (λ d f. is_of_code_too code class a p d.head (ap (λ (h : DefHead). serves h d.head) (sym e) ∙ f)) sides.second.commands))
      ∙ ap (λ (b : Bool). list_any (λ (d : PlainDefinition). serves c.head d.head) (commands_of sides.second code) && b)
      (sym (all_kept ready (λ (d : PlainDefinition). has_code code d.head)
      (λ d f. ap (λ (b : Bool). not b || list_any (is_pair c.name d.name) pairs) (ap (λ (h : DefHead). is_wanted sides h d.head) e ∙ not_of_code code class a p d.head f)) sides.second.commands))
    where
      ready : PlainDefinition → Bool
      ready d = not (is_wanted sides c.head d.head) || list_any (is_pair c.name d.name) pairs

  pub names_of_code : (h : DefHead) (code : ℕ) (class : Class) (a : Option ℕ) (p : Pxy) → h ≡ Command code class a p → filter_map (wanted_name sides h) (commands_of sides.second code) ≡ wanted_names sides h
  names_of_code h code class a p e =
      filter_map_kept (wanted_name sides h) (λ (d : PlainDefinition). has_code code d.head)
      (λ d f. ap (λ (b : Bool). cond b (Some d.name) None) (ap (λ (k : DefHead). is_wanted sides k d.head) e ∙ not_of_code code class a p d.head f)) sides.second.commands

  -- by the list of the commands of its code
  is_open : (h : DefHead) (code : ℕ) → open_code h ≡ Some code → (class : Class) × (p : Pxy) × (h ≡ Command code class None p)
  is_open (Group key) code e = absurd (let f : None ≡ Some code = e in cc)
  is_open (Command own class None p) code e = (class, p, ap (λ (n : ℕ). Command n class None p) (same_Some own code e))
  is_open (Command own class (Some app) p) code e = absurd (let f : None ≡ Some code = e in cc)
  is_open (Error p) code e = absurd (let f : None ≡ Some code = e in cc)

  pub selected_listed : (pairs : List NamePair) (c : PlainDefinition) (code : ℕ) (cs : List (Bor Definition))
      → open_code c.head ≡ Some code → map (λ d. plain_definition d.now) cs ≡ commands_of sides.second code
      → (list_any (λ d. serves c.head d.now.head) cs && list_all (λ d. is_ready sides pairs c (plain_definition d.now)) cs) ≡ is_selected sides pairs c
  selected_listed pairs c code cs e same =
      let h = is_open c.head code e in
      ap (λ (b : Bool). b && list_all (λ (d : Bor Definition). is_ready sides pairs c (plain_definition d.now)) cs)
      (sym (list_any-map (λ (d : Bor Definition). plain_definition d.now) (λ (d : PlainDefinition). serves c.head d.head) cs) ∙ ap (list_any (λ (d : PlainDefinition). serves c.head d.head)) same)
      ∙ ap (λ (b : Bool). list_any (λ (d : PlainDefinition). serves c.head d.head) (commands_of sides.second code) && b)
      (sym (list_all-map (is_ready sides pairs c) (λ (d : Bor Definition). plain_definition d.now) cs) ∙ ap (list_all (is_ready sides pairs c)) same)
      ∙ sym (selected_of_code pairs c code h.0 None h.1 h.2)

  pub selected_unlisted : (pairs : List NamePair) (c : PlainDefinition) (code : ℕ) → open_code c.head ≡ Some code → [] ≡ commands_of sides.second code → false ≡ is_selected sides pairs c
  selected_unlisted pairs c code e none = selected_listed pairs c code [] e none

  pub names_listed : (h : DefHead) (code : ℕ) (cs : List (Bor Definition)) → open_code h ≡ Some code → map (λ d. plain_definition d.now) cs ≡ commands_of sides.second code
      → filter_map (λ d. wanted_name sides h (plain_definition d.now)) cs ≡ wanted_names sides h
  names_listed h code cs e same =
      let k = is_open h code e in
      sym (filter_map_map (wanted_name sides h) (λ (d : Bor Definition). plain_definition d.now) cs) ∙ ap (filter_map (wanted_name sides h)) same ∙ names_of_code h code k.0 None k.1 k.2

  pub names_unlisted : (h : DefHead) (code : ℕ) → open_code h ≡ Some code → [] ≡ commands_of sides.second code → [] ≡ wanted_names sides h
  names_unlisted h code e none = names_listed h code [] e none

-- ---- the pair of two commands, by their numbers

pub fails_rules : (all : Compared) (c d : ℕ) (x y : PlainDefinition) → slice_get (definitions all.sides.first) c ≡ Some x → slice_get (definitions all.sides.second) d ≡ Some y
    → is_command_pair all x y ≡ true → failed_rules all (rules_in all.sides.first c) (rules_in all.sides.second d) ≡ failed_commands all c d
fails_rules all c d x y at there e = rw (at, there, e) refl

pub fails_tenth : (all : Compared) (c d : ℕ) (x y : PlainDefinition) → slice_get (definitions all.sides.first) c ≡ Some x → slice_get (definitions all.sides.second) d ≡ Some y
    → is_command_pair all x y ≡ false → Some N10 ≡ failed_commands all c d
fails_tenth all c d x y at there e = rw (at, there, e) refl

and_false : (b : Bool) → (b && false) ≡ false
and_false true = refl
and_false false = refl

-- where the table has what may be selected for a command, by its place
pub selected_at : (all : Compared) (i : ℕ) (x : PlainDefinition) (b : Bool) → slice_get all.sides.first.commands i ≡ Some x → slice_get (all_selected all) i ≡ Some b
    → b ≡ is_selected all.sides all.table.commands x
selected_at all i x b at is =
    same_Some b (is_selected all.sides all.table.commands x) (sym is ∙ into_map (is_selected all.sides all.table.commands) all.sides.first.commands i x at)

-- two commands by their places
module _ (all : Compared) (i j k l : ℕ) (x y : PlainDefinition) (b may : Bool) (table_has : slice_get (all_selected all) i ≡ Some b)
    (at_k : k ≡ length (groups all.sides.first) + i) (at_l : l ≡ length (groups all.sides.second) + j)
    (at_x : slice_get (definitions all.sides.first) k ≡ Some x) (at_y : slice_get (definitions all.sides.second) l ≡ Some y)
    (is : may ≡ (same_code_and_class x.head y.head && is_proxiable x.head y.head)) where
  is_sel : b ≡ is_selected all.sides all.table.commands x
  is_sel = selected_at all i x b (command_at all.sides.first i k x at_k at_x) table_has

  placed : failed_commands all k l ≡ failed_commands all (length (groups all.sides.first) + i) (length (groups all.sides.second) + j)
  placed = ap (λ (n : ℕ). failed_commands all n l) at_k ∙ ap (λ (n : ℕ). failed_commands all (length (groups all.sides.first) + i) n) at_l

  pub pair_fails : may ≡ true → b ≡ true
      → failed_rules all (rules_in all.sides.first k) (rules_in all.sides.second l) ≡ failed_commands all (length (groups all.sides.first) + i) (length (groups all.sides.second) + j)
  pair_fails e f =
      fails_rules all k l x y at_x at_y
      (and_from (same_code_and_class x.head y.head && is_proxiable x.head y.head) (is_selected all.sides all.table.commands x) (sym is ∙ e) (sym is_sel ∙ f)) ∙ placed

  pub pair_fails_tenth : ((may ≡ true) × (b ≡ false)) ⊎ (may ≡ false) → Some N10 ≡ failed_commands all (length (groups all.sides.first) + i) (length (groups all.sides.second) + j)
  pair_fails_tenth h = fails_tenth all k l x y at_x at_y (none h) ∙ placed
    where
      none : ((may ≡ true) × (b ≡ false)) ⊎ (may ≡ false) → is_command_pair all x y ≡ false
      none (inl g) = ap (λ (z : Bool). same_code_and_class x.head y.head && is_proxiable x.head y.head && z) (sym is_sel ∙ g.1) ∙ and_false (same_code_and_class x.head y.head && is_proxiable x.head y.head)
      none (inr g) = ap (λ (z : Bool). z && is_selected all.sides all.table.commands x) (sym is ∙ g)

same_all : {X : Type 0} (f h : X → Bool) → ((x : X) → f x ≡ h x) → (xs : List X) → list_all f xs ≡ list_all h xs
same_all f h same [] = refl
same_all f h same (x ∷ xs) = ap (λ (b : Bool). b && list_all f xs) (same x) ∙ ap (λ (b : Bool). h x && b) (same_all f h same xs)

-- pairs in which the same are found
pub same_selected : (sides : Sides) (ps qs : List NamePair) → ((x y : List ℕ) → list_any (is_pair x y) ps ≡ list_any (is_pair x y) qs) → (cs : List PlainDefinition)
    → map (is_selected sides ps) cs ≡ map (is_selected sides qs) cs
same_selected sides ps qs same [] = refl
same_selected sides ps qs same (c ∷ cs) =
    ap (λ (b : Bool). (list_any (λ d. serves c.head d.head) sides.second.commands && b) ∷ map (is_selected sides ps) cs)
    (same_all (is_ready sides ps c) (is_ready sides qs c) (λ d. ap (λ (b : Bool). not (is_wanted sides c.head d.head) || b) (same c.name d.name)) sides.second.commands)
    ∙ ap (λ (bs : List Bool). is_selected sides qs c ∷ bs) (same_selected sides ps qs same cs)

pub map_more : {X Y : Type 0} (f : X → Y) (xs : List X) (i : ℕ) (x : X) → slice_get xs i ≡ Some x → map f (take (i + 1) xs) ≡ map f (take i xs) ++ f x ∷ []
map_more f xs i x at = ap (map f) (taken xs i x at) ∙ map-append f (take i xs) (x ∷ [])

pub item_there : {X : Type 0} (xs : List X) (i : ℕ) (x : X) → i < length xs → x ≡ get_or xs i x → slice_get xs i ≡ Some x
item_there {X} xs i x within is = slice_get-get_or xs i x within ∙ ap (λ (y : X). Some y) (sym is)
