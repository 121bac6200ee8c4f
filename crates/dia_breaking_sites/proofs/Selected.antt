-- The headers for which the definition of a command is selected, by its head.
use Rattle.std.proofs.Common.{◌≡◌, ℕ, ◌+◌, ◌<◌, ◌^◌, Bool, true, false, ◌&&◌, List, [], ◌∷◌, length, get_or, Option, Some, None, refl, sym, ap, subst, ◌∙◌, inl, inr}
use Rattle.std.specs.Prelude.{◌⊎◌, ◌==◌, nat_eq, is_some, IsSome, slice_get, position}
use Rattle.std.specs.Option.{option_map, option_or, option_eq}
use Rattle.std.proofs.lemmas.Bool.{and_parts, eqb-true, false_from_ne_true}
use Rattle.std.proofs.lemmas.Option.{none-some, same_Some, slice_get-get_or}
use Rattle.std.proofs.lemmas.List.Quantifiers.{position-Some}
use Rattle.dia_book.specs.declared.Class.{Class}
use Rattle.dia_book.specs.declared.Class.TheVariants as classes
use Rattle.dia_book.specs.declared.Pxy.{Pxy}
use Rattle.dia_book.specs.declared.DefHead.{DefHead}
use Rattle.dia_book.specs.declared.DefHead.TheVariants.{Group, Command, Error}
use Rattle.dia_book.specs.Dictionary.{Dictionary, PlainDefinition, IsDictionary, IsCommandHead, groups, definitions, selected, is_command, same_class}
use Rattle.dia_book.proofs.Lists.{position-map, map-agree}
use Rattle.dia_book.proofs.Members.{position-is_some, into_right}
use Rattle.dia_breaking_sites.specs.Sites.{Site}
use Rattle.dia_breaking_sites.specs.Selection.{AboutFlags, IsMet, AreMet, NamesApp, IsMetBy}
use Rattle.dia_breaking_sites.proofs.Members.{IsIn, contains_in, in_contains, in_at, at_in, all_of}

-- ---- a search

record Found {X : Type 0} (p : X → Bool) (xs : List X) : Type 0 where
  place : ℕ
  item : X
  is_place : position p xs ≡ Some place
  at : slice_get xs place ≡ Some item
  passes : p item ≡ true

record NotFound {X : Type 0} (p : X → Bool) (xs : List X) : Type 0 where
  is_none : position p xs ≡ None
  none : (x : X) → IsIn x xs → p x ≡ false

found_at : {X : Type 0} (p : X → Bool) (xs : List X) (i : ℕ) → position p xs ≡ Some i → Found p xs
found_at p [] i e = absurd (none-some i e)
found_at p (x ∷ xs) i e = let r = position-Some p (x ∷ xs) i x e in record { place = i; item = get_or (x ∷ xs) i x; is_place = e; at = slice_get-get_or (x ∷ xs) i x r.0; passes = r.1 }

found_or_not : {X : Type 0} (p : X → Bool) (xs : List X) → Found p xs ⊎ NotFound p xs
found_or_not {X} p xs = by (position p xs) refl
  where
    by : (o : Option ℕ) → position p xs ≡ o → Found p xs ⊎ NotFound p xs
    by (Some i) e = inl (found_at p xs i e)
    by None e = inr (record {
      is_none = e;
      none = λ x h. false_from_ne_true (p x) (λ pass.
          let r = at_in xs x h in
          let some = position-is_some p xs r.place x r.at pass in
          absurd (let f : true ≡ false = sym some ∙ ap (λ (o : Option ℕ). is_some o) e in cc));
    })

-- ---- the command that a header selects

abbrev own : ℕ → Class → ℕ → PlainDefinition → Bool
own code class app x = is_command code class (Some app) x.head

abbrev common : ℕ → Class → PlainDefinition → Bool
common code class x = is_command code class None x.head

abbrev number : Dictionary → Option ℕ → Option ℕ → Option ℕ
number d x y = option_map (λ i. length (groups d) + i) (option_or x y)

names : (d : Dictionary) (code : ℕ) (class : Class) (app : ℕ) → Found (own code class app) d.commands → NamesApp d code class app
names d code class app f = (f.item, contains_in d.commands f.item (in_at d.commands f.place f.item f.at), f.passes)

no_own : (d : Dictionary) (code : ℕ) (class : Class) (app : ℕ) → ¬ NamesApp d code class app → position (own code class app) d.commands ≡ None
no_own d code class app none = by (found_or_not (own code class app) d.commands)
  where
    by : Found (own code class app) d.commands ⊎ NotFound (own code class app) d.commands → position (own code class app) d.commands ≡ None
    by (inl f) = absurd (none (names d code class app f))
    by (inr n) = n.is_none

-- how the definition was selected
record Chosen (d : Dictionary) (code : ℕ) (class : Class) (app : ℕ) (command : PlainDefinition) : Type 0 where
  is_head : IsCommandHead command.head
  how : (own code class app command ≡ true) ⊎ ((common code class command ≡ true) × (¬ NamesApp d code class app))

unnamed : (d : Dictionary) (code : ℕ) (class : Class) (app : ℕ) → NotFound (own code class app) d.commands → ¬ NamesApp d code class app
unnamed d code class app n = λ named. absurd (let e : true ≡ false = sym named.2 ∙ n.none named.0 (in_contains d.commands named.0 named.1) in cc)

chosen_at : (d : Dictionary) (code : ℕ) (class : Class) (app c : ℕ) (command : PlainDefinition) → IsDictionary d → slice_get (definitions d) c ≡ Some command
    → (p : PlainDefinition → Bool) (f : Found p d.commands) → Some (length (groups d) + f.place) ≡ Some c → IsIn command d.commands × (p command ≡ true)
chosen_at d code class app c command sound at p f e =
    let place : length (groups d) + f.place ≡ c = same_Some (length (groups d) + f.place) c e in
    let same : f.item ≡ command = same_Some f.item command (sym (into_right (groups d) d.commands f.place f.item f.at) ∙ ap (λ (k : ℕ). slice_get (definitions d) k) place ∙ at) in
    (subst (λ (x : PlainDefinition). IsIn x d.commands) same (in_at d.commands f.place f.item f.at), subst (λ (x : PlainDefinition). p x ≡ true) same f.passes)

chosen : (d : Dictionary) (code : ℕ) (class : Class) (app c : ℕ) (command : PlainDefinition) → IsDictionary d → slice_get (definitions d) c ≡ Some command
    → selected d code class app ≡ Some c → Chosen d code class app command
chosen d code class app c command sound at select = by (found_or_not (own code class app) d.commands) (found_or_not (common code class) d.commands)
  where
    head : IsIn command d.commands → IsCommandHead command.head
    head i = all_of (λ (x : PlainDefinition). IsCommandHead x.head) d.commands command sound.command_heads i

    by : Found (own code class app) d.commands ⊎ NotFound (own code class app) d.commands → Found (common code class) d.commands ⊎ NotFound (common code class) d.commands
        → Chosen d code class app command
    by (inl f) other =
        let e : Some (length (groups d) + f.place) ≡ Some c = sym (ap (λ (o : Option ℕ). number d o (position (common code class) d.commands)) f.is_place) ∙ select in
        let r = chosen_at d code class app c command sound at (own code class app) f e in
        record { is_head = head r.0; how = inl r.1 }
    by (inr n) (inl f) =
        let none = ap (λ (o : Option ℕ). number d o (position (common code class) d.commands)) n.is_none in
        let e : Some (length (groups d) + f.place) ≡ Some c = sym (none ∙ ap (λ (o : Option ℕ). number d None o) f.is_place) ∙ select in
        let r = chosen_at d code class app c command sound at (common code class) f e in
        record { is_head = head r.0; how = inr (r.1, unnamed d code class app n) }
    by (inr n) (inr m) =
        let none = ap (λ (o : Option ℕ). number d o (position (common code class) d.commands)) n.is_none ∙ ap (λ (o : Option ℕ). number d None o) m.is_none in
        absurd (none-some c (sym none ∙ select))

-- ---- two headers that select the same

position_agree : {X : Type 0} (p q : X → Bool) (xs : List X) → ((i : ℕ) (x : X) → slice_get xs i ≡ Some x → p x ≡ q x) → position p xs ≡ position q xs
position_agree p q xs h = sym (position-map p (λ (b : Bool). b) xs) ∙ ap (position (λ (b : Bool). b)) (map-agree p q xs h) ∙ position-map q (λ (b : Bool). b) xs

false_middle : (x z : Bool) → ((x && false) && z) ≡ false
false_middle true z = refl
false_middle false z = refl

-- the definition for errors is for each code and application
one_error : (code other : ℕ) (app oapp : Option ℕ) (h : DefHead) → IsCommandHead h → is_command code classes.Error app h ≡ is_command other classes.Error oapp h
one_error code other app oapp (Group key) is = absurd is
one_error code other app oapp (Error p) is = refl
one_error code other app oapp (Command c classes.Request a p) is = false_middle (code == c) (option_eq nat_eq app a) ∙ sym (false_middle (other == c) (option_eq nat_eq oapp a))
one_error code other app oapp (Command c classes.Answer a p) is = false_middle (code == c) (option_eq nat_eq app a) ∙ sym (false_middle (other == c) (option_eq nat_eq oapp a))
one_error code other app oapp (Command c classes.Error a p) is = absurd (is refl)

errors_agree : (d : Dictionary) (code other : ℕ) (app oapp : Option ℕ) → IsDictionary d
    → position (λ (x : PlainDefinition). is_command code classes.Error app x.head) d.commands ≡ position (λ (x : PlainDefinition). is_command other classes.Error oapp x.head) d.commands
errors_agree d code other app oapp sound = position_agree (λ (x : PlainDefinition). is_command code classes.Error app x.head)
    (λ (x : PlainDefinition). is_command other classes.Error oapp x.head) d.commands
    (λ i x at. one_error code other app oapp x.head (all_of (λ (y : PlainDefinition). IsCommandHead y.head) d.commands x sound.command_heads (in_at d.commands i x at)))

errors_select : (d : Dictionary) (code other app oapp : ℕ) → IsDictionary d → selected d code classes.Error app ≡ selected d other classes.Error oapp
errors_select d code other app oapp sound =
    ap (λ (o : Option ℕ). number d o (position (common code classes.Error) d.commands)) (errors_agree d code other (Some app) (Some oapp) sound)
    ∙ ap (λ (o : Option ℕ). number d (position (own other classes.Error oapp) d.commands) o) (errors_agree d code other None None sound)

-- where neither application has a definition
commons_select : (d : Dictionary) (code : ℕ) (class : Class) (app other : ℕ) → position (own code class app) d.commands ≡ None → position (own code class other) d.commands ≡ None
    → selected d code class app ≡ selected d code class other
commons_select d code class app other e f =
    ap (λ (o : Option ℕ). number d o (position (common code class) d.commands)) e ∙ sym (ap (λ (o : Option ℕ). number d o (position (common code class) d.commands)) f)

-- ---- heads

class_same : (a b : Class) → same_class a b ≡ true → a ≡ b
class_same classes.Request classes.Request h = refl
class_same classes.Answer classes.Answer h = refl
class_same classes.Error classes.Error h = refl
class_same a b h = absurd cc

app_same : (a b : Option ℕ) → option_eq nat_eq a b ≡ true → a ≡ b
app_same None None h = refl
app_same (Some m) (Some n) h = ap (λ (k : ℕ). Some k) (eqb-true m n h)
app_same a b h = absurd cc

same_head : (code other : ℕ) (class kind : Class) (app oapp : Option ℕ) (p : Pxy) → is_command code class app (Command other kind oapp p) ≡ true → (code ≡ other) × (class ≡ kind) × (app ≡ oapp)
same_head code other class kind app oapp p h =
    let outer = and_parts ((code == other) && same_class class kind) (option_eq nat_eq app oapp) h in
    let inner = and_parts (code == other) (same_class class kind) outer.0 in
    (eqb-true code other inner.0, class_same class kind inner.1, app_same app oapp outer.1)

module _ (da db : Dictionary) (sa : IsDictionary da) (sb : IsDictionary db) (sites : List Site) (Refuses : Type 0) (Forbids : AboutFlags) (command : PlainDefinition) where
  abbrev Met : ℕ → Class → ℕ → Type 0
  Met code class app = IsMet db sites Refuses Forbids command code class app

  met_too : (code other : ℕ) (class : Class) (app oapp : ℕ) → selected db code class app ≡ selected db other class oapp → Met other class oapp → Met code class app
  met_too code other class app oapp e m =
      record { selects = by m.selects; each = λ number select. m.each number (sym e ∙ select) }
    where
      by : IsSome (selected db other class oapp) ⊎ Refuses → IsSome (selected db code class app) ⊎ Refuses
      by (inl some) = inl (subst (λ (o : Option ℕ). IsSome o) (sym e) some)
      by (inr refused) = inr refused

  -- the same for a head of equal parts
  by_parts : (code other : ℕ) (class kind : Class) (app : Option ℕ) (p : Pxy) → code ≡ other → class ≡ kind
      → IsMetBy da db sites Refuses Forbids command (Command other kind app p) → IsMetBy da db sites Refuses Forbids command (Command code class app p)
  by_parts code other class kind app p e f m =
      let first : IsMetBy da db sites Refuses Forbids command (Command code kind app p) = subst (λ (n : ℕ). IsMetBy da db sites Refuses Forbids command (Command n kind app p)) (sym e) m in
      subst (λ (k : Class). IsMetBy da db sites Refuses Forbids command (Command code k app p)) (sym f) first

  common_met : (code : ℕ) (class : Class) (app : ℕ) (p : Pxy) → app < 2 ^ 32 → ¬ NamesApp da code class app → IsMetBy da db sites Refuses Forbids command (Command code class None p) → Met code class app
  common_met code class app p few unnamed m = by (found_or_not (own code class app) db.commands)
    where
      by : Found (own code class app) db.commands ⊎ NotFound (own code class app) db.commands → Met code class app
      by (inl f) = m.0 app few unnamed (names db code class app f)
      by (inr n) = met_too code code class app m.1.0 (commons_select db code class app m.1.0 n.is_none (no_own db code class m.1.0 m.1.2)) m.1.3

  met_error : (code : ℕ) (class : Class) (app : ℕ) (p : Pxy) → same_class class classes.Error ≡ true → IsMetBy da db sites Refuses Forbids command (Error p) → Met code class app
  met_error code class app p h m =
      let here : Met code classes.Error app = met_too code m.0 classes.Error app m.1 (errors_select db code m.0 app m.1 sb) m.2 in
      subst (λ (k : Class). Met code k app) (sym (class_same class classes.Error h)) here

  at_head : (code : ℕ) (class : Class) (app : ℕ) (h : DefHead) → app < 2 ^ 32 → IsCommandHead h
      → (is_command code class (Some app) h ≡ true) ⊎ ((is_command code class None h ≡ true) × (¬ NamesApp da code class app)) → IsMetBy da db sites Refuses Forbids command h → Met code class app
  at_head code class app (Group key) few is how m = absurd is
  at_head code class app (Error p) few is (inl h) m = met_error code class app p h m
  at_head code class app (Error p) few is (inr h) m = met_error code class app p h.0 m
  at_head code class app (Command other kind (Some oapp) p) few is (inl h) m =
      let r = same_head code other class kind (Some app) (Some oapp) p h in
      let here : Met code class oapp = by_parts code other class kind (Some oapp) p r.0 r.1 m in
      subst (λ (a : ℕ). Met code class a) (sym (same_Some app oapp r.2)) here
  at_head code class app (Command other kind (Some oapp) p) few is (inr h) m = absurd (none-some oapp (same_head code other class kind None (Some oapp) p h.0).2)
  at_head code class app (Command other kind None p) few is (inl h) m = absurd (none-some app (sym (same_head code other class kind (Some app) None p h).2))
  at_head code class app (Command other kind None p) few is (inr h) m =
      let r = same_head code other class kind None None p h.0 in
      common_met code class app p few h.1 (by_parts code other class kind None p r.0 r.1 m)

  pub met : (c : ℕ) → slice_get (definitions da) c ≡ Some command → IsMetBy da db sites Refuses Forbids command command.head → AreMet da db sites Refuses Forbids c command
  met c at m code class app small few select =
      let ch = chosen da code class app c command sa at select in
      at_head code class app command.head few ch.is_head ch.how m
