-- Selectors and services: what commands are looked up by says the same as their headers.
use Rattle.std.proofs.Common.{◌≡◌, ℕ, ◌+◌, ◌*◌, ◌<◌, ◌||◌, Bool, true, false, cond, List, [], ◌∷◌, length, map, take, position, get_or, Option, Some, refl, sym, ap, ◌∙◌, subst}
use Rattle.std.proofs.Common.{arith, inl, inr, nat_eq}
use Rattle.std.specs.Prelude.{◌≢◌, ◌==◌, ◌&&◌, All, slice_get}
use Rattle.std.specs.List.{list_any}
use Rattle.std.specs.Option.{option_eq}
use Rattle.std.proofs.lemmas.Cmp.{nat_eq_equiv}
use Rattle.std.proofs.lemmas.List.{map_more}
use Rattle.std.proofs.lemmas.List.Folds.{list_any-append}
use Rattle.std.proofs.lemmas.Bool.{eq-eqb, ne_eqb}
use Rattle.std.proofs.lemmas.Bool.Decides.{eqb_tells}
use Rattle.std.proofs.Math.Bool.{and-false}
use Rattle.std.proofs.lemmas.Option.{slice_get_within, slice_get-get_or, get_or_from_slice_get}
use Rattle.dia_book.specs.declared.Class.{Class}
use Rattle.dia_book.specs.declared.Class.TheVariants.{Request, Answer, Error as Failure}
use Rattle.dia_book.specs.declared.DefHead.{DefHead}
use Rattle.dia_book.specs.declared.DefHead.TheVariants.{Group, Command, Error}
use Rattle.dia_book.specs.Dictionary.{has_class, is_command, IsCommandHead}
use Rattle.dia_book.specs.declared.Definition.{Definition}
use Rattle.dia_dict.specs.Indexed.{command_place}
use Rattle.dia_dict.specs.Selectors.{selector, selector_of, service, service_of}
use Rattle.dia_dict.specs.SameSelectors.{same_selector}
use Rattle.dia_dict.proofs.Indexing.Places.{place_of_image}
use Rattle.dia_book.proofs.Lists.{and_true, and_false, position-map, list_any-map, map-agree}

-- ---- selectors

pub and_false_left : (x z : Bool) → ((x && false) && z) ≡ false
and_false_left true z = refl
and_false_left false z = refl

selector-is_command : (code : ℕ) (class : Class) (app : Option ℕ) (head : DefHead) → IsCommandHead head
    → same_selector (selector code class app) (selector_of head) ≡ is_command code class app head
selector-is_command code Request app (Command c Request a p) h = sym (and_true (code == c) (option_eq nat_eq app a))
selector-is_command code Request app (Command c Answer a p) h = sym (and_false (code == c) (option_eq nat_eq app a))
selector-is_command code Answer app (Command c Request a p) h = sym (and_false (code == c) (option_eq nat_eq app a))
selector-is_command code Answer app (Command c Answer a p) h = sym (and_true (code == c) (option_eq nat_eq app a))
selector-is_command code Failure app (Command c Request a p) h = sym (and_false_left (code == c) (option_eq nat_eq app a))
selector-is_command code Failure app (Command c Answer a p) h = sym (and_false_left (code == c) (option_eq nat_eq app a))
selector-is_command code class app (Command c Failure a p) h = absurd (h refl)
selector-is_command code Request app (Error p) h = refl
selector-is_command code Answer app (Error p) h = refl
selector-is_command code Failure app (Error p) h = refl
selector-is_command code class app (Group key) h = absurd h

-- ---- numbers of services

service-same : (k a b : ℕ) → (2 * a + k == 2 * b + k) ≡ ((a == b) && true)
service-same k a b = elim (eqb_tells a b) [
  | inl is ↦ eq-eqb (2 * a + k) (2 * b + k) (ap (λ (n : ℕ). 2 * n + k) is.1) ∙ sym (ap (λ (t : Bool). t && true) is.0)
  | inr differs ↦ ne_eqb (2 * a + k) (2 * b + k) (λ same. differs.1 (omega (arith, same))) ∙ sym (ap (λ (t : Bool). t && true) differs.0)
]

service-apart : (a b : ℕ) → a ≢ b → (t : Bool) → (a == b) ≡ (t && false)
service-apart a b differ t = ne_eqb a b differ ∙ sym (and-false t)

service-has_class : (code : ℕ) (class : Class) (head : DefHead) → IsCommandHead head → (service code class == service_of head) ≡ has_class code class head
service-has_class code Request (Command c Request a p) h = service-same 1 code c
service-has_class code Request (Command c Answer a p) h = service-apart (2 * code + 1) (2 * c + 2) (λ same. omega (arith, same)) (code == c)
service-has_class code Answer (Command c Request a p) h = service-apart (2 * code + 2) (2 * c + 1) (λ same. omega (arith, same)) (code == c)
service-has_class code Answer (Command c Answer a p) h = service-same 2 code c
service-has_class code Failure (Command c Request a p) h = service-apart 0 (2 * c + 1) (λ same. omega (arith, same)) (code == c)
service-has_class code Failure (Command c Answer a p) h = service-apart 0 (2 * c + 2) (λ same. omega (arith, same)) (code == c)
service-has_class code class (Command c Failure a p) h = absurd (h refl)
service-has_class code Request (Error p) h = ne_eqb (2 * code + 1) 0 (λ same. omega (arith, same))
service-has_class code Answer (Error p) h = ne_eqb (2 * code + 2) 0 (λ same. omega (arith, same))
service-has_class code Failure (Error p) h = refl
service-has_class code class (Group key) h = absurd h

-- a set gets the number of the next command
one_more : (a b : Bool) → cond b true a ≡ (a || (b || false))
one_more true true = refl
one_more true false = refl
one_more false true = refl
one_more false false = refl

pub served-more : (commands : List Definition) (i : ℕ) (d : Definition) → i < length commands → d ≡ get_or commands i d → (before after : List ℕ) (own : ℕ) → own ≡ service_of d.head
    → ((n : ℕ) → list_any (λ (m : ℕ). n == m) before ≡ list_any (λ (m : ℕ). n == m) (map (λ (e : Definition). service_of e.head) (take i commands)))
    → ((n : ℕ) → list_any (λ (m : ℕ). n == m) after ≡ cond (own == n) true (list_any (λ (m : ℕ). n == m) before))
    → (n : ℕ) → list_any (λ (m : ℕ). n == m) after ≡ list_any (λ (m : ℕ). n == m) (map (λ (e : Definition). service_of e.head) (take (i + 1) commands))
served-more commands i d within read before after own is h step n =
    let number = λ (e : Definition). service_of e.head in
    let others = list_any (λ (m : ℕ). n == m) (map number (take i commands)) in
    step n ∙ (λ j. cond (nat_eq_equiv.symm own n j) true (h n j)) ∙ one_more others (n == own)
    ∙ ap (λ (k : ℕ). others || ((n == k) || false)) (is ∙ ap number read)
    ∙ sym (ap (list_any (λ (m : ℕ). n == m)) (map_more number commands i d within)
    ∙ list_any-append (λ (m : ℕ). n == m) (map number (take i commands)) (number (get_or commands i d) ∷ []))

-- ---- look-ups among headers

pub All-at : {X : Type 0} (P : X → Type 0) (xs : List X) (i : ℕ) (x : X) → All P xs → slice_get xs i ≡ Some x → P x
All-at P xs i x all at = subst P (get_or_from_slice_get xs i x x at) (all i x (slice_get_within xs i x at))

pub All-image : {X Y : Type 0} (f : X → Y) (P : Y → Type 0) (xs : List X) → All (λ x. P (f x)) xs → All P (map f xs)
All-image f P xs all k y short =
    let found = place_of_image f xs k (get_or (map f xs) k y) (slice_get-get_or (map f xs) k y short) in
    subst P found.2 (All-at (λ x. P (f x)) xs k found.0 all found.1)

module _ (heads : List DefHead) (commands : All IsCommandHead heads) where
  -- two tests that are equal at each header of a command
  pub agree : (p q : DefHead → Bool) → ((head : DefHead) → IsCommandHead head → p head ≡ q head) → map p heads ≡ map q heads
  agree p q same = map-agree p q heads (λ i head at. same head (All-at IsCommandHead heads i head commands at))

  pub list_any-served : (code : ℕ) (class : Class) → list_any (λ (m : ℕ). service code class == m) (map service_of heads) ≡ list_any (has_class code class) heads
  list_any-served code class =
      let like = λ (head : DefHead). service code class == service_of head in
      list_any-map service_of (λ (m : ℕ). service code class == m) heads ∙ sym (list_any-map like (λ b. b) heads)
      ∙ ap (list_any (λ b. b)) (agree like (has_class code class) (service-has_class code class)) ∙ list_any-map (has_class code class) (λ b. b) heads

-- ---- where commands are found

module _ (ds : List Definition) (commands : All (λ (d : Definition). IsCommandHead d.head) ds) where
  headed : All IsCommandHead (map (λ (d : Definition). d.head) ds)
  headed = All-image (λ (d : Definition). d.head) IsCommandHead ds commands

  -- the place of the command that a message's selector names
  pub command_place-selected : (code : ℕ) (class : Class) (app : Option ℕ) → command_place same_selector ds (selector code class app)
      ≡ position (λ (d : Definition). is_command code class app d.head) ds
  command_place-selected code class app =
      let heads = map (λ (d : Definition). d.head) ds in
      let like = λ (head : DefHead). same_selector (selector code class app) (selector_of head) in
      sym (position-map (λ (d : Definition). d.head) like ds) ∙ sym (position-map like (λ b. b) heads)
      ∙ ap (position (λ b. b)) (agree heads headed like (is_command code class app) (selector-is_command code class app))
      ∙ position-map (is_command code class app) (λ b. b) heads ∙ position-map (λ (d : Definition). d.head) (is_command code class app) ds

  pub service-found : (numbers : List ℕ) → ((n : ℕ) → list_any (λ (m : ℕ). n == m) numbers ≡ list_any (λ (m : ℕ). n == m) (map (λ (d : Definition). service_of d.head) ds)) → (code : ℕ) (class : Class)
      → list_any (λ (m : ℕ). service code class == m) numbers ≡ list_any (λ (d : Definition). has_class code class d.head) ds
  service-found numbers served code class =
      let one = service code class in
      served one
      ∙ list_any-map (λ (d : Definition). service_of d.head) (λ (m : ℕ). one == m) ds ∙ sym (list_any-map (λ (d : Definition). d.head) (λ (h : DefHead). one == service_of h) ds)
      ∙ sym (list_any-map service_of (λ (m : ℕ). one == m) (map (λ (d : Definition). d.head) ds))
      ∙ list_any-served (map (λ (d : Definition). d.head) ds) headed code class
      ∙ list_any-map (λ (d : Definition). d.head) (has_class code class) ds
