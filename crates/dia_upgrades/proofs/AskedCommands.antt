-- The places of the commands that are asked for.
use Rattle.std.proofs.Common.{◌≡◌, ℕ, zero, suc, ◌+◌, ◌<◌, true, false, ◌==◌, List, [], ◌∷◌, ◌++◌, length, map, take, get_or, Option, Some, None, refl, sym, ap, subst, ◌∙◌, arith, inl, inr}
use Rattle.std.specs.Prelude.{◌⊎◌, All, Contains, IfSome, slice_get}
use Rattle.std.specs.List.{AllByRecursion, cons_option, filter_map, range_with_len}
use Rattle.std.proofs.lemmas.List.{take-map}
use Rattle.std.proofs.lemmas.Option.{slice_get_within}
use Rattle.std.proofs.lemmas.List.Elements.{All-contains, All-from_recursion, All-map, All-more, All-weaker, filter_map-append}
use Rattle.std.proofs.lemmas.List.FromFn.{get_or-range_with_len, length-range_with_len}
use Rattle.std.proofs.lemmas.Bool.{eqb-true}
use Rattle.dia_book.specs.declared.DefHead.TheVariants.{Group}
use Rattle.dia_book.specs.Dictionary.{Dictionary, DictEntry, PlainDefinition, IsDictionary, IsCommandHead, definitions, groups}
use Rattle.dia_book.proofs.Members.{at_append, at_filter_map}
use Rattle.dia_breaking_sites.proofs.Members.{in_at, contains_in, all_of}
use Rattle.dia_compat.specs.Closed.{NamesCommand}
use Rattle.dia_compat.specs.PairTests.{command_named}
use Rattle.dia_valid.proofs.Members.{in_filter_map, in_contains, contains_in as contains}
use Rattle.dia_compat.proofs.NamedCommands.{command_found, next_item, no_command}
use Rattle.dia_upgrades.specs.Asking.{AreCommands, IsAskedFor}
use Rattle.dia_upgrades.specs.Places.{asked_places}

-- ---- where a command stands

pub record IsCommandAt (d : Dictionary) (number : ℕ) (command : PlainDefinition) : Type 0 where
  pub place : ℕ
  pub number_is : number ≡ length (groups d) + place
  pub at : slice_get d.commands place ≡ Some command

module _ (d : Dictionary) (sound : IsDictionary d) (number : ℕ) (command : PlainDefinition) where
  no_group : IsCommandHead command.head → slice_get (groups d) number ≡ Some command → ⊥
  no_group head at =
      let r = at_filter_map (λ (e : DictEntry). e.group) d.entries number command at in
      let all = all_of (λ (e : DictEntry). IfSome e.group (λ g. (g.name ≡ e.name) × (g.head ≡ Group e.key))) d.entries r.1 sound.group_heads (in_at d.entries r.0 r.1 r.2) in
      let own = subst (λ (o : Option PlainDefinition). IfSome o (λ g. (g.name ≡ r.1.name) × (g.head ≡ Group r.1.key))) r.3 all in
      subst IsCommandHead own.1 head

  -- a command's number is its place behind the groups
  pub command_occurs : Contains d.commands command → slice_get (definitions d) number ≡ Some command → IsCommandAt d number command
  command_occurs inside at = by (at_append (groups d) d.commands number command at)
    where
      head : IsCommandHead command.head
      head = All-contains (λ (c : PlainDefinition). IsCommandHead c.head) d.commands command sound.command_heads inside

      by : (slice_get (groups d) number ≡ Some command) ⊎ ((j : ℕ) × (number ≡ length (groups d) + j) × (slice_get d.commands j ≡ Some command)) → IsCommandAt d number command
      by (inl here) = absurd (no_group head here)
      by (inr r) = record { place = r.0; number_is = r.1; at = r.2 }

-- ---- no name is given

pub no_names : {X : Type 0} (f : X → List ℕ) (xs : List X) → true ≡ (length xs == 0) → map f xs ≡ []
no_names f [] none = refl
no_names f (x ∷ xs) none = absurd (omega (arith, eqb-true (length (x ∷ xs)) 0 (sym none)))

range_more : (a n : ℕ) → range_with_len a (n + 1) ≡ range_with_len a n ++ (a + n) ∷ []
range_more a zero = ap (λ (k : ℕ). k ∷ []) (omega arith)
range_more a (suc n) =
    let one : suc n + 1 ≡ suc (n + 1) = omega arith in
    let last : a + 1 + n ≡ a + suc n = omega arith in
    ap (range_with_len a) one ∙ ap (λ (ks : List ℕ). a ∷ ks) (range_more (a + 1) n) ∙ ap (λ (k : ℕ). a ∷ (range_with_len (a + 1) n ++ k ∷ [])) last

-- all places below one more
pub in_range : (place : ℕ) (old new : List ℕ) → new ≡ old ++ place ∷ [] → old ≡ range_with_len 0 place → new ≡ range_with_len 0 (place + 1)
in_range place old new pushed before =
    let last : place ≡ 0 + place = omega arith in
    pushed ∙ ap (λ (o : List ℕ). o ++ place ∷ []) before ∙ ap (λ (k : ℕ). range_with_len 0 place ++ k ∷ []) last ∙ sym (range_more 0 place)

pub all_asked : (d : Dictionary) (names : List (List ℕ)) (places : List ℕ) (count : ℕ) → names ≡ [] → count ≡ length d.commands → places ≡ range_with_len 0 count → places ≡ asked_places d names
all_asked d names places count none all is = is ∙ ap (range_with_len 0) all ∙ ap (asked_places d) (sym none)

pub no_name_known : (d : Dictionary) (names : List (List ℕ)) → names ≡ [] → AreCommands d names
no_name_known d names none = subst (AreCommands d) (sym none) (λ k name lt. absurd (omega (arith, lt)))

-- ---- names are given

-- the name is that of a command
abbrev pub IsNamed : Dictionary → List ℕ → Type 0
IsNamed d name = (place : ℕ) × (command_named d name ≡ Some place)

named_command : (d : Dictionary) (name : List ℕ) → IsNamed d name → (command : PlainDefinition) × NamesCommand d name command
named_command d name (place, found) =
    let (command, at, is) = command_found d name place found in (command, (contains_in d.commands command (in_at d.commands place command at), is))

module _ {X : Type 0} (f : X → List ℕ) (d : Dictionary) (names : List X) where
  -- one name more, whose command stands at this place
  pub found_more : (old new : List ℕ) (place i : ℕ) (x : X) → new ≡ old ++ place ∷ [] → command_named d (f x) ≡ Some place → i < length names → x ≡ get_or names i x
      → old ≡ filter_map (command_named d) (map f (take i names)) → new ≡ filter_map (command_named d) (map f (take (i + 1) names))
  found_more old new place i x pushed found less item before =
      let places = filter_map (command_named d) in
      pushed ∙ ap (λ (o : List ℕ). o ++ place ∷ []) before ∙ ap (λ (o : Option ℕ). places (map f (take i names)) ++ cons_option o []) (sym found)
      ∙ sym (filter_map-append (command_named d) (map f (take i names)) (f x ∷ [])) ∙ ap places (sym (next_item f names i x less item).1)

  pub named_more : (place i : ℕ) (x : X) → command_named d (f x) ≡ Some place → i < length names → x ≡ get_or names i x → All (λ y. IsNamed d (f y)) (take i names)
      → All (λ y. IsNamed d (f y)) (take (i + 1) names)
  named_more place i x found less item before =
      let named = λ (y : X). IsNamed d (f y) in
      let here : named x = (place, found) in
      All-more named names i x less before (subst named item here)

  -- the names before one are those of commands
  pub known_before : (i : ℕ) → All (λ y. IsNamed d (f y)) (take i names) → (other : List ℕ) → Contains (take i (map f names)) other → (command : PlainDefinition) × NamesCommand d other command
  known_before i named other inside =
      let there = subst (λ (ns : List (List ℕ)). Contains ns other) (take-map f i names) inside in
      named_command d other (All-contains (IsNamed d) (map f (take i names)) other (All-map (IsNamed d) f (take i names) named) there)

  pub all_known : All (λ y. IsNamed d (f y)) names → AreCommands d (map f names)
  all_known named = All-weaker (IsNamed d) (λ name. (command : PlainDefinition) × NamesCommand d name command) (named_command d) (map f names) (All-map (IsNamed d) f names named)

pub named_asked : {X : Type 0} (f : X → List ℕ) (d : Dictionary) (xs : List X) → false ≡ (length xs == 0) → filter_map (command_named d) (map f xs) ≡ asked_places d (map f xs)
named_asked f d [] some = absurd (let e : false ≡ true = some in cc)
named_asked f d (x ∷ xs) some = refl

-- ---- the places

named_within : (d : Dictionary) (names : List (List ℕ)) → AllByRecursion (λ place. place < length d.commands) (filter_map (command_named d) names)
named_within d [] = tt
named_within d (name ∷ names) = by (command_named d name) refl (named_within d names)
  where
    by : (o : Option ℕ) → command_named d name ≡ o → AllByRecursion (λ place. place < length d.commands) (filter_map (command_named d) names)
        → AllByRecursion (λ place. place < length d.commands) (cons_option o (filter_map (command_named d) names))
    by None e rest = rest
    by (Some place) e rest = let (command, at, is) = command_found d name place e in (slice_get_within d.commands place command at, rest)

-- each is that of a command
pub asked_within : (d : Dictionary) (names : List (List ℕ)) → All (λ place. place < length d.commands) (asked_places d names)
asked_within d [] = λ i e less.
    let count = length-range_with_len 0 (length d.commands) in
    let within : i < length d.commands = omega (arith, less, count) in
    omega (arith, get_or-range_with_len 0 (length d.commands) i e within)
asked_within d (name ∷ names) = All-from_recursion (λ place. place < length d.commands) (filter_map (command_named d) (name ∷ names)) (named_within d (name ∷ names))

-- a command stands at the place that its name has
own_place : (d : Dictionary) → IsDictionary d → (place : ℕ) (command : PlainDefinition) → slice_get d.commands place ≡ Some command → command_named d command.name ≡ Some place
own_place d sound place command at = by (command_named d command.name) refl
  where
    by : (o : Option ℕ) → command_named d command.name ≡ o → o ≡ Some place
    by None e = absurd (no_command d command.name command e (contains_in d.commands command (in_at d.commands place command at), refl))
    by (Some k) e = let (other, there, is) = command_found d command.name k e in ap (λ (n : ℕ). Some n) (sound.distinct_commands k place other command there at is)

-- and that of each command that is asked for is one
pub asked_each : (d : Dictionary) → IsDictionary d → (names : List (List ℕ)) (place : ℕ) (command : PlainDefinition) → slice_get d.commands place ≡ Some command → IsAskedFor d names command
    → Contains (asked_places d names) place
asked_each d sound [] place command at asked =
    let less = slice_get_within d.commands place command at in
    (place, omega (arith, less, length-range_with_len 0 (length d.commands)), omega (arith, get_or-range_with_len 0 (length d.commands) place place less))
asked_each d sound (name ∷ names) place command at (inside, inl none) = absurd (let e : name ∷ names ≡ [] = none in cc)
asked_each d sound (name ∷ names) place command at (inside, inr named) =
    let places = filter_map (command_named d) (name ∷ names) in
    contains places place (in_filter_map (command_named d) (name ∷ names) command.name place (in_contains (name ∷ names) command.name named) (own_place d sound place command at))
