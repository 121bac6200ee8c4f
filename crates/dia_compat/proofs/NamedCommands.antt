-- The named commands, one after the other.
use Rattle.std.proofs.Common.{◌≡◌, ℕ, zero, suc, ◌+◌, ◌<◌, Bool, true, false, cond, List, [], ◌∷◌, ◌++◌, length}
use Rattle.std.proofs.Common.{map, take, drop, get_or, Option, Some, None, refl, sym, ap, subst, ◌∙◌, arith, inl, inr}
use Rattle.std.specs.Prelude.{◌⊎◌, nat_eq, Contains, slice_get, is_some}
use Rattle.std.specs.Option.{option_map, option_map_or}
use Rattle.std.specs.List.{filter_map, list_any}
use Rattle.std.proofs.lemmas.List.{append_assoc, append-nil, map-append, drop_more, map_more}
use Rattle.std.proofs.lemmas.Bool.{eq-eqb, eqb-true}
use Rattle.std.proofs.lemmas.Option.{same_Some}
use Rattle.std.specs.Str.{bytes_eq}
use Rattle.std.proofs.lemmas.Slice.Eq.{bytes_eq-Decides}
use Rattle.indexmap.specs.IndexSet.{insert_key}
use Rattle.dia_wire.specs.declared.Key.{Key}
use Rattle.dia_book.specs.declared.DRule.{DRule}
use Rattle.dia_book.specs.Dictionary.{Dictionary, DictEntry, PlainDefinition, IsDictionary, definitions, groups}
use Rattle.dia_book.proofs.Members.{at_filter_map, position-is_some}
use Rattle.dia_terms.specs.declared.Unknown.{Unknown}
use Rattle.dia_valid.specs.Valid.{known}
use Rattle.dia_compat.specs.declared.proposing.naming.NamedCommands.{NamedCommands}
use Rattle.dia_compat.specs.declared.proposing.reaching.Reached.{Reached}
use Rattle.dia_compat.specs.Sides.{Sides}
use Rattle.dia_compat.specs.TableText.{plain_pair}
use Rattle.dia_compat.specs.Below.{IsAboveZero, IsKnown, IsCoveredAlone}
use Rattle.dia_valid.specs.Rules.{HasRule, IsListed, HasWildcard}
use Rattle.dia_compat.specs.Closed.{NamesEntry, NamesCommand}
use Rattle.dia_compat.specs.Proposed.{WantsPair, IsProposed, by_command, by_group, AreCommandPairs, AreAvpPairs}
use Rattle.dia_compat.specs.ReachedKeys.{has, Waits, IsShared, Admits, Wants, Follows, root, in_group}
use Rattle.dia_compat.specs.PairTests.{command_named}
use Rattle.dia_compat.specs.WantedNames.{or_alone, wanted_names, names_beside}
use Rattle.dia_compat.specs.NamedCommands.{shared_pair, Same, Adds, AddsOnce, name_at, AreRoots, NamedSoFar}
use Rattle.dia_valid.proofs.Members.{IsIn, in_at, at_in, in_contains, contains_in, in_left, in_right, in_append, in_any, any_in, in_filter_map}
use Rattle.dia_compat.proofs.FitInSecond.{known_entry, entry_known}
use Rattle.dia_valid.proofs.SelectedCommands.{one_command}
use Rattle.dia_valid.proofs.Searches.{found_or_not, Found, NotFound}
use Rattle.dia_compat.proofs.ReachedKeys.{is_known, rest_then}
use Rattle.dia_compat.proofs.WantedDefinitions.{are_beside, filter_map_order}

abbrev Pairs : Type 0
Pairs = List (List ℕ × List ℕ)

in_map : {X Y : Type 0} (f : X → Y) (xs : List X) (y : Y) → IsIn y (map f xs) → (x : X) × IsIn x xs × (y ≡ f x)
in_map f [] y h = absurd h
in_map f (x ∷ xs) y (inl e) = (x, inl refl, e)
in_map f (x ∷ xs) y (inr h) = let r = in_map f xs y h in (r.0, inr r.1, r.2)

into_map : {X Y : Type 0} (f : X → Y) (xs : List X) (x : X) → IsIn x xs → IsIn (f x) (map f xs)
into_map f [] x h = absurd h
into_map f (z ∷ xs) x (inl e) = inl (ap f e)
into_map f (z ∷ xs) x (inr h) = inr (into_map f xs x h)

name_there : (d : Dictionary) (place : ℕ) (c : PlainDefinition) → slice_get d.commands place ≡ Some c → name_at d place ≡ c.name
name_there d place c at = ap (λ (o : Option PlainDefinition). option_map_or (λ (x : PlainDefinition). x.name) o []) at

-- ---- lists

pub not_among : (ks : List ℕ) (k : ℕ) → false ≡ list_any (nat_eq k) ks → ¬ Contains ks k
not_among ks k none i = let e : true ≡ false = sym (in_any (nat_eq k) ks k (in_contains ks k i) (eq-eqb k k refl)) ∙ sym none in absurd cc

pub among : (ks : List ℕ) (k : ℕ) → true ≡ list_any (nat_eq k) ks → Contains ks k
among ks k some = let r = any_in (nat_eq k) ks (sym some) in contains_in ks k (subst (λ (n : ℕ). IsIn n ks) (sym (eqb-true k r.0 r.2)) r.1)

pub one_place_more : (ks more : List ℕ) (k : ℕ) → false ≡ list_any (nat_eq k) ks → more ≡ insert_key nat_eq ks k → more ≡ ks ++ k ∷ []
one_place_more ks more k none inserted = inserted ∙ ap (λ (b : Bool). cond b ks (ks ++ k ∷ [])) (sym none)

-- ---- a command by its name

-- the command at the place of a name has the name, and there is none where the name has no place
pub command_found : (d : Dictionary) (name : List ℕ) (i : ℕ) → command_named d name ≡ Some i → (c : PlainDefinition) × (slice_get d.commands i ≡ Some c) × (c.name ≡ name)
command_found d name i e = by (found_or_not (λ (c : PlainDefinition). bytes_eq name c.name) d.commands)
  where
    by : Found (λ (c : PlainDefinition). bytes_eq name c.name) d.commands ⊎ NotFound (λ (c : PlainDefinition). bytes_eq name c.name) d.commands
        → (c : PlainDefinition) × (slice_get d.commands i ≡ Some c) × (c.name ≡ name)
    by (inl f) =
        let same : f.place ≡ i = same_Some f.place i (sym f.is_place ∙ e) in
        (f.item, ap (slice_get d.commands) (sym same) ∙ f.at, sym ((bytes_eq-Decides name f.item.name).0 f.passes))
    by (inr n) = absurd (let none : None ≡ Some i = sym n.is_none ∙ e in cc)

pub no_command : (d : Dictionary) (name : List ℕ) (c : PlainDefinition) → command_named d name ≡ None → ¬ NamesCommand d name c
no_command d name c e n =
    let p = at_in d.commands c (in_contains d.commands c n.0) in
    let passes : bytes_eq name c.name ≡ true = (bytes_eq-Decides name c.name).1 (sym n.1) in
    let some = position-is_some (λ (x : PlainDefinition). bytes_eq name x.name) d.commands p.place c p.at passes in
    absurd (let f : false ≡ true = ap (λ (o : Option ℕ). is_some o) (sym e) ∙ some in cc)

pub next_item : {X : Type 0} (f : X → List ℕ) (xs : List X) (i : ℕ) (x : X) → i < length xs → x ≡ get_or xs i x
    → (map f (drop i xs) ≡ f x ∷ map f (drop (i + 1) xs)) × (map f (take (i + 1) xs) ≡ map f (take i xs) ++ f x ∷ [])
next_item {X} f xs i x within is = (
  ap (map f) (drop_more xs i x within) ∙ ap (λ (y : X). f y ∷ map f (drop (i + 1) xs)) (sym is),
  map_more f xs i x within ∙ ap (λ (y : X). map f (take i xs) ++ f y ∷ []) (sym is),
)

pub item_at : {X : Type 0} (f : X → List ℕ) (xs : List X) (i : ℕ) (x : X) → i < length xs → x ≡ get_or xs i x → slice_get (map f xs) i ≡ Some (f x)
item_at f [] i x within is = absurd (omega arith)
item_at f (y ∷ xs) zero x within is = ap (λ z. Some (f z)) (sym is)
item_at f (y ∷ xs) (suc i) x within is = item_at f xs i x (omega arith) is

-- ---- one name more

module _ (sides : Sides) (sa : IsDictionary sides.first) (sb : IsDictionary sides.second) where
  known_more : (gone : List (List ℕ)) (c : PlainDefinition) → Contains sides.first.commands c → ((name : List ℕ) → Contains gone name → (x : PlainDefinition) × NamesCommand sides.first name x)
      → (name : List ℕ) → Contains (gone ++ c.name ∷ []) name → (x : PlainDefinition) × NamesCommand sides.first name x
  known_more gone c inside before name i = by (in_append gone (c.name ∷ []) name (in_contains (gone ++ c.name ∷ []) name i))
    where
      by : IsIn name gone ⊎ IsIn name (c.name ∷ []) → (x : PlainDefinition) × NamesCommand sides.first name x
      by (inl h) = before name (contains_in gone name h)
      by (inr (inl e)) = (c, (inside, sym e))
      by (inr (inr none)) = absurd none

  pub named_again : (gone left : List (List ℕ)) (place : ℕ) (c : PlainDefinition) (old new : NamedCommands) → slice_get sides.first.commands place ≡ Some c → NamedSoFar sides gone (c.name ∷ left) old
      → Contains old.places.keys place → Same old new
      → NamedSoFar sides (gone ++ c.name ∷ []) left new
  named_again gone left place c old new at so again same = record {
    owed = λ more h.
        let listed : Contains (map (name_at sides.first) old.places.keys) c.name = subst (Contains (map (name_at sides.first) old.places.keys)) (name_there sides.first place c at)
        (contains_in (map (name_at sides.first) old.places.keys) (name_at sides.first place) (into_map (name_at sides.first) old.places.keys place (in_contains old.places.keys place again))) in
        let all = so.owed more (inl (listed, subst (λ (ks : List ℕ). AreCommandPairs sides.first sides.second (map (name_at sides.first) ks) left more) same.places h)) in
        subst (λ (ns : List (List ℕ)). AreCommandPairs sides.first sides.second [] ns (map plain_pair new.pairs.items ++ more)) (sym (append_assoc gone (c.name ∷ []) left))
        (subst (λ (ps : Pairs). AreCommandPairs sides.first sides.second [] (gone ++ (c.name ∷ left)) (ps ++ more)) (sym same.pairs) all);
    roots = subst (λ (ps : Pairs). AreRoots sides ps new.reached) (sym same.pairs) (subst (λ (r : Reached). AreRoots sides (map plain_pair old.pairs.items) r) (sym same.reached) so.roots);
    within = λ k i. so.within k (subst (λ (ks : List ℕ). Contains ks k) same.places i);
    listed = λ p i. subst (λ (ks : List ℕ). Contains (map (name_at sides.first) ks) p.0) (sym same.places) (so.listed p (subst (λ (ps : Pairs). Contains ps p) same.pairs i));
    known = known_more gone c (contains_in sides.first.commands c (in_at sides.first.commands place c at)) so.known;
  }

  some_name : (name : List ℕ) (ns : List (List ℕ)) → (n : List ℕ) × IsIn n (or_alone name ns)
  some_name name [] = (name, inl refl)
  some_name name (n ∷ ns) = (n, inl refl)

  module _ (gone left : List (List ℕ)) (place : ℕ) (c : PlainDefinition) (old new : NamedCommands) (at : slice_get sides.first.commands place ≡ Some c) (so : NamedSoFar sides gone (c.name ∷ left) old)
      (fresh : ¬ Contains old.places.keys place) (adds : Adds sides place c old new) where
    abbrev pairs_of_c : Pairs
    pairs_of_c = map (λ (name : List ℕ). (c.name, name)) (names_beside sides c)

    abbrev before : Pairs
    before = map plain_pair old.pairs.items

    abbrev after : Pairs
    after = map plain_pair new.pairs.items

    inside : Contains sides.first.commands c
    inside = contains_in sides.first.commands c (in_at sides.first.commands place c at)

    names_now : map (name_at sides.first) new.places.keys ≡ map (name_at sides.first) old.places.keys ++ c.name ∷ []
    names_now = ap (map (name_at sides.first)) adds.places ∙ map-append (name_at sides.first) old.places.keys (place ∷ []) ∙ ap (λ (n : List ℕ). map (name_at sides.first) old.places.keys ++ n ∷ []) (name_there sides.first place c at)

    not_listed : ¬ Contains (map (name_at sides.first) old.places.keys) c.name
    not_listed h =
        let r = in_map (name_at sides.first) old.places.keys c.name (in_contains (map (name_at sides.first) old.places.keys) c.name h) in
        let k = contains_in old.places.keys r.0 r.1 in
        let x = so.within r.0 k in
        let same : r.0 ≡ place = sa.distinct_commands r.0 place x.0 c x.1 at (sym (name_there sides.first r.0 x.0 x.1) ∙ sym r.2) in
        fresh (subst (Contains old.places.keys) same k)

    owed : (more : Pairs) → AreCommandPairs sides.first sides.second (map (name_at sides.first) new.places.keys) left more → AreCommandPairs sides.first sides.second [] ((gone ++ c.name ∷ []) ++ left) (after ++ more)
    owed more h =
        let h2 = subst (λ (ns : List (List ℕ)). AreCommandPairs sides.first sides.second ns left more) names_now h in
        let all = so.owed (pairs_of_c ++ more) (inr (not_listed, c, names_beside sides c, more, (inside, refl), are_beside sides sa sb c inside, refl, h2)) in
        let grouped : before ++ (pairs_of_c ++ more) ≡ after ++ more = sym (append_assoc before pairs_of_c more) ∙ ap (λ (ps : Pairs). ps ++ more) (sym adds.pairs) in
        subst (λ (ns : List (List ℕ)). AreCommandPairs sides.first sides.second [] ns (after ++ more)) (sym (append_assoc gone (c.name ∷ []) left))
        (subst (λ (ps : Pairs). AreCommandPairs sides.first sides.second [] (gone ++ (c.name ∷ left)) ps) grouped all)

    split_pair : (p : List ℕ × List ℕ) → Contains after p → Contains before p ⊎ (p.0 ≡ c.name)
    split_pair p i = by (in_append before pairs_of_c p (in_contains (before ++ pairs_of_c) p (subst (λ (ps : Pairs). Contains ps p) adds.pairs i)))
      where
        by : IsIn p before ⊎ IsIn p pairs_of_c → Contains before p ⊎ (p.0 ≡ c.name)
        by (inl h) = inl (contains_in before p h)
        by (inr h) = let r = in_map (λ (name : List ℕ). (c.name, name)) (names_beside sides c) p h in inr (ap (λ (q : List ℕ × List ℕ). q.0) r.2)

    kept_pair : (p : List ℕ × List ℕ) → Contains before p → Contains after p
    kept_pair p i = subst (λ (ps : Pairs). Contains ps p) (sym adds.pairs) (contains_in (before ++ pairs_of_c) p (in_left before pairs_of_c p (in_contains before p i)))

    own_pair : (p : List ℕ × List ℕ) × Contains after p × (p.0 ≡ c.name)
    own_pair =
        let n = some_name c.name (wanted_names sides c.head) in (
          (c.name, n.0),
          subst (λ (ps : Pairs). Contains ps (c.name, n.0)) (sym adds.pairs) (contains_in (before ++ pairs_of_c) (c.name, n.0)
              (in_right before pairs_of_c (c.name, n.0) (into_map (λ (name : List ℕ). (c.name, name)) (names_beside sides c) n.0 n.1))),
          refl,
        )

    each : (key : Key) → (has old.reached key ≡ true) ⊎ (Admits c.rules key × IsShared sides key) → (p : List ℕ × List ℕ) × (x : PlainDefinition) × Contains after p × NamesCommand sides.first p.0 x
        × Wants sides x.rules key
    each key (inl h) = let r = so.roots.each key h in (r.0, r.1, kept_pair r.0 r.2, r.3, r.4)
    each key (inr w) = (own_pair.0, c, own_pair.1, (inside, sym own_pair.2), w)

    all : (p : List ℕ × List ℕ) (x : PlainDefinition) (key : Key) → Contains before p ⊎ (p.0 ≡ c.name) → NamesCommand sides.first p.0 x → Wants sides x.rules key → has new.reached key ≡ true
    all p x key (inl i) n w = adds.reached.grew.grows key (so.roots.all p x key i n w)
    all p x key (inr e) n w =
        let same : x ≡ c = one_command sides.first x c sa (in_contains sides.first.commands x n.0) (in_contains sides.first.commands c inside) (n.1 ∙ e) in
        let v = subst (λ (y : PlainDefinition). Wants sides y.rules key) same w in
        adds.reached.there key v.0 v.1

    waits_each : (key : Key) → (has old.reached key ≡ true) ⊎ Waits new.reached key → Waits new.reached key
    waits_each key (inl h) = adds.reached.grew.still key (so.roots.wait.each key h)
    waits_each key (inr w) = w

    waits_only : (key : Key) → Waits old.reached key ⊎ (has new.reached key ≡ true) → has new.reached key ≡ true
    waits_only key (inl w) = adds.reached.grew.grows key (so.roots.wait.only key w)
    waits_only key (inr h) = h

    within : (k : ℕ) → IsIn k old.places.keys ⊎ IsIn k (place ∷ []) → (x : PlainDefinition) × (slice_get sides.first.commands k ≡ Some x)
    within k (inl i) = so.within k (contains_in old.places.keys k i)
    within k (inr (inl e)) = (c, ap (slice_get sides.first.commands) e ∙ at)
    within k (inr (inr none)) = absurd none

    listed : (p : List ℕ × List ℕ) → Contains before p ⊎ (p.0 ≡ c.name) → Contains (map (name_at sides.first) old.places.keys ++ c.name ∷ []) p.0
    listed p (inl i) = contains_in (map (name_at sides.first) old.places.keys ++ c.name ∷ []) p.0
        (in_left (map (name_at sides.first) old.places.keys) (c.name ∷ []) p.0 (in_contains (map (name_at sides.first) old.places.keys) p.0 (so.listed p i)))
    listed p (inr e) = contains_in (map (name_at sides.first) old.places.keys ++ c.name ∷ []) p.0 (in_right (map (name_at sides.first) old.places.keys) (c.name ∷ []) p.0 (inl e))

    pub named_new : NamedSoFar sides (gone ++ c.name ∷ []) left new
    named_new = record {
      owed = owed;
      roots = record {
        each = λ key h. each key (adds.reached.grew.only key h);
        all = λ p x key i n w. all p x key (split_pair p i) n w;
        wait = record { each = λ key h. waits_each key (adds.reached.grew.queued key h); only = λ key w. waits_only key (adds.reached.grew.waits key w) };
        rest = rest_then sides (Admits c.rules) old.reached new.reached so.roots.rest adds.reached;
      };
      within = λ k i. within k (in_append old.places.keys (place ∷ []) k (in_contains (old.places.keys ++ place ∷ []) k (subst (λ (ks : List ℕ). Contains ks k) adds.places i)));
      listed = λ p i. subst (λ (ns : List (List ℕ)). Contains ns p.0) (sym names_now) (listed p (split_pair p i));
      known = known_more gone c inside so.known;
    }

  pub named_more : (gone left : List (List ℕ)) (place : ℕ) (c : PlainDefinition) (old new : NamedCommands) → slice_get sides.first.commands place ≡ Some c → NamedSoFar sides gone (c.name ∷ left) old
      → AddsOnce sides place c old new → NamedSoFar sides (gone ++ c.name ∷ []) left new
  named_more gone left place c old new at so (inl (again, same)) = named_again gone left place c old new at so again same
  named_more gone left place c old new at so (inr (fresh, adds)) = named_new gone left place c old new at so fresh adds

  pub all_named : (names : List (List ℕ)) (named : NamedCommands) → NamedSoFar sides names [] named → AreCommandPairs sides.first sides.second [] names (map plain_pair named.pairs.items)
  all_named names named so =
      subst (λ (ns : List (List ℕ)). AreCommandPairs sides.first sides.second [] ns (map plain_pair named.pairs.items)) (append-nil names)
      (subst (λ (ps : Pairs). AreCommandPairs sides.first sides.second [] (names ++ []) ps) (append-nil (map plain_pair named.pairs.items)) (so.owed [] refl))

  -- ---- what follows is what is proposed

  module _ (u : Unknown) where
    pub wants_pair : (rules : List DRule) (key : Key) → Wants sides rules key → WantsPair sides.first sides.second u rules key
    wants_pair rules key w = record { wanted = by w.0; not_alone = not_alone; known_too = w.1.1 }
      where
        by : Admits rules key → ((r : DRule) × HasRule rules key r × IsAboveZero r.max) ⊎ ((v : DRule) × HasWildcard rules v × IsAboveZero v.max × IsKnown sides.first key × (¬ IsListed rules key))
        by (inl p) = inl p
        by (inr q) = inr (q.0.0, q.0.1, q.0.2, w.1.0, q.1)

        not_alone : ¬ IsCoveredAlone sides.first sides.second u key
        not_alone h = let e : true ≡ false = sym w.1.1 ∙ ap (λ (o : Option DictEntry). is_some o) h.1 in absurd cc

    pub pair_wants : (d : PlainDefinition) (key : Key) → Contains (definitions sides.first) d → WantsPair sides.first sides.second u d.rules key → Wants sides d.rules key
    pair_wants d key i w = by w.wanted
      where
        by : ((r : DRule) × HasRule d.rules key r × IsAboveZero r.max) ⊎ ((v : DRule) × HasWildcard d.rules v × IsAboveZero v.max × IsKnown sides.first key × (¬ IsListed d.rules key)) → Wants sides d.rules key
        by (inl (r, h, pos)) = (inl (r, h, pos), (is_known sides.first key (sa.known_keys d r key i h.0 h.1), w.known_too))
        by (inr (v, h, pos, is, unl)) = (inr ((v, h, pos), unl), (is, w.known_too))

    group_inside : (e : DictEntry) (g : PlainDefinition) → IsIn e sides.first.entries → e.group ≡ Some g → Contains (definitions sides.first) g
    group_inside e g i is = contains_in (definitions sides.first) g (in_left (groups sides.first) sides.first.commands g (in_filter_map (λ (x : DictEntry). x.group) sides.first.entries e g i is))

    module _ (pairs : Pairs) (roots : Reached) (are : AreRoots sides pairs roots) where
      pub proposed : (key : Key) → Follows sides roots key → IsProposed sides.first sides.second u pairs key
      proposed key (root k h) = let r = are.each key h in by_command r.0 r.1 key r.2 r.3 (wants_pair r.1.rules key r.4)
      proposed key (in_group outer k e f group up ea eb both is w) = by_group outer key e f group (proposed outer up) ea eb both is (wants_pair group.rules key w)

      pub follows : (key : Key) → IsProposed sides.first sides.second u pairs key → Follows sides roots key
      follows key (by_command p c k i n w) = root key (are.all p c key i n (pair_wants c key (contains_in (definitions sides.first) c (in_right (groups sides.first) sides.first.commands c (in_contains sides.first.commands c n.0))) w))
      follows key (by_group outer k e f group up ea eb both is w) =
          in_group outer key e f group (follows outer up) ea eb both is (pair_wants group key (group_inside e group (known_entry sides.first outer e ea).0 is) w)

  -- ---- the AVP pairs

  shared_says : (r : Reached) (e : DictEntry) (p : List ℕ × List ℕ) → shared_pair sides.second r e ≡ Some p → (has r e.key ≡ true) × ((f : DictEntry) × (known sides.second e.key ≡ Some f) × (p ≡ (e.name, f.name)))
  shared_says r e p h = by (has r e.key) refl h
    where
      inner : (o : Option DictEntry) → known sides.second e.key ≡ o → option_map (λ (f : DictEntry). (e.name, f.name)) o ≡ Some p → (f : DictEntry) × (known sides.second e.key ≡ Some f) × (p ≡ (e.name, f.name))
      inner None g k = absurd (let f : None ≡ Some p = k in cc)
      inner (Some f) g k = (f, g, sym (same_Some (e.name, f.name) p k))

      by : (b : Bool) → has r e.key ≡ b → cond b (option_map (λ (f : DictEntry). (e.name, f.name)) (known sides.second e.key)) None ≡ Some p
          → (has r e.key ≡ true) × ((f : DictEntry) × (known sides.second e.key ≡ Some f) × (p ≡ (e.name, f.name)))
      by true g k = (g, inner (known sides.second e.key) refl k)
      by false g k = absurd (let f : None ≡ Some p = k in cc)

  shared_is : (r : Reached) (e f : DictEntry) → has r e.key ≡ true → known sides.second e.key ≡ Some f → shared_pair sides.second r e ≡ Some (e.name, f.name)
  shared_is r e f h k =
      ap (λ (b : Bool). cond b (option_map (λ (x : DictEntry). (e.name, x.name)) (known sides.second e.key)) None) h ∙ ap (λ (o : Option DictEntry). option_map (λ (x : DictEntry). (e.name, x.name)) o) k

  pub are_avp_pairs : (r : Reached) (wanted : Key → Type 0) → ((key : Key) → has r key ≡ true → wanted key) → ((key : Key) → wanted key → has r key ≡ true)
      → AreAvpPairs sides.first sides.second wanted (filter_map (shared_pair sides.second r) sides.first.entries)
  are_avp_pairs r wanted to from = record {
    each = λ p. (there p, back p);
    in_order = λ i j k l p q e f less at_i at_j at_k at_l first second.
        let o = filter_map_order (shared_pair sides.second r) sides.first.entries i j p q less at_i at_j in
        let x = shared_says r o.x p o.gives_y in
        let y = shared_says r o.w q o.gives_z in
        let a : k ≡ o.k = sa.distinct_names k o.k e o.x at_k o.at_k (first ∙ ap (λ (z : List ℕ × List ℕ). z.0) x.1.2) in
        let b : l ≡ o.l = sa.distinct_names l o.l f o.w at_l o.at_l (second ∙ ap (λ (z : List ℕ × List ℕ). z.0) y.1.2) in
        let lt = o.before in omega arith;
  }
    where
      there : (p : List ℕ × List ℕ) → Contains (filter_map (shared_pair sides.second r) sides.first.entries) p → (e f : DictEntry) × NamesEntry sides.first p.0 e × NamesEntry sides.second p.1 f × (e.key ≡ f.key) × wanted e.key
      there p i =
          let s = at_in (filter_map (shared_pair sides.second r) sides.first.entries) p (in_contains (filter_map (shared_pair sides.second r) sides.first.entries) p i) in
          let o = at_filter_map (shared_pair sides.second r) sides.first.entries s.place p s.at in
          let x = shared_says r o.1 p o.3 in
          let f = known_entry sides.second o.1.key x.1.0 x.1.1 in (
            o.1,
            x.1.0,
            (contains_in sides.first.entries o.1 (in_at sides.first.entries o.0 o.1 o.2), sym (ap (λ (z : List ℕ × List ℕ). z.0) x.1.2)),
            (contains_in sides.second.entries x.1.0 f.0, sym (ap (λ (z : List ℕ × List ℕ). z.1) x.1.2)),
            sym f.1,
            to o.1.key x.0,
          )

      back : (p : List ℕ × List ℕ) → (e f : DictEntry) × NamesEntry sides.first p.0 e × NamesEntry sides.second p.1 f × (e.key ≡ f.key) × wanted e.key → Contains (filter_map (shared_pair sides.second r) sides.first.entries) p
      back p (e, f, n, m, same, w) =
          let k = entry_known sides.second e.key f sb (in_contains sides.second.entries f m.0) (sym same) in
          let is : (e.name, f.name) ≡ p = ap (λ (x : List ℕ). (x, f.name)) n.1 ∙ ap (λ (y : List ℕ). (p.0, y)) m.1 in
          subst (Contains (filter_map (shared_pair sides.second r) sides.first.entries)) is
          (contains_in (filter_map (shared_pair sides.second r) sides.first.entries) (e.name, f.name)
          (in_filter_map (shared_pair sides.second r) sides.first.entries e (e.name, f.name) (in_contains sides.first.entries e n.0) (shared_is r e f (from e.key w) k)))
