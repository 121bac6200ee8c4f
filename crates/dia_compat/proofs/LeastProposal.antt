-- A proposed table is the least: where some table that lists the names is closed, the proposed one is, and is part of it.
use Rattle.std.proofs.Common.{◌≡◌, ℕ, suc, List, [], ◌∷◌, ◌++◌, map, Option, Some, None, refl, sym, ap, subst, ◌∙◌, inl, inr}
use Rattle.std.specs.Prelude.{◌⊎◌, IfSome, is_some, Contains, slice_get}
use Rattle.dia_wire.specs.declared.Key.{Key}
use Rattle.dia_book.specs.declared.DRule.{DRule}
use Rattle.dia_book.specs.declared.DefHead.{DefHead}
use Rattle.dia_book.specs.declared.DefHead.TheVariants.{Group, Command, Error}
use Rattle.dia_book.specs.Dictionary.{Dictionary, DictEntry, PlainDefinition, IsDictionary}
use Rattle.dia_terms.specs.declared.Unknown.{Unknown}
use Rattle.dia_valid.specs.Valid.{known}
use Rattle.dia_compat.specs.TableText.{PlainTable}
use Rattle.dia_compat.specs.declared.checking.PairKind.{PairKind}
use Rattle.dia_compat.specs.declared.checking.PairKind.TheVariants as kind
use Rattle.dia_compat.specs.declared.checking.Test.{Test}
use Rattle.dia_compat.specs.declared.checking.Test.TheVariants.{N1, N2, N3, N4, N5, N6, N7, N8, N9, N10}
use Rattle.dia_compat.specs.Below.{IsAboveZero, IsCoveredAlone, IsCovered, IsKnown, Passes, DefBelow}
use Rattle.dia_valid.specs.Rules.{HasRule, IsListed, HasWildcard}
use Rattle.dia_compat.specs.Closed.{NamesEntry, NamesCommand, IsPairKey, IsWanted, error, same_app, no_app, both_none, IsServed, CommandPair, CommandTest, BothGrouped, AvpTest, IsClosed}
use Rattle.dia_compat.specs.Proposed.{WantsPair, IsProposed, by_command, by_group, AreBeside, AreCommandPairs, IsProposal, ListsAll, IsLeast}
use Rattle.dia_valid.proofs.Members.{IsIn, in_at, in_contains, contains_in, in_left, in_right, in_append}
use Rattle.dia_compat.proofs.FitInSecond.{known_entry, entry_known, one_entry, has_group, pair_of}
use Rattle.dia_valid.proofs.SelectedCommands.{one_command}
use Rattle.dia_compat.proofs.IncludedMessages.{pair_tests, tenth}

-- a pair of names
abbrev NamePair : Type 0
NamePair = List ℕ × List ℕ

in_map : {X Y : Type 0} (f : X → Y) (xs : List X) (y : Y) → IsIn y (map f xs) → (x : X) × IsIn x xs × (y ≡ f x)
in_map f [] y h = absurd h
in_map f (x ∷ xs) y (inl e) = (x, inl refl, e)
in_map f (x ∷ xs) y (inr h) = let r = in_map f xs y h in (r.0, inr r.1, r.2)

into_map : {X Y : Type 0} (f : X → Y) (xs : List X) (x : X) → IsIn x xs → IsIn (f x) (map f xs)
into_map f [] x h = absurd h
into_map f (z ∷ xs) x (inl e) = inl (ap f e)
into_map f (z ∷ xs) x (inr h) = inr (into_map f xs x h)

module _ (da db : Dictionary) (sa : IsDictionary da) (sb : IsDictionary db) (u : Unknown) where
  -- ---- the command pairs

  -- what a proposed pair of commands is
  pub record IsOne (names : List (List ℕ)) (pairs : List NamePair) (p : NamePair) : Type 0 where
    pub is_named : IsIn p.0 names
    pub command : PlainDefinition
    pub is_command : NamesCommand da p.0 command
    pub beside : List (List ℕ)
    pub are : AreBeside da db command beside
    pub is_one : IsIn p.1 beside
    pub all : (b : List ℕ) → IsIn b beside → IsIn (p.0, b) pairs

  one_of_these : (name : List ℕ) (names : List (List ℕ)) (c : PlainDefinition) (beside : List (List ℕ)) (rest : List NamePair) (p : NamePair) → NamesCommand da name c → AreBeside da db c beside
      → (b : List ℕ) → IsIn b beside → p ≡ (name, b) → IsOne (name ∷ names) (map (λ x. (name, x)) beside ++ rest) p
  one_of_these name names c beside rest p is are b i e =
      let same : p.0 ≡ name = ap (λ (q : NamePair). q.0) e in
      record {
        is_named = inl same;
        command = c;
        is_command = subst (λ (n : List ℕ). NamesCommand da n c) (sym same) is;
        beside = beside;
        are = are;
        is_one = subst (λ (n : List ℕ). IsIn n beside) (sym (ap (λ (q : NamePair). q.1) e)) i;
        all = λ x j. subst (λ (n : List ℕ). IsIn (n, x) (map (λ y. (name, y)) beside ++ rest)) (sym same)
            (in_left (map (λ (y : List ℕ). (name, y)) beside) rest (name, x) (into_map (λ (y : List ℕ). (name, y)) beside x j));
      }

  later_one : (name : List ℕ) (names : List (List ℕ)) (front pairs : List NamePair) (p : NamePair) → IsOne names pairs p → IsOne (name ∷ names) (front ++ pairs) p
  later_one name names front pairs p o = record {
    is_named = inr o.is_named;
    command = o.command;
    is_command = o.is_command;
    beside = o.beside;
    are = o.are;
    is_one = o.is_one;
    all = λ b i. in_right front pairs (p.0, b) (o.all b i);
  }

  pub command_pair : (names earlier : List (List ℕ)) (pairs : List NamePair) (p : NamePair) → AreCommandPairs da db earlier names pairs → IsIn p pairs → IsOne names pairs p
  command_pair [] earlier pairs p h i = absurd (subst (λ (ps : List NamePair). IsIn p ps) h i)
  command_pair (name ∷ names) earlier pairs p (inl (again, more)) i = later_one name names [] pairs p (command_pair names earlier pairs p more i)
  command_pair (name ∷ names) earlier pairs p (inr (new, c, beside, rest, is, are, parts, more)) i =
      subst (λ (ps : List NamePair). IsOne (name ∷ names) ps p) (sym parts)
      (by (in_append (map (λ (x : List ℕ). (name, x)) beside) rest p (subst (λ (ps : List NamePair). IsIn p ps) parts i)) (λ h. command_pair names (earlier ++ name ∷ []) rest p more h))
    where
      by : IsIn p (map (λ (x : List ℕ). (name, x)) beside) ⊎ IsIn p rest → (IsIn p rest → IsOne names rest p) → IsOne (name ∷ names) (map (λ (x : List ℕ). (name, x)) beside ++ rest) p
      by (inl h) ih = let r = in_map (λ (x : List ℕ). (name, x)) beside p h in one_of_these name names c beside rest p is are r.0 r.1 r.2
      by (inr h) ih = later_one name names (map (λ (x : List ℕ). (name, x)) beside) rest p (ih h)

  some_beside : (c : PlainDefinition) (beside : List (List ℕ)) → AreBeside da db c beside → (b : List ℕ) × IsIn b beside
  some_beside c [] are =
      let e : [] ≡ c.name ∷ [] = are.alone (λ d w. in_contains [] d.name (are.each d w)) in absurd cc
  some_beside c (b ∷ bs) are = (b, inl refl)

  abbrev Lists : List (List ℕ) → List NamePair → List ℕ → Type 0
  Lists earlier pairs name = IsIn name earlier ⊎ ((p : NamePair) × IsIn p pairs × (p.0 ≡ name))

  first_pair : (name n : List ℕ) (c : PlainDefinition) (earlier beside : List (List ℕ)) (rest : List NamePair) → AreBeside da db c beside → name ≡ n
      → Lists earlier (map (λ x. (n, x)) beside ++ rest) name
  first_pair name n c earlier beside rest are e =
      let b = some_beside c beside are in
      inr ((n, b.0), in_left (map (λ (x : List ℕ). (n, x)) beside) rest (n, b.0) (into_map (λ (x : List ℕ). (n, x)) beside b.0 b.1), sym e)

  pub listed_pairs : (names earlier : List (List ℕ)) (pairs : List NamePair) (name : List ℕ) → AreCommandPairs da db earlier names pairs → IsIn name names → Lists earlier pairs name
  listed_pairs [] earlier pairs name h i = absurd i
  listed_pairs (n ∷ names) earlier pairs name (inl (again, more)) (inl e) = inl (subst (λ (x : List ℕ). IsIn x earlier) (sym e) (in_contains earlier n again))
  listed_pairs (n ∷ names) earlier pairs name (inl (again, more)) (inr i) = listed_pairs names earlier pairs name more i
  listed_pairs (n ∷ names) earlier pairs name (inr (new, c, beside, rest, is, are, parts, more)) (inl e) =
      subst (λ (ps : List NamePair). Lists earlier ps name) (sym parts) (first_pair name n c earlier beside rest are e)
  listed_pairs (n ∷ names) earlier pairs name (inr (new, c, beside, rest, is, are, parts, more)) (inr i) =
      subst (λ (ps : List NamePair). Lists earlier ps name) (sym parts) (by (listed_pairs names (earlier ++ n ∷ []) rest name more i))
    where
      before : IsIn name earlier ⊎ IsIn name (n ∷ []) → Lists earlier (map (λ (x : List ℕ). (n, x)) beside ++ rest) name
      before (inl h) = inl h
      before (inr (inl e)) = first_pair name n c earlier beside rest are e
      before (inr (inr h)) = absurd h

      by : Lists (earlier ++ n ∷ []) rest name → Lists earlier (map (λ (x : List ℕ). (n, x)) beside ++ rest) name
      by (inl h) = before (in_append earlier (n ∷ []) name h)
      by (inr (p, h, e)) = inr (p, in_right (map (λ (x : List ℕ). (n, x)) beside) rest p h, e)

  -- ---- a command that is served wants a definition

  wants_one : (c : PlainDefinition) (h : DefHead) → c.head ≡ h → IsServed da db c h → ((d : PlainDefinition) → ¬ IsWanted da db c d) → ⊥
  wants_one c (Group key) e served none = served
  wants_one c (Error p) e served none = none served.0 (error served.1 (p, e) served.2)
  wants_one c (Command code class None p) e served none = none served.0 (both_none code class served.1 (record { p = p; head = e }) served.2)
  wants_one c (Command code class (Some app) p) e (inl served) none = none served.0 (same_app code app class served.1 (record { p = p; head = e }) served.2)
  wants_one c (Command code class (Some app) p) e (inr served) none =
      none served.0 (no_app code app class served.1 (record { p = p; head = e }) served.2 (λ own. none own.0 (same_app code app class own.1 (record { p = p; head = e }) own.2)))

  -- ---- the two tables

  module _ (names : List (List ℕ)) (table other : PlainTable) (proposal : IsProposal da db u names table) (lists : ListsAll names other) (closed : IsClosed da db u other) where
    one : (p : NamePair) → Contains table.commands p → IsOne names table.commands p
    one p i = command_pair names [] table.commands p proposal.commands (in_contains table.commands p i)

    -- what the other table's tenth test says of a proposed pair's command
    of_other : (p : NamePair) (o : IsOne names table.commands p) → (q : NamePair) × (d : PlainDefinition) × CommandPair da db other o.command d
    of_other p o =
        let q = lists p.0 (contains_in names p.0 o.is_named) in
        let t = tenth da db sa sb u other closed q.0 o.command q.1 (subst (λ (n : List ℕ). NamesCommand da n o.command) (sym q.2) o.is_command) in
        (q.0, t.0, t.2)

    in_other : (p : NamePair) → Contains table.commands p → Contains other.commands p
    in_other p i = by (o.are.only p.1 (contains_in o.beside p.1 o.is_one))
      where
        o : IsOne names table.commands p
        o = one p i

        t : (q : NamePair) × (d : PlainDefinition) × CommandPair da db other o.command d
        t = of_other p o

        by : ((d : PlainDefinition) × IsWanted da db o.command d × (d.name ≡ p.1)) ⊎ ((d : PlainDefinition) → ¬ IsWanted da db o.command d) → Contains other.commands p
        by (inl (d, wanted, is)) =
            let beside : Contains other.commands (o.command.name, d.name) = t.2.selection d wanted in
            let e : (o.command.name, d.name) ≡ p = ap (λ (n : List ℕ). (n, d.name)) o.is_command.1 ∙ ap (λ (n : List ℕ). (p.0, n)) is in
            subst (λ (x : NamePair). Contains other.commands x) e beside
        by (inr none) = absurd (wants_one o.command o.command.head refl t.2.served none)

    -- ---- each proposed key has its pair in the other table

    pair_known : (t : PlainTable) (key : Key) → IsPairKey da db t key → (e f : DictEntry) × (known da key ≡ Some e) × (known db key ≡ Some f)
    pair_known t key (p, inside, e, f, n, m, k, l) = (e, f, entry_known da key e sa (in_contains da.entries e n.0) k, entry_known db key f sb (in_contains db.entries f m.0) l)

    covered : (a b : List DRule) (key : Key) → DefBelow da db u (IsPairKey da db other) a b → WantsPair da db u a key → IsPairKey da db other key
    covered a b key below w = by w.wanted
      where
        not_alone : IsCovered da db u (IsPairKey da db other) key → IsPairKey da db other key
        not_alone (inl h) = h
        not_alone (inr solo) = absurd (w.not_alone solo)

        by : ((r : DRule) × HasRule a key r × IsAboveZero r.max) ⊎ ((v : DRule) × HasWildcard a v × IsAboveZero v.max × IsKnown da key × (¬ IsListed a key)) → IsPairKey da db other key
        by (inl (r, has, pos)) = not_alone (below N4 key r has pos)
        by (inr (v, has, pos, is, unlisted)) = not_alone ((below N9 v has pos).known_keys key is unlisted)

    same_some : (o : Option DictEntry) (e f : DictEntry) → o ≡ Some e → o ≡ Some f → e ≡ f
    same_some o e f h k = let g : Some e ≡ Some f = sym h ∙ k in cc

    pub has_pair : (key : Key) → IsProposed da db u table.commands key → IsPairKey da db other key
    has_pair key (by_command p c key' inside is wants) =
        let j = in_other p inside in
        let t = tenth da db sa sb u other closed p c j is in
        covered c.rules t.0.rules key (pair_tests da db sa sb u other closed p c t.0 j is t.1) wants
    has_pair key (by_group outer key' e f group proposed at_a at_b both is wants) =
        let r = pair_of da db sa sb u other closed outer (has_pair outer proposed) in
        let ea = same_some (known da outer) r.e e (entry_known da outer r.e sa r.in_a r.key_a) at_a in
        let eb = same_some (known db outer) r.f f (entry_known db outer r.f sb r.in_b r.key_b) at_b in
        let g = has_group db f sb (known_entry db outer f at_b).0 both.1 in
        let below = r.deeper group g.0 (subst (λ (x : DictEntry). BothGrouped x r.f) (sym ea) (subst (λ (y : DictEntry). BothGrouped e y) (sym eb) both))
        (ap (λ (x : DictEntry). x.group) ea ∙ is) (ap (λ (x : DictEntry). x.group) eb ∙ g.1) in
        covered group.rules g.0.rules key below wants

    -- two pairs of one key have the same names
    same_names : (p q : NamePair) (e f e' f' : DictEntry) (key : Key) → NamesEntry da p.0 e → NamesEntry db p.1 f → e.key ≡ key → f.key ≡ key → NamesEntry da q.0 e' → NamesEntry db q.1 f'
        → e'.key ≡ key → f'.key ≡ key → q ≡ p
    same_names p q e f e' f' key n m k l n' m' k' l' = ap (λ (x : List ℕ). (x, q.1)) first ∙ ap (λ (x : List ℕ). (p.0, x)) second
      where
        first : q.0 ≡ p.0
        first = sym n'.1 ∙ ap (λ (x : DictEntry). x.name) (same_some (known da key) e' e (entry_known da key e' sa (in_contains da.entries e' n'.0) k')
            (entry_known da key e sa (in_contains da.entries e n.0) k)) ∙ n.1

        second : q.1 ≡ p.1
        second = sym m'.1 ∙ ap (λ (x : DictEntry). x.name) (same_some (known db key) f' f (entry_known db key f' sb (in_contains db.entries f' m'.0) l')
            (entry_known db key f sb (in_contains db.entries f m.0) l)) ∙ m.1

    avp_in_other : (p : NamePair) → Contains table.avps p → Contains other.avps p
    avp_in_other p i =
        let h = (proposal.avps.each p).0 i in
        let q = has_pair h.0.key h.5 in
        subst (λ (x : NamePair). Contains other.avps x) (same_names p q.0 h.0 h.1 q.2 q.3 h.0.key h.2 h.3 refl (sym h.4) q.4 q.5 q.6 q.7) q.1

    -- ---- and the other way round where the key is wanted

    into_table : (key : Key) → IsPairKey da db other key → IsProposed da db u table.commands key → IsPairKey da db table key
    into_table key (p, inside, e, f, n, m, k, l) proposed =
        (p, (proposal.avps.each p).1 (e, f, n, m, k ∙ sym l, subst (IsProposed da db u table.commands) (sym k) proposed), e, f, n, m, k, l)

    not_alone_too : (key : Key) → IsPairKey da db other key → ¬ IsCoveredAlone da db u key
    not_alone_too key paired solo = let k = pair_known other key paired in absurd (let e : Some k.1 ≡ None = sym k.3 ∙ solo.1 in cc)

    known_too : (key : Key) → IsPairKey da db other key → IsKnown db key
    known_too key paired = let k = pair_known other key paired in ap (λ (o : Option DictEntry). is_some o) k.3

    moved : (a : List DRule) (key : Key) → ((key : Key) → WantsPair da db u a key → IsProposed da db u table.commands key)
        → ((r : DRule) × HasRule a key r × IsAboveZero r.max) ⊎ ((w : DRule) × HasWildcard a w × IsAboveZero w.max × IsKnown da key × (¬ IsListed a key))
        → IsCovered da db u (IsPairKey da db other) key → IsCovered da db u (IsPairKey da db table) key
    moved a key wants why (inl paired) = inl (into_table key paired (wants key (record { wanted = why; not_alone = not_alone_too key paired; known_too = known_too key paired })))
    moved a key wants why (inr solo) = inr solo

    below_too : (a b : List DRule) (test : Test) → ((key : Key) → WantsPair da db u a key → IsProposed da db u table.commands key) → Passes test da db u (IsPairKey da db other) a b
        → Passes test da db u (IsPairKey da db table) a b
    below_too a b N1 wants h = h
    below_too a b N2 wants h = h
    below_too a b N3 wants h = h
    below_too a b N4 wants h = λ key r has pos. moved a key wants (inl (r, has, pos)) (h key r has pos)
    below_too a b N5 wants h = h
    below_too a b N6 wants h = h
    below_too a b N7 wants h = h
    below_too a b N8 wants h = h
    below_too a b N9 wants h = λ v has pos. record {
      known_keys = λ key is unlisted. moved a key wants (inr (v, has, pos, is, unlisted)) ((h v has pos).known_keys key is unlisted);
      new_keys = (h v has pos).new_keys;
    }
    below_too a b N10 wants h = h

    -- ---- the proposed table is closed

    commands_pass : (p : NamePair) (test : Test) → Contains table.commands p → CommandTest da db other u test p → CommandTest da db table u test p
    commands_pass p N10 i t =
        let o = one p i in
        let same = one_command da o.command t.0 sa (in_contains da.commands o.command o.is_command.0) (in_contains da.commands t.0 t.2.0) (o.is_command.1 ∙ sym t.2.1) in (
          t.0,
          t.1,
          t.2,
          t.3,
          record {
            same = t.4.same;
            proxiable = t.4.proxiable;
            served = t.4.served;
            selection = λ e wanted.
                let named = o.are.each e (subst (λ (x : PlainDefinition). IsWanted da db x e) (sym same) wanted) in
                subst (λ (n : List ℕ). Contains table.commands (n, e.name)) (sym t.2.1) (contains_in table.commands (p.0, e.name) (o.all e.name (in_contains o.beside e.name named)));
          },
        )
    commands_pass p N1 i t = λ c d n m. below_too c.rules d.rules N1 (λ key w. by_command p c key i n w) (t c d n m)
    commands_pass p N2 i t = λ c d n m. below_too c.rules d.rules N2 (λ key w. by_command p c key i n w) (t c d n m)
    commands_pass p N3 i t = λ c d n m. below_too c.rules d.rules N3 (λ key w. by_command p c key i n w) (t c d n m)
    commands_pass p N4 i t = λ c d n m. below_too c.rules d.rules N4 (λ key w. by_command p c key i n w) (t c d n m)
    commands_pass p N5 i t = λ c d n m. below_too c.rules d.rules N5 (λ key w. by_command p c key i n w) (t c d n m)
    commands_pass p N6 i t = λ c d n m. below_too c.rules d.rules N6 (λ key w. by_command p c key i n w) (t c d n m)
    commands_pass p N7 i t = λ c d n m. below_too c.rules d.rules N7 (λ key w. by_command p c key i n w) (t c d n m)
    commands_pass p N8 i t = λ c d n m. below_too c.rules d.rules N8 (λ key w. by_command p c key i n w) (t c d n m)
    commands_pass p N9 i t = λ c d n m. below_too c.rules d.rules N9 (λ key w. by_command p c key i n w) (t c d n m)

    -- a group of a proposed pair
    of_group : (p : NamePair) (e f : DictEntry) (a : PlainDefinition) → Contains table.avps p → NamesEntry da p.0 e → NamesEntry db p.1 f → BothGrouped e f → e.group ≡ Some a
        → (key : Key) → WantsPair da db u a.rules key → IsProposed da db u table.commands key
    of_group p e f a i n m both is key w =
        let h = (proposal.avps.each p).0 i in
        let ea = one_entry da h.0 e sa (in_contains da.entries h.0 h.2.0) (in_contains da.entries e n.0) (h.2.1 ∙ sym n.1) in
        let eb = one_entry db h.1 f sb (in_contains db.entries h.1 h.3.0) (in_contains db.entries f m.0) (h.3.1 ∙ sym m.1) in
        let keys : f.key ≡ e.key = ap (λ (x : DictEntry). x.key) (sym eb) ∙ sym h.4 ∙ ap (λ (x : DictEntry). x.key) ea in
        by_group e.key key e f a (subst (λ (x : DictEntry). IsProposed da db u table.commands x.key) ea h.5) (entry_known da e.key e sa (in_contains da.entries e n.0) refl)
        (entry_known db e.key f sb (in_contains db.entries f m.0) keys) both is w

    avps_pass : (p : NamePair) (test : Test) → Contains table.avps p → AvpTest da db other u test p → AvpTest da db table u test p
    avps_pass p N10 i t = t
    avps_pass p N1 i t = λ e f a b n m both ga gb. below_too a.rules b.rules N1 (of_group p e f a i n m both ga) (t e f a b n m both ga gb)
    avps_pass p N2 i t = λ e f a b n m both ga gb. below_too a.rules b.rules N2 (of_group p e f a i n m both ga) (t e f a b n m both ga gb)
    avps_pass p N3 i t = λ e f a b n m both ga gb. below_too a.rules b.rules N3 (of_group p e f a i n m both ga) (t e f a b n m both ga gb)
    avps_pass p N4 i t = λ e f a b n m both ga gb. below_too a.rules b.rules N4 (of_group p e f a i n m both ga) (t e f a b n m both ga gb)
    avps_pass p N5 i t = λ e f a b n m both ga gb. below_too a.rules b.rules N5 (of_group p e f a i n m both ga) (t e f a b n m both ga gb)
    avps_pass p N6 i t = λ e f a b n m both ga gb. below_too a.rules b.rules N6 (of_group p e f a i n m both ga) (t e f a b n m both ga gb)
    avps_pass p N7 i t = λ e f a b n m both ga gb. below_too a.rules b.rules N7 (of_group p e f a i n m both ga) (t e f a b n m both ga gb)
    avps_pass p N8 i t = λ e f a b n m both ga gb. below_too a.rules b.rules N8 (of_group p e f a i n m both ga) (t e f a b n m both ga gb)
    avps_pass p N9 i t = λ e f a b n m both ga gb. below_too a.rules b.rules N9 (of_group p e f a i n m both ga) (t e f a b n m both ga gb)

    -- a pair of the other table passes
    pair_passes : (k : PairKind) (ps : List NamePair) (p : NamePair) (T : NamePair → Type 0) → ((i : ℕ) → IfSome (slice_get ps i) T) → IsIn p ps → T p
    pair_passes k [] p T all h = absurd h
    pair_passes k (q ∷ ps) p T all (inl e) = subst T (sym e) (all 0)
    pair_passes k (q ∷ ps) p T all (inr h) = pair_passes k ps p T (λ i. all (suc i)) h

    at_place : (ps : List NamePair) (T : NamePair → Type 0) (o : Option NamePair) (i : ℕ) → slice_get ps i ≡ o → ((p : NamePair) → IsIn p ps → T p) → IfSome o T
    at_place ps T None i at each = tt
    at_place ps T (Some p) i at each = each p (in_at ps i p at)

    pub is_closed : IsClosed da db u table
    is_closed kind.Command i test = at_place table.commands (CommandTest da db table u test) (slice_get table.commands i) i refl (λ p h.
        let inside = contains_in table.commands p h in
        commands_pass p test inside (pair_passes kind.Command other.commands p (CommandTest da db other u test) (λ j. closed kind.Command j test) (in_contains other.commands p (in_other p inside))))
    is_closed kind.Avp i test = at_place table.avps (AvpTest da db table u test) (slice_get table.avps i) i refl (λ p h.
        let inside = contains_in table.avps p h in
        avps_pass p test inside (pair_passes kind.Avp other.avps p (AvpTest da db other u test) (λ j. closed kind.Avp j test) (in_contains other.avps p (avp_in_other p inside))))

  no_earlier : (pairs : List NamePair) (name : List ℕ) → Lists [] pairs name → (p : NamePair) × Contains pairs p × (p.0 ≡ name)
  no_earlier pairs name (inl h) = absurd h
  no_earlier pairs name (inr (p, h, e)) = (p, contains_in pairs p h, e)

  -- a proposal is least
  pub proposal_is_least : (names : List (List ℕ)) (table : PlainTable) → IsProposal da db u names table → IsLeast da db u names table
  proposal_is_least names table proposal = record {
    lists = λ name i. no_earlier table.commands name (listed_pairs names [] table.commands name proposal.commands (in_contains names name i));
    least = λ other lists closed. (
      is_closed names table other proposal lists closed,
      record {
        commands = in_other names table other proposal lists closed;
        avps = avp_in_other names table other proposal lists closed;
      },
    );
  }
