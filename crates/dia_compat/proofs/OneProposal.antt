-- Names have one proposal.
use Rattle.std.proofs.Common.{◌≡◌, ℕ, suc, ◌<◌, List, [], ◌∷◌, ◌++◌, map, Some, refl, sym, ap, subst, ◌∙◌, arith, inl, inr}
use Rattle.std.specs.Prelude.{◌⊎◌, Contains, slice_get}
use Rattle.dia_wire.specs.declared.Key.{Key}
use Rattle.dia_book.specs.Dictionary.{Dictionary, DictEntry, PlainDefinition, IsDictionary}
use Rattle.dia_terms.specs.declared.Unknown.{Unknown}
use Rattle.dia_compat.specs.TableText.{PlainTable}
use Rattle.dia_compat.specs.Closed.{IsWanted, error, same_app, no_app, both_none, other_app}
use Rattle.dia_compat.specs.Proposed.{IsProposed, AreBeside, AreCommandPairs, AreAvpPairs, IsProposal}
use Rattle.dia_valid.proofs.Members.{IsIn, at_in, in_contains, contains_in}
use Rattle.dia_valid.proofs.SelectedCommands.{one_command}

abbrev NamePair : Type 0
NamePair = List ℕ × List ℕ

-- ---- lists in one order

-- items are in the order of their places elsewhere
abbrev InOrder : {X : Type 0} → (X → ℕ → Type 0) → List X → Type 0
InOrder {X} At xs = (i j k l : ℕ) (x y : X) → i < j → slice_get xs i ≡ Some x → slice_get xs j ≡ Some y → At x k → At y l → k < l

-- two lists of the same items in one order are one list
same_ordered : {X : Type 0} (At : X → ℕ → Type 0) (xs ys : List X) → InOrder At xs → InOrder At ys → ((x : X) → IsIn x xs → (k : ℕ) × At x k) → ((x : X) → IsIn x xs → IsIn x ys)
    → ((x : X) → IsIn x ys → IsIn x xs) → xs ≡ ys
same_ordered At [] [] a b places to from = refl
same_ordered At [] (y ∷ ys) a b places to from = absurd (from y (inl refl))
same_ordered At (x ∷ xs) [] a b places to from = absurd (to x (inl refl))
same_ordered {X} At (x ∷ xs) (y ∷ ys) a b places to from = both first (same_ordered At xs ys (λ i j k l u v less. a (suc i) (suc j) k l u v (omega arith))
    (λ i j k l u v less. b (suc i) (suc j) k l u v (omega arith)) (λ u i. places u (inr i)) into back)
  where
    both : x ≡ y → xs ≡ ys → x ∷ xs ≡ y ∷ ys
    both e f = ap (λ (z : X). z ∷ xs) e ∙ ap (λ (zs : List X). y ∷ zs) f

    -- an item after another is at another place
    apart : (z : X) (zs : List X) → InOrder At (z ∷ zs) → IsIn z zs → (k : ℕ) → At z k → ⊥
    apart z zs order i k at = let p = at_in zs z i in let less = order 0 (suc p.place) k k z z (omega arith) refl p.at at at in omega arith

    crossed : IsIn x ys → IsIn y xs → ⊥
    crossed i j =
        let p = at_in ys x i in
        let q = at_in xs y j in
        let k = places x (inl refl) in
        let l = places y (inr j) in
        let one = a 0 (suc q.place) k.0 l.0 x y (omega arith) refl q.at k.1 l.1 in
        let two = b 0 (suc p.place) l.0 k.0 y x (omega arith) refl p.at l.1 k.1 in
        omega arith

    by : IsIn x (y ∷ ys) → IsIn y (x ∷ xs) → x ≡ y
    by (inl e) h = e
    by (inr i) (inl e) = sym e
    by (inr i) (inr j) = absurd (crossed i j)

    first : x ≡ y
    first = by (to x (inl refl)) (from y (inl refl))

    into_by : (z : X) → IsIn z xs → IsIn z (y ∷ ys) → IsIn z ys
    into_by z i (inr h) = h
    into_by z i (inl e) = let k = places x (inl refl) in absurd (apart x xs a (subst (λ (w : X). IsIn w xs) (e ∙ sym first) i) k.0 k.1)

    into : (z : X) → IsIn z xs → IsIn z ys
    into z i = into_by z i (to z (inr i))

    back_by : (z : X) → IsIn z ys → IsIn z (x ∷ xs) → IsIn z xs
    back_by z i (inr h) = h
    back_by z i (inl e) = let k = places x (inl refl) in absurd (apart y ys b (subst (λ (w : X). IsIn w ys) (e ∙ first) i) k.0 (subst (λ (w : X). At w k.0) first k.1))

    back : (z : X) → IsIn z ys → IsIn z xs
    back z i = back_by z i (from z (inr i))

module _ (da db : Dictionary) (sa : IsDictionary da) (sb : IsDictionary db) where
  -- ---- paired with a command

  wanted_member : (c d : PlainDefinition) → IsWanted da db c d → Contains db.commands d
  wanted_member c d (error i x y) = i
  wanted_member c d (same_app code app class i x y) = i
  wanted_member c d (no_app code app class i x y z) = i
  wanted_member c d (both_none code class i x y) = i
  wanted_member c d (other_app code app class i x y z) = i

  abbrev OccursAt : List ℕ → ℕ → Type 0
  OccursAt name k = (d : PlainDefinition) × (slice_get db.commands k ≡ Some d) × (d.name ≡ name)

  beside_in_order : (c : PlainDefinition) (names : List (List ℕ)) → AreBeside da db c names → InOrder OccursAt names
  beside_in_order c names are i j k l x y less at there (d, p, e) (f, q, g) = are.in_order i j k l d f less (at ∙ ap (λ (n : List ℕ). Some n) (sym e)) (there ∙ ap (λ (n : List ℕ). Some n) (sym g)) p q

  one_beside : (c : PlainDefinition) (xs ys : List (List ℕ)) → AreBeside da db c xs → AreBeside da db c ys → xs ≡ ys
  one_beside c [] ys a b = absurd (let e : [] ≡ c.name ∷ [] = a.alone (λ d w. in_contains [] d.name (a.each d w)) in cc)
  one_beside c (x ∷ xs) ys a b = by (a.only x (contains_in (x ∷ xs) x (inl refl)))
    where
      by : ((d : PlainDefinition) × IsWanted da db c d × (d.name ≡ x)) ⊎ ((d : PlainDefinition) → ¬ IsWanted da db c d) → x ∷ xs ≡ ys
      by (inr none) = a.alone none ∙ sym (b.alone none)
      by (inl (w, is, named)) = same_ordered OccursAt (x ∷ xs) ys (beside_in_order c (x ∷ xs) a) (beside_in_order c ys b) places to from
        where
          of : (names : List (List ℕ)) → AreBeside da db c names → (n : List ℕ) → IsIn n names → (d : PlainDefinition) × IsWanted da db c d × (d.name ≡ n)
          of names are n i = pick (are.only n (contains_in names n i))
            where
              pick : ((d : PlainDefinition) × IsWanted da db c d × (d.name ≡ n)) ⊎ ((d : PlainDefinition) → ¬ IsWanted da db c d) → (d : PlainDefinition) × IsWanted da db c d × (d.name ≡ n)
              pick (inl h) = h
              pick (inr none) = absurd (none w is)

          places : (n : List ℕ) → IsIn n (x ∷ xs) → (k : ℕ) × OccursAt n k
          places n i =
              let d = of (x ∷ xs) a n i in
              let p = at_in db.commands d.0 (in_contains db.commands d.0 (wanted_member c d.0 d.1)) in
              (p.place, (d.0, p.at, d.2))

          to : (n : List ℕ) → IsIn n (x ∷ xs) → IsIn n ys
          to n i = let d = of (x ∷ xs) a n i in subst (λ (m : List ℕ). IsIn m ys) d.2 (in_contains ys d.0.name (b.each d.0 d.1))

          from : (n : List ℕ) → IsIn n ys → IsIn n (x ∷ xs)
          from n i = let d = of ys b n i in subst (λ (m : List ℕ). IsIn m (x ∷ xs)) d.2 (in_contains (x ∷ xs) d.0.name (a.each d.0 d.1))

  one_command_pairs : (names earlier : List (List ℕ)) (xs ys : List NamePair) → AreCommandPairs da db earlier names xs → AreCommandPairs da db earlier names ys → xs ≡ ys
  one_command_pairs [] earlier xs ys a b = a ∙ sym b
  one_command_pairs (name ∷ names) earlier xs ys (inl (again, a)) (inl (too, b)) = one_command_pairs names earlier xs ys a b
  one_command_pairs (name ∷ names) earlier xs ys (inl (again, a)) (inr (fresh, c, beside, rest, is, are, parts, b)) = absurd (fresh again)
  one_command_pairs (name ∷ names) earlier xs ys (inr (fresh, c, beside, rest, is, are, parts, a)) (inl (again, b)) = absurd (fresh again)
  one_command_pairs (name ∷ names) earlier xs ys (inr (fresh, c, beside, rest, is, are, parts, a)) (inr (new, d, others, more, named, be, made, b)) =
      let same : c ≡ d = one_command da c d sa (in_contains da.commands c is.0) (in_contains da.commands d named.0) (is.1 ∙ sym named.1) in
      let e : beside ≡ others = one_beside c beside others are (subst (λ (x : PlainDefinition). AreBeside da db x others) (sym same) be) in
      let f : rest ≡ more = one_command_pairs names (earlier ++ name ∷ []) rest more a b in
      parts ∙ ap (λ (ns : List (List ℕ)). map (λ (n : List ℕ). (name, n)) ns ++ rest) e ∙ ap (λ (ps : List NamePair). map (λ (n : List ℕ). (name, n)) others ++ ps) f ∙ sym made

  -- ---- the AVP pairs

  abbrev IsEntryAt : NamePair → ℕ → Type 0
  IsEntryAt p k = (e : DictEntry) × (slice_get da.entries k ≡ Some e) × (e.name ≡ p.0)

  one_avp_pairs : (wanted : Key → Type 0) (xs ys : List NamePair) → AreAvpPairs da db wanted xs → AreAvpPairs da db wanted ys → xs ≡ ys
  one_avp_pairs wanted xs ys a b = same_ordered IsEntryAt xs ys (order xs a) (order ys b) places (to xs ys a b) (to ys xs b a)
    where
      order : (zs : List NamePair) → AreAvpPairs da db wanted zs → InOrder IsEntryAt zs
      order zs are i j k l p q less at there (e, x, m) (f, y, n) = are.in_order i j k l p q e f less at there x y m n

      to : (zs ws : List NamePair) → AreAvpPairs da db wanted zs → AreAvpPairs da db wanted ws → (p : NamePair) → IsIn p zs → IsIn p ws
      to zs ws s t p i = in_contains ws p ((t.each p).1 ((s.each p).0 (contains_in zs p i)))

      places : (p : NamePair) → IsIn p xs → (k : ℕ) × IsEntryAt p k
      places p i =
          let h = (a.each p).0 (contains_in xs p i) in
          let s = at_in da.entries h.0 (in_contains da.entries h.0 h.2.0) in
          (s.place, (h.0, s.at, h.2.1))

  pub one_proposal : (u : Unknown) (names : List (List ℕ)) (a b : PlainTable) → IsProposal da db u names a → IsProposal da db u names b → a ≡ b
  one_proposal u names a b x y =
      let commands = one_command_pairs names [] a.commands b.commands x.commands y.commands in
      let avps = one_avp_pairs (IsProposed da db u a.commands) a.avps b.avps x.avps (subst (λ (ps : List NamePair). AreAvpPairs da db (IsProposed da db u ps) b.avps) (sym commands) y.avps) in
      λ i. record { commands = commands i; avps = avps i }
