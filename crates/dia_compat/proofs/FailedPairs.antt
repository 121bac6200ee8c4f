-- The first test that a pair fails, by what was looked up.
use Rattle.std.proofs.Common.{◌≡◌, ℕ, ◌+◌, Bool, true, false, List, [], length, Option, Some, None, refl, sym, ap, subst, ◌∙◌, inl, inr, Decides}
use Rattle.std.specs.Prelude.{◌⊎◌, slice_get, IfSome, MatchOption, if◌then◌else◌}
use Rattle.std.specs.Option.{option_map_or}
use Rattle.std.proofs.lemmas.Bool.Decides.{Decides-like}
use Rattle.std.proofs.lemmas.Option.{none-some, same_Some, slice_get_within}
use Rattle.dia_book.proofs.Members.{into_right}
use Rattle.dia_book.specs.declared.DRule.{DRule}
use Rattle.dia_book.specs.Dictionary.{Dictionary, DictEntry, PlainDefinition, IsDictionary, AreRules, groups, definitions, group_place}
use Rattle.dia_terms.specs.declared.Unknown.{Unknown}
use Rattle.dia_compat.specs.declared.checking.Test.{Test}
use Rattle.dia_compat.specs.declared.checking.Test.TheVariants.{N1, N2, N3, N4, N5, N6, N7, N8, N9, N10}
use Rattle.dia_compat.specs.declared.checking.PairKind.{PairKind}
use Rattle.dia_compat.specs.declared.checking.PairKind.TheVariants as kind
use Rattle.dia_compat.specs.TableText.{PlainTable}
use Rattle.dia_compat.specs.Below.{Passes}
use Rattle.dia_compat.specs.Closed.{NamesEntry, NamesCommand, IsPairKey, BothGrouped, CommandPair, AvpPair, CommandTest, AvpTest, PassesAt, PairBefore, IsClosed, IsFirstFailure}
use Rattle.dia_compat.specs.Sides.{Compared}
use Rattle.dia_valid.specs.Rules.{rules_in}
use Rattle.dia_compat.specs.PairTests.{NamePair, entry_named, command_named, is_passed, is_command_pair, failed_rules, failed_commands, failed_groups}
use Rattle.dia_compat.specs.FirstFailures.{IsFirstFailed, IsFirstPair, IsFound, PairTest, failed_command, FailsEntries, FailsAvp}
use Rattle.dia_valid.proofs.Members.{IsIn, in_at, in_right, all_of}
use Rattle.dia_compat.proofs.FitInSecond.{is_grouped, group_rules}
use Rattle.dia_compat.proofs.DecidedTests.{decides}
use Rattle.dia_compat.proofs.CommandPairs.{command_pair_decides}
use Rattle.dia_valid.proofs.GroupNumbers.{number_of, group_there, group_missing}
use Rattle.dia_compat.proofs.LookUpsOfKeys.{entry_found, found_entry, command_found, found_command, covered_decides, comes_decides, uncovered_is, fit_decides}
use Rattle.dia_compat.proofs.FirstFailedTest.{first_failed, tenth_failed}

if_some : {X : Type 0} (P : X → Type 0) (o : Option X) → ((x : X) → o ≡ Some x → P x) → IfSome o P
if_some P None f = tt
if_some P (Some x) f = f x refl

pub command_rules : (d : Dictionary) (c : PlainDefinition) → IsDictionary d → IsIn c d.commands → AreRules c.rules
command_rules d c sound i = all_of (λ (x : PlainDefinition). AreRules x.rules) (definitions d) c sound.rules (in_right (groups d) d.commands c i)

pub same_place : {X : Type 0} (xs : List X) (i j : ℕ) (x y : X) (o : Option ℕ) → o ≡ Some i → o ≡ Some j → slice_get xs i ≡ Some x → slice_get xs j ≡ Some y → y ≡ x
same_place xs i j x y o e f at at' = let same : j ≡ i = same_Some j i (sym f ∙ e) in same_Some y x (sym at' ∙ ap (slice_get xs) same ∙ at)

module _ (all : Compared) (sa : IsDictionary all.sides.first) (sb : IsDictionary all.sides.second) where
  abbrev da : Dictionary
  da = all.sides.first

  abbrev db : Dictionary
  db = all.sides.second

  abbrev u : Unknown
  u = all.sides.unknown

  abbrev table : PlainTable
  table = all.table

  abbrev Pass : Test → List DRule → List DRule → Type 0
  Pass t a b = Passes t da db u (IsPairKey da db table) a b

  abbrev pass : Test → List DRule → List DRule → Bool
  pass t a b = is_passed all t a b

  pub pass_decides : (a b : List DRule) → AreRules a → AreRules b → (t : Test) → Decides (pass t a b) (Pass t a b)
  pass_decides a b ra rb = decides all (IsPairKey da db table) a b ra rb (covered_decides all sa sb) (comes_decides all sa sb) (uncovered_is all sa sb) (fit_decides all sa sb)

  -- ---- commands

  no_command : (p : NamePair) → ((c d : PlainDefinition) → NamesCommand da p.0 c → NamesCommand db p.1 d → ⊥) → IsFirstFailed (λ t. CommandTest da db table u t p) (Some N10)
  no_command p none = tenth_failed (λ t. CommandTest da db table u t p) (λ h. none h.0 h.1 h.2 h.3)

  command_tests : (p : NamePair) (c d : PlainDefinition) → ((x : PlainDefinition) → NamesCommand da p.0 x → x ≡ c) → ((y : PlainDefinition) → NamesCommand db p.1 y → y ≡ d)
      → NamesCommand da p.0 c → NamesCommand db p.1 d
      → CommandPair da db table c d → AreRules c.rules → AreRules d.rules → (t : Test) → Decides (pass t c.rules d.rules) (CommandTest da db table u t p)
  command_tests p c d one two nc nd pair ra rb = by
    where
      of : (t : Test) → Decides (pass t c.rules d.rules) ((x y : PlainDefinition) → NamesCommand da p.0 x → NamesCommand db p.1 y → Pass t x.rules y.rules)
      of t = Decides-like (pass t c.rules d.rules)
          (λ h x y nx ny. subst (λ (z : PlainDefinition). Pass t z.rules y.rules) (sym (one x nx)) (subst (λ (z : PlainDefinition). Pass t c.rules z.rules) (sym (two y ny)) h))
          (λ h. h c d nc nd) (pass_decides c.rules d.rules ra rb t)

      by : (t : Test) → Decides (pass t c.rules d.rules) (CommandTest da db table u t p)
      by N1 = of N1
      by N2 = of N2
      by N3 = of N3
      by N4 = of N4
      by N5 = of N5
      by N6 = of N6
      by N7 = of N7
      by N8 = of N8
      by N9 = of N9
      by N10 = (λ e. (c, d, nc, nd, pair), λ h. refl)

  pub first_command : (p : NamePair) → IsFirstFailed (PairTest all kind.Command p) (failed_command all p)
  first_command p = by (command_named da p.0) refl
    where
      P : Test → Type 0
      P t = CommandTest da db table u t p

      pair_of : (i j : ℕ) (c d : PlainDefinition) → command_named da p.0 ≡ Some i → command_named db p.1 ≡ Some j → slice_get da.commands i ≡ Some c → slice_get db.commands j ≡ Some d
          → NamesCommand da p.0 c → NamesCommand db p.1 d
          → (b : Bool) → is_command_pair all c d ≡ b → IsFirstFailed (λ t. CommandTest da db table u t p) (if b then failed_rules all c.rules d.rules else Some N10)
      pair_of i j c d f g at at' nc nd true e =
          let ic = in_at da.commands i c at in
          let id = in_at db.commands j d at' in
          first_failed (λ t. pass t c.rules d.rules) (λ t. CommandTest da db table u t p)
          (command_tests p c d
          (λ x nx. let r = command_found da p.0 x sa nx in same_place da.commands i r.0 c x (command_named da p.0) f r.1 at r.2)
          (λ y ny. let r = command_found db p.1 y sb ny in same_place db.commands j r.0 d y (command_named db p.1) g r.1 at' r.2)
          nc nd ((command_pair_decides all.sides sa sb table table.commands (λ x y. refl) c d ic id).0 e) (command_rules da c sa ic) (command_rules db d sb id)) refl
      pair_of i j c d f g at at' nc nd false e =
          tenth_failed (λ t. CommandTest da db table u t p) (λ (x, y, nx, ny, pair).
          let rx = command_found da p.0 x sa nx in
          let ry = command_found db p.1 y sb ny in
          let sx = same_place da.commands i rx.0 c x (command_named da p.0) f rx.1 at rx.2 in
          let sy = same_place db.commands j ry.0 d y (command_named db p.1) g ry.1 at' ry.2 in
          let here = subst (λ (z : PlainDefinition). CommandPair da db table z d) sx (subst (λ (z : PlainDefinition). CommandPair da db table x z) sy pair) in
          let w : false ≡ true = sym e ∙ (command_pair_decides all.sides sa sb table table.commands (λ x y. refl) c d (in_at da.commands i c at) (in_at db.commands j d at')).1 here in
          cc)

      numbers : (i j : ℕ) (c d : PlainDefinition) → slice_get da.commands i ≡ Some c → slice_get db.commands j ≡ Some d
          → failed_commands all (length (groups da) + i) (length (groups db) + j) ≡
          (if is_command_pair all c d then failed_rules all c.rules d.rules else Some N10)
      numbers i j c d at at' =
          ap (λ (o : Option PlainDefinition). option_map_or (λ x. option_map_or
          (λ y. if is_command_pair all x y then failed_rules all x.rules y.rules else Some N10) (slice_get (definitions db) (length (groups db) + j)) None) o None)
          (into_right (groups da) da.commands i c at)
          ∙ ap (λ (o : Option PlainDefinition). option_map_or (λ y. if is_command_pair all c y then failed_rules all c.rules y.rules else Some N10) o None)
          (into_right (groups db) db.commands j d at')

      second : (i : ℕ) → command_named da p.0 ≡ Some i → (o : Option ℕ) → command_named db p.1 ≡ o
          → IsFirstFailed (λ t. CommandTest da db table u t p) (option_map_or (λ j. failed_commands all (length (groups da) + i) (length (groups db) + j)) o (Some N10))
      second i f None g = no_command p (λ c d nc nd. let r = command_found db p.1 d sb nd in none-some r.0 (sym g ∙ r.1))
      second i f (Some j) g =
          let c = found_command da p.0 i f in
          let d = found_command db p.1 j g in
          subst (IsFirstFailed (λ t. CommandTest da db table u t p)) (sym (numbers i j c.0 d.0 c.1 d.1)) (pair_of i j c.0 d.0 f g c.1 d.1 c.2 d.2 (is_command_pair all c.0 d.0) refl)

      by : (o : Option ℕ) → command_named da p.0 ≡ o
          → IsFirstFailed (λ t. CommandTest da db table u t p) (option_map_or
          (λ i. option_map_or (λ j. failed_commands all (length (groups da) + i) (length (groups db) + j)) (command_named db p.1) (Some N10)) o (Some N10))
      by None f = no_command p (λ c d nc nd. let r = command_found da p.0 c sa nc in none-some r.0 (sym f ∙ r.1))
      by (Some i) f = second i f (command_named db p.1) refl

  -- ---- AVPs

  no_avp : (p : NamePair) → ((e f : DictEntry) → NamesEntry da p.0 e → NamesEntry db p.1 f → ⊥) → IsFirstFailed (λ t. AvpTest da db table u t p) (Some N10)
  no_avp p none = tenth_failed (λ t. AvpTest da db table u t p) (λ h. none h.0 h.1 h.2 h.3)

  -- with no two definitions, only the pair itself is tested
  no_groups : (p : NamePair) (e f : DictEntry) → NamesEntry da p.0 e → NamesEntry db p.1 f → AvpPair e f
      → ((x y : DictEntry) (a b : PlainDefinition) → NamesEntry da p.0 x → NamesEntry db p.1 y → x.group ≡ Some a → y.group ≡ Some b → ⊥) → (t : Test) → AvpTest da db table u t p
  no_groups p e f ne nf pair none = by
    where
      of : (t : Test) (x y : DictEntry) (a b : PlainDefinition) → NamesEntry da p.0 x → NamesEntry db p.1 y → BothGrouped x y → x.group ≡ Some a → y.group ≡ Some b → Pass t a.rules b.rules
      of t x y a b nx ny both gx gy = absurd (none x y a b nx ny gx gy)

      by : (t : Test) → AvpTest da db table u t p
      by N1 = of N1
      by N2 = of N2
      by N3 = of N3
      by N4 = of N4
      by N5 = of N5
      by N6 = of N6
      by N7 = of N7
      by N8 = of N8
      by N9 = of N9
      by N10 = (e, f, ne, nf, pair)

  group_tests : (p : NamePair) (e f : DictEntry) (a b : PlainDefinition) → ((x : DictEntry) → NamesEntry da p.0 x → x ≡ e) → ((y : DictEntry) → NamesEntry db p.1 y → y ≡ f)
      → NamesEntry da p.0 e → NamesEntry db p.1 f
      → AvpPair e f → BothGrouped e f → e.group ≡ Some a → f.group ≡ Some b → AreRules a.rules → AreRules b.rules → (t : Test) → Decides (pass t a.rules b.rules) (AvpTest da db table u t p)
  group_tests p e f a b one two ne nf pair both ga gb ra rb = by
    where
      of : (t : Test) → Decides (pass t a.rules b.rules) ((x y : DictEntry) (k l : PlainDefinition) → NamesEntry da p.0 x → NamesEntry db p.1 y → BothGrouped x y → x.group ≡ Some k
          → y.group ≡ Some l → Pass t k.rules l.rules)
      of t = Decides-like (pass t a.rules b.rules)
          (λ h x y k l nx ny both_of gx gy.
          let sk = same_Some k a (sym gx ∙ ap (λ (z : DictEntry). z.group) (one x nx) ∙ ga) in
          let sl = same_Some l b (sym gy ∙ ap (λ (z : DictEntry). z.group) (two y ny) ∙ gb) in
          subst (λ (z : PlainDefinition). Pass t z.rules l.rules) (sym sk) (subst (λ (z : PlainDefinition). Pass t a.rules z.rules) (sym sl) h))
          (λ h. h e f a b ne nf both ga gb) (pass_decides a.rules b.rules ra rb t)

      by : (t : Test) → Decides (pass t a.rules b.rules) (AvpTest da db table u t p)
      by N1 = of N1
      by N2 = of N2
      by N3 = of N3
      by N4 = of N4
      by N5 = of N5
      by N6 = of N6
      by N7 = of N7
      by N8 = of N8
      by N9 = of N9
      by N10 = (λ h. (e, f, ne, nf, pair), λ h. refl)

  rules_at : (d : Dictionary) (n : ℕ) (g : PlainDefinition) → slice_get (definitions d) n ≡ Some g → rules_in d n ≡ g.rules
  rules_at d n g at = ap (λ (o : Option PlainDefinition). option_map_or (λ x. x.rules) o []) at

  entries_of : (p : NamePair) (i j : ℕ) (e f : DictEntry) → entry_named da p.0 ≡ Some i → entry_named db p.1 ≡ Some j → slice_get da.entries i ≡ Some e → slice_get db.entries j ≡ Some f
      → NamesEntry da p.0 e → NamesEntry db p.1 f → AvpPair e f
      → IsFirstFailed (λ t. AvpTest da db table u t p) (failed_groups all (group_place da i) (group_place db j))
  entries_of p i j e f en fn at at' ne nf pair = by e.group f.group refl refl
    where
      one : (x : DictEntry) → NamesEntry da p.0 x → x ≡ e
      one x nx = let r = entry_found da p.0 x sa nx in same_place da.entries i r.0 e x (entry_named da p.0) en r.1 at r.2

      two : (y : DictEntry) → NamesEntry db p.1 y → y ≡ f
      two y ny = let r = entry_found db p.1 y sb ny in same_place db.entries j r.0 f y (entry_named db p.1) fn r.1 at' r.2

      failed : Option ℕ → Option ℕ → Option Test
      failed x y = failed_groups all x y

      by : (o q : Option PlainDefinition) → e.group ≡ o → f.group ≡ q → IsFirstFailed (λ t. AvpTest da db table u t p) (failed_groups all (group_place da i) (group_place db j))
      by None q ga gb = subst (λ (x : Option ℕ). IsFirstFailed (λ t. AvpTest da db table u t p) (failed_groups all x (group_place db j))) (sym (group_missing da i e at ga))
          (no_groups p e f ne nf pair (λ x y a b nx ny gx gy. none-some a (sym ga ∙ sym (ap (λ (z : DictEntry). z.group) (one x nx)) ∙ gx)))
      by (Some a) None ga gb =
          subst (λ (x : Option ℕ). IsFirstFailed (λ t. AvpTest da db table u t p) (failed_groups all x (group_place db j))) (sym (group_there da i e a at ga).0)
          (subst (λ (y : Option ℕ). IsFirstFailed (λ t. AvpTest da db table u t p) (failed_groups all (Some (number_of da i)) y)) (sym (group_missing db j f at' gb))
          (no_groups p e f ne nf pair (λ x y k l nx ny gx gy. none-some l (sym gb ∙ sym (ap (λ (z : DictEntry). z.group) (two y ny)) ∙ gy))))
      by (Some a) (Some b) ga gb =
          let ie = in_at da.entries i e at in
          let jf = in_at db.entries j f at' in
          let here = group_there da i e a at ga in
          let there = group_there db j f b at' gb in
          let both : BothGrouped e f = (is_grouped da e a sa ie ga, is_grouped db f b sb jf gb) in
          let first = first_failed (λ t. pass t a.rules b.rules) (λ t. AvpTest da db table u t p)
          (group_tests p e f a b (λ x nx. one x nx) (λ y ny. two y ny) ne nf pair both ga gb (group_rules da e a sa ie ga) (group_rules db f b sb jf gb)) refl in
          subst (λ (x : Option ℕ). IsFirstFailed (λ t. AvpTest da db table u t p) (failed_groups all x (group_place db j))) (sym here.0)
          (subst (λ (y : Option ℕ). IsFirstFailed (λ t. AvpTest da db table u t p) (failed_groups all (Some (number_of da i)) y)) (sym there.0)
          (subst (λ (z : List DRule). IsFirstFailed (λ t. AvpTest da db table u t p) (failed_rules all z (rules_in db (number_of db j))))
          (sym (rules_at da (number_of da i) a here.1))
          (subst (λ (z : List DRule). IsFirstFailed (λ t. AvpTest da db table u t p) (failed_rules all a.rules z)) (sym (rules_at db (number_of db j) b there.1)) first)))

  avp_at : (p : NamePair) (i j : ℕ) (found : Option Test) → entry_named da p.0 ≡ Some i → entry_named db p.1 ≡ Some j → FailsEntries all i j found
      → IsFirstFailed (λ t. AvpTest da db table u t p) found
  avp_at p i j found en fn h = by (h e.0 f.0 e.1 f.1)
    where
      e : (x : DictEntry) × (slice_get da.entries i ≡ Some x) × NamesEntry da p.0 x
      e = found_entry da p.0 i en

      f : (y : DictEntry) × (slice_get db.entries j ≡ Some y) × NamesEntry db p.1 y
      f = found_entry db p.1 j fn

      by : (AvpPair (found_entry da p.0 i en).0 (found_entry db p.1 j fn).0 × (found ≡ failed_groups all (group_place da i) (group_place db j)))
          ⊎ ((¬ AvpPair (found_entry da p.0 i en).0 (found_entry db p.1 j fn).0) × (found ≡ Some N10)) → IsFirstFailed (λ t. AvpTest da db table u t p) found
      by (inl h) =
          let x = found_entry da p.0 i en in
          let y = found_entry db p.1 j fn in
          subst (IsFirstFailed (λ t. AvpTest da db table u t p)) (sym h.1) (entries_of p i j x.0 y.0 en fn x.1 y.1 x.2 y.2 h.0)
      by (inr h) = subst (IsFirstFailed (λ t. AvpTest da db table u t p)) (sym h.1) (tenth_failed (λ t. AvpTest da db table u t p) (λ (a, b, na, nb, pair).
          let x = found_entry da p.0 i en in
          let y = found_entry db p.1 j fn in
          let ra = entry_found da p.0 a sa na in
          let rb = entry_found db p.1 b sb nb in
          let sx = same_place da.entries i ra.0 x.0 a (entry_named da p.0) en ra.1 x.1 ra.2 in
          let sy = same_place db.entries j rb.0 y.0 b (entry_named db p.1) fn rb.1 y.1 rb.2 in
          h.0 (subst (λ (z : DictEntry). AvpPair z y.0) sx (subst (λ (z : DictEntry). AvpPair a z) sy pair))))

  pub first_avp : (p : NamePair) (found : Option Test) → FailsAvp all p found → IsFirstFailed (PairTest all kind.Avp p) found
  first_avp p found h = by (entry_named da p.0) refl h
    where
      second : (i : ℕ) → entry_named da p.0 ≡ Some i → (o : Option ℕ) → entry_named db p.1 ≡ o → MatchOption o (found ≡ Some N10) (λ j. FailsEntries all i j found)
          → IsFirstFailed (λ t. AvpTest da db table u t p) found
      second i en None fn k = subst (IsFirstFailed (λ t. AvpTest da db table u t p)) (sym k) (no_avp p (λ x y nx ny. let r = entry_found db p.1 y sb ny in none-some r.0 (sym fn ∙ r.1)))
      second i en (Some j) fn k = avp_at p i j found en fn k

      by : (o : Option ℕ) → entry_named da p.0 ≡ o → MatchOption o (found ≡ Some N10)
          (λ i. MatchOption (entry_named db p.1) (found ≡ Some N10) (λ j. FailsEntries all i j found)) → IsFirstFailed (λ t. AvpTest da db table u t p) found
      by None en k = subst (IsFirstFailed (λ t. AvpTest da db table u t p)) (sym k) (no_avp p (λ x y nx ny. let r = entry_found da p.0 x sa nx in none-some r.0 (sym en ∙ r.1)))
      by (Some i) en k = second i en (entry_named db p.1) refl k

-- ---- tables

abbrev pairs_at : PairKind → PlainTable → List NamePair
pairs_at kind.Command table = table.commands
pairs_at kind.Avp table = table.avps

module _ (da db : Dictionary) (u : Unknown) (table : PlainTable) where
  abbrev all : Compared
  all = record { sides = record { first = da; second = db; unknown = u }; table = table }

  found_all : (k : PairKind) → ((i : ℕ) (p : NamePair) (t : Test) → slice_get (pairs_at k table) i ≡ Some p → PairTest all k p t) → (i : ℕ) (t : Test) → PassesAt da db u table k i t
  found_all kind.Command h i t = if_some (CommandTest da db table u t) (slice_get table.commands i) (λ p at. h i p t at)
  found_all kind.Avp h i t = if_some (AvpTest da db table u t) (slice_get table.avps i) (λ p at. h i p t at)

  pub closed_where : ((i : ℕ) (p : NamePair) (t : Test) → slice_get table.commands i ≡ Some p → CommandTest da db table u t p)
      → ((i : ℕ) (p : NamePair) (t : Test) → slice_get table.avps i ≡ Some p → AvpTest da db table u t p) → IsClosed da db u table
  closed_where cs vs = by
    where
      by : (k : PairKind) (i : ℕ) (t : Test) → PassesAt da db u table k i t
      by kind.Command i t = found_all kind.Command cs i t
      by kind.Avp i t = found_all kind.Avp vs i t

  at_some : {X : Type 0} (P : X → Type 0) (o : Option X) (x : X) → o ≡ Some x → IfSome o P → P x
  at_some P None x e h = absurd (none-some x e)
  at_some P (Some y) x e h = subst P (same_Some y x e) h

  pub command_fails : (i : ℕ) (t : Test) → IsFirstPair (λ p s. CommandTest da db table u s p) table.commands i t → IsFirstFailure da db u table kind.Command i t
  command_fails i t f = record {
    within = slice_get_within table.commands i f.pair f.at;
    fails = λ h. f.fails.0 (at_some (CommandTest da db table u t) (slice_get table.commands i) f.pair f.at h);
    first_test = λ s lt. if_some (CommandTest da db table u s) (slice_get table.commands i) (λ p at. subst (CommandTest da db table u s) (same_Some f.pair p (sym f.at ∙ at)) (f.fails.1 s lt));
    first_pair = before;
  }
    where
      before : (l : PairKind) (j : ℕ) (s : Test) → PairBefore l j kind.Command i → PassesAt da db u table l j s
      before kind.Command j s lt = if_some (CommandTest da db table u s) (slice_get table.commands j) (λ p at. f.before j p s lt at)
      before kind.Avp j s lt = absurd lt

  pub avp_fails : (i : ℕ) (t : Test) → ((k : ℕ) (p : NamePair) (s : Test) → slice_get table.commands k ≡ Some p → CommandTest da db table u s p)
      → IsFirstPair (λ p s. AvpTest da db table u s p) table.avps i t → IsFirstFailure da db u table kind.Avp i t
  avp_fails i t cs f = record {
    within = slice_get_within table.avps i f.pair f.at;
    fails = λ h. f.fails.0 (at_some (AvpTest da db table u t) (slice_get table.avps i) f.pair f.at h);
    first_test = λ s lt. if_some (AvpTest da db table u s) (slice_get table.avps i) (λ p at. subst (AvpTest da db table u s) (same_Some f.pair p (sym f.at ∙ at)) (f.fails.1 s lt));
    first_pair = before;
  }
    where
      before : (l : PairKind) (j : ℕ) (s : Test) → PairBefore l j kind.Avp i → PassesAt da db u table l j s
      before kind.Command j s lt = if_some (CommandTest da db table u s) (slice_get table.commands j) (λ p at. cs j p s at)
      before kind.Avp j s lt = if_some (AvpTest da db table u s) (slice_get table.avps j) (λ p at. f.before j p s lt at)

  -- what was found of the pairs is the answer
  pub recorded_command : (pairs : List NamePair) (found : Option (ℕ × Test)) (f : ℕ × Test) → pairs ≡ table.commands → found ≡ Some f → IsFound (PairTest all kind.Command) pairs found
      → IsFirstFailure da db u table kind.Command f.0 f.1
  recorded_command pairs found f e g h =
      command_fails f.0 f.1 (subst (λ (o : Option (ℕ × Test)). IsFound (PairTest all kind.Command) table.commands o) g
      (subst (λ (ps : List NamePair). IsFound (PairTest all kind.Command) ps found) e h))

  all_pass : (k : PairKind) (pairs others : List NamePair) (found : Option (ℕ × Test)) → pairs ≡ others → found ≡ None → IsFound (PairTest all k) pairs found
      → (i : ℕ) (p : NamePair) (t : Test) → slice_get others i ≡ Some p → PairTest all k p t
  all_pass k pairs others found e g h = subst (λ (o : Option (ℕ × Test)). IsFound (PairTest all k) others o) g
      (subst (λ (ps : List NamePair). IsFound (PairTest all k) ps found) e h)

  pub recorded_avp : (pairs others : List NamePair) (found later : Option (ℕ × Test)) (f : ℕ × Test) → pairs ≡ table.commands → others ≡ table.avps → found ≡ None → later ≡ Some f
      → IsFound (PairTest all kind.Command) pairs found → IsFound (PairTest all kind.Avp) others later → IsFirstFailure da db u table kind.Avp f.0 f.1
  recorded_avp pairs others found later f e e' g g' h h' =
      avp_fails f.0 f.1 (all_pass kind.Command pairs table.commands found e g h)
      (subst (λ (o : Option (ℕ × Test)). IsFound (PairTest all kind.Avp) table.avps o) g' (subst (λ (ps : List NamePair). IsFound (PairTest all kind.Avp) ps later) e' h'))

  pub recorded_closed : (pairs others : List NamePair) (found later : Option (ℕ × Test)) → pairs ≡ table.commands → others ≡ table.avps → found ≡ None → later ≡ None
      → IsFound (PairTest all kind.Command) pairs found → IsFound (PairTest all kind.Avp) others later → IsClosed da db u table
  recorded_closed pairs others found later e e' g g' h h' = closed_where (all_pass kind.Command pairs table.commands found e g h) (all_pass kind.Avp others table.avps later e' g' h')
