-- Nothing fails a test of a pair of the table exactly where the pair passes it.
use Rattle.std.proofs.Common.{◌≡◌, ℕ, Bool, true, false, List, [], ◌∷◌, ◌++◌, Option, Some, None, refl, sym, ap, subst, ◌∙◌, Decides}
use Rattle.std.specs.Prelude.{◌↔◌, ◌&&◌, Result, IfOk, IfSome, MatchOption, slice_get, is_some, option_to_list}
use Rattle.std.specs.List.{filter_map, enumerate_from, list_any, list_all}
use Rattle.std.specs.Option.{option_map_or}
use Rattle.std.proofs.lemmas.Bool.Decides.{Decides-and, Decides-like}
use Rattle.std.proofs.lemmas.Option.{none-some, same_Some}
use Rattle.dia_wire.specs.declared.Key.{Key}
use Rattle.dia_book.specs.Keys.{same_key}
use Rattle.dia_book.proofs.SameKeys.{same_key-refl, same_key-true}
use Rattle.dia_book.specs.declared.DRule.{DRule}
use Rattle.dia_book.specs.Dictionary.{Dictionary, DictEntry, PlainDefinition, IsDictionary, definitions, group_place}
use Rattle.dia_terms.specs.declared.Unknown.{Unknown}
use Rattle.dia_compat.specs.declared.checking.Test.{Test}
use Rattle.dia_compat.specs.declared.checking.Test.TheVariants.{N1, N2, N3, N4, N5, N6, N7, N8, N9, N10}
use Rattle.dia_compat.specs.declared.checking.PairKind.{PairKind}
use Rattle.dia_compat.specs.declared.checking.PairKind.TheVariants as kind
use Rattle.dia_compat.specs.declared.reasons.Failing.{Failing}
use Rattle.dia_compat.specs.declared.reasons.Failing.TheVariants as failing
use Rattle.dia_compat.specs.TableText.{PlainTable}
use Rattle.dia_compat.specs.Below.{Passes}
use Rattle.dia_compat.specs.Closed.{NamesEntry, NamesCommand, IsPairKey, BothGrouped, CommandPair, AvpPair, CommandTest, AvpTest, PassesAt}
use Rattle.dia_compat.specs.Sides.{Compared, compared}
use Rattle.dia_valid.specs.Rules.{rules_in}
use Rattle.dia_compat.specs.PairTests.{NamePair, entry_named, command_named, is_command_pair, is_selected, is_ready, serves, same_code_and_class, is_proxiable}
use Rattle.dia_compat.specs.Failings.{unless, rule_failings, name_failings, selection_failings, head_failings, definition_failings, place_failings, command_failings}
use Rattle.dia_compat.specs.Failings.{AreDeclarationFailings, group_failings, AreEntryFailings, AreAvpFailings, AreFailings, AreFailingsAt, AreFailingsOf}
use Rattle.dia_valid.proofs.Members.{in_at}
use Rattle.dia_compat.proofs.FitInSecond.{is_grouped, group_rules}
use Rattle.dia_compat.proofs.CommandPairs.{command_pair_decides}
use Rattle.dia_valid.proofs.GroupNumbers.{number_of, group_there, group_missing}
use Rattle.dia_compat.proofs.LookUpsOfKeys.{entry_found, found_entry, command_found, found_command}
use Rattle.dia_compat.proofs.FailedPairs.{command_rules, same_place, pass_decides}
use Rattle.dia_compat.proofs.FailingTests.{unless_decides, list_decides, append_decides, numbered_decides, none_decides}

-- two things that one answer decides
both : {P Q : Type 0} (b : Bool) → Decides b P → Decides b Q → P ↔ Q
both b d k = (λ p. k.0 (d.1 p), λ q. d.0 (k.1 q))

like : {P Q R : Type 0} → (Q → R) → (R → Q) → P ↔ Q → P ↔ R
like f g h = (λ p. f (h.0 p), λ r. h.1 (g r))

pub rules_at : (d : Dictionary) (n : ℕ) (g : PlainDefinition) → slice_get (definitions d) n ≡ Some g → rules_in d n ≡ g.rules
rules_at d n g at = ap (λ (o : Option PlainDefinition). option_map_or (λ x. x.rules) o []) at

-- ---- what is at two places

placed_definitions : (c : Compared) (t : Test) (i j : ℕ) (x y : PlainDefinition) → slice_get c.sides.first.commands i ≡ Some x → slice_get c.sides.second.commands j ≡ Some y
    → place_failings c t (Some i) (Some j) ≡ definition_failings c t x y
placed_definitions c t i j x y at at' =
    ap (λ (o : Option PlainDefinition). option_map_or (λ x. option_map_or (definition_failings c t x) (slice_get c.sides.second.commands j) []) o []) at
    ∙ ap (λ (o : Option PlainDefinition). option_map_or (definition_failings c t x) o []) at'

-- ---- names that no definition has

first_missing : (second : Bool) → name_failings N10 false second ≡ [] → ⊥
first_missing second h = let e : failing.FirstName ∷ option_to_list (unless second failing.SecondName) ≡ [] = h in cc

second_missing : name_failings N10 true false ≡ [] → ⊥
second_missing h = let e : failing.SecondName ∷ [] ≡ [] = h in cc

module _ (all : Compared) (sa : IsDictionary all.sides.first) (sb : IsDictionary all.sides.second) where
  abbrev da : Dictionary
  da = all.sides.first

  abbrev db : Dictionary
  db = all.sides.second

  abbrev u : Unknown
  u = all.sides.unknown

  abbrev table : PlainTable
  table = all.table

  abbrev Pass : Test → List DRule → List DRule → Type 0
  Pass t a b = Passes t da db u (IsPairKey da db table) a b

  -- ---- commands

  no_command : (p : NamePair) (first second : Bool) → (name_failings N10 first second ≡ [] → ⊥) → ((c d : PlainDefinition) → NamesCommand da p.0 c → NamesCommand db p.1 d → ⊥)
      → (t : Test) → (name_failings t first second ≡ []) ↔ CommandTest da db table u t p
  no_command p first second fails none = by
    where
      of : (t : Test) → (let empty : List Failing = [] in empty ≡ []) ↔ ((c d : PlainDefinition) → NamesCommand da p.0 c → NamesCommand db p.1 d → Pass t c.rules d.rules)
      of t = (λ e c d nc nd. absurd (none c d nc nd), λ h. refl)

      by : (t : Test) → (name_failings t first second ≡ []) ↔ CommandTest da db table u t p
      by N1 = of N1
      by N2 = of N2
      by N3 = of N3
      by N4 = of N4
      by N5 = of N5
      by N6 = of N6
      by N7 = of N7
      by N8 = of N8
      by N9 = of N9
      by N10 = (λ e. absurd (fails e), λ h. absurd (none h.0 h.1 h.2 h.3))

  heads_decide : (c d : PlainDefinition) → Decides (is_command_pair all c d) (head_failings all c d ≡ [])
  heads_decide c d =
      let same = same_code_and_class c.head d.head in
      let proxiable = is_proxiable c.head d.head in
      let served = list_any (λ (e : PlainDefinition). serves c.head e.head) db.commands in
      let apart = λ (q : ℕ × PlainDefinition). unless (is_ready all.sides table.commands c q.1) (failing.NotBeside q.0) in
      append_decides (same && proxiable) (is_selected all.sides table.commands c) (option_to_list (unless same failing.Heads) ++ option_to_list (unless proxiable failing.PFlags)) (selection_failings all c)
      (append_decides same proxiable (option_to_list (unless same failing.Heads)) (option_to_list (unless proxiable failing.PFlags))
      (list_decides same (unless same failing.Heads) (unless_decides same failing.Heads)) (list_decides proxiable (unless proxiable failing.PFlags) (unless_decides proxiable failing.PFlags)))
      (append_decides served (list_all (is_ready all.sides table.commands c) db.commands) (option_to_list (unless served failing.Unserved)) (filter_map apart (enumerate_from 0 db.commands))
      (list_decides served (unless served failing.Unserved) (unless_decides served failing.Unserved))
      (numbered_decides apart (is_ready all.sides table.commands c) (λ q. unless_decides (is_ready all.sides table.commands c q.1) (failing.NotBeside q.0)) 0 db.commands))

  commands_at : (p : NamePair) (i j : ℕ) (c d : PlainDefinition) → command_named da p.0 ≡ Some i → command_named db p.1 ≡ Some j → slice_get da.commands i ≡ Some c → slice_get db.commands j ≡ Some d
      → NamesCommand da p.0 c → NamesCommand db p.1 d → (t : Test) → (definition_failings all t c d ≡ []) ↔ CommandTest da db table u t p
  commands_at p i j c d f g at at' nc nd = by
    where
      one : (x : PlainDefinition) → NamesCommand da p.0 x → x ≡ c
      one x nx = let r = command_found da p.0 x sa nx in same_place da.commands i r.0 c x (command_named da p.0) f r.1 at r.2

      two : (y : PlainDefinition) → NamesCommand db p.1 y → y ≡ d
      two y ny = let r = command_found db p.1 y sb ny in same_place db.commands j r.0 d y (command_named db p.1) g r.1 at' r.2

      of : (t : Test) → (rule_failings all t c.rules d.rules ≡ []) ↔ ((x y : PlainDefinition) → NamesCommand da p.0 x → NamesCommand db p.1 y → Pass t x.rules y.rules)
      of t =
          let ra = command_rules da c sa (in_at da.commands i c at) in
          let rb = command_rules db d sb (in_at db.commands j d at') in
          like (λ h x y nx ny. subst (λ (z : PlainDefinition). Pass t z.rules y.rules) (sym (one x nx)) (subst (λ (z : PlainDefinition). Pass t c.rules z.rules) (sym (two y ny)) h)) (λ h. h c d nc nd)
          (both _ (none_decides all c.rules d.rules rb t) (pass_decides all sa sb c.rules d.rules ra rb t))

      pair : (head_failings all c d ≡ []) ↔ ((x y : PlainDefinition) × NamesCommand da p.0 x × NamesCommand db p.1 y × CommandPair da db table x y)
      pair = like (λ h. (c, d, nc, nd, h))
          (λ (x, y, nx, ny, h). subst (λ (z : PlainDefinition). CommandPair da db table z d) (one x nx) (subst (λ (z : PlainDefinition). CommandPair da db table x z) (two y ny) h))
          (both (is_command_pair all c d) (heads_decide c d)
          (command_pair_decides all.sides sa sb table table.commands (λ x y. refl) c d (in_at da.commands i c at) (in_at db.commands j d at')))

      by : (t : Test) → (definition_failings all t c d ≡ []) ↔ CommandTest da db table u t p
      by N1 = of N1
      by N2 = of N2
      by N3 = of N3
      by N4 = of N4
      by N5 = of N5
      by N6 = of N6
      by N7 = of N7
      by N8 = of N8
      by N9 = of N9
      by N10 = pair

  of_command : (p : NamePair) (t : Test) → (command_failings all p t ≡ []) ↔ CommandTest da db table u t p
  of_command p t = by (command_named da p.0) (command_named db p.1) refl refl
    where
      by : (o q : Option ℕ) → command_named da p.0 ≡ o → command_named db p.1 ≡ q → (place_failings all t o q ≡ []) ↔ CommandTest da db table u t p
      by None q f g = no_command p false (is_some q) (first_missing (is_some q)) (λ c d nc nd. let r = command_found da p.0 c sa nc in none-some r.0 (sym f ∙ r.1)) t
      by (Some i) None f g = no_command p true false second_missing (λ c d nc nd. let r = command_found db p.1 d sb nd in none-some r.0 (sym g ∙ r.1)) t
      by (Some i) (Some j) f g =
          let c = found_command da p.0 i f in
          let d = found_command db p.1 j g in
          subst (λ (zs : List Failing). (zs ≡ []) ↔ CommandTest da db table u t p) (sym (placed_definitions all t i j c.0 d.0 c.1 d.1)) (commands_at p i j c.0 d.0 f g c.1 d.1 c.2 d.2 t)

  -- ---- AVPs

  no_avp : (p : NamePair) (first second : Bool) → (name_failings N10 first second ≡ [] → ⊥) → ((e f : DictEntry) → NamesEntry da p.0 e → NamesEntry db p.1 f → ⊥)
      → (t : Test) → (name_failings t first second ≡ []) ↔ AvpTest da db table u t p
  no_avp p first second fails none = by
    where
      of : (t : Test) → (let empty : List Failing = [] in empty ≡ []) ↔ ((e f : DictEntry) (a b : PlainDefinition) → NamesEntry da p.0 e → NamesEntry db p.1 f → BothGrouped e f → e.group ≡ Some a
          → f.group ≡ Some b → Pass t a.rules b.rules)
      of t = (λ h e f a b ne nf g ga gb. absurd (none e f ne nf), λ h. refl)

      by : (t : Test) → (name_failings t first second ≡ []) ↔ AvpTest da db table u t p
      by N1 = of N1
      by N2 = of N2
      by N3 = of N3
      by N4 = of N4
      by N5 = of N5
      by N6 = of N6
      by N7 = of N7
      by N8 = of N8
      by N9 = of N9
      by N10 = (λ e. absurd (fails e), λ h. absurd (none h.0 h.1 h.2 h.3))

  keys_decide : (k l : Key) → Decides (same_key k l) (k ≡ l)
  keys_decide k l = (λ e. same_key-true k l e, λ h. subst (λ (x : Key). same_key k x ≡ true) h (same_key-refl k))

  declared : (e f : DictEntry) (l : List Failing) → AreDeclarationFailings e f l → (l ≡ []) ↔ AvpPair e f
  declared e f l d =
      let same = same_key e.key f.key in
      let keys = option_to_list (unless same failing.Keys) in
      let flags = option_to_list (unless d.takes_flag failing.MRules) in
      let formats = option_to_list (unless d.takes_format failing.Formats) in
      subst (λ (zs : List Failing). (zs ≡ []) ↔ AvpPair e f) (sym d.are)
      (both (same && d.takes_flag && d.takes_format)
      (append_decides (same && d.takes_flag) d.takes_format (keys ++ flags) formats
      (append_decides same d.takes_flag keys flags (list_decides same (unless same failing.Keys) (unless_decides same failing.Keys))
      (list_decides d.takes_flag (unless d.takes_flag failing.MRules) (unless_decides d.takes_flag failing.MRules)))
      (list_decides d.takes_format (unless d.takes_format failing.Formats) (unless_decides d.takes_format failing.Formats)))
      (Decides-like (same && d.takes_flag && d.takes_format) (λ h. record { same_key = h.0.0; m_rule = h.0.1; format = h.1 }) (λ h. ((h.same_key, h.m_rule), h.format))
      (Decides-and (same && d.takes_flag) d.takes_format (Decides-and same d.takes_flag (keys_decide e.key f.key) d.flag_is) d.format_is)))

  abbrev GroupTest : NamePair → Test → Type 0
  GroupTest p t = (x y : DictEntry) (k m : PlainDefinition) → NamesEntry da p.0 x → NamesEntry db p.1 y → BothGrouped x y → x.group ≡ Some k → y.group ≡ Some m → Pass t k.rules m.rules

  entries_at : (p : NamePair) (i j : ℕ) (e f : DictEntry) → entry_named da p.0 ≡ Some i → entry_named db p.1 ≡ Some j → slice_get da.entries i ≡ Some e → slice_get db.entries j ≡ Some f
      → NamesEntry da p.0 e → NamesEntry db p.1 f → (t : Test) (l : List Failing) → AreEntryFailings all t i j l → (l ≡ []) ↔ AvpTest da db table u t p
  entries_at p i j e f en fn at at' ne nf = by
    where
      one : (x : DictEntry) → NamesEntry da p.0 x → x ≡ e
      one x nx = let r = entry_found da p.0 x sa nx in same_place da.entries i r.0 e x (entry_named da p.0) en r.1 at r.2

      two : (y : DictEntry) → NamesEntry db p.1 y → y ≡ f
      two y ny = let r = entry_found db p.1 y sb ny in same_place db.entries j r.0 f y (entry_named db p.1) fn r.1 at' r.2

      groups_at : (t : Test) (o q : Option PlainDefinition) → e.group ≡ o → f.group ≡ q → (group_failings all t (group_place da i) (group_place db j) ≡ []) ↔ GroupTest p t
      groups_at t None q ga gb =
          subst (λ (x : Option ℕ). (group_failings all t x (group_place db j) ≡ []) ↔ GroupTest p t) (sym (group_missing da i e at ga))
          (λ h x y k m nx ny g gx gy. absurd (none-some k (sym ga ∙ sym (ap (λ (z : DictEntry). z.group) (one x nx)) ∙ gx)), λ h. refl)
      groups_at t (Some a) None ga gb =
          subst (λ (x : Option ℕ). (group_failings all t x (group_place db j) ≡ []) ↔ GroupTest p t) (sym (group_there da i e a at ga).0)
          (subst (λ (y : Option ℕ). (group_failings all t (Some (number_of da i)) y ≡ []) ↔ GroupTest p t) (sym (group_missing db j f at' gb))
          (λ h x y k m nx ny g gx gy. absurd (none-some m (sym gb ∙ sym (ap (λ (z : DictEntry). z.group) (two y ny)) ∙ gy)), λ h. refl))
      groups_at t (Some a) (Some b) ga gb =
          let ie = in_at da.entries i e at in
          let jf = in_at db.entries j f at' in
          let x = group_there da i e a at ga in
          let y = group_there db j f b at' gb in
          let grouped : BothGrouped e f = (is_grouped da e a sa ie ga, is_grouped db f b sb jf gb) in
          let here : (rule_failings all t a.rules b.rules ≡ []) ↔ GroupTest p t =
          like (λ h x y k m nx ny g gx gy.
          let sk = same_Some k a (sym gx ∙ ap (λ (z : DictEntry). z.group) (one x nx) ∙ ga) in
          let sm = same_Some m b (sym gy ∙ ap (λ (z : DictEntry). z.group) (two y ny) ∙ gb) in
          subst (λ (z : PlainDefinition). Pass t z.rules m.rules) (sym sk) (subst (λ (z : PlainDefinition). Pass t a.rules z.rules) (sym sm) h))
          (λ h. h e f a b ne nf grouped ga gb)
          (both _ (none_decides all a.rules b.rules (group_rules db f b sb jf gb) t) (pass_decides all sa sb a.rules b.rules (group_rules da e a sa ie ga) (group_rules db f b sb jf gb) t)) in
          subst (λ (z : Option ℕ). (group_failings all t z (group_place db j) ≡ []) ↔ GroupTest p t) (sym x.0)
          (subst (λ (z : Option ℕ). (group_failings all t (Some (number_of da i)) z ≡ []) ↔ GroupTest p t) (sym y.0)
          (subst (λ (z : List DRule). (rule_failings all t z (rules_in db (number_of db j)) ≡ []) ↔ GroupTest p t) (sym (rules_at da (number_of da i) a x.1))
          (subst (λ (z : List DRule). (rule_failings all t a.rules z ≡ []) ↔ GroupTest p t) (sym (rules_at db (number_of db j) b y.1)) here)))

      of : (t : Test) (l : List Failing) → l ≡ group_failings all t (group_place da i) (group_place db j) → (l ≡ []) ↔ GroupTest p t
      of t l is = subst (λ (zs : List Failing). (zs ≡ []) ↔ GroupTest p t) (sym is) (groups_at t e.group f.group refl refl)

      by : (t : Test) (l : List Failing) → AreEntryFailings all t i j l → (l ≡ []) ↔ AvpTest da db table u t p
      by N1 l is = of N1 l is
      by N2 l is = of N2 l is
      by N3 l is = of N3 l is
      by N4 l is = of N4 l is
      by N5 l is = of N5 l is
      by N6 l is = of N6 l is
      by N7 l is = of N7 l is
      by N8 l is = of N8 l is
      by N9 l is = of N9 l is
      by N10 l is =
          like (λ h. (e, f, ne, nf, h))
          (λ (x, y, nx, ny, h). subst (λ (z : DictEntry). AvpPair z f) (one x nx) (subst (λ (z : DictEntry). AvpPair x z) (two y ny) h))
          (declared e f l (is e f at at'))

  of_avp : (p : NamePair) (t : Test) (l : List Failing) → AreAvpFailings all t (entry_named da p.0) (entry_named db p.1) l → (l ≡ []) ↔ AvpTest da db table u t p
  of_avp p t l h = by (entry_named da p.0) (entry_named db p.1) refl refl h
    where
      by : (o q : Option ℕ) → entry_named da p.0 ≡ o → entry_named db p.1 ≡ q → AreAvpFailings all t o q l → (l ≡ []) ↔ AvpTest da db table u t p
      by None q en fn is = subst (λ (zs : List Failing). (zs ≡ []) ↔ AvpTest da db table u t p) (sym is)
          (no_avp p false (is_some q) (first_missing (is_some q)) (λ x y nx ny. let r = entry_found da p.0 x sa nx in none-some r.0 (sym en ∙ r.1)) t)
      by (Some i) None en fn is = subst (λ (zs : List Failing). (zs ≡ []) ↔ AvpTest da db table u t p) (sym is)
          (no_avp p true false second_missing (λ x y nx ny. let r = entry_found db p.1 y sb ny in none-some r.0 (sym fn ∙ r.1)) t)
      by (Some i) (Some j) en fn is =
          let x = found_entry da p.0 i en in
          let y = found_entry db p.1 j fn in
          entries_at p i j x.0 y.0 en fn x.1 y.1 x.2 y.2 t l is

  -- ---- the pair at a place of the table

  at_place : {P : NamePair → Type 0} (ps : List NamePair) (i : ℕ) (l : List Failing) (recorded : NamePair → Type 0) → ((p : NamePair) → recorded p → (l ≡ []) ↔ P p)
      → MatchOption (slice_get ps i) (l ≡ []) recorded → (l ≡ []) ↔ IfSome (slice_get ps i) P
  at_place {P} ps i l recorded each h = by (slice_get ps i) h
    where
      by : (o : Option NamePair) → MatchOption o (l ≡ []) recorded → (l ≡ []) ↔ IfSome o P
      by None e = (λ _. tt, λ _. e)
      by (Some p) k = each p k

  none_at : (k : PairKind) (i : ℕ) (t : Test) (l : List Failing) → AreFailingsAt all k i t l → (l ≡ []) ↔ PassesAt da db u table k i t
  none_at kind.Command i t l h = at_place {P = λ p. CommandTest da db table u t p} table.commands i l (λ p. AreFailings all kind.Command t p l)
      (λ p is. subst (λ (zs : List Failing). (zs ≡ []) ↔ CommandTest da db table u t p) (sym is) (of_command p t)) h
  none_at kind.Avp i t l h = at_place {P = λ p. AvpTest da db table u t p} table.avps i l (λ p. AreFailings all kind.Avp t p l) (λ p is. of_avp p t l is) h

-- the list is empty exactly where the pair passes
pub none_where_passed : (da db : Dictionary) (u : Unknown) (table : PlainTable) → IsDictionary da → IsDictionary db → (k : PairKind) (i : ℕ) (t : Test) (l : List Failing)
    → AreFailingsOf da db u table k i t l → (l ≡ []) ↔ PassesAt da db u table k i t
none_where_passed a b u pairs sa sb k i t l h = none_at (compared (record { first = a; second = b; unknown = u }) pairs) sa sb k i t l h

-- ---- what two commands at their places fail

pub at_places : {V E : Type 0} (items : V → List Failing) (c : Compared) (t : Test) (i j : ℕ) (x y : PlainDefinition) (r : Result V E) → slice_get c.sides.first.commands i ≡ Some x
    → slice_get c.sides.second.commands j ≡ Some y → IfOk r (λ all. items all ≡ definition_failings c t x y) → IfOk r (λ all. items all ≡ place_failings c t (Some i) (Some j))
at_places items c t i j x y r at_x at_y h =
    subst (λ (fails : List Failing). IfOk r (λ all. items all ≡ fails)) (sym (placed_definitions c t i j x y at_x at_y)) h
