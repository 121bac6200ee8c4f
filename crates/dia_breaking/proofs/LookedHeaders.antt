-- For each header for which A selects a command, one that is looked at reports the same: B selects the same for both.
use Rattle.std.proofs.Common.{◌≡◌, ◌≢◌, ℕ, zero, suc, ◌+◌, ◌<◌, ◌^◌, Bool, true, false, ◌==◌, ◌&&◌, nat_eq, List, [], ◌∷◌, ◌++◌, length, map, filter, Option, Some, None, refl, sym, ap, subst, ◌∙◌, inl, inr}
use Rattle.std.specs.Prelude.{◌⊎◌, Contains, MatchOption, is_some, option_and_then, option_to_list, slice_get, position, if◌then◌else◌}
use Rattle.std.specs.Option.{option_eq, option_map, option_or}
use Rattle.std.proofs.lemmas.Bool.{and_from, both_ways, eq-eqb, eqb-true}
use Rattle.std.proofs.lemmas.Option.{none-some, same_Some}
use Rattle.dia_book.specs.declared.Class.{Class}
use Rattle.dia_book.specs.declared.Class.TheVariants as classes
use Rattle.dia_book.specs.declared.Pxy.{Pxy}
use Rattle.dia_book.specs.declared.DefHead.{DefHead}
use Rattle.dia_book.specs.declared.DefHead.TheVariants.{Group, Command, Error}
use Rattle.dia_book.specs.Dictionary.{Dictionary, PlainDefinition, IsDictionary, IsCommandHead, groups, definitions, selected, is_command, same_class}
use Rattle.dia_book.proofs.Lists.{position-map, map-agree}
use Rattle.dia_book.proofs.Members.{at_Contains, at_append, at_filter_map, at_map, into_left, into_map}
use Rattle.dia_valid.specs.Commands.{HasCode}
use Rattle.dia_valid.proofs.Members.{IsIn, all_of, at_in, contains_in, in_append, in_at, in_contains, in_filter, in_left, in_right, into_filter}
use Rattle.dia_valid.proofs.Searches.{Found, NotFound, found_or_not}
use Rattle.dia_valid.proofs.SelectedCommands.{Choice, NoChoice, Reads, choose, class_same, command_at, reads}
use Rattle.dia_breaking_sites.specs.Selection.{NamesApp}
use Rattle.dia_breaking.specs.declared.apps.Apps.{Apps}
use Rattle.dia_breaking.specs.declared.heads.Head.{Head}
use Rattle.dia_breaking.specs.declared.readings.Reading.{Reading}
use Rattle.dia_breaking.specs.Headers.{AreApps, app_row, apps_of, head_in, row_app, rows_of}
use Rattle.dia_breaking.specs.Readings.{AreReadings, as_other, as_sent, one_other, reading_after}
use Rattle.dia_breaking.specs.RecordedApps.{IsLeastUnnamed, IsNamed, selects}
use Rattle.dia_breaking.proofs.FoundApps.{selects_it}
use Rattle.dia_breaking.proofs.OpenCommands.{named_listed}

-- ---- headers for which one definition is selected

agree : {X : Type 0} (p q : X → Bool) (xs : List X) → ((i : ℕ) (x : X) → slice_get xs i ≡ Some x → p x ≡ q x) → position p xs ≡ position q xs
agree p q xs h = sym (position-map p (λ (b : Bool). b) xs) ∙ ap (position (λ (b : Bool). b)) (map-agree p q xs h) ∙ position-map q (λ (b : Bool). b) xs

false_between : (x z : Bool) → ((x && false) && z) ≡ false
false_between true z = refl
false_between false z = refl

-- the definition for errors is for each code and application
one_error : (code other : ℕ) (app its : Option ℕ) (h : DefHead) → IsCommandHead h → is_command code classes.Error app h ≡ is_command other classes.Error its h
one_error code other app its (Group key) is = absurd is
one_error code other app its (Error p) is = refl
one_error code other app its (Command own classes.Error a p) is = absurd (is refl)
one_error code other app its (Command own classes.Request a p) is = false_between (code == own) (option_eq nat_eq app a) ∙ sym (false_between (other == own) (option_eq nat_eq its a))
one_error code other app its (Command own classes.Answer a p) is = false_between (code == own) (option_eq nat_eq app a) ∙ sym (false_between (other == own) (option_eq nat_eq its a))

abbrev number : Dictionary → Option ℕ → Option ℕ → Option ℕ
number d x y = option_map (λ i. length (groups d) + i) (option_or x y)

module _ (d : Dictionary) where
  abbrev is_own : ℕ → Class → ℕ → PlainDefinition → Bool
  is_own code class app x = is_command code class (Some app) x.head

  abbrev is_common : ℕ → Class → PlainDefinition → Bool
  is_common code class x = is_command code class None x.head

  errors_alike : IsDictionary d → (code other app its : ℕ) → selected d code classes.Error app ≡ selected d other classes.Error its
  errors_alike sound code other app its =
      ap (λ (o : Option ℕ). number d o (position (is_common code classes.Error) d.commands))
      (agree (is_own code classes.Error app) (is_own other classes.Error its) d.commands (λ i x at. one_error code other (Some app) (Some its) x.head (heads i x at)))
      ∙ ap (λ (o : Option ℕ). number d (position (is_own other classes.Error its) d.commands) o)
      (agree (is_common code classes.Error) (is_common other classes.Error) d.commands (λ i x at. one_error code other None None x.head (heads i x at)))
    where
      heads : (i : ℕ) (x : PlainDefinition) → slice_get d.commands i ≡ Some x → IsCommandHead x.head
      heads i x at = all_of (λ (y : PlainDefinition). IsCommandHead y.head) d.commands x sound.command_heads (in_at d.commands i x at)

  module _ (code : ℕ) (class : Class) where
    named : (app : ℕ) → Found (is_own code class app) d.commands → NamesApp d code class app
    named app f = (f.item, contains_in d.commands f.item (in_at d.commands f.place f.item f.at), f.passes)

    no_own : (app : ℕ) → ¬ NamesApp d code class app → position (is_own code class app) d.commands ≡ None
    no_own app none = by (found_or_not (is_own code class app) d.commands)
      where
        by : Found (is_own code class app) d.commands ⊎ NotFound (is_own code class app) d.commands → position (is_own code class app) d.commands ≡ None
        by (inl f) = absurd (none (named app f))
        by (inr n) = n.is_none

    -- of applications that no command names the same is selected
    commons_alike : (app other : ℕ) → ¬ NamesApp d code class app → ¬ NamesApp d code class other → selected d code class app ≡ selected d code class other
    commons_alike app other none none_too =
        ap (λ (o : Option ℕ). number d o (position (is_common code class) d.commands)) (no_own app none)
        ∙ sym (ap (λ (o : Option ℕ). number d o (position (is_common code class) d.commands)) (no_own other none_too))

    unnamed : (app : ℕ) → NotFound (is_own code class app) d.commands → ¬ NamesApp d code class app
    unnamed app n (y, inside, is) = both_ways (is_own code class app y) (n.none y (in_contains d.commands y inside)) is

-- ---- the applications that are listed are named

row_names : (code : ℕ) (class : Class) (app : ℕ) (h : DefHead) (row : Class × ℕ) → app_row code h ≡ Some row → row_app class row ≡ Some app → is_command code class (Some app) h ≡ true
row_names code class app (Group key) row e f = absurd (none-some row e)
row_names code class app (Error p) row e f = absurd (none-some row e)
row_names code class app (Command own kind None p) row e f = absurd (none-some row e)
row_names code class app (Command own kind (Some a) p) row e f = by (code == own) refl e
  where
    by_class : (kind, a) ≡ row → (code == own) ≡ true → (b : Bool) → same_class kind class ≡ b → (if b then Some a else None) ≡ Some app → is_command code class (Some app) (Command own kind (Some a) p) ≡ true
    by_class same here false g h = absurd (none-some app h)
    by_class same here true g h =
        let classes_same : class ≡ kind = sym (class_same kind class g) in
        let apps : app ≡ a = sym (same_Some a app h) in
        and_from ((code == own) && same_class class kind) (nat_eq app a)
        (and_from (code == own) (same_class class kind) here (ap (λ (k : Class). same_class k kind) classes_same ∙ own_class kind))
        (ap (λ (n : ℕ). nat_eq n a) apps ∙ own_number a)
      where
        own_class : (k : Class) → same_class k k ≡ true
        own_class classes.Request = refl
        own_class classes.Answer = refl
        own_class classes.Error = refl

        own_number : (n : ℕ) → nat_eq n n ≡ true
        own_number n = eq-eqb n n refl

    by : (b : Bool) → (code == own) ≡ b → (if b then Some (kind, a) else None) ≡ Some row → is_command code class (Some app) (Command own kind (Some a) p) ≡ true
    by false here e = absurd (none-some row e)
    by true here e =
        let same : (kind, a) ≡ row = same_Some (kind, a) row e in
        by_class same here (same_class kind class) refl (ap (row_app class) same ∙ f)

listed_named : (d : Dictionary) (apps : Apps) → AreApps d apps → (code : ℕ) (class : Class) (app : ℕ) → Contains (apps_of apps code class) app → NamesApp d code class app
listed_named d apps are code class app there =
    let p = at_Contains (apps_of apps code class) app there in
    let (j, row, at, is) = at_filter_map (row_app class) (rows_of apps code) p.place app p.at in
    let (i, y, at_y, is_y) = at_filter_map (λ (z : PlainDefinition). app_row code z.head) d.commands j row (subst (λ (rows : List (Class × ℕ)). slice_get rows j ≡ Some row) (are code) at) in
    (y, contains_in d.commands y (in_at d.commands i y at_y), row_names code class app y.head row is_y is)

-- ---- a header that is looked at

-- the command names no application, and this is one that A's dictionary doesn't name
abbrev IsOpen : Dictionary → Head → ℕ → Type 0
IsOpen da head app = (head.app ≡ None) × (head.class ≢ classes.Error) × (¬ NamesApp da head.code head.class app) × (app < 2 ^ 32)

-- what is selected for a header is what is selected for the head of its command, and this application
pub record IsLookedAt (da db : Dictionary) (c : ℕ) (head : Head) (code : ℕ) (class : Class) (app : ℕ) : Type 0 where
  pub own : ℕ
  pub sent : selected da head.code head.class own ≡ Some c
  pub read : selected db head.code head.class own ≡ selected db code class app
  pub how : (head.app ≡ Some own) ⊎ IsOpen da head own

module _ (da db : Dictionary) (sa : IsDictionary da) (sb : IsDictionary db) (c : ℕ) (x : PlainDefinition) (at : slice_get (definitions da) c ≡ Some x) (head : Head) (is_head : head_in x.head ≡ Some head)
    (code : ℕ) (class : Class) (app : ℕ) (select : selected da code class app ≡ Some c) where
  by_error : (p : Pxy) → x.head ≡ Error p → class ≡ classes.Error → IsLookedAt da db c head code class app
  by_error p is error =
      let heads : record { code = 0; class = classes.Error; app = Some 0; p = p } ≡ head = same_Some _ head (sym (ap head_in is) ∙ is_head) in
      record { own = 0; sent = moved da sa heads ∙ select; read = moved db sb heads; how = inl (sym (ap (λ (h : Head). h.app) heads)) }
    where
      moved : (d : Dictionary) → IsDictionary d → record { code = 0; class = classes.Error; app = Some 0; p = p } ≡ head → selected d head.code head.class 0 ≡ selected d code class app
      moved d sound heads =
          ap (λ (h : Head). selected d h.code h.class 0) (sym heads) ∙ errors_alike d sound 0 code 0 app ∙ ap (λ (k : Class). selected d code k app) (sym error)

  module _ (own : Option ℕ) (h : HasCode x code class own) where
    heads : record { code = code; class = class; app = own; p = h.p } ≡ head
    heads = same_Some _ head (sym (ap head_in h.head) ∙ is_head)

    moved : (d : Dictionary) → selected d head.code head.class app ≡ selected d code class app
    moved d = ap (λ (g : Head). selected d g.code g.class app) (sym heads)

    by_own : own ≡ Some app → IsLookedAt da db c head code class app
    by_own is = record { own = app; sent = moved da ∙ select; read = moved db; how = inl (sym (ap (λ (g : Head). g.app) heads) ∙ is) }

    by_open : own ≡ None → class ≢ classes.Error → ¬ NamesApp da code class app → app < 2 ^ 32 → IsLookedAt da db c head code class app
    by_open none other unnamed few = record {
      own = app;
      sent = moved da ∙ select;
      read = moved db;
      how = inr (
        sym (ap (λ (g : Head). g.app) heads) ∙ none,
        (λ e. other (ap (λ (g : Head). g.class) heads ∙ e)),
        (λ names. unnamed (subst (λ (g : Head). NamesApp da g.code g.class app) (sym heads) names)),
        few,
      );
    }

  pub looked_at : app < 2 ^ 32 → IsLookedAt da db c head code class app
  looked_at few = by (choose da code class app)
    where
      how : (ch : Choice da code class app) → slice_get da.commands ch.place ≡ Some x
          → (is_command code class (Some app) ch.command.head ≡ true) ⊎ ((is_command code class None ch.command.head ≡ true)
          × ((y : PlainDefinition) → IsIn y da.commands → is_command code class (Some app) y.head ≡ false)) → IsLookedAt da db c head code class app
      how ch here (inl own) = by_reads (reads da x code class (Some app) sa (in_at da.commands ch.place x here) (subst (λ (y : PlainDefinition). is_command code class (Some app) y.head ≡ true) same own))
        where
          same : ch.command ≡ x
          same = same_Some ch.command x (sym ch.at ∙ here)

          by_reads : Reads x code class (Some app) → IsLookedAt da db c head code class app
          by_reads (inl ((p, is), error)) = by_error p is error
          by_reads (inr (h, other)) = by_own (Some app) h refl
      how ch here (inr (common, none)) = by_reads (reads da x code class None sa (in_at da.commands ch.place x here) (subst (λ (y : PlainDefinition). is_command code class None y.head ≡ true) same common))
        where
          same : ch.command ≡ x
          same = same_Some ch.command x (sym ch.at ∙ here)

          by_reads : Reads x code class None → IsLookedAt da db c head code class app
          by_reads (inl ((p, is), error)) = by_error p is error
          by_reads (inr (h, other)) =
              by_open None h refl other (λ (y, inside, is). both_ways (is_command code class (Some app) y.head) (none y (in_contains da.commands y inside)) is) few

      by : Choice da code class app ⊎ NoChoice da code class app → IsLookedAt da db c head code class app
      by (inl ch) =
          let place : length (groups da) + ch.place ≡ c = same_Some _ c (sym ch.is_selected ∙ select) in
          how ch (command_at da ch.place c x (sym place) at) ch.how
      by (inr none) = absurd (none-some c (sym none.is_none ∙ select))

-- ---- the applications that are looked at

is_number : (o : Option ℕ) (n : ℕ) → option_eq nat_eq o (Some n) ≡ true → o ≡ Some n
is_number None n e = absurd (both_ways false refl e)
is_number (Some m) n e = ap (λ (k : ℕ). Some k) (eqb-true m n e)

module _ (da db : Dictionary) (first second : Apps) (in_a : AreApps da first) (in_b : AreApps db second) (c : ℕ) (head : Head) (own : ℕ) (sent : selected da head.code head.class own ≡ Some c)
    (how : (head.app ≡ Some own) ⊎ IsOpen da head own) (apps : List ℕ) where
  abbrev named_a : List ℕ
  named_a = apps_of first head.code head.class

  abbrev named_b : List ℕ
  named_b = apps_of second head.code head.class

  abbrev AreOpenHere : Type 0
  AreOpenHere = (found : Option ℕ) × IsLeastUnnamed named_a named_b found × (apps ≡ filter (selects da c head) named_b ++ option_to_list found)

  abbrev AreRecordedHere : Type 0
  AreRecordedHere = MatchOption head.app AreOpenHere (λ app. apps ≡ app ∷ [])

  one : AreRecordedHere → head.app ≡ Some own → apps ≡ own ∷ []
  one recorded is = subst (λ (o : Option ℕ). MatchOption o AreOpenHere (λ app. apps ≡ app ∷ [])) is recorded

  open_recorded : AreRecordedHere → head.app ≡ None → AreOpenHere
  open_recorded recorded is = subst (λ (o : Option ℕ). MatchOption o AreOpenHere (λ app. apps ≡ app ∷ [])) is recorded

  -- one that B selects the same for is looked at
  pub recorded_app : AreRecordedHere → (app : ℕ) × IsIn app apps × (selected db head.code head.class app ≡ selected db head.code head.class own)
  recorded_app recorded = by how
    where
      into : (app : ℕ) (all : List ℕ) → apps ≡ all → IsIn app all → IsIn app apps
      into app all are i = subst (λ (xs : List ℕ). IsIn app xs) (sym are) i

      unnamed_by : (other : head.class ≢ classes.Error) → ¬ NamesApp da head.code head.class own → own < 2 ^ 32 → ¬ NamesApp db head.code head.class own → (found : Option ℕ)
          → IsLeastUnnamed named_a named_b found → apps ≡ filter (selects da c head) named_b ++ option_to_list found
          → (app : ℕ) × IsIn app apps × (selected db head.code head.class app ≡ selected db head.code head.class own)
      unnamed_by other none_a few none_b None all are = absurd (named (all own few))
        where
          named : IsNamed named_a named_b own → ⊥
          named (inl there) = none_a (listed_named da first in_a head.code head.class own there)
          named (inr there) = none_b (listed_named db second in_b head.code head.class own there)
      unnamed_by other none_a few none_b (Some rep) (within, never, below) are = (
        rep,
        into rep (filter (selects da c head) named_b ++ rep ∷ []) are (in_right (filter (selects da c head) named_b) (rep ∷ []) rep (inl refl)),
        commons_alike db head.code head.class rep own (λ names. never (inr (named_listed head.code head.class rep other db second in_b names))) none_b,
      )

      by_open : (other : head.class ≢ classes.Error) → ¬ NamesApp da head.code head.class own → own < 2 ^ 32 → AreOpenHere
          → Found (is_own db head.code head.class own) db.commands ⊎ NotFound (is_own db head.code head.class own) db.commands
          → (app : ℕ) × IsIn app apps × (selected db head.code head.class app ≡ selected db head.code head.class own)
      by_open other none_a few (found, least, are) (inl f) =
          let there = in_contains named_b own (named_listed head.code head.class own other db second in_b (named db head.code head.class own f)) in
          let kept = into_filter (selects da c head) named_b own there (selects_it da c head own sent) in
          (own, into own (filter (selects da c head) named_b ++ option_to_list found) are (in_left (filter (selects da c head) named_b) (option_to_list found) own kept), refl)
      by_open other none_a few (found, least, are) (inr n) = unnamed_by other none_a few (unnamed db head.code head.class own n) found least are

      by : (head.app ≡ Some own) ⊎ IsOpen da head own → (app : ℕ) × IsIn app apps × (selected db head.code head.class app ≡ selected db head.code head.class own)
      by (inl is) = (own, into own (own ∷ []) (one recorded is) (inl refl), refl)
      by (inr (none, other, none_a, few)) = by_open other none_a few (open_recorded recorded none) (found_or_not (is_own db head.code head.class own) db.commands)

  -- A selects the command for each of them
  pub recorded_sent : AreRecordedHere → (app : ℕ) → IsIn app apps → selected da head.code head.class app ≡ Some c
  recorded_sent recorded app i = by how
    where
      by_open : (other : head.class ≢ classes.Error) → ¬ NamesApp da head.code head.class own → AreOpenHere → selected da head.code head.class app ≡ Some c
      by_open other none_a (found, least, are) = part (in_append (filter (selects da c head) named_b) (option_to_list found) app (subst (λ (xs : List ℕ). IsIn app xs) are i))
        where
          rest : (o : Option ℕ) → IsLeastUnnamed named_a named_b o → IsIn app (option_to_list o) → selected da head.code head.class app ≡ Some c
          rest None least j = absurd j
          rest (Some rep) least (inr j) = absurd j
          rest (Some rep) (within, never, below) (inl same) =
              ap (λ (n : ℕ). selected da head.code head.class n) same
              ∙ commons_alike da head.code head.class rep own (λ names. never (inl (named_listed head.code head.class rep other da first in_a names))) none_a ∙ sent

          part : IsIn app (filter (selects da c head) named_b) ⊎ IsIn app (option_to_list found) → selected da head.code head.class app ≡ Some c
          part (inl j) = is_number (selected da head.code head.class app) c (in_filter (selects da c head) named_b app j).1
          part (inr j) = rest found least j

      by_one : IsIn app (own ∷ []) → selected da head.code head.class app ≡ Some c
      by_one (inl same) = ap (λ (n : ℕ). selected da head.code head.class n) same ∙ sent
      by_one (inr j) = absurd j

      by : (head.app ≡ Some own) ⊎ IsOpen da head own → selected da head.code head.class app ≡ Some c
      by (inl is) = by_one (subst (λ (xs : List ℕ). IsIn app xs) (one recorded is) i)
      by (inr (none, other, none_a, few)) = by_open other none_a (open_recorded recorded none)

-- ---- readings

module _ (da db : Dictionary) (first second : Apps) (in_a : AreApps da first) (in_b : AreApps db second) (c : ℕ) (head : Head) (own : ℕ) (sent : selected da head.code head.class own ≡ Some c)
    (how : (head.app ≡ Some own) ⊎ IsOpen da head own) (readings : List Reading) (are : AreReadings da db (record { first = first; second = second }) c head readings) where
  -- a reading is of messages for which A selects the command
  pub reading_sent : (i : ℕ) (r : Reading) → slice_get readings i ≡ Some r → selected da head.code head.class r.app ≡ Some c
  reading_sent i r at = by (at_append (map as_sent are.0) (option_to_list (reading_after da db head)) i r (ap (λ (rs : List Reading). slice_get rs i) (sym are.2) ∙ at))
    where
      by_app : (a : Option ℕ) → head.app ≡ a
          → option_and_then (λ app. if is_some (selected db head.code head.class app) then None else option_map (as_other app) (one_other da db head)) a ≡ Some r
          → selected da head.code head.class r.app ≡ Some c
      by_app None is e = absurd (none-some r e)
      by_app (Some app) is e = by_read (is_some (selected db head.code head.class app)) (one_other da db head) e
        where
          its : (head.app ≡ Some own) ⊎ IsOpen da head own → app ≡ own
          its (inl same) = same_Some app own (sym is ∙ same)
          its (inr unnamed) = absurd (none-some app (sym unnamed.0 ∙ is))

          by_read : (b : Bool) (o : Option ℕ) → (if b then None else option_map (as_other app) o) ≡ Some r → selected da head.code head.class r.app ≡ Some c
          by_read true o e = absurd (none-some r e)
          by_read false None e = absurd (none-some r e)
          by_read false (Some other) e =
              ap (λ (q : Reading). selected da head.code head.class q.app) (sym (same_Some (as_other app other) r e)) ∙ ap (λ (n : ℕ). selected da head.code head.class n) (its how) ∙ sent

      following : (o : Option Reading) (j : ℕ) → reading_after da db head ≡ o → slice_get (option_to_list o) j ≡ Some r → reading_after da db head ≡ Some r
      following None j is here = absurd (none-some r here)
      following (Some q) zero is here = is ∙ here
      following (Some q) (suc j) is here = absurd (none-some r here)

      by : (slice_get (map as_sent are.0) i ≡ Some r) ⊎ ((j : ℕ) × (i ≡ length (map as_sent are.0) + j) × (slice_get (option_to_list (reading_after da db head)) j ≡ Some r))
          → selected da head.code head.class r.app ≡ Some c
      by (inl here) =
          let (app, there, same) = at_map as_sent are.0 i r here in
          ap (λ (q : Reading). selected da head.code head.class q.app) (sym same) ∙ recorded_sent da db first second in_a in_b c head own sent how are.0 are.1 app (in_at are.0 i app there)
      by (inr (j, is, here)) = by_app head.app refl (following (reading_after da db head) j refl here)

  -- one reads what the header selects
  pub reading_of : (i : ℕ) × (r : Reading) × (slice_get readings i ≡ Some r) × (selected db head.code head.class r.read_as ≡ selected db head.code head.class own)
  reading_of =
      let (app, there, same) = recorded_app da db first second in_a in_b c head own sent how are.0 are.1 in
      let a = at_in are.0 app there in (
        a.place,
        as_sent app,
        ap (λ (rs : List Reading). slice_get rs a.place) are.2 ∙ into_left (map as_sent are.0) (option_to_list (reading_after da db head)) a.place (as_sent app) (into_map as_sent are.0 a.place app a.at),
        same,
      )
