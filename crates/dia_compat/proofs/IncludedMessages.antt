-- A closed table includes each message of the commands that it lists.
use Rattle.std.proofs.Common.{◌≡◌, ◌≢◌, ℕ, ◌+◌, true, false, List, length, map, Option, Some, None, refl, sym, ap, subst, ◌∙◌, inl, inr}
use Rattle.std.specs.Prelude.{◌⊎◌, IfSome, Contains, slice_get}
use Rattle.std.proofs.lemmas.Option.{none-some, same_Some}
use Rattle.dia_wire.specs.Wire.{key_of}
use Rattle.dia_book.specs.declared.Class.{Class}
use Rattle.dia_book.specs.declared.Class.TheVariants as classes
use Rattle.dia_book.proofs.Members.{at_Contains, into_right}
use Rattle.dia_book.specs.Dictionary.{Dictionary, PlainDefinition, IsDictionary, groups, definitions, is_command}
use Rattle.dia_terms.specs.declared.Unknown.{Unknown}
use Rattle.dia_terms.specs.declared.Levels.{Levels}
use Rattle.dia_valid.specs.Valid.{AllowsP, class_of, Placed, IsValidOf}
use Rattle.dia_compat.specs.TableText.{PlainTable}
use Rattle.dia_compat.specs.declared.checking.PairKind.TheVariants as kind
use Rattle.dia_compat.specs.declared.checking.Test.{Test}
use Rattle.dia_compat.specs.declared.checking.Test.TheVariants.{N1, N2, N3, N4, N5, N6, N7, N8, N9, N10}
use Rattle.dia_compat.specs.Below.{DefBelow}
use Rattle.dia_compat.specs.Closed.{NamesCommand, IsPairKey, HasCode, IsError, IsBeside, NamesApp, IsWanted, error, same_app}
use Rattle.dia_compat.specs.Closed.{no_app, both_none, other_app, IsServed, CommandPair, CommandTest, IsClosed, IsIncluded}
use Rattle.dia_valid.proofs.Members.{IsIn, in_at, in_contains, contains_in}
use Rattle.dia_valid.proofs.SelectedCommands.{Choice, NoChoice, choose, Reads, reads, is_of_errors, no_app_named, one_command, command_rules}
use Rattle.dia_compat.proofs.FitInSecond.{body}

-- ---- what B selects for a message of A's command is wanted

module _ (da db : Dictionary) (sa : IsDictionary da) (sb : IsDictionary db) (code : ℕ) (class : Class) (app : ℕ) where
  -- how a definition of a dictionary was selected
  abbrev Own : Dictionary → PlainDefinition → Type 0
  Own d c = (HasCode c code class (Some app) × (class ≢ classes.Error)) ⊎ (HasCode c code class None × (class ≢ classes.Error) × ¬ NamesApp d code class (Some app))

  abbrev Chosen : Dictionary → PlainDefinition → Type 0
  Chosen d c = (IsError c × (class ≡ classes.Error)) ⊎ Own d c

  chosen : (d : Dictionary) → IsDictionary d → (ch : Choice d code class app) → Chosen d ch.command
  chosen d sound ch = by ch.how
    where
      inside : IsIn ch.command d.commands
      inside = in_at d.commands ch.place ch.command ch.at

      first : Reads ch.command code class (Some app) → Chosen d ch.command
      first (inl h) = inl h
      first (inr h) = inr (inl h)

      second : ((x : PlainDefinition) → IsIn x d.commands → is_command code class (Some app) x.head ≡ false) → Reads ch.command code class None → Chosen d ch.command
      second none (inl h) = inl h
      second none (inr h) = inr (inr (h.0, h.1, no_app_named d code class (Some app) none))

      by : (is_command code class (Some app) ch.command.head ≡ true) ⊎
          ((is_command code class None ch.command.head ≡ true) × ((x : PlainDefinition) → IsIn x d.commands → is_command code class (Some app) x.head ≡ false)) → Chosen d ch.command
      by (inl h) = first (reads d ch.command code class (Some app) sound inside h)
      by (inr h) = second h.1 (reads d ch.command code class None sound inside h.0)

  wants : (c d : PlainDefinition) → Contains db.commands d → Chosen da c → Chosen db d → IsWanted da db c d
  wants c d i (inl h) (inl k) = error i h.0 k.0
  wants c d i (inl h) (inr (inl k)) = absurd (k.1 h.1)
  wants c d i (inl h) (inr (inr k)) = absurd (k.1 h.1)
  wants c d i (inr (inl h)) (inl k) = absurd (h.1 k.1)
  wants c d i (inr (inr h)) (inl k) = absurd (h.1 k.1)
  wants c d i (inr (inl h)) (inr (inl k)) = same_app code app class i h.0 k.0
  wants c d i (inr (inl h)) (inr (inr k)) = no_app code app class i h.0 k.0 k.2
  wants c d i (inr (inr h)) (inr (inl k)) = other_app code app class i h.0 k.0 h.2
  wants c d i (inr (inr h)) (inr (inr k)) = both_none code class i h.0 k.0

  -- and B does select
  named_clash : (o : Option ℕ) → NamesApp db code class o → ((x : PlainDefinition) → IsIn x db.commands → is_command code class o x.head ≡ false) → ⊥
  named_clash o n none = no_app_named db code class o none n

  served_clash : (c : PlainDefinition) → IsServed da db c c.head → Chosen da c → NoChoice db code class app → ⊥
  served_clash c served (inl ((p, h), e)) none =
      let s = subst (IsServed da db c) h served in
      let passes = is_of_errors s.0 code class (Some app) s.2 e in
      absurd (let f : true ≡ false = sym passes ∙ none.no_own s.0 (in_contains db.commands s.0 s.1) in cc)
  served_clash c served (inr (inl h)) none = by (subst (IsServed da db c) h.0.head served)
    where
      by : NamesApp db code class (Some app) ⊎ NamesApp db code class None → ⊥
      by (inl n) = named_clash (Some app) n none.no_own
      by (inr n) = named_clash None n none.no_common
  served_clash c served (inr (inr h)) none = named_clash None (subst (IsServed da db c) h.0.head served) none.no_common

-- ---- inclusion

module _ (da db : Dictionary) (sa : IsDictionary da) (sb : IsDictionary db) (u : Unknown) (table : PlainTable) (closed : IsClosed da db u table) where
  passes : (p : List ℕ × List ℕ) → Contains table.commands p → (test : Test) → CommandTest da db table u test p
  passes p inside test = let here = at_Contains table.commands p inside in
      subst (λ (o : Option (List ℕ × List ℕ)). IfSome o (CommandTest da db table u test)) here.at (closed kind.Command here.place test)

  -- two commands whose names are in the table
  pub pair_tests : (p : List ℕ × List ℕ) (c d : PlainDefinition) → Contains table.commands p → NamesCommand da p.0 c → NamesCommand db p.1 d → DefBelow da db u (IsPairKey da db table) c.rules d.rules
  pair_tests p c d inside n m N1 = passes p inside N1 c d n m
  pair_tests p c d inside n m N2 = passes p inside N2 c d n m
  pair_tests p c d inside n m N3 = passes p inside N3 c d n m
  pair_tests p c d inside n m N4 = passes p inside N4 c d n m
  pair_tests p c d inside n m N5 = passes p inside N5 c d n m
  pair_tests p c d inside n m N6 = passes p inside N6 c d n m
  pair_tests p c d inside n m N7 = passes p inside N7 c d n m
  pair_tests p c d inside n m N8 = passes p inside N8 c d n m
  pair_tests p c d inside n m N9 = passes p inside N9 c d n m
  pair_tests p c d inside n m N10 = tt

  -- what the tenth test says of A's command of that name
  pub tenth : (p : List ℕ × List ℕ) (c : PlainDefinition) → Contains table.commands p → NamesCommand da p.0 c → (d : PlainDefinition) × NamesCommand db p.1 d × CommandPair da db table c d
  tenth p c inside n =
      let t = passes p inside N10 in
      let same = one_command da t.0 c sa (in_contains da.commands t.0 t.2.0) (in_contains da.commands c n.0) (t.2.1 ∙ sym n.1) in
      (t.1, t.3, subst (λ (x : PlainDefinition). CommandPair da db table x t.1) same t.4)

  valid_beside : (most : Levels) (bytes : List ℕ) (n : ℕ) (c : PlainDefinition) (v : IsValidOf da u most bytes n) → v.command ≡ c → IsIn c da.commands
      → (ch : Choice db v.header.code (class_of v.header.flags) v.header.app)
      → IsBeside table c ch.command → IsValidOf db u most bytes (length (groups db) + ch.place)
  valid_beside most bytes n c v same inside ch beside =
      let other = in_at db.commands ch.place ch.command ch.at in
      let nc : NamesCommand da c.name c = (contains_in da.commands c inside, refl) in
      let nd : NamesCommand db ch.command.name ch.command = (contains_in db.commands ch.command other, refl) in
      let t = tenth (c.name, ch.command.name) c beside nc in
      let is = one_command db t.0 ch.command sb (in_contains db.commands t.0 t.1.0) other t.1.1 in
      let below = pair_tests (c.name, ch.command.name) c ch.command beside nc nd in
      let r = body da db sa sb u table closed most c.rules ch.command.rules v.avps (command_rules da c sa inside) (command_rules db ch.command sb other) below
      (subst (λ (x : PlainDefinition). Placed x.rules (map key_of v.avps)) same v.placed) v.fit in
      record {
        header = v.header;
        avps = v.avps;
        command = ch.command;
        message = v.message;
        no_error_request = v.no_error_request;
        no_repeated_answer = v.no_repeated_answer;
        select = ch.is_selected;
        is_command = into_right (groups db) db.commands ch.place ch.command ch.at;
        proxiable = subst (λ (x : PlainDefinition). AllowsP x.head v.header.flags) is (t.2.proxiable v.header.flags (subst (λ (x : PlainDefinition). AllowsP x.head v.header.flags) same v.proxiable));
        placed = r.0;
        fit = r.1;
      }

  abbrev Beside : Levels → List ℕ → PlainDefinition → Type 0
  Beside most bytes c = (d : ℕ) × (other : PlainDefinition) × (slice_get (definitions db) d ≡ Some other) × IsBeside table c other × IsValidOf db u most bytes d

  in_b : (most : Levels) (bytes : List ℕ) (n : ℕ) (c : PlainDefinition) (p : List ℕ × List ℕ) → Contains table.commands p → c.name ≡ p.0 → (v : IsValidOf da u most bytes n) → v.command ≡ c
      → (own : Choice da v.header.code (class_of v.header.flags) v.header.app) → own.command ≡ c → Choice db v.header.code (class_of v.header.flags) v.header.app ⊎ NoChoice db v.header.code
      (class_of v.header.flags) v.header.app → Beside most bytes c
  in_b most bytes n c p listed name v same own is found = by found
    where
      inside : IsIn c da.commands
      inside = subst (λ (x : PlainDefinition). IsIn x da.commands) is (in_at da.commands own.place own.command own.at)

      pair : CommandPair da db table c (tenth p c listed (contains_in da.commands c inside, name)).0
      pair = (tenth p c listed (contains_in da.commands c inside, name)).2

      how : Chosen da db sa sb v.header.code (class_of v.header.flags) v.header.app da c
      how = subst (Chosen da db sa sb v.header.code (class_of v.header.flags) v.header.app da) is (chosen da db sa sb v.header.code (class_of v.header.flags) v.header.app da sa own)

      by : Choice db v.header.code (class_of v.header.flags) v.header.app ⊎ NoChoice db v.header.code (class_of v.header.flags) v.header.app → Beside most bytes c
      by (inl ch) =
          let other = contains_in db.commands ch.command (in_at db.commands ch.place ch.command ch.at) in
          let wanted = wants da db sa sb v.header.code (class_of v.header.flags) v.header.app c ch.command other how
          (chosen da db sa sb v.header.code (class_of v.header.flags) v.header.app db sb ch) in
          let beside = pair.selection ch.command wanted in
          (length (groups db) + ch.place, ch.command, into_right (groups db) db.commands ch.place ch.command ch.at, beside, valid_beside most bytes n c v same inside ch beside)
      by (inr none) = absurd (served_clash da db sa sb v.header.code (class_of v.header.flags) v.header.app c pair.served how none)

  in_a : (most : Levels) (bytes : List ℕ) (n : ℕ) (c : PlainDefinition) (p : List ℕ × List ℕ) → slice_get (definitions da) n ≡ Some c → Contains table.commands p → c.name ≡ p.0
      → (v : IsValidOf da u most bytes n)
      → Choice da v.header.code (class_of v.header.flags) v.header.app ⊎ NoChoice da v.header.code (class_of v.header.flags) v.header.app → Beside most bytes c
  in_a most bytes n c p at listed name v (inl own) =
      let number = same_Some (length (groups da) + own.place) n (sym own.is_selected ∙ v.select) in
      let is = same_Some own.command c (sym (into_right (groups da) da.commands own.place own.command own.at) ∙ ap (λ (k : ℕ). slice_get (definitions da) k) number ∙ at) in
      in_b most bytes n c p listed name v (same_Some v.command c (sym v.is_command ∙ at)) own is (choose db v.header.code (class_of v.header.flags) v.header.app)
  in_a most bytes n c p at listed name v (inr none) = absurd (none-some n (sym none.is_none ∙ v.select))

  pub included : IsIncluded da db u table
  included most bytes n c p at listed name v = in_a most bytes n c p at listed name v (choose da v.header.code (class_of v.header.flags) v.header.app)
