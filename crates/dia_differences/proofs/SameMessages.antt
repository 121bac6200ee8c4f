-- Two dictionaries that mean the same have the same valid messages.
use Rattle.std.proofs.Common.{◌≡◌, ◌≢◌, ℕ, zero, suc, ◌+◌, Bool, true, false, List, [], map, length, Option, Some, None, refl, sym, ap, subst, ◌∙◌, inl, inr}
use Rattle.std.specs.Prelude.{◌⊎◌, ◌↔◌, Any, IsSome, MatchOption, slice_get, option_and_then}
use Rattle.std.specs.Option.{option_map_or}
use Rattle.std.proofs.lemmas.Option.{none-some, same_Some}
use Rattle.dia_terms.specs.declared.MRule.{MRule}
use Rattle.dia_terms.specs.declared.Levels.{Levels}
use Rattle.dia_terms.specs.declared.Levels.TheVariants as levels
use Rattle.dia_terms.specs.declared.Unknown.{Unknown}
use Rattle.dia_wire.specs.declared.Key.{Key}
use Rattle.dia_wire.specs.Wire.{PlainAvp, key_of}
use Rattle.dia_data.specs.Leaf.{IsLeaf}
use Rattle.dia_data.specs.Plain.{PlainFormat, Enumerated, Grouped}
use Rattle.dia_data.proofs.FormatsBelow.{leaf_below}
use Rattle.dia_book.specs.declared.definition.Class.{Class}
use Rattle.dia_book.specs.declared.definition.DefHead.{DefHead}
use Rattle.dia_book.specs.declared.definition.DefHead.TheVariants.{Command, Error}
use Rattle.dia_book.specs.declared.definition.DRule.{DRule}
use Rattle.dia_book.specs.Dictionary.{Dictionary, DictEntry, IsDictionary, IsSameSelector, PlainDefinition, entry_of, groups, is_command, selected}
use Rattle.dia_book.specs.Keys.{same_key}
use Rattle.dia_book.proofs.NumberedGroups.{slice_get-append_right}
use Rattle.dia_book.proofs.SameKeys.{same_key-equal, same_key-true}
use Rattle.dia_valid.specs.Valid.{AllFit, AllowsP, Fits, FitsBy, IsAccepted, IsLevel, IsValid, IsValidOf, MHolds, class_of, known}
use Rattle.dia_valid.proofs.Entries.{all_at}
use Rattle.dia_valid.proofs.Members.{IsIn, all_map, at_in, in_at}
use Rattle.dia_valid.proofs.Searches.{Found, NotFound, found_or_not}
use Rattle.dia_valid.proofs.SelectedCommands.{Choice, NoChoice, Reads, choose, command_at, reads}
use Rattle.dia_differences.specs.Messages.{SameHaveSameMessages}
use Rattle.dia_differences.specs.Same.{AreSameRules, IsSameAvp, IsSameCommand, IsSameDictionary, IsSameFormat, IsWithin, avp_rules}
use Rattle.dia_differences.proofs.Paired.{position_one, some_is}
use Rattle.dia_differences.proofs.SameLevels.{placed_same}
use Rattle.dia_differences.proofs.SameMeaning.{There, from_any}

-- ---- data

leaf_same : (f g : PlainFormat) → IsSameFormat f g → (bytes : List ℕ) → IsLeaf f bytes → IsLeaf g bytes
leaf_same (Enumerated v) (Enumerated w) h bytes leaf = leaf_below (Enumerated v) (Enumerated w) h.0 bytes leaf
leaf_same (Enumerated v) g h bytes leaf = subst (λ (k : PlainFormat). IsLeaf k bytes) h leaf
leaf_same f g h bytes leaf = subst (λ (k : PlainFormat). IsLeaf k bytes) h leaf

grouped_same : (f g : PlainFormat) → IsSameFormat f g → f ≡ Grouped → g ≡ Grouped
grouped_same (Enumerated v) (Enumerated w) h e = absurd cc
grouped_same (Enumerated v) g h e = sym h ∙ e
grouped_same f g h e = sym h ∙ e

grouped_back : (f g : PlainFormat) → IsSameFormat f g → g ≡ Grouped → f ≡ Grouped
grouped_back (Enumerated v) (Enumerated w) h e = absurd cc
grouped_back (Enumerated v) g h e = h ∙ e
grouped_back f g h e = h ∙ e

-- ---- entries

-- the entry of a key, which the dictionary has at a place
record Entry (d : Dictionary) (key : Key) (x : DictEntry) : Type 0 where
  pub place : ℕ
  pub at : slice_get d.entries place ≡ Some x
  pub own : key ≡ x.key

entry_at : (d : Dictionary) (key : Key) (x : DictEntry) → known d key ≡ Some x → Entry d key x
entry_at d key x is = by (found_or_not (λ (e : DictEntry). same_key key e.key) d.entries)
  where
    find : Option ℕ → Option DictEntry
    find o = option_and_then (λ i. slice_get d.entries i) o

    by : Found (λ (e : DictEntry). same_key key e.key) d.entries ⊎ NotFound (λ (e : DictEntry). same_key key e.key) d.entries → Entry d key x
    by (inl f) = record { place = f.place; at = sym (ap find f.is_place) ∙ is; own = same_key-true key x.key (ap (λ (e : DictEntry). same_key key e.key) (same_Some x f.item (sym is ∙ ap find f.is_place ∙ f.at)) ∙ f.passes) }
    by (inr n) = absurd (none-some x (sym (ap find n.is_none) ∙ is))

-- the entry of the same AVP
record SameEntry (b : Dictionary) (key : Key) (x : DictEntry) : Type 0 where
  pub entry : DictEntry
  pub is : known b key ≡ Some entry
  pub same : IsSameAvp x entry
  pub groups : IsSome x.group ↔ IsSome entry.group

module _ (a b : Dictionary) (sound_a : IsDictionary a) (sound_b : IsDictionary b) (same : IsWithin a b) where
  known_same : (key : Key) (x : DictEntry) → known a key ≡ Some x → SameEntry b key x
  known_same key x is =
      let e = entry_at a key x is in
      let h = from_any (IsSameAvp x) b.entries (all_at (λ (z : DictEntry). Any (IsSameAvp z) b.entries) a.entries e.place x same.avps e.at) in
      let y = h.item in
      let key_is : key ≡ y.key = e.own ∙ h.is.key in
      let place : entry_of b key ≡ Some h.place = position_one (λ (z : DictEntry). same_key key z.key) b.entries h.place y h.at (same_key-equal key y.key key_is)
      (λ n z there test. sound_b.distinct_keys n h.place z y there h.at (sym (same_key-true key z.key test) ∙ key_is)) in
      let grouped_x = all_at (λ (z : DictEntry). (z.format ≡ Grouped) ↔ IsSome z.group) a.entries e.place x sound_a.grouped e.at in
      let grouped_y = all_at (λ (z : DictEntry). (z.format ≡ Grouped) ↔ IsSome z.group) b.entries h.place y sound_b.grouped h.at in
      record {
        entry = y;
        is = ap (λ (o : Option ℕ). option_and_then (λ i. slice_get b.entries i) o) place ∙ h.at;
        same = h.is;
        groups = (λ s. grouped_y.0 (grouped_same x.format y.format h.is.format (grouped_x.1 s)), λ s. grouped_x.0 (grouped_back x.format y.format h.is.format (grouped_y.1 s)));
      }

group_same : (InnerA InnerB : List DRule → List ℕ → Type 0) (f g : PlainFormat) (bytes : List ℕ) → ((rules others : List DRule) → AreSameRules rules others → InnerA rules bytes → InnerB others bytes)
    → IsSameFormat f g → (o p : Option PlainDefinition) → IsSome o ↔ IsSome p → AreSameRules (option_map_or (λ group. group.rules) o []) (option_map_or (λ group. group.rules) p [])
    → MatchOption o (IsLeaf f bytes) (λ group. InnerA group.rules bytes) → MatchOption p (IsLeaf g bytes) (λ group. InnerB group.rules bytes)
group_same InnerA InnerB f g bytes inner format None None groups rules h = leaf_same f g format bytes h
group_same InnerA InnerB f g bytes inner format (Some o) (Some p) groups rules h = inner o.rules p.rules rules h
group_same InnerA InnerB f g bytes inner format None (Some p) groups rules h = absurd (let t : false ≡ true = groups.1 refl in cc)
group_same InnerA InnerB f g bytes inner format (Some o) None groups rules h = absurd (let t : false ≡ true = groups.0 refl in cc)

-- ---- commands

one_selector : (c e : PlainDefinition) (code : ℕ) (class : Class) (app : Option ℕ) → Reads c code class app → Reads e code class app → IsSameSelector c.head e.head
one_selector c e code class app (inl ((p, h), k)) (inl ((q, g), l)) = subst (λ (x : DefHead). IsSameSelector x e.head) (sym h) (subst (λ (y : DefHead). IsSameSelector (Error p) y) (sym g) tt)
one_selector c e code class app (inr (h, n)) (inr (g, m)) =
    subst (λ (x : DefHead). IsSameSelector x e.head) (sym h.head) (subst (λ (y : DefHead). IsSameSelector (Command code class app h.p) y) (sym g.head) (refl, refl, refl))
one_selector c e code class app (inl (x, k)) (inr (g, m)) = absurd (m k)
one_selector c e code class app (inr (h, n)) (inl (x, k)) = absurd (n k)

-- the one command of a dictionary for these messages
one_place : (d : Dictionary) (i j : ℕ) (x y : PlainDefinition) (code : ℕ) (class : Class) (app : Option ℕ) → IsDictionary d → slice_get d.commands i ≡ Some x → slice_get d.commands j ≡ Some y
    → is_command code class app x.head ≡ true → is_command code class app y.head ≡ true → i ≡ j
one_place d i j x y code class app sound at there passes other =
    sound.distinct_selectors i j x y at there (one_selector x y code class app
    (reads d x code class app sound (in_at d.commands i x at) passes) (reads d y code class app sound (in_at d.commands j y there) other))

record SameChoice (b : Dictionary) (code : ℕ) (class : Class) (app : ℕ) (x : PlainDefinition) : Type 0 where
  pub place : ℕ
  pub command : PlainDefinition
  pub at : slice_get b.commands place ≡ Some command
  pub is_selected : selected b code class app ≡ Some (length (groups b) + place)
  pub same : IsSameCommand x command

module _ (a b : Dictionary) (sound_b : IsDictionary b) (same : IsWithin a b) (back : IsWithin b a) (code : ℕ) (class : Class) (app : ℕ) where
  -- none of B is for these messages, if none of A is
  none_back : (o : Option ℕ) → ((z : PlainDefinition) → IsIn z a.commands → is_command code class o z.head ≡ false) → (z : PlainDefinition) → IsIn z b.commands → is_command code class o z.head ≡ false
  none_back o none z i =
      let p = at_in b.commands z i in
      let h = from_any (IsSameCommand z) a.commands (all_at (λ (w : PlainDefinition). Any (IsSameCommand w) a.commands) b.commands p.place z back.commands p.at) in
      ap (is_command code class o) h.is.head ∙ none h.item (in_at a.commands h.place h.item h.at)

  select_same : (r : Choice a code class app) → SameChoice b code class app r.command
  select_same r = by r.how (choose b code class app)
    where
      h : There (IsSameCommand r.command) b.commands
      h = from_any (IsSameCommand r.command) b.commands (all_at (λ (w : PlainDefinition). Any (IsSameCommand w) b.commands) a.commands r.place r.command same.commands r.at)

      there : IsIn h.item b.commands
      there = in_at b.commands h.place h.item h.at

      passes : (o : Option ℕ) → is_command code class o r.command.head ≡ true → is_command code class o h.item.head ≡ true
      passes o e = sym (ap (is_command code class o) h.is.head) ∙ e

      made : (q : Choice b code class app) → q.place ≡ h.place → SameChoice b code class app r.command
      made q e = record { place = h.place; command = h.item; at = h.at; is_selected = q.is_selected ∙ ap (λ (n : ℕ). Some (length (groups b) + n)) e; same = h.is }

      by : (is_command code class (Some app) r.command.head ≡ true) ⊎ ((is_command code class None r.command.head ≡ true) ×
          ((x : PlainDefinition) → IsIn x a.commands → is_command code class (Some app) x.head ≡ false)) → Choice b code class app ⊎ NoChoice b code class app → SameChoice b code class app r.command
      by (inl own) (inr n) = absurd (let t : true ≡ false = sym (passes (Some app) own) ∙ n.no_own h.item there in cc)
      by (inr common) (inr n) = absurd (let t : true ≡ false = sym (passes None common.0) ∙ n.no_common h.item there in cc)
      by (inl own) (inl q) = made q (own_place q.how)
        where
          own_place : (is_command code class (Some app) q.command.head ≡ true) ⊎ ((is_command code class None q.command.head ≡ true) ×
              ((x : PlainDefinition) → IsIn x b.commands → is_command code class (Some app) x.head ≡ false)) → q.place ≡ h.place
          own_place (inl e) = one_place b q.place h.place q.command h.item code class (Some app) sound_b q.at h.at e (passes (Some app) own)
          own_place (inr e) = absurd (let t : true ≡ false = sym (passes (Some app) own) ∙ e.1 h.item there in cc)
      by (inr common) (inl q) = made q (common_place q.how)
        where
          common_place : (is_command code class (Some app) q.command.head ≡ true) ⊎ ((is_command code class None q.command.head ≡ true) ×
              ((x : PlainDefinition) → IsIn x b.commands → is_command code class (Some app) x.head ≡ false)) → q.place ≡ h.place
          common_place (inl e) = absurd (let t : true ≡ false = sym e ∙ none_back (Some app) common.1 q.command (in_at b.commands q.place q.command q.at) in cc)
          common_place (inr e) = one_place b q.place h.place q.command h.item code class None sound_b q.at h.at e.0 (passes None common.0)

-- ---- messages

module _ (a b : Dictionary) (sound_a : IsDictionary a) (sound_b : IsDictionary b) (same : IsSameDictionary a b) (u : Unknown) where
  unknown_same : (key : Key) → known a key ≡ None → known b key ≡ None
  unknown_same key none = by (known b key) refl
    where
      by : (o : Option DictEntry) → known b key ≡ o → known b key ≡ None
      by None is = is
      by (Some y) is = let h = known_same b a sound_b sound_a same.1 key y is in absurd (none-some h.entry (sym none ∙ h.is))

  fits_by : (InnerA InnerB : List DRule → List ℕ → Type 0) (v : PlainAvp) → ((rules others : List DRule) → AreSameRules rules others → InnerA rules v.bytes → InnerB others v.bytes)
      → FitsBy a u InnerA v → FitsBy b u InnerB v
  fits_by InnerA InnerB v inner h = by (known a (key_of v)) refl h
    where
      Own : DictEntry → Type 0
      Own e = MHolds e.rule v.flags × MatchOption e.group (IsLeaf e.format v.bytes) (λ group. InnerA group.rules v.bytes)

      Other : DictEntry → Type 0
      Other e = MHolds e.rule v.flags × MatchOption e.group (IsLeaf e.format v.bytes) (λ group. InnerB group.rules v.bytes)

      Holds : Option DictEntry → Type 0
      Holds o = MatchOption o (IsAccepted u v.flags) Other

      by : (o : Option DictEntry) → known a (key_of v) ≡ o → MatchOption o (IsAccepted u v.flags) Own → Holds (known b (key_of v))
      by None is h = subst Holds (sym (unknown_same (key_of v) is)) h
      by (Some x) is h =
          let e = known_same a b sound_a sound_b same.0 (key_of v) x is in
          let found : Other e.entry = (
            subst (λ (m : MRule). MHolds m v.flags) e.same.m_rule h.0,
            group_same InnerA InnerB x.format e.entry.format v.bytes inner e.same.format x.group e.entry.group e.groups e.same.rules h.1,
          ) in
          subst Holds (sym e.is) found

  fits : (n : ℕ) (v : PlainAvp) → Fits a u n v → Fits b u n v
  fits zero v h = fits_by (λ rules bytes. ⊥) (λ rules bytes. ⊥) v (λ rules others equal bad. bad) h
  fits (suc n) v h =
      fits_by (IsLevel (Fits a u n)) (IsLevel (Fits b u n)) v
      (λ rules others equal l. (l.0, l.1, placed_same rules others equal (map key_of l.0) l.2, all_map (Fits a u n) (Fits b u n) (λ w k. fits n w k) l.0 l.3)) h

  all_fit : (most : Levels) (avps : List PlainAvp) → AllFit a u most avps → AllFit b u most avps
  all_fit levels.Any avps h = (h.0, all_map (Fits a u h.0) (Fits b u h.0) (fits h.0) avps h.1)
  all_fit (levels.AtMost n) avps h = all_map (Fits a u n) (Fits b u n) (fits n) avps h

  valid_there : (most : Levels) (bytes : List ℕ) → IsValid a u most bytes → IsValid b u most bytes
  valid_there most bytes (c, m) = by (choose a m.header.code (class_of m.header.flags) m.header.app)
    where
      by : Choice a m.header.code (class_of m.header.flags) m.header.app ⊎ NoChoice a m.header.code (class_of m.header.flags) m.header.app → IsValid b u most bytes
      by (inr n) = absurd (none-some c (sym n.is_none ∙ m.select))
      by (inl r) =
          let number : c ≡ length (groups a) + r.place = same_Some c (length (groups a) + r.place) (sym m.select ∙ r.is_selected) in
          let one : r.command ≡ m.command = same_Some r.command m.command (sym r.at ∙ command_at a r.place c m.command number m.is_command) in
          let s = select_same a b sound_b same.0 same.1 m.header.code (class_of m.header.flags) m.header.app r in
          let equal : IsSameCommand m.command s.command = subst (λ (x : PlainDefinition). IsSameCommand x s.command) one s.same in (
            length (groups b) + s.place,
            record {
              header = m.header;
              avps = m.avps;
              command = s.command;
              message = m.message;
              no_error_request = m.no_error_request;
              no_repeated_answer = m.no_repeated_answer;
              select = s.is_selected;
              is_command = slice_get-append_right (groups b) b.commands s.place ∙ s.at;
              proxiable = subst (λ (head : DefHead). AllowsP head m.header.flags) equal.head m.proxiable;
              placed = placed_same m.command.rules s.command.rules equal.rules (map key_of m.avps) m.placed;
              fit = all_fit most m.avps m.fit;
            },
          )

pub same_messages : SameHaveSameMessages
same_messages a b sound_a sound_b same u most bytes = (valid_there a b sound_a sound_b same u most bytes, valid_there b a sound_b sound_a (same.1, same.0) u most bytes)
