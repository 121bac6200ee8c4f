-- Dictionaries whose definitions have the same levels have the same valid messages.
use Rattle.std.proofs.Common.{◌≡◌, ℕ, zero, suc, ◌+◌, Bool, cond, not, List, [], ◌∷◌, ◌++◌, length, map, Option, Some, None, refl, sym, ap, subst, ◌∙◌, arith, inl, inr}
use Rattle.std.specs.Prelude.{◌⊎◌, ◌↔◌, nat_lt, option_and_then, position, slice_get, IsSome, MatchOption}
use Rattle.std.specs.List.{cons_option, filter_map, prefix_len, remove}
use Rattle.std.specs.Option.{option_map, option_map_or, option_or}
use Rattle.std.proofs.lemmas.Option.{same_Some}
use Rattle.dia_wire.specs.declared.Key.{Key}
use Rattle.dia_wire.specs.Wire.{PlainAvp, key_of}
use Rattle.dia_terms.specs.declared.Levels.{Levels}
use Rattle.dia_terms.specs.declared.Levels.TheVariants as levels
use Rattle.dia_terms.specs.declared.MRule.{MRule}
use Rattle.dia_terms.specs.declared.Unknown.{Unknown}
use Rattle.dia_data.specs.Leaf.{IsLeaf}
use Rattle.dia_data.specs.Plain.{PlainFormat}
use Rattle.dia_book.proofs.NumberedGroups.{slice_get-append_right}
use Rattle.dia_book.specs.Keys.{same_key}
use Rattle.dia_book.specs.declared.Class.{Class}
use Rattle.dia_book.specs.declared.DefHead.{DefHead}
use Rattle.dia_book.specs.declared.DRule.{DRule}
use Rattle.dia_book.specs.Dictionary.{Dictionary, DictEntry, IsDictionary, PlainDefinition, definitions, entry_of, groups, is_command, selected}
use Rattle.dia_valid.proofs.Entries.{group_definition}
use Rattle.dia_valid.proofs.Members.{all_map}
use Rattle.dia_valid.specs.Rules.{rules_in, wildcard_of}
use Rattle.dia_valid.specs.Valid.{AllFit, AllowsP, Fits, FitsBy, IsAccepted, IsLevel, IsValidOf, MHolds, Placed, known}
use Rattle.dia_lint.specs.OwnRules.{why_nothing}
use Rattle.dia_lint.specs.SameVerdicts.{AreSameGroups, HaveSameLevels, IsAsItWas, IsGroupAsItWas, IsSameEntry, IsWithout, PlacesSame}
use Rattle.dia_lint.proofs.JoinedRanges.{same_or}
use Rattle.dia_lint.proofs.RulesThatSayNothing.{says_nothing_law}

-- ---- lists side by side

abbrev pub Beside : {X : Type 0} → (X → X → Type 0) → List X → List X → Type 0
Beside R [] [] = Unit {0}
Beside R [] (y ∷ ys) = ⊥
Beside R (x ∷ xs) [] = ⊥
Beside R (x ∷ xs) (y ∷ ys) = R x y × Beside R xs ys

abbrev pub AreBoth : {X : Type 0} → (X → X → Type 0) → Option X → Option X → Type 0
AreBoth R None None = Unit {0}
AreBoth R None (Some y) = ⊥
AreBoth R (Some x) None = ⊥
AreBoth R (Some x) (Some y) = R x y

module _ {X : Type 0} (R : X → X → Type 0) where
  beside : (xs ys : List X) → length xs ≡ length ys → ((k : ℕ) (x y : X) → slice_get xs k ≡ Some x → slice_get ys k ≡ Some y → R x y) → Beside R xs ys
  beside [] [] e each = tt
  beside [] (y ∷ ys) e each = absurd (omega (arith, e))
  beside (x ∷ xs) [] e each = absurd (omega (arith, e))
  beside (x ∷ xs) (y ∷ ys) e each = (each 0 x y refl refl, beside xs ys (omega (arith, e)) (λ k a b p q. each (suc k) a b p q))

  beside_length : (xs ys : List X) → Beside R xs ys → length xs ≡ length ys
  beside_length [] [] b = refl
  beside_length [] (y ∷ ys) b = absurd b
  beside_length (x ∷ xs) [] b = absurd b
  beside_length (x ∷ xs) (y ∷ ys) b = ap (λ (n : ℕ). suc n) (beside_length xs ys b.1)

  beside_get : (xs ys : List X) → Beside R xs ys → (k : ℕ) → AreBoth R (slice_get xs k) (slice_get ys k)
  beside_get [] [] b k = tt
  beside_get [] (y ∷ ys) b k = absurd b
  beside_get (x ∷ xs) [] b k = absurd b
  beside_get (x ∷ xs) (y ∷ ys) b zero = b.0
  beside_get (x ∷ xs) (y ∷ ys) b (suc k) = beside_get xs ys b.1 k

  beside_at : (xs ys : List X) → Beside R xs ys → (k : ℕ) (x : X) → slice_get xs k ≡ Some x → (y : X) × (slice_get ys k ≡ Some y) × R x y
  beside_at xs ys b k x at = by (slice_get ys k) refl (subst (λ (o : Option X). AreBoth R o (slice_get ys k)) at (beside_get xs ys b k))
    where
      by : (o : Option X) → slice_get ys k ≡ o → AreBoth R (Some x) o → (y : X) × (slice_get ys k ≡ Some y) × R x y
      by None e r = absurd r
      by (Some y) e r = (y, e, r)

  beside_append : (xs ys us vs : List X) → Beside R xs ys → Beside R us vs → Beside R (xs ++ us) (ys ++ vs)
  beside_append [] [] us vs b c = c
  beside_append [] (y ∷ ys) us vs b c = absurd b
  beside_append (x ∷ xs) [] us vs b c = absurd b
  beside_append (x ∷ xs) (y ∷ ys) us vs b c = (b.0, beside_append xs ys us vs b.1 c)

  prefix_same : (p q : X → Bool) → ((x y : X) → R x y → p x ≡ q y) → (xs ys : List X) → Beside R xs ys → prefix_len p xs ≡ prefix_len q ys
  prefix_same p q same [] [] b = refl
  prefix_same p q same [] (y ∷ ys) b = absurd b
  prefix_same p q same (x ∷ xs) [] b = absurd b
  prefix_same p q same (x ∷ xs) (y ∷ ys) b =
      let here = same x y b.0 in
      let rest = prefix_same p q same xs ys b.1 in
      λ j. cond (here j) (1 + rest j) 0

  position_same : (p q : X → Bool) → ((x y : X) → R x y → p x ≡ q y) → (xs ys : List X) → Beside R xs ys → position p xs ≡ position q ys
  position_same p q same xs ys b =
      let first = prefix_same (λ x. not (p x)) (λ y. not (q y)) (λ x y r. ap (λ (t : Bool). not t) (same x y r)) xs ys b in
      let long = beside_length xs ys b in
      λ j. cond (nat_lt (first j) (long j)) (Some (first j)) None

beside_groups : (xs ys : List DictEntry) → Beside IsSameEntry xs ys → Beside PlacesSame (filter_map (λ e. e.group) xs) (filter_map (λ e. e.group) ys)
beside_groups [] [] b = tt
beside_groups [] (y ∷ ys) b = absurd b
beside_groups (x ∷ xs) [] b = absurd b
beside_groups (x ∷ xs) (y ∷ ys) b = by x.group y.group b.0.3 (beside_groups xs ys b.1)
  where
    by : (g h : Option PlainDefinition) → AreSameGroups g h → Beside PlacesSame (filter_map (λ e. e.group) xs) (filter_map (λ e. e.group) ys)
        → Beside PlacesSame (cons_option g (filter_map (λ e. e.group) xs)) (cons_option h (filter_map (λ e. e.group) ys))
    by None None s rest = rest
    by None (Some h) s rest = absurd s
    by (Some g) None s rest = absurd s
    by (Some g) (Some h) s rest = (s, rest)

-- ---- AVPs and messages

module _ (d e : Dictionary) (entries : Beside IsSameEntry d.entries e.entries) (commands : Beside PlacesSame d.commands e.commands) where
  known_same : (key : Key) → AreBoth IsSameEntry (known d key) (known e key)
  known_same key =
      let place = position_same IsSameEntry (λ x. same_key key x.key) (λ y. same_key key y.key) (λ x y r. ap (λ (k : Key). same_key key k) r.0) d.entries e.entries entries in
      subst (λ (o : Option ℕ). AreBoth IsSameEntry (known d key) (option_and_then (λ i. slice_get e.entries i) o)) place (at (entry_of d key))
    where
      at : (o : Option ℕ) → AreBoth IsSameEntry (option_and_then (λ i. slice_get d.entries i) o) (option_and_then (λ i. slice_get e.entries i) o)
      at None = tt
      at (Some i) = beside_get IsSameEntry d.entries e.entries entries i

  fits_by : (Inner Other : List DRule → List ℕ → Type 0) → ((g h : PlainDefinition) → PlacesSame g h → (bytes : List ℕ) → Inner g.rules bytes → Other h.rules bytes) → (u : Unknown) (v : PlainAvp)
      → FitsBy d u Inner v → FitsBy e u Other v
  fits_by Inner Other into u v fits = by (known d (key_of v)) (known e (key_of v)) (known_same (key_of v)) fits
    where
      group : (f f' : PlainFormat) → f ≡ f' → (g h : Option PlainDefinition) → AreSameGroups g h
          → MatchOption g (IsLeaf f v.bytes) (λ x. Inner x.rules v.bytes) → MatchOption h (IsLeaf f' v.bytes) (λ x. Other x.rules v.bytes)
      group f f' same None None s leaf = subst (λ (x : PlainFormat). IsLeaf x v.bytes) same leaf
      group f f' same None (Some h) s leaf = absurd s
      group f f' same (Some g) None s inner = absurd s
      group f f' same (Some g) (Some h) s inner = into g h s v.bytes inner

      by : (o p : Option DictEntry) → AreBoth IsSameEntry o p
          → MatchOption o (IsAccepted u v.flags) (λ x. MHolds x.rule v.flags × MatchOption x.group (IsLeaf x.format v.bytes) (λ g. Inner g.rules v.bytes))
          → MatchOption p (IsAccepted u v.flags) (λ x. MHolds x.rule v.flags × MatchOption x.group (IsLeaf x.format v.bytes) (λ g. Other g.rules v.bytes))
      by None None r accepted = accepted
      by None (Some y) r accepted = absurd r
      by (Some x) None r fits = absurd r
      by (Some x) (Some y) r fits = (subst (λ (m : MRule). MHolds m v.flags) r.2 fits.0, group x.format y.format r.1 x.group y.group r.3 fits.1)

  fits_same : (u : Unknown) (n : ℕ) (v : PlainAvp) → Fits d u n v → Fits e u n v
  fits_same u zero v fits = fits_by (λ rules bytes. ⊥) (λ rules bytes. ⊥) (λ g h s bytes none. none) u v fits
  fits_same u (suc n) v fits = fits_by (IsLevel (Fits d u n)) (IsLevel (Fits e u n))
      (λ g h s bytes (avps, spells, placed, all). (avps, spells, (s.1 (map key_of avps)).0 placed, all_map (Fits d u n) (Fits e u n) (fits_same u n) avps all)) u v fits

  all_fit_same : (u : Unknown) (most : Levels) (avps : List PlainAvp) → AllFit d u most avps → AllFit e u most avps
  all_fit_same u levels.Any avps (n, all) = (n, all_map (Fits d u n) (Fits e u n) (fits_same u n) avps all)
  all_fit_same u (levels.AtMost n) avps all = all_map (Fits d u n) (Fits e u n) (fits_same u n) avps all

  select_same : (code : ℕ) (class : Class) (app : ℕ) → selected d code class app ≡ selected e code class app
  select_same code class app =
      let number = beside_length PlacesSame (groups d) (groups e) (beside_groups d.entries e.entries entries) in
      let at = λ (named : Option ℕ). position_same PlacesSame (λ c. is_command code class named c.head) (λ c. is_command code class named c.head)
      (λ x y r. ap (λ (head : DefHead). is_command code class named head) r.0) d.commands e.commands commands in
      let own = at (Some app) in
      let common = at None in
      λ j. option_map (λ i. number j + i) (option_or (own j) (common j))

  valid_same : (u : Unknown) (most : Levels) (bytes : List ℕ) (c : ℕ) → IsValidOf d u most bytes c → IsValidOf e u most bytes c
  valid_same u most bytes c v =
      let both = beside_append PlacesSame (groups d) (groups e) d.commands e.commands (beside_groups d.entries e.entries entries) commands in
      let (h, there, s) = beside_at PlacesSame (definitions d) (definitions e) both c v.command v.is_command in
      record {
        header = v.header;
        avps = v.avps;
        command = h;
        message = v.message;
        no_error_request = v.no_error_request;
        no_repeated_answer = v.no_repeated_answer;
        select = sym (select_same v.header.code _ v.header.app) ∙ v.select;
        is_command = there;
        proxiable = subst (λ (head : DefHead). AllowsP head v.header.flags) s.0 v.proxiable;
        placed = (s.1 (map key_of v.avps)).0 v.placed;
        fit = all_fit_same u most v.avps v.fit;
      }

-- ---- both ways

places_back : (g h : PlainDefinition) → PlacesSame g h → PlacesSame h g
places_back g h s = (sym s.0, λ keys. ((s.1 keys).1, (s.1 keys).0))

groups_back : (g h : Option PlainDefinition) → AreSameGroups g h → AreSameGroups h g
groups_back None None s = tt
groups_back None (Some h) s = absurd s
groups_back (Some g) None s = absurd s
groups_back (Some g) (Some h) s = places_back g h s

levels_back : (d e : Dictionary) → HaveSameLevels d e → HaveSameLevels e d
levels_back d e same = record {
  as_many_entries = sym same.as_many_entries;
  entries = λ k y x at_y at_x. let r = same.entries k x y at_x at_y in (sym r.0, sym r.1, sym r.2, groups_back x.group y.group r.3);
  as_many_commands = sym same.as_many_commands;
  commands = λ k h g at_h at_g. places_back g h (same.commands k g h at_g at_h);
}

valid_too : (d e : Dictionary) → HaveSameLevels d e → (u : Unknown) (most : Levels) (bytes : List ℕ) (c : ℕ) → IsValidOf d u most bytes c → IsValidOf e u most bytes c
valid_too d e same = valid_same d e (beside IsSameEntry d.entries e.entries same.as_many_entries same.entries) (beside PlacesSame d.commands e.commands same.as_many_commands same.commands)

pub same_messages : (d e : Dictionary) → HaveSameLevels d e → (u : Unknown) (most : Levels) (bytes : List ℕ) (c : ℕ) → IsValidOf d u most bytes c ↔ IsValidOf e u most bytes c
same_messages d e same u most bytes c = (valid_too d e same u most bytes c, valid_too e d (levels_back d e same) u most bytes c)

-- ---- without a rule that says nothing

module _ (d e : Dictionary) (def i : ℕ) (r : DRule) (is : IsDictionary d) (rule_at : slice_get (rules_in d def) i ≡ Some r) (why : IsSome (why_nothing (wildcard_of (rules_in d def)) r)) where
  places_without : (n : ℕ) (g h : PlainDefinition) → slice_get (definitions d) n ≡ Some g → IsAsItWas def i n g h → PlacesSame g h
  places_without n g h at was = (was.0, by (same_or n def))
    where
      by : (n ≡ def) ⊎ (n ≡ def → ⊥) → (keys : List Key) → Placed g.rules keys ↔ Placed h.rules keys
      by (inr other) keys = let same = was.2 other in (λ p. subst (λ (rules : List DRule). Placed rules keys) (sym same) p, λ p. subst (λ (rules : List DRule). Placed rules keys) same p)
      by (inl here) keys =
          let own : rules_in d def ≡ g.rules = ap (λ (o : Option PlainDefinition). option_map_or (λ x. x.rules) o []) (ap (slice_get (definitions d)) (sym here) ∙ at) in
          let law = subst (λ (rules : List DRule). Placed (remove rules i) keys ↔ Placed rules keys) own (says_nothing_law d def i r is rule_at why keys) in
          let same = was.1 here in (
            λ p. subst (λ (rules : List DRule). Placed rules keys) (sym same) (law.1 p),
            λ p. law.0 (subst (λ (rules : List DRule). Placed rules keys) same p),
          )

  group_without : (k : ℕ) (x : DictEntry) → slice_get d.entries k ≡ Some x → (g h : Option PlainDefinition) → x.group ≡ g → IsGroupAsItWas d def i k g h → AreSameGroups g h
  group_without k x at None h of was = subst (AreSameGroups None) (sym was) tt
  group_without k x at (Some g) h of (n, own, place, is_own, was) =
      let (f, is_f, there) = group_definition d k x at n (sym place) in
      let same : f ≡ g = same_Some f g (sym is_f ∙ of) in
      subst (AreSameGroups (Some g)) (sym is_own) (places_without n g own (there ∙ ap (λ (y : PlainDefinition). Some y) same) was)

  levels_without : IsWithout d def i e → HaveSameLevels d e
  levels_without w = record {
    as_many_entries = w.as_many_entries;
    entries = λ k x y at_x at_y. let s = w.entries k x y at_x at_y in (s.0, s.1, s.2, group_without k x at_x x.group y.group refl s.3);
    as_many_commands = w.as_many_commands;
    commands = λ k g h at_g at_h. places_without (length (groups d) + k) g h (slice_get-append_right (groups d) d.commands k ∙ at_g) (w.commands k g h at_g at_h);
  }

pub messages_without : (d e : Dictionary) (def i : ℕ) (r : DRule) → IsDictionary d → slice_get (rules_in d def) i ≡ Some r → IsSome (why_nothing (wildcard_of (rules_in d def)) r) → IsWithout d def i e
    → (u : Unknown) (most : Levels) (bytes : List ℕ) (c : ℕ) → IsValidOf d u most bytes c ↔ IsValidOf e u most bytes c
messages_without d e def i r is at why without = same_messages d e (levels_without d e def i r is at why without)
