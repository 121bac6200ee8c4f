-- The command for no application beside one for an application, and the findings as they are added.
use Rattle.std.proofs.Common.{◌≡◌, ℕ, suc, ◌+◌, Bool, true, false, List, [], ◌++◌, length, Option, Some, None, refl, sym, ap, subst, ◌∙◌, arith, inl, inr}
use Rattle.std.specs.Prelude.{◌⊎◌, ◌↔◌, if◌then◌else◌, option_and_then, option_to_list, slice_get, IfSome}
use Rattle.std.specs.Option.{option_map, option_map_or}
use Rattle.std.proofs.lemmas.Option.{none-some, same_Some}
use Rattle.dia_book.specs.declared.Class.{Class}
use Rattle.dia_book.specs.declared.Class.TheVariants as classes
use Rattle.dia_book.specs.declared.DefHead.{DefHead}
use Rattle.dia_book.specs.declared.DefHead.TheVariants.{Group, Command, Error}
use Rattle.dia_book.specs.declared.DRule.{DRule}
use Rattle.dia_book.specs.declared.Pxy.{Pxy}
use Rattle.dia_book.specs.declared.Pxy.TheVariants.{Clear, Set, Either}
use Rattle.dia_book.specs.Dictionary.{AreRules, Dictionary, DictEntry, PlainDefinition, IsCommandHead, IsDictionary, IsSameSelector, definitions, groups, is_command}
use Rattle.dia_book.proofs.Members.{at_append, at_filter_map, into_right}
use Rattle.dia_valid.specs.Rules.{rules_in}
use Rattle.dia_valid.proofs.Members.{all_of, at_some, in_at}
use Rattle.dia_valid.proofs.Searches.{Found, NotFound, found_or_not}
use Rattle.dia_valid.proofs.SelectedCommands.{Reads, is_of_code, reads}
use Rattle.dia_lint.specs.declared.finding.Finding.{Finding}
use Rattle.dia_lint.specs.declared.rule.Rule.TheVariants as rule
use Rattle.dia_lint.specs.Exact.{AreOf}
use Rattle.dia_lint.specs.LevelParts.{AreAlike}
use Rattle.dia_lint.specs.Pairs.{general, same_p}
use Rattle.dia_lint.specs.SameCommands.{AreBeside, AreSameCommands, IsSameAs, SamePlaces, beside, beside_head, head_of, is_general, same_finding}
use Rattle.dia_lint.proofs.SamePartsOfRules.{alike_exactly}
use Rattle.dia_lint.proofs.TwiceFindings.{one_more_of}

p_same : (a b : Pxy) → same_p a b ≡ true → a ≡ b
p_same Clear Clear h = refl
p_same Set Set h = refl
p_same Either Either h = refl
p_same a b h = absurd (let e : false ≡ true = h in cc)

same_p_self : (a : Pxy) → same_p a a ≡ true
same_p_self Clear = refl
same_p_self Set = refl
same_p_self Either = refl

one_if : (b : Bool) (n m : ℕ) → (if b then Some n else None) ≡ Some m → (b ≡ true) × (n ≡ m)
one_if true n m e = (refl, same_Some n m e)
one_if false n m e = absurd (none-some m e)

module _ (d : Dictionary) (is : IsDictionary d) where
  -- a definition with the head of a command is a command
  command_there : (n code : ℕ) (class : Class) (app : Option ℕ) (p : Pxy) → head_of d n ≡ Some (Command code class app p)
      → (j : ℕ) × (x : PlainDefinition) × (slice_get d.commands j ≡ Some x) × (n ≡ length (groups d) + j) × (x.head ≡ Command code class app p)
  command_there n code class app p e = by (slice_get (definitions d) n) refl
    where
      there : (x : PlainDefinition) → x.head ≡ Command code class app p → (slice_get (groups d) n ≡ Some x) ⊎ ((j : ℕ) × (n ≡ length (groups d) + j) × (slice_get d.commands j ≡ Some x))
          → (j : ℕ) × (x : PlainDefinition) × (slice_get d.commands j ≡ Some x) × (n ≡ length (groups d) + j) × (x.head ≡ Command code class app p)
      there x head (inl at) =
          let (k, entry, here, own) = at_filter_map (λ (y : DictEntry). y.group) d.entries n x at in
          let all = all_of (λ (y : DictEntry). IfSome y.group (λ (z : PlainDefinition). (z.name ≡ y.name) × (z.head ≡ Group y.key))) d.entries entry is.group_heads (in_at d.entries k entry here) in
          let group : x.head ≡ Group entry.key = (at_some (λ (z : PlainDefinition). (z.name ≡ entry.name) × (z.head ≡ Group entry.key)) entry.group x all own).1 in
          absurd (let f : Group entry.key ≡ Command code class app p = sym group ∙ head in cc)
      there x head (inr (j, number, at)) = (j, x, at, number, head)

      by : (o : Option PlainDefinition) → slice_get (definitions d) n ≡ o
          → (j : ℕ) × (x : PlainDefinition) × (slice_get d.commands j ≡ Some x) × (n ≡ length (groups d) + j) × (x.head ≡ Command code class app p)
      by None at = absurd (none-some (Command code class app p) (sym (ap (option_map (λ (x : PlainDefinition). x.head)) at) ∙ e))
      by (Some x) at =
          let head : x.head ≡ Command code class app p = same_Some x.head (Command code class app p) (sym (ap (option_map (λ (y : PlainDefinition). y.head)) at) ∙ e) in
          there x head (at_append (groups d) d.commands n x at)

  -- ---- what is found is beside

  general_to : (code : ℕ) (class : Class) (p : Pxy) (n : ℕ) → general d code class ≡ Some n → option_map_or (is_general p) (head_of d n) false ≡ true
      → head_of d n ≡ Some (Command code class None p)
  general_to code class p n e test = by (found_or_not common d.commands)
    where
      common : PlainDefinition → Bool
      common c = is_command code class None c.head

      number : Option ℕ → Option ℕ
      number = option_map (λ i. length (groups d) + i)

      by : Found common d.commands ⊎ NotFound common d.commands → head_of d n ≡ Some (Command code class None p)
      by (inr none) = absurd (none-some n (sym (ap number none.is_none) ∙ e))
      by (inl f) = which (reads d f.item code class None is (in_at d.commands f.place f.item f.at) f.passes)
        where
          place : n ≡ length (groups d) + f.place
          place = sym (same_Some (length (groups d) + f.place) n (sym (ap number f.is_place) ∙ e))

          head : head_of d n ≡ Some f.item.head
          head = ap (λ (k : ℕ). head_of d k) place ∙ ap (option_map (λ (x : PlainDefinition). x.head)) (into_right (groups d) d.commands f.place f.item f.at)

          passes : (h : DefHead) → f.item.head ≡ h → is_general p h ≡ true
          passes h own = ap (is_general p) (sym own) ∙ sym (ap (λ (o : Option DefHead). option_map_or (is_general p) o false) head) ∙ test

          which : Reads f.item code class None → head_of d n ≡ Some (Command code class None p)
          which (inl ((q, own), class_is)) = absurd (let x : false ≡ true = passes (Error q) own in cc)
          which (inr (h, other)) =
              let same : h.p ≡ p = p_same h.p p (passes (Command code class None h.p) h.head) in
              head ∙ ap (λ (x : DefHead). Some x) (h.head ∙ ap (λ (q : Pxy). Command code class None q) same)

  beside_to : (def other : ℕ) → beside d def ≡ Some other → AreBeside d def other
  beside_to def other e = by (head_of d def) refl
    where
      general_by : (code : ℕ) (class : Class) (app : ℕ) (p : Pxy) → head_of d def ≡ Some (Command code class (Some app) p) → (o : Option ℕ) → general d code class ≡ o
          → option_and_then (λ n. if option_map_or (is_general p) (head_of d n) false then Some n else None) o ≡ Some other → AreBeside d def other
      general_by code class app p own None is_none h = absurd (none-some other h)
      general_by code class app p own (Some n) is_some h =
          let (test, same) = one_if (option_map_or (is_general p) (head_of d n) false) n other h in
          record { code = code; class = class; app = app; p = p; own = own; general = ap (λ (k : ℕ). head_of d k) (sym same) ∙ general_to code class p n is_some test }

      by_head : (h : DefHead) → head_of d def ≡ Some h → beside_head d h ≡ Some other → AreBeside d def other
      by_head (Group key) own h = absurd (none-some other h)
      by_head (Command code class None p) own h = absurd (none-some other h)
      by_head (Command code class (Some app) p) own h = general_by code class app p own (general d code class) refl h
      by_head (Error p) own h = absurd (none-some other h)

      by : (o : Option DefHead) → head_of d def ≡ o → AreBeside d def other
      by None own = absurd (none-some other (sym (ap (option_and_then (beside_head d)) own) ∙ e))
      by (Some h) own = by_head h own (sym (ap (option_and_then (beside_head d)) own) ∙ e)

  -- ---- what is beside is found

  general_from : (code : ℕ) (class : Class) (p : Pxy) (n : ℕ) → head_of d n ≡ Some (Command code class None p) → general d code class ≡ Some n
  general_from code class p n head = by (command_there n code class None p head) (found_or_not common d.commands)
    where
      common : PlainDefinition → Bool
      common c = is_command code class None c.head

      by : (j : ℕ) × (x : PlainDefinition) × (slice_get d.commands j ≡ Some x) × (n ≡ length (groups d) + j) × (x.head ≡ Command code class None p)
          → Found common d.commands ⊎ NotFound common d.commands → general d code class ≡ Some n
      by (j, x, at, number, own) (inr none) =
          let passes : common x ≡ true = is_of_code x code class None (record { p = p; head = own }) in
          absurd (let e : true ≡ false = sym passes ∙ none.none x (in_at d.commands j x at) in cc)
      by (j, x, at, number, own) (inl f) = which (reads d f.item code class None is (in_at d.commands f.place f.item f.at) f.passes)
        where
          no_error : class ≡ classes.Error → ⊥
          no_error = subst IsCommandHead own (all_of (λ (c : PlainDefinition). IsCommandHead c.head) d.commands x is.command_heads (in_at d.commands j x at))

          which : Reads f.item code class None → general d code class ≡ Some n
          which (inl (error, class_is)) = absurd (no_error class_is)
          which (inr (h, other)) =
              let alike : IsSameSelector (Command code class None h.p) (Command code class None p) = (refl, refl, refl) in
              let same : IsSameSelector f.item.head x.head =
              subst (λ (k : DefHead). IsSameSelector k x.head) (sym h.head) (subst (λ (k : DefHead). IsSameSelector (Command code class None h.p) k) (sym own) alike) in
              let place : f.place ≡ j = is.distinct_selectors f.place j f.item x f.at at same in
              ap (option_map (λ i. length (groups d) + i)) f.is_place ∙ ap (λ (i : ℕ). Some (length (groups d) + i)) place ∙ ap (λ (k : ℕ). Some k) (sym number)

  beside_from : (def other : ℕ) → AreBeside d def other → beside d def ≡ Some other
  beside_from def other b =
      let test : option_map_or (is_general b.p) (head_of d other) false ≡ true = ap (λ (o : Option DefHead). option_map_or (is_general b.p) o false) b.general ∙ same_p_self b.p in
      ap (option_and_then (beside_head d)) b.own
      ∙ ap (option_and_then (λ (n : ℕ). if option_map_or (is_general b.p) (head_of d n) false then Some n else None)) (general_from b.code b.class b.p other b.general)
      ∙ ap (λ (t : Bool). if t then Some other else None) test

  -- ---- a command

  pub none_beside : (def : ℕ) → beside d def ≡ None → IsSameAs d def None
  none_beside def none = λ other. (λ e. absurd (none-some other e), λ h. absurd (none-some other (sym none ∙ beside_from def other h.0)))

  rules_are : (n : ℕ) (h : DefHead) → head_of d n ≡ Some h → AreRules (rules_in d n)
  rules_are n h e = by (slice_get (definitions d) n) refl
    where
      by : (o : Option PlainDefinition) → slice_get (definitions d) n ≡ o → AreRules (rules_in d n)
      by None at = absurd (none-some h (sym (ap (option_map (λ (x : PlainDefinition). x.head)) at) ∙ e))
      by (Some x) at =
          subst AreRules (sym (ap (λ (o : Option PlainDefinition). option_map_or (λ (y : PlainDefinition). y.rules) o []) at))
          (all_of (λ (y : PlainDefinition). AreRules y.rules) (definitions d) x is.rules (in_at (definitions d) n x at))

  -- commands beside each other have the same normal form exactly if they place the same
  places_alike : (def other : ℕ) → AreBeside d def other → AreAlike (rules_in d def) (rules_in d other) ↔ SamePlaces (rules_in d def) (rules_in d other)
  places_alike def other b =
      alike_exactly (rules_in d def) (rules_in d other) (rules_are def (Command b.code b.class (Some b.app) b.p) b.own) (rules_are other (Command b.code b.class None b.p) b.general)

  module _ (def n : ℕ) (own theirs : List DRule) (found : beside d def ≡ Some n) (own_is : own ≡ rules_in d def) (theirs_is : theirs ≡ rules_in d n) where
    pub alike_beside : AreAlike own theirs → IsSameAs d def (Some n)
    alike_beside alike = λ other. (
      λ e. let same : n ≡ other = same_Some n other e in
          let both = beside_to def other (found ∙ e) in
          (both, (places_alike def other both).0 (subst (λ (p : List DRule × List DRule). AreAlike p.0 p.1) (λ i. (own_is i, (theirs_is ∙ ap (rules_in d) same) i)) alike)),
      λ h. sym found ∙ beside_from def other h.0,
    )

    pub unlike_beside : (AreAlike own theirs → ⊥) → IsSameAs d def None
    unlike_beside unlike = λ other. (
      λ e. absurd (none-some other e),
      λ h. let same : other ≡ n = same_Some other n (sym (beside_from def other h.0) ∙ found) in
          let alike = (places_alike def other h.0).1 h.1 in
          absurd (unlike (subst (λ (p : List DRule × List DRule). AreAlike p.0 p.1) (λ i. (sym own_is i, (ap (rules_in d) same ∙ sym theirs_is) i)) alike)),
    )

-- ---- one command more

of_same : (def : ℕ) (other : Option ℕ) → IfSome (same_finding def other) (λ (x : Finding). x.rule ≡ rule.SameCommand)
of_same def None = tt
of_same def (Some n) = refl

pub command_more : (d : Dictionary) (n def : ℕ) (other : Option ℕ) (one : Option Finding) (old new : List Finding) → def ≡ length (groups d) + n → IsSameAs d def other → one ≡ same_finding def other
    → new ≡ old ++ option_to_list one
    → AreOf rule.SameCommand old × AreSameCommands d n old → AreOf rule.SameCommand new × AreSameCommands d (n + 1) new
command_more d n def other one old new number same is added are = (
  subst (AreOf rule.SameCommand) (sym added) (one_more_of rule.SameCommand old one are.0
      (subst (λ (o : Option Finding). IfSome o (λ (x : Finding). x.rule ≡ rule.SameCommand)) (sym is) (of_same def other))),
  subst (λ (k : ℕ). AreSameCommands d k new) (let e : suc n ≡ n + 1 = omega arith in e) (
    old,
    other,
    are.1,
    subst (λ (k : ℕ). IsSameAs d k other) number same,
    added ∙ ap (λ (o : Option Finding). old ++ option_to_list o) (is ∙ ap (λ (k : ℕ). same_finding k other) number),
  ),
)
