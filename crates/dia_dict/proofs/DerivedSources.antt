-- What holds of a source in memory by its types holds of a source that the grammar derives.
use Rattle.std.proofs.Common.{◌≡◌, ℕ, zero, suc, true, false, List, [], ◌∷◌, Option, Some, None, ⊎_elim, refl, sym, ap, ◌∙◌, subst}
use Rattle.std.specs.Prelude.{slice_get, IsSome, IsTrue, not}
use Rattle.std.proofs.lemmas.Option.{none-some, same_Some}
use Rattle.dia_ccf.specs.declared.source.Head.{Head}
use Rattle.dia_ccf.specs.declared.source.Head.TheVariants.{Group, Command, Error}
use Rattle.dia_terms.specs.declared.RuleKind.{RuleKind}
use Rattle.dia_terms.specs.declared.RuleKind.TheVariants.{Fixed, Required, Optional}
use Rattle.dia_ccf.specs.Grammar.{Tokens, each, bracketed, rule, Item, Declaration, Definition, item, declared, item_group, item_command, group_of_head, command_of_head, source_of, Derives}
use Rattle.dia_terms.specs.Names.{is_name}
use Rattle.dia_ccf.specs.Names.{is_group, is_fixed}
use Rattle.dia_ccf.specs.Plain.{PlainSource, PlainDecl, PlainDef, PlainRule}
use Rattle.dia_ccf.specs.Tokens.{Token}
use Rattle.dia_ccf.proofs.WhatFollows.{fixed-in_order}
use Rattle.dia_dict.proofs.FaultlessSources.{IsFormed, all_defs}
use Rattle.dia_book.proofs.Members.{at_filter_map, at_append}

-- a member of a list whose tokens are derived is derived
each_at : {X : Type 0} (class : X → Tokens) (xs : List X) (ts : List Token) → each class xs ts → (k : ℕ) (x : X) → slice_get xs k ≡ Some x → (us : List Token) × class x us
each_at class [] ts derived k x at = absurd (none-some x at)
each_at class (y ∷ ys) ts (front, rest, parts, first, others) zero x at = (front, subst (λ z. class z front) (same_Some y x at) first)
each_at class (y ∷ ys) ts (front, rest, parts, first, others) (suc k) x at = each_at class ys rest others k x at

-- ---- headers in their lists

group_head : (head : Head) (d g : PlainDef) → d.head ≡ head → group_of_head head d ≡ Some g → (d ≡ g) × (is_group g.head ≡ true)
group_head (Group code vendor) d g is e = let same = same_Some d g e in (same, ap (λ (x : PlainDef). is_group x.head) (sym same) ∙ ap is_group is)
group_head (Command code request pxy app) d g is e = absurd (none-some g e)
group_head (Error pxy) d g is e = absurd (none-some g e)

command_head : (head : Head) (d c : PlainDef) → d.head ≡ head → command_of_head head d ≡ Some c → (d ≡ c) × (not (is_group c.head) ≡ true)
command_head (Group code vendor) d c is e = absurd (none-some c e)
command_head (Command code request pxy app) d c is e = let same = same_Some d c e in (same, ap (λ (x : PlainDef). not (is_group x.head)) (sym same) ∙ ap (λ (h : Head). not (is_group h)) is)
command_head (Error pxy) d c is e = let same = same_Some d c e in (same, ap (λ (x : PlainDef). not (is_group x.head)) (sym same) ∙ ap (λ (h : Head). not (is_group h)) is)

group_item : (x : Item) (g : PlainDef) → item_group x ≡ Some g → (x ≡ Definition g) × (is_group g.head ≡ true)
group_item (Declaration d) g e = absurd (none-some g e)
group_item (Definition d) g e = let r = group_head d.head d g refl e in (ap (λ (y : PlainDef). Definition y) r.0, r.1)

command_item : (x : Item) (c : PlainDef) → item_command x ≡ Some c → (x ≡ Definition c) × (not (is_group c.head) ≡ true)
command_item (Declaration d) c e = absurd (none-some c e)
command_item (Definition d) c e = let r = command_head d.head d c refl e in (ap (λ (y : PlainDef). Definition y) r.0, r.1)

-- ---- names

declared_item : (x : Item) (d : PlainDecl) → declared x ≡ Some d → x ≡ Declaration d
declared_item (Declaration c) d e = ap (λ (y : PlainDecl). Declaration y) (same_Some c d e)
declared_item (Definition c) d e = absurd (none-some d e)

declared_name : (d : PlainDecl) (us : List Token) → item (Declaration d) us → IsTrue (is_name d.name)
declared_name d us (a, b, c, declares, (e, f, g, named, others)) = named.0

defined_name : (d : PlainDef) (us : List Token) → item (Definition d) us → IsTrue (is_name d.name)
defined_name d us (first, (a, b, c, named, others)) = ⊎_elim (λ (e, f, g, less, (h, i, j, name, greater)). name.0) (λ name. name.0) named

-- ---- definitions of the text

module _ (items : List Item) (ts : List Token) (derived : each item items ts) where
  definition_derived : (k : ℕ) (x : Item) (d : PlainDef) → slice_get items k ≡ Some x → x ≡ Definition d → (us : List Token) × item (Definition d) us
  definition_derived k x d at is = let r = each_at item items ts derived k x at in (r.0, subst (λ (y : Item). item y r.0) is r.1)

  definition_at : (i : ℕ) (d : PlainDef) → slice_get (all_defs (source_of items)) i ≡ Some d → (us : List Token) × item (Definition d) us
  definition_at i d at =
      ⊎_elim
      (λ h. let x = at_filter_map item_group items i d h in definition_derived x.0 x.1 d x.2 (group_item x.1 d x.3).0)
      (λ h. let x = at_filter_map item_command items h.0 d h.2 in definition_derived x.0 x.1 d x.2 (command_item x.1 d x.3).0)
      (at_append (source_of items).groups (source_of items).commands i d at)

  -- the wildcard is no fixed rule
  bracketed_named : (kind : RuleKind) (name : Option (List ℕ)) (us : List Token) → bracketed kind name us → is_fixed kind ≡ true → IsSome name
  bracketed_named kind (Some name) us derived fixed = refl
  bracketed_named Fixed None us derived fixed = absurd derived
  bracketed_named Required None us derived fixed = absurd (let p : false ≡ true = fixed in cc)
  bracketed_named Optional None us derived fixed = absurd (let p : false ≡ true = fixed in cc)

  rules_derived : (d : PlainDef) (us : List Token) → item (Definition d) us → (vs : List Token) × each rule d.rules vs
  rules_derived d us (first, (a, b, c, named, (e, f, g, assign, (h, i, j, less, (k, l, m, head, (n, o, p, greater, rules)))))) = (o, rules)

  rule_named : (d : PlainDef) (us : List Token) → item (Definition d) us → (j : ℕ) (r : PlainRule) → slice_get d.rules j ≡ Some r → is_fixed r.kind ≡ true → IsSome r.name
  rule_named d us def j r at fixed =
      let all = rules_derived d us def in
      let one = each_at rule d.rules all.0 all.1 j r at in
      bracketed_named r.kind r.name one.1.1 one.1.4 fixed

  formed_items : IsFormed (source_of items)
  formed_items = record {
    declared_names = λ i d at. let x = at_filter_map declared items i d at in let r = each_at item items ts derived x.0 x.1 x.2 in
        declared_name d r.0 (subst (λ (y : Item). item y r.0) (declared_item x.1 d x.3) r.1);
    defined_names = λ i d at. let def = definition_at i d at in defined_name d def.0 def.1;
    groups = λ i g at. let x = at_filter_map item_group items i g at in (group_item x.1 g x.3).1;
    commands = λ i c at. let x = at_filter_map item_command items i c at in (command_item x.1 c x.3).1;
    ordered = λ i d at. fixed-in_order d.rules (definition_at i d at).1.0;
    named = λ i j d r at at' fixed. let def = definition_at i d at in rule_named d def.0 def.1 j r at' fixed;
  }

pub formed_derived : (ts : List Token) (s : PlainSource) → Derives ts s → IsFormed s
formed_derived ts s (items, derived, is) = subst IsFormed (sym is) (formed_items items ts derived)
