-- What the grammar derives, the machine reads.
use Rattle.std.proofs.Common.{◌≡◌, ℕ, Bool, true, false, cond, List, [], ◌∷◌, ◌++◌, length, map, Option, Some, None, refl, sym, ap, ◌∙◌, append_assoc, arith, inl, inr, ◌⊎◌, ⊎_elim}
use Rattle.std.specs.Prelude.{codes, ◌&&◌, not, nat_le}
use Rattle.std.specs.List.{list_all}
use Rattle.std.proofs.lemmas.List.{append-nil}
use Rattle.dia_terms.specs.declared.FormatName.{FormatName}
use Rattle.dia_terms.specs.declared.FormatName.TheVariants as format
use Rattle.dia_ccf.specs.declared.source.Head.{Head}
use Rattle.dia_terms.specs.declared.RuleKind.{RuleKind}
use Rattle.dia_terms.specs.declared.RuleKind.TheVariants.{Fixed, Required, Optional}
use Rattle.dia_ccf.specs.declared.source.Qual.{Qual}
use Rattle.dia_ccf.specs.Names.{is_name, is_name_run, is_fixed, same_bytes}
use Rattle.dia_ccf.specs.Plain.{PlainDecl, PlainRule, PlainDef, PlainSource}
use Rattle.dia_ccf.specs.Tokens.{Token, Less, Greater, Open_brace, Open_bracket, Open_parenthesis, Close_parenthesis, Star, Assign, Declares, Name}
use Rattle.dia_ccf.specs.Grammar.{Tokens, ◌then◌, one, name, number, each, either, nothing, range, values}
use Rattle.dia_ccf.specs.Grammar.{head, count, qualifier, slot, bracketed, rule, Item, Declaration, Definition, item, Derives}
use Rattle.dia_ccf.specs.Limits.{max_number}
use Rattle.dia_ccf.specs.Machine.{State, Between, Decl_values, In_values, Def_name, Def_close}
use Rattle.dia_ccf.specs.Machine.{Def_assign, Head_open, In_head, Head_word, Rules, Qual_min, Qual_star, Qual_done, Fixed_name, Fixed_close, Angle_name, Angle_close, After_angle, Loose_name}
use Rattle.dia_ccf.specs.Machine.{Loose_close, next, add_decl, add_def, with_rule, fixed_rule, all_fixed, closing_sign, same_sign}
use Rattle.dia_ccf.specs.Machine.{Reads, outcome}
use Rattle.dia_ccf.specs.ReaderFunctions.{nothing_read, begins_with}
use Rattle.dia_ccf.proofs.TokenTests.{both}
use Rattle.dia_ccf.proofs.WhatFollows.{after, add_item, after-source, in_order, with_rules, fixed-in_order}
use Rattle.dia_ccf.proofs.MachineRuns.{take_one, outcome_same, number_at-some, name_at-some}
use Rattle.dia_ccf.proofs.HeadCompleteness.{Taken, taken_then, taken_one, taken_nothing, taken_number, head_taken}
use Rattle.dia_ccf.proofs.DeclarationCompleteness.{ahead_not, and_false, taken_name, values_taken, unlisted, decl_taken, decl_settled}

-- ---- rules

no_fixed : (xs ys : List PlainRule) (r : PlainRule) → list_all (λ j. not (is_fixed j)) (map (λ r. r.kind) (xs ++ r ∷ ys)) ≡ true → is_fixed r.kind ≡ false
no_fixed [] ys r h = by_test (is_fixed r.kind) (both (not (is_fixed r.kind)) (list_all (λ j. not (is_fixed j)) (map (λ r. r.kind) ys)) h).0
  where
    by_test : (b : Bool) → not b ≡ true → b ≡ false
    by_test true e = absurd cc
    by_test false e = refl
no_fixed (x ∷ xs) ys r h = no_fixed xs ys r (both (not (is_fixed x.kind)) (list_all (λ j. not (is_fixed j)) (map (λ r. r.kind) (xs ++ r ∷ ys))) h).1

order_step : (x r : PlainRule) (xs ys : List PlainRule) (b : Bool) → cond b (in_order (xs ++ r ∷ ys)) (list_all (λ j. not (is_fixed j)) (map (λ r. r.kind) (xs ++ r ∷ ys))) ≡ true
    → is_fixed r.kind ≡ true → (in_order (xs ++ r ∷ ys) ≡ true → all_fixed xs ≡ true) → (b && all_fixed xs) ≡ true
order_step x r xs ys true h k before = before h
order_step x r xs ys false h k before = absurd (let never = no_fixed xs ys r h in cc)

order_fixed : (xs ys : List PlainRule) (r : PlainRule) → in_order (xs ++ r ∷ ys) ≡ true → is_fixed r.kind ≡ true → all_fixed xs ≡ true
order_fixed [] ys r h k = refl
order_fixed (x ∷ xs) ys r h k = order_step x r xs ys (is_fixed x.kind) h k (λ e. order_fixed xs ys r e k)

-- what is done after `< name >` where no definition begins
pub angle_settled : (done : PlainSource) (d : PlainDef) (n : List ℕ) (us : List Token) → all_fixed d.rules ≡ true → begins_with (same_sign Assign) us ≡ false
    → outcome (done, After_angle d n) us ≡ outcome (done, Rules (with_rule d (fixed_rule n None))) us
angle_settled done d n us fixed h =
    outcome_same (done, After_angle d n) (done, Rules (with_rule d (fixed_rule n None))) us
    (λ t vs e. (rw (ahead_not (same_sign Assign) t vs us h e, fixed) refl, rw fixed refl))
    (λ e. rw fixed refl)

name_is_free : (text : List ℕ) → is_name text ≡ true → same_bytes text (codes "AVP") ≡ false
name_is_free text h = by_test (same_bytes text (codes "AVP")) (both (is_name_run text && nat_le (length text) 128) (not (same_bytes text (codes "AVP"))) h).1
  where
    by_test : (b : Bool) → not b ≡ true → b ≡ false
    by_test true e = absurd cc
    by_test false e = refl

slot_taken : (done : PlainSource) (d : PlainDef) (kind : RuleKind) (qual : Option Qual) (text : Option (List ℕ))
    → Taken (slot text) (done, Loose_name d kind qual) (done, Loose_close d (record { kind = kind; name = text; qual = qual }))
slot_taken done d kind qual None = taken_one (Name (codes "AVP")) (done, Loose_name d kind qual) (done, Loose_close d (record { kind = kind; name = None; qual = qual })) refl
slot_taken done d kind qual (Some text) = taken_name text (done, Loose_name d kind qual) (
  done,
  Loose_close d (record { kind = kind; name = Some text; qual = qual }),
) (λ named. rw (name_at-some text named, name_is_free text named) refl)

-- a rule that is not fixed, from its bracket on
loose_taken : (done : PlainSource) (d : PlainDef) (kind : RuleKind) (qual : Option Qual) (text : Option (List ℕ)) (opener : Token) (p : State) → next p opener ≡ Some (done, Loose_name d kind qual)
    → Taken (one opener then slot text then one (closing_sign kind)) p (done, Rules (with_rule d (record { kind = kind; name = text; qual = qual })))
loose_taken done d kind qual text opener p h =
    taken_then (one opener) (slot text then one (closing_sign kind)) p (done, Loose_name d kind qual) (done, Rules (with_rule d (record { kind = kind; name = text; qual = qual })))
    (taken_one opener p (done, Loose_name d kind qual) h)
    (taken_then (slot text) (one (closing_sign kind)) (done, Loose_name d kind qual) (done, Loose_close d (record { kind = kind; name = text; qual = qual })) (
      done,
      Rules (with_rule d (record { kind = kind; name = text; qual = qual })),
    )
    (slot_taken done d kind qual text)
    (taken_one (closing_sign kind) (done, Loose_close d (record { kind = kind; name = text; qual = qual })) (
      done,
      Rules (with_rule d (record { kind = kind; name = text; qual = qual })),
    ) (closes kind)))
  where
    closes : (k : RuleKind) → next (done, Loose_close d (record { kind = k; name = text; qual = qual })) (closing_sign k)
        ≡ Some (done, Rules (with_rule d (record { kind = k; name = text; qual = qual })))
    closes Fixed = refl
    closes Required = refl
    closes Optional = refl

-- `< name >` after a qualifier
fixed_taken : (done : PlainSource) (d : PlainDef) (qual : Qual) (text : List ℕ) → all_fixed d.rules ≡ true
    → Taken (one Less then name text then one Greater) (done, Qual_done d qual) (done, Rules (with_rule d (fixed_rule text (Some qual))))
fixed_taken done d qual text fixed =
    taken_then (one Less) (name text then one Greater) (done, Qual_done d qual) (done, Fixed_name d qual) (done, Rules (with_rule d (fixed_rule text (Some qual))))
    (taken_one Less (done, Qual_done d qual) (done, Fixed_name d qual) (rw fixed refl))
    (taken_then (name text) (one Greater) (done, Fixed_name d qual) (done, Fixed_close d qual text) (done, Rules (with_rule d (fixed_rule text (Some qual))))
    (taken_name text (done, Fixed_name d qual) (done, Fixed_close d qual text) (λ named. rw named refl))
    (taken_one Greater (done, Fixed_close d qual text) (done, Rules (with_rule d (fixed_rule text (Some qual)))) refl))

angle_taken : (done : PlainSource) (d : PlainDef) (text : List ℕ) → Taken (one Less then name text then one Greater) (done, Rules d) (done, After_angle d text)
angle_taken done d text =
    taken_then (one Less) (name text then one Greater) (done, Rules d) (done, Angle_name d) (done, After_angle d text)
    (taken_one Less (done, Rules d) (done, Angle_name d) refl)
    (taken_then (name text) (one Greater) (done, Angle_name d) (done, Angle_close d text) (done, After_angle d text)
    (taken_name text (done, Angle_name d) (done, Angle_close d text) (λ named. rw named refl))
    (taken_one Greater (done, Angle_close d text) (done, After_angle d text) refl))

-- after a qualifier
bracket_taken : (done : PlainSource) (d : PlainDef) (kind : RuleKind) (qual : Qual) (text : Option (List ℕ)) → (kind ≡ Fixed → all_fixed d.rules ≡ true)
    → Taken (bracketed kind text) (done, Qual_done d qual) (done, Rules (with_rule d (record { kind = kind; name = text; qual = Some qual })))
bracket_taken done d Fixed qual (Some text) fixed = fixed_taken done d qual text (fixed refl)
bracket_taken done d Fixed qual None fixed = λ front us h. absurd h
bracket_taken done d Required qual text fixed = loose_taken done d Required (Some qual) text Open_brace (done, Qual_done d qual) (rw (and_false (all_fixed d.rules)) refl)
bracket_taken done d Optional qual text fixed = loose_taken done d Optional (Some qual) text Open_bracket (done, Qual_done d qual) (rw (and_false (all_fixed d.rules)) refl)

-- a bracket after the star alone
star_settled : (done : PlainSource) (d : PlainDef) (min : Option ℕ) (kind : RuleKind) (text : Option (List ℕ)) (front us : List Token) → bracketed kind text front
    → outcome (done, Qual_star d min) (front ++ us) ≡ outcome (done, Qual_done d (record { min = min; max = None })) (front ++ us)
star_settled done d min Fixed (Some text) front us (xs, ys, parts, first, k) = rw (parts, first) refl
star_settled done d min Fixed None front us h = absurd h
star_settled done d min Required text front us (xs, ys, parts, first, k) = rw (parts, first) refl
star_settled done d min Optional text front us (xs, ys, parts, first, k) = rw (parts, first) refl

min_taken : (done : PlainSource) (d : PlainDef) (min : Option ℕ) → Taken (count min then one Star) (done, Rules d) (done, Qual_star d min)
min_taken done d None = taken_then nothing (one Star) (done, Rules d) (done, Rules d) (done, Qual_star d None)
    (taken_nothing (done, Rules d)) (taken_one Star (done, Rules d) (done, Qual_star d None) refl)
min_taken done d (Some n) =
    taken_then (number max_number n) (one Star) (done, Rules d) (done, Qual_min d n) (done, Qual_star d (Some n))
    (taken_number max_number n (done, Rules d) (done, Qual_min d n) (λ small. rw (number_at-some 0 max_number n (omega arith) small) refl))
    (taken_one Star (done, Qual_min d n) (done, Qual_star d (Some n)) refl)

max_taken : (done : PlainSource) (d : PlainDef) (min max : Option ℕ) (kind : RuleKind) (text : Option (List ℕ)) → (kind ≡ Fixed → all_fixed d.rules ≡ true)
    → Taken (count max then bracketed kind text) (done, Qual_star d min) (done, Rules (with_rule d (record { kind = kind; name = text; qual = Some (record { min = min; max = max }) })))
max_taken done d min None kind text fixed front us (xs, ys, parts, first, k) =
    ap (λ (f : List Token). outcome (done, Qual_star d min) (f ++ us)) (parts ∙ ap (λ (f : List Token). f ++ ys) first)
    ∙ star_settled done d min kind text ys us k
    ∙ bracket_taken done d kind (record { min = min; max = None }) text fixed ys us k
max_taken done d min (Some n) kind text fixed front us h =
    taken_then (number max_number n) (bracketed kind text) (done, Qual_star d min) (done, Qual_done d (record { min = min; max = Some n })) (
      done,
      Rules (with_rule d (record { kind = kind; name = text; qual = Some (record { min = min; max = Some n }) })),
    )
    (taken_number max_number n (done, Qual_star d min) (done, Qual_done d (record { min = min; max = Some n })) (λ small. rw (number_at-some 0 max_number n (omega arith) small) refl))
    (bracket_taken done d kind (record { min = min; max = Some n }) text fixed)
    front us h

rule_taken : (done : PlainSource) (d : PlainDef) (kind : RuleKind) (text : Option (List ℕ)) (qual : Option Qual) (front us : List Token)
    → (qualifier qual then bracketed kind text) front → (kind ≡ Fixed → all_fixed d.rules ≡ true) → begins_with (same_sign Assign) us ≡ false
    → outcome (done, Rules d) (front ++ us) ≡ outcome (done, Rules (with_rule d (record { kind = kind; name = text; qual = qual }))) us
rule_taken done d Fixed (Some text) None front us (xs, ys, parts, first, k) fixed free =
    ap (λ (f : List Token). outcome (done, Rules d) (f ++ us)) (parts ∙ ap (λ (f : List Token). f ++ ys) first) ∙ angle_taken done d text ys us k ∙ angle_settled done d text us (fixed refl) free
rule_taken done d Fixed None None front us (xs, ys, parts, first, k) fixed free = absurd k
rule_taken done d Required text None front us (xs, ys, parts, first, k) fixed free =
    ap (λ (f : List Token). outcome (done, Rules d) (f ++ us)) (parts ∙ ap (λ (f : List Token). f ++ ys) first) ∙ loose_taken done d Required None text Open_brace (done, Rules d) refl ys us k
rule_taken done d Optional text None front us (xs, ys, parts, first, k) fixed free =
    ap (λ (f : List Token). outcome (done, Rules d) (f ++ us)) (parts ∙ ap (λ (f : List Token). f ++ ys) first) ∙ loose_taken done d Optional None text Open_bracket (done, Rules d) refl ys us k
rule_taken done d kind text (Some q) front us (xs, ys, parts, (as2, bs, inner, low, (cs, ds, more, star, high)), k) fixed free =
    taken_then (count q.min then one Star) (count q.max then bracketed kind text) (done, Rules d) (
      done,
      Qual_star d q.min,
    ) (done, Rules (with_rule d (record { kind = kind; name = text; qual = Some q })))
    (min_taken done d q.min)
    (max_taken done d q.min q.max kind text fixed)
    front us (
      as2 ++ cs,
      ds ++ ys,
      parts ∙ ap (λ (f : List Token). f ++ ys) (inner ∙ ap (λ (f : List Token). as2 ++ f) more ∙ sym (append_assoc as2 cs ds)) ∙ append_assoc (as2 ++ cs) ds ys,
      (as2, cs, refl, low, star),
      (ds, ys, refl, high, k),
    )

-- no rule begins with `::=`
rule_ahead : (r : PlainRule) (front us : List Token) → rule r front → begins_with (same_sign Assign) (front ++ us) ≡ false
rule_ahead r front us (xs, ys, parts, first, k) = by_qualifier r.qual r.kind r.name first k
  where
    by_qualifier : (qual : Option Qual) (kind : RuleKind) (text : Option (List ℕ)) → qualifier qual xs → bracketed kind text ys → begins_with (same_sign Assign) (front ++ us) ≡ false
    by_qualifier None Fixed (Some text) h (cs, ds, inner, first, l) = rw (parts, h, inner, first) refl
    by_qualifier None Fixed None h l = absurd l
    by_qualifier None Required text h (cs, ds, inner, first, l) = rw (parts, h, inner, first) refl
    by_qualifier None Optional text h (cs, ds, inner, first, l) = rw (parts, h, inner, first) refl
    by_qualifier (Some q) kind text (cs, ds, inner, low, (es, fs, more, star, high)) l = by_count q.min low
      where
        by_count : (min : Option ℕ) → count min cs → begins_with (same_sign Assign) (front ++ us) ≡ false
        by_count None h = rw (parts, inner, h, more, star) refl
        by_count (Some n) (small, h) = rw (parts, inner, h) refl

rules_ahead : (rs : List PlainRule) (front us : List Token) → each rule rs front → begins_with (same_sign Assign) us ≡ false → begins_with (same_sign Assign) (front ++ us) ≡ false
rules_ahead [] front us h free = rw h free
rules_ahead (r ∷ rs) front us (xs, ys, parts, h, k) free = rw (parts, append_assoc xs ys us) (rule_ahead r xs (ys ++ us) h)

rules_taken : (done : PlainSource) (rs : List PlainRule) (d : PlainDef) (front us : List Token) → each rule rs front → in_order (d.rules ++ rs) ≡ true → begins_with (same_sign Assign) us ≡ false
    → outcome (done, Rules d) (front ++ us) ≡ outcome (done, Rules (with_rules d (d.rules ++ rs))) us
rules_taken done [] d front us h ordered free =
    ap (λ (f : List Token). outcome (done, Rules d) (f ++ us)) h ∙ ap (λ (rules : List PlainRule). outcome (done, Rules (with_rules d rules)) us) (sym (append-nil d.rules))
rules_taken done (r ∷ rs) d front us (xs, ys, parts, h, k) ordered free =
    ap (λ (f : List Token). outcome (done, Rules d) (f ++ us)) parts
    ∙ ap (outcome (done, Rules d)) (append_assoc xs ys us)
    ∙ rule_taken done d r.kind r.name r.qual xs (ys ++ us) h (λ fixed. order_fixed d.rules rs r ordered (rw fixed refl)) (rules_ahead rs ys us k free)
    ∙ rules_taken done rs (with_rule d r) ys us k (rw append_assoc ordered) free
    ∙ ap (λ (rules : List PlainRule). outcome (done, Rules (with_rules d rules)) us) (append_assoc d.rules (r ∷ []) rs)

-- ---- items

-- what a definition begins with
abbrev naming : List ℕ → Tokens
naming text = either (one Less then name text then one Greater) (name text)

item_ahead : (i : Item) (front us : List Token) (test : Token → Bool) → item i front → test Declares ≡ false
    → test Less ≡ false → ((n : List ℕ) → test (Name n) ≡ false) → begins_with test (front ++ us) ≡ false
item_ahead (Declaration d) front us test (xs, ys, parts, first, k) a b c = rw (parts, first) a
item_ahead (Definition d) front us test (ordered, (xs, ys, parts, first, k)) a b c =
    ⊎_elim (λ (cs, ds, inner, less, l). rw (parts, inner, less) b) (λ (named, is). rw (parts, is) (c d.name)) first

pub items_ahead : (items : List Item) (us : List Token) (test : Token → Bool) → each item items us → test Declares ≡ false
    → test Less ≡ false → ((n : List ℕ) → test (Name n) ≡ false) → begins_with test us ≡ false
items_ahead [] us test h a b c = rw h refl
items_ahead (i ∷ items) us test (xs, ys, parts, h, k) a b c = rw parts (item_ahead i xs ys test h a b c)

-- a definition from its `::=` on
definition_taken : (done : PlainSource) (text : List ℕ) (h : Head) (rs : List PlainRule) (front us : List Token)
    → (one Assign then one Less then head h then one Greater then each rule rs) front → in_order rs ≡ true → begins_with (same_sign Assign) us ≡ false
    → outcome (done, Def_assign text) (front ++ us) ≡ outcome (done, Rules (record { name = text; head = h; rules = rs })) us
definition_taken done text h rs front us (xs, ys, parts, assign, (cs, ds, inner, less, (es, fs, more, of_head, (gs, rest, last, greater, of_rules)))) ordered free =
    ap (λ (f : List Token). outcome (done, Def_assign text) (f ++ us)) (parts ∙ ap (λ (f : List Token). f ++ ys) assign
    ∙ ap (λ (f : List Token). Assign ∷ f) (inner ∙ ap (λ (f : List Token). f ++ ds) less
    ∙ ap (λ (f : List Token). Less ∷ f) (more ∙ ap (λ (f : List Token). es ++ f) last ∙ sym (append_assoc es gs rest))))
    ∙ take_one (done, Def_assign text) Assign (done, Head_open text) (Less ∷ (((es ++ gs) ++ rest) ++ us)) refl
    ∙ take_one (done, Head_open text) Less (done, In_head text Head_word) (((es ++ gs) ++ rest) ++ us) refl
    ∙ ap (outcome (done, In_head text Head_word)) (append_assoc (es ++ gs) rest us)
    ∙ head_taken done text h (es ++ gs) (rest ++ us) (es, gs, refl, of_head, greater)
    ∙ rules_taken done rs (record { name = text; head = h; rules = [] }) rest us of_rules ordered free

named_taken : (done : PlainSource) (text : List ℕ) → Taken (naming text) (done, Between) (done, Def_assign text)
named_taken done text front us h =
    ⊎_elim (λ k. taken_then (one Less) (name text then one Greater) (done, Between) (done, Def_name) (done, Def_assign text)
    (taken_one Less (done, Between) (done, Def_name) refl)
    (taken_then (name text) (one Greater) (done, Def_name) (done, Def_close text) (done, Def_assign text)
    (taken_name text (done, Def_name) (done, Def_close text) (λ named. rw named refl))
    (taken_one Greater (done, Def_close text) (done, Def_assign text) refl)) front us k)
    (λ k. taken_name text (done, Between) (done, Def_assign text) (λ named. rw named refl) front us k) h

-- after a definition an item begins as it does between items
after_bare : (done : PlainSource) (d : PlainDef) (text : List ℕ) (us : List Token) → outcome (done, Rules d) (Name text ∷ us) ≡ outcome (add_def done d, Between) (Name text ∷ us)
after_bare done d text us = refl

after_angle : (done : PlainSource) (d : PlainDef) (text : List ℕ) (us : List Token) → is_name text ≡ true
    → outcome (done, Rules d) (Less ∷ Name text ∷ Greater ∷ Assign ∷ us) ≡ outcome (add_def done d, Between) (Less ∷ Name text ∷ Greater ∷ Assign ∷ us)
after_angle done d text us named =
    take_one (done, Rules d) Less (done, Angle_name d) (Name text ∷ Greater ∷ Assign ∷ us) refl
    ∙ take_one (done, Angle_name d) (Name text) (done, Angle_close d text) (Greater ∷ Assign ∷ us) (rw named refl)
    ∙ take_one (done, Angle_close d text) Greater (done, After_angle d text) (Assign ∷ us) refl
    ∙ take_one (done, After_angle d text) Assign (add_def done d, Head_open text) us refl
    ∙ sym (take_one (add_def done d, Between) Less (add_def done d, Def_name) (Name text ∷ Greater ∷ Assign ∷ us) refl
    ∙ take_one (add_def done d, Def_name) (Name text) (add_def done d, Def_close text) (Greater ∷ Assign ∷ us) (rw named refl)
    ∙ take_one (add_def done d, Def_close text) Greater (add_def done d, Def_assign text) (Assign ∷ us) refl
    ∙ take_one (add_def done d, Def_assign text) Assign (add_def done d, Head_open text) us refl)

item_settled : (done : PlainSource) (d : PlainDef) (i : Item) (front us : List Token) → item i front → outcome (done, Rules d) (front ++ us) ≡ outcome (add_def done d, Between) (front ++ us)
item_settled done d (Declaration e) front us (xs, ys, parts, first, k) = rw (parts, first) refl
item_settled done d (Definition e) front us (ordered, (xs, ys, parts, first, (cs, ds, inner, assign, k))) =
    ⊎_elim (λ (es, fs, more, less, (gs, hs, last, (named, is), greater)). rw (parts, inner, more, less, last, is, greater, assign) (after_angle done d e.name (ds ++ us) named))
    (λ (named, is). rw (parts, is) (after_bare done d e.name (ys ++ us))) first

items_settled : (done : PlainSource) (d : PlainDef) (items : List Item) (us : List Token) → each item items us → outcome (done, Rules d) us ≡ outcome (add_def done d, Between) us
items_settled done d [] us h = rw h refl
items_settled done d (i ∷ items) us (xs, ys, parts, h, k) = rw parts (item_settled done d i xs ys h)

-- the list of a declaration, or none
list_cases : (f : FormatName) (vs : Option (List (ℕ × ℕ))) (front : List Token) → values f vs front
    → ((vs ≡ None) × (front ≡ []))
    ⊎ ((f ≡ format.Enumerated) × ((r : ℕ × ℕ) × (rs : List (ℕ × ℕ)) × (vs ≡ Some (r ∷ rs)) × (one Open_parenthesis then each range (r ∷ rs) then one Close_parenthesis) front))
list_cases f None front h = inl (refl, h)
list_cases format.Enumerated (Some (r ∷ rs)) front h = inr (refl, (r, rs, refl, h))
list_cases format.Enumerated (Some []) front h = absurd h
list_cases f (Some rs) front h = absurd h

with_list : (d : PlainDecl) (vs : Option (List (ℕ × ℕ))) → d.values ≡ vs → record d { values = vs } ≡ d
with_list d vs e = ap (λ (o : Option (List (ℕ × ℕ))). record d { values = o }) (sym e)

list_taken : (done : PlainSource) (d : PlainDecl) (front us : List Token) → values d.format d.values front → begins_with (same_sign Open_parenthesis) us ≡ false
    → outcome (done, Decl_values (unlisted d)) (front ++ us) ≡ outcome (add_decl done d, Between) us
list_taken done d front us h free =
    ⊎_elim (λ (e, is).
    ap (λ (f : List Token). outcome (done, Decl_values (unlisted d)) (f ++ us)) is
    ∙ decl_settled done (unlisted d) us free
    ∙ ap (λ (x : PlainDecl). outcome (add_decl done x, Between) us) (with_list d None e))
    (λ (listed, (r, rs, e, (xs, ys, parts, opened, (ws, zs, inner, of_ranges, closed)))).
    ap (λ (f : List Token). outcome (done, Decl_values (unlisted d)) (f ++ us)) (parts ∙ ap (λ (f : List Token). f ++ ys) opened
    ∙ ap (λ (f : List Token). Open_parenthesis ∷ f) (inner ∙ ap (λ (f : List Token). ws ++ f) closed))
    ∙ take_one (done, Decl_values (unlisted d)) Open_parenthesis (done, In_values (unlisted d) []) ((ws ++ Close_parenthesis ∷ []) ++ us) (rw listed refl)
    ∙ ap (outcome (done, In_values (unlisted d) [])) (append_assoc ws (Close_parenthesis ∷ []) us)
    ∙ values_taken done (unlisted d) (r ∷ rs) [] ws us of_ranges refl
    ∙ ap (λ (x : PlainDecl). outcome (add_decl done x, Between) us) (with_list d (Some (r ∷ rs)) e))
    (list_cases d.format d.values front h)

-- one item, with what is ahead of it
item_taken : (done : PlainSource) (i : Item) (items : List Item) (front us : List Token) → item i front
    → each item items us → outcome (done, Between) (front ++ us) ≡ outcome (add_item done i, Between) us
item_taken done (Declaration d) items front us h k =
    decl_taken done d us (add_decl done d, Between) (λ list l. list_taken done d list us l (items_ahead items us (same_sign Open_parenthesis) k refl refl (λ n. refl))) front h
item_taken done (Definition d) items front us (ordered, (xs, ys, parts, first, rest)) k =
    ap (λ (f : List Token). outcome (done, Between) (f ++ us)) parts
    ∙ ap (outcome (done, Between)) (append_assoc xs ys us)
    ∙ named_taken done d.name xs (ys ++ us) first
    ∙ definition_taken done d.name d.head d.rules ys us rest (fixed-in_order d.rules ordered) (items_ahead items us (same_sign Assign) k refl refl (λ n. refl))
    ∙ items_settled done d items us k

items_taken : (items : List Item) (done : PlainSource) (ts : List Token) → each item items ts → outcome (done, Between) ts ≡ Reads (after done items)
items_taken [] done ts h = rw h refl
items_taken (i ∷ items) done ts (xs, ys, parts, h, k) = ap (outcome (done, Between)) parts ∙ item_taken done i items xs ys h k ∙ items_taken items (add_item done i) ys k

-- what is derived, the machine reads
pub complete : (ts : List Token) (s : PlainSource) → Derives ts s → outcome (nothing_read, Between) ts ≡ Reads s
complete ts s (items, h, is) = items_taken items nothing_read ts h ∙ ap Reads (after-source items ∙ sym is)

same_read : (a b : PlainSource) → Reads a ≡ Reads b → a ≡ b
same_read a b h = cc

-- no tokens are derived for two sources
pub one_source : (ts : List Token) (a b : PlainSource) → Derives ts a → Derives ts b → a ≡ b
one_source ts a b h k = same_read a b (sym (complete ts a h) ∙ complete ts b k)
