-- What may follow each place of the machine, and what is derived one part earlier.
use Rattle.std.proofs.Common.{◌≡◌, ℕ, ◌≤◌, true, false, List, [], ◌∷◌, ◌++◌, Option, Some, None, refl, sym, ap, subst, ◌∙◌, append_assoc, inl, inr, ⊎_elim}
use Rattle.std.specs.Prelude.{IfSome, codes, ◌&&◌, not, ⊤}
use Rattle.std.specs.Option.{option_map}
use Rattle.dia_ccf.specs.declared.source.Head.{Head}
use Rattle.dia_terms.specs.declared.RuleKind.{RuleKind}
use Rattle.dia_terms.specs.declared.RuleKind.TheVariants.{Fixed, Required, Optional}
use Rattle.dia_ccf.specs.declared.source.Qual.{Qual}
use Rattle.dia_ccf.specs.Names.{is_name, is_fixed}
use Rattle.dia_ccf.specs.Plain.{PlainDecl, PlainRule, PlainDef, PlainSource}
use Rattle.dia_ccf.specs.Tokens.{Token, Less, Greater, Open_brace, Close_brace, Open_bracket, Close_bracket, Close_parenthesis, Star, Dots, Assign, Declares, Number, Name}
use Rattle.dia_ccf.specs.Grammar.{Tokens, ◌then◌, one, name, either, vendor, count, qualifier, slot, bracketed, rule, definition, Definition}
use Rattle.dia_terms.specs.Formats.{format_word}
use Rattle.dia_ccf.specs.Limits.{max_number, max_value}
use Rattle.dia_ccf.specs.Machine.{State, Place, Between, Decl_name, Decl_code, Decl_vendor, Decl_number, Decl_format, Decl_rule, Decl_values, In_values, After_value, After_dots, Def_name, Def_close}
use Rattle.dia_ccf.specs.Machine.{Def_assign, Head_open, In_head, HeadPlace, Head_word, Rules, Qual_min, Qual_star, Qual_done, Fixed_name, Fixed_close, Angle_name, Angle_close, After_angle}
use Rattle.dia_ccf.specs.Machine.{Loose_name, Loose_close, whole, on_item, on_values, on_loose, on_bracket, on_star, on_qualifier, on_rules, begins_qualifier, begins_loose}
use Rattle.dia_ccf.specs.Machine.{add_decl, add_def, with_values, with_rule, fixed_rule, all_fixed, is_none, closing_sign, same_sign, is_number}
use Rattle.dia_ccf.specs.Machine.{sign_at, number_at, name_at}
use Rattle.dia_ccf.proofs.TokenTests.{slot_tokens, Is_slot, both, chosen, mapped, some_is, same_sign-is, sign_at-is, name_at-is, number_at-is}
use Rattle.dia_ccf.proofs.WhatFollows.{Ends, ends_more, decl_front, Sound_decl, Values_follow}
use Rattle.dia_ccf.proofs.WhatFollows.{values_closed, Rules_follow, rules_end, rule_made, in_order-fixed, still_fixed, still_loose}
use Rattle.dia_ccf.proofs.WhatFollowsInHeads.{head_rest}

-- ---- definitions

pub record Head_follows (done s : PlainSource) (text : List ℕ) (at : HeadPlace) (ts : List Token) : Type 0 where
  pub head : Head
  pub front : List Token
  pub rest : List Token
  pub parts : ts ≡ front ++ Greater ∷ rest
  pub heads : head_rest at head front
  pub rules : Rules_follow done s (record { name = text; head = head; rules = [] }) rest

pub record Open_follows (done s : PlainSource) (text : List ℕ) (ts : List Token) : Type 0 where
  pub rest : List Token
  pub parts : ts ≡ Less ∷ rest
  pub heads : Head_follows done s text Head_word rest

pub record Assign_follows (done s : PlainSource) (text : List ℕ) (ts : List Token) : Type 0 where
  pub rest : List Token
  pub parts : ts ≡ Assign ∷ rest
  pub opens : Open_follows done s text rest

pub record Close_follows (done s : PlainSource) (text : List ℕ) (ts : List Token) : Type 0 where
  pub rest : List Token
  pub parts : ts ≡ Greater ∷ rest
  pub assigns : Assign_follows done s text rest

pub record Name_follows (done s : PlainSource) (ts : List Token) : Type 0 where
  pub text : List ℕ
  pub rest : List Token
  pub parts : ts ≡ Name text ∷ rest
  pub named : is_name text ≡ true
  pub closes : Close_follows done s text rest

-- a definition after the tokens of its name
abbrev named_by : List ℕ → Tokens
named_by text = either (one Less then name text then one Greater) (name text)

def_tokens : (front rf er hs ls ts : List Token) → hs ++ Greater ∷ ls ≡ ts → ls ≡ rf ++ er → front ++ Assign ∷ Less ∷ ts ≡ (front ++ Assign ∷ Less ∷ (hs ++ Greater ∷ rf)) ++ er
def_tokens front rf er hs ls ts e k =
    ap (λ (f : List Token). front ++ Assign ∷ Less ∷ f) (sym e ∙ ap (λ (f : List Token). hs ++ Greater ∷ f) k ∙ sym (append_assoc hs (Greater ∷ rf) er))
    ∙ sym (append_assoc front (Assign ∷ Less ∷ (hs ++ Greater ∷ rf)) er)

def_made : (done s : PlainSource) (text : List ℕ) (front ts : List Token) → named_by text front → Assign_follows done s text ts → Ends done s (front ++ ts)
def_made done s text front ts of_name a =
    let o = a.opens in
    let h = o.heads in
    let k = h.rules refl in
    let k2 = k.2 in
    let class : definition (record { name = text; head = h.head; rules = k.0 }) (front ++ Assign ∷ Less ∷ (h.front ++ Greater ∷ k2.0)) = (
      in_order-fixed k.0 k.1,
      (
        front,
        Assign ∷ Less ∷ (h.front ++ Greater ∷ k2.0),
        refl,
        of_name,
        (
          Assign ∷ [],
          Less ∷ (h.front ++ Greater ∷ k2.0),
          refl,
          refl,
          (
            Less ∷ [],
            h.front ++ Greater ∷ k2.0,
            refl,
            refl,
            (
              h.front,
              Greater ∷ k2.0,
              refl,
              h.heads,
              (Greater ∷ [], k2.0, refl, refl, k2.3),
            ),
          ),
        ),
      ),
    ) in
    let whole = ends_more done s (Definition (record { name = text; head = h.head; rules = k.0 })) (front ++ Assign ∷ Less ∷ (h.front ++ Greater ∷ k2.0)) k2.1 class k2.4 in
    subst (Ends done s) (sym (ap (λ (f : List Token). front ++ f) (a.parts ∙ ap (λ (f : List Token). Assign ∷ f) o.parts) ∙ def_tokens front k2.0 k2.1 h.front h.rest o.rest (sym h.parts) k2.2)) whole

pub angle_made : (done s : PlainSource) (ts : List Token) → Name_follows done s ts → Ends done s (Less ∷ ts)
angle_made done s ts n =
    let c = n.closes in
    subst (λ (f : List Token). Ends done s (Less ∷ f)) (sym (n.parts ∙ ap (λ (f : List Token). Name n.text ∷ f) c.parts))
    (def_made done s n.text (Less ∷ Name n.text ∷ Greater ∷ []) c.rest
    (inl (Less ∷ [], Name n.text ∷ Greater ∷ [], refl, refl, (Name n.text ∷ [], Greater ∷ [], refl, (n.named, refl), refl))) c.assigns)

bare_made : (done s : PlainSource) (text : List ℕ) (ts : List Token) → is_name text ≡ true → Assign_follows done s text ts → Ends done s (Name text ∷ ts)
bare_made done s text ts named a = def_made done s text (Name text ∷ []) ts (inr (named, refl)) a

-- ---- what may follow a place

-- a count is in its range
abbrev Small_count : Option ℕ → Type 0
Small_count n = IfSome n (λ k. k ≤ max_number)

abbrev count_tokens : Option ℕ → List Token
count_tokens None = []
count_tokens (Some n) = Number n ∷ []

abbrev pub qual_tokens : Option Qual → List Token
qual_tokens None = []
qual_tokens (Some q) = count_tokens q.min ++ Star ∷ count_tokens q.max

abbrev Small_qual : Option Qual → Type 0
Small_qual None = ⊤
Small_qual (Some q) = Small_count q.min × Small_count q.max

abbrev pub open_sign : RuleKind → Token
open_sign Fixed = Less
open_sign Required = Open_brace
open_sign Optional = Open_bracket

abbrev pub Follows : PlainSource → Place → PlainSource → Tokens
Follows done Between s ts = Ends done s ts
Follows done Decl_name s ts = Ends done s (Declares ∷ ts)
Follows done (Decl_code n) s ts = is_name n ≡ true → Ends done s (Declares ∷ Name n ∷ ts)
Follows done (Decl_vendor n c) s ts = is_name n ≡ true → c ≤ max_number → Ends done s (Declares ∷ Name n ∷ Number c ∷ ts)
Follows done (Decl_number n c) s ts = is_name n ≡ true → c ≤ max_number → Ends done s (Declares ∷ Name n ∷ Number c ∷ Name (codes "vendor") ∷ ts)
Follows done (Decl_format n c v) s ts = is_name n ≡ true → c ≤ max_number → v ≤ max_number → Ends done s (Declares ∷ Name n ∷ Number c ∷ Name (codes "vendor") ∷ Number v ∷ ts)
Follows done (Decl_rule n c v f) s ts = is_name n ≡ true → c ≤ max_number → (vs : List Token) → vendor v vs → Ends done s (Declares ∷ Name n ∷ Number c ∷ (vs ++ Name (format_word f) ∷ ts))
Follows done (Decl_values d) s ts = Sound_decl d → (vs : List Token) → vendor d.vendor vs → Ends done s (decl_front d vs ts)
Follows done (In_values d ranges) s ts = Values_follow done s d ranges ts
Follows done (After_value d ranges n) s ts = n ≤ max_value → Values_follow done s d ranges (Number n ∷ ts)
Follows done (After_dots d ranges low) s ts = low ≤ max_value → Values_follow done s d ranges (Number low ∷ Dots ∷ ts)
Follows done Def_name s ts = Name_follows done s ts
Follows done (Def_close n) s ts = Close_follows done s n ts
Follows done (Def_assign n) s ts = Assign_follows done s n ts
Follows done (Head_open n) s ts = Open_follows done s n ts
Follows done (In_head n at) s ts = Head_follows done s n at ts
Follows done (Rules d) s ts = Rules_follow done s d ts
Follows done (Qual_min d n) s ts = n ≤ max_number → Rules_follow done s d (Number n ∷ ts)
Follows done (Qual_star d min) s ts = Small_count min → Rules_follow done s d (count_tokens min ++ Star ∷ ts)
Follows done (Qual_done d q) s ts = Small_qual (Some q) → Rules_follow done s d (qual_tokens (Some q) ++ ts)
Follows done (Fixed_name d q) s ts = Small_qual (Some q) → all_fixed d.rules ≡ true → Rules_follow done s d (qual_tokens (Some q) ++ Less ∷ ts)
Follows done (Fixed_close d q n) s ts = Small_qual (Some q) → all_fixed d.rules ≡ true → is_name n ≡ true → Rules_follow done s d (qual_tokens (Some q) ++ Less ∷ Name n ∷ ts)
Follows done (Angle_name d) s ts = Rules_follow done s d (Less ∷ ts)
Follows done (Angle_close d n) s ts = is_name n ≡ true → Rules_follow done s d (Less ∷ Name n ∷ ts)
Follows done (After_angle d n) s ts = is_name n ≡ true → Rules_follow done s d (Less ∷ Name n ∷ Greater ∷ ts)
Follows done (Loose_name d kind q) s ts = Small_qual q → is_fixed kind ≡ false → Rules_follow done s d (qual_tokens q ++ open_sign kind ∷ ts)
Follows done (Loose_close d r) s ts = Small_qual r.qual → is_fixed r.kind ≡ false → Is_slot r.name → Rules_follow done s d (qual_tokens r.qual ++ open_sign r.kind ∷ (slot_tokens r.name ++ ts))

abbrev pub Follows_state : State → PlainSource → Tokens
Follows_state state s ts = Follows state.0 state.1 s ts

-- from what follows q to what follows an equal state
pub moved : (p q : State) (s : PlainSource) (ts : List Token) → p ≡ q → Follows_state q s ts → Follows_state p s ts
moved p q s ts e f = subst (λ (r : State). Follows_state r s ts) (sym e) f

-- ---- steps back

pub item_back : (done s : PlainSource) (t : Token) (q : State) (ts : List Token) → on_item done t ≡ Some q → Follows_state q s ts → Ends done s (t ∷ ts)
item_back done s t q ts h f =
    ⊎_elim (λ (e, k). subst (λ (u : Token). Ends done s (u ∷ ts)) (same_sign-is Declares t e) (moved (done, Decl_name) q s ts (some_is (done, Decl_name) q k) f))
    (λ (e, k). ⊎_elim (λ (e2, k2). subst (λ (u : Token). Ends done s (u ∷ ts)) (same_sign-is Less t e2) (angle_made done s ts (moved (done, Def_name) q s ts (some_is (done, Def_name) q k2) f)))
    (λ (e2, k2). (let m = mapped (λ n. (done, Def_assign n)) (name_at t) q k2 in
    let n = name_at-is t m.0 m.1 in
    subst (λ (u : Token). Ends done s (u ∷ ts)) (sym n.0) (bare_made done s m.0 ts n.1 (moved (done, Def_assign m.0) q s ts m.2 f))))
    (chosen (same_sign Less t) (Some (done, Def_name)) (option_map (λ n. (done, Def_assign n)) (name_at t)) (Some q) k))
    (chosen (same_sign Declares t) (Some (done, Decl_name)) _ (Some q) h)

nonempty : {X : Type 0} (xs : List X) → not (is_none xs) ≡ true → (x : X) × (rest : List X) × (xs ≡ x ∷ rest)
nonempty [] h = absurd cc
nonempty (x ∷ xs) h = (x, xs, refl)

pub values_back : (done s : PlainSource) (d : PlainDecl) (ranges : List (ℕ × ℕ)) (t : Token) (q : State) (ts : List Token)
    → on_values done d ranges t ≡ Some q → Follows_state q s ts → Values_follow done s d ranges (t ∷ ts)
values_back done s d ranges t q ts h f =
    ⊎_elim (λ (e, k). (let b = both (not (is_none ranges)) (same_sign Close_parenthesis t) e in
    let r = nonempty ranges b.0 in
    subst (λ (u : Token). Values_follow done s d ranges (u ∷ ts)) (same_sign-is Close_parenthesis t b.1)
    (values_closed done s d ranges r.0 r.1 ts r.2 (moved (add_decl done (with_values d ranges), Between) q s ts (some_is (add_decl done (with_values d ranges), Between) q k) f))))
    (λ (e, k). (let m = mapped (λ n. (done, After_value d ranges n)) (number_at 0 max_value t) q k in
    let n = number_at-is 0 max_value t m.0 m.1 in
    subst (λ (u : Token). Values_follow done s d ranges (u ∷ ts)) (sym n.0) (moved (done, After_value d ranges m.0) q s ts m.2 f n.2)))
    (chosen (not (is_none ranges) && same_sign Close_parenthesis t) (Some (add_decl done (with_values d ranges), Between))
    (option_map (λ n. (done, After_value d ranges n)) (number_at 0 max_value t)) (Some q) h)

loose_back : (done s : PlainSource) (d : PlainDef) (qual : Option Qual) (t : Token) (q : State) (ts : List Token)
    → on_loose done d qual t ≡ Some q → Follows_state q s ts → Small_qual qual → Rules_follow done s d (qual_tokens qual ++ t ∷ ts)
loose_back done s d qual t q ts h f small =
    ⊎_elim (λ (e, k). subst (λ (u : Token). Rules_follow done s d (qual_tokens qual ++ u ∷ ts)) (same_sign-is Open_brace t e)
    (moved (done, Loose_name d Required qual) q s ts (some_is (done, Loose_name d Required qual) q k) f small refl))
    (λ (e, k). (let m = mapped (λ u. (done, Loose_name d Optional qual)) (sign_at Open_bracket t) q k in
    subst (λ (u : Token). Rules_follow done s d (qual_tokens qual ++ u ∷ ts)) (sym (sign_at-is Open_bracket t m.0 m.1)) (moved (done, Loose_name d Optional qual) q s ts m.2 f small refl)))
    (chosen (same_sign Open_brace t) (Some (done, Loose_name d Required qual)) (option_map (λ u. (done, Loose_name d Optional qual)) (sign_at Open_bracket t)) (Some q) h)

pub bracket_back : (done s : PlainSource) (d : PlainDef) (qual : Qual) (t : Token) (q : State) (ts : List Token) → on_bracket done d qual t ≡ Some q
    → Follows_state q s ts → Small_qual (Some qual) → Rules_follow done s d (qual_tokens (Some qual) ++ t ∷ ts)
bracket_back done s d qual t q ts h f small =
    ⊎_elim (λ (e, k). (let b = both (all_fixed d.rules) (same_sign Less t) e in
    subst (λ (u : Token). Rules_follow done s d (qual_tokens (Some qual) ++ u ∷ ts)) (same_sign-is Less t b.1)
    (moved (done, Fixed_name d qual) q s ts (some_is (done, Fixed_name d qual) q k) f small b.0)))
    (λ (e, k). loose_back done s d (Some qual) t q ts k f small)
    (chosen (all_fixed d.rules && same_sign Less t) (Some (done, Fixed_name d qual)) (on_loose done d (Some qual) t) (Some q) h)

pub star_back : (done s : PlainSource) (d : PlainDef) (min : Option ℕ) (t : Token) (q : State) (ts : List Token) → on_star done d min t ≡ Some q
    → Follows_state q s ts → Small_count min → Rules_follow done s d (count_tokens min ++ Star ∷ t ∷ ts)
star_back done s d min t q ts h f small =
    ⊎_elim (λ (e, k). (let m = mapped (λ n. (done, Qual_done d (record { min = min; max = Some n }))) (number_at 0 max_number t) q k in
    let n = number_at-is 0 max_number t m.0 m.1 in
    subst (λ (u : Token). Rules_follow done s d (count_tokens min ++ Star ∷ u ∷ ts)) (sym n.0)
    (subst (Rules_follow done s d) (append_assoc (count_tokens min) (Star ∷ Number m.0 ∷ []) ts) (moved (done, Qual_done d (record { min = min; max = Some m.0 })) q s ts m.2 f (small, n.2)))))
    (λ (e, k). subst (Rules_follow done s d) (append_assoc (count_tokens min) (Star ∷ []) (t ∷ ts)) (bracket_back done s d (record { min = min; max = None }) t q ts k f (small, tt)))
    (chosen (is_number t) (option_map (λ n. (done, Qual_done d (record { min = min; max = Some n }))) (number_at 0 max_number t)) (on_bracket done d (record { min = min; max = None }) t) (Some q) h)

qualifier_back : (done s : PlainSource) (d : PlainDef) (t : Token) (q : State) (ts : List Token) → on_qualifier done d t ≡ Some q → Follows_state q s ts → Rules_follow done s d (t ∷ ts)
qualifier_back done s d t q ts h f =
    ⊎_elim (λ (e, k). (let m = mapped (λ n. (done, Qual_min d n)) (number_at 0 max_number t) q k in
    let n = number_at-is 0 max_number t m.0 m.1 in
    subst (λ (u : Token). Rules_follow done s d (u ∷ ts)) (sym n.0) (moved (done, Qual_min d m.0) q s ts m.2 f n.2)))
    (λ (e, k). (let m = mapped (λ u. (done, Qual_star d None)) (sign_at Star t) q k in
    subst (λ (u : Token). Rules_follow done s d (u ∷ ts)) (sym (sign_at-is Star t m.0 m.1)) (moved (done, Qual_star d None) q s ts m.2 f tt)))
    (chosen (is_number t) (option_map (λ n. (done, Qual_min d n)) (number_at 0 max_number t)) (option_map (λ u. (done, Qual_star d None)) (sign_at Star t)) (Some q) h)

pub rules_back : (done s : PlainSource) (d : PlainDef) (t : Token) (q : State) (ts : List Token) → on_rules done d t ≡ Some q → Follows_state q s ts → Rules_follow done s d (t ∷ ts)
rules_back done s d t q ts h f =
    ⊎_elim (λ (e, k). subst (λ (u : Token). Rules_follow done s d (u ∷ ts)) (same_sign-is Less t e) (moved (done, Angle_name d) q s ts (some_is (done, Angle_name d) q k) f))
    (λ (e, k). ⊎_elim (λ (e2, k2). qualifier_back done s d t q ts k2 f)
    (λ (e2, k2). ⊎_elim (λ (e3, k3). loose_back done s d None t q ts k3 f tt)
    (λ (e3, k3). rules_end done s d (t ∷ ts) (item_back (add_def done d) s t q ts k3 f))
    (chosen (begins_loose t) (on_loose done d None t) (on_item (add_def done d) t) (Some q) k2))
    (chosen (begins_qualifier t) (on_qualifier done d t) _ (Some q) k))
    (chosen (same_sign Less t) (Some (done, Angle_name d)) _ (Some q) h)

-- ---- rules

count_made : (n : Option ℕ) → Small_count n → count n (count_tokens n)
count_made None small = refl
count_made (Some n) small = (small, refl)

qual_made : (q : Option Qual) → Small_qual q → qualifier q (qual_tokens q)
qual_made None small = refl
qual_made (Some q) (low, high) = (count_tokens q.min, Star ∷ count_tokens q.max, refl, count_made q.min low, (Star ∷ [], count_tokens q.max, refl, refl, count_made q.max high))

slot_made : (text : Option (List ℕ)) → Is_slot text → slot text (slot_tokens text)
slot_made None h = refl
slot_made (Some text) h = (h, refl)

loose_made : (kind : RuleKind) (text : Option (List ℕ)) → is_fixed kind ≡ false → Is_slot text → bracketed kind text (open_sign kind ∷ (slot_tokens text ++ closing_sign kind ∷ []))
loose_made Fixed text h k = absurd cc
loose_made Required text h k = (Open_brace ∷ [], slot_tokens text ++ Close_brace ∷ [], refl, refl, (slot_tokens text, Close_brace ∷ [], refl, slot_made text k, refl))
loose_made Optional text h k = (Open_bracket ∷ [], slot_tokens text ++ Close_bracket ∷ [], refl, refl, (slot_tokens text, Close_bracket ∷ [], refl, slot_made text k, refl))

fixed_made : (text : List ℕ) (qual : Option Qual) → is_name text ≡ true → Small_qual qual → rule (fixed_rule text qual) (qual_tokens qual ++ Less ∷ Name text ∷ Greater ∷ [])
fixed_made text qual named small =
    (qual_tokens qual, Less ∷ Name text ∷ Greater ∷ [], refl, qual_made qual small, (Less ∷ [], Name text ∷ Greater ∷ [], refl, refl, (Name text ∷ [], Greater ∷ [], refl, (named, refl), refl)))

pub fixed_back : (done s : PlainSource) (d : PlainDef) (text : List ℕ) (qual : Option Qual) (ts : List Token) → is_name text ≡ true
    → Small_qual qual → all_fixed d.rules ≡ true → Rules_follow done s (with_rule d (fixed_rule text qual)) ts
    → Rules_follow done s d (qual_tokens qual ++ Less ∷ Name text ∷ Greater ∷ ts)
fixed_back done s d text qual ts named small fixed f =
    subst (Rules_follow done s d) (append_assoc (qual_tokens qual) (Less ∷ Name text ∷ Greater ∷ []) ts)
    (rule_made done s d (fixed_rule text qual) (qual_tokens qual ++ Less ∷ Name text ∷ Greater ∷ []) ts
    (fixed_made text qual named small) (λ ordered. still_fixed d.rules (fixed_rule text qual) fixed refl) f)

close_tokens : (a b ts : List Token) (o c : Token) → (a ++ o ∷ (b ++ c ∷ [])) ++ ts ≡ a ++ o ∷ (b ++ c ∷ ts)
close_tokens a b ts o c = append_assoc a (o ∷ (b ++ c ∷ [])) ts ∙ ap (λ (f : List Token). a ++ o ∷ f) (append_assoc b (c ∷ []) ts)

pub loose_closed : (done s : PlainSource) (d : PlainDef) (r : PlainRule) (ts : List Token) → Small_qual r.qual → is_fixed r.kind ≡ false → Is_slot r.name → Rules_follow done s (with_rule d r) ts
    → Rules_follow done s d (qual_tokens r.qual ++ open_sign r.kind ∷ (slot_tokens r.name ++ closing_sign r.kind ∷ ts))
loose_closed done s d r ts small free named f =
    subst (Rules_follow done s d) (close_tokens (qual_tokens r.qual) (slot_tokens r.name) ts (open_sign r.kind) (closing_sign r.kind))
    (rule_made done s d r (qual_tokens r.qual ++ open_sign r.kind ∷ (slot_tokens r.name ++ closing_sign r.kind ∷ [])) ts
    (qual_tokens r.qual, open_sign r.kind ∷ (slot_tokens r.name ++ closing_sign r.kind ∷ []), refl, qual_made r.qual small, loose_made r.kind r.name free named)
    (still_loose d.rules r free) f)
