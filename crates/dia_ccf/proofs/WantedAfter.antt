-- What is wanted after a token that the machine takes.
use Rattle.std.proofs.Common.{◌≡◌, ℕ, Bool, true, false, cond, List, [], ◌∷◌, ◌++◌, map, Option, Some, None, refl, sym, ap, subst, ◌∙◌, arith, lit<}
use Rattle.std.specs.Prelude.{codes, ◌&&◌, ◌||◌, not, ⊤}
use Rattle.std.specs.Option.{option_map}
use Rattle.dia_terms.specs.declared.FormatName.{FormatName}
use Rattle.dia_terms.specs.declared.Pxy.TheVariants.{Either}
use Rattle.dia_terms.proofs.FormatWords.{enumerated_is}
use Rattle.dia_ccf.specs.declared.source.Head.TheVariants as heads
use Rattle.dia_terms.specs.declared.RuleKind.TheVariants.{Required, Optional}
use Rattle.dia_ccf.specs.declared.source.Qual.{Qual}
use Rattle.dia_ccf.specs.declared.wanted.Wanted.{Wanted}
use Rattle.dia_ccf.specs.declared.wanted.Wanted.TheVariants as wants
use Rattle.dia_ccf.specs.declared.wanted.InDeclaration.{InDeclaration}
use Rattle.dia_ccf.specs.declared.wanted.InDeclaration.TheVariants as declaration
use Rattle.dia_ccf.specs.declared.wanted.InHead.{InHead}
use Rattle.dia_ccf.specs.declared.wanted.InHead.TheVariants as head
use Rattle.dia_ccf.specs.declared.wanted.InRules.{InRules}
use Rattle.dia_ccf.specs.declared.wanted.InRules.TheVariants as rules
use Rattle.dia_ccf.specs.Names.{is_fixed}
use Rattle.dia_ccf.specs.Plain.{PlainDecl, PlainRule, PlainDef, PlainSource}
use Rattle.dia_ccf.specs.Tokens.{Token, Less, Greater, Open_brace, Open_bracket, Close_bracket, Open_parenthesis, Close_parenthesis, Star, Comma, Dots, Assign, Colon, Declares, Number}
use Rattle.dia_ccf.specs.Limits.{max_number, max_command_code, max_value}
use Rattle.dia_ccf.specs.LexerTokens.{capped}
use Rattle.dia_ccf.specs.Machine.{State, HeadPlace, Head_word, Diameter_word, Avp_word, Diameter_colon, Avp_colon, Command_code, Group_code, Flags, Group_vendor}
use Rattle.dia_ccf.specs.Machine.{Error_word, Error_flags, Error_either, Error_close, Head_end, Place, Between, Decl_name, Decl_code, Decl_vendor, Decl_number}
use Rattle.dia_ccf.specs.Machine.{Decl_format, Decl_rule, Decl_values, In_values, After_value, After_dots, Def_name, Def_close, Def_assign, Head_open, In_head}
use Rattle.dia_ccf.specs.Machine.{Rules, Qual_min, Qual_star, Qual_done, Fixed_name, Fixed_close, Angle_name, Angle_close, After_angle, Loose_name, Loose_close}
use Rattle.dia_ccf.specs.Machine.{same_sign, is_word, is_keyword, is_number, sign_at, keyword_at, number_at, name_at, format_at, rule_at, slot_at, is_none, all_fixed, closing_sign}
use Rattle.dia_terms.specs.Formats.{is_enumerated}
use Rattle.dia_ccf.specs.Machine.{add_decl, add_def, with_values, with_rule, fixed_rule, head_at, next_flag, next_in_head, on_item, on_values, on_loose, on_bracket, on_qualifier}
use Rattle.dia_ccf.specs.Machine.{on_rules, begins_qualifier, begins_loose, step, next}
use Rattle.dia_ccf.specs.Wanting.{wanted_at, wanted_in_head, value_of, small_value, following, after_all, after_item, after_value, next_wanted, after_loose}
use Rattle.dia_ccf.specs.Wanting.{after_bracket, after_rule, after_in_rules, after_in_declaration, after_in_head}
use Rattle.dia_ccf.proofs.TokenTests.{same_sign-is, number_at-is, format_at-is}
use Rattle.dia_ccf.proofs.DeclarationCompleteness.{and_false}
use Rattle.dia_ccf.proofs.MachineRuns.{number_at-some}
use Rattle.dia_ccf.proofs.Completions.{is_sound}
use Rattle.dia_ccf.proofs.CappedNumbers.{number_capped}

-- ---- where the machine goes

-- what is wanted in the next state, if there is one
abbrev LeadsTo : Option State → Wanted → Type 0
LeadsTo None w = ⊤
LeadsTo (Some q) w = wanted_at q.1 ≡ w

by_cond : {W : Type 0} (k : W → Wanted) (b : Bool) (x y : Option State) (u v : W) → LeadsTo x (k u) → LeadsTo y (k v) → LeadsTo (cond b x y) (k (cond b u v))
by_cond k true x y u v h j = h
by_cond k false x y u v h j = j

by_map : {X : Type 0} (to : X → State) (o : Option X) (w : Wanted) → ((x : X) → wanted_at (to x).1 ≡ w) → LeadsTo (option_map to o) w
by_map to None w h = tt
by_map to (Some x) w h = h x

item_leads : (done : PlainSource) (t : Token) → LeadsTo (on_item done t) (after_item t)
item_leads done t = by_cond (λ w. w) (same_sign Declares t) (Some (done, Decl_name)) _ _ _ refl
    (by_cond (λ w. w) (same_sign Less t) (Some (done, Def_name)) _ _ _ refl (by_map (λ n. (done, Def_assign n)) (name_at t) _ (λ n. refl)))

value_is : (t : Token) (n : ℕ) → number_at 0 max_value t ≡ Some n → value_of t ≡ n
value_is t n h =
    let k = number_at-is 0 max_value t n h in
    ap value_of k.0 ∙ ap small_value (number_at-some 0 max_number n k.1 (omega (arith, k.2)))

value_leads : (done : PlainSource) (d : PlainDecl) (ranges : List (ℕ × ℕ)) (t : Token) (o : Option ℕ) → number_at 0 max_value t ≡ o
    → LeadsTo (option_map (λ n. (done, After_value d ranges n)) o) (wants.Declaration (declaration.DotsOrValue (value_of t)))
value_leads done d ranges t None h = tt
value_leads done d ranges t (Some n) h = ap (λ (m : ℕ). wants.Declaration (declaration.DotsOrValue m)) (sym (value_is t n h))

-- a `)` or a value
values_leads : (done : PlainSource) (d : PlainDecl) (ranges : List (ℕ × ℕ)) (t : Token) → LeadsTo (on_values done d ranges t) (after_value t)
values_leads done d ranges t = by_tests (not (is_none ranges)) (same_sign Close_parenthesis t) refl
  where
    by_tests : (some close : Bool) → same_sign Close_parenthesis t ≡ close
        → LeadsTo (cond (some && close) (Some (add_decl done (with_values d ranges), Between)) (option_map (λ n. (done, After_value d ranges n)) (number_at 0 max_value t)))
        (cond close wants.Item (wants.Declaration (declaration.DotsOrValue (value_of t))))
    by_tests true true e = refl
    by_tests true false e = value_leads done d ranges t (number_at 0 max_value t) refl
    by_tests false true e = subst (λ (u : Token). LeadsTo (option_map (λ n. (done, After_value d ranges n)) (number_at 0 max_value u)) wants.Item) (same_sign-is Close_parenthesis t e) tt
    by_tests false false e = value_leads done d ranges t (number_at 0 max_value t) refl

pub none_grown : (ranges : List (ℕ × ℕ)) (r : ℕ × ℕ) → is_none (ranges ++ r ∷ []) ≡ false
none_grown [] r = refl
none_grown (x ∷ xs) r = refl

format_leads : (done : PlainSource) (name : List ℕ) (code vendor : ℕ) (t : Token) (o : Option FormatName) → format_at t ≡ o
    → LeadsTo (option_map (λ f. (done, Decl_rule name code vendor f)) o) (wants.Declaration (declaration.MRule (is_word (codes "Enumerated") t)))
format_leads done name code vendor t None h = tt
format_leads done name code vendor t (Some f) h = ap (λ (b : Bool). wants.Declaration (declaration.MRule b)) (enumerated_is f ∙ ap (is_word (codes "Enumerated")) (sym (format_at-is t f h)))

list_leads : (done : PlainSource) (d : PlainDecl) (t : Token) (e : Bool)
    → LeadsTo (cond (e && same_sign Open_parenthesis t) (Some (done, In_values d [])) (on_item (add_decl done d) t)) (following (cond e (wants.Declaration declaration.ValuesOrItem) wants.Item) t)
list_leads done d t true = by_cond (λ w. w) (same_sign Open_parenthesis t) (Some (done, In_values d [])) _ _ _ refl (item_leads (add_decl done d) t)
list_leads done d t false = item_leads (add_decl done d) t

in_values_leads : (done : PlainSource) (d : PlainDecl) (ranges : List (ℕ × ℕ)) (t : Token) (none : Bool)
    → LeadsTo (on_values done d ranges t) (following (wants.Declaration (cond none declaration.FirstValue declaration.NextValue)) t)
in_values_leads done d ranges t true = values_leads done d ranges t
in_values_leads done d ranges t false = values_leads done d ranges t

-- ---- in heads

abbrev HeadLeadsTo : Option HeadPlace → InHead → Type 0
HeadLeadsTo None w = ⊤
HeadLeadsTo (Some at) w = wanted_in_head at ≡ w

head_cond : (b : Bool) (x y : Option HeadPlace) (u v : InHead) → HeadLeadsTo x u → HeadLeadsTo y v → HeadLeadsTo (cond b x y) (cond b u v)
head_cond true x y u v h j = h
head_cond false x y u v h j = j

head_map : {X : Type 0} (to : X → HeadPlace) (o : Option X) (w : InHead) → ((x : X) → wanted_in_head (to x) ≡ w) → HeadLeadsTo (option_map to o) w
head_map to None w h = tt
head_map to (Some x) w h = h x

-- where one flag or comma may not come again
head_unless : (b : Bool) (at : HeadPlace) (w : InHead) → wanted_in_head at ≡ w → HeadLeadsTo (cond b None (Some at)) w
head_unless true at w h = tt
head_unless false at w h = h

either_leads : (comma : Bool) (t : Token) → HeadLeadsTo (cond comma None (option_map (λ u. Error_either false) (sign_at Open_bracket t))) (head.ErrorEither false)
either_leads true t = tt
either_leads false t = head_map (λ u. Error_either false) (sign_at Open_bracket t) (head.ErrorEither false) (λ u. refl)

flag_leads : (code : ℕ) (request pxy : Bool) (t : Token) → HeadLeadsTo (next_flag code request pxy t)
    (cond (is_keyword (codes "req") t) (head.Flags true pxy false) (cond (is_keyword (codes "pxy") t) (head.Flags request true false) head.Close))
flag_leads code request pxy t =
    head_cond (is_keyword (codes "req") t) _ _ _ _ (head_unless (request || pxy) (Flags code true pxy false) _ refl)
    (head_cond (is_keyword (codes "pxy") t) _ _ _ _ (head_unless pxy (Flags code request true false) _ refl)
    (head_map (λ n. Head_end (heads.Command code request pxy (Some n))) (number_at 0 max_number t) _ (λ n. refl)))

head_leads : (at : HeadPlace) (t : Token) → HeadLeadsTo (next_in_head at t) (next_wanted (wanted_in_head at) t)
head_leads Head_word t =
    head_cond (is_keyword (codes "avp") t) _ _ _ _ refl (head_cond (is_keyword (codes "avp-header") t) _ _ _ _ refl
    (head_cond (is_keyword (codes "diameter") t) _ _ _ _ refl (head_map (λ u. Diameter_colon) (keyword_at (codes "diameter-header") t) _ (λ u. refl))))
head_leads Diameter_word t = head_map (λ u. Diameter_colon) (keyword_at (codes "header") t) _ (λ u. refl)
head_leads Avp_word t = head_map (λ u. Avp_colon) (keyword_at (codes "header") t) _ (λ u. refl)
head_leads Diameter_colon t = head_map (λ u. Command_code) (sign_at Colon t) _ (λ u. refl)
head_leads Avp_colon t = head_map (λ u. Group_code) (sign_at Colon t) _ (λ u. refl)
head_leads Command_code t = head_cond (is_keyword (codes "code") t) _ _ _ _ refl (head_map (λ n. Flags n false false false) (number_at 0 max_command_code t) _ (λ n. refl))
head_leads Group_code t = head_map (λ n. Group_vendor n false) (number_at 0 max_number t) _ (λ n. refl)
head_leads (Flags code request pxy comma) t = head_cond (same_sign Comma t) _ _ _ _ (head_unless comma (Flags code request pxy true) _ refl) (flag_leads code request pxy t)
head_leads (Group_vendor code comma) t =
    head_cond (same_sign Comma t) _ _ _ _ (head_unless comma (Group_vendor code true) _ refl) (head_map (λ n. Head_end (heads.Group code n)) (number_at 0 max_number t) _ (λ n. refl))
head_leads (Error_word comma) t = head_cond (same_sign Comma t) _ _ _ _ (head_unless comma (Error_word true) _ refl) (head_map (λ u. Error_flags false) (keyword_at (codes "err") t) _ (λ u. refl))
head_leads (Error_flags comma) t = head_cond (same_sign Comma t) _ _ _ _ (head_unless comma (Error_flags true) _ refl) (head_cond (is_keyword (codes "pxy") t) _ _ _ _ refl (either_leads comma t))
head_leads (Error_either comma) t = head_cond (same_sign Comma t) _ _ _ _ (head_unless comma (Error_either true) _ refl) (head_map (λ u. Error_close) (keyword_at (codes "pxy") t) _ (λ u. refl))
head_leads Error_close t = head_map (λ u. Head_end (heads.Error Either)) (sign_at Close_bracket t) _ (λ u. refl)
head_leads (Head_end h) t = tt

in_head : (done : PlainSource) (name : List ℕ) (o : Option HeadPlace) (w : InHead) → HeadLeadsTo o w → LeadsTo (option_map (λ to. (done, In_head name to)) o) (wants.Head w)
in_head done name None w h = tt
in_head done name (Some at) w h = ap (λ (v : InHead). wants.Head v) h

-- ---- in rules

loose_leads : (done : PlainSource) (d : PlainDef) (qual : Option Qual) (t : Token) → LeadsTo (on_loose done d qual t) (wants.Rules (after_loose t))
loose_leads done d qual t = by_cond (λ kind. wants.Rules (rules.LooseName kind)) (same_sign Open_brace t) (Some (done, Loose_name d Required qual)) _ Required Optional refl
    (by_map (λ u. (done, Loose_name d Optional qual)) (sign_at Open_bracket t) (wants.Rules (rules.LooseName Optional)) (λ u. refl))

bracket_leads : (done : PlainSource) (d : PlainDef) (qual : Qual) (t : Token) → LeadsTo (on_bracket done d qual t) (wants.Rules (after_bracket t))
bracket_leads done d qual t = by_tests (all_fixed d.rules) (same_sign Less t) refl
  where
    by_tests : (fixed less : Bool) → same_sign Less t ≡ less
        → LeadsTo (cond (fixed && less) (Some (done, Fixed_name d qual)) (on_loose done d (Some qual) t)) (wants.Rules (cond less rules.FixedName (after_loose t)))
    by_tests true true e = refl
    by_tests true false e = loose_leads done d (Some qual) t
    by_tests false true e = subst (λ (u : Token). LeadsTo (on_loose done d (Some qual) u) (wants.Rules rules.FixedName)) (same_sign-is Less t e) tt
    by_tests false false e = loose_leads done d (Some qual) t

rules_lead : (done : PlainSource) (d : PlainDef) (t : Token) → LeadsTo (on_rules done d t) (after_rule (all_fixed d.rules) t)
rules_lead done d t =
    by_cond (λ w. w) (same_sign Less t) (Some (done, Angle_name d)) _ _ _ refl
    (by_cond (λ w. w) (begins_qualifier t) (on_qualifier done d t) _ _ _
    (by_cond (λ w. wants.Rules w) (is_number t) _ _ (rules.Star (all_fixed d.rules)) (rules.Greatest (all_fixed d.rules))
    (by_map (λ n. (done, Qual_min d n)) (number_at 0 max_number t) _ (λ n. refl)) (by_map (λ u. (done, Qual_star d None)) (sign_at Star t) _ (λ u. refl)))
    (by_cond (λ w. w) (begins_loose t) (on_loose done d None t) _ _ _ (loose_leads done d None t) (item_leads (add_def done d) t)))

all_fixed-more : (xs : List PlainRule) (r : PlainRule) → all_fixed (xs ++ r ∷ []) ≡ (all_fixed xs && is_fixed r.kind)
all_fixed-more [] r = one (is_fixed r.kind)
  where
    one : (b : Bool) → (b && true) ≡ b
    one true = refl
    one false = refl
all_fixed-more (x ∷ xs) r = more (is_fixed x.kind) (all_fixed-more xs r)
  where
    more : (b : Bool) → all_fixed (xs ++ r ∷ []) ≡ (all_fixed xs && is_fixed r.kind) → (b && all_fixed (xs ++ r ∷ [])) ≡ ((b && all_fixed xs) && is_fixed r.kind)
    more true h = h
    more false h = refl

one_more_fixed : (d : PlainDef) (name : List ℕ) (qual : Option Qual) → all_fixed d.rules ≡ true → all_fixed (d.rules ++ fixed_rule name qual ∷ []) ≡ true
one_more_fixed d name qual h = all_fixed-more d.rules (fixed_rule name qual) ∙ ap (λ (b : Bool). b && true) h

not_fixed : (b : Bool) → not b ≡ true → b ≡ false
not_fixed true h = absurd cc
not_fixed false h = refl

one_loose : (d : PlainDef) (r : PlainRule) → not (is_fixed r.kind) ≡ true → all_fixed (d.rules ++ r ∷ []) ≡ false
one_loose d r h = all_fixed-more d.rules r ∙ ap (λ (b : Bool). all_fixed d.rules && b) (not_fixed (is_fixed r.kind) h) ∙ and_false (all_fixed d.rules)

angle_leads : (done : PlainSource) (d : PlainDef) (name : List ℕ) (t : Token) (b : Bool) → all_fixed d.rules ≡ b
    → LeadsTo (cond b (on_rules done (with_rule d (fixed_rule name None)) t) None) (after_rule b t)
angle_leads done d name t false e = tt
angle_leads done d name t true e =
    subst (λ (f : Bool). LeadsTo (on_rules done (with_rule d (fixed_rule name None)) t) (after_rule f t)) (one_more_fixed d name None e) (rules_lead done (with_rule d (fixed_rule name None)) t)

step_leads : (done : PlainSource) (p : Place) (t : Token) → is_sound p ≡ true → LeadsTo (step done p t) (following (wanted_at p) t)
step_leads done Between t h = item_leads done t
step_leads done Decl_name t h = by_map (λ n. (done, Decl_code n)) (name_at t) _ (λ n. refl)
step_leads done (Decl_code n) t h = by_map (λ c. (done, Decl_vendor n c)) (number_at 0 max_number t) _ (λ c. refl)
step_leads done (Decl_vendor n c) t h =
    by_cond (λ w. wants.Declaration w) (is_word (codes "vendor") t) (Some (done, Decl_number n c)) _ declaration.Vendor _ refl (format_leads done n c 0 t (format_at t) refl)
step_leads done (Decl_number n c) t h = by_map (λ v. (done, Decl_format n c v)) (number_at 0 max_number t) _ (λ v. refl)
step_leads done (Decl_format n c v) t h = format_leads done n c v t (format_at t) refl
step_leads done (Decl_rule n c v f) t h =
    by_map (λ r. (done, Decl_values (record { name = n; code = c; vendor = v; format = f; values = None; rule = r }))) (rule_at t) _ (λ r. refl)
step_leads done (Decl_values d) t h = list_leads done d t (is_enumerated d.format)
step_leads done (In_values d ranges) t h = in_values_leads done d ranges t (is_none ranges)
step_leads done (After_value d ranges n) t h =
    by_cond (λ w. w) (same_sign Dots t) (Some (done, After_dots d ranges n)) _ _ _ refl (values_leads done d (ranges ++ (n, n) ∷ []) t)
step_leads done (After_dots d ranges low) t h = by_map (λ n. (done, In_values d (ranges ++ (low, n) ∷ []))) (number_at low max_value t) (wants.Declaration declaration.NextValue)
    (λ n. ap (λ (b : Bool). wants.Declaration (cond b declaration.FirstValue declaration.NextValue)) (none_grown ranges (low, n)))
step_leads done Def_name t h = by_map (λ n. (done, Def_close n)) (name_at t) _ (λ n. refl)
step_leads done (Def_close n) t h = by_map (λ u. (done, Def_assign n)) (sign_at Greater t) _ (λ u. refl)
step_leads done (Def_assign n) t h = by_map (λ u. (done, Head_open n)) (sign_at Assign t) _ (λ u. refl)
step_leads done (Head_open n) t h = by_map (λ u. (done, In_head n Head_word)) (sign_at Less t) _ (λ u. refl)
step_leads done (In_head n at) t h =
    by_cond (λ w. w) (same_sign Greater t) (option_map (λ k. (done, Rules (record { name = n; head = k; rules = [] }))) (head_at at)) _ _ _
    (by_map (λ k. (done, Rules (record { name = n; head = k; rules = [] }))) (head_at at) (wants.Rules (rules.Rule true)) (λ k. refl))
    (in_head done n (next_in_head at t) (next_wanted (wanted_in_head at) t) (head_leads at t))
step_leads done (Rules d) t h = rules_lead done d t
step_leads done (Qual_min d n) t h = by_map (λ u. (done, Qual_star d (Some n))) (sign_at Star t) _ (λ u. refl)
step_leads done (Qual_star d min) t h =
    by_cond (λ w. wants.Rules w) (is_number t) _ _ (rules.Bracket (all_fixed d.rules)) (after_bracket t)
    (by_map (λ n. (done, Qual_done d (record { min = min; max = Some n }))) (number_at 0 max_number t) _ (λ n. refl)) (bracket_leads done d (record { min = min; max = None }) t)
step_leads done (Qual_done d qual) t h = bracket_leads done d qual t
step_leads done (Fixed_name d qual) t h = by_map (λ n. (done, Fixed_close d qual n)) (name_at t) _ (λ n. refl)
step_leads done (Fixed_close d qual n) t h = by_map (λ u. (done, Rules (with_rule d (fixed_rule n (Some qual))))) (sign_at Greater t) (wants.Rules (rules.Rule true))
    (λ u. ap (λ (b : Bool). wants.Rules (rules.Rule b)) (one_more_fixed d n (Some qual) h))
step_leads done (Angle_name d) t h = by_map (λ n. (done, Angle_close d n)) (name_at t) _ (λ n. refl)
step_leads done (Angle_close d n) t h = by_map (λ u. (done, After_angle d n)) (sign_at Greater t) _ (λ u. refl)
step_leads done (After_angle d n) t h =
    by_cond (λ w. w) (same_sign Assign t) (Some (add_def done d, Head_open n)) _ _ _ refl (angle_leads done d n t (all_fixed d.rules) refl)
step_leads done (Loose_name d kind qual) t h = by_map (λ n. (done, Loose_close d (record { kind = kind; name = n; qual = qual }))) (slot_at t) _ (λ n. refl)
step_leads done (Loose_close d r) t h = by_map (λ u. (done, Rules (with_rule d r))) (sign_at (closing_sign r.kind) t) (wants.Rules (rules.Rule false))
    (λ u. ap (λ (b : Bool). wants.Rules (rules.Rule b)) (one_loose d r h))

pub wanted_after : (p q : State) (t : Token) → is_sound p.1 ≡ true → next p t ≡ Some q → wanted_at q.1 ≡ following (wanted_at p.1) t
wanted_after p q t h e = subst (λ (o : Option State). LeadsTo o (following (wanted_at p.1) t)) e (step_leads p.0 p.1 t h)

-- ---- numbers above 32 bits

value_capped : (n : ℕ) → value_of (capped (Number n)) ≡ value_of (Number n)
value_capped n = ap small_value (number_capped 0 max_number n (lit< tt))

declaration_capped : (at : InDeclaration) (n : ℕ) → after_in_declaration at (capped (Number n)) ≡ after_in_declaration at (Number n)
declaration_capped declaration.FirstValue n = ap (λ (m : ℕ). wants.Declaration (declaration.DotsOrValue m)) (value_capped n)
declaration_capped (declaration.DotsOrValue low) n = ap (λ (m : ℕ). wants.Declaration (declaration.DotsOrValue m)) (value_capped n)
declaration_capped declaration.NextValue n = ap (λ (m : ℕ). wants.Declaration (declaration.DotsOrValue m)) (value_capped n)
declaration_capped at n = refl

head_capped : (at : InHead) (n : ℕ) → after_in_head at (capped (Number n)) ≡ after_in_head at (Number n)
head_capped head.Word n = refl
head_capped at n = refl

rules_capped : (at : InRules) (n : ℕ) → after_in_rules at (capped (Number n)) ≡ after_in_rules at (Number n)
rules_capped (rules.Rule only_fixed) n = refl
rules_capped at n = refl

number_after : (w : Wanted) (n : ℕ) → following w (capped (Number n)) ≡ following w (Number n)
number_after wants.Item n = refl
number_after (wants.Declaration at) n = declaration_capped at n
number_after (wants.Definition at) n = refl
number_after (wants.Head at) n = head_capped at n
number_after (wants.Rules at) n = rules_capped at n

after_capped : (w : Wanted) (t : Token) → following w (capped t) ≡ following w t
after_capped w (Number n) = number_after w n
after_capped w t = refl

pub after_all-capped : (w : Wanted) (ts : List Token) → after_all w (map capped ts) ≡ after_all w ts
after_all-capped w [] = refl
after_all-capped w (t ∷ ts) = ap (λ (v : Wanted). after_all v (map capped ts)) (after_capped w t) ∙ after_all-capped (following w t) ts

pub after_all-more : (w : Wanted) (ts : List Token) (t : Token) → after_all w (ts ++ t ∷ []) ≡ following (after_all w ts) t
after_all-more w [] t = refl
after_all-more w (u ∷ ts) t = after_all-more (following w u) ts t
