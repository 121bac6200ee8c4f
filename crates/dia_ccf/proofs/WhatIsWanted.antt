-- What fits in a state of the machine.
use Rattle.std.proofs.Common.{◌≡◌, ℕ, Bool, true, false, cond, List, [], ◌∷◌, ◌++◌, Option, Some, None, refl, sym, ap, subst, ◌∙◌}
use Rattle.std.specs.Prelude.{codes, ◌&&◌, ◌||◌, not, is_some}
use Rattle.std.specs.Option.{option_map}
use Rattle.dia_terms.specs.declared.Pxy.TheVariants.{Set, Either}
use Rattle.dia_ccf.specs.declared.source.Head.TheVariants as heads
use Rattle.dia_terms.specs.declared.RuleKind.TheVariants.{Required, Optional}
use Rattle.dia_ccf.specs.declared.source.Qual.{Qual}
use Rattle.dia_ccf.specs.declared.wanted.Wanted.TheVariants as wants
use Rattle.dia_ccf.specs.declared.wanted.InDeclaration.TheVariants as declaration
use Rattle.dia_ccf.specs.Names.{same_bytes}
use Rattle.dia_ccf.specs.Plain.{PlainDecl, PlainDef, PlainSource}
use Rattle.dia_ccf.specs.Tokens.{Token, Less, Greater, Open_brace, Open_bracket, Close_bracket, Open_parenthesis, Close_parenthesis, Star, Comma, Dots, Assign, Colon, Declares, Number, Name}
use Rattle.dia_ccf.specs.Limits.{max_number, max_command_code, max_value}
use Rattle.dia_ccf.specs.Machine.{State, HeadPlace, Head_word, Diameter_word, Avp_word, Diameter_colon, Avp_colon, Command_code, Group_code, Flags, Group_vendor}
use Rattle.dia_ccf.specs.Machine.{Error_word, Error_flags, Error_either, Error_close, Head_end, Place, Between, Decl_name, Decl_code, Decl_vendor, Decl_number}
use Rattle.dia_ccf.specs.Machine.{Decl_format, Decl_rule, Decl_values, In_values, After_value, After_dots, Def_name, Def_close, Def_assign, Head_open, In_head}
use Rattle.dia_ccf.specs.Machine.{Rules, Qual_min, Qual_star, Qual_done, Fixed_name, Fixed_close, Angle_name, Angle_close, After_angle, Loose_name, Loose_close}
use Rattle.dia_ccf.specs.Machine.{same_sign, is_word, is_keyword, sign_at, keyword_at, number_at, name_at, format_at, rule_at, slot_at, is_none, all_fixed, closing_sign}
use Rattle.dia_terms.specs.Formats.{is_enumerated}
use Rattle.dia_ccf.specs.Machine.{add_decl, add_def, with_values, with_rule, fixed_rule, head_at, next_flag, on_comma, next_in_head, on_item, on_values, on_loose, on_bracket, on_star}
use Rattle.dia_ccf.specs.Machine.{on_rules, begins_loose, step, next, whole_at, whole}
use Rattle.dia_ccf.specs.Wanting.{fits, may_end, wanted_at, wanted_in_head}
use Rattle.dia_ccf.specs.Wanting.{begins_item, goes_on, may_end_head, begins_rule, opens_rule, or_comma, is_number_to, is_name_token}
use Rattle.dia_ccf.proofs.TokenTests.{same_sign-is, keyword-is}
use Rattle.dia_ccf.proofs.DeclarationCompleteness.{and_false}
use Rattle.dia_ccf.proofs.WantedAfter.{none_grown}

-- ---- what fits

some_map : {X Y : Type 0} (f : X → Y) (o : Option X) → is_some (option_map f o) ≡ is_some o
some_map f None = refl
some_map f (Some x) = refl

some_cond : {X : Type 0} (b : Bool) (x : X) (o : Option X) (c : Bool) → is_some o ≡ c → is_some (cond b (Some x) o) ≡ (b || c)
some_cond true x o c h = refl
some_cond false x o c h = h

some_test : {X : Type 0} (b : Bool) (x : X) → is_some (cond b (Some x) None) ≡ b
some_test true x = refl
some_test false x = refl

some_sign : {X : Type 0} (sign t : Token) (to : Unit {0} → X) → is_some (option_map to (sign_at sign t)) ≡ same_sign sign t
some_sign sign t to = some_map to (sign_at sign t) ∙ some_test (same_sign sign t) tt

some_keyword : {X : Type 0} (text : List ℕ) (t : Token) (to : Unit {0} → X) → is_some (option_map to (keyword_at text t)) ≡ is_keyword text t
some_keyword text t to = some_map to (keyword_at text t) ∙ some_test (is_keyword text t) tt

or3 : (a b c : Bool) → (a || (b || c)) ≡ ((a || b) || c)
or3 true b c = refl
or3 false b c = refl

or4 : (a b c d : Bool) → (a || (b || (c || d))) ≡ (((a || b) || c) || d)
or4 true b c d = refl
or4 false b c d = or3 b c d

or_none : (a : Bool) → a ≡ (((a || false) || false) || false)
or_none true = refl
or_none false = refl

item_some : (done : PlainSource) (t : Token) → is_some (on_item done t) ≡ begins_item t
item_some done t = some_cond (same_sign Declares t) (done, Decl_name) _ _ (some_cond (same_sign Less t) (done, Def_name) _ _ (some_map (λ n. (done, Def_assign n)) (name_at t)))
    ∙ or3 (same_sign Declares t) (same_sign Less t) (is_name_token t)

values_some : (done : PlainSource) (d : PlainDecl) (ranges : List (ℕ × ℕ)) (t : Token)
    → is_some (on_values done d ranges t) ≡ ((not (is_none ranges) && same_sign Close_parenthesis t) || is_number_to max_value t)
values_some done d ranges t = some_cond (not (is_none ranges) && same_sign Close_parenthesis t) (add_decl done (with_values d ranges), Between) _ _
    (some_map (λ n. (done, After_value d ranges n)) (number_at 0 max_value t))

list_some : (done : PlainSource) (d : PlainDecl) (t : Token) (e : Bool)
    → is_some (cond (e && same_sign Open_parenthesis t) (Some (done, In_values d [])) (on_item (add_decl done d) t)) ≡ fits (cond e (wants.Declaration declaration.ValuesOrItem) wants.Item) t
list_some done d t true = some_cond (same_sign Open_parenthesis t) (done, In_values d []) _ _ (item_some (add_decl done d) t)
list_some done d t false = item_some (add_decl done d) t

in_values_some : (done : PlainSource) (d : PlainDecl) (ranges : List (ℕ × ℕ)) (t : Token) (none : Bool) → is_none ranges ≡ none
    → is_some (on_values done d ranges t) ≡ fits (wants.Declaration (cond none declaration.FirstValue declaration.NextValue)) t
in_values_some done d ranges t true e = values_some done d ranges t ∙ ap (λ (b : Bool). (not b && same_sign Close_parenthesis t) || is_number_to max_value t) e
in_values_some done d ranges t false e = values_some done d ranges t ∙ ap (λ (b : Bool). (not b && same_sign Close_parenthesis t) || is_number_to max_value t) e

-- a comma that may come once, and what else may
comma_some : (comma : Bool) (to : HeadPlace) (other : Option HeadPlace) (t : Token) (c : Bool) → (t ≡ Comma → is_some other ≡ false) → is_some other ≡ c → is_some (on_comma comma to other t) ≡ (or_comma comma t || c)
comma_some comma to other t c none h = by_tests comma (same_sign Comma t) refl
  where
    by_tests : (b s : Bool) → same_sign Comma t ≡ s → is_some (cond s (cond b None (Some to)) other) ≡ ((not b && s) || c)
    by_tests true true e = sym (none (sym (same_sign-is Comma t e))) ∙ h
    by_tests false true e = refl
    by_tests true false e = h
    by_tests false false e = h

-- a flag that may come once
flag_some : (b taken : Bool) (to : HeadPlace) (other : Option HeadPlace) (c : Bool) → (b ≡ true → is_some other ≡ false) → is_some other ≡ c → is_some (cond b (cond taken None (Some to)) other) ≡ ((not taken && b) || c)
flag_some true true to other c none h = sym (none refl) ∙ h
flag_some true false to other c none h = refl
flag_some false true to other c none h = h
flag_some false false to other c none h = h

no_number : (text : List ℕ) (most : ℕ) (t : Token) → is_keyword text t ≡ true → is_number_to most t ≡ false
no_number text most (Name spelled) h = refl
no_number text most t h = absurd cc

no_second : (t : Token) → is_keyword (codes "req") t ≡ true → is_keyword (codes "pxy") t ≡ false
no_second t h =
    let k = keyword-is (codes "req") t h in
    subst (λ (u : Token). is_keyword (codes "pxy") u ≡ false) (sym k.2) (ap (λ (bytes : List ℕ). same_bytes bytes (codes "pxy")) k.1)

flags_some : (code : ℕ) (request pxy : Bool) (t : Token) → is_some (next_flag code request pxy t)
    ≡ ((not (request || pxy) && is_keyword (codes "req") t) || ((not pxy && is_keyword (codes "pxy") t) || is_number_to max_number t))
flags_some code request pxy t =
    flag_some (is_keyword (codes "req") t) (request || pxy) (Flags code true pxy false) _ _ (λ h. rest_none h)
    (flag_some (is_keyword (codes "pxy") t) pxy (Flags code request true false) _ _ (λ h. number_none (codes "pxy") h) (some_map (λ n. Head_end (heads.Command code request pxy (Some n))) (number_at 0 max_number t)))
  where
    number_none : (text : List ℕ) → is_keyword text t ≡ true → is_some (option_map (λ n. Head_end (heads.Command code request pxy (Some n))) (number_at 0 max_number t)) ≡ false
    number_none text h = some_map (λ n. Head_end (heads.Command code request pxy (Some n))) (number_at 0 max_number t) ∙ no_number text max_number t h

    rest_none : is_keyword (codes "req") t ≡ true
        → is_some (cond (is_keyword (codes "pxy") t) (cond pxy None (Some (Flags code request true false))) (option_map (λ n. Head_end (heads.Command code request pxy (Some n))) (number_at 0 max_number t))) ≡ false
    rest_none h = ap (λ (b : Bool). is_some (cond b (cond pxy None (Some (Flags code request true false))) (option_map (λ n. Head_end (heads.Command code request pxy (Some n))) (number_at 0 max_number t)))) (no_second t h)
        ∙ number_none (codes "req") h

open_some : (comma : Bool) (t : Token) → is_some (cond comma None (option_map (λ u. Error_either false) (sign_at Open_bracket t))) ≡ (not comma && same_sign Open_bracket t)
open_some true t = refl
open_some false t = some_sign Open_bracket t (λ u. Error_either false)

head_some : (at : HeadPlace) (t : Token) → is_some (next_in_head at t) ≡ goes_on (wanted_in_head at) t
head_some Head_word t =
    some_cond (is_keyword (codes "avp") t) _ _ _ (some_cond (is_keyword (codes "avp-header") t) _ _ _ (some_cond (is_keyword (codes "diameter") t) _ _ _ (some_keyword (codes "diameter-header") t (λ u. Diameter_colon))))
    ∙ or4 (is_keyword (codes "avp") t) (is_keyword (codes "avp-header") t) (is_keyword (codes "diameter") t) (is_keyword (codes "diameter-header") t)
head_some Diameter_word t = some_keyword (codes "header") t (λ u. Diameter_colon)
head_some Avp_word t = some_keyword (codes "header") t (λ u. Avp_colon)
head_some Diameter_colon t = some_sign Colon t (λ u. Command_code)
head_some Avp_colon t = some_sign Colon t (λ u. Group_code)
head_some Command_code t = some_cond (is_keyword (codes "code") t) _ _ _ (some_map (λ n. Flags n false false false) (number_at 0 max_command_code t))
head_some Group_code t = some_map (λ n. Group_vendor n false) (number_at 0 max_number t)
head_some (Flags code request pxy comma) t =
    comma_some comma (Flags code request pxy true) (next_flag code request pxy t) t _ (λ e. subst (λ (u : Token). is_some (next_flag code request pxy u) ≡ false) (sym e) refl) (flags_some code request pxy t)
    ∙ or4 (or_comma comma t) (not (request || pxy) && is_keyword (codes "req") t) (not pxy && is_keyword (codes "pxy") t) (is_number_to max_number t)
head_some (Group_vendor code comma) t =
    comma_some comma (Group_vendor code true) (option_map (λ n. Head_end (heads.Group code n)) (number_at 0 max_number t)) t _
    (λ e. subst (λ (u : Token). is_some (option_map (λ n. Head_end (heads.Group code n)) (number_at 0 max_number u)) ≡ false) (sym e) refl) (some_map (λ n. Head_end (heads.Group code n)) (number_at 0 max_number t))
head_some (Error_word comma) t =
    comma_some comma (Error_word true) (option_map (λ u. Error_flags false) (keyword_at (codes "err") t)) t _
    (λ e. subst (λ (u : Token). is_some (option_map (λ u. Error_flags false) (keyword_at (codes "err") u)) ≡ false) (sym e) refl) (some_keyword (codes "err") t (λ u. Error_flags false))
head_some (Error_flags comma) t =
    comma_some comma (Error_flags true) (cond (is_keyword (codes "pxy") t) (Some (Head_end (heads.Error Set))) (cond comma None (option_map (λ u. Error_either false) (sign_at Open_bracket t)))) t _
    (λ e. subst (λ (u : Token). is_some (cond (is_keyword (codes "pxy") u) (Some (Head_end (heads.Error Set))) (cond comma None (option_map (λ u. Error_either false) (sign_at Open_bracket u)))) ≡ false) (sym e) (none comma))
    (some_cond (is_keyword (codes "pxy") t) _ _ _ (open_some comma t))
    ∙ or3 (or_comma comma t) (is_keyword (codes "pxy") t) (not comma && same_sign Open_bracket t)
  where
    none : (b : Bool) → is_some (cond b None (option_map (λ u. Error_either false) (sign_at Open_bracket Comma))) ≡ false
    none true = refl
    none false = refl
head_some (Error_either comma) t =
    comma_some comma (Error_either true) (option_map (λ u. Error_close) (keyword_at (codes "pxy") t)) t _
    (λ e. subst (λ (u : Token). is_some (option_map (λ u. Error_close) (keyword_at (codes "pxy") u)) ≡ false) (sym e) refl) (some_keyword (codes "pxy") t (λ u. Error_close))
head_some Error_close t = some_sign Close_bracket t (λ u. Head_end (heads.Error Either))
head_some (Head_end h) t = refl

-- a `>` is nothing else in a head
goes_none : (at : HeadPlace) → goes_on (wanted_in_head at) Greater ≡ false
goes_none (Flags code request pxy comma) = rw (and_false (not comma), and_false (not (request || pxy)), and_false (not pxy)) refl
goes_none (Group_vendor code comma) = rw (and_false (not comma)) refl
goes_none (Error_word comma) = rw (and_false (not comma)) refl
goes_none (Error_flags comma) = rw (and_false (not comma)) refl
goes_none (Error_either comma) = rw (and_false (not comma)) refl
goes_none at = refl

head_ends : (at : HeadPlace) → is_some (head_at at) ≡ may_end_head (wanted_in_head at)
head_ends (Flags code request pxy true) = refl
head_ends (Flags code request pxy false) = refl
head_ends (Group_vendor code true) = refl
head_ends (Group_vendor code false) = refl
head_ends (Error_flags true) = refl
head_ends (Error_flags false) = refl
head_ends at = refl

in_head_some : (done : PlainSource) (name : List ℕ) (at : HeadPlace) (t : Token) (b : Bool) → same_sign Greater t ≡ b
    → is_some {T = State} (cond b (option_map (λ h. (done, Rules (record { name = name; head = h; rules = [] }))) (head_at at)) (option_map (λ to. (done, In_head name to)) (next_in_head at t)))
    ≡ ((may_end_head (wanted_in_head at) && b) || goes_on (wanted_in_head at) t)
in_head_some done name at t true e =
    some_map (λ h. (done, Rules (record { name = name; head = h; rules = [] }))) (head_at at) ∙ head_ends at ∙ whole (may_end_head (wanted_in_head at))
    (subst (λ (u : Token). goes_on (wanted_in_head at) u ≡ false) (same_sign-is Greater t e) (goes_none at))
  where
    whole : (m : Bool) → goes_on (wanted_in_head at) t ≡ false → m ≡ ((m && true) || goes_on (wanted_in_head at) t)
    whole true h = refl
    whole false h = sym h
in_head_some done name at t false e =
    some_map (λ to. (done, In_head name to)) (next_in_head at t) ∙ head_some at t ∙ ap (λ (b : Bool). b || goes_on (wanted_in_head at) t) (sym (and_false (may_end_head (wanted_in_head at))))

loose_some : (done : PlainSource) (d : PlainDef) (qual : Option Qual) (t : Token) → is_some (on_loose done d qual t) ≡ begins_loose t
loose_some done d qual t = some_cond (same_sign Open_brace t) (done, Loose_name d Required qual) _ _ (some_sign Open_bracket t (λ u. (done, Loose_name d Optional qual)))

bracket_some : (done : PlainSource) (d : PlainDef) (qual : Qual) (t : Token) → is_some (on_bracket done d qual t) ≡ opens_rule (all_fixed d.rules) t
bracket_some done d qual t = some_cond (all_fixed d.rules && same_sign Less t) (done, Fixed_name d qual) _ _ (loose_some done d (Some qual) t)

star_some : (done : PlainSource) (d : PlainDef) (min : Option ℕ) (t : Token) → is_some (on_star done d min t) ≡ (is_number_to max_number t || opens_rule (all_fixed d.rules) t)
star_some done d min (Number n) = some_map (λ n. (done, Qual_done d (record { min = min; max = Some n }))) (number_at 0 max_number (Number n))
    ∙ rw (and_false (all_fixed d.rules)) (none (is_number_to max_number (Number n)))
  where
    none : (b : Bool) → b ≡ (b || false)
    none true = refl
    none false = refl
star_some done d min t = bracket_some done d (record { min = min; max = None }) t

rules_some : (done : PlainSource) (d : PlainDef) (t : Token) → is_some (on_rules done d t) ≡ begins_rule t
rules_some done d (Number n) = some_map (λ n. (done, Qual_min d n)) (number_at 0 max_number (Number n)) ∙ or_none (is_number_to max_number (Number n))
rules_some done d (Name name) = some_map (λ n. (add_def done d, Def_assign n)) (name_at (Name name))
rules_some done d t = refl

angle_some : (done : PlainSource) (d : PlainDef) (t : Token) (b : Bool) → is_some (cond b (on_rules done d t) None) ≡ (b && begins_rule t)
angle_some done d t true = rules_some done d t
angle_some done d t false = refl

step_some : (done : PlainSource) (p : Place) (t : Token) → is_some (step done p t) ≡ fits (wanted_at p) t
step_some done Between t = item_some done t
step_some done Decl_name t = some_map (λ n. (done, Decl_code n)) (name_at t)
step_some done (Decl_code n) t = some_map (λ c. (done, Decl_vendor n c)) (number_at 0 max_number t)
step_some done (Decl_vendor n c) t = some_cond (is_word (codes "vendor") t) (done, Decl_number n c) _ _ (some_map (λ f. (done, Decl_rule n c 0 f)) (format_at t))
step_some done (Decl_number n c) t = some_map (λ v. (done, Decl_format n c v)) (number_at 0 max_number t)
step_some done (Decl_format n c v) t = some_map (λ f. (done, Decl_rule n c v f)) (format_at t)
step_some done (Decl_rule n c v f) t = some_map (λ r. (done, Decl_values (record { name = n; code = c; vendor = v; format = f; values = None; rule = r }))) (rule_at t)
step_some done (Decl_values d) t = list_some done d t (is_enumerated d.format)
step_some done (In_values d ranges) t = in_values_some done d ranges t (is_none ranges) refl
step_some done (After_value d ranges n) t =
    some_cond (same_sign Dots t) (done, After_dots d ranges n) _ _ (values_some done d (ranges ++ (n, n) ∷ []) t
    ∙ ap (λ (b : Bool). (not b && same_sign Close_parenthesis t) || is_number_to max_value t) (none_grown ranges (n, n)))
    ∙ or3 (same_sign Dots t) (same_sign Close_parenthesis t) (is_number_to max_value t)
step_some done (After_dots d ranges low) t = some_map (λ n. (done, In_values d (ranges ++ (low, n) ∷ []))) (number_at low max_value t)
step_some done Def_name t = some_map (λ n. (done, Def_close n)) (name_at t)
step_some done (Def_close n) t = some_sign Greater t (λ u. (done, Def_assign n))
step_some done (Def_assign n) t = some_sign Assign t (λ u. (done, Head_open n))
step_some done (Head_open n) t = some_sign Less t (λ u. (done, In_head n Head_word))
step_some done (In_head n at) t = in_head_some done n at t (same_sign Greater t) refl
step_some done (Rules d) t = rules_some done d t
step_some done (Qual_min d n) t = some_sign Star t (λ u. (done, Qual_star d (Some n)))
step_some done (Qual_star d min) t = star_some done d min t
step_some done (Qual_done d qual) t = bracket_some done d qual t
step_some done (Fixed_name d qual) t = some_map (λ n. (done, Fixed_close d qual n)) (name_at t)
step_some done (Fixed_close d qual n) t = some_sign Greater t (λ u. (done, Rules (with_rule d (fixed_rule n (Some qual)))))
step_some done (Angle_name d) t = some_map (λ n. (done, Angle_close d n)) (name_at t)
step_some done (Angle_close d n) t = some_sign Greater t (λ u. (done, After_angle d n))
step_some done (After_angle d n) t = some_cond (same_sign Assign t) (add_def done d, Head_open n) _ _ (angle_some done (with_rule d (fixed_rule n None)) t (all_fixed d.rules))
step_some done (Loose_name d kind qual) t = some_map (λ n. (done, Loose_close d (record { kind = kind; name = n; qual = qual }))) (slot_at t)
step_some done (Loose_close d r) t = some_sign (closing_sign r.kind) t (λ u. (done, Rules (with_rule d r)))

-- a token fits exactly where the machine takes it
pub next_some : (q : State) (t : Token) → is_some (next q t) ≡ fits (wanted_at q.1) t
next_some q t = step_some q.0 q.1 t

-- the text can end exactly where the machine has read it whole
pub whole_some : (q : State) → is_some (whole q) ≡ may_end (wanted_at q.1)
whole_some q = at_place q.0 q.1
  where
    values : (done : PlainSource) (d : PlainDecl) (b : Bool) → is_some (Some (add_decl done d)) ≡ may_end (cond b (wants.Declaration declaration.ValuesOrItem) wants.Item)
    values done d true = refl
    values done d false = refl

    list : (b none : Bool) → false ≡ may_end (wants.Declaration (cond none declaration.FirstValue declaration.NextValue))
    list b true = refl
    list b false = refl

    at_place : (done : PlainSource) (p : Place) → is_some (whole_at done p) ≡ may_end (wanted_at p)
    at_place done (Decl_values d) = values done d (is_enumerated d.format)
    at_place done (In_values d ranges) = list true (is_none ranges)
    at_place done (After_angle d name) = some_test (all_fixed d.rules) (add_def done (with_rule d (fixed_rule name None)))
    at_place done p = refl
