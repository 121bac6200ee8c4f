-- In each state of the machine, some tokens complete a text.
use Rattle.std.proofs.Common.{◌≡◌, ℕ, Bool, true, false, cond, List, [], ◌∷◌, ◌++◌, Option, Some, None, refl, sym, ap, subst, ◌∙◌, arith}
use Rattle.std.specs.Prelude.{codes, ◌&&◌, not, nat_le, ⊤}
use Rattle.std.specs.Option.{option_map}
use Rattle.std.proofs.lemmas.Bool.{le-leb, leb-true}
use Rattle.dia_terms.specs.declared.RuleKind.{RuleKind}
use Rattle.dia_terms.specs.declared.RuleKind.TheVariants.{Fixed, Required, Optional}
use Rattle.dia_ccf.specs.declared.source.Qual.{Qual}
use Rattle.dia_ccf.specs.Names.{is_fixed}
use Rattle.dia_ccf.specs.Plain.{PlainDecl, PlainRule, PlainDef, PlainSource}
use Rattle.dia_ccf.specs.Tokens.{Token, Less, Greater, Open_brace, Close_brace, Open_bracket, Close_bracket, Open_parenthesis, Close_parenthesis, Star, Dots, Assign, Colon, Declares, Number, Name}
use Rattle.dia_ccf.specs.Limits.{max_number, max_value}
use Rattle.dia_ccf.specs.Machine.{State, Place, Between, Decl_name, Decl_code, Decl_vendor, Decl_number, Decl_format, Decl_rule, Decl_values, In_values, After_value, After_dots, Def_name, Def_close}
use Rattle.dia_ccf.specs.Machine.{Def_assign, Head_open, In_head, HeadPlace, Head_word, Diameter_word, Avp_word, Diameter_colon, Avp_colon, Command_code, Group_code, Flags, Group_vendor, Error_word}
use Rattle.dia_ccf.specs.Machine.{Error_flags, Error_either, Error_close, Head_end, Rules, Qual_min, Qual_star, Qual_done, Fixed_name, Fixed_close, Angle_name, Angle_close, After_angle, Loose_name}
use Rattle.dia_ccf.specs.Machine.{Loose_close, next, step, on_item, on_values, on_loose, on_bracket, on_qualifier, on_rules, begins_qualifier, begins_loose, add_decl, add_def, with_values, with_rule}
use Rattle.dia_ccf.specs.Machine.{fixed_rule, all_fixed, is_none, closing_sign, head_at, next_in_head, same_sign, is_word, is_number, sign_at, number_at, name_at, format_at, rule_at}
use Rattle.dia_terms.specs.Formats.{is_enumerated}
use Rattle.dia_ccf.specs.Machine.{slot_at, Outcome, Reads, Stops, outcome}
use Rattle.dia_ccf.proofs.TokenTests.{number_at-is}
use Rattle.dia_ccf.proofs.MachineRuns.{take_one, number_at-some}
use Rattle.dia_ccf.proofs.DeclarationCompleteness.{and_false}

-- ---- the states of the machine

abbrev pub is_sound : Place → Bool
is_sound (After_value d ranges n) = nat_le n max_value
is_sound (After_dots d ranges low) = nat_le low max_value
is_sound (Fixed_name d qual) = all_fixed d.rules
is_sound (Fixed_close d qual name) = all_fixed d.rules
is_sound (Loose_name d kind qual) = not (is_fixed kind)
is_sound (Loose_close d rule) = not (is_fixed rule.kind)
is_sound place = true

abbrev leads_soundly : Option State → Bool
leads_soundly None = true
leads_soundly (Some state) = is_sound state.1

sound_cond : (b : Bool) (x y : Option State) → leads_soundly x ≡ true → leads_soundly y ≡ true → leads_soundly (cond b x y) ≡ true
sound_cond true x y h k = h
sound_cond false x y h k = k

sound_map : {X : Type 0} (to : X → State) (o : Option X) → ((x : X) → is_sound (to x).1 ≡ true) → leads_soundly (option_map to o) ≡ true
sound_map to None h = refl
sound_map to (Some x) h = h x

sound_item : (done : PlainSource) (t : Token) → leads_soundly (on_item done t) ≡ true
sound_item done t = sound_cond (same_sign Declares t) (Some (done, Decl_name)) _ refl
    (sound_cond (same_sign Less t) (Some (done, Def_name)) _ refl (sound_map (λ n. (done, Def_assign n)) (name_at t) (λ n. refl)))

sound_number : (done : PlainSource) (d : PlainDecl) (ranges : List (ℕ × ℕ)) (t : Token) (o : Option ℕ)
    → number_at 0 max_value t ≡ o → leads_soundly (option_map (λ n. (done, After_value d ranges n)) o) ≡ true
sound_number done d ranges t None h = refl
sound_number done d ranges t (Some n) h = le-leb n max_value (number_at-is 0 max_value t n h).2

sound_values : (done : PlainSource) (d : PlainDecl) (ranges : List (ℕ × ℕ)) (t : Token) → leads_soundly (on_values done d ranges t) ≡ true
sound_values done d ranges t = sound_cond (not (is_none ranges) && same_sign Close_parenthesis t)
    (Some (add_decl done (with_values d ranges), Between)) _ refl (sound_number done d ranges t (number_at 0 max_value t) refl)

sound_loose : (done : PlainSource) (d : PlainDef) (qual : Option Qual) (t : Token) → leads_soundly (on_loose done d qual t) ≡ true
sound_loose done d qual t = sound_cond (same_sign Open_brace t) (Some (done, Loose_name d Required qual)) _ refl
    (sound_map (λ u. (done, Loose_name d Optional qual)) (sign_at Open_bracket t) (λ u. refl))

sound_bracket : (done : PlainSource) (d : PlainDef) (qual : Qual) (t : Token) → leads_soundly (on_bracket done d qual t) ≡ true
sound_bracket done d qual t = by_tests (all_fixed d.rules) (same_sign Less t) refl
  where
    by_tests : (fixed less : Bool) → all_fixed d.rules ≡ fixed → leads_soundly (cond (fixed && less) (Some (done, Fixed_name d qual)) (on_loose done d (Some qual) t)) ≡ true
    by_tests true true e = e
    by_tests true false e = sound_loose done d (Some qual) t
    by_tests false less e = sound_loose done d (Some qual) t

sound_rules : (done : PlainSource) (d : PlainDef) (t : Token) → leads_soundly (on_rules done d t) ≡ true
sound_rules done d t =
    sound_cond (same_sign Less t) (Some (done, Angle_name d)) _ refl
    (sound_cond (begins_qualifier t) (on_qualifier done d t) _
    (sound_cond (is_number t) (option_map (λ n. (done, Qual_min d n)) (number_at 0 max_number t)) _
    (sound_map (λ n. (done, Qual_min d n)) (number_at 0 max_number t) (λ n. refl)) (sound_map (λ u. (done, Qual_star d None)) (sign_at Star t) (λ u. refl)))
    (sound_cond (begins_loose t) (on_loose done d None t) (on_item (add_def done d) t) (sound_loose done d None t) (sound_item (add_def done d) t)))

sound_step : (done : PlainSource) (p : Place) (t : Token) → is_sound p ≡ true → leads_soundly (step done p t) ≡ true
sound_step done Between t h = sound_item done t
sound_step done Decl_name t h = sound_map (λ n. (done, Decl_code n)) (name_at t) (λ n. refl)
sound_step done (Decl_code n) t h = sound_map (λ c. (done, Decl_vendor n c)) (number_at 0 max_number t) (λ c. refl)
sound_step done (Decl_vendor n c) t h = sound_cond (is_word (codes "vendor") t) (Some (done, Decl_number n c)) _ refl (sound_map (λ f. (done, Decl_rule n c 0 f)) (format_at t) (λ f. refl))
sound_step done (Decl_number n c) t h = sound_map (λ v. (done, Decl_format n c v)) (number_at 0 max_number t) (λ v. refl)
sound_step done (Decl_format n c v) t h = sound_map (λ f. (done, Decl_rule n c v f)) (format_at t) (λ f. refl)
sound_step done (Decl_rule n c v f) t h = sound_map (λ r. (done, Decl_values (record { name = n; code = c; vendor = v; format = f; values = None; rule = r }))) (rule_at t) (λ r. refl)
sound_step done (Decl_values d) t h = sound_cond (is_enumerated d.format && same_sign Open_parenthesis t) (Some (done, In_values d [])) _ refl (sound_item (add_decl done d) t)
sound_step done (In_values d ranges) t h = sound_values done d ranges t
sound_step done (After_value d ranges n) t h = sound_cond (same_sign Dots t) (Some (done, After_dots d ranges n)) _ h (sound_values done d (ranges ++ (n, n) ∷ []) t)
sound_step done (After_dots d ranges low) t h = sound_map (λ n. (done, In_values d (ranges ++ (low, n) ∷ []))) (number_at low max_value t) (λ n. refl)
sound_step done Def_name t h = sound_map (λ n. (done, Def_close n)) (name_at t) (λ n. refl)
sound_step done (Def_close n) t h = sound_map (λ u. (done, Def_assign n)) (sign_at Greater t) (λ u. refl)
sound_step done (Def_assign n) t h = sound_map (λ u. (done, Head_open n)) (sign_at Assign t) (λ u. refl)
sound_step done (Head_open n) t h = sound_map (λ u. (done, In_head n Head_word)) (sign_at Less t) (λ u. refl)
sound_step done (In_head n at) t h = sound_cond (same_sign Greater t) (option_map (λ k. (done, Rules (record { name = n; head = k; rules = [] }))) (head_at at)) _
    (sound_map (λ k. (done, Rules (record { name = n; head = k; rules = [] }))) (head_at at) (λ k. refl)) (sound_map (λ to. (done, In_head n to)) (next_in_head at t) (λ to. refl))
sound_step done (Rules d) t h = sound_rules done d t
sound_step done (Qual_min d n) t h = sound_map (λ u. (done, Qual_star d (Some n))) (sign_at Star t) (λ u. refl)
sound_step done (Qual_star d min) t h = sound_cond (is_number t) (option_map (λ n. (done, Qual_done d (record { min = min; max = Some n }))) (number_at 0 max_number t)) _
    (sound_map (λ n. (done, Qual_done d (record { min = min; max = Some n }))) (number_at 0 max_number t) (λ n. refl)) (sound_bracket done d (record { min = min; max = None }) t)
sound_step done (Qual_done d qual) t h = sound_bracket done d qual t
sound_step done (Fixed_name d qual) t h = sound_map (λ n. (done, Fixed_close d qual n)) (name_at t) (λ n. h)
sound_step done (Fixed_close d qual n) t h = sound_map (λ u. (done, Rules (with_rule d (fixed_rule n (Some qual))))) (sign_at Greater t) (λ u. refl)
sound_step done (Angle_name d) t h = sound_map (λ n. (done, Angle_close d n)) (name_at t) (λ n. refl)
sound_step done (Angle_close d n) t h = sound_map (λ u. (done, After_angle d n)) (sign_at Greater t) (λ u. refl)
sound_step done (After_angle d n) t h = sound_cond (same_sign Assign t) (Some (add_def done d, Head_open n)) _ refl
    (sound_cond (all_fixed d.rules) (on_rules done (with_rule d (fixed_rule n None)) t) None (sound_rules done (with_rule d (fixed_rule n None)) t) refl)
sound_step done (Loose_name d kind qual) t h = sound_map (λ n. (done, Loose_close d (record { kind = kind; name = n; qual = qual }))) (slot_at t) (λ n. h)
sound_step done (Loose_close d r) t h = sound_map (λ u. (done, Rules (with_rule d r))) (sign_at (closing_sign r.kind) t) (λ u. refl)

pub sound_next : (p q : State) (t : Token) → is_sound p.1 ≡ true → next p t ≡ Some q → is_sound q.1 ≡ true
sound_next p q t h e = ap leads_soundly (sym e) ∙ sound_step p.0 p.1 t h

-- ---- what completes a text

abbrev head_completion : HeadPlace → List Token
head_completion Head_word = Name (codes "avp") ∷ Name (codes "header") ∷ Colon ∷ Number 0 ∷ Greater ∷ []
head_completion Diameter_word = Name (codes "header") ∷ Colon ∷ Number 0 ∷ Greater ∷ []
head_completion Avp_word = Name (codes "header") ∷ Colon ∷ Number 0 ∷ Greater ∷ []
head_completion Diameter_colon = Colon ∷ Number 0 ∷ Greater ∷ []
head_completion Avp_colon = Colon ∷ Number 0 ∷ Greater ∷ []
head_completion Command_code = Number 0 ∷ Greater ∷ []
head_completion Group_code = Number 0 ∷ Greater ∷ []
head_completion (Flags c request pxy comma) = Number 0 ∷ Greater ∷ []
head_completion (Group_vendor c comma) = Number 0 ∷ Greater ∷ []
head_completion (Error_word comma) = Name (codes "err") ∷ Greater ∷ []
head_completion (Error_flags comma) = Name (codes "pxy") ∷ Greater ∷ []
head_completion (Error_either comma) = Name (codes "pxy") ∷ Close_bracket ∷ Greater ∷ []
head_completion Error_close = Close_bracket ∷ Greater ∷ []
head_completion (Head_end head) = Greater ∷ []

abbrev def_completion : List Token
def_completion = Assign ∷ Less ∷ head_completion Head_word

abbrev completion : Place → List Token
completion Between = []
completion Decl_name = Name (codes "a") ∷ Number 0 ∷ Name (codes "Time") ∷ Name (codes "any") ∷ []
completion (Decl_code n) = Number 0 ∷ Name (codes "Time") ∷ Name (codes "any") ∷ []
completion (Decl_vendor n c) = Name (codes "Time") ∷ Name (codes "any") ∷ []
completion (Decl_number n c) = Number 0 ∷ Name (codes "Time") ∷ Name (codes "any") ∷ []
completion (Decl_format n c v) = Name (codes "Time") ∷ Name (codes "any") ∷ []
completion (Decl_rule n c v f) = Name (codes "any") ∷ []
completion (Decl_values d) = []
completion (In_values d ranges) = Number 0 ∷ Close_parenthesis ∷ []
completion (After_value d ranges n) = Close_parenthesis ∷ []
completion (After_dots d ranges low) = Number low ∷ Close_parenthesis ∷ []
completion Def_name = Name (codes "a") ∷ Greater ∷ def_completion
completion (Def_close n) = Greater ∷ def_completion
completion (Def_assign n) = def_completion
completion (Head_open n) = Less ∷ head_completion Head_word
completion (In_head n at) = head_completion at
completion (Rules d) = []
completion (Qual_min d n) = Star ∷ Open_brace ∷ Name (codes "a") ∷ Close_brace ∷ []
completion (Qual_star d min) = Open_brace ∷ Name (codes "a") ∷ Close_brace ∷ []
completion (Qual_done d qual) = Open_brace ∷ Name (codes "a") ∷ Close_brace ∷ []
completion (Fixed_name d qual) = Name (codes "a") ∷ Greater ∷ []
completion (Fixed_close d qual n) = Greater ∷ []
completion (Angle_name d) = Name (codes "a") ∷ Greater ∷ def_completion
completion (Angle_close d n) = Greater ∷ def_completion
completion (After_angle d n) = def_completion
completion (Loose_name d kind qual) = Name (codes "a") ∷ closing_sign kind ∷ []
completion (Loose_close d r) = closing_sign r.kind ∷ []

abbrev Is_read : Outcome → Type 0
Is_read (Reads s) = ⊤
Is_read (Stops k rest) = ⊥

-- reading on from a state to a whole text
abbrev Completes : State → List Token → Type 0
Completes state more = Is_read (outcome state more)

goes_to : (p q : State) (t : Token) (more : List Token) → next p t ≡ Some q → Completes q more → Completes p (t ∷ more)
goes_to p q t more h k = subst Is_read (sym (take_one p t q more h)) k

some_more : (ranges : List (ℕ × ℕ)) (r : ℕ × ℕ) → is_none (ranges ++ r ∷ []) ≡ false
some_more [] r = refl
some_more (x ∷ ranges) r = refl

values_completed : (done : PlainSource) (d : PlainDecl) (ranges : List (ℕ × ℕ)) (r : ℕ × ℕ) → Completes (done, In_values d (ranges ++ r ∷ [])) (Close_parenthesis ∷ [])
values_completed done d ranges r = goes_to (done, In_values d (ranges ++ r ∷ [])) (add_decl done (with_values d (ranges ++ r ∷ [])), Between) Close_parenthesis [] (rw (some_more ranges r) refl) tt

value_completed : (done : PlainSource) (d : PlainDecl) (ranges : List (ℕ × ℕ)) (n : ℕ) → Completes (done, After_value d ranges n) (Close_parenthesis ∷ [])
value_completed done d ranges n = goes_to (done, After_value d ranges n) (add_decl done (with_values d (ranges ++ (n, n) ∷ [])), Between) Close_parenthesis [] (rw (some_more ranges (n, n)) refl) tt

bracket_completed : (done : PlainSource) (d : PlainDef) (qual : Qual) → Completes (done, Qual_done d qual) (Open_brace ∷ Name (codes "a") ∷ Close_brace ∷ [])
bracket_completed done d qual = goes_to (done, Qual_done d qual) (done, Loose_name d Required (Some qual)) Open_brace (Name (codes "a") ∷ Close_brace ∷ []) (rw (and_false (all_fixed d.rules)) refl) tt

star_completed : (done : PlainSource) (d : PlainDef) (min : Option ℕ) → Completes (done, Qual_star d min) (Open_brace ∷ Name (codes "a") ∷ Close_brace ∷ [])
star_completed done d min = goes_to (done, Qual_star d min) (done, Loose_name d Required (Some (record { min = min; max = None }))) Open_brace
    (Name (codes "a") ∷ Close_brace ∷ []) (rw (and_false (all_fixed d.rules)) refl) tt

close_completed : (done : PlainSource) (d : PlainDef) (r : PlainRule) (kind : RuleKind)
    → next (done, Loose_close d r) (closing_sign kind) ≡ Some (done, Rules (with_rule d r)) → Completes (done, Loose_close d r) (closing_sign kind ∷ [])
close_completed done d r kind h = goes_to (done, Loose_close d r) (done, Rules (with_rule d r)) (closing_sign kind) [] h tt

closes : (kind : RuleKind) → same_sign (closing_sign kind) (closing_sign kind) ≡ true
closes Fixed = refl
closes Required = refl
closes Optional = refl

head_completed : (done : PlainSource) (n : List ℕ) (at : HeadPlace) → Completes (done, In_head n at) (head_completion at)
head_completed done n Head_word = tt
head_completed done n Diameter_word = tt
head_completed done n Avp_word = tt
head_completed done n Diameter_colon = tt
head_completed done n Avp_colon = tt
head_completed done n Command_code = tt
head_completed done n Group_code = tt
head_completed done n (Flags c request pxy comma) = tt
head_completed done n (Group_vendor c comma) = tt
head_completed done n (Error_word comma) = tt
head_completed done n (Error_flags comma) = tt
head_completed done n (Error_either comma) = tt
head_completed done n Error_close = tt
head_completed done n (Head_end head) = tt

completed : (done : PlainSource) (p : Place) → is_sound p ≡ true → Completes (done, p) (completion p)
completed done Between h = tt
completed done Decl_name h = tt
completed done (Decl_code n) h = tt
completed done (Decl_vendor n c) h = tt
completed done (Decl_number n c) h = tt
completed done (Decl_format n c v) h = tt
completed done (Decl_rule n c v f) h = tt
completed done (Decl_values d) h = tt
completed done (In_values d ranges) h = goes_to (done, In_values d ranges) (done, After_value d ranges 0) (Number 0)
    (Close_parenthesis ∷ []) (rw (and_false (not (is_none ranges))) refl) (value_completed done d ranges 0)
completed done (After_value d ranges n) h = value_completed done d ranges n
completed done (After_dots d ranges low) h =
    goes_to (done, After_dots d ranges low) (done, In_values d (ranges ++ (low, low) ∷ [])) (Number low) (Close_parenthesis ∷ [])
    (rw (number_at-some low max_value low (omega arith) (leb-true low max_value h)) refl) (values_completed done d ranges (low, low))
completed done Def_name h = tt
completed done (Def_close n) h = tt
completed done (Def_assign n) h = tt
completed done (Head_open n) h = tt
completed done (In_head n at) h = head_completed done n at
completed done (Rules d) h = tt
completed done (Qual_min d n) h = goes_to (done, Qual_min d n) (done, Qual_star d (Some n)) Star (Open_brace ∷ Name (codes "a") ∷ Close_brace ∷ []) refl (star_completed done d (Some n))
completed done (Qual_star d min) h = star_completed done d min
completed done (Qual_done d qual) h = bracket_completed done d qual
completed done (Fixed_name d qual) h = tt
completed done (Fixed_close d qual n) h = tt
completed done (Angle_name d) h = tt
completed done (Angle_close d n) h = tt
completed done (After_angle d n) h = tt
completed done (Loose_name d kind qual) h = goes_to (done, Loose_name d kind qual) (
  done,
  Loose_close d (record { kind = kind; name = Some (codes "a"); qual = qual }),
) (Name (codes "a")) (closing_sign kind ∷ []) refl
    (close_completed done d (record { kind = kind; name = Some (codes "a"); qual = qual }) kind (rw (closes kind) refl))
completed done (Loose_close d r) h = close_completed done d r r.kind (rw (closes r.kind) refl)

is_read_source : (o : Outcome) → Is_read o → (s : PlainSource) × (o ≡ Reads s)
is_read_source (Reads s) h = (s, refl)
is_read_source (Stops k rest) h = absurd h

-- some tokens complete the text from here
pub can_complete : (state : State) → is_sound state.1 ≡ true → (more : List Token) × (s : PlainSource) × (outcome state more ≡ Reads s)
can_complete state h = let k = is_read_source (outcome state (completion state.1)) (completed state.0 state.1 h) in (completion state.1, k.0, k.1)
