-- What the machine reads, the grammar derives.
use Rattle.std.proofs.Common.{◌≡◌, ℕ, true, List, [], ◌∷◌, ◌++◌, Option, Some, None, refl, sym, ap, subst, ◌∙◌, arith, inl, inr, ⊎_elim}
use Rattle.std.specs.Prelude.{codes, ◌&&◌}
use Rattle.std.specs.Option.{option_map}
use Rattle.dia_terms.specs.declared.FormatName.{FormatName}
use Rattle.dia_terms.specs.declared.FormatName.TheVariants as format
use Rattle.dia_ccf.specs.Names.{is_name}
use Rattle.dia_ccf.specs.Plain.{PlainDecl, PlainDef, PlainSource}
use Rattle.dia_ccf.specs.Tokens.{Token, Less, Greater, Open_parenthesis, Star, Dots, Assign, Declares, Number, Name}
use Rattle.dia_ccf.specs.Grammar.{name, vendor, values, rule, Derives}
use Rattle.dia_terms.specs.Formats.{format_word}
use Rattle.dia_ccf.specs.Limits.{max_number, max_value}
use Rattle.dia_ccf.specs.Machine.{State, Place, Between, Decl_name, Decl_code, Decl_vendor, Decl_number, Decl_format, Decl_rule, Decl_values, In_values, After_value, After_dots, Def_name, Def_close}
use Rattle.dia_ccf.specs.Machine.{Def_assign, Head_open, In_head, HeadPlace, Head_word, Rules, Qual_min, Qual_star, Qual_done, Fixed_name, Fixed_close, Angle_name, Angle_close, After_angle}
use Rattle.dia_ccf.specs.Machine.{Loose_name, Loose_close, next, step, whole, whole_at, on_item, on_values, on_rules}
use Rattle.dia_ccf.specs.Machine.{add_decl, add_def, with_rule, fixed_rule, all_fixed, closing_sign, head_at, next_in_head, same_sign, is_word}
use Rattle.dia_terms.specs.Formats.{is_enumerated}
use Rattle.dia_ccf.specs.Machine.{sign_at, number_at, name_at, format_at, rule_at, slot_at, Outcome, Reads, outcome, ended, gone_on}
use Rattle.dia_ccf.specs.ReaderFunctions.{nothing_read}
use Rattle.dia_ccf.proofs.TokenTests.{slot_tokens, slot_at-is, both, chosen, mapped, guarded, some_is, same_sign-is, sign_at-is, name_at-is, number_at-is, word-is, format_at-is, rule_at-is}
use Rattle.dia_ccf.proofs.WhatFollows.{Ends, ends_none, after-source, decl_front, decl_made, Values_follow, range_more}
use Rattle.dia_ccf.proofs.WhatFollows.{Rules_follow, rules_end}
use Rattle.dia_ccf.proofs.WhatFollowsInHeads.{head_ends, head_back}
use Rattle.dia_ccf.proofs.StepsBack.{angle_made, qual_tokens, open_sign, Follows, Follows_state, moved, item_back}
use Rattle.dia_ccf.proofs.StepsBack.{values_back, bracket_back, star_back, rules_back, fixed_back, loose_closed}

-- ---- one step back

enumerated : (f : FormatName) → is_enumerated f ≡ true → f ≡ format.Enumerated
enumerated format.Enumerated h = refl
enumerated f h = absurd cc

vendor_back : (done s : PlainSource) (n : List ℕ) (c : ℕ) (t : Token) (q : State) (ts : List Token)
    → step done (Decl_vendor n c) t ≡ Some q → Follows_state q s ts → Follows done (Decl_vendor n c) s (t ∷ ts)
vendor_back done s n c t q ts h f named small =
    ⊎_elim (λ (e, k). subst (λ (u : Token). Ends done s (Declares ∷ Name n ∷ Number c ∷ u ∷ ts)) (sym (word-is (codes "vendor") t e))
    (moved (done, Decl_number n c) q s ts (some_is (done, Decl_number n c) q k) f named small))
    (λ (e, k). (let m = mapped (λ v. (done, Decl_rule n c 0 v)) (format_at t) q k in
    subst (λ (u : Token). Ends done s (Declares ∷ Name n ∷ Number c ∷ u ∷ ts)) (sym (format_at-is t m.0 m.1)) (moved (done, Decl_rule n c 0 m.0) q s ts m.2 f named small [] (inl (refl, refl)))))
    (chosen (is_word (codes "vendor") t) (Some (done, Decl_number n c)) (option_map (λ v. (done, Decl_rule n c 0 v)) (format_at t)) (Some q) h)

none_values : (f : FormatName) (vs : Option (List (ℕ × ℕ))) → vs ≡ None → values f vs []
none_values f vs e = subst (λ (o : Option (List (ℕ × ℕ))). values f o []) (sym e) refl

list_back : (done s : PlainSource) (d : PlainDecl) (t : Token) (q : State) (ts : List Token) → step done (Decl_values d) t ≡ Some q → Follows_state q s ts → Follows done (Decl_values d) s (t ∷ ts)
list_back done s d t q ts h f sound vs of_vendor =
    ⊎_elim (λ (e, k). (let b = both (is_enumerated d.format) (same_sign Open_parenthesis t) e in
    subst (λ (u : Token). Ends done s (decl_front d vs (u ∷ ts))) (same_sign-is Open_parenthesis t b.1)
    (moved (done, In_values d []) q s ts (some_is (done, In_values d []) q k) f sound (enumerated d.format b.0) vs [] of_vendor refl)))
    (λ (e, k). decl_made done s d vs [] (t ∷ ts) sound.named sound.small of_vendor (none_values d.format d.values sound.unlisted) (item_back (add_decl done d) s t q ts k f))
    (chosen (is_enumerated d.format && same_sign Open_parenthesis t) (Some (done, In_values d [])) (on_item (add_decl done d) t) (Some q) h)

range_back : (done s : PlainSource) (d : PlainDecl) (ranges : List (ℕ × ℕ)) (n : ℕ) (t : Token) (q : State) (ts : List Token)
    → step done (After_value d ranges n) t ≡ Some q → Follows_state q s ts → Follows done (After_value d ranges n) s (t ∷ ts)
range_back done s d ranges n t q ts h f small =
    ⊎_elim (λ (e, k). subst (λ (u : Token). Values_follow done s d ranges (Number n ∷ u ∷ ts)) (same_sign-is Dots t e)
    (moved (done, After_dots d ranges n) q s ts (some_is (done, After_dots d ranges n) q k) f small))
    (λ (e, k). range_more done s d ranges (n, n) (Number n ∷ []) (t ∷ ts) (omega arith, inl (refl, (small, refl))) (values_back done s d (ranges ++ (n, n) ∷ []) t q ts k f))
    (chosen (same_sign Dots t) (Some (done, After_dots d ranges n)) (on_values done d (ranges ++ (n, n) ∷ []) t) (Some q) h)

head_step : (done s : PlainSource) (n : List ℕ) (at : HeadPlace) (t : Token) (q : State) (ts : List Token)
    → step done (In_head n at) t ≡ Some q → Follows_state q s ts → Follows done (In_head n at) s (t ∷ ts)
head_step done s n at t q ts h f =
    ⊎_elim (λ (e, k). (let m = mapped (λ h. (done, Rules (record { name = n; head = h; rules = [] }))) (head_at at) q k in
    record {
      head = m.0;
      front = [];
      rest = ts;
      parts = ap (λ (u : Token). u ∷ ts) (sym (same_sign-is Greater t e));
      heads = head_ends at m.0 m.1;
      rules = moved (done, Rules (record { name = n; head = m.0; rules = [] })) q s ts m.2 f;
    }))
    (λ (e, k). (let m = mapped (λ to. (done, In_head n to)) (next_in_head at t) q k in
    let r = moved (done, In_head n m.0) q s ts m.2 f in
    record { head = r.head; front = t ∷ r.front; rest = r.rest; parts = ap (λ (us : List Token). t ∷ us) r.parts; heads = head_back at t m.0 r.head r.front m.1 r.heads; rules = r.rules }))
    (chosen (same_sign Greater t) (option_map (λ h. (done, Rules (record { name = n; head = h; rules = [] }))) (head_at at)) (option_map (λ to. (done, In_head n to)) (next_in_head at t)) (Some q) h)

angle_step : (done s : PlainSource) (d : PlainDef) (n : List ℕ) (t : Token) (q : State) (ts : List Token)
    → step done (After_angle d n) t ≡ Some q → Follows_state q s ts → Follows done (After_angle d n) s (t ∷ ts)
angle_step done s d n t q ts h f named =
    ⊎_elim (λ (e, k). subst (λ (u : Token). Rules_follow done s d (Less ∷ Name n ∷ Greater ∷ u ∷ ts)) (same_sign-is Assign t e)
    (rules_end done s d (Less ∷ Name n ∷ Greater ∷ Assign ∷ ts) (angle_made (add_def done d) s (Name n ∷ Greater ∷ Assign ∷ ts)
    (record {
      text = n;
      rest = Greater ∷ Assign ∷ ts;
      parts = refl;
      named = named;
      closes = record {
        rest = Assign ∷ ts;
        parts = refl;
        assigns = record { rest = ts; parts = refl; opens = moved (add_def done d, Head_open n) q s ts (some_is (add_def done d, Head_open n) q k) f };
      };
    }))))
    (λ (e, k). ⊎_elim (λ (fixed, k2). fixed_back done s d n None (t ∷ ts) named tt fixed (rules_back done s (with_rule d (fixed_rule n None)) t q ts k2 f))
    (λ (loose, k2). absurd cc)
    (chosen (all_fixed d.rules) (on_rules done (with_rule d (fixed_rule n None)) t) None (Some q) k))
    (chosen (same_sign Assign t) (Some (add_def done d, Head_open n)) _ (Some q) h)

step_back : (done : PlainSource) (p : Place) (s : PlainSource) (t : Token) (q : State) (ts : List Token) → step done p t ≡ Some q → Follows_state q s ts → Follows done p s (t ∷ ts)
step_back done Between s t q ts h f = item_back done s t q ts h f
step_back done Decl_name s t q ts h f =
    let m = mapped (λ n. (done, Decl_code n)) (name_at t) q h in
    let n = name_at-is t m.0 m.1 in
    subst (λ (u : Token). Ends done s (Declares ∷ u ∷ ts)) (sym n.0) (moved (done, Decl_code m.0) q s ts m.2 f n.1)
step_back done (Decl_code n) s t q ts h f = λ named.
    (let m = mapped (λ c. (done, Decl_vendor n c)) (number_at 0 max_number t) q h in
    let c = number_at-is 0 max_number t m.0 m.1 in
    subst (λ (u : Token). Ends done s (Declares ∷ Name n ∷ u ∷ ts)) (sym c.0) (moved (done, Decl_vendor n m.0) q s ts m.2 f named c.2))
step_back done (Decl_vendor n c) s t q ts h f = vendor_back done s n c t q ts h f
step_back done (Decl_number n c) s t q ts h f = λ named small.
    (let m = mapped (λ v. (done, Decl_format n c v)) (number_at 0 max_number t) q h in
    let v = number_at-is 0 max_number t m.0 m.1 in
    subst (λ (u : Token). Ends done s (Declares ∷ Name n ∷ Number c ∷ Name (codes "vendor") ∷ u ∷ ts)) (sym v.0) (moved (done, Decl_format n c m.0) q s ts m.2 f named small v.2))
step_back done (Decl_format n c v) s t q ts h f = λ named small small2.
    (let m = mapped (λ g. (done, Decl_rule n c v g)) (format_at t) q h in
    subst (λ (u : Token). Ends done s (Declares ∷ Name n ∷ Number c ∷ Name (codes "vendor") ∷ Number v ∷ u ∷ ts)) (sym (format_at-is t m.0 m.1))
    (moved (done, Decl_rule n c v m.0) q s ts m.2 f named small (Name (codes "vendor") ∷ Number v ∷ []) (inr (Name (codes "vendor") ∷ [], Number v ∷ [], refl, refl, (small2, refl)))))
step_back done (Decl_rule n c v g) s t q ts h f = λ named small vs of_vendor.
    (let m = mapped (λ r. (done, Decl_values (record { name = n; code = c; vendor = v; format = g; values = None; rule = r }))) (rule_at t) q h in
    subst (λ (u : Token). Ends done s (Declares ∷ Name n ∷ Number c ∷ (vs ++ Name (format_word g) ∷ u ∷ ts))) (sym (rule_at-is t m.0 m.1))
    (moved (done, Decl_values (record { name = n; code = c; vendor = v; format = g; values = None; rule = m.0 })) q s ts m.2 f (record { named = named; small = small; unlisted = refl }) vs of_vendor))
step_back done (Decl_values d) s t q ts h f = list_back done s d t q ts h f
step_back done (In_values d ranges) s t q ts h f = values_back done s d ranges t q ts h f
step_back done (After_value d ranges n) s t q ts h f = range_back done s d ranges n t q ts h f
step_back done (After_dots d ranges low) s t q ts h f = λ small.
    (let m = mapped (λ n. (done, In_values d (ranges ++ (low, n) ∷ []))) (number_at low max_value t) q h in
    let n = number_at-is low max_value t m.0 m.1 in
    subst (λ (u : Token). Values_follow done s d ranges (Number low ∷ Dots ∷ u ∷ ts)) (sym n.0)
    (range_more done s d ranges (low, m.0) (Number low ∷ Dots ∷ Number m.0 ∷ []) ts
    (n.1, inr (Number low ∷ [], Dots ∷ Number m.0 ∷ [], refl, (small, refl), (Dots ∷ [], Number m.0 ∷ [], refl, refl, (n.2, refl))))
    (moved (done, In_values d (ranges ++ (low, m.0) ∷ [])) q s ts m.2 f)))
step_back done Def_name s t q ts h f =
    let m = mapped (λ n. (done, Def_close n)) (name_at t) q h in
    let n = name_at-is t m.0 m.1 in
    record { text = m.0; rest = ts; parts = ap (λ (u : Token). u ∷ ts) n.0; named = n.1; closes = moved (done, Def_close m.0) q s ts m.2 f }
step_back done (Def_close n) s t q ts h f =
    let m = mapped (λ u. (done, Def_assign n)) (sign_at Greater t) q h in
    record { rest = ts; parts = ap (λ (u : Token). u ∷ ts) (sign_at-is Greater t m.0 m.1); assigns = moved (done, Def_assign n) q s ts m.2 f }
step_back done (Def_assign n) s t q ts h f =
    let m = mapped (λ u. (done, Head_open n)) (sign_at Assign t) q h in
    record { rest = ts; parts = ap (λ (u : Token). u ∷ ts) (sign_at-is Assign t m.0 m.1); opens = moved (done, Head_open n) q s ts m.2 f }
step_back done (Head_open n) s t q ts h f =
    let m = mapped (λ u. (done, In_head n Head_word)) (sign_at Less t) q h in
    record { rest = ts; parts = ap (λ (u : Token). u ∷ ts) (sign_at-is Less t m.0 m.1); heads = moved (done, In_head n Head_word) q s ts m.2 f }
step_back done (In_head n at) s t q ts h f = head_step done s n at t q ts h f
step_back done (Rules d) s t q ts h f = rules_back done s d t q ts h f
step_back done (Qual_min d n) s t q ts h f = λ small.
    (let m = mapped (λ u. (done, Qual_star d (Some n))) (sign_at Star t) q h in
    subst (λ (u : Token). Rules_follow done s d (Number n ∷ u ∷ ts)) (sym (sign_at-is Star t m.0 m.1)) (moved (done, Qual_star d (Some n)) q s ts m.2 f small))
step_back done (Qual_star d min) s t q ts h f = star_back done s d min t q ts h f
step_back done (Qual_done d qual) s t q ts h f = bracket_back done s d qual t q ts h f
step_back done (Fixed_name d qual) s t q ts h f = λ small fixed.
    (let m = mapped (λ n. (done, Fixed_close d qual n)) (name_at t) q h in
    let n = name_at-is t m.0 m.1 in
    subst (λ (u : Token). Rules_follow done s d (qual_tokens (Some qual) ++ Less ∷ u ∷ ts)) (sym n.0) (moved (done, Fixed_close d qual m.0) q s ts m.2 f small fixed n.1))
step_back done (Fixed_close d qual n) s t q ts h f = λ small fixed named.
    (let m = mapped (λ u. (done, Rules (with_rule d (fixed_rule n (Some qual))))) (sign_at Greater t) q h in
    subst (λ (u : Token). Rules_follow done s d (qual_tokens (Some qual) ++ Less ∷ Name n ∷ u ∷ ts)) (sym (sign_at-is Greater t m.0 m.1))
    (fixed_back done s d n (Some qual) ts named small fixed (moved (done, Rules (with_rule d (fixed_rule n (Some qual)))) q s ts m.2 f)))
step_back done (Angle_name d) s t q ts h f =
    let m = mapped (λ n. (done, Angle_close d n)) (name_at t) q h in
    let n = name_at-is t m.0 m.1 in
    subst (λ (u : Token). Rules_follow done s d (Less ∷ u ∷ ts)) (sym n.0) (moved (done, Angle_close d m.0) q s ts m.2 f n.1)
step_back done (Angle_close d n) s t q ts h f = λ named.
    (let m = mapped (λ u. (done, After_angle d n)) (sign_at Greater t) q h in
    subst (λ (u : Token). Rules_follow done s d (Less ∷ Name n ∷ u ∷ ts)) (sym (sign_at-is Greater t m.0 m.1)) (moved (done, After_angle d n) q s ts m.2 f named))
step_back done (After_angle d n) s t q ts h f = angle_step done s d n t q ts h f
step_back done (Loose_name d kind qual) s t q ts h f = λ small free.
    (let m = mapped (λ n. (done, Loose_close d (record { kind = kind; name = n; qual = qual }))) (slot_at t) q h in
    let n = slot_at-is t m.0 m.1 in
    subst (λ (us : List Token). Rules_follow done s d (qual_tokens qual ++ open_sign kind ∷ us)) (sym (ap (λ (us : List Token). us ++ ts) n.0))
    (moved (done, Loose_close d (record { kind = kind; name = m.0; qual = qual })) q s ts m.2 f small free n.1))
step_back done (Loose_close d r) s t q ts h f = λ small free named.
    (let m = mapped (λ u. (done, Rules (with_rule d r))) (sign_at (closing_sign r.kind) t) q h in
    subst (λ (u : Token). Rules_follow done s d (qual_tokens r.qual ++ open_sign r.kind ∷ (slot_tokens r.name ++ u ∷ ts))) (sym (sign_at-is (closing_sign r.kind) t m.0 m.1))
    (loose_closed done s d r ts small free named (moved (done, Rules (with_rule d r)) q s ts m.2 f)))

-- ---- whole runs

angle_ends : (done s : PlainSource) (d : PlainDef) (n : List ℕ) → whole_at done (After_angle d n) ≡ Some s → is_name n ≡ true → Rules_follow done s d (Less ∷ Name n ∷ Greater ∷ [])
angle_ends done s d n h named =
    let g = guarded (all_fixed d.rules) (add_def done (with_rule d (fixed_rule n None))) s h in
    fixed_back done s d n None [] named tt g.0 (rules_end done s (with_rule d (fixed_rule n None)) []
    (subst (λ (x : PlainSource). Ends (add_def done (with_rule d (fixed_rule n None))) x []) g.1 (ends_none (add_def done (with_rule d (fixed_rule n None))))))

ends_at : (done : PlainSource) (p : Place) (s : PlainSource) → whole_at done p ≡ Some s → Follows done p s []
ends_at done Between s h = subst (λ (x : PlainSource). Ends done x []) (some_is done s h) (ends_none done)
ends_at done (Decl_values d) s h = λ sound vs of_vendor.
    decl_made done s d vs [] [] sound.named sound.small of_vendor (none_values d.format d.values sound.unlisted)
    (subst (λ (x : PlainSource). Ends (add_decl done d) x []) (some_is (add_decl done d) s h) (ends_none (add_decl done d)))
ends_at done (Rules d) s h = rules_end done s d [] (subst (λ (x : PlainSource). Ends (add_def done d) x []) (some_is (add_def done d) s h) (ends_none (add_def done d)))
ends_at done (After_angle d n) s h = angle_ends done s d n h
ends_at done p s h = absurd cc

ended_at : (o : Option PlainSource) (s : PlainSource) → ended o ≡ Reads s → o ≡ Some s
ended_at None s h = absurd cc
ended_at (Some x) s h = cc

read_on : (o : Option State) (stopped : Outcome) (on : State → Outcome) (s : PlainSource) → gone_on o stopped on ≡ Reads s
    → ((x : PlainSource) → stopped ≡ Reads x → ⊥) → (q : State) × (o ≡ Some q) × (on q ≡ Reads s)
read_on None stopped on s h never = absurd (never s h)
read_on (Some q) stopped on s h never = (q, refl, h)

sound_at : (state : State) (ts : List Token) (s : PlainSource) → outcome state ts ≡ Reads s → Follows_state state s ts
sound_at state [] s h = ends_at state.0 state.1 s (ended_at (whole state) s h)
sound_at state (t ∷ ts) s h =
    let k = read_on (next state t) _ (λ to. outcome to ts) s h (λ x e. absurd cc) in
    step_back state.0 state.1 s t k.0 ts k.1 (sound_at k.0 ts s k.2)

-- what the machine reads is derived
pub sound : (ts : List Token) (s : PlainSource) → outcome (nothing_read, Between) ts ≡ Reads s → Derives ts s
sound ts s h = let k = sound_at (nothing_read, Between) ts s h in (k.0, k.1, k.2 ∙ after-source k.0)
