-- The declarations that the grammar derives, the machine reads.
use Rattle.std.proofs.Common.{◌≡◌, ℕ, ◌≤◌, Bool, true, false, List, [], ◌∷◌, ◌++◌, Option, Some, None, refl, sym, ap, subst, ◌∙◌, append_assoc, arith, ◌⊎◌, ⊎_elim}
use Rattle.std.specs.Prelude.{codes, ◌&&◌, not}
use Rattle.std.specs.Option.{option_map}
use Rattle.std.proofs.lemmas.Option.{none-some}
use Rattle.std.proofs.lemmas.List.{append-nil}
use Rattle.dia_terms.specs.declared.FormatName.{FormatName}
use Rattle.dia_terms.specs.declared.FormatName.TheVariants as format
use Rattle.dia_terms.specs.declared.MRule.{MRule}
use Rattle.dia_terms.specs.Formats.{format_named, format_word, is_enumerated}
use Rattle.dia_ccf.specs.Names.{is_name, same_bytes}
use Rattle.dia_ccf.specs.Plain.{PlainDecl, PlainSource}
use Rattle.dia_ccf.specs.Tokens.{Token, Open_parenthesis, Close_parenthesis, Dots, Declares, Number, Name}
use Rattle.dia_ccf.specs.Grammar.{Tokens, ◌then◌, one, word, name, number, each, rule_word, vendor, range, values}
use Rattle.dia_ccf.specs.Grammar.{declaration, rule}
use Rattle.dia_ccf.specs.Limits.{max_number, max_value}
use Rattle.dia_ccf.specs.Machine.{State, Between, Decl_name, Decl_code, Decl_vendor, Decl_number, Decl_format, Decl_rule, Decl_values, In_values, After_value, After_dots}
use Rattle.dia_ccf.specs.Machine.{next, on_item, add_decl, with_values, is_none, same_sign, is_word, format_at}
use Rattle.dia_ccf.specs.Machine.{outcome}
use Rattle.dia_ccf.specs.ReaderFunctions.{begins_with}
use Rattle.dia_ccf.proofs.TokenTests.{rule_named-word, same_bytes-is}
use Rattle.dia_terms.proofs.FormatWords.{format_named-word}
use Rattle.dia_ccf.proofs.MachineRuns.{take_one, outcome_same, number_at-some}
use Rattle.dia_ccf.proofs.HeadCompleteness.{Taken, taken_then, taken_one, taken_number}

-- ---- what is ahead

pub ahead_not : (test : Token → Bool) (t : Token) (us ts : List Token) → begins_with test ts ≡ false → ts ≡ t ∷ us → test t ≡ false
ahead_not test t us ts h e = ap (begins_with test) (sym e) ∙ h

pub and_false : (b : Bool) → (b && false) ≡ false
and_false true = refl
and_false false = refl

pub taken_name : (text : List ℕ) (p q : State) → (is_name text ≡ true → next p (Name text) ≡ Some q) → Taken (name text) p q
taken_name text p q h front us (named, is) = ap (λ (f : List Token). outcome p (f ++ us)) is ∙ take_one p (Name text) q us (h named)

-- ---- values

pub value_alone : (done : PlainSource) (d : PlainDecl) (ranges : List (ℕ × ℕ)) (n : ℕ) (us : List Token) → begins_with (same_sign Dots) us ≡ false
    → outcome (done, After_value d ranges n) us ≡ outcome (done, In_values d (ranges ++ (n, n) ∷ [])) us
value_alone done d ranges n us h = outcome_same (done, After_value d ranges n) (done, In_values d (ranges ++ (n, n) ∷ [])) us
    (λ t vs e. (rw (ahead_not (same_sign Dots) t vs us h e) refl, refl)) (λ e. refl)

number_in_values : (done : PlainSource) (d : PlainDecl) (ranges : List (ℕ × ℕ)) (n : ℕ) → n ≤ max_value → next (done, In_values d ranges) (Number n) ≡ Some (done, After_value d ranges n)
number_in_values done d ranges n small = rw (and_false (not (is_none ranges)), number_at-some 0 max_value n (omega arith) small) refl

ahead_values : (rs : List (ℕ × ℕ)) (ws us : List Token) → each range rs ws → begins_with (same_sign Dots) (ws ++ Close_parenthesis ∷ us) ≡ false
ahead_values [] ws us h = rw h refl
ahead_values (r ∷ rs) ws us (xs, ys, parts, (ordered, h), k) =
    ⊎_elim (λ (e, (small, is)). rw (parts, is) refl) (λ (cs, bs, inner, (small, is), l). rw (parts, inner, is) refl) h

range_taken : (done : PlainSource) (d : PlainDecl) (ranges : List (ℕ × ℕ)) (r : ℕ × ℕ) (xs us : List Token) → range r xs
    → begins_with (same_sign Dots) us ≡ false → outcome (done, In_values d ranges) (xs ++ us) ≡ outcome (done, In_values d (ranges ++ r ∷ [])) us
range_taken done d ranges r xs us (ordered, h) free =
    ⊎_elim (λ (e, (small, is)).
    ap (λ (f : List Token). outcome (done, In_values d ranges) (f ++ us)) is
    ∙ take_one (done, In_values d ranges) (Number r.0) (done, After_value d ranges r.0) us (number_in_values done d ranges r.0 small)
    ∙ value_alone done d ranges r.0 us free
    ∙ ap (λ (n : ℕ). outcome (done, In_values d (ranges ++ (r.0, n) ∷ [])) us) e)
    (λ dotted. taken_then (number max_value r.0) (one Dots then number max_value r.1) (done, In_values d ranges) (done, After_value d ranges r.0) (done, In_values d (ranges ++ r ∷ []))
    (taken_number max_value r.0 (done, In_values d ranges) (done, After_value d ranges r.0) (number_in_values done d ranges r.0))
    (taken_then (one Dots) (number max_value r.1) (done, After_value d ranges r.0) (done, After_dots d ranges r.0) (done, In_values d (ranges ++ r ∷ []))
    (taken_one Dots (done, After_value d ranges r.0) (done, After_dots d ranges r.0) refl)
    (taken_number max_value r.1 (done, After_dots d ranges r.0) (done, In_values d (ranges ++ r ∷ [])) (λ small. rw (number_at-some r.0 max_value r.1 ordered small) refl)))
    xs us dotted) h

pub values_taken : (done : PlainSource) (d : PlainDecl) (rs ranges : List (ℕ × ℕ)) (ws us : List Token) → each range rs ws → not (is_none (ranges ++ rs)) ≡ true
    → outcome (done, In_values d ranges) (ws ++ Close_parenthesis ∷ us) ≡ outcome (add_decl done (with_values d (ranges ++ rs)), Between) us
values_taken done d [] ranges ws us h some =
    let some_now : not (is_none ranges) ≡ true = rw append-nil at some in
    ap (λ (f : List Token). outcome (done, In_values d ranges) (f ++ Close_parenthesis ∷ us)) h
    ∙ take_one (done, In_values d ranges) Close_parenthesis (add_decl done (with_values d ranges), Between) us (rw some_now refl)
    ∙ ap (λ (f : List (ℕ × ℕ)). outcome (add_decl done (with_values d f), Between) us) (sym (append-nil ranges))
values_taken done d (r ∷ rs) ranges ws us (xs, ys, parts, h, k) some =
    ap (λ (f : List Token). outcome (done, In_values d ranges) (f ++ Close_parenthesis ∷ us)) parts
    ∙ ap (outcome (done, In_values d ranges)) (append_assoc xs ys (Close_parenthesis ∷ us))
    ∙ range_taken done d ranges r xs (ys ++ Close_parenthesis ∷ us) h (ahead_values rs ys us k)
    ∙ values_taken done d rs (ranges ++ r ∷ []) ys us k (rw append_assoc some)
    ∙ ap (λ (f : List (ℕ × ℕ)). outcome (add_decl done (with_values d f), Between) us) (append_assoc ranges (r ∷ []) rs)

-- ---- declarations

no_vendor : (f : FormatName) → is_word (codes "vendor") (Name (format_word f)) ≡ false
no_vendor f = by (same_bytes (format_word f) (codes "vendor")) refl
  where
    by : (b : Bool) → same_bytes (format_word f) (codes "vendor") ≡ b → b ≡ false
    by false e = refl
    by true e =
        let same : format_word f ≡ codes "vendor" = same_bytes-is (format_word f) (codes "vendor") e in
        let none : format_named (codes "vendor") ≡ None = refl in
        absurd (none-some f (sym none ∙ ap format_named (sym same) ∙ format_named-word f))

format_at-word : (f : FormatName) → format_at (Name (format_word f)) ≡ Some f
format_at-word f = format_named-word f

vendor_taken : (done : PlainSource) (n : List ℕ) (c v : ℕ) (f : FormatName) → Taken (vendor v then word (format_word f)) (done, Decl_vendor n c) (done, Decl_rule n c v f)
vendor_taken done n c v f front us (xs, ys, parts, h, k) =
    ⊎_elim (λ (e, zero_is). subst (λ (m : ℕ). outcome (done, Decl_vendor n c) (front ++ us) ≡ outcome (done, Decl_rule n c m f) us) (sym zero_is)
    (taken_one (Name (format_word f)) (done, Decl_vendor n c) (done, Decl_rule n c 0 f) (rw (no_vendor f, format_at-word f) refl) front us (parts ∙ ap (λ (g : List Token). g ++ ys) e ∙ k)))
    (λ with_word. taken_then (word (codes "vendor") then number max_number v) (word (format_word f)) (done, Decl_vendor n c) (done, Decl_format n c v) (done, Decl_rule n c v f)
    (taken_then (word (codes "vendor")) (number max_number v) (done, Decl_vendor n c) (done, Decl_number n c) (done, Decl_format n c v)
    (taken_one (Name (codes "vendor")) (done, Decl_vendor n c) (done, Decl_number n c) refl)
    (taken_number max_number v (done, Decl_number n c) (done, Decl_format n c v) (λ small. rw (number_at-some 0 max_number v (omega arith) small) refl)))
    (taken_one (Name (format_word f)) (done, Decl_format n c v) (done, Decl_rule n c v f) (rw (format_at-word f) refl))
    front us (xs, ys, parts, with_word, k)) h

-- what is read of a class leads from one state to another, where this follows
abbrev Taken_before : List Token → Tokens → State → State → Type 0
Taken_before us class p q = (front : List Token) → class front → outcome p (front ++ us) ≡ outcome q us

before_then : (us : List Token) (a b : Tokens) (p q r : State) → Taken a p q → Taken_before us b q r → Taken_before us (a then b) p r
before_then us a b p q r first second front (xs, ys, parts, h, k) = ap (λ (f : List Token). outcome p (f ++ us)) parts ∙ ap (outcome p) (append_assoc xs ys us) ∙ first xs (ys ++ us) h ∙ second ys k

abbrev pub unlisted : PlainDecl → PlainDecl
unlisted d = record d { values = None }

rule_of_decl : (done : PlainSource) (d : PlainDecl) → Taken (word (rule_word d.rule)) (done, Decl_rule d.name d.code d.vendor d.format) (done, Decl_values (unlisted d))
rule_of_decl done d = taken_one (Name (rule_word d.rule)) (done, Decl_rule d.name d.code d.vendor d.format) (done, Decl_values (unlisted d))
    (ap (λ (o : Option MRule). option_map (λ rule. (done, Decl_values (record { name = d.name; code = d.code; vendor = d.vendor; format = d.format; values = None; rule = rule }))) o)
    (rule_named-word d.rule))

pub decl_taken : (done : PlainSource) (d : PlainDecl) (us : List Token) (q : State)
    → Taken_before us (values d.format d.values) (done, Decl_values (unlisted d)) q → Taken_before us (declaration d) (done, Between) q
decl_taken done d us q h =
    before_then us (one Declares) (name d.name then number max_number d.code then vendor d.vendor then word (format_word d.format) then word (rule_word d.rule) then values d.format d.values) (
      done,
      Between,
    ) (done, Decl_name) q
    (taken_one Declares (done, Between) (done, Decl_name) refl)
    (before_then us (name d.name) (number max_number d.code then vendor d.vendor then word (format_word d.format) then word (rule_word d.rule) then values d.format d.values) (
      done,
      Decl_name,
    ) (done, Decl_code d.name) q
    (taken_name d.name (done, Decl_name) (done, Decl_code d.name) (λ named. rw named refl))
    (before_then us (number max_number d.code) (vendor d.vendor then word (format_word d.format) then word (rule_word d.rule) then values d.format d.values) (
      done,
      Decl_code d.name,
    ) (done, Decl_vendor d.name d.code) q
    (taken_number max_number d.code (done, Decl_code d.name) (done, Decl_vendor d.name d.code) (λ small. rw (number_at-some 0 max_number d.code (omega arith) small) refl))
    (λ front (xs, ys, parts, of_vendor, (cs, bs, inner, of_format, k)).
    before_then us (vendor d.vendor then word (format_word d.format)) (word (rule_word d.rule) then values d.format d.values) (
      done,
      Decl_vendor d.name d.code,
    ) (done, Decl_rule d.name d.code d.vendor d.format) q
    (vendor_taken done d.name d.code d.vendor d.format)
    (before_then us (word (rule_word d.rule)) (values d.format d.values) (done, Decl_rule d.name d.code d.vendor d.format) (done, Decl_values (unlisted d)) q (rule_of_decl done d) h)
    front (xs ++ cs, bs, parts ∙ ap (λ (f : List Token). xs ++ f) inner ∙ sym (append_assoc xs cs bs), (xs, cs, refl, of_vendor, of_format), k))))

past_list : (done : PlainSource) (d : PlainDecl) (t : Token) → same_sign Open_parenthesis t ≡ false → next (done, Decl_values d) t ≡ on_item (add_decl done d) t
past_list done d t h = rw (h, and_false (is_enumerated d.format)) refl

pub decl_settled : (done : PlainSource) (d : PlainDecl) (us : List Token) → begins_with (same_sign Open_parenthesis) us ≡ false
    → outcome (done, Decl_values d) us ≡ outcome (add_decl done d, Between) us
decl_settled done d us h =
    outcome_same (done, Decl_values d) (add_decl done d, Between) us
    (λ t vs e. (past_list done d t (ahead_not (same_sign Open_parenthesis) t vs us h e), rw (past_list done d (Number 0) refl, past_list done d (Name (codes "a")) refl) refl))
    (λ e. refl)
