-- Steps of the reader in a declaration.
use Rattle.std.proofs.Common.{◌≡◌, ℕ, Bool, true, false, List, [], ◌∷◌, ◌++◌, None, Result, Ok, Err, length, refl, sym, ap, subst, ◌∙◌}
use Rattle.std.specs.Prelude.{◌&&◌, not, nat_lt, is_some, codes, IsTrue, String, string_bytes}
use Rattle.std.specs.List.{list_all}
use Rattle.std.specs.Global.{Global}
use Rattle.std.proofs.lemmas.List.Folds.{list_all-append}
use Rattle.dia_terms.specs.declared.FormatName.{FormatName}
use Rattle.dia_terms.specs.declared.MRule.{MRule}
use Rattle.dia_terms.specs.declared.MRule.TheVariants.{Must, MustNot, Any}
use Rattle.dia_terms.specs.declared.FormatName.TheVariants.{Enumerated}
use Rattle.dia_terms.specs.contracts.formats.FormatName.{the_type}
use Rattle.dia_terms.specs.Formats.{is_enumerated}
use denote.Enum.Bare.{sameb}
use Rattle.dia_ccf.specs.declared.reading.refusal.Refusal.{Refusal}
use Rattle.dia_ccf.specs.declared.reading.refusal.Refusal.TheVariants as refusal
use Rattle.dia_ccf.specs.declared.reading.Reader.{Reader}
use Rattle.dia_ccf.specs.Limits.{max_number, max_name}
use Rattle.dia_ccf.specs.Names.{is_range}
use Rattle.dia_ccf.specs.Plain.{PlainSource, PlainDecl}
use Rattle.dia_ccf.specs.Tokens.{Token, Name, Open_parenthesis, Close_parenthesis}
use Rattle.dia_ccf.specs.Machine.{Between, Decl_name, Decl_code, Decl_vendor, Decl_number, Decl_format, Decl_rule, Decl_values, In_values, add_decl, with_values}
use Rattle.dia_ccf.specs.Machine.{name_at, number_at, format_at, rule_at, same_sign, is_word, is_none}
use Rattle.dia_ccf.specs.ReaderFunctions.{course, left, begins_with, why_ahead, Passes, Accepts, Leads, Takes}
use Rattle.dia_ccf.specs.Grammar.{rule_word}
use Rattle.dia_ccf.proofs.TokenTests.{word-is, rule_named-word}
use Rattle.dia_ccf.proofs.MachineRuns.{outcome_same}
use Rattle.dia_ccf.proofs.DeclarationCompleteness.{and_false}
use Rattle.dia_ccf.proofs.ReaderSteps.{accepted, wants_all, passes_one, takes_sign, stays, leads_along}
use Rattle.dia_ccf.proofs.ReaderInRules.{and_true}

-- ---- single tokens

pub name_leads : (done : PlainSource) (old new : Reader) (result : Result (String Global) Refusal) → Accepts false true name_at (λ s. string_bytes s) old result new
    → Leads (course (done, Decl_name) old) (λ s. (done, Decl_code (string_bytes s))) result new
name_leads done old new result recorded =
    accepted false true name_at (λ s. string_bytes s) (λ s. (done, Decl_code s)) (done, Decl_name) old new result
    (wants_all false true name_at (λ s. (done, Decl_code s)) (done, Decl_name) (λ t. refl) (λ t. refl) refl (left old)) recorded

pub code_leads : (done : PlainSource) (n : List ℕ) (old new : Reader) (result : Result ℕ Refusal) → Accepts true false (number_at 0 max_number) (λ m. m) old result new
    → Leads (course (done, Decl_code n) old) (λ m. (done, Decl_vendor n m)) result new
code_leads done n old new result recorded =
    accepted true false (number_at 0 max_number) (λ m. m) (λ m. (done, Decl_vendor n m)) (done, Decl_code n) old new result
    (wants_all true false (number_at 0 max_number) (λ m. (done, Decl_vendor n m)) (done, Decl_code n) (λ t. refl) (λ t. refl) refl (left old)) recorded

pub format_leads : (done : PlainSource) (n : List ℕ) (code vendor : ℕ) (old new : Reader) (result : Result FormatName Refusal) → Accepts false false format_at (λ f. f) old result new
    → Leads (course (done, Decl_format n code vendor) old) (λ f. (done, Decl_rule n code vendor f)) result new
format_leads done n code vendor old new result recorded =
    accepted false false format_at (λ f. f) (λ f. (done, Decl_rule n code vendor f)) (done, Decl_format n code vendor) old new result
    (wants_all false false format_at (λ f. (done, Decl_rule n code vendor f)) (done, Decl_format n code vendor) (λ t. refl) (λ t. refl) refl (left old)) recorded

-- a declaration without its values
abbrev pub bare : List ℕ → ℕ → ℕ → FormatName → MRule → PlainDecl
bare n code vendor format rule = record { name = n; code = code; vendor = vendor; format = format; values = None; rule = rule }

pub rule_leads : (done : PlainSource) (n : List ℕ) (code vendor : ℕ) (format : FormatName) (old new : Reader) (result : Result MRule Refusal) → Accepts false false rule_at (λ r. r) old result new
    → Leads (course (done, Decl_rule n code vendor format) old) (λ r. (done, Decl_values (bare n code vendor format r))) result new
rule_leads done n code vendor format old new result recorded =
    accepted false false rule_at (λ r. r) (λ r. (done, Decl_values (bare n code vendor format r))) (done, Decl_rule n code vendor format) old new result
    (wants_all false false rule_at (λ r. (done, Decl_values (bare n code vendor format r))) (done, Decl_rule n code vendor format) (λ t. refl) (λ t. refl) refl (left old)) recorded

-- ---- the vendor

pub vendor_leads : (done : PlainSource) (n : List ℕ) (code : ℕ) (old mid new : Reader) (result : Result ℕ Refusal) → Takes (is_word (codes "vendor")) old true mid
    → Accepts true false (number_at 0 max_number) (λ m. m) mid result new → Leads (course (done, Decl_vendor n code) old) (λ v. (done, Decl_format n code v)) result new
vendor_leads done n code old mid new result (t, e, passes) recorded =
    leads_along (course (done, Decl_vendor n code) old) (course (done, Decl_number n code) mid) (λ v. (done, Decl_format n code v)) result new
    (passes_one (done, Decl_vendor n code) (done, Decl_number n code) t old mid passes (rw e refl))
    (accepted true false (number_at 0 max_number) (λ m. m) (λ v. (done, Decl_format n code v)) (done, Decl_number n code) mid new result
    (wants_all true false (number_at 0 max_number) (λ v. (done, Decl_format n code v)) (done, Decl_number n code) (λ t. refl) (λ t. refl) refl (left mid)) recorded)

pub no_vendor : (done : PlainSource) (n : List ℕ) (code : ℕ) (old new : Reader) → begins_with (is_word (codes "vendor")) (left old) ≡ false → new ≡ old
    → course (done, Decl_vendor n code) old ≡ course (done, Decl_format n code 0) new
no_vendor done n code old new none same =
    stays (done, Decl_vendor n code) (done, Decl_format n code 0) old new same
    (outcome_same (done, Decl_vendor n code) (done, Decl_format n code 0) (left old) (λ t us e.
    let other : is_word (codes "vendor") t ≡ false = ap (begins_with (is_word (codes "vendor"))) (sym e) ∙ none in
    (rw other refl, refl)) (λ e. refl))

-- ---- the rule

pub rule_recorded : (r : MRule) (old mid new : Reader) → mid ≡ old → Takes (is_word (rule_word r)) mid true new → Accepts false false rule_at (λ x. x) old (Ok r) new
rule_recorded r old mid new same (t, e, passes) = (t, ap rule_at (word-is (rule_word r) t e) ∙ rule_named-word r, subst (λ (from : Reader). Passes from (t ∷ []) new) same passes)

no_rule_ahead : (ts : List Token) → begins_with (is_word (rule_word Must)) ts ≡ false → begins_with (is_word (rule_word MustNot)) ts ≡ false → begins_with (is_word (rule_word Any)) ts ≡ false
    → (begins_with (λ t. is_some (rule_at t)) ts ≡ false) × (refusal.Syntax ≡ why_ahead false false ts)
no_rule_ahead [] a b c = (refl, refl)
no_rule_ahead (Name w ∷ us) a b c = (rw (a, b, c) refl, rw (and_false (nat_lt max_name (length w))) refl)
no_rule_ahead (t ∷ us) a b c = (refl, refl)

pub no_rule : (old first second new : Reader) → Takes (is_word (rule_word Must)) old false first → Takes (is_word (rule_word MustNot)) first false second
    → Takes (is_word (rule_word Any)) second false new → Accepts false false rule_at (λ (x : MRule). x) old (Err refusal.Syntax) new
no_rule old first second new (a, e) (b, f) (c, g) =
    let other = ap (λ (r : Reader). begins_with (is_word (rule_word MustNot)) (left r)) (sym e) ∙ b in
    let third = ap (λ (r : Reader). begins_with (is_word (rule_word Any)) (left r)) (sym (f ∙ e)) ∙ c in
    let recorded = no_rule_ahead (left old) a other third in
    (g ∙ f ∙ e, recorded.0, recorded.1)

-- ---- values

pub enumerated_is : (f : FormatName) → is_enumerated f ≡ sameb the_type f Enumerated
enumerated_is Enumerated = refl
enumerated_is f = refl

pub values_opened : (done : PlainSource) (d : PlainDecl) (old new : Reader) → is_enumerated d.format ≡ true → Takes (same_sign Open_parenthesis) old true new
    → course (done, Decl_values d) old ≡ course (done, In_values d []) new
values_opened done d old new listed taken = takes_sign (done, Decl_values d) (done, In_values d []) Open_parenthesis old new taken (rw listed refl)

pub no_values : (done : PlainSource) (d : PlainDecl) (old new : Reader) → new ≡ old → (is_enumerated d.format && begins_with (same_sign Open_parenthesis) (left old)) ≡ false
    → course (done, Decl_values d) old ≡ course (add_decl done d, Between) new
no_values done d old new same h =
    stays (done, Decl_values d) (add_decl done d, Between) old new same
    (outcome_same (done, Decl_values d) (add_decl done d, Between) (left old) (λ t us e.
    let free : (is_enumerated d.format && same_sign Open_parenthesis t) ≡ false = ap (λ (ts : List Token). is_enumerated d.format && begins_with (same_sign Open_parenthesis) ts) (sym e) ∙ h in
    (rw free refl, rw (and_false (is_enumerated d.format)) refl)) (λ e. refl))

-- ---- ranges

pub some_more : (ranges more : List (ℕ × ℕ)) (range : ℕ × ℕ) → more ≡ ranges ++ range ∷ [] → is_none more ≡ false
some_more ranges more range e = ap is_none e ∙ by_front ranges
  where
    by_front : (rs : List (ℕ × ℕ)) → is_none (rs ++ range ∷ []) ≡ false
    by_front [] = refl
    by_front (r ∷ rs) = refl

pub ranges_more : (ranges more : List (ℕ × ℕ)) (range : ℕ × ℕ) → more ≡ ranges ++ range ∷ [] → IsTrue (list_all is_range ranges) → IsTrue (is_range range) → IsTrue (list_all is_range more)
ranges_more ranges more range e all one =
    ap (list_all is_range) e ∙ list_all-append is_range ranges (range ∷ []) ∙ ap (λ (b : Bool). b && list_all is_range (range ∷ [])) all ∙ and_true (is_range range) ∙ one

pub ranges_closed : (done : PlainSource) (d : PlainDecl) (ranges : List (ℕ × ℕ)) (old new : Reader) → is_none ranges ≡ false → Takes (same_sign Close_parenthesis) old true new
    → course (done, In_values d ranges) old ≡ course (add_decl done (with_values d ranges), Between) new
ranges_closed done d ranges old new some taken =
    takes_sign (done, In_values d ranges) (add_decl done (with_values d ranges), Between) Close_parenthesis old new taken (rw some refl)

pub not_closed : (ranges : List (ℕ × ℕ)) (old new : Reader) → new ≡ old → begins_with (same_sign Close_parenthesis) (left old) ≡ false
    → (not (is_none ranges) && begins_with (same_sign Close_parenthesis) (left new)) ≡ false
not_closed ranges old new same h =
    ap (λ (r : Reader). not (is_none ranges) && begins_with (same_sign Close_parenthesis) (left r)) same
    ∙ ap (λ (b : Bool). not (is_none ranges) && b) h ∙ and_false (not (is_none ranges))
