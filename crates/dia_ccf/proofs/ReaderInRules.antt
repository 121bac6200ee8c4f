-- Steps of the reader among rules.
use Rattle.std.proofs.Common.{◌≡◌, ℕ, ◌<◌, ◌≤◌, arith, Bool, true, false, List, [], ◌∷◌, ◌++◌, map, Option, Some, None, Result, refl, sym, ap, subst, ◌∙◌}
use Rattle.std.specs.Prelude.{◌&&◌, ◌||◌, ◌≢◌, not, IsTrue, IfOk, OnOk, Ok, Err, String, string_bytes}
use Rattle.std.specs.Option.{option_map}
use Rattle.std.specs.Global.{Global}
use Rattle.dia_ccf.specs.declared.reading.refusal.Refusal.{Refusal}
use Rattle.dia_ccf.specs.declared.reading.Reader.{Reader}
use Rattle.dia_ccf.specs.declared.source.Rule.{Rule}
use Rattle.dia_terms.specs.declared.RuleKind.{RuleKind}
use Rattle.dia_terms.specs.declared.RuleKind.TheVariants.{Fixed, Required, Optional}
use Rattle.dia_ccf.specs.declared.source.Qual.{Qual}
use Rattle.dia_ccf.specs.Names.{is_fixed, fixed_first}
use Rattle.dia_ccf.specs.Plain.{PlainSource, PlainDef, PlainRule, plain_rule}
use Rattle.dia_ccf.specs.Tokens.{Token, Number, Star, Less, Open_brace, Open_bracket, Assign}
use Rattle.dia_ccf.specs.Machine.{State, Between, Rules, Qual_done, Loose_name, Loose_close, with_rule, closing_sign, sign_at, slot_at, refused}
use Rattle.dia_ccf.specs.Machine.{why, Fixed_name, After_angle, Def_assign, next, outcome, same_sign, all_fixed, on_loose, begins_loose, begins_qualifier, add_def}
use Rattle.dia_ccf.specs.ReaderFunctions.{left, begins_with, Takes, Accepts, Leads, course, Wants}
use Rattle.dia_ccf.proofs.MachineRuns.{outcome_same}
use Rattle.dia_ccf.proofs.WhatFollows.{in_order, still_fixed, still_loose}
use Rattle.dia_ccf.proofs.DeclarationCompleteness.{and_false}
use Rattle.dia_ccf.proofs.TokenTests.{same_sign-is}
use Rattle.dia_ccf.proofs.ReaderSteps.{takes_sign, passes_one, accepted, wants_all, leads_along}

-- ---- after a qualifier

pub fixed_opened : (done : PlainSource) (d : PlainDef) (qual : Qual) (fixed : Bool) (old new : Reader) → all_fixed d.rules ≡ fixed → fixed ≡ true
    → Takes (same_sign Less) old true new → course (done, Qual_done d qual) old ≡ course (done, Fixed_name d qual) new
fixed_opened done d qual fixed old new e f taken = takes_sign (done, Qual_done d qual) (done, Fixed_name d qual) Less old new taken (rw (e ∙ f) refl)

pub loose_wanted : (done : PlainSource) (d : PlainDef) (qual : Qual) (fixed : Bool) (ts : List Token) → all_fixed d.rules ≡ fixed
    → (fixed && begins_with (same_sign Less) ts) ≡ false → Wants false false (on_loose done d (Some qual)) (done, Qual_done d qual) ts
loose_wanted done d qual fixed [] e h = refl
loose_wanted done d qual fixed (t ∷ us) e h =
    let f : (all_fixed d.rules && same_sign Less t) ≡ false = ap (λ (b : Bool). b && same_sign Less t) e ∙ h in
    (rw f refl, rw (and_false (all_fixed d.rules)) refl)

-- no fixed rule is ahead
pub loose_along : (done : PlainSource) (d : PlainDef) (qual : Qual) (fixed : Bool) (old mid : Reader) → all_fixed d.rules ≡ fixed
    → ((fixed && begins_with (same_sign Less) (left old)) ≡ false) × (mid ≡ old)
    → (course (done, Qual_done d qual) old ≡ course (done, Qual_done d qual) mid) × Wants false false (on_loose done d (Some qual)) (done, Qual_done d qual) (left mid)
loose_along done d qual fixed old mid e (none, same) = (
  ap (course (done, Qual_done d qual)) (sym same),
  subst (λ (r : Reader). Wants false false (on_loose done d (Some qual)) (done, Qual_done d qual) (left r)) (sym same) (loose_wanted done d qual fixed (left old) e none),
)

pub never_fixed : (result : Result Rule Refusal) (fixed : Bool) → IfOk result (λ r. r.kind ≢ Fixed) → IfOk result (λ r. r.kind ≡ Fixed → fixed ≡ true)
never_fixed (Ok r) fixed h = λ k. absurd (h k)
never_fixed (Err e) fixed h = tt

pub farther_yet : {X : Type 0} (result : Result X Refusal) (a b c : ℕ) → a ≤ b → OnOk result (b < c) → OnOk result (a < c)
farther_yet (Ok x) a b c h k = omega (arith, h, k)
farther_yet (Err e) a b c h k = tt

-- ---- the brackets of a rule that is not fixed

-- what was read of a rule
abbrev pub loose_rule : RuleKind → Option (String Global) → Option Qual → PlainRule
loose_rule kind name qual = record { kind = kind; name = option_map (λ text. string_bytes text) name; qual = qual }

abbrev loose_name : PlainSource → PlainDef → RuleKind → Option Qual → State
loose_name done d kind qual = (done, Loose_name d kind qual)

brace_wanted : (done : PlainSource) (d : PlainDef) (qual : Option Qual) (state : State) (ts : List Token) (t : Token) (us : List Token) → Wants false false (on_loose done d qual) state ts
    → ts ≡ t ∷ us → same_sign Open_brace t ≡ true → next state t ≡ Some (loose_name done d Required qual)
brace_wanted done d qual state [] t us wants e h = absurd cc
brace_wanted done d qual state (u ∷ vs) t us wants e h =
    let same : u ≡ t = cc in
    subst (λ (x : Token). next state x ≡ Some (loose_name done d Required qual)) same
    (wants.0 ∙ subst (λ (x : Token). on_loose done d qual x ≡ Some (loose_name done d Required qual)) (same_sign-is Open_brace t h ∙ sym same) refl)

-- the opening brace
pub brace_opened : (done : PlainSource) (d : PlainDef) (qual : Option Qual) (state : State) (old new : Reader) → Wants false false (on_loose done d qual) state (left old)
    → Takes (same_sign Open_brace) old true new → course state old ≡ course (done, Loose_name d Required qual) new
brace_opened done d qual state old new wants (t, e, passes) =
    passes_one state (loose_name done d Required qual) t old new passes (brace_wanted done d qual state (left old) t (left new) wants passes.0 e)

bracket_wanted : (done : PlainSource) (d : PlainDef) (qual : Option Qual) (state : State) (ts : List Token) → Wants false false (on_loose done d qual) state ts
    → begins_with (same_sign Open_brace) ts ≡ false → Wants false false (λ t. option_map (λ u. (done, Loose_name d Optional qual)) (sign_at Open_bracket t)) state ts
bracket_wanted done d qual state [] wants h = wants
bracket_wanted done d qual state (t ∷ us) wants h =
    let is : on_loose done d qual t ≡ option_map (λ u. loose_name done d Optional qual) (sign_at Open_bracket t) = rw h refl in
    (wants.0 ∙ is, wants.1)

-- the opening bracket, where no brace is ahead
pub bracket_leads : (done : PlainSource) (d : PlainDef) (qual : Option Qual) (state : State) (old mid new : Reader) (result : Result (Unit {0}) Refusal)
    → Wants false false (on_loose done d qual) state (left old) → (begins_with (same_sign Open_brace) (left old) ≡ false) × (mid ≡ old)
    → Accepts false false (sign_at Open_bracket) (λ u. tt) mid result new → Leads (course state old) (λ u. (done, Loose_name d Optional qual)) result new
bracket_leads done d qual state old mid new result wants (none, same) recorded =
    leads_along (course state old) (course state mid) (λ u. (done, Loose_name d Optional qual)) result new (ap (course state) (sym same))
    (accepted {X = Unit {0}} false false (sign_at Open_bracket) (λ u. tt) (λ u. (done, Loose_name d Optional qual)) state mid new result
    (subst (λ (r : Reader). Wants false false (λ t. option_map (λ u. (done, Loose_name d Optional qual)) (sign_at Open_bracket t)) state (left r)) (sym same)
    (bracket_wanted done d qual state (left old) wants none)) recorded)

-- the name
pub slot_leads : (done : PlainSource) (d : PlainDef) (kind : RuleKind) (qual : Option Qual) (old new : Reader) (result : Result (Option (String Global)) Refusal)
    → Accepts false true slot_at (λ name. option_map (λ text. string_bytes text) name) old result new
    → Leads (course (done, Loose_name d kind qual) old) (λ name. (done, Loose_close d (loose_rule kind name qual))) result new
slot_leads done d kind qual old new result recorded =
    accepted false true slot_at (λ name. option_map (λ text. string_bytes text) name) (λ name. (done, Loose_close d (record { kind = kind; name = name; qual = qual })))
    (done, Loose_name d kind qual) old new result
    (wants_all false true slot_at (λ name. (done, Loose_close d (record { kind = kind; name = name; qual = qual }))) (done, Loose_name d kind qual) (λ t. refl) (λ t. refl) refl (left old)) recorded

-- the closing bracket
pub close_leads : (done : PlainSource) (d : PlainDef) (kind : RuleKind) (name : Option (String Global)) (qual : Option Qual) (old new : Reader) (result : Result (Unit {0}) Refusal)
    → Accepts false false (sign_at (closing_sign kind)) (λ u. tt) old result new
    → Leads (course (done, Loose_close d (loose_rule kind name qual)) old) (λ u. (done, Rules (with_rule d (loose_rule kind name qual)))) result new
close_leads done d kind name qual old new result recorded =
    accepted {X = Unit {0}} false false (sign_at (closing_sign kind)) (λ u. tt) (λ u. (done, Rules (with_rule d (loose_rule kind name qual)))) (done, Loose_close d (loose_rule kind name qual))
    old new result (wanted (left old)) recorded
  where
    why_is : (k : RuleKind) (t : Token) → refused (done, Loose_close d (loose_rule k name qual)) t ≡ why false false t
    why_is Fixed t = refl
    why_is Required t = refl
    why_is Optional t = refl

    wanted : (ts : List Token) → Wants false false (λ t. option_map (λ u. (done, Rules (with_rule d (loose_rule kind name qual)))) (sign_at (closing_sign kind) t))
        (done, Loose_close d (loose_rule kind name qual)) ts
    wanted [] = refl
    wanted (t ∷ us) = (refl, why_is kind t)

-- ---- a rule that is not fixed and has no qualifier

pub bare_wanted : (done : PlainSource) (d : PlainDef) (ts : List Token) → begins_with begins_loose ts ≡ true → Wants false false (on_loose done d None) (done, Rules d) ts
bare_wanted done d [] h = absurd cc
bare_wanted done d (Open_brace ∷ us) h = (refl, refl)
bare_wanted done d (Open_bracket ∷ us) h = (refl, refl)
bare_wanted done d (t ∷ us) h = absurd cc

-- ---- a name in angle brackets

-- it begins a definition
pub angle_defines : (done : PlainSource) (d : PlainDef) (n : List ℕ) (fixed : Bool) (ts : List Token) → all_fixed d.rules ≡ fixed
    → (not fixed || begins_with (same_sign Assign) ts) ≡ true → outcome (done, After_angle d n) ts ≡ outcome (add_def done d, Def_assign n) ts
angle_defines done d n true [] e h = absurd cc
angle_defines done d n true (Assign ∷ us) e h = refl
angle_defines done d n true (t ∷ us) e h = absurd cc
angle_defines done d n false ts e h = outcome_same (done, After_angle d n) (add_def done d, Def_assign n) ts (λ t us k. (at_token t, rw e refl)) (λ k. rw e refl)
  where
    at_token : (t : Token) → next (done, After_angle d n) t ≡ next (add_def done d, Def_assign n) t
    at_token t = by_test (same_sign Assign t) refl
      where
        by_test : (b : Bool) → same_sign Assign t ≡ b → next (done, After_angle d n) t ≡ next (add_def done d, Def_assign n) t
        by_test true k = rw k refl
        by_test false k = rw (k, e) refl

-- nothing of the definition is ahead
pub rules_end : (done : PlainSource) (d : PlainDef) (ts : List Token) → begins_with (same_sign Less) ts ≡ false → begins_with begins_qualifier ts ≡ false
    → begins_with begins_loose ts ≡ false → outcome (done, Rules d) ts ≡ outcome (add_def done d, Between) ts
rules_end done d ts a b c = outcome_same (done, Rules d) (add_def done d, Between) ts
    (λ t us e. at_token t (ap (begins_with (same_sign Less)) (sym e) ∙ a) (ap (begins_with begins_qualifier) (sym e) ∙ b) (ap (begins_with begins_loose) (sym e) ∙ c)) (λ e. refl)
  where
    at_token : (t : Token) → same_sign Less t ≡ false → begins_qualifier t ≡ false → begins_loose t ≡ false
        → (next (done, Rules d) t ≡ next (add_def done d, Between) t) × (refused (done, Rules d) t ≡ refused (add_def done d, Between) t)
    at_token Less a b c = absurd cc
    at_token (Number n) a b c = absurd cc
    at_token Star a b c = absurd cc
    at_token Open_brace a b c = absurd cc
    at_token Open_bracket a b c = absurd cc
    at_token t a b c = (refl, refl)

-- ---- one more rule

pub rules_append : (items : List Rule) (r : Rule) → map plain_rule (items ++ r ∷ []) ≡ map plain_rule items ++ plain_rule r ∷ []
rules_append [] r = refl
rules_append (x ∷ items) r = ap (λ (rs : List PlainRule). plain_rule x ∷ rs) (rules_append items r)

kinds_plain : (items : List Rule) → map (λ r. r.kind) items ≡ map (λ r. r.kind) (map plain_rule items)
kinds_plain [] = refl
kinds_plain (x ∷ items) = ap (λ (ks : List RuleKind). x.kind ∷ ks) (kinds_plain items)

pub and_true : (b : Bool) → (b && true) ≡ b
and_true true = refl
and_true false = refl

all_fixed_more : (rules : List PlainRule) (r : PlainRule) → all_fixed (rules ++ r ∷ []) ≡ (all_fixed rules && is_fixed r.kind)
all_fixed_more [] r = and_true (is_fixed r.kind)
all_fixed_more (x ∷ rules) r = ap (λ (b : Bool). is_fixed x.kind && b) (all_fixed_more rules r) ∙ by_test (is_fixed x.kind) (all_fixed rules) (is_fixed r.kind)
  where
    by_test : (a b c : Bool) → (a && (b && c)) ≡ ((a && b) && c)
    by_test true b c = refl
    by_test false b c = refl

pub fixed_more : (items more : List Rule) (r : Rule) (fixed now : Bool) → more ≡ items ++ r ∷ []
    → all_fixed (map plain_rule items) ≡ fixed → (fixed && is_fixed r.kind) ≡ now → all_fixed (map plain_rule more) ≡ now
fixed_more items more r fixed now grown e h = ap (λ (rs : List Rule). all_fixed (map plain_rule rs)) grown ∙ ap all_fixed (rules_append items r)
    ∙ all_fixed_more (map plain_rule items) (plain_rule r) ∙ ap (λ (b : Bool). b && is_fixed r.kind) e ∙ h

fixed_kind : (kind : RuleKind) → is_fixed kind ≡ true → kind ≡ Fixed
fixed_kind Fixed h = refl
fixed_kind Required h = absurd cc
fixed_kind Optional h = absurd cc

pub order_more : (items more : List Rule) (r : Rule) (fixed : Bool) → more ≡ items ++ r ∷ [] → all_fixed (map plain_rule items) ≡ fixed
    → IsTrue (fixed_first (map (λ x. x.kind) items)) → (r.kind ≡ Fixed → fixed ≡ true) → IsTrue (fixed_first (map (λ x. x.kind) more))
order_more items more r fixed grown e h k =
    let before : in_order (map plain_rule items) ≡ true = ap fixed_first (sym (kinds_plain items)) ∙ h in
    ap (λ (rs : List Rule). fixed_first (map (λ x. x.kind) rs)) grown ∙ ap fixed_first (kinds_plain (items ++ r ∷ []))
    ∙ ap (λ (rules : List PlainRule). in_order rules) (rules_append items r) ∙ by_kind (is_fixed r.kind) refl before
  where
    by_kind : (b : Bool) → is_fixed r.kind ≡ b → in_order (map plain_rule items) ≡ true → in_order (map plain_rule items ++ plain_rule r ∷ []) ≡ true
    by_kind true f before = let is = fixed_kind r.kind f in still_fixed (map plain_rule items) (plain_rule r) (e ∙ k is) is
    by_kind false f before = still_loose (map plain_rule items) (plain_rule r) f before

-- a fixed rule follows only fixed ones
pub kind_recorded : (kind : RuleKind) (fixed : Bool) → (kind ≡ Fixed → fixed ≡ true) → (fixed && is_fixed kind) ≡ is_fixed kind
kind_recorded Fixed fixed h = ap (λ (x : Bool). x && true) (h refl)
kind_recorded Required fixed h = and_false fixed
kind_recorded Optional fixed h = and_false fixed

pub or_false : (fixed b : Bool) → (not fixed || b) ≡ false → (fixed ≡ true) × (b ≡ false)
or_false true b h = (refl, h)
or_false false b h = absurd cc
