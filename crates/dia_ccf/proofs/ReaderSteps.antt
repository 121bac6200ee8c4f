-- One step of the reader after another.
use Rattle.std.proofs.Common.{◌≡◌, ℕ, Bool, true, false, List, [], ◌∷◌, Option, Some, None, Result, Ok, Err, refl, sym, ap, subst, ◌∙◌}
use Rattle.std.specs.Prelude.{is_some, IsTrue, MatchBool, string_bytes, String, IfOk}
use Rattle.std.specs.Option.{option_map}
use Rattle.std.specs.Result.{IsErrAnd}
use Rattle.std.specs.Global.{Global}
use Rattle.dia_ccf.specs.declared.reading.refusal.Refusal.{Refusal}
use Rattle.dia_ccf.specs.declared.reading.refusal.Refusal.TheVariants as refusal
use Rattle.dia_ccf.specs.declared.reading.Reader.{Reader}
use Rattle.dia_terms.specs.declared.RuleKind.{RuleKind}
use Rattle.dia_terms.specs.declared.RuleKind.TheVariants.{Fixed, Required, Optional}
use Rattle.dia_ccf.specs.Names.{is_name, is_fixed, is_rule_name}
use Rattle.dia_ccf.specs.Plain.{PlainSource, PlainDef}
use Rattle.dia_ccf.specs.Limits.{max_number}
use Rattle.dia_ccf.specs.Tokens.{Token, Star, Number}
use Rattle.dia_ccf.specs.Machine.{State, next, whole, refused, why, outcome, Outcome, Stops, ended, is_number}
use Rattle.dia_ccf.specs.Machine.{same_sign, name_at, number_at, sign_at, slot_at, begins_qualifier, Rules, Qual_min, Qual_star, Qual_done}
use Rattle.dia_ccf.specs.ReaderFunctions.{left, Passes, begins_with, why_ahead, AcceptsUnless, Accepts, Course, course, StopsAt, Leads, Wants, Reads_by}
use Rattle.dia_ccf.proofs.TokenTests.{mapped, name_at-is, number_at-is, sign_at-is, same_sign-is, slot_at-is}
use Rattle.dia_ccf.proofs.MachineRuns.{take_one, stop_at, outcome_same}

-- ---- a token was passed

course_at : (text text2 : List ℕ) (o o2 : Outcome) → text ≡ text2 → o ≡ o2 → ◌≡◌ {A = Course} (text, o) (text2, o2)
course_at text text2 o o2 e f = ap (λ (t : List ℕ). (t, o)) e ∙ ap (λ (p : Outcome). (text2, p)) f

pub passes_one : (p q : State) (t : Token) (old new : Reader) → Passes old (t ∷ []) new → next p t ≡ Some q → course p old ≡ course q new
passes_one p q t old new (ahead, same, taken) h =
    course_at old.text.now new.text.now (outcome p (left old)) (outcome q (left new)) same (ap (outcome p) ahead ∙ take_one p t q (left new) h)

-- nothing was passed, and two states treat what is ahead alike
pub stays : (p q : State) (old new : Reader) → new ≡ old → outcome p (left old) ≡ outcome q (left old) → course p old ≡ course q new
stays p q old new same h = subst (λ (r : Reader). course p old ≡ course q r) (sym same) (ap (λ (o : Outcome). (old.text.now, o)) h)

-- a sign was taken
pub takes_sign : (p q : State) (sign : Token) (old new : Reader) → (token : Token) × (same_sign sign token ≡ true) × Passes old (token ∷ []) new → next p sign ≡ Some q → course p old ≡ course q new
takes_sign p q sign old new (t, e, passes) h = passes_one p q t old new passes (subst (λ (u : Token). next p u ≡ Some q) (same_sign-is sign t e) h)

-- ---- leads

pub leads_along : {X : Type 0} (p q : Course) (to : X → State) (result : Result X Refusal) (new : Reader) → p ≡ q → Leads q to result new → Leads p to result new
leads_along p q to result new e h = subst (λ (c : Course). Leads c to result new) (sym e) h

stops_at : (p : Course) (k : Refusal) (new : Reader) → p ≡ (new.text.now, Stops k (left new)) → StopsAt p k new
stops_at p refusal.Syntax new h = h
stops_at p refusal.Number new h = h
stops_at p refusal.Limit new h = h
stops_at p refusal.NoMemory new h = tt

-- a token that the machine refuses
wants_none : {Y : Type 0} (numbers names : Bool) (read : Token → Option Y) (to : Y → State) (state : State) (ts : List Token)
    → Wants numbers names (λ t. option_map to (read t)) state ts → begins_with (λ t. is_some (read t)) ts ≡ false
    → outcome state ts ≡ Stops (why_ahead numbers names ts) ts
wants_none numbers names read to state [] wants none = ap ended wants
wants_none numbers names read to state (t ∷ ts) (next_is, why_is) none =
    stop_at state t ts (next_is ∙ unread (read t) none) ∙ ap (λ (k : Refusal). Stops k (t ∷ ts)) why_is
  where
    unread : (o : Option _) → is_some o ≡ false → option_map to o ≡ None
    unread None h = refl
    unread (Some y) h = absurd cc

wants_some : {Y : Type 0} (numbers names : Bool) (read : Token → Option Y) (to : Y → State) (state : State) (ts : List Token) (t : Token) (us : List Token) (y : Y)
    → Wants numbers names (λ t. option_map to (read t)) state ts → ts ≡ t ∷ us → read t ≡ Some y → next state t ≡ Some (to y)
wants_some numbers names read to state [] t us y wants e h = absurd cc
wants_some numbers names read to state (u ∷ vs) t us y (next_is, why_is) e h =
    let same : u ≡ t = cc in
    subst (λ (x : Token). next state x ≡ Some (to y)) same (next_is ∙ ap (option_map to) (ap read same ∙ h))

unless : {Y : Type 0} (numbers names : Bool) (read : Token → Option Y) (to : Y → State) (state : State) (old new : Reader) (k : Refusal)
    → Wants numbers names (λ t. option_map to (read t)) state (left old)
    → (new ≡ old) × (begins_with (λ t. is_some (read t)) (left old) ≡ false) × (k ≡ why_ahead numbers names (left old)) → StopsAt (course state old) k new
unless numbers names read to state old new k wants (same, none, why_is) =
    subst (λ (r : Reader). StopsAt (course state old) k r) (sym same)
    (stops_at (course state old) k old (ap (λ (o : Outcome). (old.text.now, o)) (wants_none numbers names read to state (left old) wants none ∙ ap (λ (r : Refusal). Stops r (left old)) (sym why_is))))

-- one token was read
pub accepted : {X Y : Type 0} (numbers names : Bool) (read : Token → Option Y) (view : X → Y) (to : Y → State) (state : State) (old new : Reader) (result : Result X Refusal)
    → Wants numbers names (λ t. option_map to (read t)) state (left old) → Accepts numbers names read view old result new
    → Leads (course state old) (λ x. to (view x)) result new
accepted numbers names read view to state old new (Ok x) wants (t, is, passes) = passes_one state (to (view x)) t old new passes
    (wants_some numbers names read to state (left old) t (left new) (view x) wants passes.0 is)
accepted numbers names read view to state old new (Err refusal.NoMemory) wants h = tt
accepted numbers names read view to state old new (Err refusal.Syntax) wants h = unless numbers names read to state old new refusal.Syntax wants h
accepted numbers names read view to state old new (Err refusal.Number) wants h = unless numbers names read to state old new refusal.Number wants h
accepted numbers names read view to state old new (Err refusal.Limit) wants h = unless numbers names read to state old new refusal.Limit wants h

pub wants_by : {Y : Type 0} (numbers names : Bool) (read : Token → Option Y) (to : Y → State) (state : State)
    → Reads_by numbers names read to state → (ts : List Token) → Wants numbers names (λ t. option_map to (read t)) state ts
wants_by numbers names read to state h [] = h.unfinished
wants_by numbers names read to state h (t ∷ ts) = (h.next_is t, h.refused_is t)

pub wants_all : {Y : Type 0} (numbers names : Bool) (read : Token → Option Y) (to : Y → State) (state : State) → ((t : Token) → next state t ≡ option_map to (read t))
    → ((t : Token) → refused state t ≡ why numbers names t) → whole state ≡ None → (ts : List Token) → Wants numbers names (λ t. option_map to (read t)) state ts
wants_all numbers names read to state a b c [] = c
wants_all numbers names read to state a b c (t ∷ ts) = (a t, b t)

-- a sign was read
pub sign_leads : (state to : State) (sign : Token) (old new : Reader) (result : Result (Unit {0}) Refusal) → ((t : Token) → next state t ≡ option_map (λ u. to) (sign_at sign t))
    → ((t : Token) → refused state t ≡ why false false t) → whole state ≡ None → Accepts false false (sign_at sign) (λ u. tt) old result new → Leads (course state old) (λ u. to) result new
sign_leads state to sign old new result a b c recorded =
    accepted {X = Unit {0}} false false (sign_at sign) (λ u. tt) (λ u. to) state old new result (wants_all false false (sign_at sign) (λ u. to) state a b c (left old)) recorded

-- the name that was read is one
pub named_by : (old new : Reader) (result : Result (String Global) Refusal) → Accepts false true name_at (λ name. string_bytes name) old result new
    → IfOk result (λ name. IsTrue (is_name (string_bytes name)))
named_by old new (Ok x) (t, is, passes) = (name_at-is t (string_bytes x) is).1
named_by old new (Err k) h = tt

-- ---- the exit of a `?`

pub exits : {X : Type 0} (from : Course) (to : X → State) (k : Refusal) (result : Result X Refusal) (new : Reader) → IsErrAnd result (λ e. e ≡ k) → StopsAt from k new → Leads from to result new
exits from to k (Ok x) new is h = absurd is
exits from to k (Err e) new is h = subst (λ (r : Refusal). StopsAt from r new) (sym is) h

-- the same after steps that were made
pub exits_along : {X : Type 0} (from mid : Course) (to : X → State) (k : Refusal) (result : Result X Refusal) (new : Reader) → from ≡ mid → IsErrAnd result (λ e. e ≡ k) → StopsAt mid k new
    → Leads from to result new
exits_along from mid to k result new e is h = leads_along from mid to result new e (exits mid to k result new is h)

-- ---- qualifiers

pub map_twice : {X Y Z : Type 0} (f : Y → Z) (g : X → Y) (o : Option X) → option_map f (option_map g o) ≡ option_map (λ x. f (g x)) o
map_twice f g None = refl
map_twice f g (Some x) = refl

-- what count says of an Ok
abbrev Counted : Reader → Option ℕ → Reader → Type 0
Counted old n new = MatchBool (begins_with is_number (left old)) ((t : Token) × (option_map (λ k. Some k) (number_at 0 max_number t) ≡ Some n)
    × Passes old (t ∷ []) new) ((◌≡◌ {A = Result (Option ℕ) Refusal} (Ok n) (Ok None)) × (new ≡ old))

counted_some : (t : Token) (n : Option ℕ) → option_map (λ k. Some k) (number_at 0 max_number t) ≡ Some n → (m : ℕ) × (t ≡ Number m) × (n ≡ Some m) × (number_at 0 max_number (Number m) ≡ Some m)
counted_some t n h =
    let k = mapped (λ k. Some k) (number_at 0 max_number t) n h in
    let e = number_at-is 0 max_number t k.0 k.1 in
    (k.0, e.0, sym k.2, ap (number_at 0 max_number) (sym e.0) ∙ k.1)

-- a count and the star after it
pub min_read : (done : PlainSource) (d : PlainDef) (old mid new : Reader) (min : Option ℕ) → Counted old min mid
    → (t : Token) × (sign_at Star t ≡ Some tt) × Passes mid (t ∷ []) new → course (done, Rules d) old ≡ course (done, Qual_star d min) new
min_read done d old mid new min counted (t, star, passes) = by_number (begins_with is_number (left old)) counted
  where
    by_number : (b : Bool) → MatchBool b ((t : Token) × (option_map (λ k. Some k) (number_at 0 max_number t) ≡ Some min) × Passes old (t ∷ []) mid)
        ((◌≡◌ {A = Result (Option ℕ) Refusal} (Ok min) (Ok None)) × (mid ≡ old)) → course (done, Rules d) old ≡ course (done, Qual_star d min) new
    by_number true (u, read, first) =
        let k = counted_some u min read in
        let step : next (done, Rules d) u ≡ Some (done, Qual_min d k.0) = subst (λ (x : Token). next (done, Rules d) x ≡ Some (done, Qual_min d k.0))
        (sym k.1) (ap (option_map (λ n. (done, Qual_min d n))) k.3) in
        passes_one (done, Rules d) (done, Qual_min d k.0) u old mid first step
        ∙ passes_one (done, Qual_min d k.0) (done, Qual_star d (Some k.0)) t mid new passes (ap (option_map (λ u. (done, Qual_star d (Some k.0)))) star)
        ∙ ap (λ (m : Option ℕ). course (done, Qual_star d m) new) (sym k.2)
    by_number false (none, same) =
        let is : min ≡ None = cc in
        ap (course (done, Rules d)) (sym same)
        ∙ passes_one (done, Rules d) (done, Qual_star d None) t mid new passes (subst (λ (x : Token). next (done, Rules d) x ≡ Some (done, Qual_star d None)) (sym (sign_at-is Star t tt star)) refl)
        ∙ ap (λ (m : Option ℕ). course (done, Qual_star d m) new) (sym is)

no_number : (b : Bool) (t : Token) → is_number t ≡ false → why true b t ≡ why false b t
no_number b (Number n) h = absurd cc
no_number b t h = refl

-- the count after the star
pub max_read : (done : PlainSource) (d : PlainDef) (old new : Reader) (min max : Option ℕ) → Counted old max new
    → course (done, Qual_star d min) old ≡ course (done, Qual_done d (record { min = min; max = max })) new
max_read done d old new min max counted = by_number (begins_with is_number (left old)) refl counted
  where
    by_number : (b : Bool) → begins_with is_number (left old) ≡ b → MatchBool b ((t : Token) × (option_map (λ k. Some k) (number_at 0 max_number t) ≡ Some max) × Passes old (t ∷ []) new)
        ((◌≡◌ {A = Result (Option ℕ) Refusal} (Ok max) (Ok None)) × (new ≡ old)) → course (done, Qual_star d min) old ≡ course (done, Qual_done d (record { min = min; max = max })) new
    by_number true e (u, read, first) =
        let k = counted_some u max read in
        let step : next (done, Qual_star d min) u ≡ Some (done, Qual_done d (record { min = min; max = Some k.0 })) = subst (λ (x : Token). next (done, Qual_star d min) x ≡ Some (
          done,
          Qual_done d (record { min = min; max = Some k.0 }),
        )) (sym k.1) (ap (option_map (λ n. (done, Qual_done d (record { min = min; max = Some n })))) k.3) in
        passes_one (done, Qual_star d min) (done, Qual_done d (record { min = min; max = Some k.0 })) u old new first step
        ∙ ap (λ (m : Option ℕ). course (done, Qual_done d (record { min = min; max = m })) new) (sym k.2)
    by_number false e (none, same) =
        let is : max ≡ None = cc in
        stays (done, Qual_star d min) (done, Qual_done d (record { min = min; max = None })) old new same
        (outcome_same (done, Qual_star d min) (done, Qual_done d (record { min = min; max = None })) (left old)
        (λ t us parts. let free : is_number t ≡ false = ap (begins_with is_number) (sym parts) ∙ e in (rw free refl, no_number_star t free)) (λ parts. refl))
        ∙ ap (λ (m : Option ℕ). course (done, Qual_done d (record { min = min; max = m })) new) (sym is)
      where
        no_number_star : (t : Token) → is_number t ≡ false → refused (done, Qual_star d min) t ≡ refused (done, Qual_done d (record { min = min; max = None })) t
        no_number_star (Number n) h = absurd cc
        no_number_star t h = refl

-- ---- a qualifier that is refused

-- what count says of an Err
abbrev Uncounted : Reader → Refusal → Reader → Type 0
Uncounted old k new = MatchBool (begins_with is_number (left old)) (AcceptsUnless true false (λ t. option_map (λ n. Some n) (number_at 0 max_number t)) old k new)
    ((◌≡◌ {A = Result (Option ℕ) Refusal} (Err k) (Ok None)) × (new ≡ old))

abbrev placed : (ℕ → State) → State → Option ℕ → State
placed to state None = state
placed to state (Some n) = to n

-- a number that the machine refuses
count_stops : (state : State) (to : ℕ → State) (old new : Reader) (k : Refusal)
    → ((n : ℕ) → (next state (Number n) ≡ option_map to (number_at 0 max_number (Number n))) × (refused state (Number n) ≡ why true false (Number n)))
    → Uncounted old k new → StopsAt (course state old) k new
count_stops state to old new k does h = by_number (begins_with is_number (left old)) refl h
  where
    by_number : (b : Bool) → begins_with is_number (left old) ≡ b → MatchBool b (AcceptsUnless true false (λ t. option_map (λ n. Some n) (number_at 0 max_number t)) old k new)
        ((◌≡◌ {A = Result (Option ℕ) Refusal} (Err k) (Ok None)) × (new ≡ old)) → StopsAt (course state old) k new
    by_number false e (none, same) = absurd cc
    by_number true e recorded = accepted true false (λ t. option_map (λ n. Some n) (number_at 0 max_number t)) (λ n. n) (placed to state) state old new (Err k) (wanted (left old) e) recorded
      where
        wanted : (ts : List Token) → begins_with is_number ts ≡ true
            → Wants true false (λ t. option_map (placed to state) (option_map (λ n. Some n) (number_at 0 max_number t))) state ts
        wanted [] f = absurd cc
        wanted (Number n ∷ us) f = ((does n).0 ∙ sym (map_twice (placed to state) (λ m. Some m) (number_at 0 max_number (Number n))), (does n).1)
        wanted (t ∷ us) f = absurd cc

-- the count before the star
pub min_stops : (done : PlainSource) (d : PlainDef) (old new : Reader) (k : Refusal) → Uncounted old k new → StopsAt (course (done, Rules d) old) k new
min_stops done d old new k h = count_stops (done, Rules d) (λ n. (done, Qual_min d n)) old new k (λ n. (refl, refl)) h

-- the star
pub star_stops : (done : PlainSource) (d : PlainDef) (old mid new : Reader) (min : Option ℕ) (k : Refusal) → begins_with begins_qualifier (left old) ≡ true → Counted old min mid
    → AcceptsUnless false false (sign_at Star) mid k new → StopsAt (course (done, Rules d) old) k new
star_stops done d old mid new min k begins counted recorded = by_number (begins_with is_number (left old)) refl counted
  where
    by_number : (b : Bool) → begins_with is_number (left old) ≡ b → MatchBool b ((t : Token) × (option_map (λ k. Some k) (number_at 0 max_number t) ≡ Some min) × Passes old (t ∷ []) mid)
        ((◌≡◌ {A = Result (Option ℕ) Refusal} (Ok min) (Ok None)) × (mid ≡ old)) → StopsAt (course (done, Rules d) old) k new
    by_number true e (u, read, first) =
        let c = counted_some u min read in
        let step : next (done, Rules d) u ≡ Some (done, Qual_min d c.0) = subst (λ (x : Token). next (done, Rules d) x ≡ Some (done, Qual_min d c.0))
        (sym c.1) (ap (option_map (λ n. (done, Qual_min d n))) c.3) in
        subst (λ (from : Course). StopsAt from k new) (sym (passes_one (done, Rules d) (done, Qual_min d c.0) u old mid first step))
        (accepted {X = Unit {0}} false false (sign_at Star) (λ u. tt) (λ u. (done, Qual_star d (Some c.0))) (done, Qual_min d c.0) mid new (Err k)
        (wants_all false false (sign_at Star) (λ u. (done, Qual_star d (Some c.0))) (done, Qual_min d c.0) (λ t. refl) (λ t. refl) refl (left mid)) recorded)
    by_number false e (none, same) =
        subst (λ (from : Course). StopsAt from k new) (ap (course (done, Rules d)) same)
        (accepted {X = Unit {0}} false false (sign_at Star) (λ u. tt) (λ u. (done, Qual_star d None)) (done, Rules d) mid new (Err k)
        (subst (λ (r : Reader). Wants false false (λ t. option_map (λ u. (done, Qual_star d None)) (sign_at Star t)) (done, Rules d) (left r)) (sym same) (wanted (left old) begins e)) recorded)
      where
        wanted : (ts : List Token) → begins_with begins_qualifier ts ≡ true → begins_with is_number ts ≡ false
            → Wants false false (λ t. option_map (λ u. (done, Qual_star d None)) (sign_at Star t)) (done, Rules d) ts
        wanted [] f g = absurd cc
        wanted (Star ∷ us) f g = (refl, refl)
        wanted (t ∷ us) f g = absurd cc

-- the count after the star
pub max_stops : (done : PlainSource) (d : PlainDef) (old new : Reader) (min : Option ℕ) (k : Refusal) → Uncounted old k new → StopsAt (course (done, Qual_star d min) old) k new
max_stops done d old new min k h = count_stops (done, Qual_star d min) (λ n. (done, Qual_done d (record { min = min; max = Some n }))) old new k (λ n. (refl, refl)) h

-- ---- slots

pub slot_named : (t : Token) (kind : RuleKind) (name : Option (String Global)) → is_fixed kind ≡ false
    → slot_at t ≡ Some (option_map (λ text. string_bytes text) name) → IsTrue (is_rule_name kind name)
slot_named t Fixed name free h = absurd cc
slot_named t Required None free h = refl
slot_named t Required (Some text) free h = (slot_at-is t (Some (string_bytes text)) h).1
slot_named t Optional None free h = refl
slot_named t Optional (Some text) free h = (slot_at-is t (Some (string_bytes text)) h).1
