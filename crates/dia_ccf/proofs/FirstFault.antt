-- The token at which the machine stops is the first fault.
use Rattle.std.proofs.Common.{◌≡◌, ℕ, ◌≤◌, ◌<◌, ◌+◌, Bool, true, false, cond, List, [], ◌∷◌, ◌++◌, length, take, Option, Some, None, refl, sym, ap, subst, ◌∙◌, append_assoc, arith, length-append}
use Rattle.std.specs.Prelude.{codes, ◌&&◌, not, is_some, nat_lt, slice_get}
use Rattle.std.specs.Option.{option_map}
use Rattle.std.proofs.lemmas.Bool.{lt-ltb, ltb-true}
use Rattle.std.proofs.lemmas.List.{append-nil}
use Rattle.std.proofs.Math.Seq.{take-append_seam, take-append-add}
use Rattle.dia_ccf.specs.declared.reading.refusal.Refusal.{Refusal}
use Rattle.dia_ccf.specs.declared.reading.refusal.Refusal.TheVariants as refusal
use Rattle.dia_terms.specs.declared.RuleKind.{RuleKind}
use Rattle.dia_terms.specs.declared.RuleKind.TheVariants.{Fixed, Required, Optional}
use Rattle.dia_ccf.specs.Plain.{PlainSource}
use Rattle.dia_ccf.specs.Tokens.{Token, Number, Name}
use Rattle.dia_ccf.specs.Grammar.{Derives}
use Rattle.dia_ccf.specs.Limits.{max_value}
use Rattle.dia_ccf.specs.Faults.{CanBegin, IsFirstFault, Fits, IsNumberFault, IsLimitFault}
use Rattle.dia_ccf.specs.Machine.{State, Place, Between, In_values, After_value, After_dots, In_head, Flags, Group_vendor, Error_flags, Loose_close, with_rule, closing_sign}
use Rattle.dia_ccf.specs.Machine.{sign_at, Command_code, Group_code, Rules, Qual_star, Qual_done, After_angle, Decl_code, Decl_number, Decl_values, HeadPlace}
use Rattle.dia_ccf.specs.Machine.{is_none, all_fixed, number_at, next, step, whole, refused, least_at, outcome, Reads, Stops, gone_on, ended}
use Rattle.dia_terms.specs.Formats.{is_enumerated}
use Rattle.dia_ccf.specs.declared.wanted.Wanted.{Wanted}
use Rattle.dia_ccf.specs.declared.wanted.Wanted.TheVariants.{Item}
use Rattle.dia_ccf.specs.Wanting.{fits, may_end, wanted_at, after_all}
use Rattle.dia_ccf.specs.Refusals.{IsWanted}
use Rattle.dia_ccf.specs.ReaderFunctions.{nothing_read}
use Rattle.dia_ccf.proofs.MachineSoundness.{sound}
use Rattle.dia_ccf.proofs.MachineCompleteness.{complete}
use Rattle.dia_ccf.proofs.Completions.{is_sound, sound_next, can_complete}
use Rattle.dia_ccf.proofs.TokenTests.{some_is, number_at-is}
use Rattle.dia_ccf.proofs.DeclarationCompleteness.{and_false}
use Rattle.dia_ccf.proofs.WantedAfter.{wanted_after}
use Rattle.dia_ccf.proofs.WhatIsWanted.{next_some, whole_some}
use Rattle.dia_ccf.proofs.MachineRuns.{take_one, number_at-some}

-- why the machine stops in a state
abbrev Occurs : State → Refusal → List Token → Type 0
Occurs q k [] = (whole q ≡ None) × (k ≡ refusal.Syntax)
Occurs q k (t ∷ us) = (next q t ≡ None) × (k ≡ refused q t)

-- the tokens before the stop, and the state there
pub record Stopped (start : State) (ts : List Token) (k : Refusal) (rest : List Token) : Type 0 where
  pub front : List Token
  pub state : State
  pub parts : ts ≡ front ++ rest
  pub goes : (more : List Token) → outcome start (front ++ more) ≡ outcome state more
  pub sound : is_sound state.1 ≡ true
  pub occurs : Occurs state k rest
  pub wants : wanted_at state.1 ≡ after_all (wanted_at start.1) front

stopped_end : (start : State) (o : Option PlainSource) (k : Refusal) (rest : List Token) → whole start ≡ o → is_sound start.1 ≡ true → ended o ≡ Stops k rest → Stopped start [] k rest
stopped_end start (Some s) k rest w h e = absurd cc
stopped_end start None k [] w h e = record { front = []; state = start; parts = refl; goes = λ more. refl; sound = h; occurs = (w, cc); wants = refl }
stopped_end start None k (t ∷ us) w h e = absurd cc

stopped_here : (start : State) (t : Token) (ts : List Token) (k : Refusal) (rest : List Token) → is_sound start.1 ≡ true
    → next start t ≡ None → Stops (refused start t) (t ∷ ts) ≡ Stops k rest → Stopped start (t ∷ ts) k rest
stopped_here start t ts k [] h e s = absurd cc
stopped_here start t ts k (u ∷ us) h e s =
    let same : t ≡ u = cc in
    let others : ts ≡ us = cc in
    let why_is : refused start t ≡ k = cc in
    record {
      front = [];
      state = start;
      parts = ap (λ (f : List Token). t ∷ f) others ∙ ap (λ (x : Token). x ∷ us) same;
      goes = λ more. refl;
      sound = h;
      occurs = (ap (next start) (sym same) ∙ e, sym why_is ∙ ap (refused start) same);
      wants = refl;
    }

stopped_step : (start : State) (t : Token) (ts : List Token) (k : Refusal) (rest : List Token) (o : Option State) → next start t ≡ o
    → is_sound start.1 ≡ true → gone_on o (Stops (refused start t) (t ∷ ts)) (λ q. outcome q ts) ≡ Stops k rest
    → ((q : State) → is_sound q.1 ≡ true → outcome q ts ≡ Stops k rest → Stopped q ts k rest) → Stopped start (t ∷ ts) k rest
stopped_step start t ts k rest None e h s before = stopped_here start t ts k rest h e s
stopped_step start t ts k rest (Some q) e h s before =
    let r = before q (sound_next start q t h e) s in
    record {
      front = t ∷ r.front;
      state = r.state;
      parts = ap (λ (f : List Token). t ∷ f) r.parts;
      goes = λ more. take_one start t q (r.front ++ more) e ∙ r.goes more;
      sound = r.sound;
      occurs = r.occurs;
      wants = r.wants ∙ ap (λ (w : Wanted). after_all w r.front) (wanted_after start q t h e);
    }

stopped : (ts : List Token) (start : State) (k : Refusal) (rest : List Token) → is_sound start.1 ≡ true → outcome start ts ≡ Stops k rest → Stopped start ts k rest
stopped [] start k rest h e = stopped_end start (whole start) k rest refl h e
stopped (t ∷ ts) start k rest h e = stopped_step start t ts k rest (next start t) refl h e (λ q sound_q f. stopped ts q k rest sound_q f)

-- ---- what some number or name would fit

read_next : (q : State) (t : Token) (us : List Token) (s : PlainSource) → outcome q (t ∷ us) ≡ Reads s → is_some (next q t) ≡ true
read_next q t us s h = by_next (next q t) h
  where
    by_next : (o : Option State) → gone_on o (Stops (refused q t) (t ∷ us)) (λ p. outcome p us) ≡ Reads s → is_some o ≡ true
    by_next None e = absurd cc
    by_next (Some p) e = refl

witness_head : (done : PlainSource) (text : List ℕ) (at : HeadPlace) (m : ℕ) → is_some (step done (In_head text at) (Number m)) ≡ true → is_some (step done (In_head text at) (Number 0)) ≡ true
witness_head done text Command_code m h = refl
witness_head done text Group_code m h = refl
witness_head done text (Flags c request pxy comma) m h = refl
witness_head done text (Group_vendor c comma) m h = refl
witness_head done text (Error_flags true) m h = absurd cc
witness_head done text (Error_flags false) m h = absurd cc
witness_head done text at m h = absurd cc

no_closing : (kind : RuleKind) (to : Unit {0} → State) (m : ℕ) → is_some (option_map to (sign_at (closing_sign kind) (Number m))) ≡ true → ⊥
no_closing Fixed to m h = absurd cc
no_closing Required to m h = absurd cc
no_closing Optional to m h = absurd cc

none_past : (b : Bool) (x : Option State) → is_some (cond (b && false) x None) ≡ true → ⊥
none_past true x h = absurd cc
none_past false x h = absurd cc

witness_angle : (b : Bool) (x y : Option State) → is_some (cond b x None) ≡ true → is_some y ≡ true → is_some (cond b y None) ≡ true
witness_angle true x y h k = k
witness_angle false x y h k = absurd cc

low_number : (low m : ℕ) (o : Option ℕ) (to : ℕ → State) → number_at low max_value (Number m) ≡ o → is_some (option_map to o) ≡ true → low ≤ max_value
low_number low m None to e h = absurd cc
low_number low m (Some n) to e h = let k = number_at-is low max_value (Number m) n e in omega (arith, k.1, k.2)

-- where some number may follow, the least one may
number_witness : (done : PlainSource) (p : Place) (m : ℕ) → is_some (step done p (Number m)) ≡ true → is_some (step done p (Number (least_at p))) ≡ true
number_witness done (Decl_code n) m h = refl
number_witness done (Decl_number n c) m h = refl
number_witness done (Decl_values d) m h = absurd (let k : is_some (cond (is_enumerated d.format && false) (Some (done, In_values d [])) None) ≡ true = h
    in none_past (is_enumerated d.format) (Some (done, In_values d [])) k)
number_witness done (In_values d ranges) m h = rw (and_false (not (is_none ranges))) refl
number_witness done (After_value d ranges n) m h = rw (and_false (not (is_none (ranges ++ (n, n) ∷ [])))) refl
number_witness done (After_dots d ranges low) m h =
    let small = low_number low m (number_at low max_value (Number m)) (λ n. (done, In_values d (ranges ++ (low, n) ∷ []))) refl h in
    rw (number_at-some low max_value low (omega arith) small) refl
number_witness done (In_head text at) m h = witness_head done text at m h
number_witness done (Rules d) m h = refl
number_witness done (Qual_star d least) m h = refl
number_witness done (Qual_done d qual) m h = absurd (none_past (all_fixed d.rules) _ h)
number_witness done (After_angle d n) m h = witness_angle (all_fixed d.rules) _ _ h refl
number_witness done (Loose_close d r) m h = absurd (no_closing r.kind (λ u. (done, Rules (with_rule d r))) m h)
number_witness done p m h = absurd cc

-- ---- the fault

get_seam : {X : Type 0} (xs ys : List X) → slice_get (xs ++ ys) (length xs) ≡ slice_get ys 0
get_seam [] ys = refl
get_seam (x ∷ xs) ys = get_seam xs ys

begins : (start : State) (front : List Token) (q : State) → start ≡ (nothing_read, Between)
    → ((more : List Token) → outcome start (front ++ more) ≡ outcome q more) → is_sound q.1 ≡ true → CanBegin front
begins start front q e goes h =
    let c = can_complete q h in
    (c.0, c.1, sound (front ++ c.0) c.1 (ap (λ (s : State). outcome s (front ++ c.0)) (sym e) ∙ goes c.0 ∙ c.2))

-- what begins a text is read so far
begun : (front : List Token) (q : State) (t : Token) → ((more : List Token) → outcome (nothing_read, Between) (front ++ more) ≡ outcome q more) → CanBegin (front ++ t ∷ []) → is_some (next q t) ≡ true
begun front q t goes (rest, s, derived) =
    read_next q t rest s (sym (goes (t ∷ rest)) ∙ ap (outcome (nothing_read, Between)) (sym (append_assoc front (t ∷ []) rest)) ∙ complete ((front ++ t ∷ []) ++ rest) s derived)

-- a token that is taken can be followed by more
fitting : (front : List Token) (q : State) (t : Token) (o : Option State) → ((more : List Token) → outcome (nothing_read, Between) (front ++ more) ≡ outcome q more)
    → is_sound q.1 ≡ true → next q t ≡ o → is_some o ≡ true → CanBegin (front ++ t ∷ [])
fitting front q t None goes h e s = absurd cc
fitting front q t (Some p) goes h e s =
    begins (nothing_read, Between) (front ++ t ∷ []) p refl (λ more. ap (outcome (nothing_read, Between)) (append_assoc front (t ∷ []) more)
    ∙ goes (t ∷ more) ∙ take_one q t p more e) (sound_next q p t h e)

module _ (front : List Token) (q : State) (k : Refusal) (goes : (more : List Token) → outcome (nothing_read, Between) (front ++ more) ≡ outcome q more) (h : is_sound q.1 ≡ true) where
  front_of : (rest : List Token) → take (length front) (front ++ rest) ≡ front
  front_of rest = take-append_seam front rest

  no_fit : (rest : List Token) → Occurs q k rest → length front < length (front ++ rest) → CanBegin (take (length front + 1) (front ++ rest)) → ⊥
  no_fit [] occurs long b = absurd (let e : length (front ++ []) ≡ length front = ap (λ (f : List Token). length f) (append-nil front) in omega arith)
  no_fit (t ∷ us) (refuses, is) long b =
      let some = begun front q t goes (subst CanBegin (take-append-add front (t ∷ us) 1) b) in
      let gone : is_some (next q t) ≡ false = ap is_some refuses in
      absurd cc

  no_source : (rest : List Token) → Occurs q k rest → (s : PlainSource) → Derives (front ++ rest) s → ⊥
  no_source [] (open_end, is) s d = let e = sym (goes []) ∙ complete (front ++ []) s d in let f : ended (whole q) ≡ Stops refusal.Syntax [] = ap ended open_end in absurd cc
  no_source (t ∷ us) (refuses, is) s d =
      let some = read_next q t us s (sym (goes (t ∷ us)) ∙ complete (front ++ t ∷ us) s d) in
      let gone : is_some (next q t) ≡ false = ap is_some refuses in
      absurd cc

  first_of : (rest : List Token) → Occurs q k rest → IsFirstFault (front ++ rest) (length front)
  first_of rest occurs = record {
    before = subst CanBegin (sym (front_of rest)) (begins (nothing_read, Between) front q refl goes h);
    here = no_fit rest occurs;
    within = omega (arith, length-append front rest);
    no_text = no_source rest occurs;
  }

  fits_here : (rest : List Token) (t : Token) → is_some (next q t) ≡ true → Fits (front ++ rest) (length front) t
  fits_here rest t some = subst (λ (f : List Token). CanBegin (f ++ t ∷ [])) (sym (front_of rest)) (fitting front q t (next q t) goes h refl some)

  fits_then : (rest : List Token) (t : Token) → Fits (front ++ rest) (length front) t → is_some (next q t) ≡ true
  fits_then rest t fits = begun front q t goes (subst (λ (f : List Token). CanBegin (f ++ t ∷ [])) (front_of rest) fits)

  -- a token fits the state exactly where it can follow the prefix
  wanted_here : (w : Wanted) → wanted_at q.1 ≡ w → IsWanted front w
  wanted_here w is = record {
    fitting = λ t. (
      λ some. fitting front q t (next q t) goes h refl (next_some q t ∙ ap (λ (v : Wanted). fits v t) is ∙ some),
      λ can. sym (ap (λ (v : Wanted). fits v t) is) ∙ sym (next_some q t) ∙ begun front q t goes can,
    );
    ending = (
      λ may. ends_read (whole q) refl (whole_some q ∙ ap may_end is ∙ may),
      λ (s, d). sym (ap may_end is) ∙ sym (whole_some q) ∙ ended_some (whole q) s (sym (goes []) ∙ complete (front ++ []) s (subst (λ (f : List Token). Derives f s) (sym (append-nil front)) d)),
    );
  }
    where
      ends_read : (o : Option PlainSource) → whole q ≡ o → is_some o ≡ true → (s : PlainSource) × Derives front s
      ends_read None e some = absurd cc
      ends_read (Some s) e some = (s, sound front s (ap (outcome (nothing_read, Between)) (sym (append-nil front)) ∙ goes [] ∙ ap ended e))

      ended_some : (o : Option PlainSource) (s : PlainSource) → ended o ≡ Reads s → is_some o ≡ true
      ended_some None s e = absurd cc
      ended_some (Some x) s e = refl

  at_front : (rest : List Token) → slice_get (front ++ rest) (length front) ≡ slice_get rest 0
  at_front rest = get_seam front rest

  -- a number is reported
  number_recorded : (rest : List Token) → Occurs q k rest → k ≡ refusal.Number → IsNumberFault (front ++ rest) (length front)
  number_recorded [] occurs e = absurd (let f = occurs.1 in cc)
  number_recorded (Number n ∷ us) (refuses, is) e = (n, at_front (Number n ∷ us), least_at q.1, fits_here (Number n ∷ us) (Number (least_at q.1)) (by_some (is_some (next q (Number (least_at q.1)))) refl))
    where
      by_some : (b : Bool) → is_some (next q (Number (least_at q.1))) ≡ b → is_some (next q (Number (least_at q.1))) ≡ true
      by_some true f = f
      by_some false f = absurd (let g : k ≡ refusal.Syntax = is ∙ ap (λ (b : Bool). cond b refusal.Number refusal.Syntax) f in cc)
  number_recorded (Name text ∷ us) (refuses, is) e = absurd (by_long (nat_lt 128 (length text) && is_some (next q (Name (codes "a")))) (sym is ∙ e))
    where
      by_long : (b : Bool) → cond b refusal.Limit refusal.Syntax ≡ refusal.Number → ⊥
      by_long true f = absurd cc
      by_long false f = absurd cc
  number_recorded (t ∷ us) (refuses, is) e = absurd (let f = sym is ∙ e in cc)

  -- a long name is reported
  limit_recorded : (rest : List Token) → Occurs q k rest → k ≡ refusal.Limit → IsLimitFault (front ++ rest) (length front)
  limit_recorded [] occurs e = absurd (let f = occurs.1 in cc)
  limit_recorded (Name text ∷ us) (refuses, is) e =
      let b = by_long (nat_lt 128 (length text)) (is_some (next q (Name (codes "a")))) (sym is ∙ e) in
      (text, at_front (Name text ∷ us), ltb-true 128 (length text) b.0, fits_here (Name text ∷ us) (Name (codes "a")) b.1)
    where
      by_long : (b c : Bool) → cond (b && c) refusal.Limit refusal.Syntax ≡ refusal.Limit → (b ≡ true) × (c ≡ true)
      by_long true true f = (refl, refl)
      by_long true false f = absurd cc
      by_long false c f = absurd cc
  limit_recorded (Number n ∷ us) (refuses, is) e = absurd (by_some (is_some (next q (Number (least_at q.1)))) (sym is ∙ e))
    where
      by_some : (b : Bool) → cond b refusal.Number refusal.Syntax ≡ refusal.Limit → ⊥
      by_some true f = absurd cc
      by_some false f = absurd cc
  limit_recorded (t ∷ us) (refuses, is) e = absurd (let f = sym is ∙ e in cc)

  -- neither is reported
  number_unrecorded : (rest : List Token) → Occurs q k rest → k ≡ refusal.Syntax → IsNumberFault (front ++ rest) (length front) → ⊥
  number_unrecorded [] occurs e (n, is, other, fits) = absurd (let f : ◌≡◌ {A = Option Token} None (Some (Number n)) = sym (at_front []) ∙ is in cc)
  number_unrecorded (t ∷ us) (refuses, why_is) e (n, is, other, fits) =
      let same : t ≡ Number n = some_is t (Number n) (sym (at_front (t ∷ us)) ∙ is) in
      let some : is_some (next q (Number (least_at q.1))) ≡ true = number_witness q.0 q.1 other (fits_then (t ∷ us) (Number other) fits) in
      absurd (let f : refused q (Number n) ≡ refusal.Number = ap (λ (b : Bool). cond b refusal.Number refusal.Syntax) some in
      let g : k ≡ refusal.Number = why_is ∙ ap (refused q) same ∙ f in cc)

  limit_unrecorded : (rest : List Token) → Occurs q k rest → k ≡ refusal.Syntax → IsLimitFault (front ++ rest) (length front) → ⊥
  limit_unrecorded [] occurs e (text, is, long, fits) = absurd (let f : ◌≡◌ {A = Option Token} None (Some (Name text)) = sym (at_front []) ∙ is in cc)
  limit_unrecorded (t ∷ us) (refuses, why_is) e (text, is, long, fits) =
      let same : t ≡ Name text = some_is t (Name text) (sym (at_front (t ∷ us)) ∙ is) in
      let some : is_some (next q (Name (codes "a"))) ≡ true = fits_then (t ∷ us) (Name (codes "a")) fits in
      let both_are : (nat_lt 128 (length text) && is_some (next q (Name (codes "a")))) ≡ true = rw (lt-ltb 128 (length text) long, some) refl in
      absurd (let f : refused q (Name text) ≡ refusal.Limit = ap (λ (b : Bool). cond b refusal.Limit refusal.Syntax) both_are in
      let g : k ≡ refusal.Limit = why_is ∙ ap (refused q) same ∙ f in cc)

-- what is reported of the token at a place
pub record Is_recorded (ts : List Token) (n : ℕ) (k : Refusal) : Type 0 where
  pub first : IsFirstFault ts n
  pub number : k ≡ refusal.Number → IsNumberFault ts n
  pub limit : k ≡ refusal.Limit → IsLimitFault ts n
  pub no_number : k ≡ refusal.Syntax → IsNumberFault ts n → ⊥
  pub no_limit : k ≡ refusal.Syntax → IsLimitFault ts n → ⊥
  pub wanted : IsWanted (take n ts) (after_all Item (take n ts))

-- where the machine stops with the tokens from n on left, the first fault is at n
pub recorded : (ts : List Token) (n : ℕ) (k : Refusal) (rest : List Token) → outcome (nothing_read, Between) ts ≡ Stops k rest → length ts ≡ n + length rest → Is_recorded ts n k
recorded ts n k rest h long =
    let r = stopped ts (nothing_read, Between) k rest refl h in
    let at : length r.front ≡ n = omega (arith, length-append r.front rest, ap (λ (f : List Token). length f) r.parts) in
    let here : Is_recorded (r.front ++ rest) (length r.front) k = record {
      first = first_of r.front r.state k r.goes r.sound rest r.occurs;
      number = number_recorded r.front r.state k r.goes r.sound rest r.occurs;
      limit = limit_recorded r.front r.state k r.goes r.sound rest r.occurs;
      no_number = number_unrecorded r.front r.state k r.goes r.sound rest r.occurs;
      no_limit = limit_unrecorded r.front r.state k r.goes r.sound rest r.occurs;
      wanted = subst (λ (f : List Token). IsWanted f (after_all Item f)) (sym (front_of r.front r.state k r.goes r.sound rest))
          (wanted_here r.front r.state k r.goes r.sound (after_all Item r.front) r.wants);
    } in
    subst (λ (f : List Token). Is_recorded f n k) (sym r.parts) (subst (λ (m : ℕ). Is_recorded (r.front ++ rest) m k) at here)
