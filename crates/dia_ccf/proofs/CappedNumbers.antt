-- Numbers above 32 bits are all alike to the machine.
use Rattle.std.proofs.Common.{◌≡◌, ℕ, ◌<◌, Bool, true, false, List, [], ◌∷◌, map, min, Option, Some, None, refl, sym, ap, ◌∙◌, arith, lit<}
use Rattle.std.specs.Prelude.{nat_le}
use Rattle.std.proofs.lemmas.Bool.{leb-true, leb-false}
use Rattle.dia_ccf.specs.declared.reading.refusal.Refusal.{Refusal}
use Rattle.dia_terms.specs.declared.RuleKind.{RuleKind}
use Rattle.dia_terms.specs.declared.RuleKind.TheVariants.{Fixed, Required, Optional}
use Rattle.dia_ccf.specs.Plain.{PlainSource}
use Rattle.dia_ccf.specs.Tokens.{Token, Number}
use Rattle.dia_ccf.specs.Limits.{max_number, max_command_code, max_value}
use Rattle.dia_ccf.specs.LexerTokens.{capped}
use Rattle.dia_ccf.specs.Machine.{State, Place, HeadPlace, number_at, next, step, next_in_head, whole, refused, outcome, Outcome, Reads, Stops, gone_on, ended, Decl_code, Decl_number, In_values}
use Rattle.dia_ccf.specs.Machine.{After_value, After_dots, In_head, Rules, Qual_star, After_angle, Loose_close, sign_at, closing_sign, Command_code, Group_code, Flags, Group_vendor}
use Rattle.dia_ccf.proofs.DeclarationCompleteness.{and_false}

cap_size : (least most n m : ℕ) (b c : Bool) → nat_le n most ≡ b → nat_le m most ≡ c → m ≡ min n 4294967296 → most < 4294967296 → number_at least most (Number m) ≡ number_at least most (Number n)
cap_size least most n m true c e f is small =
    let low = leb-true n most e in
    let same : m ≡ n = omega arith in
    ap (λ (k : ℕ). number_at least most (Number k)) same
cap_size least most n m false true e f is small =
    let high = leb-false n most e in
    let low = leb-true m most f in
    absurd (omega arith)
cap_size least most n m false false e f is small = rw (e, f, and_false (nat_le least m), and_false (nat_le least n)) refl

pub number_capped : (least most n : ℕ) → most < 4294967296 → number_at least most (Number (min n 4294967296)) ≡ number_at least most (Number n)
number_capped least most n small = cap_size least most n (min n 4294967296) (nat_le n most) (nat_le (min n 4294967296) most) refl refl refl small

head_capped : (at : HeadPlace) (n : ℕ) → next_in_head at (Number (min n 4294967296)) ≡ next_in_head at (Number n)
head_capped Command_code n = rw (number_capped 0 max_command_code n (lit< tt)) refl
head_capped Group_code n = rw (number_capped 0 max_number n (lit< tt)) refl
head_capped (Flags c request pxy comma) n = rw (number_capped 0 max_number n (lit< tt)) refl
head_capped (Group_vendor c comma) n = rw (number_capped 0 max_number n (lit< tt)) refl
head_capped at n = refl

close_capped : (kind : RuleKind) (m n : ℕ) → sign_at (closing_sign kind) (Number m) ≡ sign_at (closing_sign kind) (Number n)
close_capped Fixed m n = refl
close_capped Required m n = refl
close_capped Optional m n = refl

step_capped : (done : PlainSource) (p : Place) (n : ℕ) → step done p (Number (min n 4294967296)) ≡ step done p (Number n)
step_capped done (Decl_code name) n = rw (number_capped 0 max_number n (lit< tt)) refl
step_capped done (Decl_number name c) n = rw (number_capped 0 max_number n (lit< tt)) refl
step_capped done (In_values d ranges) n = rw (number_capped 0 max_value n (lit< tt)) refl
step_capped done (After_value d ranges m) n = rw (number_capped 0 max_value n (lit< tt)) refl
step_capped done (After_dots d ranges low) n = rw (number_capped low max_value n (lit< tt)) refl
step_capped done (In_head text at) n = rw (head_capped at n) refl
step_capped done (Rules d) n = rw (number_capped 0 max_number n (lit< tt)) refl
step_capped done (Qual_star d least) n = rw (number_capped 0 max_number n (lit< tt)) refl
step_capped done (After_angle d text) n = rw (number_capped 0 max_number n (lit< tt)) refl
step_capped done (Loose_close d r) n = rw (close_capped r.kind (min n 4294967296) n) refl
step_capped done p n = refl

next_capped : (state : State) (t : Token) → next state (capped t) ≡ next state t
next_capped state (Number n) = step_capped state.0 state.1 n
next_capped state t = refl

refused_capped : (state : State) (t : Token) → refused state (capped t) ≡ refused state t
refused_capped state (Number n) = refl
refused_capped state t = refl

abbrev capped_outcome : Outcome → Outcome
capped_outcome (Reads s) = Reads s
capped_outcome (Stops k rest) = Stops k (map capped rest)

ended_capped : (o : Option PlainSource) → ended o ≡ capped_outcome (ended o)
ended_capped None = refl
ended_capped (Some s) = refl

gone_on_capped : (o : Option State) (k : Refusal) (t : Token) (ts : List Token) → ((q : State) → outcome q (map capped ts) ≡ capped_outcome (outcome q ts))
    → gone_on o (Stops k (map capped (t ∷ ts))) (λ q. outcome q (map capped ts)) ≡ capped_outcome (gone_on o (Stops k (t ∷ ts)) (λ q. outcome q ts))
gone_on_capped None k t ts h = refl
gone_on_capped (Some q) k t ts h = h q

outcome_capped : (ts : List Token) (state : State) → outcome state (map capped ts) ≡ capped_outcome (outcome state ts)
outcome_capped [] state = ended_capped (whole state)
outcome_capped (t ∷ ts) state =
    ap (λ (o : Option State). gone_on o (Stops (refused state (capped t)) (map capped (t ∷ ts))) (λ q. outcome q (map capped ts))) (next_capped state t)
    ∙ ap (λ (k : Refusal). gone_on (next state t) (Stops k (map capped (t ∷ ts))) (λ q. outcome q (map capped ts))) (refused_capped state t)
    ∙ gone_on_capped (next state t) (refused state t) t ts (λ q. outcome_capped ts q)

uncapped_reads : (o : Outcome) (s : PlainSource) → capped_outcome o ≡ Reads s → o ≡ Reads s
uncapped_reads (Reads x) s h = h
uncapped_reads (Stops k rest) s h = absurd cc

uncapped_stops : (o : Outcome) (k : Refusal) (rest : List Token) → capped_outcome o ≡ Stops k rest → (whole_rest : List Token) × (o ≡ Stops k whole_rest) × (map capped whole_rest ≡ rest)
uncapped_stops (Reads x) k rest h = absurd cc
uncapped_stops (Stops l whole_rest) k rest h = let e : l ≡ k = cc in (whole_rest, ap (λ (r : Refusal). Stops r whole_rest) e, cc)

pub reads_uncapped : (state : State) (ts : List Token) (s : PlainSource) → outcome state (map capped ts) ≡ Reads s → outcome state ts ≡ Reads s
reads_uncapped state ts s h = uncapped_reads (outcome state ts) s (sym (outcome_capped ts state) ∙ h)

pub stops_uncapped : (state : State) (ts : List Token) (k : Refusal) (rest : List Token) → outcome state (map capped ts) ≡ Stops k rest
    → (whole_rest : List Token) × (outcome state ts ≡ Stops k whole_rest) × (map capped whole_rest ≡ rest)
stops_uncapped state ts k rest h = uncapped_stops (outcome state ts) k rest (sym (outcome_capped ts state) ∙ h)
