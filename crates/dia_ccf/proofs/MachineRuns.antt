-- Runs of the machine, a token at a time.
use Rattle.std.proofs.Common.{◌≡◌, ℕ, ◌≤◌, true, List, [], ◌∷◌, Option, Some, None, refl, ap, ◌∙◌}
use Rattle.std.proofs.lemmas.Bool.{le-leb}
use Rattle.dia_ccf.specs.declared.reading.refusal.Refusal.{Refusal}
use Rattle.dia_ccf.specs.Names.{is_name}
use Rattle.dia_ccf.specs.Tokens.{Token, Number, Name}
use Rattle.dia_ccf.specs.Machine.{State, next, whole, refused, outcome, Stops, gone_on, ended, number_at, name_at}

-- one token is taken
pub take_one : (state : State) (t : Token) (to : State) (ts : List Token) → next state t ≡ Some to → outcome state (t ∷ ts) ≡ outcome to ts
take_one state t to ts h = ap (λ (o : Option State). gone_on o (Stops (refused state t) (t ∷ ts)) (λ q. outcome q ts)) h

-- one token is refused
pub stop_at : (state : State) (t : Token) (ts : List Token) → next state t ≡ None → outcome state (t ∷ ts) ≡ Stops (refused state t) (t ∷ ts)
stop_at state t ts h = ap (λ (o : Option State). gone_on o (Stops (refused state t) (t ∷ ts)) (λ q. outcome q ts)) h

-- two states that treat what is ahead alike
pub outcome_same : (p q : State) (ts : List Token) → ((t : Token) (us : List Token) → ts ≡ t ∷ us → (next p t ≡ next q t) × (refused p t ≡ refused q t))
    → (ts ≡ [] → whole p ≡ whole q) → outcome p ts ≡ outcome q ts
outcome_same p q [] ahead end = ap ended (end refl)
outcome_same p q (t ∷ ts) ahead end =
    let k = ahead t ts refl in
    ap (λ (o : Option State). gone_on o (Stops (refused p t) (t ∷ ts)) (λ s. outcome s ts)) k.0
    ∙ ap (λ (r : Refusal). gone_on (next q t) (Stops r (t ∷ ts)) (λ s. outcome s ts)) k.1

pub number_at-some : (least most n : ℕ) → least ≤ n → n ≤ most → number_at least most (Number n) ≡ Some n
number_at-some least most n low high = rw (le-leb least n low, le-leb n most high) refl

pub name_at-some : (text : List ℕ) → is_name text ≡ true → name_at (Name text) ≡ Some text
name_at-some text h = rw h refl
