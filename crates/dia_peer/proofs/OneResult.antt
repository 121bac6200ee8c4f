-- A valid CEA has one Result-Code at most.
use Rattle.std.proofs.Common.{◌≡◌, ℕ, zero, suc, ◌≤◌, Bool, true, false, cond, List, [], ◌∷◌, map, inl, inr, sym, ap, subst, ◌∙◌, arith}
use Rattle.std.specs.Prelude.{count_by}
use Rattle.std.proofs.lemmas.List.Sums.{sum_by-cons}
use Rattle.dia_wire.specs.declared.Key.{Key}
use Rattle.dia_wire.specs.Number.{number}
use Rattle.dia_wire.specs.Wire.{PlainAvp, key_of}
use Rattle.dia_valid.specs.Valid.{HasR, HasE, Placed}
use Rattle.dia_peer.specs.declared.kept_requests.Ids.{Ids}
use Rattle.dia_peer.specs.Messages.{HasResult, IsGood}
use Rattle.dia_peer.specs.Incoming.{is_result_code}
use Rattle.dia_peer.proofs.ResultCode.{cea_rules, cea_placed, never}
use Rattle.dia_peer.proofs.Sets.{IsIn, to_in}

counts_first : (p : Key → Bool) (v : PlainAvp) (vs : List PlainAvp) → p (key_of v) ≡ true → count_by p (map key_of (v ∷ vs)) ≡ suc (count_by p (map key_of vs))
counts_first p v vs e =
    let all = sum_by-cons (λ (key : Key). cond (p key) 1 0) (key_of v) (map key_of vs) in
    let one : cond (p (key_of v)) (suc zero) zero ≡ suc zero = ap (λ (t : Bool). cond t (suc zero) zero) e in
    omega (arith, all, one)

counts_some : (p : Key → Bool) (vs : List PlainAvp) (v : PlainAvp) → IsIn vs v → p (key_of v) ≡ true → 1 ≤ count_by p (map key_of vs)
counts_some p [] v m e = absurd m
counts_some p (w ∷ vs) v (inl same) e = let one = counts_first p w vs (ap (λ (x : PlainAvp). p (key_of x)) same ∙ e) in omega (arith, one)
counts_some p (w ∷ vs) v (inr m) e =
    let all = sum_by-cons (λ (key : Key). cond (p key) 1 0) (key_of w) (map key_of vs) in
    let later = counts_some p vs v m e in
    omega (arith, all, later)

one_counted : (p : Key → Bool) (vs : List PlainAvp) (v w : PlainAvp) → count_by p (map key_of vs) ≤ 1 → IsIn vs v → IsIn vs w → p (key_of v) ≡ true → p (key_of w) ≡ true → v ≡ w
one_counted p [] v w few m n e f = absurd m
one_counted p (x ∷ vs) v w few (inl a) (inl b) e f = sym a ∙ b
one_counted p (x ∷ vs) v w few (inl a) (inr n) e f =
    let first = counts_first p x vs (ap (λ (y : PlainAvp). p (key_of y)) a ∙ e) in
    let later = counts_some p vs w n f in
    absurd (omega (arith, few, first, later))
one_counted p (x ∷ vs) v w few (inr m) (inl b) e f =
    let first = counts_first p x vs (ap (λ (y : PlainAvp). p (key_of y)) b ∙ f) in
    let later = counts_some p vs v m e in
    absurd (omega (arith, few, first, later))
one_counted p (x ∷ vs) v w few (inr m) (inr n) e f =
    let all = sum_by-cons (λ (key : Key). cond (p key) 1 0) (key_of x) (map key_of vs) in
    one_counted p vs v w (omega (arith, few, all)) m n e f

few_results : (avps : List PlainAvp) → Placed cea_rules (map key_of avps) → count_by is_result_code (map key_of avps) ≤ 1
few_results avps placed =
    let all : map key_of avps ≡ placed.rest = placed.runs in
    let few : count_by is_result_code placed.rest ≤ 1 = placed.counts.0.1 in
    subst (λ (keys : List Key). count_by is_result_code keys ≤ 1) (sym all) few

pub one_result : (b : List ℕ) (code : ℕ) (request error : Bool) (ids : Ids) (avps : List PlainAvp) (n m : ℕ) → IsGood b code request error ids avps → code ≡ 257 → request ≡ false → error ≡ false
    → HasResult avps n → HasResult avps m → n ≡ m
one_result b code request error ids avps n m g is_code is_answer is_fine (v, at, key, is) (w, also, same, are) =
    let clear : (¬ HasR g.header.flags) × (¬ HasE g.header.flags) = ((λ h. never (sym is_answer ∙ g.request_is.1 h)), (λ h. never (sym is_fine ∙ g.error_is.1 h))) in
    let few = few_results avps (cea_placed g.header avps b g.message g.valid (g.code_is ∙ is_code) clear) in
    let one = one_counted is_result_code avps v w few (to_in avps v at) (to_in avps w also) (ap is_result_code key) (ap is_result_code same) in
    sym is ∙ ap (λ (x : PlainAvp). number x.bytes) one ∙ are
