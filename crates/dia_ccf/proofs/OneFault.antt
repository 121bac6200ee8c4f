-- A text has one fault at most: the tokens before it can begin a text, and with it they can not.
use Rattle.std.proofs.Common.{◌≡◌, ℕ, suc, ◌+◌, ◌<◌, ◌≤◌, List, ◌++◌, take, drop, Some, refl, sym, ap, subst, ◌∙◌, append_assoc, ⊎_elim, arith}
use Rattle.std.proofs.lemmas.Bool.{cases_order}
use Rattle.std.proofs.lemmas.List.{take-append-drop, take-take}
use Rattle.dia_ccf.specs.declared.fault.CcfFault.{CcfFault}
use Rattle.dia_ccf.specs.declared.fault.CcfFault.TheVariants as faults
use Rattle.dia_ccf.specs.Plain.{PlainSource}
use Rattle.dia_ccf.specs.Tokens.{Token, Number, Name, tokens}
use Rattle.dia_ccf.specs.Grammar.{Derives}
use Rattle.dia_ccf.specs.Faults.{CanBegin, IsFirstFault, IsNumberFault, IsLimitFault, IsFault, line_of}

CanBegin-front : (xs ys : List Token) → CanBegin (xs ++ ys) → CanBegin xs
CanBegin-front xs ys (rest, source, derived) = (ys ++ rest, source, subst (λ ts. Derives ts source) (append_assoc xs ys rest) derived)

CanBegin-take : (m n : ℕ) (ts : List Token) → m ≤ n → CanBegin (take n ts) → CanBegin (take m ts)
CanBegin-take m n ts below can =
    subst CanBegin (take-take m n ts below) (CanBegin-front (take m (take n ts)) (drop m (take n ts)) (subst CanBegin (sym (take-append-drop m (take n ts))) can))

not_before : (ts : List Token) (k j : ℕ) → IsFirstFault ts k → IsFirstFault ts j → k < j → ⊥
not_before ts k j a b below = a.here (let w = b.within in omega arith) (CanBegin-take (k + 1) j ts (omega arith) b.before)

one_place : (ts : List Token) (k j : ℕ) → IsFirstFault ts k → IsFirstFault ts j → k ≡ j
one_place ts k j a b = ⊎_elim (λ same. same) (⊎_elim (λ below. absurd (not_before ts k j a b below)) (λ above. absurd (not_before ts j k b a above))) (cases_order k j)

-- no token is both a number and a name
not_both : (ts : List Token) (k : ℕ) → IsNumberFault ts k → IsLimitFault ts k → ⊥
not_both ts k (n, number, other, fits) (name, named, long, fit) = let same : Some (Number n) ≡ Some (Name name) = sym number ∙ named in absurd cc

pub one_fault : (text : List ℕ) (a b : CcfFault) → IsFault text a → IsFault text b → ¬ (a ≡ faults.NoMemory) → ¬ (b ≡ faults.NoMemory) → a ≡ b
one_fault text faults.NoMemory b first second none other = absurd (none refl)
one_fault text a faults.NoMemory first second none other = absurd (other refl)
one_fault text (faults.Syntax t l) (faults.Syntax u m) (k, token, line, first, number, limit) (j, token', line', first', number', limit') none other =
    let same = one_place (tokens text) k j first first' in
    let tokens_same : t ≡ u = token ∙ ap suc same ∙ sym token' in
    let lines_same : l ≡ m = line ∙ ap (line_of text) same ∙ sym line' in
    λ i. faults.Syntax (tokens_same i) (lines_same i)
one_fault text (faults.Number l) (faults.Number m) (k, line, first, number) (j, line', first', number') none other =
    ap (λ (n : ℕ). faults.Number n) (line ∙ ap (line_of text) (one_place (tokens text) k j first first') ∙ sym line')
one_fault text (faults.Limit l) (faults.Limit m) (k, line, first, limit) (j, line', first', limit') none other =
    ap (λ (n : ℕ). faults.Limit n) (line ∙ ap (line_of text) (one_place (tokens text) k j first first') ∙ sym line')
one_fault text (faults.Syntax t l) (faults.Number m) (k, token, line, first, number, limit) (j, line', first', number') none other =
    absurd (number (subst (IsNumberFault (tokens text)) (one_place (tokens text) j k first' first) number'))
one_fault text (faults.Syntax t l) (faults.Limit m) (k, token, line, first, number, limit) (j, line', first', limit') none other =
    absurd (limit (subst (IsLimitFault (tokens text)) (one_place (tokens text) j k first' first) limit'))
one_fault text (faults.Number l) (faults.Syntax u m) (k, line, first, number) (j, token', line', first', number', limit') none other =
    absurd (number' (subst (IsNumberFault (tokens text)) (one_place (tokens text) k j first first') number))
one_fault text (faults.Number l) (faults.Limit m) (k, line, first, number) (j, line', first', limit') none other =
    absurd (not_both (tokens text) j (subst (IsNumberFault (tokens text)) (one_place (tokens text) k j first first') number) limit')
one_fault text (faults.Limit l) (faults.Syntax u m) (k, line, first, limit) (j, token', line', first', number', limit') none other =
    absurd (limit' (subst (IsLimitFault (tokens text)) (one_place (tokens text) k j first first') limit))
one_fault text (faults.Limit l) (faults.Number m) (k, line, first, limit) (j, line', first', number') none other =
    absurd (not_both (tokens text) k (subst (IsNumberFault (tokens text)) (one_place (tokens text) j k first' first) number') limit)

-- a text with a fault is derived for no source
pub no_text_of : (text : List ℕ) (f : CcfFault) → IsFault text f → ¬ (f ≡ faults.NoMemory) → (source : PlainSource) → ¬ Derives (tokens text) source
no_text_of text (faults.Syntax token line) (k, is_token, is_line, first, no_number, no_limit) other = first.no_text
no_text_of text (faults.Number line) (k, is_line, first, number) other = first.no_text
no_text_of text (faults.Limit line) (k, is_line, first, limit) other = first.no_text
no_text_of text faults.NoMemory first other = absurd (other refl)
