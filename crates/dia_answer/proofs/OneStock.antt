-- Of the same parts answers are made of the same AVPs.
use Rattle.std.proofs.Common.{◌≡◌, ℕ, zero, suc, ◌<◌, ◌≤◌, Bool, true, false, List, [], ◌∷◌, ◌++◌, length, map, Option, Some, None, inl, inr, refl, sym, ap, subst, ◌∙◌, arith}
use Rattle.std.specs.Prelude.{find, MatchOption, ◌⊎◌}
use Rattle.std.specs.Bool.{MatchBool}
use Rattle.dia_wire.specs.declared.Key.{Key}
use Rattle.dia_wire.specs.Wire.{PlainAvp, key_of}
use Rattle.dia_book.specs.declared.DRule.{DRule}
use Rattle.dia_book.specs.Keys.{same_key}
use Rattle.dia_book.specs.Dictionary.{Dictionary}
use Rattle.dia_terms.specs.declared.Unknown.{Unknown}
use Rattle.dia_terms.specs.declared.Levels.{Levels}
use Rattle.dia_answer.specs.declared.forms.Form.{Form}
use Rattle.dia_answer.specs.declared.forms.Form.TheVariants as form
use Rattle.dia_answer.specs.Stocks.{IsFitOf, TakesData, copied, is_own, own}
use Rattle.dia_answer.specs.Bodies.{AreCopies, AreFirst, AreRequired, AreRequiredAll, AreThose, IsSession, IsStock, Parts, error_messages, failed_avps, session_id}

both_empty : (s t : List PlainAvp) → s ≡ [] → t ≡ [] → s ≡ t
both_empty s t e f = e ∙ sym f

head_same : {X : Type 0} (x y : X) (xs ys : List X) → x ∷ xs ≡ y ∷ ys → x ≡ y
head_same x y xs ys e = cc

tail_same : {X : Type 0} (x y : X) (xs ys : List X) → x ∷ xs ≡ y ∷ ys → xs ≡ ys
tail_same x y xs ys e = cc

pub one_those : (P : PlainAvp → Type 0) (avps s t : List PlainAvp) → AreThose P avps s → AreThose P avps t → s ≡ t
one_those P [] s t e f = both_empty s t e f
one_those P (v ∷ avps) s t (inl (s', p, is, rest)) (inl (t', q, is', rest')) = is ∙ ap (λ (vs : List PlainAvp). v ∷ vs) (one_those P avps s' t' rest rest') ∙ sym is'
one_those P (v ∷ avps) s t (inl (s', p, is, rest)) (inr (other, rest')) = absurd (other p)
one_those P (v ∷ avps) s t (inr (other, rest)) (inl (t', q, is', rest')) = absurd (other q)
one_those P (v ∷ avps) s t (inr (other, rest)) (inr (other', rest')) = one_those P avps s t rest rest'

-- no count below 0
none_of_most : (n : ℕ) (t : List PlainAvp) (x y : PlainAvp) (ys : List PlainAvp) → ((0 < n) → y ∷ ys ≡ []) → length t ≤ n → t ≡ []
none_of_most zero [] x y ys h few = refl
none_of_most zero (w ∷ t) x y ys h few = absurd (omega (arith, few))
none_of_most (suc n) t x y ys h few = absurd (let bad : y ∷ ys ≡ [] = h (omega arith) in cc)

first_by : (P : PlainAvp → Type 0) (n : ℕ) (f r g q s t : List PlainAvp) → f ++ r ≡ g ++ q → AreThose P f s → AreThose P g t → length s ≤ n → length t ≤ n → (length s < n → r ≡ []) → (length t < n → q ≡ []) → s ≡ t
first_by P n [] r [] q s t same h k few few' all all' = both_empty s t h k
first_by P n [] r (w ∷ g) q s t same h k few few' all all' =
    let none : t ≡ [] = none_of_most n t w w (g ++ q) (λ less. sym same ∙ all (omega (arith, less, ap length h))) few' in both_empty s t h none
first_by P n (v ∷ f) r [] q s t same h k few few' all all' =
    let none : s ≡ [] = none_of_most n s v v (f ++ r) (λ less. same ∙ all' (omega (arith, less, ap length k))) few in both_empty s t none k
first_by P zero (v ∷ f) r (w ∷ g) q s t same (inl (s', p, is, rest)) (inl (t', p', is', rest')) few few' all all' = absurd (omega (arith, few, ap length is))
first_by P (suc n) (v ∷ f) r (w ∷ g) q s t same (inl (s', p, is, rest)) (inl (t', p', is', rest')) few few' all all' =
    let v_is = head_same v w (f ++ r) (g ++ q) same in
    let longer : length s ≡ suc (length s') = ap length is in
    let longer' : length t ≡ suc (length t') = ap length is' in
    let later = first_by P n f r g q s' t' (tail_same v w (f ++ r) (g ++ q) same) rest rest' (omega (arith, few, longer)) (omega (arith, few', longer')) (λ less. all (omega (arith, less, longer))) (λ less. all' (omega (arith, less, longer'))) in
    is ∙ (λ i. v_is i ∷ later i) ∙ sym is'
first_by P n (v ∷ f) r (w ∷ g) q s t same (inl (s', p, is, rest)) (inr (other, rest')) few few' all all' = absurd (other (subst P (head_same v w (f ++ r) (g ++ q) same) p))
first_by P n (v ∷ f) r (w ∷ g) q s t same (inr (other, rest)) (inl (t', p, is', rest')) few few' all all' = absurd (other (subst P (sym (head_same v w (f ++ r) (g ++ q) same)) p))
first_by P n (v ∷ f) r (w ∷ g) q s t same (inr (other, rest)) (inr (other', rest')) few few' all all' =
    first_by P n f r g q s t (tail_same v w (f ++ r) (g ++ q) same) rest rest' few few' all all'

one_first : (P : PlainAvp → Type 0) (n : ℕ) (avps s t : List PlainAvp) → AreFirst P n avps s → AreFirst P n avps t → s ≡ t
one_first P n avps s t a b = first_by P n a.front a.rest b.front b.rest s t (sym a.parts ∙ b.parts) a.those b.those a.most b.most a.all b.all

abbrev IsBySession : Dictionary → List PlainAvp → PlainAvp → Type 0
IsBySession d these v = (TakesData d session_id v.bytes × (these ≡ own d 263 v.bytes ∷ [])) ⊎ ((¬ TakesData d session_id v.bytes) × (these ≡ []))

one_session : (d : Dictionary) (request s t : List PlainAvp) → IsSession d request s → IsSession d request t → s ≡ t
one_session d request s t h k = by (find (λ v. same_key (key_of v) session_id) request) h k
  where
    by : (o : Option PlainAvp) → MatchOption o (s ≡ []) (IsBySession d s) → MatchOption o (t ≡ []) (IsBySession d t) → s ≡ t
    by None e f = both_empty s t e f
    by (Some v) (inl (takes, e)) (inl (takes', f)) = e ∙ sym f
    by (Some v) (inl (takes, e)) (inr (other, f)) = absurd (other takes)
    by (Some v) (inr (other, e)) (inl (takes, f)) = absurd (other takes)
    by (Some v) (inr (other, e)) (inr (other', f)) = both_empty s t e f

one_required : (d : Dictionary) (u : Unknown) (most : Levels) (request : List PlainAvp) (rule : DRule) (s t : List PlainAvp) → AreRequired d u most request rule s → AreRequired d u most request rule t → s ≡ t
one_required d u most request rule s t h k = by rule.key h k
  where
    by_own : (key : Key) (b : Bool) → MatchBool b (s ≡ []) (AreFirst (IsFitOf d u most key) rule.min request s) → MatchBool b (t ≡ []) (AreFirst (IsFitOf d u most key) rule.min request t) → s ≡ t
    by_own key true e f = both_empty s t e f
    by_own key false a b = one_first (IsFitOf d u most key) rule.min request s t a b

    by : (o : Option Key) → MatchOption o (s ≡ []) (λ key. MatchBool (is_own key) (s ≡ []) (AreFirst (IsFitOf d u most key) rule.min request s))
        → MatchOption o (t ≡ []) (λ key. MatchBool (is_own key) (t ≡ []) (AreFirst (IsFitOf d u most key) rule.min request t)) → s ≡ t
    by None e f = both_empty s t e f
    by (Some key) a b = by_own key (is_own key) a b

one_required_all : (d : Dictionary) (u : Unknown) (most : Levels) (request : List PlainAvp) (rules : List DRule) (s t : List PlainAvp) → AreRequiredAll d u most request rules s → AreRequiredAll d u most request rules t → s ≡ t
one_required_all d u most request [] s t e f = both_empty s t e f
one_required_all d u most request (rule ∷ rules) s t (a, b, parts, here, later) (a', b', parts', here', later') =
    let first = one_required d u most request rule a a' here here' in let rest = one_required_all d u most request rules b b' later later' in
    parts ∙ (λ i. first i ++ rest i) ∙ sym parts'

one_copies : (d : Dictionary) (u : Unknown) (most : Levels) (request : List PlainAvp) (f : Form) (rules : List DRule) (s t : List PlainAvp) → AreCopies d u most request f rules s → AreCopies d u most request f rules t → s ≡ t
one_copies d u most request form.Own rules s t h k = one_required_all d u most request rules s t h k
one_copies d u most request form.Error rules s t h k = both_empty s t h k
one_copies d u most request form.Base rules s t h k = both_empty s t h k

pub one_stock : (d : Dictionary) (f : Form) (rules : List DRule) (p : Parts) (a b : List PlainAvp) → IsStock d f rules p a → IsStock d f rules p b → a ≡ b
one_stock d f rules p a b s t =
    let session = one_session d p.request s.session t.session s.is_session t.is_session in
    let copies = one_copies d p.unknown p.levels p.request f rules s.copies t.copies s.are_copies t.are_copies in
    let proxies = one_those _ p.request s.proxies t.proxies s.are_proxies t.are_proxies in
    s.parts
    ∙ (λ i. session i ++ (own d 268 p.code ∷ own d 264 p.host ∷ own d 296 p.realm ∷ []) ++ error_messages d rules p.line ++ failed_avps d f rules p.failed ++ map copied (copies i) ++ map copied (proxies i))
    ∙ sym t.parts
