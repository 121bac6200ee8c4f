-- The tokens of heads that the reader passed.
use Rattle.std.proofs.Common.{◌≡◌, ℕ, Bool, true, false, List, [], ◌∷◌, ◌++◌, map, Option, Some, refl, sym, ap, subst, ◌∙◌, inl, inr, append_assoc}
use Rattle.std.specs.Prelude.{Result, Ok, Err, IfOk, codes, MatchBool, ◌||◌}
use Rattle.std.specs.Char.{to_ascii_lowercase}
use Rattle.dia_terms.specs.declared.Pxy.{Pxy}
use Rattle.dia_terms.specs.declared.Pxy.TheVariants.{Either}
use Rattle.dia_ccf.specs.declared.reading.Reader.{Reader}
use Rattle.dia_ccf.specs.declared.reading.refusal.Refusal.{Refusal}
use Rattle.dia_ccf.specs.declared.source.Head.{Head}
use Rattle.dia_ccf.specs.declared.source.Head.TheVariants.{Group, Command, Error}
use Rattle.dia_ccf.specs.Limits.{max_number, max_command_code}
use Rattle.dia_ccf.specs.Tokens.{Token, Name, Comma, Open_bracket}
use Rattle.dia_ccf.specs.Grammar.{Tokens, ◌then◌, one, nothing, keyword, number, comma, flag, application, error_proxy, head, avp_header, diameter_header}
use Rattle.dia_ccf.specs.Machine.{same_sign, is_keyword, keyword_at, number_at}
use Rattle.dia_ccf.specs.ReaderFunctions.{Passes, Takes, Flags_read, Derived, pending, group_of, command_of, error_of, in_brackets}
use Rattle.dia_ccf.proofs.TokenTests.{keyword-is, keyword_at-is}
use Rattle.dia_ccf.proofs.ReaderPlaces.{along, of_class, unmoved, derived_word, takes_derived, number_derived}

-- ---- words and commas

spelled_derived : (text : List ℕ) (t : Token) (old new : Reader) → (spelled : List ℕ) × (map to_ascii_lowercase spelled ≡ text) × (t ≡ Name spelled) → Passes old (t ∷ []) new
    → Derived (keyword text) old new
spelled_derived text t old new (spelled, e, is) passes =
    let d = derived_word old new (Name spelled) refl (subst (λ (u : Token). Passes old (u ∷ []) new) is passes) in
    (d.0, d.1, (spelled, e, d.2), d.3)

pub keyword_taken : (text : List ℕ) (old new : Reader) → (t : Token) × (is_keyword text t ≡ true) × Passes old (t ∷ []) new → Derived (keyword text) old new
keyword_taken text old new (t, e, passes) = spelled_derived text t old new (keyword-is text t e) passes

pub keyword_read : (text : List ℕ) (old new : Reader) → (t : Token) × (keyword_at text t ≡ Some tt) × Passes old (t ∷ []) new → Derived (keyword text) old new
keyword_read text old new (t, e, passes) = spelled_derived text t old new (keyword_at-is text t tt e) passes

-- where nothing was passed before
pub after_none : (class : Tokens) (old mid new : Reader) → mid ≡ old → Derived class mid new → Derived class old new
after_none class old mid new same h = subst (λ (r : Reader). Derived class r new) same h

pub comma_pending : (b : Bool) (old new : Reader) → Takes (same_sign Comma) old b new → Derived (pending b) old new
comma_pending true old new h = takes_derived Comma old new refl h
comma_pending false old new h = unmoved nothing old new h.1 refl

as_comma : (b : Bool) (ts : List Token) → pending b ts → comma ts
as_comma true ts h = inr h
as_comma false ts h = inl h

pub comma_passed : (b : Bool) (old new : Reader) → Takes (same_sign Comma) old b new → Derived comma old new
comma_passed b old new h = of_class (pending b) comma old new (as_comma b) (comma_pending b old new h)

-- ---- classes

pub regroup : (a b c : Tokens) (ts : List Token) → ((a then b) then c) ts → (a then b then c) ts
regroup a b c ts (front, rest, e, (x, y, f, p, q), r) = (x, y ++ rest, e ∙ ap (λ us. us ++ rest) f ∙ append_assoc x y rest, p, (y, rest, refl, q, r))

pub gather : (a b c : Tokens) (ts : List Token) → (a then b then c) ts → ((a then b) then c) ts
gather a b c ts (x, rest, e, p, (y, z, f, q, r)) = (x ++ y, z, e ∙ ap (λ us. x ++ us) f ∙ sym (append_assoc x y z), (x, y, refl, p, q), r)

pub then_more : (a b c : Tokens) (ts : List Token) → ((us : List Token) → b us → c us) → (a then b) ts → (a then c) ts
then_more a b c ts h (x, y, e, p, q) = (x, y, e, p, h y q)

-- ---- flags

flag_of : (text : List ℕ) (comma_before : Bool) (before : Tokens) (found : Bool) (following : Bool) (old mid last new : Reader) → Derived (before then pending comma_before) old mid
    → Takes (is_keyword text) mid found last → MatchBool found (Takes (same_sign Comma) last following new) ((following ≡ comma_before) × (new ≡ last))
    → Derived ((before then flag found text) then pending following) old new
flag_of text b before true d old mid last new first took more =
    let word = keyword text in
    let all = along (before then pending b) (word then pending d) old mid new first (along word (pending d) mid last new (keyword_taken text mid last took) (comma_pending d last new more)) in
    of_class ((before then pending b) then word then pending d) ((before then flag true text) then pending d) old new
    (λ ts k. gather before (flag true text) (pending d) ts
    (then_more before (pending b then word then pending d) (flag true text then pending d) ts
    (λ us l. gather comma word (pending d) us (let (x, y, e, p, q) = l in (x, y, e, as_comma b x p, q))) (regroup before (pending b) (word then pending d) ts k))) all
flag_of text b before false d old mid last new first took more =
    let same = more.1 ∙ took.1 in
    let moved = subst (λ (r : Reader). Derived (before then pending b) old r) (sym same) first in
    subst (λ (x : Bool). Derived ((before then nothing) then pending x) old new) (sym more.0)
    (of_class (before then pending b) ((before then nothing) then pending b) old new
    (λ ts k. gather before nothing (pending b) ts (then_more before (pending b) (nothing then pending b) ts (λ us l. ([], us, refl, refl, l)) k)) moved)

pub flag_next : (text : List ℕ) (b : Bool) (before : Tokens) (found : Bool × Bool) (old mid new : Reader) → Derived (before then pending b) old mid → Flags_read text b mid found new
    → Derived ((before then flag found.0 text) then pending found.1) old new
flag_next text b before found old mid new first (last, took, more) = flag_of text b before found.0 found.1 old mid last new first took more

no_comma : (b c : Bool) → (b || c) ≡ false → b ≡ false
no_comma true c h = h
no_comma false c h = refl

-- a number that may follow a comma, or none
pub none_pending : (before : Tokens) (b c : Bool) (old new : Reader) → (b || c) ≡ false → Derived (before then pending b) old new → Derived (before then nothing) old new
none_pending before b c old new h d = subst (λ (x : Bool). Derived (before then pending x) old new) (no_comma b c h) d

pub number_pending : (before : Tokens) (b : Bool) (n : ℕ) (t : Token) (old mid new : Reader) → Derived (before then pending b) old mid → number_at 0 max_number t ≡ Some n → Passes mid (t ∷ []) new
    → Derived (before then comma then number max_number n) old new
number_pending before b n t old mid new first is passes =
    let last = number max_number n in
    of_class ((before then pending b) then last) (before then comma then last) old new
    (λ ts k. then_more before (pending b then last) (comma then last) ts (λ us l. (let (x, y, e, p, q) = l in (x, y, e, as_comma b x p, q))) (regroup before (pending b) last ts k))
    (along (before then pending b) last old mid new first (number_derived mid new n t is passes))

pub command_grouped : (code : ℕ) (request pxy : Bool) (app : Option ℕ) (ts : List Token)
    → (((number max_command_code code then flag request (codes "req")) then flag pxy (codes "pxy")) then application app) ts → command_of (Command code request pxy app) ts
command_grouped code request pxy app ts h =
    let n = number max_command_code code in
    let r = flag request (codes "req") in
    let p = flag pxy (codes "pxy") in
    regroup n r (p then application app) ts (regroup (n then r) p (application app) ts h)

-- ---- heads

pub group_head : (h : Head) (ts : List Token) → (avp_header then group_of h) ts → head h ts
group_head (Group code n) ts k = k
group_head (Command code request pxy app) ts k = absurd k.4
group_head (Error pxy) ts k = absurd k.4

pub command_head : (h : Head) (ts : List Token) → (diameter_header then command_of h) ts → head h ts
command_head (Group code n) ts k = absurd k.4
command_head (Command code request pxy app) ts k = k
command_head (Error pxy) ts k = absurd k.4

pub error_head : (h : Head) (ts : List Token) → ((diameter_header then keyword (codes "code")) then error_of h) ts → head h ts
error_head (Group code n) ts k = absurd k.4
error_head (Command code request pxy app) ts k = absurd k.4
error_head (Error pxy) ts k = regroup diameter_header (keyword (codes "code")) (error_of (Error pxy)) ts k

pub head_by : (before : Tokens) (class : Head → Tokens) (result : Result Head Refusal) (old mid new : Reader) → ((h : Head) (ts : List Token) → (before then class h) ts → head h ts)
    → Derived before old mid → IfOk result (λ h. Derived (class h) mid new) → IfOk result (λ h. Derived (head h) old new)
head_by before class (Ok h) old mid new is first second = of_class (before then class h) (head h) old new (is h) (along before (class h) old mid new first second)
head_by before class (Err k) old mid new is first second = tt

pub bracketed_proxy : (result : Result Pxy Refusal) (old mid new : Reader) → Takes (same_sign Open_bracket) old true mid → IfOk result (λ p. Derived (in_brackets p) mid new)
    → IfOk result (λ p. Derived (error_proxy p) old new)
bracketed_proxy (Err k) old mid new took h = tt
bracketed_proxy (Ok p) old mid new took h =
    of_class (one Open_bracket then in_brackets p) (error_proxy p) old new (inside p) (along (one Open_bracket) (in_brackets p) old mid new (takes_derived Open_bracket old mid refl took) h)
  where
    inside : (p : Pxy) (ts : List Token) → (one Open_bracket then in_brackets p) ts → error_proxy p ts
    inside Either ts k = k
    inside other ts k = absurd k.4
