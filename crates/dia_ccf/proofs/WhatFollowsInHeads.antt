-- What may follow a place in a head.
use Rattle.std.proofs.Common.{◌≡◌, ℕ, ◌≤◌, Bool, true, false, cond, List, [], ◌∷◌, ◌++◌, map, Option, Some, None, refl, sym, ap, subst, ◌∙◌, append_assoc, inl, inr, ◌⊎◌, ⊎_elim}
use Rattle.std.specs.Prelude.{codes, ◌||◌}
use Rattle.std.specs.Option.{option_map}
use Rattle.std.specs.Char.{to_ascii_lowercase}
use Rattle.dia_terms.specs.declared.Pxy.{Pxy}
use Rattle.dia_terms.specs.declared.Pxy.TheVariants.{Clear, Set, Either}
use Rattle.dia_ccf.specs.declared.source.Head.{Head}
use Rattle.dia_ccf.specs.declared.source.Head.TheVariants.{Group, Command, Error}
use Rattle.dia_ccf.specs.Tokens.{Token, Open_bracket, Close_bracket, Comma, Colon, Number, Name}
use Rattle.dia_ccf.specs.Grammar.{Tokens, ◌then◌, one, keyword, number, either, nothing, comma, flag, application, group_vendor, error_proxy, head}
use Rattle.dia_ccf.specs.Limits.{max_number, max_command_code}
use Rattle.dia_ccf.specs.Machine.{HeadPlace, Head_word, Diameter_word, Avp_word, Diameter_colon, Avp_colon, Command_code, Group_code, Flags, Group_vendor, Error_word, Error_flags}
use Rattle.dia_ccf.specs.Machine.{Error_either, Error_close, Head_end, next_in_head, next_flag, on_comma, head_at, same_sign, is_keyword, keyword_at, sign_at, number_at}
use Rattle.dia_ccf.proofs.TokenTests.{chosen, mapped, some_is, same_sign-is, sign_at-is, keyword-is, keyword_at-is, number_at-is}

-- after the flags of a command
abbrev flags_rest : Bool → Bool → Bool → Bool → Option ℕ → Tokens
flags_rest false false r p app = flag r (codes "req") then flag p (codes "pxy") then application app
flags_rest true false r p app = λ ts. (r ≡ true) × (flag p (codes "pxy") then application app) ts
flags_rest request true r p app = λ ts. (r ≡ request) × (p ≡ true) × application app ts

-- after a head's colon
abbrev diameter_rest : Head → Tokens
diameter_rest (Group code n) = λ ts. ⊥
diameter_rest (Command code request pxy app) = number max_command_code code then flags_rest false false request pxy app
diameter_rest (Error pxy) = keyword (codes "code") then comma then keyword (codes "err") then error_proxy pxy

abbrev group_rest : Head → Tokens
group_rest (Group code n) = number max_number code then group_vendor n
group_rest (Command code request pxy app) = λ ts. ⊥
group_rest (Error pxy) = λ ts. ⊥

abbrev after_code : ℕ → Bool → Bool → Head → Tokens
after_code c request pxy (Group code n) = λ ts. ⊥
after_code c request pxy (Command code r p app) = λ ts. (c ≡ code) × flags_rest request pxy r p app ts
after_code c request pxy (Error p) = λ ts. ⊥

abbrev after_group : ℕ → Head → Tokens
after_group c (Group code n) = λ ts. (c ≡ code) × group_vendor n ts
after_group c (Command code r p app) = λ ts. ⊥
after_group c (Error p) = λ ts. ⊥

abbrev of_error : (Pxy → Tokens) → Head → Tokens
of_error class (Group code n) = λ ts. ⊥
of_error class (Command code r p app) = λ ts. ⊥
of_error class (Error p) = class p

abbrev either_proxy : Pxy → Tokens
either_proxy Clear = λ ts. ⊥
either_proxy Set = λ ts. ⊥
either_proxy Either = comma then keyword (codes "pxy") then one Close_bracket

abbrev close_proxy : Pxy → Tokens
close_proxy Clear = λ ts. ⊥
close_proxy Set = λ ts. ⊥
close_proxy Either = one Close_bracket

-- the same where a comma has been read
abbrev after_comma : Bool → Tokens → Tokens
after_comma false class = class
after_comma true class = λ ts. class (Comma ∷ ts)

-- the tokens that complete a head
abbrev pub head_rest : HeadPlace → Head → Tokens
head_rest Head_word h = head h
head_rest Diameter_word h = keyword (codes "header") then one Colon then diameter_rest h
head_rest Avp_word h = keyword (codes "header") then one Colon then group_rest h
head_rest Diameter_colon h = one Colon then diameter_rest h
head_rest Avp_colon h = one Colon then group_rest h
head_rest Command_code h = diameter_rest h
head_rest Group_code h = group_rest h
head_rest (Flags c request pxy comma) h = after_comma comma (after_code c request pxy h)
head_rest (Group_vendor c comma) h = after_comma comma (after_group c h)
head_rest (Error_word comma_read) h = after_comma comma_read (of_error (λ p. comma then keyword (codes "err") then error_proxy p) h)
head_rest (Error_flags comma_read) h = after_comma comma_read (of_error error_proxy h)
head_rest (Error_either comma_read) h = after_comma comma_read (of_error either_proxy h)
head_rest Error_close h = of_error close_proxy h
head_rest (Head_end head) h = λ ts. (head ≡ h) × (ts ≡ [])

-- ---- where a head may end

flags_end : (c : ℕ) (request pxy : Bool) → after_code c request pxy (Command c request pxy None) []
flags_end c false false = (refl, ([], [], refl, refl, ([], [], refl, refl, refl)))
flags_end c true false = (refl, (refl, ([], [], refl, refl, refl)))
flags_end c request true = (refl, (refl, refl, refl))

pub head_ends : (at : HeadPlace) (h : Head) → head_at at ≡ Some h → head_rest at h []
head_ends (Flags c request pxy false) h e = subst (λ (k : Head). after_code c request pxy k []) (some_is (Command c request pxy None) h e) (flags_end c request pxy)
head_ends (Group_vendor c false) h e = subst (λ (k : Head). after_group c k []) (some_is (Group c 0) h e) (refl, inl (refl, refl))
head_ends (Error_flags false) h e = subst (λ (k : Head). of_error error_proxy k []) (some_is (Error Clear) h e) refl
head_ends (Head_end k) h e = (some_is k h e, refl)
head_ends at h e = absurd cc

-- ---- classes one after the other

pub then_left : (a b c : Tokens) (ts : List Token) → (a then (b then c)) ts → ((a then b) then c) ts
then_left a b c ts (front, rest, parts, first, (middle, last, more, second, third)) =
    (front ++ middle, last, parts ∙ ap (λ (f : List Token). front ++ f) more ∙ sym (append_assoc front middle last), (front, middle, refl, first, second), third)

pub then_wider : (a wide c : Tokens) (ts : List Token) → ((us : List Token) → a us → wide us) → (a then c) ts → (wide then c) ts
then_wider a wide c ts go (front, rest, parts, first, second) = (front, rest, parts, go front first, second)

pub then_one : (a c : Tokens) (t : Token) (ts : List Token) → a (t ∷ []) → c ts → (a then c) (t ∷ ts)
then_one a c t ts first second = (t ∷ [], ts, refl, first, second)

spelled : (text w : List ℕ) → map to_ascii_lowercase w ≡ text → keyword text (Name w ∷ [])
spelled text w e = (w, e, refl)

-- ---- steps

comma_back : (comma : Bool) (to q : HeadPlace) (other : Option HeadPlace) (t : Token) → on_comma comma to other t ≡ Some q → ((comma ≡ false) × (t ≡ Comma) × (to ≡ q)) ⊎ (other ≡ Some q)
comma_back comma to q other t h =
    ⊎_elim (λ (e, k). inl (by_comma comma e k)) (λ (e, k). inr k) (chosen (same_sign Comma t) (cond comma None (Some to)) other (Some q) h)
  where
    by_comma : (b : Bool) → same_sign Comma t ≡ true → cond b None (Some to) ≡ Some q → (b ≡ false) × (t ≡ Comma) × (to ≡ q)
    by_comma true e k = absurd cc
    by_comma false e k = (refl, sym (same_sign-is Comma t e), some_is to q k)

-- a comma was read
comma_read : (class : Tokens) (b : Bool) (t : Token) (ts : List Token) → b ≡ false → t ≡ Comma → class (Comma ∷ ts) → after_comma b class (t ∷ ts)
comma_read class true t ts e k h = absurd cc
comma_read class false t ts e k h = subst (λ (u : Token). class (u ∷ ts)) (sym k) h

-- a word after a comma or none
after_then : (text w : List ℕ) (c : Tokens) (ts : List Token) (b : Bool) → map to_ascii_lowercase w ≡ text → c ts → after_comma b (comma then keyword text then c) (Name w ∷ ts)
after_then text w c ts true e h = (Comma ∷ [], Name w ∷ ts, refl, inr refl, (Name w ∷ [], ts, refl, spelled text w e, h))
after_then text w c ts false e h = ([], Name w ∷ ts, refl, inl refl, (Name w ∷ [], ts, refl, spelled text w e, h))

after_flag : (text w : List ℕ) (c : Tokens) (ts : List Token) (b : Bool) → map to_ascii_lowercase w ≡ text → c ts → after_comma b (flag true text then c) (Name w ∷ ts)
after_flag text w c ts true e h = (Comma ∷ Name w ∷ [], ts, refl, (Comma ∷ [], Name w ∷ [], refl, inr refl, spelled text w e), h)
after_flag text w c ts false e h = (Name w ∷ [], ts, refl, ([], Name w ∷ [], refl, inl refl, spelled text w e), h)

after_number : (n most : ℕ) (b : Bool) → n ≤ most → after_comma b (comma then number most n) (Number n ∷ [])
after_number n most true h = (Comma ∷ [], Number n ∷ [], refl, inr refl, (h, refl))
after_number n most false h = ([], Number n ∷ [], refl, inl refl, (h, refl))

after_wider : (a b : Tokens) (read : Bool) (ts : List Token) → ((us : List Token) → a us → b us) → after_comma read a ts → after_comma read b ts
after_wider a b true ts go h = go (Comma ∷ ts) h
after_wider a b false ts go h = go ts h

nothing_then : (c : Tokens) (ts : List Token) → c ts → (nothing then c) ts
nothing_then c ts h = ([], ts, refl, refl, h)

request_back : (c : ℕ) (request pxy read : Bool) (w : List ℕ) (q : HeadPlace) (h : Head) (ts : List Token) → map to_ascii_lowercase w ≡ codes "req"
    → cond (request || pxy) None (Some (Flags c true pxy false)) ≡ Some q → head_rest q h ts
    → after_comma read (after_code c request pxy h) (Name w ∷ ts)
request_back c true pxy read w q h ts e k f = absurd cc
request_back c false true read w q h ts e k f = absurd cc
request_back c false false read w q (Group code n) ts e k f = absurd (subst (λ (p : HeadPlace). head_rest p (Group code n) ts) (sym (some_is (Flags c true false false) q k)) f)
request_back c false false read w q (Command code r p app) ts e k f =
    let g = subst (λ (at : HeadPlace). head_rest at (Command code r p app) ts) (sym (some_is (Flags c true false false) q k)) f in
    after_wider (flag true (codes "req") then flag p (codes "pxy") then application app) (after_code c false false (Command code r p app)) read (Name w ∷ ts)
    (λ us wide. (g.0, subst (λ (b : Bool). (flag b (codes "req") then flag p (codes "pxy") then application app) us) (sym g.1.0) wide))
    (after_flag (codes "req") w (flag p (codes "pxy") then application app) ts read e g.1.1)
request_back c false false read w q (Error p) ts e k f = absurd (subst (λ (at : HeadPlace). head_rest at (Error p) ts) (sym (some_is (Flags c true false false) q k)) f)

-- what the proxiable flag says of the flags before it
proxiable_wider : (request r p : Bool) (app : Option ℕ) (us : List Token) → r ≡ request → (flag p (codes "pxy") then application app) us → flags_rest request false r p app us
proxiable_wider true r p app us e h = (e, h)
proxiable_wider false r p app us e h = subst (λ (b : Bool). (flag b (codes "req") then flag p (codes "pxy") then application app) us)
    (sym e) (nothing_then (flag p (codes "pxy") then application app) us h)

proxiable_back : (c : ℕ) (request pxy read : Bool) (w : List ℕ) (q : HeadPlace) (h : Head) (ts : List Token)
    → map to_ascii_lowercase w ≡ codes "pxy" → cond pxy None (Some (Flags c request true false)) ≡ Some q → head_rest q h ts
    → after_comma read (after_code c request pxy h) (Name w ∷ ts)
proxiable_back c request true read w q h ts e k f = absurd cc
proxiable_back c request false read w q (Group code n) ts e k f = absurd (subst (λ (p : HeadPlace). head_rest p (Group code n) ts) (sym (some_is (Flags c request true false) q k)) f)
proxiable_back c request false read w q (Command code r p app) ts e k f =
    let g = subst (λ (at : HeadPlace). head_rest at (Command code r p app) ts) (sym (some_is (Flags c request true false) q k)) f in
    let flags = proxied request r p app ts g.1 in
    after_wider (flag true (codes "pxy") then application app) (after_code c request false (Command code r p app)) read (Name w ∷ ts)
    (λ us wide. (g.0, proxiable_wider request r p app us flags.0 (subst (λ (b : Bool). (flag b (codes "pxy") then application app) us) (sym flags.1) wide)))
    (after_flag (codes "pxy") w (application app) ts read e flags.2)
  where
    proxied : (request r p : Bool) (app : Option ℕ) (ts : List Token) → flags_rest request true r p app ts → (r ≡ request) × (p ≡ true) × application app ts
    proxied true r p app ts h = h
    proxied false r p app ts h = h
proxiable_back c request false read w q (Error p) ts e k f = absurd (subst (λ (at : HeadPlace). head_rest at (Error p) ts) (sym (some_is (Flags c request true false) q k)) f)

application_wider : (request pxy : Bool) (app : Option ℕ) (us : List Token) → application app us → flags_rest request pxy request pxy app us
application_wider false false app us h = nothing_then (flag false (codes "pxy") then application app) us (nothing_then (application app) us h)
application_wider true false app us h = (refl, nothing_then (application app) us h)
application_wider request true app us h = (refl, refl, h)

application_back : (c : ℕ) (request pxy read : Bool) (n : ℕ) (h : Head) (ts : List Token) → n ≤ max_number
    → head_rest (Head_end (Command c request pxy (Some n))) h ts → after_comma read (after_code c request pxy h) (Number n ∷ ts)
application_back c request pxy read n h ts small (is, none) =
    let P : Head → List Token → Type 0 = λ k us. after_comma read (after_code c request pxy k) (Number n ∷ us) in
    subst (λ (us : List Token). P h us) (sym none) (subst (λ (k : Head). P k []) is
    (after_wider (application (Some n)) (after_code c request pxy (Command c request pxy (Some n))) read (Number n ∷ [])
    (λ us wide. (refl, application_wider request pxy (Some n) us wide)) (after_number n max_number read small)))

flag_back : (c : ℕ) (request pxy read : Bool) (t : Token) (q : HeadPlace) (h : Head) (ts : List Token)
    → next_flag c request pxy t ≡ Some q → head_rest q h ts → after_comma read (after_code c request pxy h) (t ∷ ts)
flag_back c request pxy read t q h ts k f =
    ⊎_elim (λ (e, k1). (let w = keyword-is (codes "req") t e
    in subst (λ (u : Token). after_comma read (after_code c request pxy h) (u ∷ ts)) (sym w.2) (request_back c request pxy read w.0 q h ts w.1 k1 f)))
    (λ (e, k1). ⊎_elim (λ (e2, k2). (let w = keyword-is (codes "pxy") t e2
    in subst (λ (u : Token). after_comma read (after_code c request pxy h) (u ∷ ts)) (sym w.2) (proxiable_back c request pxy read w.0 q h ts w.1 k2 f)))
    (λ (e2, k2). (let m = mapped (λ n. Head_end (Command c request pxy (Some n))) (number_at 0 max_number t) q k2 in
    let n = number_at-is 0 max_number t m.0 m.1 in
    subst (λ (u : Token). after_comma read (after_code c request pxy h) (u ∷ ts)) (sym n.0)
    (application_back c request pxy read m.0 h ts n.2 (subst (λ (at : HeadPlace). head_rest at h ts) (sym m.2) f))))
    (chosen (is_keyword (codes "pxy") t) (cond pxy None (Some (Flags c request true false))) (option_map (λ n. Head_end (Command c request pxy (Some n))) (number_at 0 max_number t)) (Some q) k1))
    (chosen (is_keyword (codes "req") t) (cond (request || pxy) None (Some (Flags c true pxy false))) _ (Some q) k)

group_vendor_back : (c n : ℕ) (read : Bool) (h : Head) (ts : List Token) → n ≤ max_number → head_rest (Head_end (Group c n)) h ts → after_comma read (after_group c h) (Number n ∷ ts)
group_vendor_back c n read h ts small (is, none) =
    let P : Head → List Token → Type 0 = λ k us. after_comma read (after_group c k) (Number n ∷ us) in
    subst (λ (us : List Token). P h us) (sym none) (subst (λ (k : Head). P k []) is
    (after_wider (comma then number max_number n) (after_group c (Group c n)) read (Number n ∷ []) (λ us wide. (refl, inr wide)) (after_number n max_number read small)))

error_word_back : (read : Bool) (w : List ℕ) (h : Head) (ts : List Token) → map to_ascii_lowercase w ≡ codes "err" → head_rest (Error_flags false) h ts → head_rest (Error_word read) h (Name w ∷ ts)
error_word_back read w (Group code n) ts e f = absurd f
error_word_back read w (Command code r p app) ts e f = absurd f
error_word_back read w (Error p) ts e f = after_then (codes "err") w (error_proxy p) ts read e f

proxied_back : (read : Bool) (w : List ℕ) (h : Head) (ts : List Token) → map to_ascii_lowercase w ≡ codes "pxy" → head_rest (Head_end (Error Set)) h ts → head_rest (Error_flags read) h (Name w ∷ ts)
proxied_back read w h ts e (is, none) =
    subst (λ (us : List Token). head_rest (Error_flags read) h (Name w ∷ us)) (sym none) (subst (λ (k : Head). head_rest (Error_flags read) k (Name w ∷ [])) is (last read))
  where
    last : (b : Bool) → after_comma b (comma then keyword (codes "pxy")) (Name w ∷ [])
    last true = (Comma ∷ [], Name w ∷ [], refl, inr refl, spelled (codes "pxy") w e)
    last false = ([], Name w ∷ [], refl, inl refl, spelled (codes "pxy") w e)

opened_back : (h : Head) (ts : List Token) → head_rest (Error_either false) h ts → of_error error_proxy h (Open_bracket ∷ ts)
opened_back (Group code n) ts f = absurd f
opened_back (Command code r p app) ts f = absurd f
opened_back (Error Clear) ts f = absurd f
opened_back (Error Set) ts f = absurd f
opened_back (Error Either) ts f = then_one (one Open_bracket) (comma then keyword (codes "pxy") then one Close_bracket) Open_bracket ts refl f

either_back : (read : Bool) (w : List ℕ) (h : Head) (ts : List Token) → map to_ascii_lowercase w ≡ codes "pxy" → head_rest Error_close h ts → head_rest (Error_either read) h (Name w ∷ ts)
either_back read w (Group code n) ts e f = absurd f
either_back read w (Command code r p app) ts e f = absurd f
either_back read w (Error Clear) ts e f = absurd f
either_back read w (Error Set) ts e f = absurd f
either_back read w (Error Either) ts e f = after_then (codes "pxy") w (one Close_bracket) ts read e f

close_back : (h : Head) (ts : List Token) → head_rest (Head_end (Error Either)) h ts → head_rest Error_close h (Close_bracket ∷ ts)
close_back h ts (is, none) = subst (λ (us : List Token). head_rest Error_close h (Close_bracket ∷ us)) (sym none) (subst (λ (k : Head). head_rest Error_close k (Close_bracket ∷ [])) is refl)

code_back : (w : List ℕ) (h : Head) (ts : List Token) → map to_ascii_lowercase w ≡ codes "code" → head_rest (Error_word false) h ts → diameter_rest h (Name w ∷ ts)
code_back w (Group code n) ts e f = absurd f
code_back w (Command code r p app) ts e f = absurd f
code_back w (Error p) ts e f = then_one (keyword (codes "code")) (comma then keyword (codes "err") then error_proxy p) (Name w) ts (spelled (codes "code") w e) f

number_back : (n : ℕ) (h : Head) (ts : List Token) → n ≤ max_command_code → head_rest (Flags n false false false) h ts → diameter_rest h (Number n ∷ ts)
number_back n (Group code m) ts small f = absurd f
number_back n (Command code r p app) ts small f = subst (λ (k : ℕ). (number max_command_code k then flags_rest false false r p app) (Number n ∷ ts)) f.0
    (then_one (number max_command_code n) (flags_rest false false r p app) (Number n) ts (small, refl) f.1)
number_back n (Error p) ts small f = absurd f

group_back : (n : ℕ) (h : Head) (ts : List Token) → n ≤ max_number → head_rest (Group_vendor n false) h ts → group_rest h (Number n ∷ ts)
group_back n (Group code m) ts small f = subst (λ (k : ℕ). (number max_number k then group_vendor m) (Number n ∷ ts)) f.0
    (then_one (number max_number n) (group_vendor m) (Number n) ts (small, refl) f.1)
group_back n (Command code r p app) ts small f = absurd f
group_back n (Error p) ts small f = absurd f

-- the two words of a header
abbrev diameter_words : Tokens
diameter_words = either (keyword (codes "diameter") then keyword (codes "header")) (keyword (codes "diameter-header"))

abbrev avp_words : Tokens
avp_words = either (keyword (codes "avp") then keyword (codes "header")) (keyword (codes "avp-header"))

diameter_head : (h : Head) (ts : List Token) → ((diameter_words then one Colon) then diameter_rest h) ts → head h ts
diameter_head (Group code n) ts f = absurd f.4
diameter_head (Command code r p app) ts f = f
diameter_head (Error p) ts f = f

avp_head : (h : Head) (ts : List Token) → ((avp_words then one Colon) then group_rest h) ts → head h ts
avp_head (Group code n) ts f = f
avp_head (Command code r p app) ts f = absurd f.4
avp_head (Error p) ts f = absurd f.4

-- a header in two words and in one
two_words : (first second one_word : List ℕ) (c : Tokens) (w : List ℕ) (ts : List Token) → map to_ascii_lowercase w ≡ first → (keyword second then one Colon then c) ts
    → ((either (keyword first then keyword second) (keyword one_word) then one Colon) then c) (Name w ∷ ts)
two_words first second one_word c w ts e h =
    then_left (either (keyword first then keyword second) (keyword one_word)) (one Colon) c (Name w ∷ ts)
    (then_wider (keyword first then keyword second) (either (keyword first then keyword second) (keyword one_word)) (one Colon then c) (Name w ∷ ts) (λ us f. inl f)
    (then_left (keyword first) (keyword second) (one Colon then c) (Name w ∷ ts) (then_one (keyword first) (keyword second then one Colon then c) (Name w) ts (spelled first w e) h)))

one_word : (first second word : List ℕ) (c : Tokens) (w : List ℕ) (ts : List Token) → map to_ascii_lowercase w ≡ word → (one Colon then c) ts
    → ((either (keyword first then keyword second) (keyword word) then one Colon) then c) (Name w ∷ ts)
one_word first second word c w ts e h =
    then_left (either (keyword first then keyword second) (keyword word)) (one Colon) c (Name w ∷ ts)
    (then_wider (keyword word) (either (keyword first then keyword second) (keyword word)) (one Colon then c) (Name w ∷ ts) (λ us f. inr f)
    (then_one (keyword word) (one Colon then c) (Name w) ts (spelled word w e) h))

word_back : (t : Token) (q : HeadPlace) (h : Head) (ts : List Token) → next_in_head Head_word t ≡ Some q → head_rest q h ts → head h (t ∷ ts)
word_back t q h ts k f =
    let to : (w : List ℕ) → t ≡ Name w → head h (Name w ∷ ts) → head h (t ∷ ts) = λ w e g. subst (λ (u : Token). head h (u ∷ ts)) (sym e) g in
    let at : (p : HeadPlace) → p ≡ q → head_rest p h ts = λ p e. subst (λ (r : HeadPlace). head_rest r h ts) (sym e) f in
    ⊎_elim (λ (e, k1). (let w = keyword-is (codes "avp") t e
    in to w.0 w.2 (avp_head h (Name w.0 ∷ ts) (two_words (codes "avp") (codes "header") (codes "avp-header") (group_rest h) w.0 ts w.1 (at Avp_word (some_is Avp_word q k1))))))
    (λ (e, k1). ⊎_elim (λ (e2, k2). (let w = keyword-is (codes "avp-header") t e2
    in to w.0 w.2 (avp_head h (Name w.0 ∷ ts) (one_word (codes "avp") (codes "header") (codes "avp-header") (group_rest h) w.0 ts w.1 (at Avp_colon (some_is Avp_colon q k2))))))
    (λ (e2, k2). ⊎_elim (λ (e3, k3). (let w = keyword-is (codes "diameter") t e3
    in to w.0 w.2 (diameter_head h (Name w.0 ∷ ts) (two_words (codes "diameter") (codes "header") (codes "diameter-header")
    (diameter_rest h) w.0 ts w.1 (at Diameter_word (some_is Diameter_word q k3))))))
    (λ (e3, k3). (let m = mapped (λ u. Diameter_colon) (keyword_at (codes "diameter-header") t) q k3 in
    let w = keyword_at-is (codes "diameter-header") t m.0 m.1 in
    to w.0 w.2 (diameter_head h (Name w.0 ∷ ts) (one_word (codes "diameter") (codes "header") (codes "diameter-header") (diameter_rest h) w.0 ts w.1 (at Diameter_colon m.2)))))
    (chosen (is_keyword (codes "diameter") t) (Some Diameter_word) (option_map (λ u. Diameter_colon) (keyword_at (codes "diameter-header") t)) (Some q) k2))
    (chosen (is_keyword (codes "avp-header") t) (Some Avp_colon) _ (Some q) k1))
    (chosen (is_keyword (codes "avp") t) (Some Avp_word) _ (Some q) k)

-- one step back in a head
pub head_back : (at : HeadPlace) (t : Token) (q : HeadPlace) (h : Head) (ts : List Token) → next_in_head at t ≡ Some q → head_rest q h ts → head_rest at h (t ∷ ts)
head_back Head_word t q h ts k f = word_back t q h ts k f
head_back Diameter_word t q h ts k f =
    let m = mapped (λ u. Diameter_colon) (keyword_at (codes "header") t) q k in
    let w = keyword_at-is (codes "header") t m.0 m.1 in
    subst (λ (u : Token). head_rest Diameter_word h (u ∷ ts)) (sym w.2)
    (then_one (keyword (codes "header")) (one Colon then diameter_rest h) (Name w.0) ts (spelled (codes "header") w.0 w.1) (subst (λ (p : HeadPlace). head_rest p h ts) (sym m.2) f))
head_back Avp_word t q h ts k f =
    let m = mapped (λ u. Avp_colon) (keyword_at (codes "header") t) q k in
    let w = keyword_at-is (codes "header") t m.0 m.1 in
    subst (λ (u : Token). head_rest Avp_word h (u ∷ ts)) (sym w.2)
    (then_one (keyword (codes "header")) (one Colon then group_rest h) (Name w.0) ts (spelled (codes "header") w.0 w.1) (subst (λ (p : HeadPlace). head_rest p h ts) (sym m.2) f))
head_back Diameter_colon t q h ts k f =
    let m = mapped (λ u. Command_code) (sign_at Colon t) q k in
    subst (λ (u : Token). head_rest Diameter_colon h (u ∷ ts)) (sym (sign_at-is Colon t m.0 m.1))
    (then_one (one Colon) (diameter_rest h) Colon ts refl (subst (λ (p : HeadPlace). head_rest p h ts) (sym m.2) f))
head_back Avp_colon t q h ts k f =
    let m = mapped (λ u. Group_code) (sign_at Colon t) q k in
    subst (λ (u : Token). head_rest Avp_colon h (u ∷ ts)) (sym (sign_at-is Colon t m.0 m.1))
    (then_one (one Colon) (group_rest h) Colon ts refl (subst (λ (p : HeadPlace). head_rest p h ts) (sym m.2) f))
head_back Command_code t q h ts k f =
    ⊎_elim (λ (e, k1). (let w = keyword-is (codes "code") t e in
    subst (λ (u : Token). diameter_rest h (u ∷ ts)) (sym w.2) (code_back w.0 h ts w.1 (subst (λ (p : HeadPlace). head_rest p h ts) (sym (some_is (Error_word false) q k1)) f))))
    (λ (e, k1). (let m = mapped (λ n. Flags n false false false) (number_at 0 max_command_code t) q k1 in
    let n = number_at-is 0 max_command_code t m.0 m.1 in
    subst (λ (u : Token). diameter_rest h (u ∷ ts)) (sym n.0) (number_back m.0 h ts n.2 (subst (λ (p : HeadPlace). head_rest p h ts) (sym m.2) f))))
    (chosen (is_keyword (codes "code") t) (Some (Error_word false)) (option_map (λ n. Flags n false false false) (number_at 0 max_command_code t)) (Some q) k)
head_back Group_code t q h ts k f =
    let m = mapped (λ n. Group_vendor n false) (number_at 0 max_number t) q k in
    let n = number_at-is 0 max_number t m.0 m.1 in
    subst (λ (u : Token). group_rest h (u ∷ ts)) (sym n.0) (group_back m.0 h ts n.2 (subst (λ (p : HeadPlace). head_rest p h ts) (sym m.2) f))
head_back (Flags c request pxy read) t q h ts k f =
    ⊎_elim (λ (e, e2, e3). comma_read (after_code c request pxy h) read t ts e e2 (subst (λ (p : HeadPlace). head_rest p h ts) (sym e3) f))
    (λ k1. flag_back c request pxy read t q h ts k1 f)
    (comma_back read (Flags c request pxy true) q (next_flag c request pxy t) t k)
head_back (Group_vendor c read) t q h ts k f =
    ⊎_elim (λ (e, e2, e3). comma_read (after_group c h) read t ts e e2 (subst (λ (p : HeadPlace). head_rest p h ts) (sym e3) f))
    (λ k1. (let m = mapped (λ n. Head_end (Group c n)) (number_at 0 max_number t) q k1 in
    let n = number_at-is 0 max_number t m.0 m.1 in
    subst (λ (u : Token). head_rest (Group_vendor c read) h (u ∷ ts)) (sym n.0) (group_vendor_back c m.0 read h ts n.2 (subst (λ (p : HeadPlace). head_rest p h ts) (sym m.2) f))))
    (comma_back read (Group_vendor c true) q (option_map (λ n. Head_end (Group c n)) (number_at 0 max_number t)) t k)
head_back (Error_word read) t q h ts k f =
    ⊎_elim (λ (e, e2, e3). comma_read (of_error (λ p. comma then keyword (codes "err") then error_proxy p) h) read t ts e e2 (subst (λ (p : HeadPlace). head_rest p h ts) (sym e3) f))
    (λ k1. (let m = mapped (λ u. Error_flags false) (keyword_at (codes "err") t) q k1 in
    let w = keyword_at-is (codes "err") t m.0 m.1 in
    subst (λ (u : Token). head_rest (Error_word read) h (u ∷ ts)) (sym w.2) (error_word_back read w.0 h ts w.1 (subst (λ (p : HeadPlace). head_rest p h ts) (sym m.2) f))))
    (comma_back read (Error_word true) q (option_map (λ u. Error_flags false) (keyword_at (codes "err") t)) t k)
head_back (Error_flags read) t q h ts k f =
    ⊎_elim (λ (e, e2, e3). comma_read (of_error error_proxy h) read t ts e e2 (subst (λ (p : HeadPlace). head_rest p h ts) (sym e3) f))
    (λ k1. ⊎_elim (λ (e, k2). (let w = keyword-is (codes "pxy") t e in
    subst (λ (u : Token). head_rest (Error_flags read) h (u ∷ ts)) (sym w.2)
    (proxied_back read w.0 h ts w.1 (subst (λ (p : HeadPlace). head_rest p h ts) (sym (some_is (Head_end (Error Set)) q k2)) f))))
    (λ (e, k2). opened read k2)
    (chosen (is_keyword (codes "pxy") t) (Some (Head_end (Error Set))) (cond read None (option_map (λ u. Error_either false) (sign_at Open_bracket t))) (Some q) k1))
    (comma_back read (Error_flags true) q _ t k)
  where
    opened : (b : Bool) → cond b None (option_map (λ u. Error_either false) (sign_at Open_bracket t)) ≡ Some q → head_rest (Error_flags b) h (t ∷ ts)
    opened true k2 = absurd cc
    opened false k2 =
        let m = mapped (λ u. Error_either false) (sign_at Open_bracket t) q k2 in
        subst (λ (u : Token). head_rest (Error_flags false) h (u ∷ ts)) (sym (sign_at-is Open_bracket t m.0 m.1)) (opened_back h ts (subst (λ (p : HeadPlace). head_rest p h ts) (sym m.2) f))
head_back (Error_either read) t q h ts k f =
    ⊎_elim (λ (e, e2, e3). comma_read (of_error either_proxy h) read t ts e e2 (subst (λ (p : HeadPlace). head_rest p h ts) (sym e3) f))
    (λ k1. (let m = mapped (λ u. Error_close) (keyword_at (codes "pxy") t) q k1 in
    let w = keyword_at-is (codes "pxy") t m.0 m.1 in
    subst (λ (u : Token). head_rest (Error_either read) h (u ∷ ts)) (sym w.2) (either_back read w.0 h ts w.1 (subst (λ (p : HeadPlace). head_rest p h ts) (sym m.2) f))))
    (comma_back read (Error_either true) q (option_map (λ u. Error_close) (keyword_at (codes "pxy") t)) t k)
head_back Error_close t q h ts k f =
    let m = mapped (λ u. Head_end (Error Either)) (sign_at Close_bracket t) q k in
    subst (λ (u : Token). head_rest Error_close h (u ∷ ts)) (sym (sign_at-is Close_bracket t m.0 m.1)) (close_back h ts (subst (λ (p : HeadPlace). head_rest p h ts) (sym m.2) f))
head_back (Head_end head) t q h ts k f = absurd cc
