-- The heads that the grammar derives, the machine takes.
use Rattle.std.proofs.Common.{◌≡◌, ℕ, ◌≤◌, Bool, true, false, List, [], ◌∷◌, ◌++◌, map, Option, Some, None, refl, sym, ap, subst, ◌∙◌, append_assoc, arith, ⊎_elim}
use Rattle.std.specs.Prelude.{codes}
use Rattle.std.specs.Char.{to_ascii_lowercase}
use Rattle.dia_terms.specs.declared.Pxy.{Pxy}
use Rattle.dia_terms.specs.declared.Pxy.TheVariants.{Clear, Set, Either}
use Rattle.dia_ccf.specs.declared.source.Head.{Head}
use Rattle.dia_ccf.specs.declared.source.Head.TheVariants.{Group, Command, Error}
use Rattle.dia_ccf.specs.Plain.{PlainSource}
use Rattle.dia_ccf.specs.Tokens.{Token, Greater, Open_bracket, Close_bracket, Comma, Colon, Number, Name}
use Rattle.dia_ccf.specs.Grammar.{Tokens, ◌then◌, one, keyword, number, either, nothing, comma, flag, application, group_vendor, error_proxy, head, diameter_header, avp_header}
use Rattle.dia_ccf.specs.Limits.{max_number, max_command_code}
use Rattle.dia_ccf.specs.Machine.{State, HeadPlace, In_head, Rules, Head_word, Diameter_word, Avp_word, Diameter_colon, Avp_colon, Command_code}
use Rattle.dia_ccf.specs.Machine.{Group_code, Flags, Group_vendor, Error_word, Error_flags, Error_either, Error_close, Head_end, next, outcome}
use Rattle.dia_ccf.proofs.MachineRuns.{take_one, number_at-some}

-- ---- one class after another

-- what is read of a class leads from one state to another, whatever follows
abbrev pub Taken : Tokens → State → State → Type 0
Taken class p q = (front us : List Token) → class front → outcome p (front ++ us) ≡ outcome q us

pub taken_then : (a b : Tokens) (p q r : State) → Taken a p q → Taken b q r → Taken (a then b) p r
taken_then a b p q r first second front us (xs, ys, parts, h, k) = ap (λ (f : List Token). outcome p (f ++ us)) parts ∙ ap (outcome p) (append_assoc xs ys us) ∙ first xs (ys ++ us) h ∙ second ys us k

pub taken_one : (t : Token) (p q : State) → next p t ≡ Some q → Taken (one t) p q
taken_one t p q h front us e = ap (λ (f : List Token). outcome p (f ++ us)) e ∙ take_one p t q us h

pub taken_nothing : (p : State) → Taken nothing p p
taken_nothing p front us e = ap (λ (f : List Token). outcome p (f ++ us)) e

pub taken_keyword : (text : List ℕ) (p q : State) → ((w : List ℕ) → map to_ascii_lowercase w ≡ text → next p (Name w) ≡ Some q) → Taken (keyword text) p q
taken_keyword text p q h front us (w, e, is) = ap (λ (f : List Token). outcome p (f ++ us)) is ∙ take_one p (Name w) q us (h w e)

pub taken_number : (most n : ℕ) (p q : State) → (n ≤ most → next p (Number n) ≡ Some q) → Taken (number most n) p q
taken_number most n p q h front us (small, is) = ap (λ (f : List Token). outcome p (f ++ us)) is ∙ take_one p (Number n) q us (h small)

pub taken_either : (a b : Tokens) (p q : State) → Taken a p q → Taken b p q → Taken (either a b) p q
taken_either a b p q first second front us h = ⊎_elim (λ k. first front us k) (λ k. second front us k) h

avp_header_taken : (done : PlainSource) (text : List ℕ) → Taken avp_header (done, In_head text Head_word) (done, In_head text Group_code)
avp_header_taken done text =
    taken_then (either (keyword (codes "avp") then keyword (codes "header")) (keyword (codes "avp-header"))) (one Colon) (
      done,
      In_head text Head_word,
    ) (done, In_head text Avp_colon) (done, In_head text Group_code)
    (taken_either (keyword (codes "avp") then keyword (codes "header")) (keyword (codes "avp-header")) (done, In_head text Head_word) (done, In_head text Avp_colon)
    (taken_then (keyword (codes "avp")) (keyword (codes "header")) (done, In_head text Head_word) (done, In_head text Avp_word) (done, In_head text Avp_colon)
    (taken_keyword (codes "avp") (done, In_head text Head_word) (done, In_head text Avp_word) (λ w e. rw e refl))
    (taken_keyword (codes "header") (done, In_head text Avp_word) (done, In_head text Avp_colon) (λ w e. rw e refl)))
    (taken_keyword (codes "avp-header") (done, In_head text Head_word) (done, In_head text Avp_colon) (λ w e. rw e refl)))
    (taken_one Colon (done, In_head text Avp_colon) (done, In_head text Group_code) refl)

diameter_header_taken : (done : PlainSource) (text : List ℕ) → Taken diameter_header (done, In_head text Head_word) (done, In_head text Command_code)
diameter_header_taken done text =
    taken_then (either (keyword (codes "diameter") then keyword (codes "header")) (keyword (codes "diameter-header"))) (one Colon) (
      done,
      In_head text Head_word,
    ) (done, In_head text Diameter_colon) (done, In_head text Command_code)
    (taken_either (keyword (codes "diameter") then keyword (codes "header")) (keyword (codes "diameter-header")) (done, In_head text Head_word) (done, In_head text Diameter_colon)
    (taken_then (keyword (codes "diameter")) (keyword (codes "header")) (done, In_head text Head_word) (done, In_head text Diameter_word) (done, In_head text Diameter_colon)
    (taken_keyword (codes "diameter") (done, In_head text Head_word) (done, In_head text Diameter_word) (λ w e. rw e refl))
    (taken_keyword (codes "header") (done, In_head text Diameter_word) (done, In_head text Diameter_colon) (λ w e. rw e refl)))
    (taken_keyword (codes "diameter-header") (done, In_head text Head_word) (done, In_head text Diameter_colon) (λ w e. rw e refl)))
    (taken_one Colon (done, In_head text Diameter_colon) (done, In_head text Command_code) refl)

-- a comma or none, and then what may follow both
taken_comma : (class : Tokens) (p with_comma q : State) → next p Comma ≡ Some with_comma → Taken class p q → Taken class with_comma q → Taken (comma then class) p q
taken_comma class p with_comma q step bare following front us (xs, ys, parts, h, k) =
    ⊎_elim (λ (e : xs ≡ []). ap (λ (f : List Token). outcome p (f ++ us)) (parts ∙ ap (λ (f : List Token). f ++ ys) e) ∙ bare ys us k)
    (λ (e : xs ≡ Comma ∷ []). ap (λ (f : List Token). outcome p (f ++ us)) (parts ∙ ap (λ (f : List Token). f ++ ys) e) ∙ take_one p Comma with_comma (ys ++ us) step ∙ following ys us k) h

-- ---- commands

request_taken : (done : PlainSource) (text : List ℕ) (c : ℕ) (r : Bool) → Taken (flag r (codes "req")) (done, In_head text (Flags c false false false)) (done, In_head text (Flags c r false false))
request_taken done text c false = taken_nothing (done, In_head text (Flags c false false false))
request_taken done text c true =
    taken_comma (keyword (codes "req")) (done, In_head text (Flags c false false false)) (done, In_head text (Flags c false false true)) (done, In_head text (Flags c true false false)) refl
    (taken_keyword (codes "req") (done, In_head text (Flags c false false false)) (done, In_head text (Flags c true false false)) (λ w e. rw e refl))
    (taken_keyword (codes "req") (done, In_head text (Flags c false false true)) (done, In_head text (Flags c true false false)) (λ w e. rw e refl))

proxiable_taken : (done : PlainSource) (text : List ℕ) (c : ℕ) (r p : Bool) → Taken (flag p (codes "pxy")) (done, In_head text (Flags c r false false)) (done, In_head text (Flags c r p false))
proxiable_taken done text c r false = taken_nothing (done, In_head text (Flags c r false false))
proxiable_taken done text c r true =
    taken_comma (keyword (codes "pxy")) (done, In_head text (Flags c r false false)) (done, In_head text (Flags c r false true)) (done, In_head text (Flags c r true false)) refl
    (taken_keyword (codes "pxy") (done, In_head text (Flags c r false false)) (done, In_head text (Flags c r true false)) (λ w e. rw e refl))
    (taken_keyword (codes "pxy") (done, In_head text (Flags c r false true)) (done, In_head text (Flags c r true false)) (λ w e. rw e refl))

-- a number that ends a head, after a comma or none
ending_number : (done : PlainSource) (text : List ℕ) (at after_comma : HeadPlace) (n : ℕ) (h : Head) → next (done, In_head text at) Comma ≡ Some (done, In_head text after_comma)
    → (n ≤ max_number → next (done, In_head text at) (Number n) ≡ Some (done, In_head text (Head_end h)))
    → (n ≤ max_number → next (done, In_head text after_comma) (Number n) ≡ Some (done, In_head text (Head_end h)))
    → Taken (comma then number max_number n) (done, In_head text at) (done, In_head text (Head_end h))
ending_number done text at after_comma n h step bare following =
    taken_comma (number max_number n) (done, In_head text at) (done, In_head text after_comma) (done, In_head text (Head_end h)) step
    (taken_number max_number n (done, In_head text at) (done, In_head text (Head_end h)) bare)
    (taken_number max_number n (done, In_head text after_comma) (done, In_head text (Head_end h)) following)

application_ended : (done : PlainSource) (text : List ℕ) (c : ℕ) (r p : Bool) (app : Option ℕ)
    → Taken (application app then one Greater) (done, In_head text (Flags c r p false)) (done, Rules (record { name = text; head = Command c r p app; rules = [] }))
application_ended done text c r p None =
    taken_then nothing (one Greater) (done, In_head text (Flags c r p false)) (done, In_head text (Flags c r p false)) (done, Rules (record { name = text; head = Command c r p None; rules = [] }))
    (taken_nothing (done, In_head text (Flags c r p false)))
    (taken_one Greater (done, In_head text (Flags c r p false)) (done, Rules (record { name = text; head = Command c r p None; rules = [] })) refl)
application_ended done text c r p (Some n) =
    taken_then (comma then number max_number n) (one Greater) (done, In_head text (Flags c r p false)) (
      done,
      In_head text (Head_end (Command c r p (Some n))),
    ) (done, Rules (record { name = text; head = Command c r p (Some n); rules = [] }))
    (ending_number done text (Flags c r p false) (Flags c r p true) n (Command c r p (Some n)) refl
    (λ small. rw (number_at-some 0 max_number n (omega arith) small) refl) (λ small. rw (number_at-some 0 max_number n (omega arith) small) refl))
    (taken_one Greater (done, In_head text (Head_end (Command c r p (Some n)))) (done, Rules (record { name = text; head = Command c r p (Some n); rules = [] })) refl)

-- ---- groups

group_ended : (done : PlainSource) (text : List ℕ) (c n : ℕ)
    → Taken (group_vendor n then one Greater) (done, In_head text (Group_vendor c false)) (done, Rules (record { name = text; head = Group c n; rules = [] }))
group_ended done text c n front us (xs, ys, parts, h, k) =
    ⊎_elim (λ (e, zero_is). subst (λ (m : ℕ). outcome (done, In_head text (Group_vendor c false)) (front ++ us)
    ≡ outcome (done, Rules (record { name = text; head = Group c m; rules = [] })) us) (sym zero_is)
    (taken_one Greater (done, In_head text (Group_vendor c false)) (done, Rules (record { name = text; head = Group c 0; rules = [] })) refl front us (parts ∙ ap (λ (f : List Token). f ++ ys) e ∙ k)))
    (λ numbered. taken_then (comma then number max_number n) (one Greater) (done, In_head text (Group_vendor c false)) (
      done,
      In_head text (Head_end (Group c n)),
    ) (done, Rules (record { name = text; head = Group c n; rules = [] }))
    (ending_number done text (Group_vendor c false) (Group_vendor c true) n (Group c n) refl (λ small. rw (number_at-some 0 max_number n (omega arith) small) refl)
    (λ small. rw (number_at-some 0 max_number n (omega arith) small) refl))
    (taken_one Greater (done, In_head text (Head_end (Group c n))) (done, Rules (record { name = text; head = Group c n; rules = [] })) refl) front us (xs, ys, parts, numbered, k)) h

-- ---- the answer with errors

error_ended : (done : PlainSource) (text : List ℕ) (p : Pxy)
    → Taken (error_proxy p then one Greater) (done, In_head text (Error_flags false)) (done, Rules (record { name = text; head = Error p; rules = [] }))
error_ended done text Clear =
    taken_then nothing (one Greater) (done, In_head text (Error_flags false)) (done, In_head text (Error_flags false)) (done, Rules (record { name = text; head = Error Clear; rules = [] }))
    (taken_nothing (done, In_head text (Error_flags false)))
    (taken_one Greater (done, In_head text (Error_flags false)) (done, Rules (record { name = text; head = Error Clear; rules = [] })) refl)
error_ended done text Set =
    taken_then (comma then keyword (codes "pxy")) (one Greater) (done, In_head text (Error_flags false)) (
      done,
      In_head text (Head_end (Error Set)),
    ) (done, Rules (record { name = text; head = Error Set; rules = [] }))
    (taken_comma (keyword (codes "pxy")) (done, In_head text (Error_flags false)) (done, In_head text (Error_flags true)) (done, In_head text (Head_end (Error Set))) refl
    (taken_keyword (codes "pxy") (done, In_head text (Error_flags false)) (done, In_head text (Head_end (Error Set))) (λ w e. rw e refl))
    (taken_keyword (codes "pxy") (done, In_head text (Error_flags true)) (done, In_head text (Head_end (Error Set))) (λ w e. rw e refl)))
    (taken_one Greater (done, In_head text (Head_end (Error Set))) (done, Rules (record { name = text; head = Error Set; rules = [] })) refl)
error_ended done text Either =
    taken_then (one Open_bracket then comma then keyword (codes "pxy") then one Close_bracket) (one Greater) (done, In_head text (Error_flags false)) (
      done,
      In_head text (Head_end (Error Either)),
    ) (done, Rules (record { name = text; head = Error Either; rules = [] }))
    (taken_then (one Open_bracket) (comma then keyword (codes "pxy") then one Close_bracket) (done, In_head text (Error_flags false)) (
      done,
      In_head text (Error_either false),
    ) (done, In_head text (Head_end (Error Either)))
    (taken_one Open_bracket (done, In_head text (Error_flags false)) (done, In_head text (Error_either false)) refl)
    (taken_comma (keyword (codes "pxy") then one Close_bracket) (done, In_head text (Error_either false)) (done, In_head text (Error_either true)) (done, In_head text (Head_end (Error Either))) refl
    (closed false) (closed true)))
    (taken_one Greater (done, In_head text (Head_end (Error Either))) (done, Rules (record { name = text; head = Error Either; rules = [] })) refl)
  where
    closed : (b : Bool) → Taken (keyword (codes "pxy") then one Close_bracket) (done, In_head text (Error_either b)) (done, In_head text (Head_end (Error Either)))
    closed b =
        taken_then (keyword (codes "pxy")) (one Close_bracket) (done, In_head text (Error_either b)) (done, In_head text Error_close) (done, In_head text (Head_end (Error Either)))
        (taken_keyword (codes "pxy") (done, In_head text (Error_either b)) (done, In_head text Error_close) (λ w e. rw e refl))
        (taken_one Close_bracket (done, In_head text Error_close) (done, In_head text (Head_end (Error Either))) refl)

-- ---- whole heads

pub taken_left : (a b c : Tokens) (p q : State) → Taken (a then (b then c)) p q → Taken ((a then b) then c) p q
taken_left a b c p q go front us (xs, ys, parts, (x1, x2, inner, h, k), l) = go front us (x1, x2 ++ ys, parts ∙ ap (λ (f : List Token). f ++ ys) inner ∙ append_assoc x1 x2 ys, h, (x2, ys, refl, k, l))

-- after the `>` of a head
abbrev pub headed : PlainSource → List ℕ → Head → State
headed done text h = (done, Rules (record { name = text; head = h; rules = [] }))

-- a head and its `>`
pub head_taken : (done : PlainSource) (text : List ℕ) (h : Head) → Taken (head h then one Greater) (done, In_head text Head_word) (done, Rules (record { name = text; head = h; rules = [] }))
head_taken done text (Group c n) =
    taken_left avp_header (number max_number c then group_vendor n) (one Greater) (done, In_head text Head_word) (done, Rules (record { name = text; head = Group c n; rules = [] }))
    (taken_then avp_header ((number max_number c then group_vendor n) then one Greater) (done, In_head text Head_word) (
      done,
      In_head text Group_code,
    ) (done, Rules (record { name = text; head = Group c n; rules = [] }))
    (avp_header_taken done text)
    (taken_left (number max_number c) (group_vendor n) (one Greater) (done, In_head text Group_code) (done, Rules (record { name = text; head = Group c n; rules = [] }))
    (taken_then (number max_number c) (group_vendor n then one Greater) (done, In_head text Group_code) (
      done,
      In_head text (Group_vendor c false),
    ) (done, Rules (record { name = text; head = Group c n; rules = [] }))
    (taken_number max_number c (done, In_head text Group_code) (done, In_head text (Group_vendor c false)) (λ small. rw (number_at-some 0 max_number c (omega arith) small) refl))
    (group_ended done text c n))))
head_taken done text (Command c r p app) =
    taken_left diameter_header (number max_command_code c then flag r (codes "req") then flag p (codes "pxy") then application app)
    (one Greater) (done, In_head text Head_word) (headed done text (Command c r p app))
    (taken_then diameter_header ((number max_command_code c then flag r (codes "req") then flag p (codes "pxy") then application app) then one Greater) (
      done,
      In_head text Head_word,
    ) (done, In_head text Command_code) (headed done text (Command c r p app))
    (diameter_header_taken done text)
    (taken_left (number max_command_code c) (flag r (codes "req") then flag p (codes "pxy") then application app) (one Greater) (done, In_head text Command_code) (headed done text (Command c r p app))
    (taken_then (number max_command_code c) ((flag r (codes "req") then flag p (codes "pxy") then application app) then one Greater) (
      done,
      In_head text Command_code,
    ) (done, In_head text (Flags c false false false)) (headed done text (Command c r p app))
    (taken_number max_command_code c (done, In_head text Command_code) (done, In_head text (Flags c false false false)) (λ small. rw (number_at-some 0 max_command_code c (omega arith) small) refl))
    (taken_left (flag r (codes "req")) (flag p (codes "pxy") then application app) (one Greater) (done, In_head text (Flags c false false false)) (headed done text (Command c r p app))
    (taken_then (flag r (codes "req")) ((flag p (codes "pxy") then application app) then one Greater) (
      done,
      In_head text (Flags c false false false),
    ) (done, In_head text (Flags c r false false)) (headed done text (Command c r p app))
    (request_taken done text c r)
    (taken_left (flag p (codes "pxy")) (application app) (one Greater) (done, In_head text (Flags c r false false)) (headed done text (Command c r p app))
    (taken_then (flag p (codes "pxy")) (application app then one Greater) (done, In_head text (Flags c r false false)) (done, In_head text (Flags c r p false)) (headed done text (Command c r p app))
    (proxiable_taken done text c r p)
    (application_ended done text c r p app))))))))
head_taken done text (Error p) =
    taken_left diameter_header (keyword (codes "code") then comma then keyword (codes "err") then error_proxy p) (one Greater) (done, In_head text Head_word) (headed done text (Error p))
    (taken_then diameter_header ((keyword (codes "code") then comma then keyword (codes "err") then error_proxy p) then one Greater) (
      done,
      In_head text Head_word,
    ) (done, In_head text Command_code) (headed done text (Error p))
    (diameter_header_taken done text)
    (taken_left (keyword (codes "code")) (comma then keyword (codes "err") then error_proxy p) (one Greater) (done, In_head text Command_code) (headed done text (Error p))
    (taken_then (keyword (codes "code")) ((comma then keyword (codes "err") then error_proxy p) then one Greater) (
      done,
      In_head text Command_code,
    ) (done, In_head text (Error_word false)) (headed done text (Error p))
    (taken_keyword (codes "code") (done, In_head text Command_code) (done, In_head text (Error_word false)) (λ w e. rw e refl))
    (taken_left comma (keyword (codes "err") then error_proxy p) (one Greater) (done, In_head text (Error_word false)) (headed done text (Error p))
    (taken_comma ((keyword (codes "err") then error_proxy p) then one Greater) (done, In_head text (Error_word false)) (done, In_head text (Error_word true)) (headed done text (Error p)) refl
    (following false) (following true))))))
  where
    following : (b : Bool) → Taken ((keyword (codes "err") then error_proxy p) then one Greater) (done, In_head text (Error_word b)) (headed done text (Error p))
    following b =
        taken_left (keyword (codes "err")) (error_proxy p) (one Greater) (done, In_head text (Error_word b)) (headed done text (Error p))
        (taken_then (keyword (codes "err")) (error_proxy p then one Greater) (done, In_head text (Error_word b)) (done, In_head text (Error_flags false)) (headed done text (Error p))
        (taken_keyword (codes "err") (done, In_head text (Error_word b)) (done, In_head text (Error_flags false)) (λ w e. rw e refl))
        (error_ended done text p))
