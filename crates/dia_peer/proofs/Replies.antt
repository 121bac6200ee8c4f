-- An answer to an invalid request goes out in front of the close, and opens nothing at the other end.
use Rattle.std.proofs.Common.{◌≡◌, ℕ, ◌/◌, Bool, true, false, cond, ◌&&◌, List, [], ◌∷◌, Option, Some, None, Ok, Err, ◌⊎◌, inl, inr, ⊎_elim, refl, sym, ap, subst, ◌∙◌, arith}
use Rattle.std.specs.Prelude.{bit_and, bit_or, filter, MatchBool, IsTrue}
use Rattle.std.specs.Int.Bits.{and_zero_r}
use Rattle.std.proofs.lemmas.Nat.{and_assoc, and_or_apart, and_or_self}
use Rattle.std.proofs.lemmas.Bool.{cases_Bool, and_left}
use Rattle.std.proofs.lemmas.Option.{none-some}
use Rattle.dia_wire.specs.declared.Header.{Header}
use Rattle.dia_wire.specs.declared.Key.{Key}
use Rattle.dia_wire.specs.Number.{IsField, number}
use Rattle.dia_wire.specs.Wire.{PlainAvp, key_of, IsMessage}
use Rattle.dia_book.specs.Keys.{same_key}
use Rattle.dia_dict.specs.Base.{base}
use Rattle.dia_check.specs.declared.Unknown.TheVariants.{Kept}
use Rattle.dia_check.specs.declared.Levels.TheVariants.{Any}
use Rattle.dia_valid.specs.Valid.{IsValid, HasR, HasE}
use Rattle.dia_answer.specs.declared.forms.Form.{Form}
use Rattle.dia_answer.specs.declared.forms.Form.TheVariants as form
use Rattle.dia_answer.specs.declared.forms.Made.{Made}
use Rattle.dia_answer.specs.Dictionaries.{opaque}
use Rattle.dia_answer.specs.Bodies.{result_code}
use Rattle.dia_answer.specs.Reports.{HasOne, IsFormFor, IsRequest, IsValidBy, answer_header, form_flags}
use Rattle.dia_answer.proofs.OneAnswer.{one_answered}
use Rattle.dia_peer.specs.declared.kept_requests.Ids.{Ids}
use Rattle.dia_peer.specs.declared.event.State.{State}
use Rattle.dia_peer.specs.declared.event.State.TheVariants.{WaitCer, Open, WaitDpa}
use Rattle.dia_peer.specs.declared.event.Why.TheVariants as why
use Rattle.dia_peer.specs.Core.{PlainConfig, PlainCore}
use Rattle.dia_peer.specs.Messages.{Received, Unreadable, Invalid, HasResult, IsGood}
use Rattle.dia_peer.specs.Table.{Gets, Closes, Outcome, closed, closes, happens_in}
use Rattle.dia_peer.specs.Life.{heard, noticed, hears, lives}
use Rattle.dia_peer.specs.Values.{keeps, newer}
use Rattle.dia_peer.specs.Replies.{IsReplied, IsReply, IsReplyOf, is_refused, may_reply, replies}
use Rattle.dia_peer.proofs.BaseDictionary.{base_is_dictionary}
use Rattle.dia_peer.proofs.DueAnswers.{is_made}
use Rattle.dia_peer.proofs.Sets.{IsIn, to_in}
use Rattle.dia_peer.proofs.SpelledMessages.{one_message}
use Rattle.dia_peer.proofs.ResultCode.{never}

-- ---- what is refused

pub both : (x y : Bool) → (x && y) ≡ true → (x ≡ true) × (y ≡ true)
both true y e = (refl, e)
both false y e = never e

pub refused_cases : (what : Received) → is_refused what ≡ true → (what ≡ Unreadable) ⊎ (what ≡ Invalid)
refused_cases Unreadable e = inl refl
refused_cases Invalid e = inr refl
refused_cases what e = never e

at_unreadable : (s : State) (c : PlainCore) (bytes : List ℕ) → may_reply s bytes ≡ true → happens_in s c (Gets Unreadable) ≡ closes c [] why.Invalid
at_unreadable WaitCer c bytes e = refl
at_unreadable Open c bytes e = refl
at_unreadable WaitDpa c bytes e = refl
at_unreadable state c bytes e = never e

at_invalid : (s : State) (c : PlainCore) (bytes : List ℕ) → may_reply s bytes ≡ true → happens_in s c (Gets Invalid) ≡ closes c [] why.Invalid
at_invalid WaitCer c bytes e = refl
at_invalid Open c bytes e = refl
at_invalid WaitDpa c bytes e = refl
at_invalid state c bytes e = never e

abbrev pub refusing : PlainCore → Outcome
refusing c = record { core = closed (noticed c); deeds = Closes why.Invalid ∷ [] }

unreadable_noticed : (life : Bool) (c : PlainCore) → cond life (hears c Unreadable (closes c [] why.Invalid)) (closes c [] why.Invalid) ≡ record { core = closed (cond life (heard c) c); deeds = Closes why.Invalid ∷ [] }
unreadable_noticed true c = refl
unreadable_noticed false c = refl

invalid_noticed : (life : Bool) (c : PlainCore) → cond life (hears c Invalid (closes c [] why.Invalid)) (closes c [] why.Invalid) ≡ record { core = closed (cond life (heard c) c); deeds = Closes why.Invalid ∷ [] }
invalid_noticed true c = refl
invalid_noticed false c = refl

lives_unreadable : (c : PlainCore) (bytes : List ℕ) → may_reply c.state bytes ≡ true → lives c (Gets Unreadable) ≡ refusing c
lives_unreadable c bytes may = ap (λ (o : Outcome). cond c.manner.life (hears c Unreadable o) o) (at_unreadable c.state c bytes may) ∙ unreadable_noticed c.manner.life c

lives_invalid : (c : PlainCore) (bytes : List ℕ) → may_reply c.state bytes ≡ true → lives c (Gets Invalid) ≡ refusing c
lives_invalid c bytes may = ap (λ (o : Outcome). cond c.manner.life (hears c Invalid o) o) (at_invalid c.state c bytes may) ∙ invalid_noticed c.manner.life c

-- what may be answered closes the connection
pub lives_refused : (c : PlainCore) (bytes : List ℕ) (what : Received) → replies c bytes what ≡ true → lives c (Gets what) ≡ refusing c
lives_refused c bytes what is =
    let (first, may) = both (is_refused what && c.manner.answers) (may_reply c.state bytes) is in
    let refused = (both (is_refused what) c.manner.answers first).0 in
    ⊎_elim (λ e. ap (λ (w : Received). lives c (Gets w)) e ∙ lives_unreadable c bytes may) (λ e. ap (λ (w : Received). lives c (Gets w)) e ∙ lives_invalid c bytes may) (refused_cases what refused)

pub with_answers : (c : PlainCore) (bytes : List ℕ) (what : Received) → replies c bytes what ≡ true → (is_refused what ≡ true) × (c.manner.answers ≡ true)
with_answers c bytes what is = both (is_refused what) c.manner.answers (both (is_refused what && c.manner.answers) (may_reply c.state bytes) is).0

keeps_unreadable : (values : Bool) (new : PlainCore) → cond values (record new { met = newer None new.met; left = newer None new.left }) new ≡ new
keeps_unreadable true new = refl
keeps_unreadable false new = refl

-- it says nothing of the other end
pub keeps_refused : (c : PlainCore) (bytes : List ℕ) (what : Received) (new : PlainCore) → is_refused what ≡ true → keeps c bytes what new ≡ new
keeps_refused c bytes what new refused =
    ⊎_elim (λ e. ap (λ (w : Received). keeps c bytes w new) e ∙ keeps_unreadable c.manner.values new) (λ e. ap (λ (w : Received). keeps c bytes w new) e ∙ keeps_unreadable c.manner.values new)
    (refused_cases what refused)

-- ---- what is answered

pub answered_at : (c : PlainCore) (bytes : List ℕ) (what : Received) (reply : Option (List ℕ)) → replies c bytes what ≡ true → IsReplyOf c.config bytes reply → IsReplied c bytes what reply
answered_at c bytes what reply is h = subst (λ (b : Bool). MatchBool b (IsReplyOf c.config bytes reply) (reply ≡ None)) (sym is) h

pub quiet_at : (c : PlainCore) (bytes : List ℕ) (what : Received) (reply : Option (List ℕ)) → replies c bytes what ≡ false → reply ≡ None → IsReplied c bytes what reply
quiet_at c bytes what reply is none = subst (λ (b : Bool). MatchBool b (IsReplyOf c.config bytes reply) (reply ≡ None)) (sym is) none

pub is_answered : (c : PlainCore) (bytes : List ℕ) (what : Received) (reply : Option (List ℕ)) → replies c bytes what ≡ true → IsReplied c bytes what reply → IsReplyOf c.config bytes reply
is_answered c bytes what reply is h = subst (λ (b : Bool). MatchBool b (IsReplyOf c.config bytes reply) (reply ≡ None)) is h

pub is_quiet : (c : PlainCore) (bytes : List ℕ) (what : Received) (reply : Option (List ℕ)) → replies c bytes what ≡ false → IsReplied c bytes what reply → reply ≡ None
is_quiet c bytes what reply is h = subst (λ (b : Bool). MatchBool b (IsReplyOf c.config bytes reply) (reply ≡ None)) is h

-- what is answered was refused, and its answer is that of `answer`
pub is_reply : (c : PlainCore) (bytes : List ℕ) (what : Received) (reply : List ℕ) → IsReplied c bytes what (Some reply) → (replies c bytes what ≡ true) × IsReply c.config bytes reply
is_reply c bytes what reply h =
    ⊎_elim (λ t. (t, is_answered c bytes what (Some reply) t h)) (λ f. absurd (none-some reply (sym (is_quiet c bytes what (Some reply) f h)))) (cases_Bool (replies c bytes what))

-- what isn't refused gets no answer
pub good_is_quiet : (c : PlainCore) (bytes : List ℕ) (what : Received) (reply : Option (List ℕ)) → is_refused what ≡ false → IsReplied c bytes what reply → reply ≡ None
good_is_quiet c bytes what reply good h =
    is_quiet c bytes what reply (and_left (is_refused what && c.manner.answers) (may_reply c.state bytes) (and_left (is_refused what) c.manner.answers good)) h

-- bytes get one answer, or none
pub one_reply : (c : PlainConfig) (bytes : List ℕ) (reply found : Option (List ℕ)) → IsReplyOf c bytes reply → IsReplyOf c bytes found → reply ≡ found
one_reply c bytes None None x y = refl
one_reply c bytes None (Some b) (why, x) (n, y, also) = absurd (one_answered base Kept Any c.host c.realm bytes base_is_dictionary (Err why) (Ok n) x y)
one_reply c bytes (Some a) None (m, x, is) (why, y) = absurd (one_answered base Kept Any c.host c.realm bytes base_is_dictionary (Ok m) (Err why) x y)
one_reply c bytes (Some a) (Some b) (m, x, is) (n, y, also) =
    let same = one_answered base Kept Any c.host c.realm bytes base_is_dictionary (Ok m) (Ok n) x y in
    ap (λ (r : List ℕ). Some r) (is ∙ same.0 ∙ sym also)

-- ---- an answer

valid_by : (f : Form) (bytes : List ℕ) → IsValidBy base Kept Any f bytes → IsValid (opaque base) Kept Any bytes
valid_by form.Own bytes v = v
valid_by form.Error bytes v = v
valid_by form.Base bytes v = v

pub reply_is_valid : (c : PlainConfig) (request reply : List ℕ) → IsReply c request reply → IsValid (opaque base) Kept Any reply
reply_is_valid c request reply (made, due, is) = subst (IsValid (opaque base) Kept Any) (sym is) (valid_by made.form made.bytes.items (is_made c.host c.realm request made due).valid)

pub reply_to_request : (c : PlainConfig) (request reply : List ℕ) → IsReply c request reply → IsRequest request
reply_to_request c request reply (made, due, is) = due.is_request

apart : (f : Form) → bit_and (form_flags f) 128 ≡ 0
apart form.Own = refl
apart form.Error = refl
apart form.Base = refl

-- an answer has R clear
no_request : (h : Header) (f : Form) → HasR (answer_header h f).flags → ⊥
no_request h f set = set (and_or_apart 128 (bit_and h.flags 64) (form_flags f) (apart f) ∙ and_assoc 128 h.flags 64 ∙ and_zero_r h.flags)

-- an error message has E set
has_error : (flags : ℕ) → HasE (bit_or (bit_and flags 64) 32)
has_error flags e = omega (arith, sym (and_or_self 32 (bit_and flags 64)) ∙ e)

-- the bytes are an answer that some end sends
abbrev pub IsSomeReply : List ℕ → Type 0
IsSomeReply b = (c : PlainConfig) × (request : List ℕ) × IsReply c request b

header_same : (b : List ℕ) (h : Header) (vs : List PlainAvp) → IsMessage h vs b → (made : Made) → b ≡ made.bytes.items → (k : Header) (ws : List PlainAvp) → IsMessage k ws made.bytes.items → (h ≡ k) × (vs ≡ ws)
header_same b h vs m made is k ws n = one_message h k vs ws b m (subst (IsMessage k ws) (sym is) n)

-- no answer is a request
pub reply_no_request : (b : List ℕ) (code : ℕ) (e : Bool) (ids : Ids) (vs : List PlainAvp) → IsSomeReply b → IsGood b code true e ids vs → ⊥
reply_no_request b code e ids vs (c, request, (made, due, is)) g =
    let p = (is_made c.host c.realm request made due).processed in
    let same = (header_same b g.header vs g.message made is (answer_header p.header made.form) p.avps p.message).0 in
    no_request p.header made.form (subst (λ (k : Header). HasR k.flags) same (g.request_is.0 refl))

in_filter : (key : Key) (vs : List PlainAvp) (v : PlainAvp) → IsIn vs v → same_key key (key_of v) ≡ true → IsIn (filter (λ w. same_key key (key_of w)) vs) v
in_filter key [] v m e = absurd m
in_filter key (w ∷ vs) v (inl same) e =
    subst (λ (xs : List PlainAvp). IsIn xs v) (sym (ap (λ (t : Bool). cond t (w ∷ filter (λ x. same_key key (key_of x)) vs) (filter (λ x. same_key key (key_of x)) vs)) (ap (λ (x : PlainAvp). same_key key (key_of x)) same ∙ e))) (inl same)
in_filter key (w ∷ vs) v (inr m) e =
    by (same_key key (key_of w)) (in_filter key vs v m e)
  where
    by : (t : Bool) → IsIn (filter (λ x. same_key key (key_of x)) vs) v → IsIn (cond t (w ∷ filter (λ x. same_key key (key_of x)) vs) (filter (λ x. same_key key (key_of x)) vs)) v
    by true k = inr k
    by false k = k

-- the result of an answer is its fault's code
result_is : (b : List ℕ) (h : Header) (vs : List PlainAvp) (n code : ℕ) → IsMessage h vs b → HasResult vs n → HasOne result_code (IsField 4 code) b → n ≡ code
result_is b h vs n code message (v, m, key, is) one =
    let same : vs ≡ one.avps = (one_message h one.header vs one.avps b message one.message).1 in
    let there : IsIn (filter (λ w. same_key result_code (key_of w)) one.avps) v =
    in_filter result_code one.avps v (subst (λ (xs : List PlainAvp). IsIn xs v) same (to_in vs v m)) (ap (same_key result_code) key) in
    by (subst (λ (xs : List PlainAvp). IsIn xs v) one.one there)
  where
    by : IsIn (one.avp ∷ []) v → n ≡ code
    by (inl e) = sym is ∙ sym (ap (λ (x : PlainAvp). number x.bytes) e) ∙ one.held.value
    by (inr k) = absurd k

-- the command's own answer is for codes of 5xxx
own_code : (f : Form) (h : Header) (code : ℕ) → (HasE (answer_header h f).flags → ⊥) → IsFormFor code f → code / 1000 ≡ 5
own_code form.Own h code clear is = is
own_code form.Error h code clear is = absurd (clear (has_error h.flags))
own_code form.Base h code clear is = absurd (clear (has_error h.flags))

not_success : (code : ℕ) → code / 1000 ≡ 5 → 2001 ≡ code → ⊥
not_success code is e = let five : 2001 / 1000 ≡ 5 = ap (λ (n : ℕ). n / 1000) e ∙ is in absurd cc

-- no answer says that a connection is opened
pub reply_no_success : (b : List ℕ) (code : ℕ) (ids : Ids) (vs : List PlainAvp) → IsSomeReply b → IsGood b code false false ids vs → HasResult vs 2001 → ⊥
reply_no_success b code ids vs (c, request, (made, due, is)) g has =
    let h = is_made c.host c.realm request made due in
    let p = h.processed in
    let same = (header_same b g.header vs g.message made is (answer_header p.header made.form) p.avps p.message).0 in
    let clear : HasE (answer_header p.header made.form).flags → ⊥ = λ set. (let t : IsTrue false = g.error_is.1 (subst (λ (k : Header). HasE k.flags) (sym same) set) in never t) in
    not_success made.fault.code (own_code made.form p.header made.fault.code clear h.permanent)
    (result_is made.bytes.items g.header vs 2001 made.fault.code (subst (IsMessage g.header vs) is g.message) has h.result_code)
