-- Bytes are one message, or have one reason why not.
use Rattle.std.proofs.Common.{◌≡◌, ℕ, ◌+◌, ◌<◌, ◌≤◌, Bool, true, false, List, [], ◌∷◌, ◌++◌, Option, None, Some, length, take, drop, refl, sym, ap, subst, ◌∙◌, append_assoc, arith}
use Rattle.std.specs.Prelude.{◌↔◌, IsTrue, slice_index}
use Rattle.std.specs.List.{fold}
use Rattle.dia_wire.specs.declared.header.Header.{Header}
use Rattle.dia_wire.specs.declared.header.HeadFault.{HeadFault}
use Rattle.dia_wire.specs.declared.header.HeadFault.TheVariants as fault
use Rattle.dia_wire.specs.Lengths.{header_length}
use Rattle.dia_wire.specs.Number.{number}
use Rattle.dia_wire.specs.Wire.{PlainAvp, BeginsWithNone, IsMessageLength}
use Rattle.dia_wire.proofs.OneHeader.{head_says, one_header}
use Rattle.dia_follow.specs.declared.codes.TheConstants.{EXPERIMENTAL_RESULT_CODE, VENDOR_ID}
use Rattle.dia_follow.specs.declared.message.Body.{Body}
use Rattle.dia_follow.specs.declared.message.Body.TheVariants.{Cut, Gap, Known}
use Rattle.dia_follow.specs.declared.message.Head.{Head}
use Rattle.dia_follow.specs.declared.message.Message.{Message as AnyMessage}
use Rattle.dia_follow.specs.declared.message.Seen.{Seen}
use Rattle.dia_follow.specs.declared.message.Seen.TheVariants.{Unread, Message}
use Rattle.dia_follow.specs.Applications.{Apps, no_apps}
use Rattle.dia_follow.specs.Contents.{AreRecorded, IsExperimental, IsIn, PlainContents, RecordsBy, add_named, both_numbers}
use Rattle.dia_follow.specs.Fronts.{IsFront, first_number}
use Rattle.dia_follow.specs.Reading.{HasFields, IsBody, IsRead, IsSeen, body_bytes}
use Rattle.dia_follow.proofs.Fronts.{front_first, front_none}

-- ---- the AVPs at the front of a level

no_front : (level left other : List ℕ) (ws : List PlainAvp) → ws ≡ [] → left ≡ level → IsFront ws level other → left ≡ other
no_front level left other ws none here g =
    let none_there : IsFront [] level other = subst (λ (vs : List PlainAvp). IsFront vs level other) none g in
    here ∙ none_there.parts ∙ ap (λ (x : List ℕ). x ++ other) none_there.spells

pub one_front : (vs ws : List PlainAvp) (level left other : List ℕ) → IsFront vs level left → IsFront ws level other → (vs ≡ ws) × (left ≡ other)
one_front [] ws level left other f g =
    let here : left ≡ level = sym (f.parts ∙ ap (λ (x : List ℕ). x ++ left) f.spells) in
    let none : ws ≡ [] = front_none ws level other g (subst BeginsWithNone here f.ends) in
    (sym none, no_front level left other ws none here g)
one_front (v ∷ vs) ws level left other f g =
    let (a, rest, s, parts, all) = f.spells in
    let whole : level ≡ a ++ (rest ++ left) = f.parts ∙ ap (λ (x : List ℕ). x ++ left) parts ∙ append_assoc a rest left in
    let (more, is, following) = front_first ws v level (rest ++ left) other g (a, s, whole) in
    let both = one_front vs more (rest ++ left) left other (record { front = rest; spells = all; parts = refl; ends = f.ends }) following in
    (ap (λ (us : List PlainAvp). v ∷ us) both.0 ∙ sym is, both.1)

-- ---- what AVPs say

recorded_by : (group : Bool) (v : PlainAvp) (before a b : Apps) → RecordsBy group v before a → RecordsBy group v before b → a ≡ b
recorded_by false v before a b h k = h ∙ sym k
recorded_by true v before a b (inner, left, f, is) (inner', left', f', is') =
    is ∙ ap (λ (vs : List PlainAvp). fold add_named before vs) (one_front inner inner' v.bytes left left' f f').0 ∙ sym is'

all_recorded : (vs : List PlainAvp) (before a b : Apps) → AreRecorded vs before a → AreRecorded vs before b → a ≡ b
all_recorded [] before a b h k = sym h ∙ k
all_recorded (v ∷ vs) before a b (between, h, more) (between', h', more') =
    let same : between ≡ between' = recorded_by _ v before between between' h h' in
    all_recorded vs between a b more (subst (λ (x : Apps). AreRecorded vs x b) (sym same) more')

same_pair : (f : List PlainAvp → Option (ℕ × ℕ)) (vs ws : List PlainAvp) (a b : Option (ℕ × ℕ)) → vs ≡ ws → a ≡ f vs → b ≡ f ws → a ≡ b
same_pair f vs ws a b same h k = h ∙ ap f same ∙ sym k

one_experimental : (bytes : Option (List ℕ)) (a b : Option (ℕ × ℕ)) → IsExperimental bytes a → IsExperimental bytes b → a ≡ b
one_experimental None a b h k = h ∙ sym k
one_experimental (Some bytes) a b (inner, left, f, is) (inner', left', f', is') =
    same_pair (λ vs. both_numbers (first_number VENDOR_ID vs) (first_number EXPERIMENTAL_RESULT_CODE vs)) inner inner' a b (one_front inner inner' bytes left left' f f').0 is is'

pub one_contents : (vs : List PlainAvp) (a b : PlainContents) → IsIn vs a → IsIn vs b → a ≡ b
one_contents vs a b h k =
    let host = h.host ∙ sym k.host in
    let session = h.session ∙ sym k.session in
    let result = h.result ∙ sym k.result in
    let experimental = one_experimental _ a.experimental b.experimental h.experimental k.experimental in
    let has_result = h.has_result ∙ sym k.has_result in
    let has_experimental = h.has_experimental ∙ sym k.has_experimental in
    let cause = h.cause ∙ sym k.cause in
    let origin_state = h.origin_state ∙ sym k.origin_state in
    let destination = h.destination ∙ sym k.destination in
    let apps = all_recorded vs no_apps a.apps b.apps h.apps k.apps in
    λ i. record {
      host = host i;
      session = session i;
      result = result i;
      has_result = has_result i;
      experimental = experimental i;
      has_experimental = has_experimental i;
      cause = cause i;
      has_destination = destination i;
      origin_state = origin_state i;
      apps = apps i;
    }

-- ---- the body of a message

one_gap : (a b n : ℕ) (left other : List ℕ) → left ≡ other → a + length left ≡ n → b + length other ≡ n → a ≡ b
one_gap a b n left other same h k = omega (arith, ap length same, h, k)

gap_or_known : (left : List ℕ) → 0 < length left → left ≡ [] → ⊥
gap_or_known left some none = omega (arith, some, ap length none)

one_body : (bytes : List ℕ) (n : ℕ) (a b : Body) → IsBody bytes n a → IsBody bytes n b → a ≡ b
one_body bytes n Cut Cut h k = refl
one_body bytes n Cut (Gap b) h k = absurd (omega (arith, h, k.0))
one_body bytes n Cut (Known c) h k = absurd (omega (arith, h, k.0))
one_body bytes n (Gap a) Cut h k = absurd (omega (arith, h.0, k))
one_body bytes n (Known c) Cut h k = absurd (omega (arith, h.0, k))
one_body bytes n (Gap a) (Gap b) (long, (vs, left, f, some, at)) (long', (ws, other, g, some', at')) =
    ap (λ (k : ℕ). Gap k) (one_gap a b n left other (one_front vs ws (body_bytes bytes n) left other f g).1 at at')
one_body bytes n (Gap a) (Known c) (long, (vs, left, f, some, at)) (long', (ws, g, is)) =
    absurd (gap_or_known left some (one_front vs ws (body_bytes bytes n) left [] f g).1)
one_body bytes n (Known c) (Gap b) (long, (ws, g, is)) (long', (vs, left, f, some, at)) =
    absurd (gap_or_known left some (one_front vs ws (body_bytes bytes n) left [] f g).1)
one_body bytes n (Known c) (Known e) (long, (vs, f, is)) (long', (ws, g, is')) =
    ap (λ (x : PlainContents). Known x)
    (one_contents vs c e is (subst (λ (us : List PlainAvp). IsIn us e) (sym (one_front vs ws (body_bytes bytes n) [] [] f g).0) is'))

-- ---- the header

same_flag : {P : Type 0} (a b : Bool) → (IsTrue a ↔ P) → (IsTrue b ↔ P) → a ≡ b
same_flag true true h k = refl
same_flag false false h k = refl
same_flag true false h k = sym (k.1 (h.0 refl))
same_flag false true h k = h.1 (k.0 refl)

one_head : (a b : Head) (h : Header) → HasFields a h → HasFields b h → a ≡ b
one_head a b h x y =
    let request = same_flag a.request b.request x.request y.request in
    let proxiable = same_flag a.proxiable b.proxiable x.proxiable y.proxiable in
    let error = same_flag a.error b.error x.error y.error in
    let retransmitted = same_flag a.retransmitted b.retransmitted x.retransmitted y.retransmitted in
    let code = x.code ∙ sym y.code in
    let app = x.app ∙ sym y.app in
    let hop = x.hop ∙ sym y.hop in
    let e2e = x.e2e ∙ sym y.e2e in
    λ i. record { request = request i; proxiable = proxiable i; error = error i; retransmitted = retransmitted i; code = code i; app = app i; hop = hop i; e2e = e2e i }

one_read : (bytes : List ℕ) (a b : AnyMessage) → IsRead bytes a → IsRead bytes b → a ≡ b
one_read bytes a b x y =
    let both = one_header x.header y.header a.length b.length (take header_length bytes) x.is_head y.is_head in
    let head = one_head a.head b.head x.header x.fields (subst (HasFields b.head) (sym both.0) y.fields) in
    let body = one_body bytes a.length a.body b.body x.body (subst (λ (n : ℕ). IsBody bytes n b.body) (sym both.1) y.body) in
    λ i. record { head = head i; length = both.1 i; body = body i }

-- ---- all of it

-- what is read has a header
is_long : (bytes : List ℕ) (m : AnyMessage) → IsRead bytes m → header_length ≤ length bytes
is_long bytes m x = (head_says x.header m.length bytes x.is_head).0

-- of version 1
has_version : (bytes : List ℕ) (m : AnyMessage) → IsRead bytes m → slice_index bytes 0 ≡ 1
has_version bytes m x = (head_says x.header m.length bytes x.is_head).1

has_length : (bytes : List ℕ) (m : AnyMessage) → IsRead bytes m → IsMessageLength (number (take 3 (drop 1 bytes)))
has_length bytes m x = subst IsMessageLength (sym (head_says x.header m.length bytes x.is_head).2) x.long

unread_or_read : (bytes : List ℕ) (f : HeadFault) (m : AnyMessage) → IsSeen bytes (Unread f) → IsRead bytes m → ⊥
unread_or_read bytes fault.Short m short x = omega (arith, short, is_long bytes m x)
unread_or_read bytes fault.Version m h x = h.1 (has_version bytes m x)
unread_or_read bytes fault.Length m h x = h.2 (has_length bytes m x)

one_fault : (bytes : List ℕ) (f g : HeadFault) → IsSeen bytes (Unread f) → IsSeen bytes (Unread g) → f ≡ g
one_fault bytes fault.Short fault.Short h k = refl
one_fault bytes fault.Short fault.Version h k = absurd (omega (arith, h, k.0))
one_fault bytes fault.Short fault.Length h k = absurd (omega (arith, h, k.0))
one_fault bytes fault.Version fault.Short h k = absurd (omega (arith, k, h.0))
one_fault bytes fault.Version fault.Version h k = refl
one_fault bytes fault.Version fault.Length h k = absurd (h.1 k.1)
one_fault bytes fault.Length fault.Short h k = absurd (omega (arith, k, h.0))
one_fault bytes fault.Length fault.Version h k = absurd (k.1 h.1)
one_fault bytes fault.Length fault.Length h k = refl

pub one_seen : (bytes : List ℕ) (a b : Seen) → IsSeen bytes a → IsSeen bytes b → a ≡ b
one_seen bytes (Unread f) (Unread g) h k = ap (λ (x : HeadFault). Unread x) (one_fault bytes f g h k)
one_seen bytes (Unread f) (Message m) h k = absurd (unread_or_read bytes f m h k)
one_seen bytes (Message m) (Unread f) h k = absurd (unread_or_read bytes f m k h)
one_seen bytes (Message m) (Message n) h k = ap (λ (x : AnyMessage). Message x) (one_read bytes m n h k)
