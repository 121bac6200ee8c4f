-- The AVPs of each key that an answer is made of.
use Rattle.std.proofs.Common.{◌≡◌, ℕ, zero, suc, Bool, true, false, cond, List, [], ◌∷◌, ◌++◌, map, Option, Some, None, inl, inr, refl, sym, ap, ◌∙◌, append-nil}
use Rattle.std.specs.Prelude.{find, MatchOption, unwrap_or, ◌⊎◌, ◌&&◌}
use Rattle.std.specs.Bool.{MatchBool}
use Rattle.std.specs.List.{list_all}
use Rattle.std.proofs.lemmas.Bool.{and_from}
use Rattle.std.proofs.lemmas.List.{map-append}
use Rattle.std.proofs.lemmas.List.Elements.{filter-append}
use Rattle.dia_wire.specs.declared.Key.{Key}
use Rattle.dia_wire.specs.Wire.{PlainAvp, key_of}
use Rattle.dia_book.specs.declared.DRule.{DRule}
use Rattle.dia_book.specs.Keys.{same_key}
use Rattle.dia_book.specs.Dictionary.{Dictionary}
use Rattle.dia_book.proofs.SameKeys.{same_key-true}
use Rattle.dia_terms.specs.declared.Unknown.{Unknown}
use Rattle.dia_terms.specs.declared.Levels.{Levels}
use Rattle.dia_answer.specs.declared.forms.Form.{Form}
use Rattle.dia_answer.specs.declared.forms.Form.TheVariants as form
use Rattle.dia_answer.specs.Dictionaries.{failed_avp}
use Rattle.dia_answer.specs.Stocks.{IsFitOf, TakesData, copied, copied_by, error_message, has_format, is_nest, is_own, is_text, may_hold, own}
use Rattle.dia_answer.specs.Bodies.{AllOf, AreCopies, AreFirst, AreRequired, AreRequiredAll, AreThose, IsSession, IsStock, Parts, error_messages, failed_avps, may_fail, of_key, origin_host, origin_realm, proxy_info, result_code, session_id}
use Rattle.dia_answer.proofs.Orders.{of_rule}

pub key_of-copied : (v : PlainAvp) → key_of (copied v) ≡ key_of v
key_of-copied v = by v.vendor refl
  where
    by : (o : Option ℕ) → v.vendor ≡ o → key_of (copied_by o v) ≡ key_of v
    by None e = refl
    by (Some zero) e = λ i. record { code = v.code; vendor = unwrap_or (sym e i) 0 }
    by (Some (suc n)) e = refl

-- copies of AVPs of a key have it
pub all_of : (d : Dictionary) (u : Unknown) (most : Levels) (key : Key) (avps these : List PlainAvp) → AreThose (IsFitOf d u most key) avps these → AllOf key (map copied these)
all_of d u most key [] these h = ap (λ (vs : List PlainAvp). list_all (λ v. same_key key (key_of v)) (map copied vs)) h
all_of d u most key (v ∷ avps) these (inl (others, fit, parts, rest)) =
    ap (λ (vs : List PlainAvp). list_all (λ v. same_key key (key_of v)) (map copied vs)) parts
    ∙ and_from _ _ (ap (same_key key) (key_of-copied v) ∙ fit.0) (all_of d u most key avps others rest)
all_of d u most key (v ∷ avps) these (inr (other, rest)) = all_of d u most key avps these rest

-- another key than that of them all
pub none_of : (k key : Key) (avps : List PlainAvp) → AllOf key avps → same_key k key ≡ false → of_key k avps ≡ []
none_of k key avps all other = of_rule key (same_key k) avps all ∙ ap (λ (b : Bool). cond b avps []) other

-- ---- copies

other_key : (k key : Key) → is_own k ≡ true → is_own key ≡ false → same_key k key ≡ false
other_key k key own_key other = by (same_key k key) refl
  where
    by : (b : Bool) → same_key k key ≡ b → b ≡ false
    by true e = absurd (let bad : true ≡ false = sym own_key ∙ ap is_own (same_key-true k key e) ∙ other in cc)
    by false e = refl

of_none : (k : Key) (these : List PlainAvp) → these ≡ [] → of_key k (map copied these) ≡ []
of_none k these h = ap (λ (vs : List PlainAvp). of_key k (map copied vs)) h

of_required : (d : Dictionary) (u : Unknown) (most : Levels) (request : List PlainAvp) (rule : DRule) (these : List PlainAvp) (k : Key) → is_own k ≡ true → AreRequired d u most request rule these → of_key k (map copied these) ≡ []
of_required d u most request rule these k own_key h = by rule.key h
  where
    by_own : (key : Key) (b : Bool) → is_own key ≡ b → MatchBool b (these ≡ []) (AreFirst (IsFitOf d u most key) rule.min request these) → of_key k (map copied these) ≡ []
    by_own key true e h = of_none k these h
    by_own key false e f = none_of k key (map copied these) (all_of d u most key f.front these f.those) (other_key k key own_key e)

    by : (o : Option Key) → MatchOption o (these ≡ []) (λ key. MatchBool (is_own key) (these ≡ []) (AreFirst (IsFitOf d u most key) rule.min request these)) → of_key k (map copied these) ≡ []
    by None h = of_none k these h
    by (Some key) h = by_own key (is_own key) refl h

of_all : (d : Dictionary) (u : Unknown) (most : Levels) (request : List PlainAvp) (rules : List DRule) (these : List PlainAvp) (k : Key) → is_own k ≡ true → AreRequiredAll d u most request rules these → of_key k (map copied these) ≡ []
of_all d u most request [] these k own_key h = of_none k these h
of_all d u most request (rule ∷ rules) these k own_key (first, others, parts, here, later) =
    ap (λ (vs : List PlainAvp). of_key k (map copied vs)) parts ∙ ap (of_key k) (map-append copied first others) ∙ filter-append (λ v. same_key k (key_of v)) (map copied first) (map copied others)
    ∙ ap (λ (vs : List PlainAvp). vs ++ of_key k (map copied others)) (of_required d u most request rule first k own_key here) ∙ of_all d u most request rules others k own_key later

pub of_copies : (d : Dictionary) (u : Unknown) (most : Levels) (request : List PlainAvp) (f : Form) (rules : List DRule) (these : List PlainAvp) (k : Key) → is_own k ≡ true → AreCopies d u most request f rules these → of_key k (map copied these) ≡ []
of_copies d u most request form.Own rules these k own_key h = of_all d u most request rules these k own_key h
of_copies d u most request form.Error rules these k own_key h = of_none k these h
of_copies d u most request form.Base rules these k own_key h = of_none k these h

-- ---- AVPs that are made

one_or_none : (k : Key) (b : Bool) (v : PlainAvp) → same_key k (key_of v) ≡ false → of_key k (cond b (v ∷ []) []) ≡ []
one_or_none k true v other = ap (λ (c : Bool). cond c (v ∷ []) []) other
one_or_none k false v other = refl

pub of_messages : (d : Dictionary) (rules : List DRule) (line : Option (List ℕ)) (k : Key) → same_key k error_message ≡ false → of_key k (error_messages d rules line) ≡ []
of_messages d rules None k other = refl
of_messages d rules (Some line) k other = one_or_none k (has_format is_text d error_message && may_hold rules error_message) (record { code = 281; flags = 0; vendor = None; bytes = line }) other

pub of_failed : (d : Dictionary) (f : Form) (rules : List DRule) (failed : Option (List ℕ)) (k : Key) → same_key k failed_avp ≡ false → of_key k (failed_avps d f rules failed) ≡ []
of_failed d f rules None k other = refl
of_failed d f rules (Some bytes) k other = one_or_none k (has_format is_nest d failed_avp && may_fail f rules) (own d 279 bytes) other

pub of_session : (d : Dictionary) (request these : List PlainAvp) (k : Key) → IsSession d request these → of_key k these ≡ cond (same_key k session_id) these []
of_session d request these k h = by (find (λ v. same_key (key_of v) session_id) request) h
  where
    no_avp : (b : Bool) → these ≡ [] → of_key k these ≡ cond b these []
    no_avp true e = ap (of_key k) e ∙ sym e
    no_avp false e = ap (of_key k) e

    by : (o : Option PlainAvp) → MatchOption o (these ≡ []) (λ v. (TakesData d session_id v.bytes × (these ≡ own d 263 v.bytes ∷ [])) ⊎ ((¬ TakesData d session_id v.bytes) × (these ≡ []))) → of_key k these ≡ cond (same_key k session_id) these []
    by None e = no_avp (same_key k session_id) e
    by (Some v) (inl (takes, e)) = ap (of_key k) e ∙ ap (λ (vs : List PlainAvp). cond (same_key k session_id) vs []) (sym e)
    by (Some v) (inr (other, e)) = no_avp (same_key k session_id) e

-- ---- all

pub by_parts : (d : Dictionary) (f : Form) (rules : List DRule) (p : Parts) (avps : List PlainAvp) (s : IsStock d f rules p avps) (k : Key) → is_own k ≡ true → same_key k error_message ≡ false → same_key k failed_avp ≡ false
    → of_key k avps ≡ cond (same_key k session_id) s.session [] ++ of_key k (own d 268 p.code ∷ own d 264 p.host ∷ own d 296 p.realm ∷ []) ++ cond (same_key k proxy_info) (map copied s.proxies) []
by_parts d f rules p avps s k own_key no_message no_failed =
    let q : PlainAvp → Bool = λ v. same_key k (key_of v) in
    let owns : List PlainAvp = own d 268 p.code ∷ own d 264 p.host ∷ own d 296 p.realm ∷ [] in
    let message = error_messages d rules p.line in
    let failed = failed_avps d f rules p.failed in
    let copies = map copied s.copies in
    let proxies = map copied s.proxies in
    ap (of_key k) s.parts ∙ filter-append q (s.session ++ owns ++ message ++ failed ++ copies) proxies
    ∙ ap (λ (vs : List PlainAvp). vs ++ of_key k proxies) (filter-append q (s.session ++ owns ++ message ++ failed) copies
    ∙ ap (λ (vs : List PlainAvp). of_key k (s.session ++ owns ++ message ++ failed) ++ vs) (of_copies d p.unknown p.levels p.request f rules s.copies k own_key s.are_copies) ∙ append-nil _
    ∙ filter-append q (s.session ++ owns ++ message) failed ∙ ap (λ (vs : List PlainAvp). of_key k (s.session ++ owns ++ message) ++ vs) (of_failed d f rules p.failed k no_failed) ∙ append-nil _
    ∙ filter-append q (s.session ++ owns) message ∙ ap (λ (vs : List PlainAvp). of_key k (s.session ++ owns) ++ vs) (of_messages d rules p.line k no_message) ∙ append-nil _
    ∙ filter-append q s.session owns ∙ ap (λ (vs : List PlainAvp). vs ++ of_key k owns) (of_session d p.request s.session k s.is_session))
    ∙ ap (λ (vs : List PlainAvp). (cond (same_key k session_id) s.session [] ++ of_key k owns) ++ vs)
    (of_rule proxy_info (same_key k) proxies (all_of d p.unknown p.levels proxy_info p.request s.proxies s.are_proxies))

pub the_result_code : (d : Dictionary) (f : Form) (rules : List DRule) (p : Parts) (avps : List PlainAvp) → IsStock d f rules p avps → of_key result_code avps ≡ own d 268 p.code ∷ []
the_result_code d f rules p avps s = by_parts d f rules p avps s result_code refl refl refl

pub the_origin_host : (d : Dictionary) (f : Form) (rules : List DRule) (p : Parts) (avps : List PlainAvp) → IsStock d f rules p avps → of_key origin_host avps ≡ own d 264 p.host ∷ []
the_origin_host d f rules p avps s = by_parts d f rules p avps s origin_host refl refl refl

pub the_origin_realm : (d : Dictionary) (f : Form) (rules : List DRule) (p : Parts) (avps : List PlainAvp) → IsStock d f rules p avps → of_key origin_realm avps ≡ own d 296 p.realm ∷ []
the_origin_realm d f rules p avps s = by_parts d f rules p avps s origin_realm refl refl refl

pub the_session : (d : Dictionary) (f : Form) (rules : List DRule) (p : Parts) (avps : List PlainAvp) (s : IsStock d f rules p avps) → of_key session_id avps ≡ s.session
the_session d f rules p avps s = by_parts d f rules p avps s session_id refl refl refl ∙ append-nil (s.session ++ []) ∙ append-nil s.session

pub the_proxies : (d : Dictionary) (f : Form) (rules : List DRule) (p : Parts) (avps : List PlainAvp) (s : IsStock d f rules p avps) → of_key proxy_info avps ≡ map copied s.proxies
the_proxies d f rules p avps s = by_parts d f rules p avps s proxy_info refl refl refl

-- ---- Failed-AVP

of_failed_avp : (d : Dictionary) (f : Form) (rules : List DRule) (failed : Option (List ℕ)) → of_key failed_avp (failed_avps d f rules failed) ≡ failed_avps d f rules failed
of_failed_avp d f rules None = refl
of_failed_avp d f rules (Some bytes) = by (has_format is_nest d failed_avp && may_fail f rules)
  where
    by : (b : Bool) → of_key failed_avp (cond b (own d 279 bytes ∷ []) []) ≡ cond b (own d 279 bytes ∷ []) []
    by true = refl
    by false = refl

pub the_failed : (d : Dictionary) (f : Form) (rules : List DRule) (p : Parts) (avps : List PlainAvp) → IsStock d f rules p avps → of_key failed_avp avps ≡ failed_avps d f rules p.failed
the_failed d f rules p avps s =
    let q : PlainAvp → Bool = λ v. same_key failed_avp (key_of v) in
    let owns : List PlainAvp = own d 268 p.code ∷ own d 264 p.host ∷ own d 296 p.realm ∷ [] in
    let message = error_messages d rules p.line in
    let failed = failed_avps d f rules p.failed in
    let copies = map copied s.copies in
    let proxies = map copied s.proxies in
    ap (of_key failed_avp) s.parts ∙ filter-append q (s.session ++ owns ++ message ++ failed ++ copies) proxies
    ∙ ap (λ (vs : List PlainAvp). of_key failed_avp (s.session ++ owns ++ message ++ failed ++ copies) ++ vs)
    (of_rule proxy_info (same_key failed_avp) proxies (all_of d p.unknown p.levels proxy_info p.request s.proxies s.are_proxies)) ∙ append-nil _
    ∙ filter-append q (s.session ++ owns ++ message ++ failed) copies
    ∙ ap (λ (vs : List PlainAvp). of_key failed_avp (s.session ++ owns ++ message ++ failed) ++ vs) (of_copies d p.unknown p.levels p.request f rules s.copies failed_avp refl s.are_copies) ∙ append-nil _
    ∙ filter-append q (s.session ++ owns ++ message) failed
    ∙ ap (λ (vs : List PlainAvp). vs ++ of_key failed_avp failed) (filter-append q (s.session ++ owns) message
    ∙ ap (λ (vs : List PlainAvp). of_key failed_avp (s.session ++ owns) ++ vs) (of_messages d rules p.line failed_avp refl) ∙ append-nil _
    ∙ filter-append q s.session owns ∙ ap (λ (vs : List PlainAvp). vs ++ of_key failed_avp owns) (of_session d p.request s.session failed_avp s.is_session))
    ∙ of_failed_avp d f rules p.failed
