-- The AVPs of an answer, as they are added one after the other.
use Rattle.std.proofs.Common.{◌≡◌, ℕ, Bool, true, false, cond, not, List, [], ◌∷◌, ◌++◌, length, map, Option, Some, None, inr, refl, sym, ap, subst, ◌∙◌, append_assoc, append-nil}
use Rattle.std.specs.Prelude.{filter, find, MatchOption, ◌⊎◌, ◌==◌, ◌&&◌, ◌||◌}
use Rattle.std.specs.List.{list_all}
use Rattle.std.proofs.lemmas.List.{length-map, map-append}
use Rattle.dia_wire.specs.declared.Key.{Key}
use Rattle.dia_wire.specs.Wire.{PlainAvp, key_of}
use Rattle.dia_book.specs.declared.DRule.{DRule}
use Rattle.dia_book.specs.Keys.{same_key}
use Rattle.dia_book.specs.Dictionary.{Dictionary, lists_key}
use Rattle.dia_terms.specs.declared.Unknown.{Unknown}
use Rattle.dia_terms.specs.declared.Levels.{Levels}
use Rattle.dia_valid.specs.Valid.{is_listed}
use Rattle.dia_answer.specs.declared.held.Held.{Held}
use Rattle.dia_answer.specs.declared.forms.Form.{Form}
use Rattle.dia_answer.specs.Stocks.{IsFitOf, TakesData, copied, may_be_unlisted, own}
use Rattle.dia_answer.specs.Bodies.{AllOf, AreCopies, AreFirst, AreRequired, AreRequiredAll, AreThose, IsSession, IsStock, Parts, error_messages, failed_avps, proxy_info, session_id}
use Rattle.dia_answer.specs.Helds.{plain_held, plains}
use Rattle.dia_answer.proofs.Orders.{all_listed_too, of_rule_too, unlisted_too}
use Rattle.dia_answer.proofs.Stocks.{all_of}
use Rattle.dia_answer.proofs.Those.{first_all}

-- ---- Session-Id

pub session_absent : (d : Dictionary) (request out : List PlainAvp) (k : Key) → k ≡ session_id → None ≡ find (λ w. same_key (key_of w) k) request → (these : List PlainAvp) × IsSession d request these × (out ≡ out ++ these)
session_absent d request out k is found =
    let nothing : List PlainAvp = [] in
    let here : None ≡ find (λ w. same_key (key_of w) session_id) request = found ∙ ap (λ (j : Key). find (λ w. same_key (key_of w) j) request) is in (
      nothing,
      subst (λ (o : Option PlainAvp). MatchOption o (nothing ≡ []) (λ w. (TakesData d session_id w.bytes × (nothing ≡ own d 263 w.bytes ∷ [])) ⊎ ((¬ TakesData d session_id w.bytes) × (nothing ≡ [])))) here refl,
      sym (append-nil out),
    )

pub session_refused : (d : Dictionary) (request out : List PlainAvp) (v : PlainAvp) (k : Key) → k ≡ session_id → Some v ≡ find (λ w. same_key (key_of w) k) request → ¬ TakesData d k v.bytes
    → (these : List PlainAvp) × IsSession d request these × (out ≡ out ++ these)
session_refused d request out v k is found other =
    let nothing : List PlainAvp = [] in
    let here : Some v ≡ find (λ w. same_key (key_of w) session_id) request = found ∙ ap (λ (j : Key). find (λ w. same_key (key_of w) j) request) is in
    let none : ¬ TakesData d session_id v.bytes = subst (λ (j : Key). ¬ TakesData d j v.bytes) is other in (
      nothing,
      subst (λ (o : Option PlainAvp). MatchOption o (nothing ≡ []) (λ w. (TakesData d session_id w.bytes × (nothing ≡ own d 263 w.bytes ∷ [])) ⊎ ((¬ TakesData d session_id w.bytes) × (nothing ≡ [])))) here (inr (none, refl)),
      sym (append-nil out),
    )

-- ---- what the rules require

pub required_more : (d : Dictionary) (u : Unknown) (most : Levels) (request : List PlainAvp) (rules : List DRule) (rule : DRule) (these more : List PlainAvp) → AreRequiredAll d u most request rules these → AreRequired d u most request rule more
    → AreRequiredAll d u most request (rules ++ rule ∷ []) (these ++ more)
required_more d u most request [] rule these more h m = (more, [], ap (λ (vs : List PlainAvp). vs ++ more) h ∙ sym (append-nil more), m, refl)
required_more d u most request (r ∷ rules) rule these more (first, others, parts, here, later) m =
    (first, others ++ more, ap (λ (vs : List PlainAvp). vs ++ more) parts ∙ append_assoc first others more, here, required_more d u most request rules rule others more later m)

pub copied_more : (before out new these more : List PlainAvp) → out ≡ before ++ map copied these → new ≡ out ++ map copied more → new ≡ before ++ map copied (these ++ more)
copied_more before out new these more so_far is =
    is ∙ ap (λ (vs : List PlainAvp). vs ++ map copied more) so_far ∙ append_assoc before (map copied these) (map copied more) ∙ ap (λ (vs : List PlainAvp). before ++ vs) (sym (map-append copied these more))

-- ---- the order

pub with_proxies : (rule : DRule) (before few few' mid new more proxies : List Held) (k : Key) (b : Bool) → AllOf proxy_info (plains proxies) → plains mid ≡ plains before ++ filter (λ v. lists_key (key_of v) rule) (plains few') → few' ≡ few
    → k ≡ proxy_info → b ≡ lists_key k rule → b ≡ true → new ≡ mid ++ more → more ≡ proxies → plains new ≡ plains before ++ filter (λ v. lists_key (key_of v) rule) (plains few ++ plains proxies)
with_proxies rule before few few' mid new more proxies k b all so_far same is_key lists is_true is_new is_more =
    ap plains is_new ∙ map-append plain_held mid more ∙ ap (λ (xs : List Held). plains mid ++ plains xs) is_more
    ∙ ap (λ (vs : List PlainAvp). vs ++ plains proxies) (so_far ∙ ap (λ (xs : List Held). plains before ++ filter (λ v. lists_key (key_of v) rule) (plains xs)) same)
    ∙ ap (λ (c : Bool). (plains before ++ filter (λ v. lists_key (key_of v) rule) (plains few)) ++ cond c (plains proxies) []) (sym is_true ∙ lists ∙ ap (λ (j : Key). lists_key j rule) is_key)
    ∙ of_rule_too rule (plains before) few proxies all

pub without_proxies : (rule : DRule) (before few few' mid proxies : List Held) (k : Key) (b : Bool) → AllOf proxy_info (plains proxies) → plains mid ≡ plains before ++ filter (λ v. lists_key (key_of v) rule) (plains few') → few' ≡ few
    → k ≡ proxy_info → b ≡ lists_key k rule → b ≡ false → plains mid ≡ plains before ++ filter (λ v. lists_key (key_of v) rule) (plains few ++ plains proxies)
without_proxies rule before few few' mid proxies k b all so_far same is_key lists other =
    so_far ∙ ap (λ (xs : List Held). plains before ++ filter (λ v. lists_key (key_of v) rule) (plains xs)) same ∙ sym (append-nil (plains before ++ filter (λ v. lists_key (key_of v) rule) (plains few)))
    ∙ ap (λ (c : Bool). (plains before ++ filter (λ v. lists_key (key_of v) rule) (plains few)) ++ cond c (plains proxies) []) (sym other ∙ lists ∙ ap (λ (j : Key). lists_key j rule) is_key)
    ∙ of_rule_too rule (plains before) few proxies all

pub rest_with_proxies : (rules : List DRule) (before few few' mid new more proxies : List Held) (k : Key) (b : Bool) → AllOf proxy_info (plains proxies) → plains mid ≡ plains before ++ filter (λ v. not (is_listed rules (key_of v))) (plains few') → few' ≡ few
    → k ≡ proxy_info → b ≡ not (is_listed rules k) → b ≡ true → new ≡ mid ++ more → more ≡ proxies → plains new ≡ plains before ++ filter (λ v. not (is_listed rules (key_of v))) (plains few ++ plains proxies)
rest_with_proxies rules before few few' mid new more proxies k b all so_far same is_key lists is_true is_new is_more =
    ap plains is_new ∙ map-append plain_held mid more ∙ ap (λ (xs : List Held). plains mid ++ plains xs) is_more
    ∙ ap (λ (vs : List PlainAvp). vs ++ plains proxies) (so_far ∙ ap (λ (xs : List Held). plains before ++ filter (λ v. not (is_listed rules (key_of v))) (plains xs)) same)
    ∙ ap (λ (c : Bool). (plains before ++ filter (λ v. not (is_listed rules (key_of v))) (plains few)) ++ cond c (plains proxies) []) (sym is_true ∙ lists ∙ ap (λ (j : Key). not (is_listed rules j)) is_key)
    ∙ unlisted_too rules (plains before) few proxies all

pub rest_without_proxies : (rules : List DRule) (before few few' mid proxies : List Held) (k : Key) (b : Bool) → AllOf proxy_info (plains proxies) → plains mid ≡ plains before ++ filter (λ v. not (is_listed rules (key_of v))) (plains few') → few' ≡ few
    → k ≡ proxy_info → b ≡ not (is_listed rules k) → b ≡ false → plains mid ≡ plains before ++ filter (λ v. not (is_listed rules (key_of v))) (plains few ++ plains proxies)
rest_without_proxies rules before few few' mid proxies k b all so_far same is_key lists other =
    so_far ∙ ap (λ (xs : List Held). plains before ++ filter (λ v. not (is_listed rules (key_of v))) (plains xs)) same ∙ sym (append-nil (plains before ++ filter (λ v. not (is_listed rules (key_of v))) (plains few)))
    ∙ ap (λ (c : Bool). (plains before ++ filter (λ v. not (is_listed rules (key_of v))) (plains few)) ++ cond c (plains proxies) []) (sym other ∙ lists ∙ ap (λ (j : Key). not (is_listed rules j)) is_key)
    ∙ unlisted_too rules (plains before) few proxies all

-- ---- whether each is listed

pub listed_by : (rules : List DRule) (few proxies : List Held) (a b c : Bool) → AllOf proxy_info (plains proxies) → a ≡ list_all (λ h. may_be_unlisted rules (plain_held h)) few → b ≡ is_listed rules proxy_info → c ≡ (length proxies == 0)
    → a && (b || c) ≡ list_all (may_be_unlisted rules) (plains few ++ plains proxies)
listed_by rules few proxies a b c all is_a is_b is_c = (λ i. is_a i && (is_b i || is_c i)) ∙ sym (all_listed_too rules few proxies all)

-- ---- all

abbrev Adds : (List PlainAvp → Type 0) → List Held → List Held → Type 0
Adds P before after = (these : List PlainAvp) × P these × (plains after ≡ plains before ++ these)

abbrev Copies : (List PlainAvp → Type 0) → List Held → List Held → Type 0
Copies P before after = (these : List PlainAvp) × P these × (plains after ≡ plains before ++ map copied these)

chain : (x0 x1 x2 x3 x4 x5 y0 y1 session owns message failed copies proxies : List PlainAvp) → x0 ≡ [] → y0 ≡ [] → x1 ≡ x0 ++ session → x2 ≡ x1 ++ owns → x3 ≡ x2 ++ message → x4 ≡ x3 ++ failed → x5 ≡ x4 ++ copies → y1 ≡ y0 ++ proxies
    → x5 ++ y1 ≡ session ++ owns ++ message ++ failed ++ copies ++ proxies
chain x0 x1 x2 x3 x4 x5 y0 y1 session owns message failed copies proxies e0 f0 e1 e2 e3 e4 e5 f1 =
    let d1 : x1 ≡ session = e1 ∙ ap (λ (vs : List PlainAvp). vs ++ session) e0 in
    let d2 : x2 ≡ session ++ owns = e2 ∙ ap (λ (vs : List PlainAvp). vs ++ owns) d1 in
    let d3 : x3 ≡ session ++ owns ++ message = e3 ∙ ap (λ (vs : List PlainAvp). vs ++ message) d2 in
    let d4 : x4 ≡ session ++ owns ++ message ++ failed = e4 ∙ ap (λ (vs : List PlainAvp). vs ++ failed) d3 in
    let d5 : x5 ≡ session ++ owns ++ message ++ failed ++ copies = e5 ∙ ap (λ (vs : List PlainAvp). vs ++ copies) d4 in
    let d6 : y1 ≡ proxies = f1 ∙ ap (λ (vs : List PlainAvp). vs ++ proxies) f0 in
    ap (λ (vs : List PlainAvp). vs ++ y1) d5 ∙ ap (λ (vs : List PlainAvp). (session ++ owns ++ message ++ failed ++ copies) ++ vs) d6

pub stock_made : (d d2 : Dictionary) (f : Form) (rules : List DRule) (p : Parts) (request few0 few1 few2 few3 few4 few5 proxies0 proxies : List Held) (line failed : Option (List ℕ)) (k : Key)
    → plains request ≡ p.request → few0 ≡ [] → proxies0 ≡ [] → line ≡ p.line → failed ≡ p.failed → d2 ≡ d → k ≡ proxy_info
    → Adds (IsSession d (plains request)) few0 few1
    → plains few2 ≡ plains few1 ++ (own d 268 p.code ∷ own d 264 p.host ∷ own d 296 p.realm ∷ [])
    → plains few3 ≡ plains few2 ++ error_messages d rules line
    → plains few4 ≡ plains few3 ++ failed_avps d f rules failed
    → Copies (AreCopies d2 p.unknown p.levels (plains request) f rules) few4 few5
    → Copies (AreFirst (IsFitOf d2 p.unknown p.levels k) (length request) (plains request)) proxies0 proxies
    → IsStock d f rules p (plains few5 ++ plains proxies)
stock_made d d2 f rules p request few0 few1 few2 few3 few4 few5 proxies0 proxies line failed k is_request is_few0 is_proxies0 is_line is_failed same is_key s sender message fault copies taken = record {
  session = s.0;
  copies = copies.0;
  proxies = taken.0;
  parts = chain (plains few0) (plains few1) (plains few2) (plains few3) (plains few4) (plains few5) (plains proxies0) (plains proxies) s.0 (own d 268 p.code ∷ own d 264 p.host ∷ own d 296 p.realm ∷ [])
      (error_messages d rules p.line) (failed_avps d f rules p.failed) (map copied copies.0) (map copied taken.0) (ap plains is_few0) (ap plains is_proxies0) s.2 sender
      (message ∙ ap (λ (o : Option (List ℕ)). plains few2 ++ error_messages d rules o) is_line) (fault ∙ ap (λ (o : Option (List ℕ)). plains few3 ++ failed_avps d f rules o) is_failed) copies.2 taken.2;
  is_session = subst (λ (r : List PlainAvp). IsSession d r s.0) is_request s.1;
  are_copies = subst (λ (r : List PlainAvp). AreCopies d p.unknown p.levels r f rules copies.0) is_request (subst (λ (e : Dictionary). AreCopies e p.unknown p.levels (plains request) f rules copies.0) same copies.1);
  are_proxies =
      let taken_here = subst (λ (n : ℕ). AreFirst (IsFitOf d2 p.unknown p.levels k) n (plains request) taken.0) (sym (length-map request plain_held)) taken.1 in
      let all = first_all (IsFitOf d2 p.unknown p.levels k) (plains request) taken.0 taken_here in
      subst (λ (r : List PlainAvp). AreThose (IsFitOf d p.unknown p.levels proxy_info) r taken.0) is_request
      (subst (λ (j : Key). AreThose (IsFitOf d p.unknown p.levels j) (plains request) taken.0) is_key (subst (λ (e : Dictionary). AreThose (IsFitOf e p.unknown p.levels k) (plains request) taken.0) same all));
}

pub proxies_made : (d : Dictionary) (u : Unknown) (most : Levels) (n : ℕ) (request proxies0 proxies : List Held) (k : Key) → proxies0 ≡ [] → k ≡ proxy_info → Copies (AreFirst (IsFitOf d u most k) n (plains request)) proxies0 proxies → AllOf proxy_info (plains proxies)
proxies_made d u most n request proxies0 proxies k none is_key taken =
    let same : plains proxies ≡ map copied taken.0 = taken.2 ∙ ap (λ (xs : List Held). plains xs ++ map copied taken.0) none in
    subst (λ (j : Key). AllOf j (plains proxies)) is_key (subst (AllOf k) (sym same) (all_of d u most k taken.1.front taken.0 taken.1.those))
