-- Bytes have one answer.
use Rattle.std.proofs.Common.{◌≡◌, ◌≢◌, ℕ, List, [], ◌∷◌, drop, Some, Result, Ok, Err, inl, inr, refl, sym, ap, subst, ◌∙◌}
use Rattle.std.specs.Prelude.{◌⊎◌, IfOk, slice_get}
use Rattle.std.specs.List.{AllByRecursion}
use Rattle.std.specs.declared.alloc.AllocError.{AllocError}
use Rattle.std.proofs.lemmas.List.{append_cancel_right}
use Rattle.std.proofs.lemmas.Option.{same_Some}
use Rattle.dia_wire.specs.declared.Header.{Header}
use Rattle.dia_wire.specs.Wire.{PlainAvp, HasR, MessageWithZeros}
use Rattle.dia_book.specs.Dictionary.{Dictionary, IsDictionary, PlainDefinition, definitions}
use Rattle.dia_terms.specs.declared.Unknown.{Unknown}
use Rattle.dia_terms.specs.declared.Levels.{Levels}
use Rattle.dia_check.specs.declared.Fault.{Fault}
use Rattle.dia_check.specs.declared.Reason.{Reason}
use Rattle.dia_check.specs.declared.Reason.TheVariants as reason
use Rattle.dia_check.specs.declared.Refusal.TheVariants as refusal
use Rattle.dia_check.specs.Faults.{IsRecorded}
use Rattle.dia_check.proofs.OneAnswer.{one_answer}
use Rattle.dia_answer.specs.declared.forms.Form.{Form}
use Rattle.dia_answer.specs.declared.forms.Made.{Made}
use Rattle.dia_answer.specs.declared.forms.NoAnswer.{NoAnswer}
use Rattle.dia_answer.specs.declared.forms.NoAnswer.TheVariants as no_answer
use Rattle.dia_answer.specs.Bodies.{IsStock, Parts, in_order}
use Rattle.dia_answer.specs.Failed.{IsFailed}
use Rattle.dia_answer.specs.Requests.{AreRequestAvps, IsRequestHead}
use Rattle.dia_answer.specs.Sources.{in_extent}
use Rattle.dia_answer.specs.Reports.{AreParts, AreSame, Attempt, HasNoForm, HasNoneBy, IsAnswered, IsByFirst, IsCommandOf, IsDue, IsNoAnswer, IsOfForm, IsRequest, answer_header, attempts_for, form_dictionary}
use Rattle.dia_answer.proofs.OneFailed.{one_failed, one_front}
use Rattle.dia_answer.proofs.OneStock.{one_stock}
use Rattle.dia_answer.proofs.Reasons.{answer_reason, no_reason, one_reason, short_reason, unmade}
use Rattle.dia_answer.proofs.Writings.{one_writing}

-- ---- what an answer is made of

one_head : (h k : Header) (bytes : List ℕ) → IsRequestHead h bytes → IsRequestHead k bytes → h ≡ k
one_head h k bytes a b =
    let flags : h.flags ≡ k.flags = a.flags ∙ sym b.flags in
    let code : h.code ≡ k.code = a.code ∙ sym b.code in
    let app : h.app ≡ k.app = a.app ∙ sym b.app in
    let hop : h.hop ≡ k.hop = a.hop ∙ sym b.hop in
    let e2e : h.e2e ≡ k.e2e = a.e2e ∙ sym b.e2e in
    λ i. record { flags = flags i; code = code i; app = app i; hop = hop i; e2e = e2e i }

one_request : (r : Reason) (vs ws : List PlainAvp) (bytes : List ℕ) → AreRequestAvps r vs bytes → AreRequestAvps r ws bytes → vs ≡ ws
one_request reason.Version vs ws bytes h k = h ∙ sym k
one_request reason.Length vs ws bytes h k = h ∙ sym k
one_request reason.Bits vs ws bytes h k = one_front vs ws (drop 20 bytes) h k
one_request reason.Command vs ws bytes h k = one_front vs ws (drop 20 bytes) h k
one_request reason.Application vs ws bytes h k = one_front vs ws (drop 20 bytes) h k
one_request reason.Proxiable vs ws bytes h k = one_front vs ws (drop 20 bytes) h k
one_request reason.AvpLength vs ws bytes h k = one_front vs ws (drop 20 bytes) h k
one_request reason.Unknown vs ws bytes h k = one_front vs ws (drop 20 bytes) h k
one_request reason.MBit vs ws bytes h k = one_front vs ws (drop 20 bytes) h k
one_request reason.Missing vs ws bytes h k = one_front vs ws (drop 20 bytes) h k
one_request reason.NotAllowed vs ws bytes h k = one_front vs ws (drop 20 bytes) h k
one_request reason.TooMany vs ws bytes h k = one_front vs ws (drop 20 bytes) h k
one_request reason.LeafLength vs ws bytes h k = one_front vs ws (drop 20 bytes) h k
one_request reason.LeafValue vs ws bytes h k = one_front vs ws (drop 20 bytes) h k
one_request reason.Depth vs ws bytes h k = one_front vs ws (drop 20 bytes) h k

one_parts : (d : Dictionary) (u : Unknown) (most : Levels) (host realm request : List ℕ) (f : Fault) (p q : Parts) → AreParts d u most host realm request f p → AreParts d u most host realm request f q → p ≡ q
one_parts d u most host realm request f p q a b =
    let unknown : p.unknown ≡ q.unknown = a.unknown ∙ sym b.unknown in
    let levels : p.levels ≡ q.levels = a.levels ∙ sym b.levels in
    let avps : p.request ≡ q.request = one_request f.reason p.request q.request request a.reads b.reads in
    let code : p.code ≡ q.code = a.code ∙ sym b.code in
    let our_host : p.host ≡ q.host = a.is_host ∙ sym b.is_host in
    let our_realm : p.realm ≡ q.realm = a.is_realm ∙ sym b.is_realm in
    let text : a.text ≡ b.text = append_cancel_right a.text b.text (10 ∷ []) (a.is_line ∙ sym b.is_line) in
    let line : p.line ≡ q.line = a.has_text ∙ ap (λ (t : List ℕ). Some t) text ∙ sym b.has_text in
    let header : a.header ≡ b.header = one_head a.header b.header request a.is_header b.is_header in
    let failed : p.failed ≡ q.failed = one_failed d b.header request f p.failed q.failed (subst (λ (h : Header). IsFailed d h request f p.failed) header a.is_failed) b.is_failed in
    λ i. record { unknown = unknown i; levels = levels i; request = avps i; code = code i; host = our_host i; realm = our_realm i; line = line i; failed = failed i }

-- ---- the answer of a form

one_command : (d : Dictionary) (h : Header) (f : Form) (a b : PlainDefinition) → IsCommandOf d h f a → IsCommandOf d h f b → a ≡ b
one_command d h f a b (i, is, at) (j, is', at') = same_Some a b (sym at ∙ ap (λ (n : ℕ). slice_get (definitions d) n) (same_Some i j (sym is ∙ is')) ∙ at')

one_of_form : (d : Dictionary) (h : Header) (f : Form) (p : Parts) (a b : List ℕ) → IsOfForm d h f p a → IsOfForm d h f p b → a ≡ b
one_of_form d h f p a b x y =
    let command : x.command ≡ y.command = one_command d h f x.command y.command x.is_command y.is_command in
    let stock : x.avps ≡ y.avps = one_stock d f y.command.rules p x.avps y.avps (subst (λ (c : PlainDefinition). IsStock d f c.rules p x.avps) command x.are_avps) y.are_avps in
    let avps : in_order x.command.rules x.avps ≡ in_order y.command.rules y.avps = λ i. in_order (command i).rules (stock i) in
    one_writing (answer_header h f) (in_order y.command.rules y.avps) a b x.are_bytes y.are_bytes (subst (λ (vs : List PlainAvp). MessageWithZeros (answer_header h f) vs a) avps x.message) y.message

module _ (d : Dictionary) (h : Header) (p : Parts) where
  one_first : (attempts : List Attempt) (f g : Form) (a b : List ℕ) → IsByFirst d h p attempts f a → IsByFirst d h p attempts g b → (f ≡ g) × (a ≡ b)
  one_first [] f g a b x y = absurd x
  one_first (t ∷ attempts) f g a b (inl (is, x)) (inl (is', y)) = (is ∙ sym is', one_of_form (form_dictionary t.form d) h t.form (in_extent t.extent p) a b x y)
  one_first (t ∷ attempts) f g a b (inl (is, x)) (inr (none, y)) = absurd (none a x)
  one_first (t ∷ attempts) f g a b (inr (none, x)) (inl (is, y)) = absurd (none b y)
  one_first (t ∷ attempts) f g a b (inr (none, x)) (inr (none', y)) = one_first attempts f g a b x y

  none_first : (attempts : List Attempt) (f : Form) (a : List ℕ) → AllByRecursion (HasNoneBy d h p) attempts → IsByFirst d h p attempts f a → ⊥
  none_first [] f a none x = x
  none_first (t ∷ attempts) f a none (inl (is, x)) = none.0 a x
  none_first (t ∷ attempts) f a none (inr (other, x)) = none_first attempts f a none.1 x

-- ---- all

one_fault : (d : Dictionary) (u : Unknown) (most : Levels) (bytes : List ℕ) (f g : Fault) → IsDictionary d → IsRecorded d u most bytes f → IsRecorded d u most bytes g → f ≡ g
one_fault d u most bytes f g sound x y =
    let e = one_answer d u most bytes (Err (refusal.Fault f)) (Err (refusal.Fault g)) sound x y (λ q. absurd cc) (λ q. absurd cc) in cc

module _ (d : Dictionary) (u : Unknown) (most : Levels) (host realm bytes : List ℕ) (sound : IsDictionary d) where
  due_same : (m n : Made) → IsDue d u most host realm bytes m → IsDue d u most host realm bytes n → AreSame (Ok m) (Ok n)
  due_same m n x y =
      let fault : m.fault ≡ n.fault = one_fault d u most bytes m.fault n.fault sound x.recorded y.recorded in
      let header : x.first.header ≡ y.first.header = one_head x.first.header y.first.header bytes x.first.reads y.first.reads in
      let parts : x.first.parts ≡ y.first.parts =
      one_parts d u most host realm bytes n.fault x.first.parts y.first.parts (subst (λ (f : Fault). AreParts d u most host realm bytes f x.first.parts) fault x.first.are_parts) y.first.are_parts in
      let by_header : IsByFirst d y.first.header x.first.parts (attempts_for m.fault.code) m.form m.bytes.items =
      subst (λ (h : Header). IsByFirst d h x.first.parts (attempts_for m.fault.code) m.form m.bytes.items) header x.first.first in
      let by_parts : IsByFirst d y.first.header y.first.parts (attempts_for m.fault.code) m.form m.bytes.items =
      subst (λ (p : Parts). IsByFirst d y.first.header p (attempts_for m.fault.code) m.form m.bytes.items) parts by_header in
      let here : IsByFirst d y.first.header y.first.parts (attempts_for n.fault.code) m.form m.bytes.items =
      subst (λ (f : Fault). IsByFirst d y.first.header y.first.parts (attempts_for f.code) m.form m.bytes.items) fault by_parts in
      let same = one_first d y.first.header y.first.parts (attempts_for n.fault.code) m.form n.form m.bytes.items n.bytes.items here y.first.first in
      (same.1, same.0, fault)

  no_due : (m : Made) → IsDue d u most host realm bytes m → HasNoForm d u most host realm bytes → ⊥
  no_due m x y =
      let fault : m.fault ≡ y.fault = one_fault d u most bytes m.fault y.fault sound x.recorded y.recorded in
      let header : x.first.header ≡ y.header = one_head x.first.header y.header bytes x.first.reads y.reads in
      let parts : x.first.parts ≡ y.parts =
      one_parts d u most host realm bytes y.fault x.first.parts y.parts (subst (λ (f : Fault). AreParts d u most host realm bytes f x.first.parts) fault x.first.are_parts) y.are_parts in
      let by_header : IsByFirst d y.header x.first.parts (attempts_for m.fault.code) m.form m.bytes.items =
      subst (λ (h : Header). IsByFirst d h x.first.parts (attempts_for m.fault.code) m.form m.bytes.items) header x.first.first in
      let by_parts : IsByFirst d y.header y.parts (attempts_for m.fault.code) m.form m.bytes.items =
      subst (λ (p : Parts). IsByFirst d y.header p (attempts_for m.fault.code) m.form m.bytes.items) parts by_header in
      let here : IsByFirst d y.header y.parts (attempts_for y.fault.code) m.form m.bytes.items =
      subst (λ (f : Fault). IsByFirst d y.header y.parts (attempts_for f.code) m.form m.bytes.items) fault by_parts in
      none_first d y.header y.parts (attempts_for y.fault.code) m.form m.bytes.items y.none here

  -- a reason other than the length
  is_other : (why : NoAnswer) → why ≢ no_answer.TooLong → IsAnswered d u most host realm bytes (Err why) → IsNoAnswer d u most bytes why
  is_other no_answer.Short other h = h
  is_other no_answer.Answer other h = h
  is_other no_answer.Truncated other h = h
  is_other no_answer.Trailing other h = h
  is_other no_answer.Valid other h = h
  is_other no_answer.TooLong other h = absurd (other refl)

  too_long_or : (why : NoAnswer) → (why ≡ no_answer.TooLong) ⊎ (why ≢ no_answer.TooLong)
  too_long_or no_answer.Short = inr (λ e. absurd cc)
  too_long_or no_answer.Answer = inr (λ e. absurd cc)
  too_long_or no_answer.Truncated = inr (λ e. absurd cc)
  too_long_or no_answer.Trailing = inr (λ e. absurd cc)
  too_long_or no_answer.Valid = inr (λ e. absurd cc)
  too_long_or no_answer.TooLong = inl refl

  -- where a fault is reported nothing else is
  no_other : (f : Fault) → IsRequest bytes → IsRecorded d u most bytes f → (why : NoAnswer) → why ≢ no_answer.TooLong → IsAnswered d u most host realm bytes (Err why) → ⊥
  no_other f (head, reads, is_request) recorded why other h = no_reason d u most bytes f sound recorded reads.long (subst HasR reads.flags is_request) why other (is_other why other h)

  due_and_none : (m : Made) (why : NoAnswer) → IsDue d u most host realm bytes m → IsAnswered d u most host realm bytes (Err why) → ⊥
  due_and_none m why x y = by (too_long_or why)
    where
      by : (why ≡ no_answer.TooLong) ⊎ (why ≢ no_answer.TooLong) → ⊥
      by (inl is) = no_due m x (subst (λ (w : NoAnswer). IsAnswered d u most host realm bytes (Err w)) is y)
      by (inr other) = no_other m.fault x.is_request x.recorded why other y

  same_reason : (a b : NoAnswer) → unmade a ≡ unmade b → a ≡ b
  same_reason a b e = cc

  other_reasons : (a b : NoAnswer) → b ≢ no_answer.TooLong → IsAnswered d u most host realm bytes (Err a) → IsNoAnswer d u most bytes b → a ≡ b
  other_reasons no_answer.Short b other x y = same_reason no_answer.Short b (short_reason d u most bytes x b other y)
  other_reasons no_answer.Answer b other (head, reads, none) y =
      same_reason no_answer.Answer b (answer_reason d u most bytes reads.long (λ is. none (subst HasR (sym reads.flags) is)) b other y)
  other_reasons no_answer.Truncated b other ((head, reads, is_request), x) y =
      same_reason no_answer.Truncated b (one_reason d u most bytes (Err refusal.Truncated) no_answer.Truncated sound x (λ e. absurd cc) reads.long (subst HasR reads.flags is_request) refl b other y)
  other_reasons no_answer.Trailing b other ((head, reads, is_request), x) y =
      same_reason no_answer.Trailing b (one_reason d u most bytes (Err refusal.Trailing) no_answer.Trailing sound x (λ e. absurd cc) reads.long (subst HasR reads.flags is_request) refl b other y)
  other_reasons no_answer.Valid b other ((head, reads, is_request), (def, x)) y =
      same_reason no_answer.Valid b (one_reason d u most bytes (Ok (record { def = def })) no_answer.Valid sound x (λ e. absurd cc) reads.long (subst HasR reads.flags is_request) refl b other y)
  other_reasons no_answer.TooLong b other x y = absurd (no_reason d u most bytes x.fault sound x.recorded x.reads.long (subst HasR x.reads.flags x.is_request) b other y)

  one_none : (a b : NoAnswer) → IsAnswered d u most host realm bytes (Err a) → IsAnswered d u most host realm bytes (Err b) → a ≡ b
  one_none a b x y = by (too_long_or a) (too_long_or b)
    where
      by : (a ≡ no_answer.TooLong) ⊎ (a ≢ no_answer.TooLong) → (b ≡ no_answer.TooLong) ⊎ (b ≢ no_answer.TooLong) → a ≡ b
      by (inl e) (inl f) = e ∙ sym f
      by p (inr other) = other_reasons a b other x (is_other b other y)
      by (inr other) (inl f) = sym (other_reasons b a other y (is_other a other x))

  pub one_answered : (a b : Result Made NoAnswer) → IsAnswered d u most host realm bytes a → IsAnswered d u most host realm bytes b → AreSame a b
  one_answered (Ok m) (Ok n) x y = due_same m n x y
  one_answered (Ok m) (Err why) x y = due_and_none m why x y
  one_answered (Err why) (Ok n) x y = due_and_none n why y x
  one_answered (Err a) (Err b) x y = one_none a b x y

  -- where there is no answer of any form, that is what is answered
  pub too_long_only : (r : Result (Result Made NoAnswer) AllocError) → IfOk r (IsAnswered d u most host realm bytes) → HasNoForm d u most host realm bytes → IfOk r (λ found. found ≡ Err no_answer.TooLong)
  too_long_only (Ok (Ok m)) x y = absurd (no_due m x y)
  too_long_only (Ok (Err why)) x y = ap unmade (one_none why no_answer.TooLong x y)
  too_long_only (Err e) x y = tt
