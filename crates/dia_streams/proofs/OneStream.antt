-- Where bytes have one verdict, a stream has one list of them.
use Rattle.std.proofs.Common.{◌≡◌, ℕ, ◌+◌, ◌<◌, List, [], ◌∷◌, ◌++◌, length, take, Option, None, Some, refl, sym, ap, subst, ◌∙◌, append_assoc, inl, inr, arith}
use Rattle.std.proofs.lemmas.List.{length-append}
use Rattle.std.proofs.lemmas.Option.{same_Some}
use Rattle.dia_streams.specs.Streams.{AreSpelled, AreRecorded, none, message, BeginsNoPair, IsEndRecorded, nothing, part, endless, no_digits, IsEndless, IsMessage, IsPair, IsPart, BytesHaveOneVerdict, StreamHasOneAnswer}
use Rattle.dia_wire.specs.Wire.{BeginsMessage}
use Rattle.dia_streams.proofs.Fronts.{message_long, message_on, one_length}

-- ---- bytes

pair_once : (h l b c : ℕ) → IsPair h l b → IsPair h l c → b ≡ c
pair_once h l b c (x, y, is_x, is_y, is) (x', y', is_x', is_y', is') =
    let same_x = same_Some x x' (sym is_x ∙ is_x') in
    let same_y = same_Some y y' (sym is_y ∙ is_y') in
    omega (arith, is, is', same_x, same_y)

spelled_once : (digits left bytes digits' left' bytes' : List ℕ) → AreSpelled digits bytes → AreSpelled digits' bytes' → BeginsNoPair left → BeginsNoPair left'
    → digits ++ left ≡ digits' ++ left' → (bytes ≡ bytes') × (left ≡ left')
spelled_once [] left [] [] left' [] s t stops stops' same = (refl, same)
spelled_once [] left (b ∷ bytes) digits' left' bytes' s t stops stops' same = absurd s
spelled_once [] left [] [] left' (b ∷ bytes') s t stops stops' same = absurd t
spelled_once [] left [] (h ∷ []) left' bytes' s t stops stops' same = absurd t
spelled_once [] left [] (h ∷ l ∷ digits') left' [] s t stops stops' same = absurd t
spelled_once [] left [] (h ∷ l ∷ digits') left' (b ∷ bytes') s t stops stops' same = absurd (subst BeginsNoPair same stops b t.0)
spelled_once (h ∷ []) left bytes digits' left' bytes' s t stops stops' same = absurd s
spelled_once (h ∷ l ∷ digits) left [] digits' left' bytes' s t stops stops' same = absurd s
spelled_once (h ∷ l ∷ digits) left (b ∷ bytes) [] left' [] s t stops stops' same = absurd (subst BeginsNoPair (sym same) stops' b s.0)
spelled_once (h ∷ l ∷ digits) left (b ∷ bytes) [] left' (c ∷ bytes') s t stops stops' same = absurd t
spelled_once (h ∷ l ∷ digits) left (b ∷ bytes) (x ∷ []) left' bytes' s t stops stops' same = absurd t
spelled_once (h ∷ l ∷ digits) left (b ∷ bytes) (x ∷ y ∷ digits') left' [] s t stops stops' same = absurd t
spelled_once (h ∷ l ∷ digits) left (b ∷ bytes) (x ∷ y ∷ digits') left' (c ∷ bytes') s t stops stops' same =
    let same_h : h ≡ x = cc in
    let same_l : l ≡ y = cc in
    let tail : digits ++ left ≡ digits' ++ left' = cc in
    let rest = spelled_once digits left bytes digits' left' bytes' s.1 t.1 stops stops' tail in
    let byte = pair_once h l b c s.0 (subst (λ (z : ℕ). IsPair h z c) (sym same_l) (subst (λ (z : ℕ). IsPair z y c) (sym same_h) t.0)) in
    (ap (λ z. z ∷ bytes) byte ∙ ap (λ (r : List ℕ). c ∷ r) rest.0, rest.1)

-- ---- messages

-- two fronts of one length
same_fronts : (a b x y : List ℕ) → length a ≡ length b → a ++ x ≡ b ++ y → (a ≡ b) × (x ≡ y)
same_fronts [] [] x y size same = (refl, same)
same_fronts [] (b ∷ bs) x y size same = absurd (omega (arith, size))
same_fronts (a ∷ xs) [] x y size same = absurd (omega (arith, size))
same_fronts (a ∷ xs) (b ∷ bs) x y size same =
    let head : a ≡ b = cc in
    let tail : xs ++ x ≡ bs ++ y = cc in
    let size' : length xs ≡ length bs = omega (arith, size) in
    let rest = same_fronts xs bs x y size' tail in
    (ap (λ z. z ∷ xs) head ∙ ap (λ (r : List ℕ). b ∷ r) rest.0, rest.1)

one_message : (a b x y : List ℕ) → IsMessage a → IsMessage b → a ++ x ≡ b ++ y → (a ≡ b) × (x ≡ y)
one_message a b x y is_a is_b same =
    same_fronts a b x y (one_length (b ++ y) (length a) (length b) (subst (λ (s : List ℕ). BeginsMessage s (length a)) same (message_on a x (length a) is_a)) (message_on b y (length b) is_b)) same

part_no_message : (bytes first more : List ℕ) → IsPart bytes → IsMessage first → bytes ≡ first ++ more → ⊥
part_no_message bytes first more (inl few) is parts =
    let size = ap length parts in let both = length-append first more in let long = message_long first (length first) is in omega (arith, few, size, both, long)
part_no_message bytes first more (inr (n, m, less)) is parts =
    let all = subst (λ (s : List ℕ). BeginsMessage s (length first)) (sym parts) (message_on first more (length first) is) in
    let same = one_length bytes n (length first) m all in
    let size = ap length parts in let both = length-append first more in omega (arith, less, same, size, both)

part_not_endless : (bytes : List ℕ) → IsPart bytes → IsEndless bytes → ⊥
part_not_endless bytes (inl few) (long, bad) = omega (arith, few, long)
part_not_endless bytes (inr (n, m, less)) (long, bad) = bad n m

module _ {V : Type 0} (P : Option (List ℕ) → V → Type 0) (once : BytesHaveOneVerdict P) where
  no_message_left : (at : ℕ) (bytes left first more : List ℕ) (verdicts : List (ℕ × V)) → IsEndRecorded P at bytes left verdicts → IsMessage first → bytes ≡ first ++ more → ⊥
  no_message_left at bytes left first more verdicts (nothing empty no_left are) is parts =
      let size = ap length parts in let zero = ap length empty in let both = length-append first more in let long = message_long first (length first) is in
      omega (arith, size, zero, both, long)
  no_message_left at bytes left first more verdicts (part verdict some few no_left says are) is parts = part_no_message bytes first more few is parts
  no_message_left at bytes left first more verdicts (endless verdict bad says are) is parts =
      bad.1 (length first) (subst (λ (s : List ℕ). BeginsMessage s (length first)) (sym parts) (message_on first more (length first) is))
  no_message_left at bytes left first more verdicts (no_digits verdict few some says are) is parts = part_no_message bytes first more few is parts

  same_verdict : (at : ℕ) (verdict other : V) (verdicts others : List (ℕ × V)) → verdict ≡ other → verdicts ≡ (at, verdict) ∷ [] → others ≡ (at, other) ∷ []
      → verdicts ≡ others
  same_verdict at verdict other verdicts others same are are' = are ∙ ap (λ (v : V). (at, v) ∷ []) same ∙ sym are'

  none_and_some : (xs : List ℕ) → xs ≡ [] → 0 < length xs → ⊥
  none_and_some xs empty some = let zero = ap length empty in omega (arith, zero, some)

  end_once : (at : ℕ) (bytes left : List ℕ) (vs us : List (ℕ × V)) → IsEndRecorded P at bytes left vs → IsEndRecorded P at bytes left us → vs ≡ us
  end_once at bytes left vs us (nothing a b are) (nothing a' b' are') = are ∙ sym are'
  end_once at bytes left vs us (nothing a b are) (part v some few no_left says are') = absurd (none_and_some bytes a some)
  end_once at bytes left vs us (nothing a b are) (endless v bad says are') = let long = bad.0 in absurd (none_and_some bytes a (omega (arith, long)))
  end_once at bytes left vs us (nothing a b are) (no_digits v few some says are') = absurd (none_and_some left b some)
  end_once at bytes left vs us (part v some few no_left says are) (nothing a b are') = absurd (none_and_some bytes a some)
  end_once at bytes left vs us (part v some few no_left says are) (part v' some' few' no_left' says' are') =
      same_verdict at v v' vs us (once (Some bytes) v v' says says') are are'
  end_once at bytes left vs us (part v some few no_left says are) (endless v' bad says' are') = absurd (part_not_endless bytes few bad)
  end_once at bytes left vs us (part v some few no_left says are) (no_digits v' few' some' says' are') = absurd (none_and_some left no_left some')
  end_once at bytes left vs us (endless v bad says are) (nothing a b are') = let long = bad.0 in absurd (none_and_some bytes a (omega (arith, long)))
  end_once at bytes left vs us (endless v bad says are) (part v' some few no_left says' are') = absurd (part_not_endless bytes few bad)
  end_once at bytes left vs us (endless v bad says are) (endless v' bad' says' are') =
      same_verdict at v v' vs us (once (Some (take 20 bytes)) v v' says says') are are'
  end_once at bytes left vs us (endless v bad says are) (no_digits v' few some says' are') = absurd (part_not_endless bytes few bad)
  end_once at bytes left vs us (no_digits v few some says are) (nothing a b are') = absurd (none_and_some left b some)
  end_once at bytes left vs us (no_digits v few some says are) (part v' some' few' no_left' says' are') = absurd (none_and_some left no_left' some)
  end_once at bytes left vs us (no_digits v few some says are) (endless v' bad says' are') = absurd (part_not_endless bytes few bad)
  end_once at bytes left vs us (no_digits v few some says are) (no_digits v' few' some' says' are') =
      same_verdict at v v' vs us (once None v v' says says') are are'

  messages_once : (at : ℕ) (whole rest whole' rest' left : List ℕ) (vs last us last' : List (ℕ × V))
      → AreRecorded P at whole vs → IsEndRecorded P (at + length whole) rest left last → AreRecorded P at whole' us → IsEndRecorded P (at + length whole') rest' left last'
      → whole ++ rest ≡ whole' ++ rest' → vs ++ last ≡ us ++ last'
  messages_once at _ rest _ rest' left _ last _ last' none end none end' same =
      end_once (at + 0) rest left last last' end (subst (λ (b : List ℕ). IsEndRecorded P (at + 0) b left last') (sym same) end')
  messages_once at _ rest whole' rest' left _ last us last' none end (message first r v others is says h bytes are) end' same =
      absurd (no_message_left (at + 0) rest left first (r ++ rest') last end is (same ∙ ap (λ (b : List ℕ). b ++ rest') bytes ∙ append_assoc first r rest'))
  messages_once at whole rest _ rest' left vs last _ last' (message first r v others is says h bytes are) end none end' same =
      absurd (no_message_left (at + 0) rest' left first (r ++ rest) last' end' is (sym same ∙ ap (λ (b : List ℕ). b ++ rest) bytes ∙ append_assoc first r rest))
  messages_once at whole rest whole' rest' left vs last us last' (message first r v others is says h bytes are) end
      (message first' r' v' others' is' says' h' bytes' are') end' same =
      let parts : first ++ (r ++ rest) ≡ first' ++ (r' ++ rest') = sym (append_assoc first r rest) ∙ ap (λ (b : List ℕ). b ++ rest) (sym bytes) ∙ same
      ∙ ap (λ (b : List ℕ). b ++ rest') bytes' ∙ append_assoc first' r' rest' in
      let (same_first, same_rest) = one_message first first' (r ++ rest) (r' ++ rest') is is' parts in
      let verdict = once (Some first) v v' says (subst (λ (b : List ℕ). P (Some b) v') (sym same_first) says') in
      let size = ap length bytes ∙ length-append first r in
      let size' = ap length bytes' ∙ length-append first' r' in
      let same_size = ap length same_first in
      let place : at + length whole ≡ (at + length first) + length r = omega (arith, size) in
      let place' : at + length whole' ≡ (at + length first) + length r' = omega (arith, size', same_size) in
      let more = messages_once (at + length first) r rest r' rest' left others last others' last' h
      (subst (λ (n : ℕ). IsEndRecorded P n rest left last) place end)
      (subst (λ (b : List ℕ). AreRecorded P (at + length b) r' others') (sym same_first) h')
      (subst (λ (n : ℕ). IsEndRecorded P n rest' left last') place' end') same_rest in
      ap (λ (s : List (ℕ × V)). s ++ last) are ∙ ap (λ (z : V). (at, z) ∷ (others ++ last)) verdict ∙ ap (λ (s : List (ℕ × V)). (at, v') ∷ s) more
      ∙ ap (λ (s : List (ℕ × V)). s ++ last') (sym are')

  pub stream_once : StreamHasOneAnswer P
  stream_once stream verdicts others a b =
      let (same_bytes, same_left) = spelled_once a.spells.digits a.left a.bytes b.spells.digits b.left b.bytes a.spells.spelled b.spells.spelled a.spells.stops b.spells.stops
      (sym a.spells.parts ∙ b.spells.parts) in
      let same = messages_once 0 a.whole a.rest b.whole b.rest a.left a.earlier a.last b.earlier b.last a.recorded
      (subst (λ (n : ℕ). IsEndRecorded P n a.rest a.left a.last) (zero_add (length a.whole)) a.end_recorded) b.recorded
      (subst (λ (n : ℕ). IsEndRecorded P n b.rest a.left b.last) (zero_add (length b.whole))
      (subst (λ (l : List ℕ). IsEndRecorded P (length b.whole) b.rest l b.last) (sym same_left) b.end_recorded))
      (sym a.parts ∙ same_bytes ∙ b.parts) in
      a.are ∙ same ∙ sym b.are
    where
      zero_add : (n : ℕ) → n ≡ 0 + n
      zero_add n = omega arith
