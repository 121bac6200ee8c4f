-- Words of one pattern, one after the other.
use Rattle.std.proofs.Common.{◌≡◌, ℕ, ◌<◌, ◌⊎◌, Bool, true, false, List, Option, Some, None, length, refl, sym, ap, subst, ◌∙◌, inl, inr, ⊎_elim, arith, bytes_eq, nat_eq, string_bytes, string_eq}
use Rattle.std.specs.HashMap.{Updates, UpdatesBy, get, get_by_text}
use Rattle.std.specs.Cmp.Lexicographic.{bytes_decides}
use Rattle.std.specs.Map.{update}
use Rattle.std.proofs.lemmas.Cmp.{nat_list_eq_equiv}
use Rattle.std.proofs.lemmas.Bool.{cases_Bool, eq-eqb, eqb-true}
use Rattle.std.proofs.lemmas.Map.Text.{hash_map_updates_text}
use Rattle.std.proofs.lemmas.Map.{update_same, update_other}
use Rattle.std.proofs.lemmas.Option.{none-some, same_Some}
use Rattle.dia_mask.specs.declared.words.Numbered.{Numbered}
use Rattle.dia_mask.specs.declared.words.Words.{Words}
use Rattle.dia_mask.specs.Numbers.{AreNumbers, IsFresh, IsNew, IsNumber, count_of, number_in}
use Rattle.dia_mask.specs.Words.{IsNext, IsNumbered, bytes_at, number_at, texts_at}

-- ---- one word

module _ (old new : Numbered) (word : List ℕ) (n : ℕ) where
  -- the number of the new word, and those of others
  new_here : IsNew old word n new → (w : List ℕ) → bytes_eq word w ≡ true → number_in new w ≡ Some n
  new_here s w same = s.numbers w ∙ update_same bytes_eq (number_in old) word (Some n) w same

  new_other : IsNew old word n new → (w : List ℕ) → bytes_eq word w ≡ false → number_in new w ≡ number_in old w
  new_other s w differ = s.numbers w ∙ update_other bytes_eq (number_in old) word (Some n) w differ

  pub its_number : IsNumber old word n new → number_in new word ≡ Some n
  its_number (inl (is, same)) = ap (λ (m : Numbered). number_in m word) same ∙ is
  its_number (inr s) = new_here s word (nat_list_eq_equiv.refl word)

  pub stays : IsNumber old word n new → (w : List ℕ) (k : ℕ) → number_in old w ≡ Some k → number_in new w ≡ Some k
  stays (inl (is, same)) w k had = ap (λ (m : Numbered). number_in m w) same ∙ had
  stays (inr s) w k had =
      ⊎_elim
      (λ same. absurd (none-some k (sym (subst (λ (l : List ℕ). number_in old l ≡ None) ((bytes_decides word w).0 same) s.unknown) ∙ had)))
      (λ differ. new_other s w differ ∙ had)
      (cases_Bool (bytes_eq word w))

  pub next_number : IsNumber old word n new → IsNext (Some old) word n
  next_number (inl (is, same)) = inl is
  next_number (inr s) = inr (s.unknown, s.next)

  is_below : AreNumbers old → IsNew old word n new → (w : List ℕ) (k : ℕ) → number_in new w ≡ Some k → k < count_of new
  is_below a s w k is =
      ⊎_elim
      (λ same. let e : n ≡ k = same_Some n k (sym (new_here s w same) ∙ is) in omega (arith, e, s.next, s.more))
      (λ differ. omega (arith, a.below w k (sym (new_other s w differ) ∙ is), s.more))
      (cases_Bool (bytes_eq word w))

  -- a number that came before isn't the next one
  is_old : AreNumbers old → IsNew old word n new → (v w : List ℕ) (k : ℕ) → bytes_eq word v ≡ true → bytes_eq word w ≡ false → number_in new v ≡ Some k → number_in new w ≡ Some k → ⊥
  is_old a s v w k same differ at_v at_w =
      let e : n ≡ k = same_Some n k (sym (new_here s v same) ∙ at_v) in
      omega (arith, e, s.next, a.below w k (sym (new_other s w differ) ∙ at_w))

  are_apart : AreNumbers old → IsNew old word n new → (v w : List ℕ) (k : ℕ) → number_in new v ≡ Some k → number_in new w ≡ Some k → v ≡ w
  are_apart a s v w k at_v at_w =
      ⊎_elim
      (λ same. ⊎_elim
      (λ same'. sym ((bytes_decides word v).0 same) ∙ (bytes_decides word w).0 same')
      (λ differ'. absurd (is_old a s v w k same differ' at_v at_w))
      (cases_Bool (bytes_eq word w)))
      (λ differ. ⊎_elim
      (λ same'. absurd (is_old a s w v k same' differ at_w at_v))
      (λ differ'. a.apart v w k (sym (new_other s v differ) ∙ at_v) (sym (new_other s w differ') ∙ at_w))
      (cases_Bool (bytes_eq word w)))
      (cases_Bool (bytes_eq word v))

  pub numbered_still : AreNumbers old → IsNumber old word n new → AreNumbers new
  numbered_still a (inl (is, same)) = subst AreNumbers (sym same) a
  numbered_still a (inr s) = record { below = is_below a s; apart = are_apart a s }

pub fresh_numbers : (m : Numbered) → IsFresh m → AreNumbers m
fresh_numbers m f = record {
  below = λ w n is. absurd (none-some n (sym (f.none w) ∙ is));
  apart = λ v w n is other. absurd (none-some n (sym (f.none v) ∙ is));
}

-- ---- the words of all patterns

-- none of the pattern came, or these
abbrev pub Had : Option Numbered → Numbered → Type 0
Had old before = (old ≡ Some before) ⊎ ((old ≡ None) × IsFresh before)

had_next : (old : Option Numbered) (before after : Numbered) (word : List ℕ) (n : ℕ) → Had old before → IsNumber before word n after → IsNext old word n
had_next old before after word n (inl is) step = subst (λ (o : Option Numbered). IsNext o word n) (sym is) (next_number before after word n step)
had_next old before after word n (inr (none, f)) (inl (is, same)) = absurd (none-some n (sym (f.none word) ∙ is))
had_next old before after word n (inr (none, f)) (inr s) =
    subst (λ (o : Option Numbered). IsNext o word n) (sym none) (inr (refl, s.next ∙ f.empty))

module _ {P : Type 0} (same : P → P → Bool) (decides : (p q : P) → same p q ≡ true → p ≡ q) (itself : (p : P) → same p p ≡ true) where
  module _ (old new : P → Option Numbered) (at : P) (before after : Numbered) (had : Had (old at) before) (put : (q : P) → new q ≡ update same old at (Some after) q)
      (word : List ℕ) (n : ℕ) (step : IsNumber before word n after) where
    new_at : (q : P) → same at q ≡ true → new q ≡ Some after
    new_at q is = put q ∙ update_same same old at (Some after) q is

    not_at : (q : P) → same at q ≡ false → new q ≡ old q
    not_at q isnt = put q ∙ update_other same old at (Some after) q isnt

    pub number_put : number_at (new at) word ≡ Some n
    number_put = ap (λ (o : Option Numbered). number_at o word) (new_at at (itself at)) ∙ its_number before after word n step

    pub next_put : IsNext (old at) word n
    next_put = had_next (old at) before after word n had step

    had_stays : (o : Option Numbered) → Had o before → (w : List ℕ) (k : ℕ) → number_at o w ≡ Some k → number_in after w ≡ Some k
    had_stays o (inl is) w k number = stays before after word n step w k (sym (ap (λ (x : Option Numbered). number_at x w) is) ∙ number)
    had_stays o (inr (none, f)) w k number = absurd (none-some k (sym (ap (λ (x : Option Numbered). number_at x w) none) ∙ number))

    pub grows_put : (q : P) (w : List ℕ) (k : ℕ) → number_at (old q) w ≡ Some k → number_at (new q) w ≡ Some k
    grows_put q w k number =
        ⊎_elim
        (λ is. ap (λ (o : Option Numbered). number_at o w) (new_at q is)
        ∙ had_stays (old at) had w k (ap (λ (p : P). number_at (old p) w) (decides at q is) ∙ number))
        (λ isnt. ap (λ (o : Option Numbered). number_at o w) (not_at q isnt) ∙ number)
        (cases_Bool (same at q))

    before_numbers : ((q : P) (m : Numbered) → old q ≡ Some m → AreNumbers m) → (o : Option Numbered) → old at ≡ o → Had o before → AreNumbers before
    before_numbers all o here (inl is) = all at before (here ∙ is)
    before_numbers all o here (inr (none, f)) = fresh_numbers before f

    pub sound_put : ((q : P) (m : Numbered) → old q ≡ Some m → AreNumbers m) → (q : P) (m : Numbered) → new q ≡ Some m → AreNumbers m
    sound_put all q m is =
        ⊎_elim
        (λ here. subst AreNumbers (same_Some after m (sym (new_at q here) ∙ is)) (numbered_still before after word n (before_numbers all (old at) refl had) step))
        (λ isnt. all q m (sym (not_at q isnt) ∙ is))
        (cases_Bool (same at q))

-- ---- the words of a run

same_nat : (m n : ℕ) → nat_eq m n ≡ true → m ≡ n
same_nat = eqb-true

module _ (old new : Words) (word : List ℕ) (n : ℕ) (before after : Numbered) (step : IsNumber before word n after) where
  pub text_put : (pattern : List ℕ) → new.bytes ≡ old.bytes → Had (texts_at old pattern) before
      → UpdatesBy string_eq (λ k. bytes_eq pattern (string_bytes k)) old.texts new.texts (Some after) → IsNumbered old new (texts_at old pattern) (texts_at new pattern) word n
  text_put pattern stay had updates =
      let put = hash_map_updates_text pattern old.texts new.texts (Some after) updates in
      let same = λ (p q : List ℕ). (bytes_decides p q).0 in
      let itself = nat_list_eq_equiv.refl in
      record {
        number = number_put bytes_eq same itself (texts_at old) (texts_at new) pattern before after had put word n step;
        next = next_put bytes_eq same itself (texts_at old) (texts_at new) pattern before after had put word n step;
        grows = record {
          texts = λ p w k is. grows_put bytes_eq same itself (texts_at old) (texts_at new) pattern before after had put word n step p w k is;
          bytes = λ w k is. ap (λ m. number_at (get nat_eq m (length w)) w) stay ∙ is;
          sound = λ a. record {
            texts = sound_put bytes_eq same itself (texts_at old) (texts_at new) pattern before after had put word n step a.texts;
            bytes = λ size m is. a.bytes size m (sym (ap (λ m. get nat_eq m size) stay) ∙ is);
          };
        };
      }

  pub bytes_put : new.texts ≡ old.texts → Had (bytes_at old (length word)) before → Updates nat_eq old.bytes new.bytes (length word) (Some after)
      → IsNumbered old new (bytes_at old (length word)) (bytes_at new (length word)) word n
  bytes_put stay had updates =
      let put = updates.0 in
      let itself = λ (k : ℕ). eq-eqb k k refl in
      record {
        number = number_put nat_eq same_nat itself (bytes_at old) (bytes_at new) (length word) before after had put word n step;
        next = next_put nat_eq same_nat itself (bytes_at old) (bytes_at new) (length word) before after had put word n step;
        grows = record {
          texts = λ p w k is. ap (λ m. number_at (get_by_text m p) w) stay ∙ is;
          bytes = λ w k is. grows_put nat_eq same_nat itself (bytes_at old) (bytes_at new) (length word) before after had put word n step (length w) w k is;
          sound = λ a. record {
            texts = λ p m is. a.texts p m (sym (ap (λ m. get_by_text m p) stay) ∙ is);
            bytes = sound_put nat_eq same_nat itself (bytes_at old) (bytes_at new) (length word) before after had put word n step a.bytes;
          };
        };
      }
