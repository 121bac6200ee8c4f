-- Data that are replaced by their format.
use Rattle.std.proofs.Common.{◌≡◌, ◌≢◌, ℕ, ◌-◌, List, [], ◌∷◌, ◌++◌, length, take, drop, All, Some, None, refl, sym, ap, subst, ◌∙◌, append_assoc, append-nil, inl, ⊎_elim, arith, min, slice_index_or, IsUtf8, IsAscii}
use Rattle.std.proofs.lemmas.List.{take_all, drop_all, length-drop, get_or_past}
use Rattle.std.proofs.lemmas.Bool.{cases_lt}
use Rattle.std.proofs.lemmas.List.Elements.{All-drop}
use Rattle.std.proofs.lemmas.Str.{IsUtf8-from_ascii}
use Rattle.dia_data.specs.Leaf.{IsGraphic, IsLeaf}
use Rattle.dia_data.specs.Plain.{PlainFormat, AnyBytes, FourBytes, EightBytes, Grouped, Address, Utf8String, DiameterIdentity, DiameterUri, Enumerated, OctetString, IpFilterRule, QosFilterRule}
use Rattle.dia_mask.specs.declared.texts.Masking.{Masking}
use Rattle.dia_mask.specs.declared.words.Words.{Words}
use Rattle.dia_mask.specs.declared.ways.Way.{Way}
use Rattle.dia_mask.specs.declared.ways.Way.TheVariants as ways
use Rattle.dia_mask.specs.Replaced.{IsAccepted, IsBroken, IsByWay, IsNewData, IsRule, IsText, IsTextWay, Numbering, broken, new_bytes, new_utf8, text_start, way, whole}
use Rattle.dia_mask.specs.Texts.{Agrees, Puts}
use Rattle.dia_mask.specs.Words.{Grows}
use Rattle.dia_mask.proofs.Characters.{no_more}

-- ---- what is added

pub puts_by_way : (f : PlainFormat) (w : Way) (bytes : List ℕ) (old new : Masking) → way f ≡ w → Puts (λ numbers. IsByWay numbers f w bytes) old new
    → Puts (λ numbers. IsNewData numbers (Some f) bytes) old new
puts_by_way f w bytes old new is h = subst (λ (x : Way). Puts (λ numbers. IsByWay numbers f x bytes) old new) (sym is) h

-- data that are the same for all numbers
pub puts_same : (P : Numbering → List ℕ → Type 0) (old new : Masking) (more : List ℕ) → new.words ≡ old.words → ((numbers : Numbering) → P numbers more) → new.data.items ≡ old.data.items ++ more
    → Puts P old new
puts_same P old new more same holds is = (subst (λ (w : Words). Grows old.words w) (sym same) (no_more old.words), λ numbers agrees. (more, holds numbers, is))

-- a part that stays, and what follows it
pub puts_after : (P : Numbering → List ℕ → Type 0) (old mid new : Masking) (front : List ℕ) (f : Numbering → List ℕ) → mid.words ≡ old.words → mid.data.items ≡ old.data.items ++ front
    → Grows mid.words new.words → ((numbers : Numbering) → Agrees new.words numbers → new.data.items ≡ mid.data.items ++ f numbers)
    → ((numbers : Numbering) → P numbers (front ++ f numbers)) → Puts P old new
puts_after P old mid new front f same pushed grows text holds = (
  subst (λ (w : Words). Grows w new.words) same grows,
  λ numbers agrees. (
    front ++ f numbers,
    holds numbers,
    text numbers agrees ∙ ap (λ (t : List ℕ). t ++ f numbers) pushed ∙ append_assoc old.data.items front (f numbers),
  ),
)

-- ---- texts

pub graphic_ascii : (bytes : List ℕ) → All IsGraphic bytes → IsAscii bytes
graphic_ascii bytes all i =
    ⊎_elim
    (λ within. let g : IsGraphic (slice_index_or bytes i 0) = all i 0 within in omega (arith, g.1))
    (λ past. let e : slice_index_or bytes i 0 ≡ 0 = get_or_past bytes i 0 past in omega (arith, e))
    (cases_lt i (length bytes))

pub graphic_utf8 : (n : ℕ) (bytes : List ℕ) → All IsGraphic bytes → IsUtf8 (drop n bytes)
graphic_utf8 n bytes all = IsUtf8-from_ascii (drop n bytes) (graphic_ascii (drop n bytes) (All-drop IsGraphic n bytes all))

pub accepted_utf8 : (f : PlainFormat) (bytes : List ℕ) → IsTextWay f → IsLeaf f bytes → IsUtf8 (drop (text_start f bytes) bytes)
accepted_utf8 (AnyBytes OctetString) bytes (refused, is) leaf = absurd cc
accepted_utf8 (AnyBytes IpFilterRule) bytes (refused, is) leaf = absurd cc
accepted_utf8 (AnyBytes QosFilterRule) bytes (refused, is) leaf = absurd cc
accepted_utf8 (FourBytes name) bytes (refused, is) leaf = absurd cc
accepted_utf8 (EightBytes name) bytes (refused, is) leaf = absurd cc
accepted_utf8 Grouped bytes (refused, is) leaf = absurd leaf
accepted_utf8 Address bytes (refused, is) leaf = absurd cc
accepted_utf8 Utf8String bytes (refused, is) leaf = leaf
accepted_utf8 DiameterIdentity bytes (refused, is) leaf = graphic_utf8 0 bytes leaf.1
accepted_utf8 DiameterUri bytes (refused, is) leaf = graphic_utf8 (text_start DiameterUri bytes) bytes leaf.1
accepted_utf8 (Enumerated None) bytes (refused, is) leaf = absurd cc
accepted_utf8 (Enumerated (Some ranges)) bytes (refused, is) leaf = absurd cc

pub accepted_slice : (f : PlainFormat) (bytes : List ℕ) (from : ℕ) → from ≡ text_start f bytes → IsTextWay f → IsLeaf f bytes → IsUtf8 (take (length bytes - from) (drop from bytes))
accepted_slice f bytes from is is_text leaf =
    subst IsUtf8 (ap (λ (n : ℕ). drop n bytes) (sym is) ∙ sym (take_all (length bytes - from) (drop from bytes) (omega (arith, length-drop from bytes)))) (accepted_utf8 f bytes is_text leaf)

pub no_group : (f : PlainFormat) → IsTextWay f → f ≢ Grouped
no_group f (refused, is) grouped = let e : ways.Left ≡ ways.Text refused = sym (ap way grouped) ∙ is in cc

-- ---- rules

pub record IsRuleSoFar (numbers : Numbering) (before now bytes rest : List ℕ) : Type 0 where
  pub added : List ℕ
  pub are : now ≡ before ++ added
  pub goes_on : (more : List ℕ) → IsRule numbers rest more → IsRule numbers bytes (added ++ more)

pub rule_begun : (numbers : Numbering) (before bytes : List ℕ) → IsRuleSoFar numbers before before bytes bytes
rule_begun numbers before bytes = record { added = []; are = sym (append-nil before); goes_on = λ more h. h }

pub rule_goes_on : (numbers : Numbering) (before old mid now bytes rest front following : List ℕ) → IsBroken rest front following → mid ≡ old ++ new_utf8 numbers front → now ≡ mid ++ 255 ∷ []
    → IsRuleSoFar numbers before old bytes rest → IsRuleSoFar numbers before now bytes following
rule_goes_on numbers before old mid now bytes rest front following b text last so_far =
    let f = new_utf8 numbers front in
    record {
      added = so_far.added ++ (f ++ 255 ∷ []);
      are = last ∙ ap (λ (t : List ℕ). t ++ 255 ∷ []) (text ∙ ap (λ (t : List ℕ). t ++ f) so_far.are)
          ∙ append_assoc (before ++ so_far.added) f (255 ∷ []) ∙ append_assoc before so_far.added (f ++ 255 ∷ []);
      goes_on = λ more h. subst (IsRule numbers bytes)
          (sym (append_assoc so_far.added (f ++ 255 ∷ []) more ∙ ap (λ (t : List ℕ). so_far.added ++ t) (append_assoc f (255 ∷ []) more)))
          (so_far.goes_on (f ++ 255 ∷ more)
          (broken b.at more b.valid (subst (λ (t : List ℕ). IsRule numbers t more) b.rest h) (ap (λ (t : List ℕ). new_utf8 numbers t ++ 255 ∷ more) b.front)));
    }

pub rule_ends : (numbers : Numbering) (before old now bytes rest : List ℕ) → IsUtf8 rest → now ≡ old ++ new_utf8 numbers rest → IsRuleSoFar numbers before old bytes rest
    → (more : List ℕ) × IsRule numbers bytes more × (now ≡ before ++ more)
rule_ends numbers before old now bytes rest utf8 text so_far = (
  so_far.added ++ new_utf8 numbers rest,
  so_far.goes_on (new_utf8 numbers rest) (whole utf8 refl),
  text ∙ ap (λ (t : List ℕ). t ++ new_utf8 numbers rest) so_far.are ∙ append_assoc before so_far.added (new_utf8 numbers rest),
)

-- ---- the ways

pub text_accepted : (f : PlainFormat) (refused : ℕ) (bytes before after : List ℕ) → IsAccepted f bytes before after → (numbers : Numbering) → IsText numbers f refused bytes (before ++ new_utf8 numbers after)
text_accepted f refused bytes before after a numbers =
    inl (a.leaf, ap (λ (t : List ℕ). t ++ new_utf8 numbers after) a.front ∙ ap (λ (t : List ℕ). take (text_start f bytes) bytes ++ new_utf8 numbers t) a.text)

family_two : (bytes : List ℕ) (n : ℕ) → n ≡ min (length bytes) 2 → (take n bytes ≡ take 2 bytes) × (drop n bytes ≡ drop 2 bytes)
family_two bytes n is =
    ⊎_elim
    (λ short. (take_all n bytes (omega (arith, is, short)) ∙ sym (take_all 2 bytes (omega (arith, short))), drop_all n bytes (omega (arith, is, short)) ∙ sym (drop_all 2 bytes (omega (arith, short)))))
    (λ long. let e : n ≡ 2 = omega (arith, is, long) in (ap (λ (k : ℕ). take k bytes) e, ap (λ (k : ℕ). drop k bytes) e))
    (cases_lt (length bytes) 2)

pub puts_address : (old mid new : Masking) (bytes rest : List ℕ) (n : ℕ) → n ≡ min (length bytes) 2 → rest ≡ take (length bytes - n) (drop n bytes) → mid.words ≡ old.words → mid.data.items ≡ old.data.items ++ take n bytes
    → Puts (λ numbers more. more ≡ new_bytes numbers rest) mid new → Puts (λ numbers more. more ≡ take 2 bytes ++ new_bytes numbers (drop 2 bytes)) old new
puts_address old mid new bytes rest n is is_rest same pushed (grows, puts) =
    let two = family_two bytes n is in
    let after : rest ≡ drop 2 bytes = is_rest ∙ take_all (length bytes - n) (drop n bytes) (omega (arith, length-drop n bytes)) ∙ two.1 in (
      subst (λ (w : Words). Grows w new.words) same grows,
      λ numbers agrees.
          let p = puts numbers agrees in (
            take 2 bytes ++ new_bytes numbers (drop 2 bytes),
            refl,
            p.2 ∙ ap (λ (t : List ℕ). t ++ p.0) pushed ∙ append_assoc old.data.items (take n bytes) p.0
                ∙ ap (λ (t : List ℕ). old.data.items ++ (t ++ p.0)) two.0
                ∙ ap (λ (t : List ℕ). old.data.items ++ (take 2 bytes ++ t)) (p.1 ∙ ap (new_bytes numbers) after),
          ),
    )
