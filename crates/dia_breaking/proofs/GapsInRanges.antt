-- Gaps, as a walk over the others finds them.
use Rattle.std.proofs.Common.{◌≡◌, ℕ, zero, suc, ◌+◌, ◌-◌, ◌<◌, ◌≤◌, Bool, List, [], ◌∷◌, ◌++◌, length, get_or, Option, Some, None, take, drop, refl, sym, ap, ◌∙◌, append_assoc, arith}
use Rattle.std.specs.Prelude.{nat_lt, nat_le, if◌then◌else◌}
use Rattle.std.proofs.lemmas.Bool.{lt-ltb, le-ltb, le-leb, lt-leb}
use Rattle.std.proofs.lemmas.List.{append-nil, drop_more, take_all, length-drop}
use Rattle.dia_breaking.specs.Gaps.{front, gaps, gaps_from}

-- what precedes a range of the others, that range, and the others after it
pub passed : (low high : ℕ) (r : ℕ × ℕ) (rest : List (ℕ × ℕ)) → r.1 < low → gaps low high (r ∷ rest) ≡ gaps low high rest
passed low high r rest lt =
    ap (λ (b : Bool). if b then gaps low high rest else (if nat_lt high r.0 then (low, high) ∷ [] else front low r.0 ++ (if nat_le high r.1 then [] else gaps (suc r.1) high rest))) (lt-ltb r.1 low lt)

reached : (low high : ℕ) (r : ℕ × ℕ) (rest : List (ℕ × ℕ)) → low ≤ r.1
    → gaps low high (r ∷ rest) ≡ (if nat_lt high r.0 then (low, high) ∷ [] else front low r.0 ++ (if nat_le high r.1 then [] else gaps (suc r.1) high rest))
reached low high r rest le =
    ap (λ (b : Bool). if b then gaps low high rest else (if nat_lt high r.0 then (low, high) ∷ [] else front low r.0 ++ (if nat_le high r.1 then [] else gaps (suc r.1) high rest))) (le-ltb r.1 low le)

pub whole : (low high : ℕ) (r : ℕ × ℕ) (rest : List (ℕ × ℕ)) → low ≤ r.1 → high < r.0 → gaps low high (r ∷ rest) ≡ (low, high) ∷ []
whole low high r rest le lt =
    reached low high r rest le ∙ ap (λ (b : Bool). if b then (low, high) ∷ [] else front low r.0 ++ (if nat_le high r.1 then [] else gaps (suc r.1) high rest)) (lt-ltb high r.0 lt)

cut : (low high : ℕ) (r : ℕ × ℕ) (rest : List (ℕ × ℕ)) → low ≤ r.1 → r.0 ≤ high → gaps low high (r ∷ rest) ≡ front low r.0 ++ (if nat_le high r.1 then [] else gaps (suc r.1) high rest)
cut low high r rest le begins =
    reached low high r rest le ∙ ap (λ (b : Bool). if b then (low, high) ∷ [] else front low r.0 ++ (if nat_le high r.1 then [] else gaps (suc r.1) high rest)) (le-ltb high r.0 begins)

pub ended : (low high : ℕ) (r : ℕ × ℕ) (rest : List (ℕ × ℕ)) → low ≤ r.1 → r.0 ≤ high → high ≤ r.1 → gaps low high (r ∷ rest) ≡ front low r.0 ++ []
ended low high r rest le begins ends = cut low high r rest le begins ∙ ap (λ (b : Bool). front low r.0 ++ (if b then [] else gaps (suc r.1) high rest)) (le-leb high r.1 ends)

pub goes_on : (low high : ℕ) (r : ℕ × ℕ) (rest : List (ℕ × ℕ)) → low ≤ r.1 → r.0 ≤ high → r.1 < high → gaps low high (r ∷ rest) ≡ front low r.0 ++ gaps (suc r.1) high rest
goes_on low high r rest le begins more = cut low high r rest le begins ∙ ap (λ (b : Bool). front low r.0 ++ (if b then [] else gaps (suc r.1) high rest)) (lt-leb high r.1 more)

-- one range of the others further
pub goes_past : (found : List (ℕ × ℕ)) (low high : ℕ) (r : ℕ × ℕ) (rest : List (ℕ × ℕ)) → r.1 < low → found ++ gaps low high rest ≡ found ++ gaps low high (r ∷ rest)
goes_past found low high r rest lt = ap (λ (gs : List (ℕ × ℕ)). found ++ gs) (sym (passed low high r rest lt))

pub put_whole : (old new : List (ℕ × ℕ)) (low high : ℕ) (r : ℕ × ℕ) (rest : List (ℕ × ℕ)) → low ≤ r.1 → high < r.0 → new ≡ old ++ (low, high) ∷ [] → new ++ [] ≡ old ++ gaps low high (r ∷ rest)
put_whole old new low high r rest le lt is = append-nil new ∙ is ∙ ap (λ (gs : List (ℕ × ℕ)). old ++ gs) (sym (whole low high r rest le lt))

pub put_last : (old new : List (ℕ × ℕ)) (low high : ℕ) (r : ℕ × ℕ) (rest : List (ℕ × ℕ)) → low ≤ r.1 → r.0 ≤ high → high ≤ r.1 → new ≡ old ++ front low r.0
    → new ++ [] ≡ old ++ gaps low high (r ∷ rest)
put_last old new low high r rest le begins ends is =
    ap (λ (gs : List (ℕ × ℕ)). gs ++ []) is ∙ append_assoc old (front low r.0) [] ∙ ap (λ (gs : List (ℕ × ℕ)). old ++ gs) (sym (ended low high r rest le begins ends))

pub put_front : (old new : List (ℕ × ℕ)) (low high : ℕ) (r : ℕ × ℕ) (rest : List (ℕ × ℕ)) → low ≤ r.1 → r.0 ≤ high → r.1 < high → new ≡ old ++ front low r.0
    → new ++ gaps (r.1 + 1) high rest ≡ old ++ gaps low high (r ∷ rest)
put_front old new low high r rest le begins more is =
    let next : r.1 + 1 ≡ suc r.1 = omega arith in
    ap (λ (n : ℕ). new ++ gaps n high rest) next ∙ ap (λ (gs : List (ℕ × ℕ)). gs ++ gaps (suc r.1) high rest) is ∙ append_assoc old (front low r.0) (gaps (suc r.1) high rest)
    ∙ ap (λ (gs : List (ℕ × ℕ)). old ++ gs) (sym (goes_on low high r rest le begins more))

pub walks_on : (start old new : List (ℕ × ℕ)) (low first high i : ℕ) (next : Option ℕ) (n : ℕ) (d : ℕ × ℕ) (others : List (ℕ × ℕ)) → i < length others → next ≡ Some n
    → new ++ gaps_from next high (drop (i + 1) others) ≡ old ++ gaps first high (get_or others i d ∷ drop (i + 1) others) → old ++ gaps first high (drop i others) ≡ start ++ gaps low high others
    → new ++ gaps n high (drop (i + 1) others) ≡ start ++ gaps low high others
walks_on start old new low first high i next n d others within is more before =
    ap (λ (o : Option ℕ). new ++ gaps_from o high (drop (i + 1) others)) (sym is) ∙ more ∙ ap (λ (rs : List (ℕ × ℕ)). old ++ gaps first high rs) (sym (drop_more others i d within)) ∙ before

pub walks_out : (start old new : List (ℕ × ℕ)) (low first high i : ℕ) (next : Option ℕ) (d : ℕ × ℕ) (others : List (ℕ × ℕ)) → i < length others → next ≡ None
    → new ++ gaps_from next high (drop (i + 1) others) ≡ old ++ gaps first high (get_or others i d ∷ drop (i + 1) others) → old ++ gaps first high (drop i others) ≡ start ++ gaps low high others
    → new ≡ start ++ gaps low high others
walks_out start old new low first high i next d others within is more before =
    sym (append-nil new) ∙ ap (λ (o : Option ℕ). new ++ gaps_from o high (drop (i + 1) others)) (sym is) ∙ more
    ∙ ap (λ (rs : List (ℕ × ℕ)). old ++ gaps first high rs) (sym (drop_more others i d within)) ∙ before

-- others that end before the range don't count
pub skipped : (place low high : ℕ) (others : List (ℕ × ℕ)) → ((k : ℕ) → k < place → k < length others → (get_or others k (0, 0)).1 < low) → gaps low high (drop place others) ≡ gaps low high others
skipped zero low high others each = refl
skipped (suc place) low high [] each = refl
skipped (suc place) low high (r ∷ rest) each =
    skipped place low high rest (λ k lt short. each (suc k) (omega (arith, lt)) (omega (arith, short))) ∙ sym (passed low high r rest (each 0 (omega arith) (omega arith)))

pub skipped_rest : (place low high : ℕ) (others : List (ℕ × ℕ)) → ((k : ℕ) → k < place → k < length others → (get_or others k (0, 0)).1 < low)
    → gaps low high (take (length others - place) (drop place others)) ≡ gaps low high others
skipped_rest place low high others each = ap (gaps low high) (take_all (length others - place) (drop place others) (omega (arith, length-drop place others))) ∙ skipped place low high others each
