-- A text that is put into a sink piece by piece.
use Rattle.std.proofs.Common.{◌≡◌, ℕ, ◌-◌, ◌+◌, ◌==◌, true, List, [], ◌∷◌, ◌++◌, Option, Some, None, length, take, drop, refl, sym, ap, subst, ◌∙◌, append_assoc, arith}
use Rattle.std.specs.Io.KnownBytes.{Appends, Keeps}
use Rattle.std.proofs.lemmas.List.{take_rest, take-append-drop, append-nil, length-append}
use Rattle.dia_io.specs.Writing.{AppendsFront}

-- some front of the text was written, and the rest is to come
pub record IsUnderWay (old now : Option (List ℕ)) (text rest : List ℕ) : Type 0 where
  pub front : List ℕ
  pub parts : text ≡ front ++ rest
  pub written : Appends old now front

Appends-nothing : (known : Option (List ℕ)) → Appends known known []
Appends-nothing None = tt
Appends-nothing (Some xs) = sym (append-nil xs)

Appends-both : (a b c : Option (List ℕ)) (x y : List ℕ) → Appends a b x → Appends b c y → Appends a c (x ++ y)
Appends-both None b c x y h k = tt
Appends-both (Some s) None c x y h k = absurd h
Appends-both (Some s) (Some t) None x y h k = absurd k
Appends-both (Some s) (Some t) (Some u) x y h k = k ∙ ap (λ (f : List ℕ). f ++ y) h ∙ append_assoc s x y

Appends-kept : (a b c : Option (List ℕ)) (x : List ℕ) → Appends a b x → Keeps b c → Appends a c x
Appends-kept None b c x h k = tt
Appends-kept (Some s) None c x h k = absurd h
Appends-kept (Some s) (Some t) None x h k = absurd k
Appends-kept (Some s) (Some t) (Some u) x h k = k ∙ h

pub begun : (known : Option (List ℕ)) (text : List ℕ) → IsUnderWay known known text text
begun known text = record { front = []; parts = refl; written = Appends-nothing known }

-- a piece was taken
pub taken : (old now new : Option (List ℕ)) (text rest : List ℕ) (n : ℕ) → IsUnderWay old now text rest → Appends now new (take n rest)
    → IsUnderWay old new text (take (length rest - n) (drop n rest))
taken old now new text rest n u h = record {
  front = u.front ++ take n rest;
  parts = u.parts ∙ ap (λ (f : List ℕ). u.front ++ f) (sym (take-append-drop n rest) ∙ ap (λ (f : List ℕ). take n rest ++ f) (sym (take_rest rest n)))
      ∙ sym (append_assoc u.front (take n rest) (take (length rest - n) (drop n rest)));
  written = Appends-both old now new u.front (take n rest) u.written h;
}

-- no more was taken
pub stopped : (old now new : Option (List ℕ)) (text rest : List ℕ) → IsUnderWay old now text rest → Keeps now new → AppendsFront old new text
stopped old now new text rest u h = (u.front, rest, u.parts, Appends-kept old now new u.front u.written h)

pub ended : (old now : Option (List ℕ)) (text rest : List ℕ) → IsUnderWay old now text rest → length rest ≡ 0 → Appends old now text
ended old now text [] u h = subst (Appends old now) (sym (u.parts ∙ append-nil u.front)) u.written
ended old now text (byte ∷ rest) u h = absurd (omega arith)

-- an empty text has no rest
pub no_rest : (old now : Option (List ℕ)) (text rest : List ℕ) → IsUnderWay old now text rest → text ≡ [] → (length rest == 0) ≡ true
no_rest old now text [] u empty = refl
no_rest old now text (byte ∷ rest) u empty =
    let lengths : length u.front + length (byte ∷ rest) ≡ 0 =
    sym (length-append u.front (byte ∷ rest)) ∙ ap (λ (t : List ℕ). length t) (sym u.parts ∙ empty) in
    absurd (omega arith)
