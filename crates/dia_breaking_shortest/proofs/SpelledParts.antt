-- Bytes that spell AVPs, one after another.
use Rattle.std.proofs.Common.{ℕ, zero, suc, List, [], ◌∷◌, ◌++◌, sym, ap, subst, ◌∙◌, append_assoc, append-nil, refl, inl, inr}
use Rattle.dia_wire.specs.declared.Key.{Key}
use Rattle.dia_wire.specs.Wire.{PlainAvp, Spells, SpellsAll}
use Rattle.dia_valid.proofs.Members.{IsIn}
use Rattle.dia_breaking_levels.specs.declared.line.Part.{Part}
use Rattle.dia_breaking_shortest.specs.Bytes.{parts_bytes, repeated}

-- they spell some AVPs
abbrev pub IsSpelled : List ℕ → Type 0
IsSpelled bytes = (avps : List PlainAvp) × SpellsAll avps bytes

pub spells_both : (xs ys : List PlainAvp) (a b : List ℕ) → SpellsAll xs a → SpellsAll ys b → SpellsAll (xs ++ ys) (a ++ b)
spells_both [] ys a b first second = subst (SpellsAll ys) (sym (ap (λ (bs : List ℕ). bs ++ b) first)) second
spells_both (x ∷ xs) ys a b (front, rest, own, is, later) second =
    (front, rest ++ b, own, ap (λ (bs : List ℕ). bs ++ b) is ∙ append_assoc front rest b, spells_both xs ys rest b later second)

pub spells_one : (v : PlainAvp) (bytes : List ℕ) → Spells v bytes → SpellsAll (v ∷ []) bytes
spells_one v bytes own = (bytes, [], own, sym (append-nil bytes), refl)

pub repeated_spelled : (n : ℕ) (bytes : List ℕ) → IsSpelled bytes → IsSpelled (repeated n bytes)
repeated_spelled zero bytes one = ([], refl)
repeated_spelled (suc n) bytes one = let rest = repeated_spelled n bytes one in (one.0 ++ rest.0, spells_both one.0 rest.0 bytes (repeated n bytes) one.1 rest.1)

-- those of parts do, if those of each part's key do
pub parts_spelled : (avp : Key → List ℕ) (parts : List Part) → ((part : Part) → IsIn part parts → IsSpelled (avp part.key)) → IsSpelled (parts_bytes avp parts)
parts_spelled avp [] each = ([], refl)
parts_spelled avp (part ∷ parts) each =
    let first = repeated_spelled part.count (avp part.key) (each part (inl refl)) in
    let rest = parts_spelled avp parts (λ p i. each p (inr i)) in
    (first.0 ++ rest.0, spells_both first.0 rest.0 (repeated part.count (avp part.key)) (parts_bytes avp parts) first.1 rest.1)
