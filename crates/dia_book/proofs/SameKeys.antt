-- Keys that a test calls the same.
use Rattle.std.proofs.Common.{◌≡◌, true, refl, subst, ◌==◌, ◌&&◌}
use Rattle.std.proofs.lemmas.Bool.{and_parts, and_from, eqb-true, eq-eqb}
use Rattle.std.proofs.lemmas.Cmp.{nat_eq_equiv}
use Rattle.dia_wire.specs.declared.Key.{Key}
use Rattle.dia_book.specs.Keys.{same_key}

pub same_key-refl : (k : Key) → same_key k k ≡ true
same_key-refl k = and_from _ _ (eq-eqb k.code k.code refl) (eq-eqb k.vendor k.vendor refl)

pub same_key-equal : (a b : Key) → a ≡ b → same_key a b ≡ true
same_key-equal a b e = subst (λ k. same_key a k ≡ true) e (same_key-refl a)

pub same_key-true : (a b : Key) → same_key a b ≡ true → a ≡ b
same_key-true a b e =
    let parts = and_parts (a.code == b.code) (a.vendor == b.vendor) e in
    let code : a.code ≡ b.code = eqb-true a.code b.code parts.0 in
    let vendor : a.vendor ≡ b.vendor = eqb-true a.vendor b.vendor parts.1 in
    λ i. record { code = code i; vendor = vendor i }

pub same_key-symm : (a b : Key) → same_key a b ≡ same_key b a
same_key-symm a b = λ i. nat_eq_equiv.symm a.code b.code i && nat_eq_equiv.symm a.vendor b.vendor i
