-- Extension headers that are passed over one by one.
use Rattle.std.proofs.Common.{◌≡◌, ℕ, zero, suc, ◌<◌, ◌≤◌, ◌-◌, Bool, true, false, cond, length, Option, Some, None, inl, inr, refl, ap, ◌∙◌, arith}
use Rattle.std.specs.Prelude.{Result, Ok, Err, nat_le, ◌&&◌, ◌⊎◌}
use Rattle.std.proofs.lemmas.Bool.{le-leb}
use Rattle.std.proofs.lemmas.Bool.Decides.{leb_tells}
use Rattle.std.proofs.lemmas.List.{length-drop}
use Rattle.dia_segments.specs.declared.unread.Unread.{Unread}
use Rattle.dia_segments.specs.declared.unread.Unread.TheVariants.{Malformed}
use Rattle.dia_segments.specs.Ipv6.{PlainPayload, after_header, extended, extension_length, past}

-- what is left to pass over gives what the whole gives
pub record IsLeft (whole rest : PlainPayload) : Type 0 where
  pub most : ℕ
  pub enough : length rest.bytes ≤ most
  pub same : extended (length whole.bytes) whole ≡ extended most rest

pub IsLeft-all : (p : PlainPayload) → IsLeft p p
IsLeft-all p = record { most = length p.bytes; enough = omega arith; same = refl }

-- ---- one header

open_test : (a b : Bool) (x y : Result PlainPayload Unread) → a ≡ true → b ≡ true → cond (a && b) x y ≡ x
open_test a b x y is_a is_b = rw (is_a, is_b) refl

shut_first : (a b : Bool) (x y : Result PlainPayload Unread) → a ≡ false → cond (a && b) x y ≡ y
shut_first a b x y is_a = rw is_a refl

shut_second : (a b : Bool) (x y : Result PlainPayload Unread) → b ≡ false → cond (a && b) x y ≡ y
shut_second true b x y is_b = rw is_b refl
shut_second false b x y is_b = refl

past-header : (rest : PlainPayload → Result PlainPayload Unread) (p : PlainPayload) (n : ℕ) (found : Option ℕ) → found ≡ Some n → n ≤ length p.bytes → n ≤ p.size
    → past rest p found ≡ rest (after_header n p)
past-header rest p n found is there within =
    ap (λ (o : Option ℕ). past rest p o) is
    ∙ open_test (nat_le n (length p.bytes)) (nat_le n p.size) (rest (after_header n p)) (Err Malformed) (le-leb n (length p.bytes) there) (le-leb n p.size within)

past-none : (rest : PlainPayload → Result PlainPayload Unread) (p : PlainPayload) (found : Option ℕ) → found ≡ None → past rest p found ≡ Ok p
past-none rest p found is = ap (λ (o : Option ℕ). past rest p o) is

not_le : (a b : ℕ) → b < a → nat_le a b ≡ false
not_le a b h = tells (nat_le a b) (leb_tells a b)
  where
    tells : (t : Bool) → ((t ≡ true) × (a ≤ b)) ⊎ ((t ≡ false) × (b < a)) → t ≡ false
    tells t (inl (is, low)) = absurd (omega (arith, low, h))
    tells t (inr (is, high)) = is

past-short : (rest : PlainPayload → Result PlainPayload Unread) (p : PlainPayload) (n : ℕ) (found : Option ℕ) → found ≡ Some n → (length p.bytes < n) ⊎ (p.size < n)
    → past rest p found ≡ Err Malformed
past-short rest p n found is (inl few) =
    ap (λ (o : Option ℕ). past rest p o) is
    ∙ shut_first (nat_le n (length p.bytes)) (nat_le n p.size) (rest (after_header n p)) (Err Malformed) (not_le n (length p.bytes) few)
past-short rest p n found is (inr few) =
    ap (λ (o : Option ℕ). past rest p o) is
    ∙ shut_second (nat_le n (length p.bytes)) (nat_le n p.size) (rest (after_header n p)) (Err Malformed) (not_le n p.size few)

-- ---- what is left

extended-more : (most : ℕ) (p : PlainPayload) (n : ℕ) → extension_length p ≡ Some n → 8 ≤ n → n ≤ length p.bytes → n ≤ p.size → length p.bytes ≤ most → (less : ℕ)
    → most ≡ suc less → extended most p ≡ extended less (after_header n p)
extended-more most p n is some there within enough less one_less =
    ap (λ (m : ℕ). extended m p) one_less ∙ past-header (λ (q : PlainPayload). extended less q) p n (extension_length p) is there within

pub IsLeft-more : (whole p : PlainPayload) (n : ℕ) → IsLeft whole p → extension_length p ≡ Some n → 8 ≤ n → n ≤ length p.bytes → n ≤ p.size → IsLeft whole (after_header n p)
IsLeft-more whole p n left is some there within =
    let all = left.enough in
    record {
      most = left.most - 1;
      enough = omega (arith, all, length-drop n p.bytes, some, there);
      same = left.same ∙ extended-more left.most p n is some there within all (left.most - 1) (omega (arith, all, some, there));
    }

pub IsLeft-none : (whole p : PlainPayload) → IsLeft whole p → extension_length p ≡ None → extended (length whole.bytes) whole ≡ Ok p
IsLeft-none whole p left is = left.same ∙ none left.most
  where
    none : (most : ℕ) → extended most p ≡ Ok p
    none zero = past-none (λ (q : PlainPayload). Err Malformed) p (extension_length p) is
    none (suc most) = past-none (λ (q : PlainPayload). extended most q) p (extension_length p) is

pub IsLeft-short : (whole p : PlainPayload) (n : ℕ) → IsLeft whole p → extension_length p ≡ Some n → (length p.bytes < n) ⊎ (p.size < n)
    → extended (length whole.bytes) whole ≡ Err Malformed
IsLeft-short whole p n left is few = left.same ∙ short left.most
  where
    short : (most : ℕ) → extended most p ≡ Err Malformed
    short zero = past-short (λ (q : PlainPayload). Err Malformed) p n (extension_length p) is few
    short (suc most) = past-short (λ (q : PlainPayload). extended most q) p n (extension_length p) is few
