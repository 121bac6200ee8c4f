-- The digits that the crate hex writes.
use Rattle.std.proofs.Common.{◌≡◌, ℕ, zero, suc, ◌<◌, ◌/◌, ◌%◌, List, [], ◌∷◌, ◌∙◌, slice_index, refl, arith}
use Rattle.hex.specs.Hex.{encode_lower, encode_with, lower_digits}
use Rattle.dia_data.specs.Shown.{hex_byte, hex_digit}

pub digit_is : (n : ℕ) → n < 16 → slice_index lower_digits n ≡ hex_digit n
digit_is zero small = refl
digit_is (suc zero) small = refl
digit_is (suc (suc zero)) small = refl
digit_is (suc (suc (suc zero))) small = refl
digit_is (suc (suc (suc (suc zero)))) small = refl
digit_is (suc (suc (suc (suc (suc zero))))) small = refl
digit_is (suc (suc (suc (suc (suc (suc zero)))))) small = refl
digit_is (suc (suc (suc (suc (suc (suc (suc zero))))))) small = refl
digit_is (suc (suc (suc (suc (suc (suc (suc (suc zero)))))))) small = refl
digit_is (suc (suc (suc (suc (suc (suc (suc (suc (suc zero))))))))) small = refl
digit_is (suc (suc (suc (suc (suc (suc (suc (suc (suc (suc zero)))))))))) small = refl
digit_is (suc (suc (suc (suc (suc (suc (suc (suc (suc (suc (suc zero))))))))))) small = refl
digit_is (suc (suc (suc (suc (suc (suc (suc (suc (suc (suc (suc (suc zero)))))))))))) small = refl
digit_is (suc (suc (suc (suc (suc (suc (suc (suc (suc (suc (suc (suc (suc zero))))))))))))) small = refl
digit_is (suc (suc (suc (suc (suc (suc (suc (suc (suc (suc (suc (suc (suc (suc zero)))))))))))))) small = refl
digit_is (suc (suc (suc (suc (suc (suc (suc (suc (suc (suc (suc (suc (suc (suc (suc zero))))))))))))))) small = refl
digit_is (suc (suc (suc (suc (suc (suc (suc (suc (suc (suc (suc (suc (suc (suc (suc (suc n)))))))))))))))) small = absurd (omega (arith, small))

-- what it writes of one byte
pub digits_are : (byte : ℕ) (out : List ℕ) → byte < 256 → out ≡ encode_lower (byte ∷ []) → out ≡ hex_byte byte
unfolding encode_with
digits_are byte out small is = is ∙ (λ i. digit_is (byte / 16) (omega (arith, small)) i ∷ digit_is (byte % 16) (omega arith) i ∷ [])
