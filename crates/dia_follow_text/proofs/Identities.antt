-- An Origin-Host, by a test.
use Rattle.std.proofs.Common.{◌≡◌, ◌==◌, ◌&&◌, ℕ, suc, not, Bool, true, false, List, [], ◌∷◌, length, refl, sym, ap, ◌∙◌, arith}
use Rattle.std.proofs.Math.Dec.{eqb-suc-zero}
use Rattle.std.proofs.lemmas.Bool.{not_from_false}
use Rattle.std.specs.Prelude.{if◌then◌else◌}
use Rattle.std.specs.List.{list_all}
use Rattle.std.proofs.lemmas.List.Elements.{All-weaker}
use Rattle.std.proofs.lemmas.List.Sums.{AllPass-from_list_all, list_all-from_AllPass}
use Rattle.dia_data.specs.Leaf.{IsGraphic, IsIdentity}
use Rattle.dia_data.specs.Plain.{DiameterIdentity}
use Rattle.dia_data.specs.Shown.{IsValueText, hexadecimal, quoted}
use Rattle.dia_follow_text.specs.Hosts.{identity_text, is_graphic, is_identity}

graphic : (byte : ℕ) → is_graphic byte ≡ true → IsGraphic byte
graphic byte is = grind arith

is_so : (byte : ℕ) → IsGraphic byte → is_graphic byte ≡ true
is_so byte is = grind arith

some : (n : ℕ) → not (suc n == 0) ≡ true
some n = not_from_false (suc n == 0) (eqb-suc-zero n)

by_bytes : (b : ℕ) (bs : List ℕ) → is_identity (b ∷ bs) ≡ list_all is_graphic (b ∷ bs)
by_bytes b bs = ap (λ (x : Bool). x && list_all is_graphic (b ∷ bs)) (some (length bs))

identity : (host : List ℕ) → is_identity host ≡ true → IsIdentity host
identity [] is = absurd (grind arith)
identity (b ∷ bs) is = (omega arith, All-weaker (λ x. is_graphic x ≡ true) IsGraphic graphic (b ∷ bs) (AllPass-from_list_all is_graphic (b ∷ bs) (sym (by_bytes b bs) ∙ is)))

is_one : (host : List ℕ) → IsIdentity host → is_identity host ≡ true
is_one [] is = absurd (omega (arith, is.0))
is_one (b ∷ bs) is = by_bytes b bs ∙ list_all-from_AllPass is_graphic (b ∷ bs) (All-weaker IsGraphic (λ x. is_graphic x ≡ true) is_so (b ∷ bs) is.1)

by_test : (host text : List ℕ) (is : Bool) → is_identity host ≡ is → IsValueText DiameterIdentity host text → text ≡ (if is then quoted host else hexadecimal host)
by_test host text true e v = v.accepted (identity host e)
by_test host text false e v = v.refused (λ is. let t : true ≡ false = sym (is_one host is) ∙ e in cc)

-- the text that `show` prints
pub identity_shown : (host text : List ℕ) → IsValueText DiameterIdentity host text → text ≡ identity_text host
identity_shown host text v = by_test host text (is_identity host) refl v
