-- Selectors that are one.
use Rattle.std.proofs.Common.{◌≡◌, ℕ, Bool, true, false, Option, Some, None, refl, ap, nat_eq}
use Rattle.std.specs.Prelude.{◌==◌, ◌&&◌}
use Rattle.std.specs.Option.{option_eq}
use Rattle.std.specs.Cmp.{bool_eq_equiv}
use Rattle.std.proofs.lemmas.Cmp.{nat_eq_equiv}
use Rattle.std.proofs.lemmas.Bool.{and_parts, eqb-true}
use Rattle.dia_dict.specs.declared.selectors.Selector.{Selector}
use Rattle.dia_dict.specs.declared.selectors.Selector.TheVariants as selectors
use Rattle.dia_dict.specs.contracts.selectors.SelectorPartialEq.TheImpl as selector_eq

-- what `==` answers
abbrev pub same_selector : Selector → Selector → Bool
same_selector = (selector_eq.eq-value).it

option_eq-true : (a b : Option ℕ) → option_eq nat_eq a b ≡ true → a ≡ b
option_eq-true None None e = refl
option_eq-true (Some m) (Some n) e = ap (λ (k : ℕ). Some k) (eqb-true m n e)
option_eq-true None (Some n) e = absurd (let f : false ≡ true = e in cc)
option_eq-true (Some m) None e = absurd (let f : false ≡ true = e in cc)

pub same_selector-true : (a b : Selector) → same_selector a b ≡ true → a ≡ b
same_selector-true (selectors.Command c true a) (selectors.Command d true b) e =
    let r = and_parts (c == d) (true && option_eq nat_eq a b) e in (λ i. selectors.Command (eqb-true c d r.0 i) true (option_eq-true a b r.1 i))
same_selector-true (selectors.Command c false a) (selectors.Command d false b) e =
    let r = and_parts (c == d) (true && option_eq nat_eq a b) e in (λ i. selectors.Command (eqb-true c d r.0 i) false (option_eq-true a b r.1 i))
same_selector-true (selectors.Command c true a) (selectors.Command d false b) e =
    let r = and_parts (c == d) (false && option_eq nat_eq a b) e in absurd (let f : false ≡ true = r.1 in cc)
same_selector-true (selectors.Command c false a) (selectors.Command d true b) e =
    let r = and_parts (c == d) (false && option_eq nat_eq a b) e in absurd (let f : false ≡ true = r.1 in cc)
same_selector-true (selectors.Command c r a) selectors.Error e = absurd (let f : false ≡ true = e in cc)
same_selector-true selectors.Error (selectors.Command d q b) e = absurd (let f : false ≡ true = e in cc)
same_selector-true selectors.Error selectors.Error e = refl

option_eq-symm : (a b : Option ℕ) → option_eq nat_eq a b ≡ option_eq nat_eq b a
option_eq-symm None None = refl
option_eq-symm (Some m) (Some n) = nat_eq_equiv.symm m n
option_eq-symm None (Some n) = refl
option_eq-symm (Some m) None = refl

pub same_selector-symm : (a b : Selector) → same_selector a b ≡ same_selector b a
same_selector-symm (selectors.Command c r a) (selectors.Command d q b) = λ i. nat_eq_equiv.symm c d i && (bool_eq_equiv.symm r q i && option_eq-symm a b i)
same_selector-symm (selectors.Command c r a) selectors.Error = refl
same_selector-symm selectors.Error (selectors.Command d q b) = refl
same_selector-symm selectors.Error selectors.Error = refl
