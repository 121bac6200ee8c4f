-- The tests by which lines have one cause are equivalences.
use Rattle.std.proofs.Common.{◌≡◌, Bool, true, false, refl}
use Rattle.std.specs.Prelude.{◌&&◌, ◌||◌, nat_eq}
use Rattle.std.specs.Cmp.{IsEquivalence}
use Rattle.std.proofs.lemmas.Cmp.{nat_eq_equiv, nat_list_eq_equiv}
use Rattle.dia_accepted.specs.Causes.{same_cause, same_cause_of_command}
use Rattle.dia_accepted.specs.Words.{cause_text}

both_true : (a b : Bool) → a ≡ true → b ≡ true → (a && b) ≡ true
both_true a b e f = λ i. (e i && f i)

each_true : (a b : Bool) → (a && b) ≡ true → (a ≡ true) × (b ≡ true)
each_true true b e = (refl, e)
each_true false b e = absurd (let z : false ≡ true = e in cc)

pub either_way : (a b : Bool) → (a || b) ≡ (b || a)
either_way true true = refl
either_way true false = refl
either_way false true = refl
either_way false false = refl

pub cause_laws : IsEquivalence same_cause
cause_laws = record {
  refl = λ x. nat_list_eq_equiv.refl (cause_text x.words);
  symm = λ x y. nat_list_eq_equiv.symm (cause_text x.words) (cause_text y.words);
  congr = λ x y z. nat_list_eq_equiv.congr (cause_text x.words) (cause_text y.words) (cause_text z.words);
}

pub command_laws : IsEquivalence same_cause_of_command
command_laws = record {
  refl = λ x. both_true (nat_eq x.command x.command) (same_cause x x) (nat_eq_equiv.refl x.command) (cause_laws.refl x);
  symm = λ x y. (λ i. (nat_eq_equiv.symm x.command y.command i && cause_laws.symm x y i));
  congr = λ x y z e. (let p = each_true (nat_eq x.command y.command) (same_cause x y) e in
      λ i. (nat_eq_equiv.congr x.command y.command z.command p.0 i && cause_laws.congr x y z p.1 i));
}
