-- A subject is the same as another either way.
use Rattle.std.proofs.Common.{◌≡◌, ℕ, Bool, true, refl, sym}
use Rattle.std.specs.Prelude.{◌==◌, ◌&&◌}
use Rattle.std.proofs.lemmas.Bool.{and_parts, and_from, eqb-true, eq-eqb}
use Rattle.dia_differences.specs.declared.lines.AvpField.{AvpField}
use Rattle.dia_differences.specs.declared.lines.AvpField.TheVariants as avps
use Rattle.dia_differences.specs.declared.lines.HeadField.{HeadField}
use Rattle.dia_differences.specs.declared.lines.HeadField.TheVariants as heads
use Rattle.dia_differences.specs.declared.lines.RulePlace.{RulePlace}
use Rattle.dia_differences.specs.declared.owner.Owner.{Owner}
use Rattle.dia_differences.specs.declared.owner.Owner.TheVariants as owners
use Rattle.dia_differences.specs.declared.sides.Side.{Side}
use Rattle.dia_differences.specs.declared.sides.Side.TheVariants as sides
use Rattle.dia_diff.specs.declared.subjects.Subject.{Subject}
use Rattle.dia_diff.specs.declared.subjects.Subject.TheVariants.{Avp, AloneAvp, AvpField as FieldOfAvp, Command, HeadField as FieldOfHead, Rule, Rules}
use Rattle.dia_diff.specs.Subjects.{same_avp_field, same_head_field, same_owner, same_rule, same_side, same_subject}

number : (i j : ℕ) → (i == j) ≡ true → (j == i) ≡ true
number i j h = eq-eqb j i (sym (eqb-true i j h))

two : (a b c d : Bool) → (a ≡ true → c ≡ true) → (b ≡ true → d ≡ true) → (a && b) ≡ true → (c && d) ≡ true
two a b c d f g h = let parts = and_parts a b h in and_from c d (f parts.0) (g parts.1)

side : (x y : Side) → same_side x y ≡ true → same_side y x ≡ true
side sides.First sides.First h = refl
side sides.Second sides.Second h = refl
side x y h = absurd cc

avp_field : (x y : AvpField) → same_avp_field x y ≡ true → same_avp_field y x ≡ true
avp_field avps.Name avps.Name h = refl
avp_field avps.Code avps.Code h = refl
avp_field avps.Vendor avps.Vendor h = refl
avp_field avps.Format avps.Format h = refl
avp_field avps.MRule avps.MRule h = refl
avp_field x y h = absurd cc

head_field : (x y : HeadField) → same_head_field x y ≡ true → same_head_field y x ≡ true
head_field heads.Name heads.Name h = refl
head_field heads.Code heads.Code h = refl
head_field heads.Class heads.Class h = refl
head_field heads.Application heads.Application h = refl
head_field heads.Proxiable heads.Proxiable h = refl
head_field x y h = absurd cc

owner : (x y : Owner) → same_owner x y ≡ true → same_owner y x ≡ true
owner (owners.Avp i) (owners.Avp j) h = number i j h
owner (owners.Command i) (owners.Command j) h = number i j h
owner x y h = absurd cc

rule : (p q : RulePlace) → same_rule p q ≡ true → same_rule q p ≡ true
rule p q h = two (same_owner p.of q.of) (p.rule == q.rule) (same_owner q.of p.of) (q.rule == p.rule) (owner p.of q.of) (number p.rule q.rule) h

place : (s t : Side) (i j : ℕ) → (same_side s t && (i == j)) ≡ true → (same_side t s && (j == i)) ≡ true
place s t i j h = two (same_side s t) (i == j) (same_side t s) (j == i) (side s t) (number i j) h

pub other_way : (x y : Subject) → same_subject x y ≡ true → same_subject y x ≡ true
other_way (Avp s i) (Avp t j) h = place s t i j h
other_way (AloneAvp s i) (AloneAvp t j) h = place s t i j h
other_way (FieldOfAvp s i f) (FieldOfAvp t j g) h = two (same_side s t && (i == j)) (same_avp_field f g) (same_side t s && (j == i)) (same_avp_field g f) (place s t i j) (avp_field f g) h
other_way (Command s i) (Command t j) h = place s t i j h
other_way (FieldOfHead s i f) (FieldOfHead t j g) h = two (same_side s t && (i == j)) (same_head_field f g) (same_side t s && (j == i)) (same_head_field g f) (place s t i j) (head_field f g) h
other_way (Rule s p) (Rule t q) h = two (same_side s t) (same_rule p q) (same_side t s) (same_rule q p) (side s t) (rule p q) h
other_way (Rules s o) (Rules t p) h = two (same_side s t) (same_owner o p) (same_side t s) (same_owner p o) (side s t) (owner o p) h
other_way x y h = absurd cc
