-- What `==` of subjects is.
use Rattle.std.proofs.Common.{◌≡◌, Bool, true, false, refl, ap, ◌∙◌}
use Rattle.std.specs.Prelude.{◌==◌, ◌&&◌}
use Rattle.std.proofs.Math.Path.{fun_ext}
use Rattle.dia_differences.specs.declared.lines.AvpField.{AvpField}
use Rattle.dia_differences.specs.declared.lines.AvpField.TheVariants as avps
use Rattle.dia_differences.specs.declared.lines.HeadField.{HeadField}
use Rattle.dia_differences.specs.declared.lines.HeadField.TheVariants as heads
use Rattle.dia_differences.specs.declared.lines.RulePlace.{RulePlace}
use Rattle.dia_differences.specs.declared.owner.Owner.{Owner}
use Rattle.dia_differences.specs.declared.owner.Owner.TheVariants as owners
use Rattle.dia_differences.specs.declared.sides.Side.{Side}
use Rattle.dia_differences.specs.declared.sides.Side.TheVariants as sides
use Rattle.dia_diff.specs.declared.subjects.Subject.{Subject}
use Rattle.dia_diff.specs.declared.subjects.Subject.TheVariants.{Avp, AloneAvp, AvpField as FieldOfAvp, Command, HeadField as FieldOfHead, Rule, Rules}
use Rattle.dia_diff.specs.Subjects.{same_avp_field, same_head_field, same_owner, same_rule, same_side, same_subject}
use Rattle.dia_differences.specs.contracts.lines.AvpFieldPartialEq.TheImpl as avp_field
use Rattle.dia_differences.specs.contracts.lines.HeadFieldPartialEq.TheImpl as head_field
use Rattle.dia_differences.specs.contracts.owner.OwnerPartialEq.TheImpl as owner
use Rattle.dia_differences.specs.contracts.lines.RulePlacePartialEq.TheImpl as rule_place
use Rattle.dia_differences.specs.contracts.sides.SidePartialEq.TheImpl as side
use Rattle.dia_diff.specs.contracts.subjects.SubjectPartialEq.TheImpl as subject

side_is : (x y : Side) → side.ghosts.eq x y ≡ same_side x y
side_is sides.First sides.First = refl
side_is sides.Second sides.Second = refl
side_is x y = refl

avp_field_is : (x y : AvpField) → avp_field.ghosts.eq x y ≡ same_avp_field x y
avp_field_is avps.Name avps.Name = refl
avp_field_is avps.Code avps.Code = refl
avp_field_is avps.Vendor avps.Vendor = refl
avp_field_is avps.Format avps.Format = refl
avp_field_is avps.MRule avps.MRule = refl
avp_field_is x y = refl

head_field_is : (x y : HeadField) → head_field.ghosts.eq x y ≡ same_head_field x y
head_field_is heads.Name heads.Name = refl
head_field_is heads.Code heads.Code = refl
head_field_is heads.Class heads.Class = refl
head_field_is heads.Application heads.Application = refl
head_field_is heads.Proxiable heads.Proxiable = refl
head_field_is x y = refl

owner_is : (x y : Owner) → owner.ghosts.eq x y ≡ same_owner x y
owner_is (owners.Avp i) (owners.Avp j) = refl
owner_is (owners.Command i) (owners.Command j) = refl
owner_is x y = refl

rule_is : (p q : RulePlace) → rule_place.ghosts.eq p q ≡ same_rule p q
rule_is p q = ap (λ (b : Bool). b && (p.rule == q.rule)) (owner_is p.of q.of)

and_three : (a b c : Bool) → (a && (b && c)) ≡ ((a && b) && c)
and_three true b c = refl
and_three false b c = refl

pub is_same : (x y : Subject) → subject.ghosts.eq x y ≡ same_subject x y
is_same (Avp s i) (Avp t j) = ap (λ (b : Bool). b && (i == j)) (side_is s t)
is_same (AloneAvp s i) (AloneAvp t j) = ap (λ (b : Bool). b && (i == j)) (side_is s t)
is_same (FieldOfAvp s i f) (FieldOfAvp t j g) =
    ap (λ (b : Bool). b && ((i == j) && avp_field.ghosts.eq f g)) (side_is s t) ∙ ap (λ (b : Bool). same_side s t && ((i == j) && b)) (avp_field_is f g) ∙ and_three (same_side s t) (i == j) (same_avp_field f g)
is_same (Command s i) (Command t j) = ap (λ (b : Bool). b && (i == j)) (side_is s t)
is_same (FieldOfHead s i f) (FieldOfHead t j g) =
    ap (λ (b : Bool). b && ((i == j) && head_field.ghosts.eq f g)) (side_is s t) ∙ ap (λ (b : Bool). same_side s t && ((i == j) && b)) (head_field_is f g) ∙ and_three (same_side s t) (i == j) (same_head_field f g)
is_same (Rule s p) (Rule t q) = ap (λ (b : Bool). b && rule_place.ghosts.eq p q) (side_is s t) ∙ ap (λ (b : Bool). same_side s t && b) (rule_is p q)
is_same (Rules s o) (Rules t p) = ap (λ (b : Bool). b && owner.ghosts.eq o p) (side_is s t) ∙ ap (λ (b : Bool). same_side s t && b) (owner_is o p)
is_same x y = refl

pub same_test : subject.ghosts.eq ≡ same_subject
same_test = fun_ext (λ x. fun_ext (is_same x))
