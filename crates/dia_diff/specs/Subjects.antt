-- What differences are about.
use Rattle.std.specs.Prelude.{◌==◌, Bool, true, false, ◌&&◌, List, [], ◌∷◌}
use Rattle.dia_differences.specs.declared.lines.AvpField.{AvpField}
use Rattle.dia_differences.specs.declared.lines.AvpField.TheVariants as avps
use Rattle.dia_differences.specs.declared.lines.HeadField.{HeadField}
use Rattle.dia_differences.specs.declared.lines.HeadField.TheVariants as heads
use Rattle.dia_differences.specs.declared.lines.RulePlace.{RulePlace}
use Rattle.dia_differences.specs.declared.lines.What.{What}
use Rattle.dia_differences.specs.declared.lines.What.TheVariants as kinds
use Rattle.dia_differences.specs.declared.owner.Owner.{Owner}
use Rattle.dia_differences.specs.declared.owner.Owner.TheVariants as owners
use Rattle.dia_differences.specs.declared.sides.Side.{Side}
use Rattle.dia_differences.specs.declared.sides.Side.TheVariants as sides
use Rattle.dia_diff.specs.declared.subjects.Subject.{Subject}
use Rattle.dia_diff.specs.declared.subjects.Subject.TheVariants.{Avp, AloneAvp, AvpField as FieldOfAvp, Command, HeadField as FieldOfHead, Rule, Rules}

-- a difference is about these: an AVP or a command as a whole, what of it differs, and a rule and its definition
abbrev pub subjects : What → List Subject
subjects (kinds.Avp side i) = Avp side i ∷ AloneAvp side i ∷ []
subjects (kinds.AvpField i j field) = Avp sides.First i ∷ Avp sides.Second j ∷ FieldOfAvp sides.First i field ∷ FieldOfAvp sides.Second j field ∷ []
subjects (kinds.Command side i) = Command side i ∷ []
subjects (kinds.HeadField i j field) = Command sides.First i ∷ Command sides.Second j ∷ FieldOfHead sides.First i field ∷ FieldOfHead sides.Second j field ∷ []
subjects (kinds.Rule side place) = Rule side place ∷ Rules side place.of ∷ []
subjects (kinds.NewRule own place) = Rule sides.Second place ∷ Rules sides.Second place.of ∷ []
subjects (kinds.RuleChange p q) = Rule sides.First p ∷ Rules sides.First p.of ∷ Rule sides.Second q ∷ Rules sides.Second q.of ∷ []

-- ---- when two are the same

abbrev pub same_side : Side → Side → Bool
same_side sides.First sides.First = true
same_side sides.Second sides.Second = true
same_side x y = false

abbrev pub same_avp_field : AvpField → AvpField → Bool
same_avp_field avps.Name avps.Name = true
same_avp_field avps.Code avps.Code = true
same_avp_field avps.Vendor avps.Vendor = true
same_avp_field avps.Format avps.Format = true
same_avp_field avps.MRule avps.MRule = true
same_avp_field x y = false

abbrev pub same_head_field : HeadField → HeadField → Bool
same_head_field heads.Name heads.Name = true
same_head_field heads.Code heads.Code = true
same_head_field heads.Class heads.Class = true
same_head_field heads.Application heads.Application = true
same_head_field heads.Proxiable heads.Proxiable = true
same_head_field x y = false

abbrev pub same_owner : Owner → Owner → Bool
same_owner (owners.Avp i) (owners.Avp j) = i == j
same_owner (owners.Command i) (owners.Command j) = i == j
same_owner x y = false

abbrev pub same_rule : RulePlace → RulePlace → Bool
same_rule p q = same_owner p.of q.of && (p.rule == q.rule)

abbrev pub same_subject : Subject → Subject → Bool
same_subject (Avp s i) (Avp t j) = same_side s t && (i == j)
same_subject (AloneAvp s i) (AloneAvp t j) = same_side s t && (i == j)
same_subject (FieldOfAvp s i f) (FieldOfAvp t j g) = (same_side s t && (i == j)) && same_avp_field f g
same_subject (Command s i) (Command t j) = same_side s t && (i == j)
same_subject (FieldOfHead s i f) (FieldOfHead t j g) = (same_side s t && (i == j)) && same_head_field f g
same_subject (Rule s p) (Rule t q) = same_side s t && same_rule p q
same_subject (Rules s o) (Rules t p) = same_side s t && same_owner o p
same_subject x y = false
