-- A level that is gone through AVP by AVP.
use Rattle.std.proofs.Common.{◌≡◌, ℕ, ◌<◌, Bool, true, false, List, [], ◌∷◌, ◌++◌, length, Some, None, Result, Ok, Err, refl, sym, ap, subst, ◌∙◌, append_assoc, append-nil, arith}
use Rattle.std.proofs.lemmas.List.{append_cancel_left, length-append}
use Rattle.dia_wire.specs.declared.avp.Avp.{Avp}
use Rattle.dia_wire.specs.declared.avp.AvpFault.{AvpFault}
use Rattle.dia_wire.specs.Level.{StepsAvp}
use Rattle.dia_wire.specs.Wire.{PlainAvp, plain_avp, avp_length, Spells, SpellsAll, BeginsWith, BeginsWithNone}
use Rattle.dia_wire.proofs.Spelling.{opened, rounded-le, at_least_8, one_spelling}
use Rattle.std.specs.Prelude.{if◌then◌else◌, option_map}
use Rattle.std.specs.List.{find}
use Rattle.dia_follow.specs.Fronts.{IsFront, is_avp, first_data}

-- what follows the first AVP is shorter
pub shorter : (v : PlainAvp) (level rest : List ℕ) → BeginsWith v level rest → length rest < length level
shorter v level rest (front, s, parts) =
    let o = opened v front [] s in
    let long : 0 < length front = omega (arith, o.front_length, rounded-le (avp_length v), at_least_8 v.vendor) in
    omega (arith, long, ap length parts, length-append front rest)

pub none_in_nothing : (level : List ℕ) → level ≡ [] → BeginsWithNone level
none_in_nothing level is v rest b = let h = shorter v level rest b in absurd (omega (arith, h, ap length is))

-- the first AVP of a level is the first of those at its front
pub front_first : (vs : List PlainAvp) (v : PlainAvp) (level following left : List ℕ) → IsFront vs level left → BeginsWith v level following → (more : List PlainAvp) × (vs ≡ v ∷ more) × IsFront more following left
front_first [] v level following left f b =
    absurd (f.ends v following (subst (λ (x : List ℕ). BeginsWith v x following) (f.parts ∙ ap (λ (x : List ℕ). x ++ left) f.spells) b))
front_first (w ∷ ws) v level following left f (head, t, also) =
    let (a, rest, s, parts, all) = f.spells in
    let whole : level ≡ a ++ (rest ++ left) = f.parts ∙ ap (λ (x : List ℕ). x ++ left) parts ∙ append_assoc a rest left in
    let o = one_spelling w v a head (rest ++ left) following s t (sym whole ∙ also) in
    let same : rest ++ left ≡ following = append_cancel_left a (rest ++ left) following (sym whole ∙ also ∙ ap (λ (z : List ℕ). z ++ following) (sym o.1)) in
    (ws, (λ i. o.0 i ∷ ws), record { front = rest; spells = all; parts = sym same; ends = f.ends })

-- a level that begins with none has none at its front
pub front_none : (vs : List PlainAvp) (level left : List ℕ) → IsFront vs level left → BeginsWithNone level → vs ≡ []
front_none [] level left f none = refl
front_none (v ∷ vs) level left f none =
    let (a, rest, s, parts, all) = f.spells in
    absurd (none v (rest ++ left) (a, s, f.parts ∙ ap (λ (x : List ℕ). x ++ left) parts ∙ append_assoc a rest left))

-- ---- the steps of an iterator over a level

pub goes_on : (level left : List ℕ) (found : Result Avp AvpFault) (avp : Avp) → StepsAvp level (Some found) left → found ≡ Ok avp → BeginsWith (plain_avp avp) level left
goes_on level left found avp steps is = subst (λ (f : Result Avp AvpFault). StepsAvp level (Some f) left) is steps

pub ends_at_fault : (level left : List ℕ) (found : Result Avp AvpFault) (fault : AvpFault) → StepsAvp level (Some found) left → found ≡ Err fault → BeginsWithNone level
ends_at_fault level left found fault steps is = (subst (λ (f : Result Avp AvpFault). StepsAvp level (Some f) left) is steps).1

pub ends : (level left : List ℕ) → StepsAvp level None left → BeginsWithNone level
ends level left steps = none_in_nothing level steps.0

-- ---- AVPs that were passed

pub record IsPassed (level left : List ℕ) : Type 0 where
  pub avps : List PlainAvp
  pub front : List ℕ
  pub spells : SpellsAll avps front
  pub parts : level ≡ front ++ left

pub passed_none : (level : List ℕ) → IsPassed level level
passed_none level = record { avps = []; front = []; spells = refl; parts = refl }

more_avps : (vs : List PlainAvp) (v : PlainAvp) (a b : List ℕ) → SpellsAll vs a → Spells v b → SpellsAll (vs ++ (v ∷ [])) (a ++ b)
more_avps [] v a b none s = subst (λ (t : List ℕ). SpellsAll (v ∷ []) (t ++ b)) (sym none) (b, [], s, sym (append-nil b), refl)
more_avps (w ∷ vs) v a b (front, rest, t, parts, all) s =
    (front, rest ++ b, t, ap (λ (x : List ℕ). x ++ b) parts ∙ append_assoc front rest b, more_avps vs v rest b all s)

pub passed_more : (level left following : List ℕ) (v : PlainAvp) → IsPassed level left → BeginsWith v left following → IsPassed level following
passed_more level left following v p (front, s, parts) = record {
  avps = p.avps ++ (v ∷ []);
  front = p.front ++ front;
  spells = more_avps p.avps v p.front front p.spells s;
  parts = p.parts ∙ ap (λ (x : List ℕ). p.front ++ x) parts ∙ sym (append_assoc p.front front following);
}

pub passed_all : (level left : List ℕ) → IsPassed level left → BeginsWithNone left → (avps : List PlainAvp) × IsFront avps level left
passed_all level left p none = (p.avps, record { front = p.front; spells = p.spells; parts = p.parts; ends = none })

-- ---- a value of all AVPs, of which some were passed

pub record Walked {X : Type 0} (whole : X) (f : List PlainAvp → X) (level left : List ℕ) : Type 0 where
  pub now : List PlainAvp
  pub front : IsFront now level left
  pub same : whole ≡ f now

module _ {X : Type 0} (whole : X) (f : List PlainAvp → X) (level left : List ℕ) where
  pub walk_on : (g : List PlainAvp → X) (v : PlainAvp) (following : List ℕ) → Walked whole f level left → BeginsWith v level following → ((more : List PlainAvp) → f (v ∷ more) ≡ g more) → Walked whole g following left
  walk_on g v following w b step =
      let (more, is, front) = front_first w.now v level following left w.front b in
      record { now = more; front = front; same = w.same ∙ ap f is ∙ step more }

  pub walk_found : (v : PlainAvp) (following : List ℕ) → Walked whole f level left → BeginsWith v level following → (more : List PlainAvp) × (whole ≡ f (v ∷ more))
  walk_found v following w b = let (more, is, front) = front_first w.now v level following left w.front b in (more, w.same ∙ ap f is)

  pub walk_end : Walked whole f level left → BeginsWithNone level → whole ≡ f []
  walk_end w none = w.same ∙ ap f (front_none w.now level left w.front none)

-- ---- the first of a code

pub first_here : (code : ℕ) (v : PlainAvp) (more : List PlainAvp) → true ≡ is_avp code v → first_data code (v ∷ more) ≡ Some v.bytes
first_here code v more is = ap (λ (b : Bool). option_map (λ (w : PlainAvp). w.bytes) (if b then Some v else find (is_avp code) more)) (sym is)

pub first_after : (code : ℕ) (v : PlainAvp) (more : List PlainAvp) → false ≡ is_avp code v → first_data code (v ∷ more) ≡ first_data code more
first_after code v more is = ap (λ (b : Bool). option_map (λ (w : PlainAvp). w.bytes) (if b then Some v else find (is_avp code) more)) (sym is)
