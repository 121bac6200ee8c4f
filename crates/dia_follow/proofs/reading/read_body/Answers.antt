use Rattle.std.proofs.Common.{◌≡◌, ℕ, ◌==◌, ◌-◌, ◌<◌, ◌≤◌, true, false, List, [], ◌∷◌, length, drop, refl, sym, ap, subst, eqb-true, length-append, arith}
use Rattle.std.proofs.lemmas.List.{length-take}
use Rattle.dia_wire.specs.Wire.{PlainAvp}
use Rattle.dia_follow.specs.Fronts.{IsFront}
use Rattle.dia_follow.specs.Reading.{body_bytes}
use Rattle.dia_follow.proofs.reading.read_body.Goals as goal

none_left : (xs : List ℕ) → true ≡ (length xs == 0) → xs ≡ []
none_left [] is = refl
none_left (x ∷ xs) is = absurd (omega (arith, eqb-true (length (x ∷ xs)) 0 (sym is)))

pub returns-in_ok-contents : goal.returns-in_ok-contents
returns-in_ok-contents c =
    let (avps, front) = c.after_avps-left.ensures in
    let left = c.after_avps-left.result.now in
    (omega arith, (avps, subst (λ (xs : List ℕ). IsFront avps (body_bytes c.args.bytes.now c.args.length) xs) (none_left left c.if-is_empty.ensures) front, c.in_ok-contents.ensures avps left front))

some_left : (xs : List ℕ) → false ≡ (length xs == 0) → 0 < length xs
some_left [] is = absurd (let f : false ≡ true = is in cc)
some_left (x ∷ xs) is = omega arith

-- what is left of a body is no longer than the message
fits : (bytes : List ℕ) (n : ℕ) (avps : List PlainAvp) (left : List ℕ) → IsFront avps (body_bytes bytes n) left → length left ≤ n
fits bytes n avps left front = omega (arith, ap length front.parts, length-append front.front left, length-take (n - 20) (drop 20 bytes))

pub returns-else-is_empty : goal.returns-else-is_empty
returns-else-is_empty c =
    let (avps, front) = c.after_avps-left.ensures in
    let left = c.after_avps-left.result.now in
    let all : c.args.length ≤ length c.args.bytes.now = omega arith in
    (all, (avps, left, front, some_left left c.if-is_empty.ensures, (let f = fits c.args.bytes.now c.args.length avps left front in omega (arith, f))))
