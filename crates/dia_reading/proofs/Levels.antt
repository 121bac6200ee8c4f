-- The AVPs of a level.
use Rattle.std.proofs.Common.{◌≡◌, ℕ, ◌+◌, ◌<◌, List, [], ◌∷◌, ◌++◌, length, refl, sym, ap, subst, ◌∙◌, arith}
use Rattle.std.specs.Prelude.{◌↔◌}
use Rattle.std.proofs.lemmas.List.{append_cancel_left, length-append}
use Rattle.dia_wire.specs.Wire.{PlainAvp, BeginsWith, BeginsWithNone, SpellsAll, avp_length}
use Rattle.dia_wire.proofs.Spelling.{one_spelling, opened, rounded-le, at_least_8}
use Rattle.dia_reading.specs.Messages.{AreAvps}

-- what follows an AVP is shorter than the level
pub shorter : (v : PlainAvp) (level rest : List ℕ) → BeginsWith v level rest → length rest < length level
shorter v level rest (front, s, p) =
    let o = opened v front rest s in
    let whole : length level ≡ length front + length rest = ap length p ∙ length-append front rest in
    omega (arith, whole, o.front_length, rounded-le (avp_length v), at_least_8 v.vendor)

one_rest : (level : List ℕ) (v w : PlainAvp) (rest more : List ℕ) → BeginsWith v level rest → BeginsWith w level more → rest ≡ more
one_rest level v w rest more (a, s, p) (b, t, q) =
    let o = one_spelling v w a b rest more s t (sym p ∙ q) in
    append_cancel_left a rest more (sym p ∙ q ∙ ap (λ (f : List ℕ). f ++ more) (sym o.1))

-- a level is AVPs if what follows the first one is
pub avps_behind : (v : PlainAvp) (level rest : List ℕ) → BeginsWith v level rest → AreAvps level ↔ AreAvps rest
avps_behind v level rest begins = (behind, before)
  where
    behind : AreAvps level → AreAvps rest
    behind ([], none) = absurd (omega (arith, shorter v level rest begins, ap length none))
    behind (w ∷ ws, (front, more, s, p, all)) = (ws, subst (SpellsAll ws) (sym (one_rest level v w rest more begins (front, s, p))) all)

    before : AreAvps rest → AreAvps level
    before (ws, all) = (v ∷ ws, (begins.0, rest, begins.1, begins.2, all))

-- no AVP at the front
pub no_avps : (level : List ℕ) → 0 < length level → BeginsWithNone level → ¬ AreAvps level
no_avps level some none ([], is) = absurd (omega (arith, some, ap length is))
no_avps level some none (v ∷ vs, (front, rest, s, p, all)) = none v rest (front, s, p)

-- an empty level
pub nothing : (level : List ℕ) → length level ≡ 0 → AreAvps level
nothing [] empty = ([], refl)
nothing (x ∷ xs) empty = absurd (omega (arith, empty))
