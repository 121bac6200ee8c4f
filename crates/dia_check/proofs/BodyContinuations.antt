-- How a stream goes on in a body, whatever follows what was read.
use Rattle.std.proofs.Common.{◌≡◌, ℕ, ◌-◌, ◌<◌, ◌≤◌, List, [], ◌∷◌, ◌++◌, length, map, refl, sym, ap, ◌∙◌, arith}
use Rattle.std.proofs.Math.Logic.{∥∥₁_elim, ∥∥₁_map}
use Rattle.std.specs.Prelude.{◌^◌}
use Rattle.std.specs.Coded.{le_prop}
use Rattle.std.proofs.lemmas.List.{length-append}
use Rattle.dia_wire.specs.Wire.{avp_length, BeginsWithNone}
use Rattle.dia_wire.proofs.Spelling.{rounded-le, at_least_8}
use Rattle.dia_book.specs.Dictionary.{Dictionary, IsDictionary, definitions}
use Rattle.dia_terms.specs.declared.Unknown.{Unknown}
use Rattle.dia_terms.specs.declared.Levels.{Levels}
use Rattle.dia_check.specs.declared.open_levels.OpenLevels.{OpenLevels}
use Rattle.dia_check.specs.Levels.{Level, IsOpen}
use Rattle.dia_check.specs.Levels as levels
use Rattle.dia_check.specs.Faults.{HasGoodHeader}
use Rattle.dia_check.specs.OpenLevels.{SoFar, AreOpen, AreOpenUnder}
use Rattle.dia_check.specs.UnderWay.{so_far, IsUnderWay}
use Rattle.dia_check.specs.Reading.{AreSound}
use Rattle.dia_check.proofs.FoundFaultsStand.{length-between}
use Rattle.dia_check.proofs.FirstFaults.{begun_room}
use Rattle.dia_check.proofs.KeptLevels.{kept_many}
use Rattle.dia_check.proofs.UnderWay.{deep, last, place, left}

-- ---- what is known of sound levels, whatever the message

module _ (d : Dictionary) (sound : IsDictionary d) (o : OpenLevels) (at : ℕ) (levels : ∥ AreSound d o at ∥₁) where
  pub at_within : at ≤ o.innermost.end
  at_within = ∥∥₁_elim levels le_prop (λ x. let (u, most, bytes, good, few, w) = x in (place d sound u most bytes good o at w).0)

  pub end_few : o.innermost.end < 2 ^ 32
  end_few = ∥∥₁_elim levels le_prop (λ x. let (u, most, bytes, good, few, w) = x in let p = (place d sound u most bytes good o at w).1 in omega (arith, p, few))

  pub are_open : ∥ ((outer : List SoFar) × (level : SoFar) × AreOpenUnder d o outer level) ∥₁
  are_open = ∥∥₁_map levels (λ x. let (u, most, bytes, good, few, w) = x in (map so_far w.rests, so_far w.s, w.occurs))

-- ---- one message

body_end : (d : Dictionary) (most : Levels) (bytes : List ℕ) (l : Level) → IsOpen d most bytes l → l.depth ≡ 0 → l.end ≡ length bytes
body_end d most bytes l (levels.body c command is) depth = refl
body_end d most bytes l (levels.group p e v start g op m is may) depth = absurd (omega (arith, depth))

module _ (d : Dictionary) (sound : IsDictionary d) (u : Unknown) (most : Levels)
    (bytes : List ℕ) (good : HasGoodHeader d bytes) (o : OpenLevels) (at : ℕ) (w : IsUnderWay d u most bytes good o at) where
  pub size_left : length w.s.bytes ≡ o.innermost.end - at
  size_left = let p = place d sound u most bytes good o at w in sym (ap length (left d sound u most bytes good o at w)) ∙ length-between bytes at o.innermost.end p.0 p.1

  pub too_few : o.innermost.end - at < 8 → BeginsWithNone w.s.bytes
  too_few few v rest begins = let room = begun_room d u most w.s v rest begins in let head = at_least_8 v.vendor in omega (arith, few, room, size_left, rounded-le (avp_length v), head)

  pub all_read : at ≡ o.innermost.end → w.s.bytes ≡ []
  all_read is = by w.s.bytes (let e = size_left in omega (arith, e, is))
    where
      by : (xs : List ℕ) → length xs ≡ 0 → xs ≡ []
      by [] e = refl
      by (x ∷ xs) e = absurd (omega (arith, e))

  -- after the outermost level nothing of the message is left
  pub all_reached : w.s.bytes ≡ [] → map so_far w.rests ≡ [] → at ≡ length bytes
  all_reached none alone =
      let l = (last d sound u most bytes good o at w).1.lies in
      let depth : w.s.level.depth ≡ 0 = sym (deep d sound u most bytes good o at w) ∙ ap length alone in
      let end = body_end d most bytes w.s.level l.open_level depth in
      let size = l.size in let empty = ap length none in let here = w.here in
      omega (arith, size, empty, here, end)

  pub fewer : (next : OpenLevels) (others : List SoFar) (level : SoFar) → map so_far w.rests ≡ others ++ level ∷ [] → AreOpen (definitions d) next others level
      → length next.outer.items < length o.outer.items
  fewer next others level is now =
      let old = kept_many (definitions d) 0 o.outer.items w.occurs.before (map so_far w.rests) w.occurs.are_outer in
      let new = kept_many (definitions d) 0 next.outer.items now.before others now.are_outer in
      let size = ap length is ∙ length-append others (level ∷ []) in
      omega (arith, old, new, size)
