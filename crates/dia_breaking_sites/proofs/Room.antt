-- The AVPs of a level take as many bytes as the level has.
use Rattle.std.proofs.Common.{◌≡◌, ℕ, ◌+◌, ◌≤◌, List, [], ◌∷◌, length, ap, ◌∙◌, arith}
use Rattle.std.specs.Prelude.{sum_by}
use Rattle.std.proofs.lemmas.List.{length-append}
use Rattle.std.proofs.lemmas.List.Sums.{sum_by-cons}
use Rattle.dia_wire.specs.Wire.{PlainAvp, SpellsAll, padded_length}
use Rattle.dia_wire.proofs.Spelling.{opened}
use Rattle.dia_book.specs.declared.DRule.{DRule}
use Rattle.dia_book.specs.Dictionary.{Dictionary}
use Rattle.dia_terms.specs.declared.sends.Sends.{Sends}
use Rattle.dia_breaking_sites.specs.Sites.{IsLevelOf}

size : (avps : List PlainAvp) (bytes : List ℕ) → SpellsAll avps bytes → sum_by padded_length avps ≡ length bytes
size [] bytes h = let e : length bytes ≡ 0 = ap length h in omega (arith, e)
size (v ∷ avps) bytes (front, rest, s, parts, later) =
    let first : length front ≡ padded_length v = (opened v front [] s).front_length in
    let whole : length bytes ≡ length front + length rest = ap length parts ∙ length-append front rest in
    omega (arith, first, whole, size avps rest later, sum_by-cons padded_length v avps)

pub keeps : (da : Dictionary) (who : Sends) (rules : List DRule) (room : ℕ) (avps : List PlainAvp) → IsLevelOf da who rules room avps → sum_by padded_length avps ≤ room
keeps da who rules room avps l = omega (arith, size avps l.bytes l.spelled, l.has_room)
