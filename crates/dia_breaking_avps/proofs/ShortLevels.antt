-- Levels that are read as leaves of eight bytes.
use Rattle.std.proofs.Common.{◌≡◌, ℕ, ◌<◌, ◌≤◌, List, [], ◌∷◌, length, Option, Some, None, sym, ap, subst, arith, inl, inr}
use Rattle.std.specs.Prelude.{◌⊎◌, ◌%◌, MatchOption, option_and_then, ⊤}
use Rattle.std.proofs.lemmas.List.{length-append}
use Rattle.std.proofs.lemmas.Option.{none-some}
use Rattle.dia_wire.specs.declared.Key.{Key}
use Rattle.dia_wire.specs.Wire.{PlainAvp, SpellsAll}
use Rattle.dia_data.specs.Plain.{PlainFormat, EightBytes}
use Rattle.dia_data.specs.Leaf.{IsLeaf}
use Rattle.dia_book.specs.Dictionary.{Dictionary, DictEntry, PlainDefinition}
use Rattle.dia_terms.specs.declared.sends.Sends.{Sends}
use Rattle.dia_terms.specs.declared.sends.Sends.TheVariants.{Any}
use Rattle.dia_valid.specs.Valid.{Fits, IsLevel, known}
use Rattle.dia_valid.proofs.Members.{some_of}
use Rattle.dia_breaking_sites.specs.Sent.{IsSentLevel, IsSentWithin}
use Rattle.dia_breaking_avps.specs.Laws.{ShortLevelsAreAccepted}
use Rattle.dia_breaking_avps.specs.Levels.{HasEightBytes}
use Rattle.dia_breaking_avps.specs.Sent.{IsSentData, group_of}
use Rattle.dia_breaking_avps.proofs.FirstAvps.{level_long}

-- data of a group are a level of its rules
pub level_of : (d : Dictionary) (who : Sends) (key : Key) (bytes : List ℕ) (x : PlainDefinition) → group_of d key ≡ Some x → IsSentData d who key bytes → (n : ℕ) × IsSentLevel who (IsSentWithin d who n) x.rules bytes
level_of d who key bytes x is sent = by (known d key) is sent
  where
    IsLevelHere : PlainDefinition → Type 0
    IsLevelHere group = (n : ℕ) × IsSentLevel who (IsSentWithin d who n) group.rules bytes

    by : (o : Option DictEntry) → option_and_then (λ e. e.group) o ≡ Some x → MatchOption o (who ≡ Any) (λ e. MatchOption e.group (IsLeaf e.format bytes) IsLevelHere) → IsLevelHere x
    by None is h = absurd (none-some x is)
    by (Some e) is h = subst (λ (o : Option PlainDefinition). MatchOption o (IsLeaf e.format bytes) IsLevelHere) is h

-- the length of a level is a multiple of four
aligned : (avps : List PlainAvp) (bytes : List ℕ) → SpellsAll avps bytes → length bytes % 4 ≡ 0
aligned [] bytes h = let none = ap length h in omega (arith, none)
aligned (v ∷ avps) bytes (front, rest, s, parts, later) =
    let here = s.aligned in
    let following = aligned avps rest later in
    omega (arith, ap length parts, length-append front rest, here, following)

-- so it is 8 where it is less than 12, and the level isn't empty
eight : (avps : List PlainAvp) (bytes : List ℕ) → SpellsAll avps bytes → 0 < length bytes → length bytes < 12 → length bytes ≡ 8
eight avps bytes h some less = by (level_long avps bytes h) (aligned avps bytes h)
  where
    by : (bytes ≡ []) ⊎ (8 ≤ length bytes) → length bytes % 4 ≡ 0 → length bytes ≡ 8
    by (inl e) four = let none = ap length e in absurd (omega (arith, none, some))
    by (inr long) four = omega (arith, long, less, four)

is_leaf : (format : PlainFormat) → HasEightBytes format → (bytes : List ℕ) → length bytes ≡ 8 → IsLeaf format bytes
is_leaf (EightBytes name) has bytes e = e
is_leaf format has bytes e = absurd has

pub short_accepted : ShortLevelsAreAccepted
short_accepted da db who u key bytes (group, (e, known_e, leaf, has)) sent some less =
    let (x, is) = some_of (group_of da key) group in
    let (n, (avps, spelled, stand, fit)) = level_of da who key bytes x is sent in
    subst (λ (o : Option DictEntry). MatchOption o ⊤ (λ y. MatchOption y.group (IsLeaf y.format bytes) (λ group. (n : ℕ) × IsLevel (Fits db u n) group.rules bytes))) (sym known_e)
    (subst (λ (o : Option PlainDefinition). MatchOption o (IsLeaf e.format bytes) (λ group. (n : ℕ) × IsLevel (Fits db u n) group.rules bytes)) (sym leaf)
    (is_leaf e.format has bytes (eight avps bytes spelled some less)))
