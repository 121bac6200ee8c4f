-- A check of a body under way: the rest of the levels that are open, and what of them is owed.
use Rattle.std.specs.Prelude.{◌≡◌, ℕ, suc, ◌+◌, ◌*◌, ◌/◌, ◌%◌, ◌≤◌, ◌⊎◌, List, [], ◌∷◌, length, map, Option, Some, None}
use Rattle.dia_wire.specs.Wire.{key_of, SpellsAll}
use Rattle.dia_book.specs.Dictionary.{Dictionary, definitions}
use Rattle.dia_terms.specs.declared.Unknown.{Unknown}
use Rattle.dia_terms.specs.declared.Levels.{Levels}
use Rattle.dia_check.specs.declared.open_levels.OpenLevels.{OpenLevels}
use Rattle.dia_check.specs.Levels.{IsOpen, between}
use Rattle.dia_check.specs.Faults.{HasGoodHeader}
use Rattle.dia_check.specs.OpenLevels.{SoFar, AreOpen}
use Rattle.dia_check.specs.Walks.{Found, Rest, Walks, whole}

-- what is met of a level so far
abbrev pub so_far : Rest → SoFar
so_far r = record { rules = r.level.rules; end = r.level.end; keys = map key_of r.earlier }

-- what is owed of the levels that are open: the innermost first, and then the rest of those round it
abbrev pub Owes : Dictionary → Unknown → Levels → List Rest → Rest → Option Found → Type 0
Owes d u most [] s f = Walks d u most s f
Owes d u most (r ∷ rs) s f = (Owes d u most rs s None × Walks d u most r f) ⊎ ((g : Found) × Owes d u most rs s (Some g) × (f ≡ Some g))

-- the rest of a level lies in the message
pub record Lies (d : Dictionary) (u : Unknown) (most : Levels) (bytes : List ℕ) (good : HasGoodHeader d bytes) (s : Rest) : Type 0 where
  pub open_level : IsOpen d most bytes s.level
  pub from : s.level.start ≤ s.at
  pub before : SpellsAll s.earlier (between bytes s.level.start s.at)
  pub here : between bytes s.at s.level.end ≡ s.bytes
  pub size : s.at + length s.bytes ≡ s.level.end
  pub within : s.level.end ≤ length bytes

-- the rest of a level of this depth, after whose end the level round it goes on at a place
pub record IsRestAt (d : Dictionary) (u : Unknown) (most : Levels) (bytes : List ℕ) (good : HasGoodHeader d bytes) (depth next : ℕ) (r : Rest) : Type 0 where
  pub lies : Lies d u most bytes good r
  pub deep : r.level.depth ≡ depth
  pub ends : (r.level.end + 3) / 4 * 4 ≡ next
  pub aligned : r.at % 4 ≡ 0
  pub few : 8 * length r.earlier ≤ r.at

-- the levels from the outermost to the innermost
abbrev pub AreNested : (d : Dictionary) (u : Unknown) (most : Levels) (bytes : List ℕ) → HasGoodHeader d bytes → ℕ → ℕ → List Rest → Rest → Type 0
AreNested d u most bytes good depth next [] s = IsRestAt d u most bytes good depth next s
AreNested d u most bytes good depth next (r ∷ rs) s = IsRestAt d u most bytes good depth next r × AreNested d u most bytes good (suc depth) r.at rs s

-- what is owed of the levels that are open, with this place reached, is owed of the whole body
pub record IsUnderWay (d : Dictionary) (u : Unknown) (most : Levels) (bytes : List ℕ) (good : HasGoodHeader d bytes) (open_levels : OpenLevels) (at : ℕ) : Type 0 where
  pub rests : List Rest
  pub s : Rest
  pub occurs : AreOpen (definitions d) open_levels (map so_far rests) (so_far s)
  pub nested : AreNested d u most bytes good 0 ((length bytes + 3) / 4 * 4) rests s
  pub here : s.at ≡ at
  pub goes_on : (f : Option Found) → Owes d u most rests s f → Walks d u most (whole good.command.rules bytes) f
