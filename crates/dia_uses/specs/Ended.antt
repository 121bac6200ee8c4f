-- The answer of lines.
use Rattle.std.specs.Prelude.{◌≡◌, ℕ, ◌<◌, Bool, List, [], length}
use Rattle.dia_io.specs.declared.Exit.{Exit}
use Rattle.dia_io.specs.declared.Exit.TheVariants as exits
use Rattle.dia_wire.specs.declared.Key.{Key}
use Rattle.dia_dict.specs.Dictionary.{Dictionary}
use Rattle.dia_uses.specs.Outcome.{AreLines, HaveNoPlace, HaveSomePlace, nowhere_text}

-- the lines, or the line where there is none
abbrev pub IsEnded : Bool → List ℕ → Exit → List ℕ → Type 0
IsEnded json lines exits.Yes text = (text ≡ lines) × (0 < length lines)
IsEnded json lines exits.No text = (text ≡ nowhere_text json) × (lines ≡ [])
IsEnded json lines exits.Bad text = ⊥

-- the answer for AVPs of these keys
abbrev pub IsListed : Bool → Dictionary → List Key → Exit → List ℕ → Type 0
IsListed json d keys exits.Yes text = HaveSomePlace d keys × AreLines json d keys text
IsListed json d keys exits.No text = HaveNoPlace d keys × (text ≡ nowhere_text json)
IsListed json d keys exits.Bad text = ⊥
