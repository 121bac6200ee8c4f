-- Lines that are answered from a feed into a sink. P says which verdict a line has, and text what is written for verdicts.
use Rattle.std.specs.Prelude.{◌≡◌, ℕ, ◌⊎◌, List, [], ◌++◌, Option, Some}
use Rattle.std.specs.Io.KnownBytes.{Appends, Consumes, IsAtEnd}
use Rattle.dia_io.specs.declared.Input.{Input}
use Rattle.dia_io.specs.Writing.{AppendsFront}
use Rattle.dia_streams.specs.Lines.{AreAnswered, IsAnswered}

-- how many pieces can be counted
abbrev pub most_pieces : ℕ
most_pieces = 18446744073709551615

-- what watches saw these verdicts after those before
abbrev pub Sees : {W V : Type 0} → (W → List V → Type 0) → (old now : W) → List V → Type 0
Sees {W} {V} saw old now verdicts = (before : List V) → saw old before → saw now (before ++ verdicts)

-- all that the feed gave was answered
pub record AllAnswered {V W : Type 0} (P : Input → V → Type 0) (text : List V → List ℕ) (saw : W → List V → Type 0)
    (fed_old fed put_old put : Option (List ℕ)) (watch_old watch : W) : Type 0 where
  pub bytes : List ℕ
  pub verdicts : List V
  pub consumed : Consumes fed_old fed bytes
  pub answered : IsAnswered P bytes verdicts
  pub is_put : Appends put_old put (text verdicts)
  pub seen : Sees saw watch_old watch verdicts

-- whole lines at the front of what was read were answered, and nothing else was put
pub record LinesAnswered {V : Type 0} (P : Input → V → Type 0) (text : List V → List ℕ) (fed_old fed put_old put : Option (List ℕ)) : Type 0 where
  pub lines : List ℕ
  pub rest : List ℕ
  pub verdicts : List V
  pub consumed : Consumes fed_old fed (lines ++ rest)
  pub answered : AreAnswered P lines verdicts
  pub is_put : Appends put_old put (text verdicts)

-- what was put is a prefix of the answers: of whole lines at the front of what was read, or, at the end of the feed, of all lines
pub record FrontAnswered {V : Type 0} (P : Input → V → Type 0) (text : List V → List ℕ) (fed_old fed put_old put : Option (List ℕ)) : Type 0 where
  pub front : List ℕ
  pub rest : List ℕ
  pub verdicts : List V
  pub consumed : Consumes fed_old fed (front ++ rest)
  pub answered : AreAnswered P front verdicts ⊎ (IsAtEnd fed × (rest ≡ []) × IsAnswered P front verdicts)
  pub is_put : AppendsFront put_old put (text verdicts)

-- what was put of the answers is a prefix of the whole text
abbrev pub FrontIsBeginning : {V : Type 0} → (Input → V → Type 0) → (List V → List ℕ) → Type 0
FrontIsBeginning {V} P text = (bytes left before now : List ℕ) (verdicts : List V) → FrontAnswered P text (Some bytes) (Some left) (Some before) (Some now)
    → IsAnswered P bytes verdicts → (put : List ℕ) × (rest : List ℕ) × (now ≡ before ++ put) × (text verdicts ≡ put ++ rest)
