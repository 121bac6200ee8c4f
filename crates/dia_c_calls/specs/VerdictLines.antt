-- The verdict on a message as a line of JSON.
use Rattle.std.specs.Prelude.{◌≡◌, ℕ, List}
use Rattle.dia_terms.specs.declared.Unknown.{Unknown}
use Rattle.dia_terms.specs.declared.Levels.{Levels}
use Rattle.dia_book.specs.Dictionary.{Dictionary}
use Rattle.dia_captures.specs.declared.Checked.{Checked}
use Rattle.dia_captures.specs.Verdicts.{IsMessageChecked}
use Rattle.dia_json.specs.Values.{checked_json}

-- the line that `diacmd check --json` writes of the bytes of a message
abbrev pub IsVerdictLine : Dictionary → Unknown → Levels → List ℕ → List ℕ → Type 0
IsVerdictLine d u most bytes text = (verdict : Checked) × IsMessageChecked u most d bytes verdict × (text ≡ checked_json d verdict)
