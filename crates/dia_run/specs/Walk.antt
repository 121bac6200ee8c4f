-- The texts of rows, as a walk over a message adds them.
use Rattle.std.specs.Prelude.{◌≡◌, ℕ, Bool, List, ◌++◌}
use Rattle.std.specs.List.{concat}
use Rattle.dia_wire.specs.Wire.{PlainAvp}
use Rattle.dia_data.specs.Plain.{plain_format}
use Rattle.dia_dict.specs.Dictionary.{Dictionary}
use Rattle.dia_run.specs.declared.row_writer.Known.{Known}
use Rattle.dia_run.specs.Rows.{AreRows, AreWritten, Level, PlainKnown, Row, is_group, known_avp, of_avp}

abbrev pub plain_known : Known → PlainKnown
plain_known known = record { name = known.name.now; format = plain_format known.format.now }

-- a text that P allows was added
abbrev pub Adds : (List ℕ → Type 0) → List ℕ → List ℕ → Type 0
Adds P old new = (added : List ℕ) × P added × (new ≡ old ++ added)

-- the row of an AVP was added, and whether the AVP is a group
abbrev pub AddsAvp : (Row → List ℕ → Type 0) → Dictionary → ℕ → ℕ → PlainAvp → List ℕ → List ℕ → Bool → Type 0
AddsAvp P d place depth v old new grouped = (grouped ≡ is_group (known_avp d v)) × Adds (P (of_avp place depth v (known_avp d v))) old new

-- the rows of a level were added, and whether they end at a bad length
abbrev pub AddsLevel : (Row → List ℕ → Type 0) → Dictionary → Level → List ℕ → List ℕ → Bool → Type 0
AddsLevel P d level old new bad =
    (rows : List Row) × (texts : List (List ℕ)) × AreRows d level rows bad × AreWritten P rows texts × (new ≡ old ++ concat texts)
