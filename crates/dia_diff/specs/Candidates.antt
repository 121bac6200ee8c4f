-- The lists of subjects from which a line of `breaking`, or that AVPs are ignored, can come: from the first of which some difference is
-- about one.
use Rattle.std.specs.Prelude.{ℕ, List, [], ◌∷◌, ◌++◌, Option, Some, None}
use Rattle.std.specs.Option.{option_map_or}
use Rattle.dia_wire.specs.declared.Key.{Key}
use Rattle.dia_book.specs.Dictionary.{Dictionary, entry_of}
use Rattle.dia_breaking_levels.specs.declared.line.Line.{Line as LevelLine}
use Rattle.dia_differences.specs.declared.lines.AvpField.TheVariants as avps
use Rattle.dia_differences.specs.declared.lines.HeadField.{HeadField}
use Rattle.dia_differences.specs.declared.owner.Owner.{Owner}
use Rattle.dia_differences.specs.declared.sides.Side.{Side}
use Rattle.dia_differences.specs.Lines.{place_of}
use Rattle.dia_differences.specs.Matching.{listed_at}
use Rattle.dia_differences.specs.Owners.{rules_of}
use Rattle.dia_differences.specs.Sides.{other_side}
use Rattle.dia_diff.specs.declared.candidates.Part.{Part}
use Rattle.dia_diff.specs.declared.candidates.Part.TheVariants as parts
use Rattle.dia_diff.specs.declared.origins.Origin.{Origin}
use Rattle.dia_diff.specs.declared.origins.Origin.TheVariants as origins
use Rattle.dia_diff.specs.declared.subjects.Subject.{Subject}
use Rattle.dia_diff.specs.declared.subjects.Subject.TheVariants.{Avp, AloneAvp, AvpField as FieldOfAvp, Command, HeadField as FieldOfHead, Rule, Rules}
use Rattle.dia_diff.specs.Origins.{Route}

-- ---- parts

-- of the command or the AVP at a place
abbrev pub part_at : Part → Side → ℕ → List Subject
part_at parts.Command side i = Command side i ∷ []
part_at (parts.HeadField field) side i = FieldOfHead side i field ∷ []
part_at parts.Avp side i = Avp side i ∷ []
part_at parts.Key side i = FieldOfAvp side i avps.Code ∷ FieldOfAvp side i avps.Vendor ∷ []
part_at (parts.Change field) side i = AloneAvp side i ∷ FieldOfAvp side i field ∷ FieldOfAvp side i avps.Code ∷ FieldOfAvp side i avps.Vendor ∷ []

-- of the sender's and of the receiver's, where there are such
abbrev pub part_of : Part → Side → Option ℕ → Option ℕ → List Subject
part_of part side own other = option_map_or (part_at part side) own [] ++ option_map_or (part_at part (other_side side)) other []

-- ---- rules

-- of a definition, the rule for a key
abbrev pub rule_for : Dictionary → Side → Owner → Option Key → List Subject
rule_for d side of key = option_map_or (λ i. Rule side (place_of of i) ∷ []) (listed_at key (rules_of d of)) []

-- those that a line names: for its key, and for the key that precedes
abbrev pub named_rules : Dictionary → Side → Owner → LevelLine → List Subject
named_rules d side of line = rule_for d side of line.key ++ option_map_or (λ key. rule_for d side of (Some key)) line.following []

-- ---- lists

abbrev pub of_header : Side → ℕ → Option ℕ → Option HeadField → List (List Subject)
of_header side own other field = option_map_or (λ f. part_of (parts.HeadField f) side (Some own) other) field [] ∷ part_of parts.Command side (Some own) other ∷ []

-- the place of the AVP of a key, if there is one
abbrev pub entry_for : Dictionary → Option Key → Option ℕ
entry_for d None = None
entry_for d (Some key) = entry_of d key

-- of the AVP of a key
abbrev pub of_avp : Route → Part → Option Key → List Subject
of_avp r part key = part_of part r.side (entry_for r.between.sender key) (entry_for r.between.receiver key)

abbrev pub of_level : Route → Owner → Owner → LevelLine → List (List Subject)
of_level r own other line =
    (named_rules r.between.sender r.side own line ++ named_rules r.between.receiver (other_side r.side) other line)
    ∷ of_avp r parts.Key line.key ∷ (Rules r.side own ∷ Rules (other_side r.side) other ∷ []) ∷ of_avp r parts.Avp line.key ∷ []

-- of the AVPs of a key that the receiver ignores
abbrev pub of_ignored : Route → Owner → Owner → Key → List (List Subject)
of_ignored r own other key =
    of_avp r parts.Key (Some key) ∷ rule_for r.between.sender r.side own (Some key) ∷ (Rules r.side own ∷ Rules (other_side r.side) other ∷ []) ∷ []

abbrev pub candidates : Route → Origin → List (List Subject)
candidates r (origins.Header own other field) = of_header r.side own other field
candidates r (origins.Avp key field) = of_avp r (parts.Change field) (Some key) ∷ of_avp r parts.Avp (Some key) ∷ []
candidates r (origins.Level own other line) = of_level r own other line
candidates r (origins.Ignored own other key) = of_ignored r own other key
