-- AVPs in which both dictionaries see a level, and AVPs whose data the receiver accepts.
use Rattle.std.specs.Prelude.{IsSome}
use Rattle.dia_wire.specs.declared.Key.{Key}
use Rattle.dia_book.specs.Dictionary.{Dictionary}
use Rattle.dia_terms.specs.declared.Unknown.{Unknown}
use Rattle.dia_terms.specs.declared.Sends.{Sends}
use Rattle.dia_breaking_avps.specs.Sent.{group_of, AreAccepted, IsAcceptedData, IsSentData}
use Rattle.dia_breaking_avps.specs.Breaks.{TakesLevels}

-- both dictionaries see a level in AVPs of the key
abbrev pub AreGroups : Dictionary → Dictionary → Key → Type 0
AreGroups da db key = IsSome (group_of da key) × IsSome (group_of db key)

-- B accepts all data of AVPs of the key that A's side sends; and where A sees levels in them, B accepts any data, or each level
-- is an Address of B's
abbrev pub IsDataTaken : Dictionary → Dictionary → Sends → Unknown → Key → Type 0
IsDataTaken da db who u key = AreAccepted (IsSentData da who key) (IsAcceptedData db u key) × (IsSome (group_of da key) → TakesLevels da db who key)
