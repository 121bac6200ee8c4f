-- The faults of a dictionary's text.
use Rattle.std.specs.Prelude.{◌≡◌, ℕ, List, [], length, take, min, Option, Some, None, string_bytes}
use Rattle.dia_c_calls.specs.declared.findings.TextFault.{TextFault}
use Rattle.dia_c_calls.specs.declared.recorded_fault.RecordedFault.{RecordedFault}

-- a fault: the number of its kind, its token, its offset in bytes, and the names of a definition or an AVP and of the AVP of a rule
pub record PlainFault : Type 0 where
  pub kind : ℕ
  pub token : ℕ
  pub at : Option ℕ
  pub name : List ℕ
  pub slot : List ℕ

abbrev pub plain_fault : TextFault → PlainFault
plain_fault f = record { kind = f.kind; token = f.token; at = f.at; name = string_bytes f.name; slot = string_bytes f.slot }

-- a fault without names
abbrev pub nameless : ℕ → ℕ → Option ℕ → PlainFault
nameless kind token at = record { kind = kind; token = token; at = at; name = []; slot = [] }

-- a place as C has it: whether there is one, and where
abbrev pub IsRecordedPlace : Option ℕ → ℕ → ℕ → Type 0
IsRecordedPlace None has_place at = (has_place ≡ 0) × (at ≡ 0)
IsRecordedPlace (Some place) has_place at = (has_place ≡ 1) × (at ≡ place)

-- a name as C has it: its first 128 bytes at most, and how many these are
abbrev pub IsRecordedName : List ℕ → ℕ → List ℕ → Type 0
IsRecordedName name count bytes = (count ≡ min (length name) 128) × (take count bytes ≡ take count name)

-- a fault as C has it
abbrev pub IsRecordedFault : PlainFault → RecordedFault → Type 0
IsRecordedFault f recorded = (recorded.kind ≡ f.kind) × (recorded.token ≡ f.token) × IsRecordedPlace f.at recorded.has_place recorded.at × IsRecordedName f.name recorded.name_count recorded.name
    × IsRecordedName f.slot recorded.slot_count recorded.slot
