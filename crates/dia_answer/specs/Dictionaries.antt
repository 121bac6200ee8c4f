-- Dictionaries that differ from one in how they read Failed-AVP, or in their commands.
use Rattle.std.specs.Prelude.{ℕ, zero, suc, ◌-◌, nat_lt, nat_le, if◌then◌else◌, List, [], ◌∷◌, Option, Some, None, codes}
use Rattle.std.specs.Option.{option_and_then}
use Rattle.dia_wire.specs.declared.Key.{Key}
use Rattle.dia_data.specs.Plain.{AnyBytes, OctetString}
use Rattle.dia_book.specs.declared.DRule.{DRule}
use Rattle.dia_book.specs.declared.DefHead.TheVariants.{Error}
use Rattle.dia_book.specs.declared.Pxy.TheVariants.{Either}
use Rattle.dia_book.specs.declared.RuleKind.TheVariants.{Optional}
use Rattle.dia_book.specs.Dictionary.{Dictionary, DictEntry, PlainDefinition, entry_of, group_place}

-- the key of an AVP of the base protocol, which has no Vendor-ID
abbrev pub base_key : ℕ → Key
base_key code = record { code = code; vendor = 0 }

-- the AVP whose data may be AVPs that don't fit the dictionary (RFC 6733 section 7.5)
abbrev pub failed_avp : Key
failed_avp = base_key 279

-- an entry as OctetString, if it is Grouped
abbrev pub as_octets : DictEntry → DictEntry
as_octets e = record { name = e.name; key = e.key; format = AnyBytes OctetString; rule = e.rule; group = None }

-- the same of the entry at a place
abbrev pub octets_at : ℕ → List DictEntry → List DictEntry
octets_at n [] = []
octets_at zero (e ∷ es) = as_octets e ∷ es
octets_at (suc n) (e ∷ es) = e ∷ octets_at n es

-- where Failed-AVP is, if it is Grouped: its entry and its definition
abbrev pub grouped_failed : Dictionary → Option (ℕ × ℕ)
grouped_failed d = option_and_then (λ e. option_and_then (λ g. Some (e, g)) (group_place d e)) (entry_of d failed_avp)

-- the dictionary with Failed-AVP as OctetString, if it is Grouped
abbrev pub opaque_at : Dictionary → Option (ℕ × ℕ) → Dictionary
opaque_at d None = d
opaque_at d (Some place) = record { entries = octets_at place.0 d.entries; commands = d.commands }

abbrev pub opaque : Dictionary → Dictionary
opaque d = opaque_at d (grouped_failed d)

-- the number of a definition where the one numbered j is left out, and back
abbrev pub lowered : ℕ → ℕ → ℕ
lowered j n = if nat_lt j n then n - 1 else n

abbrev pub raised : ℕ → ℕ → ℕ
raised j n = if nat_le j n then suc n else n

-- one command, for all error messages, which may hold any AVPs
abbrev pub any_rule : DRule
any_rule = record { kind = Optional; key = None; min = 0; max = None }

abbrev pub any_command : PlainDefinition
any_command = record { name = codes "Any"; head = Error Either; rules = any_rule ∷ [] }

-- the AVPs of a dictionary, with this command alone
abbrev pub alone : Dictionary → Dictionary
alone d = record { entries = d.entries; commands = any_command ∷ [] }
