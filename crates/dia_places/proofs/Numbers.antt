-- The numbers of definitions.
use Rattle.std.proofs.Common.{◌≡◌, ℕ, ◌<◌, ◌≤◌, Bool, true, false, cond, length, Option, Some, None, arith}
use Rattle.std.specs.Prelude.{option_and_then}
use Rattle.std.proofs.lemmas.List.{length-append}
use Rattle.std.proofs.lemmas.Option.{none-some, option_and_then_some}
use Rattle.dia_wire.specs.declared.Key.{Key}
use Rattle.dia_book.specs.declared.definition.DRule.{DRule}
use Rattle.dia_book.specs.Limits.{max_parts}
use Rattle.dia_book.specs.Dictionary.{Dictionary, DictEntry, IsDictionary, definitions, entry_of, group_place, groups}
use Rattle.dia_book.proofs.Lists.{length-filter_map}
use Rattle.dia_valid.proofs.GroupNumbers.{group_within}
use Rattle.dia_valid.proofs.Members.{at_some}
use Rattle.dia_places.specs.Paths.{IsCommand, LeadsTo, allows}

pub command_within : (d : Dictionary) (n : ℕ) → IsCommand d n → n < length (definitions d)
command_within d n c = omega (arith, c.1, c.2, length-append (groups d) d.commands)

key_within : (d : Dictionary) (o : Option Key) (n : ℕ) → option_and_then (λ key. option_and_then (group_place d) (entry_of d key)) o ≡ Some n → n < length (definitions d)
key_within d o n e =
    option_and_then_some (λ key. option_and_then (group_place d) (entry_of d key)) o n e (λ key some at.
    option_and_then_some (group_place d) (entry_of d key) n at (λ i here is. at_some (λ (m : ℕ). m < length (definitions d)) (group_place d i) n (group_within d i) is))

rule_within : (d : Dictionary) (rule : DRule) (n : ℕ) (b : Bool) → cond b (option_and_then (λ key. option_and_then (group_place d) (entry_of d key)) rule.key) None ≡ Some n
    → n < length (definitions d)
rule_within d rule n true e = key_within d rule.key n e
rule_within d rule n false e = absurd (none-some n e)

pub leads_within : (d : Dictionary) (m n : ℕ) → LeadsTo d m n → n < length (definitions d)
leads_within d m n leads = rule_within d leads.0 n (allows leads.0) leads.2

-- a dictionary has few definitions
pub small : (d : Dictionary) → IsDictionary d → length (definitions d) ≤ max_parts
small d sound = omega (arith, sound.few, length-append (groups d) d.commands, length-filter_map (λ (x : DictEntry). x.group) d.entries)
