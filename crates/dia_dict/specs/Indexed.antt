-- What the maps of an indexed book hold, of the lists that it looks up.
use Rattle.std.specs.Prelude.{◌≡◌, ◌+◌, ℕ, List, length, Option, Some, position, slice_get, unwrap_or, Bool}
use Rattle.std.specs.Option.{option_map}
use Rattle.indexmap.specs.IndexMap.{IndexMap, get}
use Rattle.dia_wire.specs.declared.Key.{Key}
use Rattle.dia_book.specs.declared.Definition.{Definition}
use Rattle.dia_book.specs.declared.Slot.{Slot}
use Rattle.dia_book.specs.declared.Slot.TheVariants.{Unlisted}
use Rattle.dia_book.specs.declared.Class.{Class}
use Rattle.dia_book.specs.Dictionary.{slot_of, is_command}
use Rattle.dia_book.specs.Keys.{same_key}
use Rattle.dia_dict.specs.declared.entry_list.Row.{Row}
use Rattle.dia_dict.specs.declared.hashing.Hashing.{Hashing}
use Rattle.dia_dict.specs.declared.key_map.KeyMap.{KeyMap}
use Rattle.dia_dict.specs.declared.plain_book.PlainBook.{PlainBook}
use Rattle.dia_dict.specs.declared.selectors.Selector.{Selector}
use Rattle.dia_dict.specs.Selectors.{selector_of}

-- the entries by their keys
abbrev pub AreEntries : KeyMap ℕ → List Row → Type 0
AreEntries entries rows = (key : Key) → get same_key entries.map key ≡ position (λ row. same_key key row.key) rows

-- the place of a selector's command, by an equality of selectors
abbrev pub command_place : (Selector → Selector → Bool) → List Definition → Selector → Option ℕ
command_place eq commands selector = position (λ d. eq selector (selector_of d.head)) commands

-- the numbers of commands by what they are for, where the groups are numbered first
abbrev pub AreCommands : (Selector → Selector → Bool) → IndexMap Selector ℕ Hashing → ℕ → List Definition → Type 0
AreCommands eq selected groups commands = (selector : Selector) → get eq selected selector ≡ option_map (λ i. groups + i) (command_place eq commands selector)

-- the number of the command of this code and class, and of this application or none
abbrev pub command_number : PlainBook → ℕ → Class → Option ℕ → Option ℕ
command_number book code class app = option_map (λ i. length book.entries.groups.items + i) (position (λ d. is_command code class app d.head) book.commands.items)

-- the slots of a definition's keys
abbrev pub AreSlots : KeyMap Slot → Definition → Type 0
AreSlots slots d = (key : Key) → unwrap_or (get same_key slots.map key) Unlisted ≡ slot_of d.rules.items key

-- those of each definition
abbrev pub AreSlotsOfEach : List (KeyMap Slot) → List Definition → Type 0
AreSlotsOfEach all ds = (length all ≡ length ds)
    × ((i : ℕ) (slots : KeyMap Slot) (d : Definition) → slice_get all i ≡ Some slots → slice_get ds i ≡ Some d → AreSlots slots d)
