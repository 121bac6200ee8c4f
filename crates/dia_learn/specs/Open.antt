-- Levels that have to be read yet.
use Rattle.std.specs.Prelude.{ℕ, List, Option, unwrap_or}
use Rattle.std.specs.Option.{option_map}
use Rattle.indexmap.specs.IndexMap.{IndexMap, get}
use Rattle.dia_wire.specs.declared.Key.{Key}
use Rattle.dia_wire.specs.Wire.{PlainAvp}
use Rattle.dia_book.specs.Keys.{same_key}
use Rattle.dia_book.specs.Dictionary.{Dictionary}
use Rattle.dia_learn.specs.declared.place.Place.{Place}
use Rattle.dia_learn.specs.declared.taking.Level.{Level}
use Rattle.dia_learn.specs.Levels.{group_number, of_group}

-- a level that has to be read, as its bytes
abbrev pub plain_open : Level → Place × List ℕ
plain_open level = (level.place, level.bytes.now)

-- the level that a group is
abbrev pub group_in : Dictionary → PlainAvp → Option (Place × List ℕ)
group_in d v = option_map (λ def. (of_group def, v.bytes)) (group_number d v)

-- how many of the key were counted
abbrev pub count_in : {S : Type 0} → IndexMap Key ℕ S → Key → ℕ
count_in counts k = unwrap_or (get same_key counts k) 0
