-- The keys of levels that A's side sends.
use Rattle.std.specs.Prelude.{ℕ, ◌≤◌, List}
use Rattle.dia_wire.specs.declared.Key.{Key}
use Rattle.dia_book.specs.declared.DRule.{DRule}
use Rattle.dia_terms.specs.declared.Sends.{Sends}
use Rattle.dia_breaking_sites.specs.Sent.{StandAsSent}
use Rattle.dia_breaking_shortest.specs.Floors.{total}

-- the keys are those of a level that can be sent, and that has room, where no AVP of a key is below its length
abbrev pub IsSentKeys : Sends → (Key → ℕ) → List DRule → ℕ → List Key → Type 0
IsSentKeys who length rules room keys = StandAsSent who rules keys × (total length keys ≤ room)
